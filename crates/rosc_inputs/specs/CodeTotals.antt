-- Describes code, and no part of the document: what the first reading of a whole input answers. It writes nothing.
use Rattle.std.specs.Prelude.{Bool, true, false, cond, ℕ, ◌+◌, ◌-◌, ◌≤◌, leb, Err, None, Some}
use Rattle.refusal.specs.declared.Refusal.TheVariants.{Unreadable}
use Rattle.node.specs.Forest.{Forest, size, depth}
use Rattle.node.specs.declared.record.Item.{Item}
use Rattle.measure.specs.CodeMeasure.{extent}
use Rattle.measure.specs.Results.{Extent}
use Rattle.rosc_inputs.specs.Results.{FrameExtent, Total}
use Rattle.measure.specs.Results as extents
use Rattle.rosc_inputs.specs.Results as total
use Rattle.framing.specs.Framing.{Whole, trees, waiting, refusal, stopped, Frame, wait, read, refused}

-- the first reading of a frame of edition 1, which refuses no frame of its own
abbrev pub frame_extent : ℕ → (Item → Forest → ℕ) → Frame → FrameExtent
frame_extent limit dirt wait = None
frame_extent limit dirt (read o) = Some (extent limit 0 dirt o)
frame_extent limit dirt (refused k) = None

-- the first reading of a whole input: 9 speaks of all the trees, and so does the dirt
abbrev pub total_of : ℕ → (Forest → ℕ) → Whole → Total
total_of limit dirt (refusal k) = Err k
total_of limit dirt waiting = total.Waiting
total_of limit dirt (trees f left) = cond (leb (depth f) limit) (total.Trees (size f) left (dirt f)) total.Deep
total_of limit dirt (stopped f left k at) = cond (leb (depth f) limit) (total.Stopped (size f) left (dirt f) k at) total.Deep

-- a packet of n bytes of input ends among them
abbrev pub EndsIn : ℕ → Extent → Type 0
EndsIn n (extents.Tree count next dirty) = next ≤ n
EndsIn n (extents.Deep next) = Unit {0}
EndsIn n (Err k) = Unit {0}

-- the total of one packet of n bytes of input
abbrev pub total_of_one : ℕ → Extent → Total
total_of_one n (extents.Tree count next dirty) = total.Trees count (n - next) dirty
total_of_one n (extents.Deep next) = total.Deep
total_of_one n (Err k) = Err (Unreadable k)

-- frames before others: so many records and so much dirt, one of them too deep or none
abbrev pub added : ℕ → ℕ → Bool → Total → Total
added n dirt true (total.Trees m left dirty) = total.Deep
added n dirt false (total.Trees m left dirty) = total.Trees (n + m) left (dirt + dirty)
added n dirt deep total.Deep = total.Deep
added n dirt deep total.Waiting = total.Waiting
added n dirt deep (Err k) = Err k
added n dirt true (total.Stopped m left dirty k at) = total.Deep
added n dirt false (total.Stopped m left dirty k at) = total.Stopped (n + m) left (dirt + dirty) k at
