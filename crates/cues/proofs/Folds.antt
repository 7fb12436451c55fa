-- The index is a sound fold, so that every law of crates/folding holds of it; and a step that writes tells the fold of its bytes.
use mathlib.Core.Path.{refl, ap, sym, ◌∙◌}
use mathlib.Core.List.{List, [], ◌++◌, append_assoc, append-nil}
use Prim.Native.Nat.{ℕ, ◌+◌}
use Rattle.folding.specs.Folding.{Sound, OwnBytes}
use Rattle.folding.specs.Walks.{TellsFold}
use Rattle.folding.proofs.Frames.{alone, sound}
use Rattle.cues.specs.Cues.{recorded, entry_adds, indexing, index, IndexStep}
use Rattle.cues.proofs.Steps.{stepped}

pub indexing-sound : Sound indexing
indexing-sound = sound recorded entry_adds [] (λ a b. a ++ b) append_assoc (λ a. refl) append-nil

-- a frame is accepted by its own bytes
pub indexing-own : OwnBytes indexing
indexing-own = alone recorded entry_adds

pub step-tells : TellsFold indexing IndexStep
step-tells base l written used why p = (stepped p.3).is ∙ ap (λ (w : List ℕ). index w (base + used) why) (sym p.4)
