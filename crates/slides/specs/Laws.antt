-- What a slide promises: document 02, Ticket 13.
use Rattle.std.specs.Prelude.{◌≡◌, ◌⊎◌, List, ℕ, ◌-◌, ◌<◌, length, get_or, take, drop}
use Rattle.clock.specs.Shift.{shifted}
use Rattle.node.specs.Forest.{Forest, nil, node}
use Rattle.node.specs.declared.record.Item.{Item}
use Rattle.text.specs.Text.{non_zero}
use Rattle.argument.specs.Dirt.{kept_padding}
use Rattle.results.specs.declared.End.{End}
use Rattle.results.specs.declared.End.TheVariants as end
use Rattle.packet.specs.Packet.{one}
use Rattle.framing.specs.Framing.{read, cut_frame}
use Rattle.wire.specs.Limits.{longest}
use Rattle.folding.specs.Folding.{folded, AnyBuffers}
use Rattle.folding.specs.Walks.{MayContinue}
use Rattle.cues.specs.Cues.{index_of}
use Rattle.slides.specs.Slides.{slid_item, slid_forest, slid_bytes, InTime, sliding, slide_of}

-- every number of a list is one of a byte
abbrev pub AreBytes : List ℕ → Type 0
AreBytes l = (i : ℕ) → get_or l i 0 < 256

-- a frame after a slide, by the tree it had: it is read as the same tree with its time tags shifted, and takes as many bytes; "its bytes
-- differ in tags alone", and as many padding bytes are not zero (Ticket 8)
pub record SlidFrame (limit by : ℕ) (l : List ℕ) (item : Item) (inside : Forest) (used : ℕ) (after : List ℕ) : Type 0 where
  pub reads : cut_frame limit 0 after ≡ read (one (slid_item by item) (slid_forest by inside) used)
  pub long : length after ≡ length l
  pub only : (i : ℕ) → InTime i (node item inside nil) ⊎ (get_or after i 0 ≡ get_or l i 0)
  pub dirt : non_zero (kept_padding 0 after (node (slid_item by item) (slid_forest by inside) nil))
      ≡ non_zero (kept_padding 0 l (node item inside nil))

-- every frame that is accepted slides so
abbrev pub FrameSlides : Type 0
FrameSlides =
    (limit by : ℕ) (l : List ℕ) (item : Item) (inside : Forest) (used : ℕ) → AreBytes l → cut_frame limit 0 l ≡ read (one item inside used)
    → SlidFrame limit by l item inside used (slid_bytes by (node item inside nil) l)

-- "a recording of the same length": as many bytes as were read
abbrev pub SameLong : Type 0
SameLong = (by base : ℕ) (l w : List ℕ) (at : ℕ) (why : End) → slide_of by base l ≡ folded w at why → length w ≡ at - base

-- "it stops at the first frame not accepted and says where, as `index` does"
abbrev pub StopsAsIndex : Type 0
StopsAsIndex =
    (by base : ℕ) (l w : List ℕ) (at : ℕ) (why : End) → slide_of by base l ≡ folded w at why
    → (i : List ℕ) × (index_of base l ≡ folded i at why)

-- "shifted back it is the old one byte for byte": by x and then by its opposite, of what was read
abbrev pub ThereAndBack : Type 0
ThereAndBack =
    (x y base : ℕ) (l w : List ℕ) (at : ℕ) (why : End) → AreBytes l → shifted x y ≡ 0 → slide_of x base l ≡ folded w at why
    → slide_of y base w ≡ folded (take (at - base) l) at end.Whole

-- by zero nothing changes
abbrev pub SlideByZero : Type 0
SlideByZero = (base : ℕ) (l w : List ℕ) (at : ℕ) (why : End) → AreBytes l → slide_of 0 base l ≡ folded w at why → w ≡ take (at - base) l

-- the index of a slid recording is that of what was read
abbrev pub SameCues : Type 0
SameCues =
    (by base : ℕ) (l w : List ℕ) (at : ℕ) (why : End) → AreBytes l → slide_of by base l ≡ folded w at why
    → index_of base w ≡ index_of base (take (at - base) l)

-- "one law for any row of buffers": through any of them it is the slide of the whole
abbrev pub SlideAnyBuffers : Type 0
SlideAnyBuffers = (by : ℕ) → AnyBuffers (sliding by)

-- what waits leaves room in a buffer for a byte more, so that every recording can be slid
abbrev pub SlideKeepsRoom : Type 0
SlideKeepsRoom =
    (by base : ℕ) (l w : List ℕ) (at : ℕ) (why : End) → MayContinue why → slide_of by base l ≡ folded w at why
    → length (drop (at - base) l) < longest
