-- A turn of the loop that slides a recording: its numbers stay low, and it moves on.
use mathlib.Core.Path.{◌≡◌, ap, sym, subst, subst⁻¹, ◌∙◌}
use mathlib.Core.List.{List, []}
use Prim.Native.Nat.{ℕ, ◌+◌, ◌-◌, ◌≤◌}
use native.Mathlib.Omega.{arith}
use lib.Dec.{ltb}
use lib.ListN.{length, take, length-drop}
use lib.Seq.{length-take-le}
use Rattle.wire.specs.Limits.{longest}
use Rattle.wire.proofs.Choices.{by-test}
use Rattle.results.specs.Ends.{FieldUpTo}
use Rattle.results.specs.declared.End.{End}
use Rattle.results.specs.declared.End.TheVariants as end
use Rattle.files.specs.Rest.{ReadsOn}
use Rattle.cues.specs.Cues.{longest_recording}
use Rattle.cues.proofs.Indexes.{EndIn, IndexIn, FieldIn, field_in}
use Rattle.walks.specs.Walks.{LowPosition, reads_on}
use Rattle.walks.specs.CodeWalks.{RestKept}
use Rattle.walks.proofs.Steps.{goes_further}
use Rattle.walks.specs.declared.Position.{Position}
use Rattle.slides.proofs.Files.{stops_as_index, keeps-room}
use Rattle.slide_walks.specs.Turns.{Turns}
use Rattle.slide_walks.specs.declared.Turn.{Turn}
use Rattle.slide_walks.specs.declared.Turn.TheVariants as turn
use Rattle.tool_recordings.specs.CodeCame.{LowCame, StaysOrFails, stays, fails}
use Rattle.tool_recordings.proofs.Loops.{holds}
use Rattle.tool_recordings.specs.declared.Came.{Came}
use Rattle.tool_recordings.specs.declared.Came.TheVariants.{On, Ended, Failed}
use Rattle.tool_shifts.specs.Slid.{slid_by, after_bytes, came_after, StandsAfter, SlidBuffer, slide_fails, slid_buffer, SlidesTo}

-- a field that was short begins in the recording
field-on : (at used m : ℕ) (why : End) → EndIn FieldIn (0 + m - (0 + used)) why → used ≤ m → at + m ≤ longest_recording
    → FieldUpTo (at + used) longest_recording why
field-on at used m end.Whole h in-it low = tt
field-on at used m end.Waiting h in-it low = tt
field-on at used m (end.Refused k) h in-it low = omega (arith, h, in-it, low)

-- how many bytes a turn has slid are in the buffer
pub slid-within : {buf slid : List ℕ} {count by : ℕ} {t : Turn} → Turns buf count by t slid → slid_by t ≤ count
slid-within {count = count} {t = t} w =
    subst⁻¹ (λ (x : Turn). slid_by x ≤ count) w.decides
    (by-test (λ (x : Turn). slid_by x ≤ count) (reads_on (ltb count longest) w.why) (λ _. w.within) (λ _. w.within))

module _ (from : Position) {buf slid : List ℕ} {count by : ℕ} {t : Turn} (w : Turns buf count by t slid) (full : length buf ≡ longest)
    (here : count ≤ length buf) (near : from.at + count ≤ longest_recording) where
  long : length (take count buf) ≡ count
  long = length-take-le count buf here

  low-after : LowPosition (after_bytes from count w.used)
  low-after = record { few = omega arith; near = omega (arith, near, w.within); short = omega (arith, full, here) }

  field-low : FieldUpTo (from.at + w.used) longest_recording w.why
  field-low =
      let i = stops_as_index by 0 (take count buf) _ _ w.why (w.tells 0) in
      let v = subst (IndexIn FieldIn 0 (length (take count buf))) i.1 (field_in 0 (take count buf)) in
      field-on from.at w.used (length (take count buf)) w.why v.3 (omega (arith, v.1)) (omega (arith, long, near))

  -- where the walk stands is in the recording, and where it goes on, it is further on
  pub came-low : LowCame (from.at + 1) (came_after from count t)
  came-low =
      subst⁻¹ (λ (x : Turn). LowCame (from.at + 1) (came_after from count x)) w.decides
      (by-test (λ (x : Turn). LowCame (from.at + 1) (came_after from count x)) (reads_on (ltb count longest) w.why)
      (λ on. let g = goes_further count w.why on in
      let room = keeps-room by 0 (take count buf) _ _ w.why g.0 (w.tells 0) in
      (low-after, omega (arith, room, length-drop (0 + w.used - 0) (take count buf), long, g.1)))
      (λ _. let low = low-after in
      record { few = low.few; near = low.near; short = low.short; field = field-low }))

-- a turn leaves the numbers low, and moves the walk on
pub buffer-low : {by : ℕ} {from : Position} {before kept fresh : List ℕ} {r : Came} → SlidBuffer by from before kept fresh r
    → LowCame (from.at + 1) r
buffer-low {from = from} (slide_fails e) = subst⁻¹ (LowCame (from.at + 1)) e tt
buffer-low {from = from} (slid_buffer full here near h w f s) =
    subst⁻¹ (LowCame (from.at + 1)) s.came (came-low from w full here near)

-- a turn: a read, what is slid, and where the walk stands then
pub slides-to : {by : ℕ} {from : Position} {before buf slid kept fresh : List ℕ} {count n : ℕ} {t : Turn} {r : Came}
    → ReadsOn from.kept before buf count → length buf ≡ longest → count ≤ length buf → from.at + count ≤ longest_recording
    → Turns buf count by t slid → fresh ≡ take n slid → n ≡ slid_by t → StandsAfter from count t slid kept r → SlidesTo by from before kept r
slides-to {from = from} {before} {buf} {slid} {fresh = fresh} {count} reads full here near w f e s =
    record {
      fresh = fresh;
      is = slid_buffer full here near (holds from before buf count reads) w (f ∙ ap (λ (k : ℕ). take k slid) e) s;
    }

-- a turn that failed
pub no-slide : {by : ℕ} {from : Position} {before kept : List ℕ} {r : Came} → r ≡ Failed → SlidesTo by from before kept r
no-slide e = record { fresh = []; is = slide_fails e }

-- a turn after which the recording is found to be shorter has failed
pub slide-or-fails : {by : ℕ} {from : Position} {before kept : List ℕ} {came r : Came} → StaysOrFails came r
    → SlidesTo by from before kept came → SlidesTo by from before kept r
slide-or-fails {by} {from} {before} {kept} (stays e) t = subst⁻¹ (SlidesTo by from before kept) e t
slide-or-fails (fails e) t = no-slide e

-- where the walk stands after a turn, by its case
module _ (from : Position) (t : Turn) {buf kept : List ℕ} {count used k : ℕ} (as-slid : used ≡ slid_by t)
    (rest : RestKept used count buf kept k) where
  rest-is : RestKept (slid_by t) count buf kept (count - slid_by t)
  rest-is =
      subst (λ (n : ℕ). RestKept n count buf kept (count - n)) as-slid (subst (RestKept used count buf kept) rest.count rest)

  there : (p : Position → Came) → p (record { at = from.at + used; records = 0; kept = k }) ≡ p (after_bytes from count (slid_by t))
  there p =
      ap (λ (j : ℕ). p (record { at = from.at + used; records = 0; kept = j })) rest.count
      ∙ ap (λ (n : ℕ). p (after_bytes from count n)) as-slid

  pub on-stands : {u : ℕ} → t ≡ turn.On u
      → StandsAfter from count t buf kept (On (record { at = from.at + used; records = 0; kept = k }))
  on-stands {u} e =
      record {
        rest = rest-is;
        came = there On ∙ ap (λ (x : Turn). On (after_bytes from count (slid_by x))) e ∙ ap (came_after from count) (sym e);
      }

  pub end-stands : {u : ℕ} {why : End} → t ≡ turn.Ended u why
      → StandsAfter from count t buf kept (Ended (record { at = from.at + used; records = 0; kept = k }) why)
  end-stands {u} {why} e =
      record {
        rest = rest-is;
        came = there (λ p. Ended p why) ∙ ap (λ (x : Turn). Ended (after_bytes from count (slid_by x)) why) e
            ∙ ap (came_after from count) (sym e);
      }
