-- Ticket 5, of a program that checks an index part by part: it says what the check of all says.
use mathlib.Core.Path.{◌≡◌, refl, ap, sym, ◌∙◌}
use mathlib.Core.Logic.{⊎_elim}
use mathlib.Core.List.{List, [], ◌∷◌, ◌++◌}
use Prim.Native.Nat.{ℕ, ◌/◌, ◌%◌, ◌<◌, ◌≤◌}
use native.Mathlib.Omega.{arith}
use lib.ListN.{length, take, drop, take-append-drop}
use lib.Seq.{take_all, length-take-le}
use Rattle.wire.proofs.Choices.{lt-or-le}
use Rattle.folding.specs.Folding.{joined_bytes}
use Rattle.cues.specs.Cues.{entry_size}
use Rattle.cues.specs.Checks.{compared, followed_by}
use Rattle.results.specs.Results.{Checked}
use Rattle.cues.proofs.Checks.{check_in_parts, ends-within}
use Rattle.recordings.specs.Recordings.{checked_in_parts, EveryCheck}

module _ (part : List ℕ) (whole : length part % entry_size ≡ 0) (more given : List ℕ) where
  -- the given index has as many bytes
  goes_further : length part ≤ length given
      → followed_by (compared part (take (length part) given)) (compared more (drop (length part) given)) ≡ compared (part ++ more) given
  goes_further h =
      sym (ap (compared (part ++ more)) (sym (take-append-drop (length part) given))
      ∙ check_in_parts (length part / entry_size) part more (take (length part) given) (drop (length part) given) (omega arith)
      (omega (arith, length-take-le (length part) given h)))

  -- it ends within this part
  ends-here : length given < length part → (rest : Checked)
      → followed_by (compared part (take (length part) given)) rest ≡ compared (part ++ more) given
  ends-here h rest =
      ap (λ (g : List ℕ). followed_by (compared part g) rest) (take_all (length part) given (omega arith))
      ∙ sym (ends-within part more given whole h rest)

-- every check in parts says what the check of all says
pub every_check : EveryCheck
unfolding checked_in_parts joined_bytes
every_check [] given h = refl
every_check (part ∷ later) given h =
    ⊎_elim (λ s. ends-here part h.0 (joined_bytes later) given s (checked_in_parts later (drop (length part) given)))
    (λ s. ap (followed_by (compared part (take (length part) given))) (every_check later (drop (length part) given) h.1)
    ∙ goes_further part h.0 (joined_bytes later) given s)
    (lt-or-le (length given) (length part))
