-- The rules agree where both speak: what rule A answers with a tag or a time, rule B answers with the same.
use Rattle.std.proofs.Common.{◌≡◌, ℕ, ◌-◌, ◌/◌, ◌%◌, ◌^◌, ◌<◌, ℤ, pos, ap, ◌∙◌, arith}
use Rattle.clock.specs.Clock.{since1900, epoch, tag_for, rounded_of, seconds_of, unix_for}
use Rattle.clock.specs.Promises.{TagCase, TagsAgree, TimesAgree}
use Rattle.clock.specs.declared.Rule.TheVariants.{A, B}
use Rattle.clock.specs.Results.{At, Tagged, Unix}
use Rattle.std.specs.Prelude.{Ok}
use Rattle.clock.proofs.Tags.{tagged}
use Rattle.clock.proofs.Times.{field_plain, timed}
use Rattle.clock.proofs.Domains.{case-of, TimeCase, time-of}

case-agrees : {z : ℤ} {n : ℕ} {r : Tagged} (t : ℕ) → TagCase A z n r → r ≡ Ok t → tag_for B z n ≡ Ok t
case-agrees t (TagCase.nanoseconds h) e = let never : ◌≡◌ {A = ℕ} 0 1 = cc in absurd (omega arith)
case-agrees t (TagCase.late h l) e = let never : ◌≡◌ {A = ℕ} 0 1 = cc in absurd (omega arith)
case-agrees t (TagCase.early h) e = let never : ◌≡◌ {A = ℕ} 0 1 = cc in absurd (omega arith)
case-agrees t (TagCase.has_tag {s} {n} h l) e = tagged B s n h (omega arith) ∙ e

pub tags_agree : TagsAgree
tags_agree z n t e = case-agrees t (case-of A z n) e

-- a tag that rule A gives a time has its top bit set
time-agrees : {tag : ℕ} {r : Unix} (z : ℤ) (n : ℕ) → tag < 2 ^ 64 → TimeCase A tag r → r ≡ At z n → unix_for B tag ≡ At z n
time-agrees z n fits (TimeCase.before-1970 h) e = let never : ◌≡◌ {A = ℕ} 0 1 = cc in absurd (omega arith)
time-agrees {tag} z n fits (TimeCase.since-1970 {s} q) e =
    let top : since1900 B (tag / 2 ^ 32) ≡ tag / 2 ^ 32 = field_plain (tag / 2 ^ 32) (omega arith) in
    let same : seconds_of B tag - epoch ≡ s = omega (arith, top) in
    timed B tag (omega (arith, top)) ∙ ap (λ (k : ℕ). At (pos k) (rounded_of tag % 1_000_000_000)) same ∙ e

pub times_agree : TimesAgree
times_agree tag z n fits e = time-agrees z n fits (time-of A tag) e
