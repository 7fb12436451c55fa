use Rattle.std.proofs.Common.{rules, ◌≡◌}
use Prim.Native.Nat.{max}
use mathlib.Core.Path.{◌∙◌}
use Rattle.std.specs.List.{fold}
use Rattle.utf8.proofs.Plain.{folded}
use Rattle.utf8.proofs.highest.Goals as goal

pub returns : goal.returns
returns c = let e : c.fold.result ≡ fold max 0 c.args.s.now = search rules in e ∙ folded 0 c.args.s.now
