-- Two results, or two options, that are the same hold the same.
use mathlib.Core.Path.{◌≡◌}
use Rattle.std.specs.Prelude.{Result, Ok, Err, Option, Some}

pub ok-is : {T E : Type 0} {x y : T} → ◌≡◌ {A = Result T E} (Ok x) (Ok y) → x ≡ y
ok-is e = cc

pub err-is : {T E : Type 0} {x y : E} → ◌≡◌ {A = Result T E} (Err x) (Err y) → x ≡ y
err-is e = cc

pub some-is : {T : Type 0} {x y : T} → ◌≡◌ {A = Option T} (Some x) (Some y) → x ≡ y
some-is e = cc
