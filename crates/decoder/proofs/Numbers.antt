-- The refusals of each framing by their numbers, of which laws stand in crates/answering; and where 9 is one of them.
use mathlib.Core.Path.{◌≡◌, refl}
use mathlib.Core.Bool.{true}
use mathlib.Core.List.{List}
use Prim.Native.Nat.{ℕ, ◌<◌}
use native.Mathlib.Omega.{arith}
use Rattle.edition.specs.declared.Edition.TheVariants.{Rosc, Standard}
use Rattle.node.specs.Forest.{depth}
use Rattle.node.specs.Tags.{among}
use Rattle.framing.specs.Framing.{rule_of}
use Rattle.edition.specs.declared.Framing.{Framing}
use Rattle.edition.specs.declared.Framing.TheVariants.{Udp, Tcp, TcpVec}
use Rattle.answering.specs.Limits.{order_of, forest_of}
use Rattle.decoder.proofs.Sizes.{vec2-shallow}
pub use Rattle.answering.proofs.Numbers.{Among, rule-among}

-- a list of edition 2 gives no tree that is deeper than the limit, and every other call has 9
pub nine : (framing : Framing) (limit : ℕ) (msg : List ℕ) → limit < depth (forest_of (rule_of framing limit msg))
    → among 9 (order_of framing) ≡ true
nine Udp limit msg h = refl
nine (Tcp Rosc) limit msg h = refl
nine (Tcp Standard) limit msg h = refl
nine (TcpVec Rosc) limit msg h = refl
nine (TcpVec Standard) limit msg h = absurd (omega (arith, vec2-shallow limit msg))

-- every decoder has 13, 1 and 10
pub limits : (framing : Framing)
    → (among 13 (order_of framing) ≡ true) × (among 1 (order_of framing) ≡ true) × (among 10 (order_of framing) ≡ true)
limits Udp = (refl, refl, refl)
limits (Tcp Rosc) = (refl, refl, refl)
limits (Tcp Standard) = (refl, refl, refl)
limits (TcpVec Rosc) = (refl, refl, refl)
limits (TcpVec Standard) = (refl, refl, refl)
