-- Each return is a case of `tag_for`. `try_from` is handed what the machine reads back from the bits of `seconds`, which is `seconds`.
use Rattle.std.proofs.Common.{◌≡◌, ◌<◌, ◌≤◌, pos, sym, arith, to_z-of_z}
use Rattle.clock.specs.Clock.{last_of}
use Rattle.clock.proofs.Starts.{seconds-are, earlier-is}
use Rattle.clock.proofs.Tags.{refused-nanoseconds, refused-late, refused-early, tagged}
use Rattle.clock.proofs.tag_of.Goals as goal

pub returns-then-nanos-ge-NANOS : goal.returns-then-nanos-ge-NANOS
returns-then-nanos-ge-NANOS c =
    let a = c.args in
    sym (refused-nanoseconds a.rule a.seconds a.nanos c.if-nanos-ge-NANOS.true)

pub returns-then-last_of-s : goal.returns-then-last_of-s
returns-then-last_of-s c =
    let a = c.args in
    let fits = rw (to_z-of_z c.ranges.seconds) at c.in-Ok.ensures in
    let were : a.seconds ≡ pos c.in-Ok.s = seconds-are _ _ fits.0 fits.1 in
    let late : last_of a.rule < c.in-Ok.s = omega (arith, c.last_of.ensures, c.if-last_of-s.true) in
    rw were (sym (refused-late a.rule c.in-Ok.s a.nanos c.if-nanos-ge-NANOS.false late))

pub returns-in_default : goal.returns-in_default
returns-in_default c =
    let a = c.args in
    let not = rw (to_z-of_z c.ranges.seconds) at c.in_default.ensures in
    let n = earlier-is a.seconds c.ranges.seconds not in
    rw n.1 (sym (refused-early a.rule n.0 a.nanos c.if-nanos-ge-NANOS.false))

pub returns : goal.returns
returns c =
    let a = c.args in
    let fits = rw (to_z-of_z c.ranges.seconds) at c.in-Ok.ensures in
    let were : a.seconds ≡ pos c.in-Ok.s = seconds-are _ _ fits.0 fits.1 in
    let early : c.in-Ok.s ≤ last_of a.rule = omega (arith, c.last_of.ensures, c.if-last_of-s.false) in
    rw (were, c.fraction_of.ensures) (sym (tagged a.rule c.in-Ok.s a.nanos c.if-nanos-ge-NANOS.false early))
