-- A turn: the sort of the tag before `at` is found, and what it does to what was looked at.
use Rattle.std.proofs.Common.{◌≡◌, ℕ, ◌-◌, ◌<◌, List, get_or}
use Rattle.node.specs.Tags.{sort_of}
use Rattle.node.specs.declared.tags.Sort.{Sort}
use Rattle.scan.proofs.Turns.{Looking, looking-start, looking-end, Backward, looking-opens, looking-closes, looking-leaf}
use Rattle.scan.proofs.Turns.{looking-cut}
use Rattle.scan.proofs.walk_back.Goals as goal

abbrev turn : {tags : List ℕ} {at closed count depth : ℕ} → Looking tags at closed count depth → 0 < at → (sort : Sort)
    → sort ≡ sort_of (get_or tags (at - 1) 0) → Backward
turn {tags} {at} {closed} {count} {depth} w h sort e =
    record { tags = tags; at = at; closed = closed; count = count; depth = depth; so_far = w; more = h; sort = sort; sort-found = e }

pub loop-at-init : goal.loop-at-init
loop-at-init c = looking-start _

pub returns-then-closed-eq0 : goal.returns-then-closed-eq0
returns-then-closed-eq0 c =
    let t = turn c.loop-at.invariant c.loop-at-test.true c.sort_of.result c.sort_of.ensures in
    looking-cut t c.in-Opens.is c.if-closed-eq0.true

pub loop-at-preserved-in-Opens : goal.loop-at-preserved-in-Opens
loop-at-preserved-in-Opens c =
    let t = turn c.loop-at.invariant c.loop-at-test.true c.sort_of.result c.sort_of.ensures in
    looking-opens t c.in-Opens.is c.if-closed-eq0.false c.max-depth.ensures

pub loop-at-preserved-in-Closes : goal.loop-at-preserved-in-Closes
loop-at-preserved-in-Closes c =
    let t = turn c.loop-at.invariant c.loop-at-test.true c.sort_of.result c.sort_of.ensures in
    looking-closes t c.in-Closes.is

pub loop-at-preserved : goal.loop-at-preserved
loop-at-preserved c =
    let t = turn c.loop-at.invariant c.loop-at-test.true c.sort_of.result c.sort_of.ensures in
    looking-leaf t c.in-Leaf.is

pub returns : goal.returns
returns c = looking-end c.loop-at.invariant c.loop-at-test.false
