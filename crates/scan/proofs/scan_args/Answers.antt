-- A turn: the sort of the next tag is found, and what it does to what was scanned.
use Rattle.std.proofs.Common.{◌≡◌, ℕ, ◌<◌, List, length, get_or, arith}
use Rattle.std.proofs.lemmas.Result.{err_from_is_err_and}
use Rattle.node.specs.Tags.{sort_of}
use Rattle.node.specs.declared.tags.Sort.{Sort}
use Rattle.scan.proofs.Turns.{Scanning, scanning-start, scanning-end, Forward, data-within, scanning-opens, scanning-closes}
use Rattle.scan.proofs.Turns.{scanning-none, scanning-given, scanning-refused}
use Rattle.scan.proofs.scan_args.Goals as goal
use Rattle.scan.proofs.scan_args.Goals.{in-Opens, in-Closes+else-waiting-eq0, in-Leaf+in_ok-passed-in-Leaf}

abbrev turn : {tags input : List ℕ} {pos index : ℕ} {rest : List ℕ} {at waiting dirt : ℕ}
    → Scanning tags input pos index rest at waiting dirt → index < length tags → (sort : Sort) → sort ≡ sort_of (get_or tags index 0)
    → Forward
turn {tags} {input} {pos} {index} {rest} {at} {waiting} {dirt} w h sort e =
    record {
      tags = tags;
      input = input;
      pos = pos;
      index = index;
      rest = rest;
      at = at;
      waiting = waiting;
      dirt = dirt;
      so_far = w;
      more = h;
      sort = sort;
      sort-found = e;
    }

pub loop-tag-init : goal.loop-tag-init
loop-tag-init c = scanning-start _ _ _

pub returns-then-waiting-eq0 : goal.returns-then-waiting-eq0
returns-then-waiting-eq0 c =
    let t = turn c.loop-tag.invariant c.loop-tag-test.true c.sort_of.result c.sort_of.ensures in
    scanning-none t c.in-Closes.is c.if-waiting-eq0.true

pub slice_bounds-rest-count : goal.slice_bounds-rest-count
slice_bounds-rest-count c =
    let t = turn c.loop-tag.invariant c.loop-tag-test.true c.sort_of.result c.sort_of.ensures in
    (data-within t _ c.pass_arg.ensures c.in_ok-passed-in-Leaf.was).0

pub slice_bounds-rest-start : goal.slice_bounds-rest-start
slice_bounds-rest-start c =
    let t = turn c.loop-tag.invariant c.loop-tag-test.true c.sort_of.result c.sort_of.ensures in
    (data-within t _ c.pass_arg.ensures c.in_ok-passed-in-Leaf.was).0

pub overflow_add-at : goal.overflow_add-at
overflow_add-at c =
    let t = turn c.loop-tag.invariant c.loop-tag-test.true c.sort_of.result c.sort_of.ensures in
    omega (arith, data-within t _ c.pass_arg.ensures c.in_ok-passed-in-Leaf.was, c.requires)

pub overflow_add-dirt : goal.overflow_add-dirt
overflow_add-dirt c =
    let t = turn c.loop-tag.invariant c.loop-tag-test.true c.sort_of.result c.sort_of.ensures in
    omega (arith, data-within t _ c.pass_arg.ensures c.in_ok-passed-in-Leaf.was, c.requires)

pub returns-in_err-passed-in-Leaf : goal.returns-in_err-passed-in-Leaf
returns-in_err-passed-in-Leaf c =
    let t = turn c.loop-tag.invariant c.loop-tag-test.true c.sort_of.result c.sort_of.ensures in
    let p = err_from_is_err_and c.from_residual.result c.from_residual.ensures.1 in
    rw (p.1, p.2) (scanning-refused t _ c.pass_arg.ensures c.in-Leaf.is c.in_err-passed-in-Leaf.was)

pub loop-tag-preserved : goal.loop-tag-preserved
loop-tag-preserved c =
    let t = turn c.loop-tag.invariant c.loop-tag-test.true c.sort_of.result c.sort_of.ensures in
    elim c.match-sort_of.branch [
      | in-Opens w ↦ rw (w.rest-is, w.at-is, w.waiting-is, w.dirt-is) (scanning-opens t w.in-Opens.is)
      | in-Closes+else-waiting-eq0 w ↦
          rw (w.rest-is, w.at-is, w.waiting-is, w.dirt-is) (scanning-closes t w.in-Closes.is w.if-waiting-eq0.false)
      | in-Leaf+in_ok-passed-in-Leaf w ↦
          rw (w.rest-is, w.at-is, w.waiting-is, w.dirt-is) (scanning-given t _ w.pass_arg.ensures w.in-Leaf.is w.in_ok-passed-in-Leaf.was)
    ]

pub returns : goal.returns
returns c = scanning-end c.loop-tag.invariant c.loop-tag-test.false
