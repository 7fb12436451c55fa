-- A turn of the loop writes the data of one record: of an array what it contains, of a closing bracket nothing, else one argument's.
use native.Mathlib.Omega.{arith}
use Rattle.writers.proofs.Classed.{data-none}
use Rattle.writers.proofs.Rows.{ended}
use Rattle.writers.proofs.Arguments.{turn, turn-fits, data-inside, array-after, array-gone, closes-gone, leaf-asked}
use Rattle.writers.proofs.Arguments.{leaf-gone}
use Rattle.writers.proofs.Turns.{given, row-advances}
use Rattle.writers.proofs.+encode_arg_data.Goals as goal

pub encode_arg_data-written-requires : goal.encode_arg_data-written-requires
encode_arg_data-written-requires t c =
    let s = given c.loop-at.invariant.0 c.loop-at.invariant.1 c.loop-at.invariant.2 c.in-Some.ensures.steps in
    let w = turn s.going s.within s.end-is c.kind_at.ensures c.sort_of.ensures in
    (omega (arith, turn-fits w, w.going.passed), data-inside w c.in-Opens.is)

pub overflow_add-written : goal.overflow_add-written
overflow_add-written t c =
    let s = given c.loop-at.invariant.0 c.loop-at.invariant.1 c.loop-at.invariant.2 c.in-Some.ensures.steps in
    let w = turn s.going s.within s.end-is c.kind_at.ensures c.sort_of.ensures in
    omega (arith, array-after w c.in-Opens.is c.encode_arg_data-written.ensures)

pub encode_leaf_data-written-requires-clause-b_in_bounds : goal.encode_leaf_data-written-requires-clause-b_in_bounds
encode_leaf_data-written-requires-clause-b_in_bounds t c =
    let s = given c.loop-at.invariant.0 c.loop-at.invariant.1 c.loop-at.invariant.2 c.in-Some.ensures.steps in
    let w = turn s.going s.within s.end-is c.kind_at.ensures c.sort_of.ensures in
    (leaf-asked w c.in-Leaf.is c.item_at.ensures).0

pub encode_leaf_data-written-requires-clause-item_in_bounds : goal.encode_leaf_data-written-requires-clause-item_in_bounds
encode_leaf_data-written-requires-clause-item_in_bounds t c =
    let s = given c.loop-at.invariant.0 c.loop-at.invariant.1 c.loop-at.invariant.2 c.in-Some.ensures.steps in
    let w = turn s.going s.within s.end-is c.kind_at.ensures c.sort_of.ensures in
    (leaf-asked w c.in-Leaf.is c.item_at.ensures).1

pub loop-at-preserved-in-Opens : goal.loop-at-preserved-in-Opens
loop-at-preserved-in-Opens t c =
    let s = given c.loop-at.invariant.0 c.loop-at.invariant.1 c.loop-at.invariant.2 c.in-Some.ensures.steps in
    let w = turn s.going s.within s.end-is c.kind_at.ensures c.sort_of.ensures in
    (s.same, s.still, rw s.behind (array-gone w c.in-Opens.is c.encode_arg_data-written.ensures))

pub loop-at-preserved-in-Closes : goal.loop-at-preserved-in-Closes
loop-at-preserved-in-Closes t c =
    let s = given c.loop-at.invariant.0 c.loop-at.invariant.1 c.loop-at.invariant.2 c.in-Some.ensures.steps in
    let w = turn s.going s.within s.end-is c.kind_at.ensures c.sort_of.ensures in
    (s.same, s.still, rw s.behind (closes-gone w c.in-Closes.is))

pub loop-at-preserved : goal.loop-at-preserved
loop-at-preserved t c =
    let s = given c.loop-at.invariant.0 c.loop-at.invariant.1 c.loop-at.invariant.2 c.in-Some.ensures.steps in
    let w = turn s.going s.within s.end-is c.kind_at.ensures c.sort_of.ensures in
    (s.same, s.still, rw s.behind (leaf-gone w c.in-Leaf.is c.item_at.ensures c.encode_leaf_data-written.ensures))

pub returns : goal.returns
returns t c =
    ended c.loop-at.invariant.2 (data-none _) (omega (arith, c.in-None.ensures.steps.0, c.loop-at.invariant.1))

pub new-at-items-requires : goal.new-at-items-requires
new-at-items-requires t c = row-advances c.requires
