use mathlib.Core.Path.{refl, sym, ap, ◌∙◌}
use Prim.Native.Nat.{◌+◌}
use lib.ListN.{drop}
use Rattle.wire.specs.Number.{number}
use Rattle.node.specs.declared.tags.Class.TheVariants.{Four, Eight}
use Rattle.argument.specs.Argument.{read_arg, arg_item}
use Rattle.argument.proofs.Dirt.{padding-begins}
use Rattle.argument.proofs.Within.{given-within}
use Rattle.scan.specs.Results.{Used}
use Rattle.scan.proofs.Passed.{used-of-class, none_between}
use Rattle.scan.proofs.pass_arg.Goals as goal

pub dirty_of-requires : goal.dirty_of-requires
dirty_of-requires c =
    let a = c.args in
    let e = sym c.in_ok-given-in_default.was ∙ c.read_checked-in_default.ensures in
    let b = padding-begins a.tag a.class 0 a.input.now a.pos e in
    (b.0, b.1, given-within a.tag a.class 0 a.input.now a.pos e)

pub returns-in-Four : goal.returns-in-Four
unfolding read_arg
returns-in-Four c =
    let l = c.args.input.now in
    used-of-class c.args.tag l 0 _ c.in-Four.is
    (c.pass_bytes.ensures Four (arg_item c.args.tag (0 + c.args.pos) (number 4 l) 0) refl)

pub returns-in-Eight : goal.returns-in-Eight
unfolding read_arg
returns-in-Eight c =
    let l = c.args.input.now in
    used-of-class c.args.tag l 0 _ c.in-Eight.is
    (c.pass_bytes-in-Eight.ensures Eight (arg_item c.args.tag (0 + c.args.pos) (number 4 l) (number 4 (drop 4 l))) refl)

pub returns-in-Bare : goal.returns-in-Bare
unfolding read_arg
returns-in-Bare c =
    used-of-class c.args.tag c.args.input.now 0 _ c.in-Bare.is (ap (Used 0) (none_between 0 c.args.input.now))
