use mathlib.Core.Path.{ap}
use borrow.Author.Tests.{ne_eqb}
use Rattle.node.specs.Tags.{sort_of}
use Rattle.node.specs.declared.tags.Sort.TheVariants.{Leaf}
use Rattle.node.proofs.tags.sort_of.Goals as goal

pub returns-in-91 : goal.returns-in-91
unfolding sort_of
returns-in-91 c = rw c.in-91.is

pub returns-in-93 : goal.returns-in-93
unfolding sort_of
returns-in-93 c = rw c.in-93.is

pub returns-in_default : goal.returns-in_default
unfolding sort_of
returns-in_default c = rw (ne_eqb _ 91 c.in_default.in_default-own.rest.0.1, ne_eqb _ 93 c.in_default.in_default-own.rest.1) (ap Leaf c.class_of.ensures)
