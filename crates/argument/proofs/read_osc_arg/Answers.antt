-- Of each class that is given, the bytes that it reads are there.
use Rattle.std.proofs.Common.{sym, arith}
use Rattle.text.proofs.Within.{found_in}
use Rattle.argument.proofs.Argued.{of-class, eight-given, text-given}
use Rattle.argument.proofs.There.{there, with-numbers, four-again, blob-again, bare-left}
use Rattle.argument.proofs.read_osc_arg.Goals as goal

pub be_u32-requires : goal.be_u32-requires
be_u32-requires c =
    let a = c.args in
    (four-again a.tag a.base a.input.now a.pos a.class c.in-Four.in-Four-own.keys1 c.requires.arg_read).0

pub be_u32-requires-in-Eight : goal.be_u32-requires-in-Eight
be_u32-requires-in-Eight c =
    let a = c.args in
    let h = there a.tag a.base a.input.now a.pos c.in-Eight.is c.requires.arg_read in
    omega (arith, h)

pub be_u32-requires-in-Eight-2 : goal.be_u32-requires-in-Eight-2
be_u32-requires-in-Eight-2 c =
    let a = c.args in
    there a.tag a.base a.input.now a.pos c.in-Eight.is c.requires.arg_read

pub find_osc_string-text-requires-clause-text_found : goal.find_osc_string-text-requires-clause-text_found
find_osc_string-text-requires-clause-text_found c =
    let a = c.args in
    there a.tag a.base a.input.now a.pos c.in-Text.is c.requires.arg_read

pub overflow_cast-text : goal.overflow_cast-text
overflow_cast-text c = omega (arith, found_in _ _ (sym c.find_osc_string-text.ensures), c.requires.input_bound)

pub be_u32-size-requires : goal.be_u32-size-requires
be_u32-size-requires c =
    let a = c.args in
    let h = there a.tag a.base a.input.now a.pos c.in-Blob.is c.requires.arg_read in
    omega (arith, h.0)

pub returns-in-Four : goal.returns-in-Four
returns-in-Four c =
    let a = c.args in
    let w = four-again a.tag a.base a.input.now a.pos a.class c.in-Four.in-Four-own.keys1 c.requires.arg_read in
    with-numbers (w.1 _ c.be_u32.ensures) c.given.ensures

pub returns-in-Eight : goal.returns-in-Eight
returns-in-Eight c =
    let a = c.args in
    let h = there a.tag a.base a.input.now a.pos c.in-Eight.is c.requires.arg_read in
    with-numbers
    (of-class _ _ _ _ c.in-Eight.is (eight-given _ _ _ _ h c.be_u32-in-Eight.ensures c.be_u32-in-Eight-2.ensures))
    c.given-in-Eight.ensures

pub returns-in-Text : goal.returns-in-Text
returns-in-Text c =
    with-numbers
    (of-class _ _ _ _ c.in-Text.is (text-given _ _ _ _ (sym c.find_osc_string-text.ensures)))
    c.given-in-Text.ensures

pub returns-in-Blob : goal.returns-in-Blob
returns-in-Blob c =
    let a = c.args in
    let h = there a.tag a.base a.input.now a.pos c.in-Blob.is c.requires.arg_read in
    with-numbers (of-class _ _ _ _ c.in-Blob.is (blob-again _ _ _ _ h c.be_u32-size.ensures)) c.given-in-Blob.ensures

pub returns-in_default : goal.returns-in_default
returns-in_default c =
    let a = c.args in
    with-numbers (bare-left a.tag a.base a.input.now a.pos a.class c.in_default.in_default-own.keys5 c.requires.arg_read)
    c.given-in_default.ensures
