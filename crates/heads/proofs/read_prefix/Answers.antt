use Rattle.heads.proofs.Heads.{prefix-short, prefix-waits, prefix-ready}
use Rattle.heads.proofs.read_prefix.Goals as goal

pub returns-then-input-lt4 : goal.returns-then-input-lt4
returns-then-input-lt4 c = prefix-short _ c.if-input-lt4.true

pub returns-then-input-be_u32 : goal.returns-then-input-be_u32
returns-then-input-be_u32 c = prefix-waits _ c.if-input-lt4.false c.be_u32.ensures c.if-input-be_u32.true

pub returns : goal.returns
returns c = prefix-ready _ c.if-input-lt4.false c.be_u32.ensures c.if-input-be_u32.false
