-- A number is its four bytes.
use mathlib.Core.Path.{sym}
use Rattle.wire.proofs.Numbers.{length-bytes}
use Rattle.strings.proofs.encode_number_into.Goals as goal

pub returns : goal.returns
returns c = record { count = sym (length-bytes 4 _); wrote = c.put_u32.ensures }
