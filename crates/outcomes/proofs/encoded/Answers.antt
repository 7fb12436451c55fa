-- `outcomes::encoded` meets its contract: each of the two calls says the same.
use Rattle.outcomes.proofs.encoded.Goals as goal

pub returns-in-Alone : goal.returns-in-Alone
returns-in-Alone c =
    rw (c.in-Alone.is, ← c.capacity_of-count.ensures) c.encode.ensures

pub returns-in-Stream : goal.returns-in-Stream
returns-in-Stream c =
    rw (c.in-Stream.is, ← c.capacity_of-count.ensures) c.encode_tcp.ensures
