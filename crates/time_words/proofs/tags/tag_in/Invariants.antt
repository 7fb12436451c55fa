-- `time_words::tags::tag_in` meets its contract. The invariant: the tag so far and the digits from the next byte on make the word's tag.
use Rattle.time_words.proofs.Digits.{SoFar}
use Rattle.time_words.proofs.tags.tag_in.Given as goal

abbrev pub invariant-loop-byte : goal.invariant-loop-byte
invariant-loop-byte l = SoFar l.word l.tag l.byte-index
