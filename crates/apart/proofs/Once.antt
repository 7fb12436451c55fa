-- Numbers that are told tell one answer. `decode_udp` and `decode_tcp` give no answer of 0 records and `decode_tcp` alone waits, so that
-- count 0 with the whole input left is Waiting there, and no packets where `decode_tcp_vec` tells it. A refusal's number is a frame's where
-- bytes are left, and the call's where none are. Of a step the call's refusal stands in the number, and the frame's beside it.
use mathlib.Core.Path.{◌≡◌, refl, ap, sym, subst, ◌∙◌}
use mathlib.Core.Bool.{true, false≢true}
use mathlib.Core.List.{List}
use mathlib.Core.Logic.{⊎_elim}
use Prim.Native.Nat.{ℕ, ◌≤◌, ◌<◌}
use native.Mathlib.Omega.{arith}
use borrow.Author.Tests.{ne_eqb}
use lib.ListN.{length}
use Rattle.refusal.specs.Refusal.{number_of}
use Rattle.refusal.specs.declared.Refusal.{Refusal}
use Rattle.refusal.specs.declared.Refusal.TheVariants.{PadOverflow}
use Rattle.refusal.proofs.Only.{number_alone}
use Rattle.wire.specs.Pad.{padded, pad_of}
use Rattle.results.specs.Results.{DecodeAnswer, Encoded, PortionAnswer}
use Rattle.std.specs.Prelude.{Err, Ok}
use Rattle.wire.specs.Results.{Padded}
use Rattle.results.specs.Results as results
use Rattle.wire.proofs.Choices.{by_le, is-or, lt-or-le}
use Rattle.node.specs.Forest.{Forest, size, depth}
use Rattle.node.specs.Records.{capacity}
use Rattle.node.specs.Tags.{among}
use Rattle.argument.specs.Dirt.{dirty_in}
use Rattle.edition.specs.declared.Edition.{Edition}
use Rattle.edition.specs.declared.Edition.TheVariants.{Rosc, Standard}
use Rattle.edition.specs.declared.Framing.{Framing}
use Rattle.edition.specs.declared.Framing.TheVariants.{Udp, Tcp, TcpVec}
use Rattle.framing.specs.Framing.{Whole, trees, waiting, refusal, stopped, rule_of}
use Rattle.answering.specs.Limits.{order_of, stops_by, waits_by, limited, decoded, forest_of, tabled}
use Rattle.decoder.proofs.Numbers.{limits}
use Rattle.decoder.proofs.Chosen.{by-decoded, by-trees, by-bounded}
use Rattle.decoder.proofs.Offsets.{WholeLow, whole_low}
use Rattle.portions.specs.Portions.{portion_of}
use Rattle.encoder.specs.Outcome.{encode_order, string_order}
use Rattle.told.specs.declared.Told.{Told}
use Rattle.told.specs.Told.{Bounded, answer_of, more_of, unpack, refusal_in, count_in, low_in}
use Rattle.told.specs.Answers.{decoded_told, portion_told, encoded_told, padded_number}
use Rattle.told.proofs.Unpacked.{parted, number_in, tells-record}
use Rattle.told.proofs.Back.{decoded_back, Telling, decoded-reads, portion_back, StepTelling, portion-reads}
use Rattle.apart.specs.CContracts.{HasOffset}
use Rattle.apart.specs.Boundary.{osc_decode, osc_read_portion, CMeets}
use Rattle.apart.specs.ReadBack.{DecodedApart, PortionApart, fewest, Answerable, ToldOnce, ToldAlone, WaitingTold, NoneWaits}
use Rattle.apart.specs.ReadBack.{ReadBack, of_call, of_frame, RefusalTold, StepBack, reads_on, ended_by, refused_by, StepTold}
use Rattle.apart.specs.ReadBack.{StepOnce, EncodedApart, StringApart, EncodedOnce, PadOnce}
use Rattle.apart.proofs.Bounds.{fits, portion-fits}
use Rattle.apart.proofs.Ended.{Ended, encodes-ended, string-ended}
use Rattle.apart.proofs.Shapes.{Shallow, Shaped, shaped}

-- ---- which answers a decoder gives

-- 9 is listed where trees may be deeper than the limit
deep-listed : (framing : Framing) (limit : ℕ) (f : Forest) → Shallow framing limit f → limit < depth f
    → among 9 (order_of framing) ≡ true
deep-listed Udp limit f s h = refl
deep-listed (Tcp Rosc) limit f s h = refl
deep-listed (Tcp Standard) limit f s h = refl
deep-listed (TcpVec Rosc) limit f s h = refl
deep-listed (TcpVec Standard) limit f s h = absurd (omega arith)

module _ (framing : Framing) (room limit : ℕ) (msg : List ℕ) where
  limited-answerable : (n : ℕ) (w : Whole) → Shaped framing limit w → WholeLow n w → Answerable framing n (limited room limit msg w)
  limited-answerable n (trees f left) h l =
      by-trees (Answerable framing n) room limit msg f left (deep-listed framing limit f h.1) (λ _. (limits framing).2)
      (λ _ _. h.0)
  limited-answerable n waiting h l = h
  limited-answerable n (refusal k) h l = h
  limited-answerable n (stopped f left k at) h l =
      by-bounded (Answerable framing n) room limit f (results.Stopped (size f) left (dirty_in msg f) k at)
      (deep-listed framing limit f h.1) (λ _. (limits framing).2)
      (λ _ _. (h.0, l.2, l.1))

  -- what a decoder answers is among what it may answer: no 0 records but of a list, Waiting of `decode_tcp` alone, and refusals that are
  -- listed for it; a list of edition 2 alone stops
  pub answerable : Answerable framing (length msg) (decoded (rule_of framing limit) room limit msg)
  answerable =
      by-decoded (Answerable framing (length msg)) (rule_of framing limit) room limit msg (λ _. (limits framing).0)
      (λ _. (limits framing).1)
      (λ _ _. limited-answerable (length msg) (rule_of framing limit msg) (shaped framing limit msg) (whole_low framing limit msg))

-- what a decoder tells is the record of its answer
pub decoded_apart : DecodedApart
decoded_apart framing msg table limit told more after t = tells-record t (fits (capacity table) limit framing msg t.meets.answered)

-- and the answer is one that it may give
pub told-answerable : (framing : Framing) (msg table : List ℕ) (limit told more : ℕ) (after : List ℕ)
    → (t : CMeets (osc_decode framing msg table limit) told more after) → Answerable framing (length msg) t.answer
told-answerable framing msg table limit told more after t =
    subst (Answerable framing (length msg)) (sym t.meets.answered) (answerable framing (capacity table) limit msg)

-- ---- the answer that a decoder's numbers tell

-- where a decoder waits, it gives no 0 records
some-records : (framing : Framing) (count : ℕ) → fewest framing ≤ count → waits_by framing ≡ true → 1 ≤ count
some-records Udp count h w = absurd (false≢true w)
some-records (Tcp edition) count h w = h
some-records (TcpVec edition) count h w = absurd (false≢true w)

-- what it may answer is read back from its record
telling : (framing : Framing) (n : ℕ) (d : DecodeAnswer) → Answerable framing n d → Telling (waits_by framing) d
telling framing n (results.Packets count left dirty) a = some-records framing count a
telling framing n results.Waiting a = a
telling framing n (Err r) a = tt
telling framing n (results.Stopped count left dirty r frame) a = omega (arith, a.1)

-- the answer is what both numbers are read back as
decoded-back : (framing : Framing) (msg table : List ℕ) (limit told more : ℕ) (after : List ℕ)
    → (t : CMeets (osc_decode framing msg table limit) told more after) → decoded_back (waits_by framing) (unpack told more) ≡ t.answer
decoded-back framing msg table limit told more after t =
    ap (decoded_back (waits_by framing)) (decoded_apart framing msg table limit told more after t)
    ∙ decoded-reads (waits_by framing) (length msg) t.answer
    (telling framing (length msg) t.answer (told-answerable framing msg table limit told more after t))

-- so a decoder does not tell two answers by one number and what is told beside it
pub decoded_once : ToldOnce
decoded_once framing msg msg' table table' limit limit' told more after after' t u =
    sym (decoded-back framing msg table limit told more after t) ∙ decoded-back framing msg' table' limit' told more after' u

-- ---- a refused call, and a list that stops

-- what has a refusal's number is read back from both numbers
refusal-back : (framing : Framing) (n told more : ℕ) (d : DecodeAnswer) → Answerable framing n d → unpack told more ≡ decoded_told n d
    → 1 ≤ refusal_in told → ReadBack d told more
refusal-back framing n told more (results.Packets c l y) a e h = let p = parted e in absurd (omega arith)
refusal-back framing n told more results.Waiting a e h = let p = parted e in absurd (omega arith)
refusal-back framing n told more (Err r) a e h =
    let p = parted e in of_call r (record { number = sym p.number; offset = sym p.field }) p.low refl
refusal-back framing n told more (results.Stopped c l y r at) a e h =
    let p = parted e in
    of_frame r (record { number = sym p.number; offset = sym p.field }) (omega (arith, a.1, p.low))
    (rw (p.count, p.low, p.dirty, p.frame))

-- with no bytes left it is the call that is refused, and with some a frame, at which the list stops
pub refusal_told : RefusalTold
refusal_told framing msg table limit told more after h t =
    refusal-back framing (length msg) told more t.answer (told-answerable framing msg table limit told more after t)
    (decoded_apart framing msg table limit told more after t) h

-- only a list of edition 2 stops
stops-in : (framing : Framing) (n : ℕ) → among n (stops_by framing) ≡ true → framing ≡ TcpVec Standard
stops-in Udp n e = absurd (false≢true e)
stops-in (Tcp edition) n e = absurd (false≢true e)
stops-in (TcpVec Rosc) n e = absurd (false≢true e)
stops-in (TcpVec Standard) n e = refl

-- a refusal that has no offset is below 17
below-17 : (r : Refusal) (n : ℕ) → number_of r ≡ n → (HasOffset n → ⊥) → number_of r ≤ 16
below-17 r n e h =
    ⊎_elim (λ k. absurd (h (omega (arith, k, e), omega (arith, (number_in r).1, e)))) (λ k. k) (lt-or-le 16 (number_of r))

-- the refusal of a call, by its number
pub record CallRefused (d : DecodeAnswer) (told : ℕ) : Type 0 where
  pub refusal : Refusal
  pub number : number_of refusal ≡ refusal_in told
  pub is : d ≡ Err refusal

-- where a list has no bytes left, it is the call that is refused
call-refused : (framing : Framing) (n told more : ℕ) (d : DecodeAnswer) → Answerable framing n d
    → (framing ≡ TcpVec Standard → low_in told ≡ 0) → ReadBack d told more → CallRefused d told
call-refused framing n told more d a none (of_call r named left e) = record { refusal = r; number = named.number; is = e }
call-refused framing n told more d a none (of_frame r named left e) =
    absurd (omega (arith, left, none (stops-in framing (number_of r) (subst (Answerable framing n) e a).0)))

-- a decoder does not tell two refusals by one number alone, but 17 to 21
pub decoded_alone : ToldAlone
decoded_alone framing msg msg' table table' limit limit' told more more' after after' some h none t u =
    let x = call-refused framing (length msg) told more t.answer (told-answerable framing msg table limit told more after t) none
    (refusal_told framing msg table limit told more after some t) in
    let y = call-refused framing (length msg') told more' u.answer (told-answerable framing msg' table' limit' told more' after' u) none
    (refusal_told framing msg' table' limit' told more' after' some u) in
    x.is
    ∙ ap (λ (r : Refusal). Err r)
    (number_alone x.refusal y.refusal (x.number ∙ sym y.number) (below-17 x.refusal (refusal_in told) x.number h))
    ∙ sym y.is

-- ---- a step

-- what a step tells is the record of its answer
pub portion_apart : PortionApart
portion_apart bytes table limit told more after t = tells-record t (portion-fits limit bytes table t.meets.answers)

step_back : (told more : ℕ) (a : PortionAnswer) → unpack told more ≡ portion_told a → StepBack a told more
step_back told more (results.Read c u y) e = let p = parted e in reads_on p.number p.frame (rw (p.count, p.low, p.dirty))
step_back told more (results.Ended c u y r) e =
    let p = parted e in
    ended_by r p.number (omega (arith, p.frame, (number_in r).0)) (sym p.frame) (sym p.field) (rw (p.count, p.low, p.dirty))
step_back told more (Err r) e =
    let p = parted e in refused_by r (omega (arith, p.number, (number_in r).0)) p.frame (sym p.number) refl

-- a step that reads on, one that a refused frame ends and a refused call are told apart, and every part of the answer is told
pub step_told : StepTold
step_told bytes table limit told more after t = step_back told more t.answer (portion_apart bytes table limit told more after t)

-- a list of edition 2 refuses a call with 13, 1 or 10 alone
few-refusals : (n : ℕ) → among n (order_of (TcpVec Standard)) ≡ true → n ≤ 16
few-refusals n e =
    ⊎_elim (λ p. omega arith)
    (λ p. ⊎_elim (λ q. omega arith)
    (λ q. ⊎_elim (λ s. omega arith) (λ s. absurd (false≢true (rw (ne_eqb n 13 p, ne_eqb n 1 q, ne_eqb n 10 s) at e))) (is-or n 10))
    (is-or n 1))
    (is-or n 13)

step-telling : (n : ℕ) (d : DecodeAnswer) → Answerable (TcpVec Standard) n d → StepTelling (portion_of n d)
step-telling n (results.Packets count left dirty) a = tt
step-telling n results.Waiting a = tt
step-telling n (Err r) a = few-refusals (number_of r) a
step-telling n (results.Stopped count left dirty r frame) a = tt

-- the answer is what both numbers are read back as
portion-back : (bytes table : List ℕ) (limit told more : ℕ) (after : List ℕ)
    → (t : CMeets (osc_read_portion bytes table limit) told more after) → portion_back (unpack told more) ≡ t.answer
portion-back bytes table limit told more after t =
    ap portion_back (portion_apart bytes table limit told more after t)
    ∙ portion-reads t.answer
    (subst StepTelling (sym t.meets.answers)
    (step-telling (length bytes) (decoded (rule_of (TcpVec Standard) limit) (capacity table) limit bytes)
    (answerable (TcpVec Standard) (capacity table) limit bytes)))

-- so a step does not tell two answers by one number and what is told beside it
pub step_once : StepOnce
step_once bytes bytes' table table' limit limit' told more after after' t u =
    sym (portion-back bytes table limit told more after t) ∙ portion-back bytes' table' limit' told more after' u

-- ---- Waiting

none-waits : (edition : Edition) (n told more : ℕ) (d : DecodeAnswer) → Answerable (Tcp edition) n d → unpack told more ≡ decoded_told n d
    → refusal_in told ≡ 0 → count_in told ≡ 0 → d ≡ results.Waiting
none-waits edition n told more (results.Packets c l y) a e h k = let p = parted e in absurd (omega arith)
none-waits edition n told more results.Waiting a e h k = refl
none-waits edition n told more (Err r) a e h k = let p = parted e in absurd (omega (arith, number_in r))
none-waits edition n told more (results.Stopped c l y r at) a e h k = let p = parted e in absurd (omega (arith, number_in r))

-- count 0 without a refusal is Waiting, where `osc_decode_tcp` or `osc_decode_tcp2` tells it
pub tcp_none_waits : NoneWaits
tcp_none_waits edition msg table limit told more after t h k =
    let e = none-waits edition (length msg) told more t.answer (told-answerable (Tcp edition) msg table limit told more after t)
    (decoded_apart (Tcp edition) msg table limit told more after t) h k in
    record {
      answer = sym t.meets.answered ∙ e;
      whole = t.number ∙ ap (λ (d : DecodeAnswer). answer_of (decoded_told (length msg) d)) e ∙ omega arith;
      beside = t.beside ∙ ap (λ (d : DecodeAnswer). more_of (decoded_told (length msg) d)) e;
      left = t.meets.left ∙ ap (λ (d : DecodeAnswer). tabled d (forest_of (rule_of (Tcp edition) limit msg)) table) e;
    }

-- ---- an encoder, and `osc_pad`

-- an answer of at most 65,535 bytes has its bits
written-bounded : (refusals before : List ℕ) (a : Encoded) (after : List ℕ) → Ended refusals before a after → Bounded (encoded_told a)
written-bounded refusals before (Ok n) after h = omega arith
written-bounded refusals before (Err r) after h = omega (arith, number_in r)

-- what `osc_encode` or `osc_encode_tcp` tells is the record of its answer
pub told_apart : EncodedApart
told_apart frame table count source out told more after t =
    tells-record t (written-bounded encode_order out t.answer after (encodes-ended frame table count source out _ t.meets))

-- so is what `osc_encode_string` tells
pub string_told_apart : StringApart
string_told_apart text out told more after t =
    tells-record t (written-bounded string_order out t.answer after (string-ended text out _ t.meets))

-- two answers of an encoder that have the parts of one number are one
pub encoded_once : EncodedOnce
encoded_once told more a b h p q = by_both a b (sym p ∙ q) (ap (λ (u : Told). u.number) p)
  where
    by_both : (a b : Encoded) → encoded_told a ≡ encoded_told b → refusal_in told ≡ (encoded_told a).number → a ≡ b
    by_both (Ok n) (Ok m) e f = ap (λ (i : ℕ). Ok i) (ap (λ (u : Told). u.low) e)
    by_both (Ok n) (Err r) e f =
        absurd (omega (arith, (number_in r).0, ap (λ (u : Told). u.number) e))
    by_both (Err r) (Ok n) e f =
        absurd (omega (arith, (number_in r).0, ap (λ (u : Told). u.number) e))
    by_both (Err r) (Err s) e f =
        ap (λ (i : Refusal). Err i)
        (number_alone r s (ap (λ (u : Told). u.number) e) (below-17 r (refusal_in told) (sym f) h))

-- `osc_pad` does not tell two answers by one number: 14 is no multiple of 4
pub pad_once : PadOnce
pad_once x y =
    by_le (λ (p : Padded). padded_number p ≡ padded_number (pad_of y) → p ≡ pad_of y) x 0xffff_ffff_ffff_fffc
    (λ _. by_le (λ (q : Padded). padded x ≡ padded_number q → Ok (padded x) ≡ q) y 0xffff_ffff_ffff_fffc
    (λ _ e. ap (λ (i : ℕ). Ok i) e) (λ _ e. absurd (omega arith)))
    (λ _. by_le (λ (q : Padded). 14 ≡ padded_number q → Err PadOverflow ≡ q) y 0xffff_ffff_ffff_fffc
    (λ _ e. absurd (omega arith)) (λ _ e. refl))
