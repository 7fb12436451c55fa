-- Text that is put after what an answer says.
use Rattle.std.proofs.Common.{◌≡◌, ℕ, ◌+◌, ◌-◌, ◌≤◌, min, List, ◌++◌, length, take, sym, ap, ◌∙◌, arith, length-take-le}
use Rattle.std.proofs.lemmas.Grind.{common_steps}
use Rattle.std.proofs.lemmas.List.{take_at}
use lib.Seq.{take-append-add}
use borrow.Rule.Slice.PartMut.{put_mid, post_of}

-- a front is cut at the length of what it is of
cut-at_length : (n k : ℕ) (s : List ℕ) → n ≡ min (length s) k → take n s ≡ take k s
cut-at_length n k s e = grind (arith, common_steps)

-- the text stands after what was said before, as far as there is room
pub pushed : (bytes text : List ℕ) (len n room : ℕ) (new : List ℕ) → length bytes ≡ room → len ≤ room → n ≡ min (length text) (room - len)
    → new ≡ take (len + n - len) text
    → take (len + n) (put_mid len (len + n - len) bytes new) ≡ take room (take len bytes ++ text)
pushed bytes text len n room new whole at e d =
    let said = take len bytes in
    let l : length said ≡ len = length-take-le len bytes (omega arith) in
    let m : len + n - len ≡ n = omega arith in
    let d' : new ≡ take n text = d ∙ ap (λ (k : ℕ). take k text) m in
    let k : length new ≡ n = ap length d' ∙ length-take-le n text (omega arith) in
    let rest = post_of len (len + n - len) bytes in
    let left : take (len + n) (said ++ (new ++ rest)) ≡ said ++ new =
    ap (λ (k : ℕ). take (k + n) (said ++ (new ++ rest))) (sym l) ∙ take-append-add said (new ++ rest) n
    ∙ ap (λ (s : List ℕ). said ++ s) (take_at new rest n k)
    in
    let r : room ≡ length said + (room - len) = omega arith in
    let right : take room (said ++ text) ≡ said ++ take (room - len) text =
    ap (λ (k : ℕ). take k (said ++ text)) r ∙ take-append-add said text (room - len)
    in
    left ∙ ap (λ (s : List ℕ). said ++ s) (d' ∙ cut-at_length n (room - len) text e) ∙ sym right
