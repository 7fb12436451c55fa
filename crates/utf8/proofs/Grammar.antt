-- `utf8` is the grammar of RFC 3629, section 4: what it accepts is in the grammar, and it accepts all that is.
use mathlib.Core.Path.{◌≡◌, refl, sym}
use mathlib.Core.Bool.{Bool, true, false}
use mathlib.Core.List.{List, [], ◌∷◌, ◌++◌}
use Prim.Native.Nat.{ℕ}
use lib.Dec.{T, leb, leb→le, le→leb}
use mir.Facts.{and_yes, yes_and}
use denote.Floats.{is_true, passes}
use Rattle.utf8.specs.Utf8.{Range, to, In, chars, Among, here, there, Fit, end, next, Octets, none, char, Decides}
use Rattle.utf8.specs.Derive.{in_range, keep, opened, whole, ready, step, run, utf8}

-- the test of a range, both ways
in-from : (r : Range) (x : ℕ) → T (in_range r x) → In r x
in-from (to a b) x t = let (p, q) = and_yes (leb a x) (leb x b) t in (leb→le a x p, leb→le x b q)

in-into : (r : Range) (x : ℕ) → In r x → T (in_range r x)
in-into (to a b) x h = yes_and (leb a x) (leb x b) (le→leb a x h.0) (le→leb x b h.1)

-- the test that a row is used up, both ways
whole_from : (rows : List (List Range)) → T (whole rows) → Among [] rows
whole_from [] t = absurd t
whole_from ([] ∷ rows) t = here
whole_from ((r ∷ row) ∷ rows) t = there (whole_from rows t)

whole-into : {rows : List (List Range)} → Among [] rows → T (whole rows)
whole-into here = tt
whole-into (there {other = []} m) = tt
whole-into (there {other = r ∷ row} m) = whole-into m

-- an octet opens a row: the row is the rest of one whose first range takes the octet
data Opens (rows : List (List Range)) (x : ℕ) (row : List Range) : Type 0 where
  opens : (r : Range) → In r x → Among (r ∷ row) rows → Opens rows x row

-- what opens a row opens it behind another one too
later : {one : List Range} {rows : List (List Range)} {x : ℕ} {row : List Range} → Opens rows x row → Opens (one ∷ rows) x row
later (opens r i m) = opens r i (there m)

-- a row that `keep` leaves is the one kept, or one of the others
kept : {r : Range} {x : ℕ} {row one : List Range} {rows : List (List Range)} (b : Bool) → (T b → In r x) → (left : List (List Range))
    → (Among row left → Opens rows x row) → Among row (keep b one left) → Opens ((r ∷ one) ∷ rows) x row
kept {r} true i left below here = opens r (i tt) here
kept true i left below (there n) = later (below n)
kept false i left below n = later (below n)

-- each row that `opened` leaves was opened by the octet
opened-from : (rows : List (List Range)) (x : ℕ) {row : List Range} → Among row (opened rows x) → Opens rows x row
opened-from [] x m = elim m [ ]
opened-from ([] ∷ rows) x m = later (opened-from rows x m)
opened-from ((r ∷ one) ∷ rows) x m = kept (in_range r x) (in-from r x) (opened rows x) (opened-from rows x) m

-- `keep` keeps the row where the test passes, and the others always
keep-here : (b : Bool) (row : List Range) (rows : List (List Range)) → T b → Among row (keep b row rows)
keep-here true row rows t = here
keep-here false row rows t = absurd t

keep-there : (b : Bool) {row : List Range} (one : List Range) {rows : List (List Range)} → Among row rows → Among row (keep b one rows)
keep-there true one m = there m
keep-there false one m = m

-- a row whose first range takes the octet is left by `opened`
opened-into : (r : Range) (x : ℕ) {row : List Range} {rows : List (List Range)} → In r x → Among (r ∷ row) rows → Among row (opened rows x)
opened-into r x {row} i (here {rows = rows}) = keep-here (in_range r x) row (opened rows x) (in-into r x i)
opened-into r x i (there {other = []} m) = opened-into r x i m
opened-into r x i (there {other = q ∷ one} m) = keep-there (in_range q x) one (opened-into r x i m)

-- a row is ready: it is at hand or, where a character is whole, one of a character
data Ready (row : List Range) (rows : List (List Range)) : Type 0 where
  old : Among row rows → Ready row rows
  new : Among [] rows → Among row chars → Ready row rows

-- a row of two lists joined is in one of them
either : {row : List Range} {rows : List (List Range)} (more : List (List Range)) → (Among row more → Ready row rows)
    → Among row (more ++ rows) → Ready row rows
either [] f m = old m
either (one ∷ more) f here = f here
either (one ∷ more) f (there m) = either more (λ n. f (there n)) m

-- each row that `ready` gives is ready
ready-from : {row : List Range} {rows : List (List Range)} (b : Bool) → (T b → Among [] rows) → Among row (ready b rows) → Ready row rows
ready-from true w m = either chars (new (w tt)) m
ready-from false w m = old m

-- a row of one list is in the two joined
append_left : {row : List Range} {more : List (List Range)} (rows : List (List Range)) → Among row more → Among row (more ++ rows)
append_left rows here = here
append_left rows (there m) = there (append_left rows m)

append_right : {row : List Range} (more : List (List Range)) {rows : List (List Range)} → Among row rows → Among row (more ++ rows)
append_right [] m = m
append_right (one ∷ more) m = there (append_right more m)

-- `ready` gives the rows at hand, and where a character is whole those of a character
ready-old : {row : List Range} {rows : List (List Range)} (b : Bool) → Among row rows → Among row (ready b rows)
ready-old true m = append_right chars m
ready-old false m = m

ready-new : {row : List Range} (rows : List (List Range)) (b : Bool) → T b → Among row chars → Among row (ready b rows)
ready-new rows true t m = append_left rows m
ready-new rows false t m = absurd t

-- octets are the rest of a character, by a row at hand, and then whole characters
data Rest (rows : List (List Range)) : List ℕ → Type 0 where
  rest : {row : List Range} {a b : List ℕ} → Among row rows → Fit row a → Octets b → Rest rows (a ++ b)

-- an octet before a rest: it goes on with a row at hand, or begins a character
back : {rows : List (List Range)} {x : ℕ} {row : List Range} {a b : List ℕ} → Fit row a → Octets b → Opens (ready (whole rows) rows) x row
    → Rest rows (x ∷ (a ++ b))
back {rows} {x} {row} {a} {b} f o (opens r i m) = go (ready-from (whole rows) (whole_from rows) m)
  where
    go : Ready (r ∷ row) rows → Rest rows (x ∷ (a ++ b))
    go (old n) = rest n (next i f) o
    go (new w n) = rest w end (char n (next i f) o)

step_back : (rows : List (List Range)) (x : ℕ) {s : List ℕ} → Rest (step rows x) s → Rest rows (x ∷ s)
step_back rows x (rest m f o) = back f o (opened-from (ready (whole rows) rows) x m)

-- what `run` accepts is a rest of the rows at hand
sound : (rows : List (List Range)) (s : List ℕ) → T (run rows s) → Rest rows s
sound rows [] t = rest (whole_from rows t) end none
sound rows (x ∷ s) t = step_back rows x (sound (step rows x) s t)

-- octets are accepted wherever a row is at hand
abbrev Accepts : List Range → List ℕ → Type 0
Accepts row s = (rows : List (List Range)) → Among row rows → T (run rows s)

-- the octets of a row lead `run` to where it is used up
through : {row : List Range} {a : List ℕ} (b : List ℕ) → Fit row a → Accepts [] b → Accepts row (a ++ b)
through b end k rows m = k rows m
through b (next {r = r} {x = x} i f) k rows m = through b f k (step rows x) (opened-into r x i (ready-old (whole rows) m))

-- so do the octets of a character, where one may begin
opening : {row : List Range} {a : List ℕ} (b : List ℕ) → Among row chars → Fit row a → Accepts [] b → Accepts [] (a ++ b)
opening b n end k rows m = k rows m
opening b n (next {r =
    r} {x = x} i f) k rows m = through b f k (step rows x) (opened-into r x i (ready-new rows (whole rows) (whole-into m) n))

-- whole characters are accepted wherever one may begin
complete : {s : List ℕ} → Octets s → Accepts [] s
complete none rows m = whole-into m
complete (char {s = s} n f o) rows m = opening s n f (λ rows m. complete o rows m) rows m

-- at the start, where no row is open, a rest is whole characters
whole-rest : {s : List ℕ} → Rest ([] ∷ []) s → Octets s
whole-rest (rest here end o) = o
whole-rest (rest (there m) f o) = elim m [ ]

-- the answer of `utf8` is true exactly where the octets are in the grammar
pub octets : (s : List ℕ) → Decides (utf8 s) (Octets s)
octets s =
    record {
      sound = λ e. whole-rest (sound ([] ∷ []) s (passes (utf8 s) e));
      complete = λ o. is_true (utf8 s) (complete o ([] ∷ []) here);
    }

-- two answers to one question are the same
pub same_answer : {a b : Bool} {A : Type 0} → Decides a A → Decides b A → a ≡ b
same_answer {a = true} {b} d e = sym (e.complete (d.sound refl))
same_answer {a = false} {b = true} d e = d.complete (e.sound refl)
same_answer {a = false} {b = false} d e = refl
