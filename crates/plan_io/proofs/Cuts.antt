-- Where bytes are cut into lines.
use Rattle.std.proofs.Common.{◌≡◌, ◌≢◌, ℕ, zero, suc, ◌+◌, ◌-◌, ◌≤◌, ◌<◌, List, [], ◌∷◌, ◌++◌, length, take, drop, get_or, refl, sym, ◌∙◌, ap, subst}
use Rattle.std.proofs.Common.{arith, append_assoc, append-nil, length-append, Bool, true, false, cond, nat_eq, nat_le, nat_lt, IsTrue, ◌↔◌, inl, inr}
use Rattle.std.proofs.Common.{length-drop, length-take, get_or-drop, get_or-take, take-append-drop}
use Rattle.std.proofs.lemmas.List.{drop_more}
use Rattle.std.proofs.lemmas.Bool.{cond-false, ne_eqb, le-leb, true≢false}
use Rattle.std.proofs.lemmas.Bool.Decides.{leb_tells}
use Rattle.plan_io.specs.declared.lines.ScriptLine.{ScriptLine}
use Rattle.plan_io.specs.declared.lines.ScriptLine.TheVariants.{Bytes, TooLong}
use Rattle.plan_io.specs.Newline.{NoNewline, EndsAt, HasNewline}
use Rattle.plan_io.specs.LinesOf.{line_of, last_of, lines_from, lines_of, after_newline}

-- bytes with no newline join the open piece
pub lines_from_more : (p bs r : List ℕ) → NoNewline bs → lines_from p (bs ++ r) ≡ lines_from (p ++ bs) r
lines_from_more p [] r h = ap (λ (q : List ℕ). lines_from q r) (sym (append-nil p))
lines_from_more p (b ∷ bs) r h =
    cond-false (nat_eq b 10) _ _ (ne_eqb b 10 h.0) ∙ lines_from_more (p ++ b ∷ []) bs r h.1 ∙ ap (λ (q : List ℕ). lines_from q r) (append_assoc p (b ∷ []) bs)

-- what stands before the first newline is the first line
pub cuts_line : (piece rest : List ℕ) → NoNewline piece → lines_of (piece ++ 10 ∷ rest) ≡ line_of piece ∷ lines_of rest
cuts_line piece rest h = lines_from_more [] piece (10 ∷ rest) h

pub last_line : (piece : List ℕ) → NoNewline piece → lines_of piece ≡ last_of piece
last_line piece h = ap lines_of (sym (append-nil piece)) ∙ lines_from_more [] piece [] h

pub line_long : (p : List ℕ) → 1048576 < length p → line_of p ≡ TooLong
line_long p h = cond-false (nat_le (length p) 1048576) (Bytes p) TooLong
    (elim (leb_tells (length p) 1048576) [ inl t ↦ absurd (omega (arith, t.1, h)) | inr t ↦ t.0 ])

pub line_short : (p : List ℕ) → length p ≤ 1048576 → line_of p ≡ Bytes p
line_short p h = ap (λ (t : Bool). cond t (Bytes p) TooLong) (le-leb (length p) 1048576 h)

last_long : (p : List ℕ) → 1048576 < length p → last_of p ≡ TooLong ∷ []
last_long [] h = absurd (omega (arith, h))
last_long (b ∷ bs) h = ap (λ (l : ScriptLine). l ∷ []) (line_long (b ∷ bs) h)

-- an open piece that is too long stays so
pub lines_long : (p r : List ℕ) → 1048576 < length p → lines_from p r ≡ TooLong ∷ lines_of (after_newline r)
lines_long p [] h = last_long p h
lines_long p (b ∷ bs) h =
    let more : 1048576 < length (p ++ b ∷ []) = grind (arith, length-append, h) in
    elim (nat_eq b 10) as (λ t. cond t (line_of p ∷ lines_from [] bs) (lines_from (p ++ b ∷ []) bs) ≡ TooLong ∷ lines_of (cond t bs (after_newline bs))) [
      | true ↦ ap (λ (l : ScriptLine). l ∷ lines_of bs) (line_long p h)
      | false ↦ lines_long (p ++ b ∷ []) bs more
    ]

pub after_more : (p r : List ℕ) → NoNewline p → after_newline (p ++ r) ≡ after_newline r
after_more [] r h = refl
after_more (b ∷ bs) r h = cond-false (nat_eq b 10) _ _ (ne_eqb b 10 h.0) ∙ after_more bs r h.1

-- what is dropped with the first newline leaves what stands after it
pub after_first : (bytes : List ℕ) (n : ℕ) → EndsAt bytes n → after_newline bytes ≡ drop (n + 1) bytes
after_first bytes n ends =
    let parts : bytes ≡ take n bytes ++ 10 ∷ drop (n + 1) bytes = sym (take-append-drop n bytes) ∙ ap (λ (ys : List ℕ). take n bytes ++ ys) ends.newline in
    ap after_newline parts ∙ after_more (take n bytes) (10 ∷ drop (n + 1) bytes) ends.clear

after_less : (bs : List ℕ) (most : ℕ) → 0 < most → length bs ≤ most → length (after_newline bs) < most
after_less [] most some small = some
after_less (b ∷ bs) most some small =
    elim (nat_eq b 10) as (λ t. length (cond t bs (after_newline bs)) < most) [
      | true ↦ omega (arith, small)
      | false ↦ after_less bs most some (omega (arith, small))
    ]

-- after bytes with no newline, less than what was added stands after one
pub after_added : (held block : List ℕ) (most : ℕ) → NoNewline held → 0 < most → length block ≤ most → length (after_newline (held ++ block)) < most
after_added held block most clear some small =
    subst (λ (xs : List ℕ). length xs < most) (sym (after_more held block clear)) (after_less block most some small)

-- no index holds one
pub no_newline : (xs : List ℕ) → ((k : ℕ) → k < length xs → get_or xs k 0 ≢ 10) → NoNewline xs
no_newline [] h = tt
no_newline (x ∷ xs) h = (h 0 (omega arith), no_newline xs (λ k lt. h (suc k) (omega (arith, lt))))

pub none_at : (items : List ℕ) (start : ℕ) → ((k : ℕ) → start ≤ k → k < length items → get_or items k 0 ≢ 10) → NoNewline (drop start items)
none_at items start h =
    no_newline (drop start items) (λ k lt e.
    let size : length (drop start items) ≡ length items - start = length-drop start items in
    h (start + k) (omega arith) (omega (arith, lt, size)) (sym (get_or-drop start items k 0) ∙ e))

pub ends_at : (items : List ℕ) (start at n : ℕ) → start + n ≡ at → at < length items → ((k : ℕ) → start ≤ k → k < at → get_or items k 0 ≢ 10)
    → get_or items at 0 ≡ 10 → EndsAt (drop start items) n
ends_at items start at n is lt h ten =
    let size : length (drop start items) ≡ length items - start = length-drop start items in
    let inside : n < length (drop start items) = omega (arith, is, lt, size) in
    let here : get_or (drop start items) n 0 ≡ 10 = get_or-drop start items n 0 ∙ ap (λ (i : ℕ). get_or items i 0) is ∙ ten in
    let small : length (take n (drop start items)) ≤ n = omega (arith, length-take n (drop start items)) in
    record {
      within = inside;
      clear = no_newline (take n (drop start items)) (λ k low e.
          let under : k < n = omega (arith, low, small) in
          h (start + k) (omega arith) (omega (arith, under, is)) (sym (get_or-drop start items k 0) ∙ sym (get_or-take n (drop start items) k 0 under) ∙ e));
      newline = drop_more (drop start items) n 0 inside ∙ ap (λ (b : ℕ). b ∷ drop (n + 1) (drop start items)) here;
    }

-- what was looked at before, and now
pub both_clear : (items xs : List ℕ) (start scanned at : ℕ) → xs ≡ items → ((k : ℕ) → start ≤ k → k < scanned → get_or items k 0 ≢ 10)
    → ((k : ℕ) → scanned ≤ k → k < at → get_or xs k 0 ≢ 10)
    → (k : ℕ) → start ≤ k → k < at → get_or items k 0 ≢ 10
both_clear items xs start scanned at same h g k low high =
    elim (leb_tells scanned k) [
      | inl t ↦ subst (λ (ys : List ℕ). get_or ys k 0 ≢ 10) same (g k t.1 high)
      | inr t ↦ h k low t.1
    ]

-- the byte at an index of what stands after a start
get_after : (xs ys : List ℕ) (start k : ℕ) → ys ≡ drop start xs → get_or ys k 0 ≡ get_or xs (start + k) 0
get_after xs ys start k is = ap (λ (zs : List ℕ). get_or zs k 0) is ∙ get_or-drop start xs k 0

-- no newline from a start on, where none was found after it
pub none_from : (xs ys : List ℕ) (start n : ℕ) → ys ≡ drop start xs → ((k : ℕ) → k < n → get_or ys k 0 ≢ 10) → (k : ℕ) → start ≤ k
    → k < start + n → get_or xs k 0 ≢ 10
none_from xs ys start n is none k low high e =
    let under : k - start < n = omega (arith, low, high) in
    let at : start + (k - start) ≡ k = omega (arith, low) in
    none (k - start) under (get_after xs ys start (k - start) is ∙ ap (λ (i : ℕ). get_or xs i 0) at ∙ e)

-- no newline is found among bytes that have none
pub none_stands : (n : ℕ) (bytes r : List ℕ) → NoNewline bytes → drop n bytes ≡ 10 ∷ r → ⊥
none_stands n [] r h is = absurd (omega (arith, ap length is, length-drop {A = ℕ} n []))
none_stands zero (b ∷ bs) r h is = h.0 (ap (λ (xs : List ℕ). get_or xs 0 0) is)
none_stands (suc n) (b ∷ bs) r h is = none_stands n bs r h.1 is

pub no_place : (bytes : List ℕ) → NoNewline bytes → HasNewline bytes → ⊥
no_place bytes clear has = none_stands has.0 bytes (drop (has.0 + 1) bytes) clear has.1.newline

-- a search that stopped before the end found one, and else there is none
pub found_or_none : (bytes : List ℕ) (at len n : ℕ) → (at < len → EndsAt bytes n) → (len ≤ at → NoNewline bytes) → IsTrue (nat_lt at len) ↔ HasNewline bytes
found_or_none bytes at len n ends clear =
    elim (leb_tells (suc at) len) [
      | inl t ↦ (λ yes. (n, ends (omega (arith, t.1))), λ has. t.0)
      | inr t ↦ (λ yes. absurd (true≢false (sym yes ∙ t.0)), λ has. absurd (no_place bytes (clear (omega (arith, t.1))) has))
    ]
