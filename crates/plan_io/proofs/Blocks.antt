-- What a block has at its front.
use Rattle.std.proofs.Common.{◌≡◌, ℕ, ◌+◌, ◌-◌, ◌≤◌, min, List, ◌++◌, length, take, drop, sym, ◌∙◌, ap, subst, arith}
use Rattle.std.proofs.lemmas.List.{length-take-le, take-append-drop, take_rest, drop-drop}
use Rattle.std.proofs.Math.Seq.{take-append_seam}

-- the first n bytes of xs, now at the front of a room, and then the rest of xs
moved : (xs ys zs : List ℕ) (n : ℕ) → ys ≡ take n xs → n ≤ length xs → xs ≡ take n (ys ++ zs) ++ drop n xs
moved xs ys zs n is h =
    let size : length ys ≡ n = ap length is ∙ length-take-le n xs h in
    let front : take n (ys ++ zs) ≡ ys = subst (λ (k : ℕ). take k (ys ++ zs) ≡ ys) size (take-append_seam ys zs) in
    sym (take-append-drop n xs) ∙ ap (λ (q : List ℕ). q ++ drop n xs) (sym (front ∙ is))

-- the items from a start on are those that were copied to the front of a room, and then those after them
pub given_front : (items s room ys zs : List ℕ) (start n : ℕ) → s ≡ items → n ≡ min (length room) (length (take (length s - start) (drop start s)))
    → ys ≡ take n (take (length s - start) (drop start s))
    → drop start items ≡ take n (ys ++ zs) ++ drop (start + n) items
given_front items s room ys zs start n same count is =
    let rest : take (length s - start) (drop start s) ≡ drop start items = take_rest s start ∙ ap (drop start) same in
    let size : n ≡ min (length room) (length (drop start items)) = count ∙ ap (λ (xs : List ℕ). min (length room) (length xs)) rest in
    let copied : ys ≡ take n (drop start items) = is ∙ ap (take n) rest in
    moved (drop start items) ys zs n copied (omega (arith, size))
    ∙ ap (λ (xs : List ℕ). take n (ys ++ zs) ++ xs) (drop-drop n start items)
