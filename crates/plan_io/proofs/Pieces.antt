-- What was written of a piece, and then of the rest of it.
use Rattle.std.proofs.Common.{◌≡◌, ℕ, ◌+◌, ◌-◌, List, ◌++◌, length, take, drop, sym, ◌∙◌, ap, append_assoc}
use Rattle.std.specs.declared.option.Option.{Option}
use Rattle.std.specs.declared.option.Option.TheVariants.{Some, None}
use Rattle.std.proofs.lemmas.List.{take_rest}
use Rattle.std.proofs.Math.Seq.{take-add}
use Rattle.plan_io.specs.Sink.{Adds}

-- the first d bytes of a piece were written, and then n of the rest
pub adds_more : (a b c : Option (List ℕ)) (xs : List ℕ) (d n : ℕ) → Adds a b (take d xs) → Adds b c (take n (take (length xs - d) (drop d xs)))
    → Adds a c (take (d + n) xs)
adds_more None None None xs d n h g = tt
adds_more None None (Some r) xs d n h g = g
adds_more None (Some q) c xs d n h g = absurd h
adds_more (Some p) b None xs d n h g = tt
adds_more (Some p) None (Some r) xs d n h g = absurd g
adds_more (Some p) (Some q) (Some r) xs d n h g =
    let more : take (length xs - d) (drop d xs) ≡ drop d xs = take_rest xs d in
    g
    ∙ ap (λ (ys : List ℕ). q ++ take n ys) more
    ∙ ap (λ (ys : List ℕ). ys ++ take n (drop d xs)) h
    ∙ append_assoc p (take d xs) (take n (drop d xs))
    ∙ ap (λ (ys : List ℕ). p ++ ys) (sym (take-add d n xs))
