-- What was written, and more after it.
use Rattle.std.proofs.Common.{◌≡◌, ℕ, ◌+◌, ◌≤◌, ◌<◌, List, [], ◌∷◌, ◌++◌, length, take, refl, sym, ◌∙◌, ap, subst, arith, append_assoc, append-nil}
use Rattle.std.proofs.Common.{length-append}
use Rattle.std.specs.declared.option.Option.{Option}
use Rattle.std.specs.declared.option.Option.TheVariants.{Some, None}
use Rattle.std.proofs.Math.Seq.{take-append-add}
use Rattle.plan_io.specs.declared.sink.PutAnswer.TheVariants as put
use Rattle.plan_io.specs.Sink.{Adds, Puts}
use Rattle.session.specs.Session.{WritesPrefix}

pub adds_none : (a : Option (List ℕ)) → Adds a a []
adds_none None = tt
adds_none (Some xs) = sym (append-nil xs)

pub adds_twice : (a b c : Option (List ℕ)) (xs ys : List ℕ) → Adds a b xs → Adds b c ys → Adds a c (xs ++ ys)
adds_twice None None None xs ys h g = tt
adds_twice None None (Some r) xs ys h g = absurd g
adds_twice None (Some q) c xs ys h g = absurd h
adds_twice (Some p) None None xs ys h g = tt
adds_twice (Some p) None (Some r) xs ys h g = absurd g
adds_twice (Some p) (Some q) None xs ys h g = tt
adds_twice (Some p) (Some q) (Some r) xs ys h g = g ∙ ap (λ (zs : List ℕ). zs ++ ys) h ∙ append_assoc p xs ys

take_whole : (xs : List ℕ) → take (length xs) xs ≡ xs
take_whole [] = refl
take_whole (x ∷ xs) = ap (λ (ys : List ℕ). x ∷ ys) (take_whole xs)

-- all of a text is a prefix of it
pub prefix_all : (a b : Option (List ℕ)) (text : List ℕ) → Adds a b text → WritesPrefix a b text
prefix_all a b text h = (length text, omega arith, subst (λ (xs : List ℕ). Adds a b xs) (sym (take_whole text)) h)

-- a whole text, and then the first bytes of another
adds_first : (a b c : Option (List ℕ)) (xs ys : List ℕ) (n : ℕ) → Adds a b xs → Adds b c (take n ys) → Adds a c (take (length xs + n) (xs ++ ys))
adds_first a b c xs ys n h g = subst (λ (zs : List ℕ). Adds a c zs) (sym (take-append-add xs ys n)) (adds_twice a b c xs (take n ys) h g)

-- a whole text, and then a prefix of another
pub prefix_after : (a b c : Option (List ℕ)) (xs ys : List ℕ) → Adds a b xs → WritesPrefix b c ys → WritesPrefix a c (xs ++ ys)
prefix_after a b c xs ys h w =
    let within : w.0 ≤ length ys = w.1 in
    (length xs + w.0, omega (arith, length-append xs ys, within), adds_first a b c xs ys w.0 h w.2)

-- a whole text, and then less of another
pub less_after : (a b c : Option (List ℕ)) (xs ys : List ℕ) → Adds a b xs → Puts b c put.WriteFault ys → Puts a c put.WriteFault (xs ++ ys)
less_after a b c xs ys h w =
    let within : w.0 < length ys = w.1 in
    (length xs + w.0, omega (arith, length-append xs ys, within), adds_first a b c xs ys w.0 h w.2)

-- less of a text is a prefix of it
pub prefix_put : (a b : Option (List ℕ)) (text : List ℕ) → Puts a b put.WriteFault text → WritesPrefix a b text
prefix_put a b text h = let within : h.0 < length text = h.1 in (h.0, omega arith, h.2)
