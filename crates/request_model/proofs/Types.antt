-- Configurations of one instrument type.
use Rattle.std.proofs.Common.{◌≡◌, ℕ, ◌≤◌, List, [], ◌∷◌, length, map, get_or, true, Ok, refl, sym, subst, arith}
use Rattle.request_model.specs.declared.read.configuration.Typed.{Typed}
use Rattle.request_model.specs.Configuration.{are_of_type, of_one_type}

-- all are of the type of the first one
pub of_first : (index : ℕ) (ts : List Typed) (t : Typed) → 1 ≤ length ts → t ≡ get_or ts 0 t → are_of_type t.instrument ts ≡ true
    → of_one_type index ts ≡ Ok (record { instrument = t.instrument; configurations = map (λ u. u.configuration) ts })
of_first index [] t h e all = absurd (omega arith)
of_first index (u ∷ ts) t h e all =
    let is : t ≡ u = e in
    let same : are_of_type u.instrument (u ∷ ts) ≡ true = subst (λ (v : Typed). are_of_type v.instrument (u ∷ ts) ≡ true) is all in
    subst (λ (v : Typed). of_one_type index (u ∷ ts)
    ≡ Ok (record { instrument = v.instrument; configurations = map (λ w. w.configuration) (u ∷ ts) })) (sym is) (rw same refl)
