-- Steps of loops over what is held.
use Rattle.std.proofs.Common.{◌≡◌, ℕ, ◌+◌, ◌<◌, ◌≤◌, ◌^◌, Bool, cond, List, [], ◌∷◌, ◌++◌, length, map, filter, take, slice_index_or, sum_by, All}
use Rattle.std.proofs.Common.{Option, sym, ◌∙◌, ap, subst, Fits, w64, arith}
use Rattle.std.proofs.lemmas.List.{take_all, map-append, take_more}
use Rattle.std.proofs.lemmas.List.Elements.{All-push}
use Rattle.std.proofs.lemmas.List.Sums.{sum_by_more_le_part}
use Rattle.plan_base.specs.declared.parts.Parts.{Parts}
use Rattle.plan_base.specs.declared.claim.Placement.{Placement}
use Rattle.rapid.specs.declared.held.Held.{Held}
use Rattle.rapid.specs.Held.{held_of}
use Rattle.rapid.proofs.Sums.{chosen, part_of}

-- a sum of a part of each is within the whole sum
pub part_fits : (p : Held → Bool) (f : Held → ℕ) (held : List Held) (i n : ℕ) (d : Held) → i < length held → sum_by f held < 2 ^ 60
    → n ≡ sum_by (λ h. cond (p h) (f h) 0) (take i held) → Fits w64 (n + f (slice_index_or held i d))
part_fits p f held i n d l small e =
    let most : sum_by (λ h. cond (p h) (f h) 0) (take i held) + f (slice_index_or held i d) ≤ sum_by f held =
    sum_by_more_le_part (λ h. cond (p h) (f h) 0) f held i d l (λ h. part_of (p h) (f h)) in
    omega arith

pub part_whole : (p : Held → Bool) (f : Held → ℕ) (held : List Held) (i n : ℕ) → length held ≤ i → n ≡ sum_by (λ h. cond (p h) (f h) 0) (take i held)
    → n ≡ sum_by f (filter p held)
part_whole p f held i n l e = e ∙ ap (sum_by (λ (h : Held). cond (p h) (f h) 0)) (take_all i held l) ∙ sym (chosen p f held)

pub mapped_more : (s : Parts) (u : Option ℕ) (plan : List Placement) (i : ℕ) (d : Placement) (held new : List Held) (h : Held) → i < length plan
    → held ≡ map (held_of s u) (take i plan) → h ≡ held_of s u (slice_index_or plan i d) → new ≡ held ++ h ∷ []
    → new ≡ map (held_of s u) (take (i + 1) plan)
mapped_more s u plan i d held new h l e is pushed =
    pushed ∙ ap (λ (hs : List Held). hs ++ h ∷ []) e ∙ ap (λ (x : Held). map (held_of s u) (take i plan) ++ x ∷ []) is
    ∙ sym (map-append (held_of s u) (take i plan) (slice_index_or plan i d ∷ [])) ∙ ap (map (held_of s u)) (sym (take_more plan i d l))

pub all_more : {X : Type 0} (P : X → Type 0) (old new : List X) (x : X) → All P old → P x → new ≡ old ++ x ∷ [] → All P new
all_more P old new x a h e = subst (All P) (sym e) (All-push P old x a h)
