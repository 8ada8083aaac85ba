use Rattle.std.proofs.Common.{◌≡◌, ◌<◌, ◌+◌, ℕ, min, [], ◌∷◌, ◌++◌, List, length, slice_index_or, slice_set, sym, ◌∙◌, ap, subst, arith}
use Rattle.std.specs.Vec.{vec_capacity}
use Rattle.std.proofs.lemmas.List.{get_or_default, length-map}
use Rattle.plan_base.specs.declared.parts.Parts.{Parts}
use Rattle.plan_base.specs.declared.claim.Placement.{Placement}
use Rattle.plan_base.specs.Requests.{listed, place_of, IsKnown}
use Rattle.interval_solver.specs.Uses.{Started, AreUsesOf}
use Rattle.interval_solver.proofs.Tallying.{count_at_most}
use Rattle.interval_solver.proofs.Used.{uses_more}
use Rattle.interval_solver.proofs.uses.Uses.add.Goals as goal

-- a known request is counted
counted : (s t : Parts) (starts : List Placement) (places counts : List ℕ) (n r : ℕ) → s ≡ t → AreUsesOf s starts places counts → IsKnown t r
    → n ≡ place_of t r → n < length counts
counted s t starts places counts n r same uses known at =
    let here : IsKnown s r = subst (λ (x : Parts). IsKnown x r) (sym same) known in
    let place : n ≡ place_of s r = at ∙ ap (λ (x : Parts). place_of x r) (sym same) in
    let requests : length counts ≡ length (listed s) = uses.requests in
    omega arith

-- there are as many places as starts
as_many : (s : Parts) (starts : List Placement) (places counts : List ℕ) → AreUsesOf s starts places counts → length places ≡ length starts
as_many s starts places counts uses = ap (λ (ns : List ℕ). length ns) uses.places_are ∙ length-map starts (λ (p : Placement). place_of s p.request.0)

pub overflow_add-index_mut : goal.overflow_add-index_mut
overflow_add-index_mut c =
    let uses = c.self.invariant.0 in
    let within : c.args.place < length c.self.inside.counts.items
    = counted c.self.inside.snapshot.now c.args.self.now.snapshot c.self.inside.starts.items c.self.inside.places.items c.self.inside.counts.items
    c.args.place c.args.start.request.0 (ap (λ (u : Started). u.snapshot) c.self.view_is) uses c.requires.known c.requires.place
    in
    let same : c.index_mut.result.now ≡ slice_index_or c.self.inside.counts.items c.args.place 0 = c.index_mut.ensures.value
    ∙ get_or_default c.self.inside.counts.items c.args.place _ 0 within in
    let most = count_at_most c.self.inside.places.items c.self.inside.counts.items c.args.place uses.tally within in
    let many = as_many c.self.inside.snapshot.now c.self.inside.starts.items c.self.inside.places.items c.self.inside.counts.items uses in
    let starts : length c.self.inside.starts.items ≡ length c.args.self.now.starts = ap (λ (u : Started). length u.starts) c.self.view_is in
    let room = ap (λ (u : Started). u.room) c.self.view_is in
    let few = c.self.invariant.1 in
    omega (arith, same, most, many, starts, room, few, c.requires.room)

pub invariant_of-self : goal.invariant_of-self
invariant_of-self c =
    let uses = c.self.invariant.0 in
    let snapshot : c.self.inside.snapshot.now ≡ c.args.self.now.snapshot = ap (λ (u : Started). u.snapshot) c.self.view_is in
    let within : c.args.place < length c.self.inside.counts.items
    = counted c.self.inside.snapshot.now c.args.self.now.snapshot c.self.inside.starts.items c.self.inside.places.items c.self.inside.counts.items
    c.args.place c.args.start.request.0 snapshot uses c.requires.known c.requires.place
    in
    let same : c.index_mut.result.now ≡ slice_index_or c.self.inside.counts.items c.args.place 0 = c.index_mut.ensures.value
    ∙ get_or_default c.self.inside.counts.items c.args.place _ 0 within in
    let known : IsKnown c.self.inside.snapshot.now c.args.start.request.0 =
    subst (λ (s : Parts). IsKnown s c.args.start.request.0) (sym snapshot) c.requires.known in
    let place : c.args.place ≡ place_of c.self.inside.snapshot.now c.args.start.request.0 = c.requires.place
    ∙ ap (λ (s : Parts). place_of s c.args.start.request.0) (sym snapshot) in
    let more : AreUsesOf c.self.inside.snapshot.now (c.self.inside.starts.items ++ c.args.start ∷ [])
    (c.self.inside.places.items ++ c.args.place ∷ []) (slice_set c.self.inside.counts.items c.args.place (c.index_mut.result.now + 1))
    = uses_more c.self.inside.snapshot.now c.self.inside.starts.items c.self.inside.places.items c.self.inside.counts.items c.args.start c.args.place
    c.index_mut.result.now known place same within uses
    in (
      subst (λ (starts : List Placement). AreUsesOf c.self.inside.snapshot.now starts c.push_reserved.new.self.items
          (slice_set c.self.inside.counts.items c.args.place (c.index_mut.result.now + 1))) (sym c.push_reserved-2.ensures.items)
          (subst (λ (places : List ℕ). AreUsesOf c.self.inside.snapshot.now (c.self.inside.starts.items ++ c.args.start ∷ []) places
          (slice_set c.self.inside.counts.items c.args.place (c.index_mut.result.now + 1))) (sym c.push_reserved.ensures.items) more),
      subst (λ (n : ℕ). n < 4294967296)
          (sym (ap (λ (n : ℕ). min n (vec_capacity c.push_reserved.new.self)) c.push_reserved-2.ensures.capacity
          ∙ ap (λ (n : ℕ). min (vec_capacity c.self.inside.starts) n) c.push_reserved.ensures.capacity))
          c.self.invariant.1,
    )
