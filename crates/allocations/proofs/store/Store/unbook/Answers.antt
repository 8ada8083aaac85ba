use Rattle.std.proofs.Common.{◌≡◌, ◌∙◌, sym, ap, subst, ◌+◌, ◌<◌, ℕ, List, [], length, get_or, set, refl, arith}
use Rattle.std.proofs.lemmas.List.{get_or_default}
use Rattle.allocations.specs.declared.sums.Sums.{Sums}
use Rattle.allocations.specs.declared.posting.GroupState.{GroupState}
use Rattle.allocations.specs.Amounts.{amount_at, no_sums}
use Rattle.allocations.specs.Raw.{Tied}
use Rattle.allocations.specs.Store.{group_at, no_group}
use Rattle.allocations.proofs.Groups.{tied_set, grouped_set, put_all}
use Rattle.allocations.proofs.store.Store.unbook.Goals as goal

pub invariant_of-self : goal.invariant_of-self
invariant_of-self c =
    let inside = c.self.inside in
    let j = c.args.index in
    let t = c.self.invariant.tied in
    let within : j < length inside.groups.items = rw (← c.self.view_is) at c.requires in
    let state : c.index_mut-state.result.now ≡ group_at inside.groups.items j = c.index_mut-state.ensures.value
    ∙ get_or_default inside.groups.items j c.index_mut-state.result.now no_group within in
    let g = record (group_at inside.groups.items j) { holds = [] } in
    let emptied : c.replace-holds.new.dest ≡ [] = c.replace-holds.ensures.after ∙ c.new.ensures in
    let lowered : c.as_slice.result.now ≡ (group_at inside.groups.items j).holds = c.as_slice.ensures ∙ c.replace-holds.ensures.value
    ∙ ap (λ (s : GroupState). s.holds) state in
    let sums : c.as_mut_slice.result.now ≡ inside.sums.items = c.as_mut_slice.ensures.value in
    let lengths : length c.lower.new.sums ≡ length inside.sums.items = c.lower.auto.sums ∙ ap (λ (l : List Sums). length l) sums in
    let less : (i : ℕ) → i < length inside.sums.items → (get_or c.lower.new.sums i no_sums).held + amount_at i (group_at inside.groups.items j).holds
    ≡ (get_or inside.sums.items i no_sums).held = rw (sums, lowered) at c.lower.ensures.held in
    let same : (i : ℕ) → i < length inside.sums.items → (get_or c.lower.new.sums i no_sums).balance ≡ (get_or inside.sums.items i no_sums).balance =
    rw sums at c.lower.ensures.balance in
    let held : (i : ℕ) → i < length inside.register.keys
    → (get_or c.lower.new.sums i no_sums).held + amount_at i (group_at inside.groups.items j).holds ≡ (get_or inside.sums.items i no_sums).held =
    λ i l. less i (omega (arith, t.lengths)) in
    let balance : (i : ℕ) → i < length inside.register.keys
    → (get_or c.lower.new.sums i no_sums).balance ≡ (get_or inside.sums.items i no_sums).balance = λ i l. same i (omega (arith, t.lengths)) in
    let tied = tied_set inside.register.keys inside.sums.items c.lower.new.sums inside.postings.items inside.groups.items j g t within
    ((λ a b m. absurd (omega arith)), (t.of_accounts j no_group within).1) lengths balance (λ i l. let h = held i l in
    omega (arith, h)) (λ i l. let h = held i l in let b = balance i l in let o = t.covered i l in omega (arith, h, b, o)) in
    rw (state, emptied) record {
      tied = subst (λ (s : List Sums). Tied inside.register.keys s inside.postings.items (set inside.groups.items j g))
          (sym (put_all inside.sums.len c.lower.new.sums inside.sums.items inside.sums.ok.0 lengths)) tied;
      grouped = grouped_set inside.register.keys inside.groups.items j g c.self.invariant.grouped refl (λ a b d l m. absurd (omega arith));
      room = c.self.invariant.room;
    }
