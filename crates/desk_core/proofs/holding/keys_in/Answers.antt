use Rattle.std.proofs.Common.{◌≡◌, ◌∙◌, ap, sym, ℕ, ◌<◌, List, [], length, get_or, arith}
use Rattle.std.specs.BTreeSet.{insert_key}
use Rattle.std.proofs.lemmas.List.Sums.{fold_more}
use Rattle.allocations.specs.declared.entry.Hold.{Hold}
use Rattle.allocations.specs.declared.key.Account.{Account}
use Rattle.allocations.specs.declared.key.Key.{Key}
use Rattle.allocations.specs.Key.{key_cmp}
use Rattle.desk_core.proofs.KeyOrder.{insert_order}
use Rattle.desk_core.proofs.holding.keys_in.Goals as goal

equal_keys : (a b : Key) → (a.proposal ≡ b.proposal) × ((a.account ≡ b.account) × (a.instrument ≡ b.instrument)) → a ≡ b
equal_keys a b h =
    ap (λ (p : List ℕ). let k : Key = record { proposal = p; account = a.account; instrument = a.instrument } in k) h.0
    ∙ ap (λ (x : Account). let k : Key = record { proposal = b.proposal; account = x; instrument = a.instrument } in k) h.1.0
    ∙ ap (λ (t : List ℕ). let k : Key = record { proposal = b.proposal; account = b.account; instrument = t } in k) h.1.1

pub loop-need-preserved : goal.loop-need-preserved
loop-need-preserved c =
    let i = c.loop-need.need-index in
    let l : i < length c.args.needs.now = omega arith in
    let step = fold_more (λ (keys : List Key) (h : Hold). insert_key key_cmp keys h.key) [] c.args.needs.now i c.need-item.result l in
    let copied : c.in_ok-clone.field-0 ≡ c.need-item.result.key = equal_keys c.in_ok-clone.field-0 c.need-item.result.key c.in_ok-clone.ensures.cases in
    c.in_ok-insert.ensures.keys ∙ insert_order c.loop-need.keys.keys c.in_ok-clone.field-0
    ∙ ap (insert_key key_cmp c.loop-need.keys.keys) (copied ∙ ap (λ (h : Hold). h.key) c.need-item.is)
    ∙ ap (λ (ks : List Key). insert_key key_cmp ks (get_or c.args.needs.now i c.need-item.result).key) c.loop-need.invariant ∙ sym step
