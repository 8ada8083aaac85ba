use Rattle.std.proofs.Common.{◌≡◌, ◌∙◌, sym, ap, subst, ℕ, ◌-◌, ◌<◌, List, length, get_or, set, take, drop, Option, Vec, Global, arith}
use Rattle.std.specs.Prelude.{All}
use Rattle.std.proofs.lemmas.List.{take_all, length-drop}
use Rattle.allocations.specs.declared.entry.Hold.{Hold}
use Rattle.allocations.specs.declared.sums.Amount.{Amount}
use Rattle.allocations.specs.Lowered.{IsFirstOn}
use Rattle.allocations.proofs.Lower.{at_index, lowers_skip, lowers_take}
use Rattle.allocations.proofs.lowering.lowered.Goals as goal
use Rattle.allocations.proofs.lowering.lowered.Goals.{in-Some, in_default}

from_kept : (holds : List Hold) (kept : ℕ) → take (length holds - kept) (drop kept holds) ≡ drop kept holds
from_kept holds kept = take_all (length holds - kept) (drop kept holds) (let d = length-drop kept holds in omega (arith, d))

pub first_on-requires : goal.first_on-requires
first_on-requires c =
    let keys = c.args.store.now.keys in
    let all = c.into_vec-amounts.result.items in
    let within : c.loop-index.index < length all = let t = c.loop-index-test.true in let e = c.len-index-end.ensures in
    let o = c.into_vec-amounts.result.ok.0 in omega (arith, t, e, o) in
    let same = at_index keys all c.args.holds.now c.loop-index.amounts.items c.loop-index.kept c.loop-index.index c.loop-index.invariant
    within c.index.result.now in
    let of_accounts : All (λ (m : Amount). m.account < length keys) all = subst (λ (l : List Amount). All (λ (m : Amount). m.account < length keys) l)
    (sym c.into_vec-amounts.ensures) c.requires in
    subst (λ (m : Amount). m.account < length keys) (sym (c.index.ensures ∙ same)) (of_accounts c.loop-index.index c.index.result.now within)

pub loop-index-preserved : goal.loop-index-preserved
loop-index-preserved c =
    let keys = c.args.store.now.keys in
    let all = c.into_vec-amounts.result.items in
    let holds = c.args.holds.now in
    let now = c.loop-index.amounts.items in
    let kept = c.loop-index.kept in
    let index = c.loop-index.index in
    let d = c.index.result.now in
    let within : index < length all = let t = c.loop-index-test.true in let e = c.len-index-end.ensures in let o = c.into_vec-amounts.result.ok.0 in
    omega (arith, t, e, o) in
    let first : IsFirstOn keys d.account (drop kept holds) c.first_on.result =
    subst (λ (l : List Hold). IsFirstOn keys d.account l c.first_on.result) (from_kept holds kept) c.first_on.ensures in
    let here : IsFirstOn keys (get_or now index d).account (drop kept holds) c.first_on.result =
    subst (λ (m : Amount). IsFirstOn keys m.account (drop kept holds) c.first_on.result) c.index.ensures first in
    elim c.match-first_on.branch [
      | in-Some w ↦
          (let taken = lowers_take keys all holds now kept index c.loop-index.invariant within d w.in-Some.seconds
          (subst (λ (o : Option ℕ). IsFirstOn keys (get_or now index d).account (drop kept holds) o) w.in-Some.is here) in
          let items : c.match-first_on.amounts.items ≡ set now kept record { account = (get_or now index d).account; seconds = w.in-Some.seconds } =
          ap (λ (v : Vec Amount Global). v.items) w.amounts-is
          ∙ ap (λ (m : Amount). set now kept record { account = m.account; seconds = w.in-Some.seconds }) c.index.ensures in
          rw (items, w.kept-is) taken)
      | in_default w ↦
          (let skipped = lowers_skip keys all holds now kept index c.loop-index.invariant within d
          (subst (λ (o : Option ℕ). IsFirstOn keys (get_or now index d).account (drop kept holds) o) w.in_default.is here) in
          rw (w.amounts-is, w.kept-is) skipped)
    ]
