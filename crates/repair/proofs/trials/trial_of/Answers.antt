use Rattle.std.proofs.Common.{◌≡◌, List, map, slice_index_or, All, refl, sym, ◌∙◌, ap, subst}
use Rattle.plan_base.specs.declared.parts.Parts.{Parts}
use Rattle.plan_base.specs.declared.parts.GroupPart.{GroupPart}
use Rattle.plan_base.specs.declared.parts.RequestPart.{RequestPart}
use Rattle.plan_base.specs.Requests.{IsKnown}
use Rattle.groups.proofs.Runs.{kind_here}
use Rattle.repair.specs.Entries.{numbers_of, number_at}
use Rattle.repair.specs.Orders.{IsFallingOrder}
use Rattle.repair.specs.Trials.{trial_worth}
use Rattle.repair.proofs.Made.{group_known_all, trial_made}
use Rattle.repair.proofs.trials.trial_of.Goals as goal

pub entries_of-requires-clause-known : goal.entries_of-requires-clause-known
entries_of-requires-clause-known c =
    let s = c.args.snapshot.now in
    let part = c.index-as_slice-group.result in
    let at : slice_index_or s.groups c.args.group part ≡ part =
    sym (c.index-as_slice-group.is ∙ ap (λ (gs : List GroupPart). slice_index_or gs c.args.group part)
    (c.as_slice.ensures ∙ ap (λ (p : Parts). p.groups) c.parts.ensures.value)) in
    subst (λ (qs : List RequestPart). All (λ q. IsKnown s q.request.0) qs) (sym c.as_slice-requests.ensures)
    (group_known_all s c.args.group part c.parts.ensures.orderly c.requires.group at)

pub returns : goal.returns
returns c =
    let s = c.args.snapshot.now in
    let part = c.index-as_slice-group.result in
    let groups = c.as_slice.ensures ∙ ap (λ (p : Parts). p.groups) c.parts.ensures.value in
    let at : slice_index_or s.groups c.args.group part ≡ part =
    sym (c.index-as_slice-group.is ∙ ap (λ (gs : List GroupPart). slice_index_or gs c.args.group part) groups) in
    let falls : IsFallingOrder (map (trial_worth part.op) part.requests) c.deref.result.now
    = subst (λ (qs : List RequestPart). IsFallingOrder (map (trial_worth part.op) qs) c.deref.result.now) c.as_slice-requests.ensures
    (subst (IsFallingOrder (map (trial_worth part.op) c.as_slice-requests.result.now)) (sym c.deref.ensures.value) c.in_ok-order.ensures)
    in
    let numbered : numbers_of c.in_ok-entries.entries.items ≡ map (number_at part.requests) c.deref.result.now
    = subst (λ (qs : List RequestPart). numbers_of c.in_ok-entries.entries.items ≡ map (number_at qs) c.deref.result.now) c.as_slice-requests.ensures
    c.in_ok-entries.ensures.numbers
    in
    trial_made s c.args.group part c.deref.result.now _ c.parts.ensures.orderly c.requires.group at
    (kind_here s _ c.args.group part part.op groups c.requires.group c.index-as_slice-group.is refl) refl falls
    c.in_ok-entries.ensures.entries numbered
