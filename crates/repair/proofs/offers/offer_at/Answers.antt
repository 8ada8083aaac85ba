use Rattle.std.proofs.Common.{◌≡◌, List, All, map, slice_index_or, refl, sym, ap, subst, ◌∙◌}
use Rattle.std.proofs.lemmas.List.{get_or-map}
use Rattle.plan_base.specs.declared.parts.Parts.{Parts}
use Rattle.plan_base.specs.declared.parts.GroupPart.{GroupPart}
use Rattle.plan_base.specs.declared.parts.Op.TheVariants.{Single}
use Rattle.plan_base.specs.declared.span.Span.{Span}
use Rattle.plan_base.specs.Snapshot.{IsMoment}
use Rattle.plan_base.specs.Starts.{slices_for, least_of}
use Rattle.plan_base.specs.Operators.{is_and}
use Rattle.plan_base.specs.Round.{op_at}
use Rattle.plan_base.proofs.Here.{request_here}
use Rattle.groups.proofs.Footed.{group_here}
use Rattle.repair.proofs.Valued.{offer_made}
use Rattle.repair.proofs.offers.offer_at.Goals as goal

pub least_from-requires : goal.least_from-requires
least_from-requires c =
    let here = request_here c.args.snapshot.now c.args.place c.request_at-request.result.now c.recall_valid.ensures.orderly c.requires
    c.request_at-request.ensures in
    record { moments = subst (λ (ws : List Span). All (λ w. IsMoment w.from.0) ws) (sym c.as_slice-2.ensures) (λ k d l. (here.asked.moments k d l).0) }

pub returns : goal.returns
returns c =
    let s = c.args.snapshot.now in
    let here = request_here s c.args.place c.request_at-request.result.now c.recall_valid.ensures.orderly c.requires c.request_at-request.ensures in
    let group = group_here s c.request_at-request.result.now.request.0 c.args.place c.group_at-group.result here.known
    (sym here.at) c.group_at-group.ensures.value in
    let part = c.index-as_slice-group.result in
    let groups = c.as_slice.ensures ∙ ap (λ (p : Parts). p.groups) c.parts-2.ensures.value in
    let op : (slice_index_or c.as_slice.result.now c.group_at-group.result part).op ≡ op_at s c.group_at-group.result =
    ap (λ (xs : List GroupPart). (slice_index_or xs c.group_at-group.result part).op) groups
    ∙ sym (get_or-map (λ x. x.op) s.groups c.group_at-group.result part Single c.group_at-group.ensures.within) in
    offer_made s c.args.place c.request_at-request.result.now _ c.recall_valid.ensures.orderly c.requires c.request_at-request.ensures refl
    (c.is_and.ensures ∙ ap is_and (op ∙ ap (op_at s) group)) refl refl
    (c.slices_for.ensures.value ∙ ap (λ n. slices_for n c.least_from.result) (c.from-len.ensures ∙ ap (λ (p : Parts). p.len) c.parts.ensures.value)
    ∙ ap (λ n. slices_for s.len n) (c.least_from.ensures.least ∙ ap (λ (ws : List Span). least_of (map (λ w. w.from.0) ws)) c.as_slice-2.ensures))
