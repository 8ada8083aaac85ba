use Rattle.std.proofs.Common.{refl, ap, ◌∙◌, slice_index_or, List}
use Rattle.plan_base.specs.declared.parts.Parts.{Parts}
use Rattle.plan_base.specs.declared.parts.GroupPart.{GroupPart}
use Rattle.groups.proofs.Footed.{seconds_here, group_here, quota_here}
use Rattle.groups.proofs.Runs.{kind_here}
use Rattle.groups.proofs.footprint.footprint_of.Goals as goal

pub returns : goal.returns
returns c =
    let groups = c.as_slice.ensures ∙ ap (λ (s : Parts). s.groups) c.parts-parts.ensures.value in
    let group = group_here c.args.snapshot.now c.args.placement.request.0 c.known_place-place.result c.group_at-group.result c.requires.possible.known
    c.known_place-place.ensures.value c.group_at-group.ensures.value in
    let seconds = c.from-seconds.ensures
    ∙ seconds_here c.args.snapshot.now c.args.placement.request.0 c.known_place-place.result c.request_at.result.now c.requires.possible.known
    c.known_place-place.ensures.value c.request_at.ensures in
    record {
      place = c.known_place-place.ensures.value;
      group = group;
      kind = kind_here c.args.snapshot.now _ c.group_at-group.result c.index-as_slice-group.result c.index-as_slice-group.result.op groups
          c.group_at-group.ensures.within c.index-as_slice-group.is refl;
      quota = ap (λ (x : GroupPart). x.quota) c.index-as_slice-group.is
          ∙ ap (λ (xs : List GroupPart). (slice_index_or xs c.group_at-group.result c.index-as_slice-group.result).quota) groups
          ∙ quota_here c.args.snapshot.now c.args.placement.request.0 c.group_at-group.result c.index-as_slice-group.result c.requires.possible.known group;
      seconds = seconds;
      from = c.at-slots.ensures.from;
      to = c.at-slots.ensures.to;
    }
