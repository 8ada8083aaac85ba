use Rattle.std.proofs.Common.{◌∙◌, ap, sym, arith, map, get_or, length, ◌<◌, ◌≡◌, ◌+◌, ◌-◌, Some, Ok}
use Rattle.std.proofs.lemmas.Option.{get_or_from_slice_get}
use Rattle.plan_base.specs.declared.number.GroupNo.{GroupNo}
use Rattle.desk_events.specs.declared.refusal.Refusal.TheVariants.{NoSuchGroup}
use Rattle.desk_events.specs.declared.reply.Reply.TheVariants.{Shown}
use Rattle.desk_runs.specs.declared.group.Group.{Group}
use Rattle.desk_runs.specs.Numbers.{group_at}
use Rattle.desk_runs.proofs.Places.{counted_from}
use Rattle.desk_core.specs.declared.desk.Submitted.{Submitted}
use Rattle.desk_core.specs.Desk.{DeskSeen, seen}
use Rattle.desk_core.specs.Kept.{IsDesk}
use Rattle.desk_core.specs.Refusals.{refusal_in}
use Rattle.desk_core.specs.Showing.{shown_group, member_state}
use Rattle.desk_core.proofs.Shown.{IsFound, found_at, not_found, copied}
use Rattle.desk_core.proofs.WentOn.{as_submitted}
use Rattle.desk_core.proofs.desk.Desk.show.Goals as goal

-- no group has the number
pub returns-in_default : goal.returns-in_default
returns-in_default c =
    let d = seen c.args.self.now in
    record {
      ok = tt;
      refused = λ _. (
        NoSuchGroup,
        ap shown_group (not_found c.args.number d.groups d.progress.groups (sym c.in_default.ensures)),
        ap refusal_in c.into.ensures,
      );
    }

-- the group's place
found : (d : DeskSeen) → IsDesk d → (n : GroupNo) (g : Group) → Some g ≡ group_at d.progress.groups n → IsFound 0 n d.groups d.progress.groups g
found d h n g there = found_at 0 n d.groups d.progress.groups g (as_submitted d h)
    (counted_from (map (λ x. x.number.0) d.progress.groups) h.sound.numbered.groups) (sym there)

pub submission-submitted-requires : goal.submission-submitted-requires
submission-submitted-requires c =
    let place = found (seen c.args.self.now) c.requires c.args.number c.in-Some.group.now c.in-Some.ensures in
    let at : c.args.number.0 ≡ 0 + place.place + 1 = place.at in
    let within : place.place < length c.args.self.now.submitted.items = place.within in
    (omega (arith, at), omega (arith, at, within))

pub returns : goal.returns
returns c =
    let d = seen c.args.self.now in
    let n = c.args.number in
    let g = c.in-Some.group.now in
    let w = c.submission-submitted.result.now in
    let place = found d c.requires n g c.in-Some.ensures in
    let at : n.0 ≡ 0 + place.place + 1 = place.at in
    let index : n.0 - 1 ≡ place.place = omega (arith, at) in
    let is : w ≡ get_or d.groups place.place w = sym (get_or_from_slice_get d.groups (n.0 - 1) w w c.submission-submitted.ensures)
    ∙ (λ j. get_or d.groups (index j) w) in
    let clone = c.in_ok-clone.ensures.cases in
    let document : w.document ≡ c.in_ok-clone.field-0 = sym (λ j. record {
      name = clone.0 j;
      proposal = clone.1.0 j;
      op = clone.1.1.0 j;
      kind = clone.1.1.1.0 j;
      ipp = clone.1.1.1.1.0 j;
      priority = clone.1.1.1.1.1.0 j;
      requests = copied w.document.requests c.in_ok-clone.field-0.requests clone.1.1.1.1.1.1 j;
    }) in
    let states : map member_state g.requests ≡ c.in_ok-states_of.field-0 = ap (map member_state) (sym c.as_slice.ensures) ∙ sym c.in_ok-states_of.ensures in
    record {
      ok = ap shown_group (place.found w ∙ ap (λ (v : Submitted). Some (v, g)) (sym is))
          ∙ (λ j. Ok (Shown (document j) (place.number j) (states j) (sym c.state.ensures j)));
      refused = tt;
    }
