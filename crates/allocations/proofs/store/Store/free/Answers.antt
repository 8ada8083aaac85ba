use Rattle.std.proofs.Common.{◌≡◌, [], set, refl}
use Rattle.std.proofs.lemmas.List.{get_or-set_same}
use Rattle.allocations.specs.declared.posting.GroupState.{GroupState}
use Rattle.allocations.specs.Store.{group_at, no_group}
use Rattle.allocations.proofs.Groups.{emptied}
use Rattle.allocations.proofs.store.Store.free.Goals as goal

pub returns-clause-freed : goal.returns-clause-freed
returns-clause-freed c =
    let gs = c.args.self.now.groups in
    let j = c.args.index in
    let unbooked : GroupState = record (group_at gs j) { holds = [] } in
    let here : group_at (set gs j unbooked) j ≡ unbooked = get_or-set_same gs j unbooked no_group c.requires.index in
    let groups = emptied gs j c.requires.index in
    rw (c.refund.ensures.refunded, c.unbook.ensures.rest, groups, here) refl
