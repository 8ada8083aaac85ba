use Rattle.std.proofs.Common.{◌≡◌, ◌∙◌, length, fold, ap, sym, subst, arith}
use Rattle.allocations.specs.Books.{Books}
use Rattle.desk_runs.specs.Changes.{changed}
use Rattle.desk_runs.specs.Progress.{Progress}
use Rattle.desk_core.specs.Desk.{DeskSeen, seen}
use Rattle.desk_core.specs.Endings.{ended, CanEndAll, refunds_in, told_along}
use Rattle.desk_core.specs.Holds.{after_group, groups_along}
use Rattle.desk_core.proofs.Along.{EndsAll}
use Rattle.desk_core.proofs.ToldAlong.{few_refunds}
use Rattle.desk_core.proofs.WentOn.{ends_of, refunds_are, few_of}
use Rattle.desk_core.proofs.desk.Desk.go_on.Goals as goal

pub overflow_cast-len : goal.overflow_cast-len
overflow_cast-len c =
    let few = few_of (seen c.args.self.now) (changed c.args.self.now.runs c.args.change) c.args.change.groups c.requires.desk in
    let same = ap length c.in_ok-endings.ensures in
    omega (arith, few, same, c.len.ensures, c.in_ok-endings.endings.ok.0)

pub overflow_add-len : goal.overflow_add-len
overflow_add-len c =
    let few = few_of (seen c.args.self.now) (changed c.args.self.now.runs c.args.change) c.args.change.groups c.requires.desk in
    let same = ap length c.in_ok-endings.ensures in
    omega (arith, few, same, c.len.ensures, c.in_ok-endings.endings.ok.0, c.requires.room)

pub end_groups-requires-clause-can : goal.end_groups-requires-clause-can
end_groups-requires-clause-can c =
    let d : DeskSeen = seen c.args.self.now in
    let after : Progress = changed c.args.self.now.runs c.args.change in
    let ends : EndsAll d.books (groups_along d after) (told_along c.args.change.groups d after) =
    ends_of d after c.args.change.groups c.requires.desk c.requires.can.later c.requires.can.told c.requires.few in
    subst (λ (b : Books). CanEndAll b c.as_slice-2.result.now) (sym c.in_ok-reserve.ensures.books)
    (subst (CanEndAll d.books) (sym (c.as_slice-2.ensures.value ∙ c.in_ok-endings.ensures)) ends.can)

pub end_groups-requires-clause-spare : goal.end_groups-requires-clause-spare
end_groups-requires-clause-spare c =
    let few = few_refunds c.as_slice-2.result.now in
    let same = ap length c.as_slice-2.ensures.value in
    omega (arith, few, same, c.len.ensures, c.in_ok-endings.endings.ok.0, c.in_ok-reserve.ensures.spare)

pub returns-clause-seen : goal.returns-clause-seen
returns-clause-seen c =
    let d : DeskSeen = seen c.args.self.now in
    let after : Progress = changed c.args.self.now.runs c.args.change in
    let ends : EndsAll d.books (groups_along d after) (told_along c.args.change.groups d after) =
    ends_of d after c.args.change.groups c.requires.desk c.requires.can.later c.requires.can.told c.requires.few in
    let books : c.end_groups.new.ledger.books ≡ fold after_group d.books (groups_along d after) =
    c.end_groups.ensures.books ∙ ap (λ (b : Books). fold ended b c.as_slice-2.result.now) c.in_ok-reserve.ensures.books
    ∙ ap (fold ended d.books) (c.as_slice-2.ensures.value ∙ c.in_ok-endings.ensures) ∙ sym ends.same in
    ap (λ (b : Books). let x : DeskSeen = record d { books = b; progress = c.make.new.self } in x) books
    ∙ ap (λ (p : Progress). let x : DeskSeen = record d { books = fold after_group d.books (groups_along d after); progress = p } in x) c.make.ensures

pub returns-clause-refunds : goal.returns-clause-refunds
returns-clause-refunds c =
    c.in_ok-refunds.ensures ∙ ap refunds_in (c.as_slice.ensures.value ∙ c.in_ok-endings.ensures)
    ∙ refunds_are (seen c.args.self.now) (changed c.args.self.now.runs c.args.change) c.args.change.groups c.requires.desk
    c.requires.can.later c.requires.can.told

pub returns-clause-spare : goal.returns-clause-spare
returns-clause-spare c =
    let few = few_refunds c.as_slice-2.result.now in
    let same = ap length c.as_slice-2.ensures.value in
    omega (arith, few, same, c.len.ensures, c.in_ok-endings.endings.ok.0, c.in_ok-reserve.ensures.spare, c.end_groups.ensures.spare)
