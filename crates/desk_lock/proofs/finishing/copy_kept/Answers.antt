use Rattle.std.proofs.Common.{rules, ◌≡◌, Some}
use Rattle.lanes.specs.Solving.{IsInRange}
use Rattle.desk_book.specs.Seen.{take_of}
use Rattle.desk_lock.proofs.Ranges.{open_in_range, open_named, on_copy}
use Rattle.desk_lock.proofs.finishing.copy_kept.Goals as goal

pub returns-clause-caller : goal.returns-clause-caller
returns-clause-caller c =
    let is : take_of c.args.book.now.takes c.args.caller ≡ Some c.unwrap.result.now = search rules in
    on_copy (λ taken. taken.caller ≡ c.args.caller) c.copy.result c.unwrap.result.now c.copy.ensures
    (open_named c.args.book.now c.args.caller c.unwrap.result.now c.callers.ensures.book is)

pub returns-clause-range : goal.returns-clause-range
returns-clause-range c =
    let is : take_of c.args.book.now.takes c.args.caller ≡ Some c.unwrap.result.now = search rules in
    on_copy (λ taken. IsInRange taken.settings) c.copy.result c.unwrap.result.now c.copy.ensures
    (open_in_range c.args.book.now c.args.caller c.unwrap.result.now c.callers.ensures.book is)
