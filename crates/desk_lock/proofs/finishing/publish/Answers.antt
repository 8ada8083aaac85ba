use Rattle.std.proofs.Common.{◌≡◌, sym, subst, Some}
use Rattle.plan_base.specs.declared.taken.Taken.{Taken}
use Rattle.desk_book.specs.Seen.{take_of}
use Rattle.desk_lock.specs.Finishing.{EndsLine}
use Rattle.desk_lock.proofs.Lines.{answered_ends}
use Rattle.desk_lock.proofs.finishing.publish.Goals as goal

pub returns-clause-ok : goal.returns-clause-ok
returns-clause-ok g c =
    let b = c.args.book.now in
    let same = c.in_ok-solved.ensures.same_taken in
    let kept = subst (λ (t : Taken). take_of b.takes t.caller ≡ Some t) (sym same) c.requires.kept in
    subst (λ (t : Taken). EndsLine b t.caller c.publish.new.self) same
    (answered_ends b c.in_ok-solved.solved c.in_ok-publish.field-0 c.publish.new.self kept c.in_ok-publish.ensures.ok)
