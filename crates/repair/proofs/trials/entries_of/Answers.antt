use Rattle.std.proofs.Common.{All, sym, ◌∙◌, ap, subst}
use Rattle.std.proofs.lemmas.List.Elements.{All-push}
use Rattle.plan_base.specs.declared.parts.RequestPart.{RequestPart}
use Rattle.repair.specs.Entries.{IsEntry}
use Rattle.repair.proofs.Made.{numbers_more}
use Rattle.repair.proofs.trials.entries_of.Goals as goal

pub loop-place-preserved : goal.loop-place-preserved
loop-place-preserved c = record {
  entries = subst (All (IsEntry c.args.snapshot.now)) (sym c.in_ok-push.ensures.items)
      (All-push (IsEntry c.args.snapshot.now) c.loop-place.entries.items c.in_ok-entry_of.field-0 c.loop-place.invariant.entries
      c.in_ok-entry_of.ensures.entry);
  numbers = numbers_more c.args.requests.now c.args.order.now c.loop-place.entries.items c.push.new.self.items c.in_ok-entry_of.field-0
      c.index-requests-place.result c.loop-place.place-index c.loop-place-test.true
      (c.requires.within c.loop-place.place-index 0 c.loop-place-test.true) c.index-requests-place.is
      (c.in_ok-entry_of.ensures.number ∙ ap (λ (q : RequestPart). q.request) (sym c.index-requests-place.is)) c.in_ok-push.ensures.items
      c.loop-place.invariant.numbers;
}
