use Rattle.std.proofs.Common.{◌≡◌, ◌∙◌, ap, sym, subst, ◌+◌, ◌<◌, ◌≤◌, List, All, length, map, arith}
use Rattle.std.proofs.lemmas.Grind.{common_steps}
use Rattle.std.proofs.lemmas.List.{length-map}
use Rattle.plan_base.specs.declared.number.GroupNo.{GroupNo}
use Rattle.plan_base.specs.declared.parts.Op.{Op}
use Rattle.desk_runs.specs.declared.group.Ask.{Ask}
use Rattle.desk_runs.specs.declared.group.Group.{Group}
use Rattle.desk_runs.specs.Adding.{next_group, with_group, IsOneMore}
use Rattle.desk_runs.specs.Progress.{Progress}
use Rattle.desk_runs.specs.Turning.{group_of}
use Rattle.desk_core.specs.declared.asking.Made.{Made}
use Rattle.desk_core.specs.Asking.{MadeSeen, seen_made}
use Rattle.desk_core.specs.declared.desk.Submitted.{Submitted}
use Rattle.desk_core.specs.Desk.{DeskSeen}
use Rattle.desk_core.specs.Submitting.{asks_of, op_of, wanted_of}
use Rattle.desk_core.proofs.Drafts.{short_made, late_asks, count_asks, added_group, added_count, few_of, added_short}
use Rattle.desk_core.proofs.desk.Desk.draft.Goals as goal

pub wanted_for-requires-clause-seconds : goal.wanted_for-requires-clause-seconds
wanted_for-requires-clause-seconds c = short_made c.args.self.now.runs.moment c.args.made.items c.requires.made.each

pub add-requires-clause-late : goal.add-requires-clause-late
add-requires-clause-late c =
    let s : Progress = c.args.self.now.runs in
    let made : List MadeSeen = map seen_made c.args.made.items in
    let asks : c.as_slice-2.result.now ≡ asks_of made = c.as_slice-2.ensures.value ∙ c.in_ok-asks.ensures
    ∙ ap (λ (ms : List Made). asks_of (map seen_made ms)) c.as_slice.ensures.value in
    subst (λ (l : List Ask). All (λ a. s.moment.0 < a.last.0) l) (sym asks) (late_asks s.moment made c.requires.made.each)

-- the new group is that of what is asked for
is_added : (op : Op) (asks : List Ask) (made : List MadeSeen) (s t : Progress) (number : GroupNo) → asks ≡ asks_of made → t ≡ with_group op asks s
    → number.0 ≡ length s.groups + 1 → group_of t.groups number ≡ next_group op (asks_of made) s
is_added op asks made s t number a e n =
    ap (λ (p : Progress). group_of p.groups number) e ∙ added_group op asks s number n ∙ ap (λ (l : List Ask). next_group op l s) a

pub new_group-requires-clause-count : goal.new_group-requires-clause-count
new_group-requires-clause-count c =
    let s : Progress = c.args.self.now.runs in
    let made : List MadeSeen = map seen_made c.args.made.items in
    let asks : c.as_slice-2.result.now ≡ asks_of made = c.as_slice-2.ensures.value ∙ c.in_ok-asks.ensures
    ∙ ap (λ (ms : List Made). asks_of (map seen_made ms)) c.as_slice.ensures.value in
    let group = is_added c.op_of-op.result c.as_slice-2.result.now made s c.add.new.self c.in_ok-number.number asks c.in_ok-number.ensures.added
    c.in_ok-number.ensures.number in
    ap length c.in_ok-wanted.ensures ∙ length-map made (wanted_of c.args.self.now.network.registry.targets c.args.document.now)
    ∙ sym (added_count c.op_of-op.result made s) ∙ ap (λ (g : Group). length g.requests) (sym group)

pub new_group-requires-clause-few : goal.new_group-requires-clause-few
new_group-requires-clause-few c =
    let s : Progress = c.args.self.now.runs in
    let made : List MadeSeen = map seen_made c.args.made.items in
    let asks : c.as_slice-2.result.now ≡ asks_of made = c.as_slice-2.ensures.value ∙ c.in_ok-asks.ensures
    ∙ ap (λ (ms : List Made). asks_of (map seen_made ms)) c.as_slice.ensures.value in
    let group = is_added c.op_of-op.result c.as_slice-2.result.now made s c.add.new.self c.in_ok-number.number asks c.in_ok-number.ensures.added
    c.in_ok-number.ensures.number in
    let few = few_of (op_of c.args.document.now made) (length made) c.requires.made.shape.high in
    let count : length (group_of c.add.new.self.groups c.in_ok-number.number).requests ≡ length made =
    ap (λ (g : Group). length g.requests) group ∙ added_count c.op_of-op.result made s in
    omega (arith, few, count)

pub new_group-requires-clause-short : goal.new_group-requires-clause-short
new_group-requires-clause-short c =
    let s : Progress = c.args.self.now.runs in
    let made : List MadeSeen = map seen_made c.args.made.items in
    let asks : c.as_slice-2.result.now ≡ asks_of made = c.as_slice-2.ensures.value ∙ c.in_ok-asks.ensures
    ∙ ap (λ (ms : List Made). asks_of (map seen_made ms)) c.as_slice.ensures.value in
    let group = is_added c.op_of-op.result c.as_slice-2.result.now made s c.add.new.self c.in_ok-number.number asks c.in_ok-number.ensures.added
    c.in_ok-number.ensures.number in
    subst (λ (g : Group). All (λ q. q.seconds ≤ 86400) g.requests) (sym group) (added_short c.op_of-op.result s.moment made s c.requires.made.each)

pub returns-clause-unchanged : goal.returns-clause-unchanged
returns-clause-unchanged c =
    let before = c.args.self.now in
    let made : List MadeSeen = map seen_made c.args.made.items in
    let some : 1 ≤ length c.as_slice-2.result.now =
    let asks : c.as_slice-2.result.now ≡ asks_of made = c.as_slice-2.ensures.value ∙ c.in_ok-asks.ensures
    ∙ ap (λ (ms : List Made). asks_of (map seen_made ms)) c.as_slice.ensures.value in
    omega (arith, ap length asks, count_asks made, c.requires.made.shape.low) in
    let one : IsOneMore before.runs c.add.new.self =
    record {
      sound = c.requires.sound;
      op = c.op_of-op.result;
      asks = c.as_slice-2.result.now;
      some = some;
      added = c.in_ok-number.ensures.added;
    } in
    let of : List Submitted → Progress
    → DeskSeen = λ groups progress. record {
      opening = before.opening;
      network = before.network;
      books = before.ledger.books;
      groups = groups;
      progress = progress;
      published = before.published;
    } in
    ap (λ (l : List Submitted). of l c.forget_last.new.self) c.in_ok-reserve.ensures.items
    ∙ ap (of before.submitted.items) (c.forget_last.ensures before.runs one)

pub add-requires-clause-some : goal.add-requires-clause-some
add-requires-clause-some c = grind (arith, common_steps)

pub add-requires-clause-few : goal.add-requires-clause-few
add-requires-clause-few c = grind (arith, common_steps)

pub new_group-requires-clause-there : goal.new_group-requires-clause-there
new_group-requires-clause-there c = grind (arith, common_steps)

pub returns-in-Ok-clause-new : goal.returns-in-Ok-clause-new
returns-in-Ok-clause-new c = grind (arith, common_steps)

pub returns-in-Ok-clause-added : goal.returns-in-Ok-clause-added
returns-in-Ok-clause-added c = grind (arith, common_steps)

pub forget_last-requires : goal.forget_last-requires
forget_last-requires c = grind (arith, common_steps)
