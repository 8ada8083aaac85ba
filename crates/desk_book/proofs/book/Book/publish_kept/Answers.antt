use Rattle.std.proofs.Common.{◌≡◌, ◌≤◌, ◌<◌, ◌+◌, ◌∷◌, ◌++◌, [], ℕ, length, Some, None, set, get_or, ap, subst, sym, ◌∙◌, arith}
use Rattle.plan_base.specs.declared.taken.Outcome.{Outcome}
use Rattle.plan_base.specs.declared.taken.Taken.{Taken}
use Rattle.plan_base.specs.Solved.{SolvedTake}
use Rattle.desk_events.specs.declared.entry.EventEntry.{EventEntry}
use Rattle.desk_events.specs.declared.entry.What.TheVariants.{Publish}
use Rattle.desk_core.specs.History.{script_of, turns_of}
use Rattle.desk_book.specs.Doing.{IsPublished, publish_reply}
use Rattle.desk_book.specs.Inside.{seen_book}
use Rattle.desk_book.specs.Kept.{IsSound, AreCounted}
use Rattle.desk_book.specs.Seen.{BookSeen, take_of, done_of}
use Rattle.desk_book.proofs.Fields.{pushed, book_with, number_of, publish_fields, published_fields}
use Rattle.desk_book.proofs.Places.{place_open}
use Rattle.desk_book.proofs.Sound.{open_place, open_caller, few_done, few_changes}
use Rattle.desk_book.proofs.book.Book.publish_kept.Goals as goal

-- the Take is the caller's open one
was_open : (b v : BookSeen) (taken kept : Taken) → b ≡ v → taken ≡ kept → take_of v.takes kept.caller ≡ Some kept → take_of b.takes taken.caller ≡ Some taken
was_open b v taken kept view same is =
    subst (λ (t : Taken). take_of b.takes t.caller ≡ Some t) (sym same) (subst (λ (w : BookSeen). take_of w.takes kept.caller ≡ Some kept) (sym view) is)

pub overflow_add-line : goal.overflow_add-line
overflow_add-line c =
    let b : BookSeen = seen_book c.self.inside in
    let taken : Taken = c.taken.result.now in
    let opens : take_of b.takes taken.caller ≡ Some taken =
    was_open b c.args.self.now taken c.args.solved.taken c.self.view_is c.taken.ensures.value c.requires in
    let low : taken.caller < length b.scripts = open_caller b taken.caller taken c.self.invariant.sound opens in
    let at : c.index.result.now ≡ get_or c.self.inside.done.items taken.caller c.index.result.now =
    subst (λ (k : ℕ). c.index.result.now ≡ get_or c.self.inside.done.items k c.index.result.now) c.from-place.ensures c.index.ensures in
    let number : c.index.result.now ≡ done_of taken.caller b.history =
    number_of b c.self.inside.done.items taken.caller c.index.result.now c.self.invariant.counted low at in
    let few : done_of taken.caller b.history ≤ 65536 = few_done b taken.caller c.self.invariant.sound in
    omega arith

pub publish_found-requires-clause-version : goal.publish_found-requires-clause-version
publish_found-requires-clause-version c =
    let b : BookSeen = seen_book c.self.inside in
    let taken : Taken = c.into_parts-taken.result.0 in
    let opens : take_of b.takes taken.caller ≡ Some taken =
    was_open b c.args.self.now taken c.args.solved.taken c.self.view_is c.into_parts-taken.ensures.same_taken c.requires in
    let low : taken.caller < length b.scripts = open_caller b taken.caller taken c.self.invariant.sound opens in
    few_changes b c.self.inside.done.items taken.caller c.self.invariant.sound c.self.invariant.counted low
    (place_open (script_of b.scripts taken.caller) (turns_of taken.caller b.history) (done_of taken.caller b.history)
    (open_place b taken.caller taken c.self.invariant.sound opens))

pub publish_found-requires-clause-behind : goal.publish_found-requires-clause-behind
publish_found-requires-clause-behind c =
    let b : BookSeen = seen_book c.self.inside in
    let taken : Taken = c.into_parts-taken.result.0 in
    let opens : take_of b.takes taken.caller ≡ Some taken =
    was_open b c.args.self.now taken c.args.solved.taken c.self.view_is c.into_parts-taken.ensures.same_taken c.requires in
    c.self.invariant.sound.behind taken.caller taken opens

pub invariant_of-self-2 : goal.invariant_of-self-2
invariant_of-self-2 c =
    let b : BookSeen = seen_book c.self.inside in
    let taken : Taken = c.into_parts-taken.result.0 in
    let opens : take_of b.takes taken.caller ≡ Some taken =
    was_open b c.args.self.now taken c.args.solved.taken c.self.view_is c.into_parts-taken.ensures.same_taken c.requires in
    let low : taken.caller < length b.scripts = open_caller b taken.caller taken c.self.invariant.sound opens in
    let caller : c.taken.result.now.caller ≡ taken.caller = ap (λ (t : Taken). t.caller) (c.taken.ensures.value ∙ sym c.into_parts-taken.ensures.same_taken) in
    let place : c.from-place.result ≡ taken.caller = c.from-place.ensures ∙ caller in
    let at : c.index.result.now ≡ get_or c.self.inside.done.items taken.caller c.index.result.now =
    subst (λ (k : ℕ). c.index.result.now ≡ get_or c.self.inside.done.items k c.index.result.now) place c.index.ensures in
    let entry : ℕ → EventEntry = λ k. record {
      caller = k;
      line = c.index.result.now + 1;
      what = Publish;
      version = c.version-version.result;
      reply = c.in_ok-reply.reply;
    } in
    let more : c.push_reserved.new.self.items ≡ b.history ++ entry taken.caller ∷ [] =
    subst (λ (k : ℕ). c.push_reserved.new.self.items ≡ b.history ++ entry k ∷ []) caller
    (pushed c.self.inside.history.items c.reserve.new.self.items c.push_reserved.new.self.items _
    c.push_reserved.ensures.items c.in_ok-reserve.ensures.items) in
    let x = publish_fields b c.self.inside.done.items taken c.index.result.now c.version-version.result c.in_ok-reply.reply
    c.publish_found.new.state c.push_reserved.new.self.items
    c.self.invariant.sound c.self.invariant.counted low at opens c.in_ok-reply.ensures.publication c.in_ok-reply.ensures.claims
    c.in_ok-reply.ensures.left c.version-version.ensures.version
    more in
    let now : ℕ → BookSeen = λ k. book_with b c.push_reserved.new.self.items c.publish_found.new.state (set b.takes k None) in
    record {
      sound = subst (λ (k : ℕ). IsSound (now k)) (sym place) x.0;
      counted = subst (λ (k : ℕ). AreCounted (now k) (set c.self.inside.done.items k (c.index.result.now + 1))) (sym place) x.1;
    }

pub returns-clause-ok : goal.returns-clause-ok
returns-clause-ok c =
    let b : BookSeen = seen_book c.self.inside in
    let taken : Taken = c.into_parts-taken.result.0 in
    let opens : take_of b.takes taken.caller ≡ Some taken =
    was_open b c.args.self.now taken c.args.solved.taken c.self.view_is c.into_parts-taken.ensures.same_taken c.requires in
    let low : taken.caller < length b.scripts = open_caller b taken.caller taken c.self.invariant.sound opens in
    let caller : c.taken.result.now.caller ≡ taken.caller = ap (λ (t : Taken). t.caller) (c.taken.ensures.value ∙ sym c.into_parts-taken.ensures.same_taken) in
    let place : c.from-place.result ≡ taken.caller = c.from-place.ensures ∙ caller in
    let at : c.index.result.now ≡ get_or c.self.inside.done.items taken.caller c.index.result.now =
    subst (λ (k : ℕ). c.index.result.now ≡ get_or c.self.inside.done.items k c.index.result.now) place c.index.ensures in
    let make : Taken → Outcome → SolvedTake = λ t o. record { taken = t; outcome = o } in
    let whole : make taken c.into_parts-taken.result.1 ≡ c.args.solved =
    ap (λ (t : Taken). make t c.into_parts-taken.result.1) c.into_parts-taken.ensures.same_taken
    ∙ ap (λ (o : Outcome). make c.args.solved.taken o) c.into_parts-taken.ensures.same_outcome in
    let told : c.in_ok-told.told ≡ publish_reply b.state (make taken c.into_parts-taken.result.1) = c.in_ok-told.ensures
    ∙ ap (publish_reply b.state) (sym whole) in
    let entry : ℕ → EventEntry = λ k. record {
      caller = k;
      line = c.index.result.now + 1;
      what = Publish;
      version = c.version-version.result;
      reply = c.in_ok-reply.reply;
    } in
    let more : c.push_reserved.new.self.items ≡ b.history ++ entry taken.caller ∷ [] =
    subst (λ (k : ℕ). c.push_reserved.new.self.items ≡ b.history ++ entry k ∷ []) caller
    (pushed c.self.inside.history.items c.reserve.new.self.items c.push_reserved.new.self.items _
    c.push_reserved.ensures.items c.in_ok-reserve.ensures.items) in
    let x =
    published_fields b c.self.inside.done.items taken c.into_parts-taken.result.1 c.index.result.now c.version-version.result
    c.in_ok-reply.reply c.in_ok-told.told
    c.publish_found.new.state c.push_reserved.new.self.items
    c.self.invariant.counted low at opens c.in_ok-reply.ensures.reply
    (told ∙ sym c.in_ok-reply.ensures.reply) c.in_ok-reply.ensures.left c.version-version.ensures.version
    more in
    let e : ℕ → EventEntry = λ k. record {
      caller = k;
      line = c.index.result.now + 1;
      what = Publish;
      version = c.version-version.result;
      reply = c.in_ok-told.told;
    } in
    let now : ℕ → BookSeen = λ k. book_with b c.push_reserved.new.self.items c.publish_found.new.state (set b.takes k None) in
    let mine : IsPublished b c.args.solved (e taken.caller) (now taken.caller) =
    subst (λ (p : SolvedTake). IsPublished b p (e taken.caller) (now taken.caller)) whole x in
    let there : IsPublished b c.args.solved (e taken.caller) (now c.from-place.result) =
    subst (λ (k : ℕ). IsPublished b c.args.solved (e taken.caller) (now k)) (sym place) mine in
    let named : IsPublished b c.args.solved (e c.taken.result.now.caller) (now c.from-place.result) =
    subst (λ (k : ℕ). IsPublished b c.args.solved (e k) (now c.from-place.result)) (sym caller) there in
    subst (λ (v : BookSeen). IsPublished v c.args.solved (e c.taken.result.now.caller) (now c.from-place.result)) c.self.view_is named
