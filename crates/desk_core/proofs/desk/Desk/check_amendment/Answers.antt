use Rattle.std.proofs.Common.{◌≡◌, ◌∙◌, ℕ, ◌<◌, ◌||◌, length, get_or, Bool, true, false, cond, List, [], ◌∷◌, All, ap, refl, Option, Some, None}
use Rattle.std.specs.List.{find}
use Rattle.std.specs.Option.{option_map}
use Rattle.std.proofs.lemmas.Bool.{or_parts}
use Rattle.std.proofs.lemmas.List.Elements.{All-nil, All-cons}
use Rattle.std.proofs.lemmas.List.Folds.{list_any_none}
use Rattle.plan_base.specs.States.{is_completed}
use Rattle.plan_base.specs.declared.number.RequestNo.{RequestNo}
use Rattle.desk_events.specs.declared.refusal.Refusal.{Refusal}
use Rattle.desk_events.specs.declared.refusal.Refusal.TheVariants.{GroupClosed, GroupStarted}
use Rattle.desk_runs.specs.declared.group.Group.{Group}
use Rattle.desk_runs.specs.declared.group.Request.{Request}
use Rattle.desk_runs.specs.Numbers.{is_placed}
use Rattle.desk_runs.specs.States.{is_open, state_of}
use Rattle.desk_core.specs.Desk.{seen}
use Rattle.desk_core.specs.Closing.{begun_member, ending_refusal}
use Rattle.desk_core.proofs.desk.Desk.check_amendment.Goals as goal

started_as : (o : Option Request) (r : RequestNo) → Some r ≡ option_map (λ q. q.number) o → option_map (λ q. GroupStarted q.number) o ≡ Some (GroupStarted r)
started_as None r e = cc
started_as (Some q) r e = let same : q.number ≡ r = cc in ap (λ (n : RequestNo). let x : Option Refusal = Some (GroupStarted n) in x) same

none_found : (p : Request → Bool) (qs : List Request) → None ≡ option_map (λ q. q.number) (find p qs) → All (λ q. p q ≡ false) qs
none_found p [] e = All-nil (λ q. p q ≡ false)
none_found p (q ∷ qs) e = by (p q) refl e (none_found p qs)
  where
    by : (b : Bool) → p q ≡ b → None ≡ option_map (λ x. x.number) (cond b (Some q) (find p qs))
        → (None ≡ option_map (λ x. x.number) (find p qs) → All (λ x. p x ≡ false) qs) → All (λ x. p x ≡ false) (q ∷ qs)
    by true is f rest = cc
    by false is f rest = All-cons (λ x. p x ≡ false) q qs is (rest f)

pub returns-in-Some-clause-refused : goal.returns-in-Some-clause-refused
returns-in-Some-clause-refused c =
    let d = seen c.args.self.now in
    let g : Group = c.in_ok-group.group.now in
    let opened : is_open g ≡ true = c.in_ok-group.ensures.opened in
    let found = c.in-Some.ensures ∙ ap (λ (l : List Request). option_map (λ (q : Request). q.number)
    (find (λ q. is_placed c.args.self.now.runs.running q.number || is_completed q.state) l)) c.as_slice.ensures in
    ap (ending_refusal (begun_member d)) c.in_ok-group.ensures.there
    ∙ ap (λ (b : Bool). cond b (begun_member d g) (Some (GroupClosed (state_of g)))) opened
    ∙ started_as (find (λ q. is_placed c.args.self.now.runs.running q.number || is_completed q.state) g.requests) c.in-Some.request found

pub returns-in-None-clause-may : goal.returns-in-None-clause-may
returns-in-None-clause-may c =
    let g : Group = c.in_ok-group.group.now in
    let found = c.in-None.ensures ∙ ap (λ (l : List Request). option_map (λ (q : Request). q.number)
    (find (λ q. is_placed c.args.self.now.runs.running q.number || is_completed q.state) l)) c.as_slice.ensures in
    let none = none_found (λ q. is_placed c.args.self.now.runs.running q.number || is_completed q.state) g.requests found in
    let parts : (i : ℕ) (q : Request) → i < length g.requests → (is_placed c.args.self.now.runs.running (get_or g.requests i q).number ≡ false)
    × (is_completed (get_or g.requests i q).state ≡ false) =
    λ i q l. or_parts (is_placed c.args.self.now.runs.running (get_or g.requests i q).number) (is_completed (get_or g.requests i q).state) (none i q l) in
    let opened : is_open g ≡ true = c.in_ok-group.ensures.opened in
    record {
      group = g;
      there = c.in_ok-group.ensures.there;
      opened = opened;
      idle = λ i q l. (parts i q l).0;
      none = list_any_none (λ q. is_completed q.state) g.requests (λ i q l. (parts i q l).1);
    }
