use Rattle.std.proofs.Common.{◌∙◌, ap, sym, subst, ◌≤◌, ◌++◌, ◌∷◌, [], length, cond, map, arith}
use Rattle.std.specs.Prelude.{filter}
use Rattle.std.proofs.lemmas.List.{append-nil, length-map, take_all}
use Rattle.desk_runs.specs.declared.group.Group.{Group}
use Rattle.desk_core.specs.declared.desk.Submitted.{Submitted}
use Rattle.desk_core.specs.Desk.{seen}
use Rattle.desk_core.specs.DeskSnapshot.{both_at, IsGroupNo, is_listed}
use Rattle.desk_core.proofs.SnapshotListing.{next_is, opened_of, opened_at, opened_numbers, listed_of_opened, kept_more}
use Rattle.desk_core.proofs.desk.Desk.listed.Goals.{then-is_listed+in_ok-push, else-is_listed}
use Rattle.desk_core.proofs.desk.Desk.listed.Goals as goal

pub is_listed-requires-clause-number : goal.is_listed-requires-clause-number
is_listed-requires-clause-number c =
    let d = seen c.args.self.now in
    let next = next_is d (opened_of d) c.open-number-items.result.now c.loop-number.number-index (opened_at d c.requires)
    (c.open-number-items.ensures ∙ opened_numbers d c.requires)
    c.loop-number-test.true
    in subst (IsGroupNo d) (sym next.number) next.numbered.known

pub loop-number-preserved : goal.loop-number-preserved
loop-number-preserved c =
    let d = seen c.args.self.now in
    let next = next_is d (opened_of d) c.open-number-items.result.now c.loop-number.number-index (opened_at d c.requires)
    (c.open-number-items.ensures ∙ opened_numbers d c.requires)
    c.loop-number-test.true
    in
    let told = c.is_listed.ensures next.group (ap (both_at d) next.number ∙ next.numbered.at) in
    let more = kept_more (λ p. p.1.number) (is_listed d) (opened_of d) c.loop-number.number-index next.group next.in_range next.stands
    c.loop-number.listed.items
    c.if-is_listed.listed.items c.loop-number.invariant c.is_listed.result told
    in
    elim c.if-is_listed.branch [
      | then-is_listed+in_ok-push w ↦
          more (ap (λ v. v.items) w.listed-is ∙ w.in_ok-push.ensures.items ∙ ap (λ n. c.loop-number.listed.items ++ n ∷ []) next.number
          ∙ ap (λ b. c.loop-number.listed.items ++ cond b (next.group.1.number ∷ []) []) (sym w.if-is_listed.true))
      | else-is_listed w ↦
          more (ap (λ v. v.items) w.listed-is ∙ sym (append-nil c.loop-number.listed.items)
          ∙ ap (λ b. c.loop-number.listed.items ++ cond b (next.group.1.number ∷ []) []) (sym w.if-is_listed.false))
    ]

pub returns : goal.returns
returns c =
    let d = seen c.args.self.now in
    let groups = opened_of d in
    let count : length groups ≤ c.loop-number.number-index
    = omega (
      arith,
      c.loop-number-test.false,
      ap length (c.open-number-items.ensures ∙ opened_numbers d c.requires),
      length-map groups (λ (p : Submitted × Group). p.1.number),
    )
    in
    c.loop-number.invariant ∙ ap (λ l. map (λ p. p.1.number) (filter (is_listed d) l)) (take_all c.loop-number.number-index groups count)
    ∙ ap (map (λ p. p.1.number)) (listed_of_opened d)
