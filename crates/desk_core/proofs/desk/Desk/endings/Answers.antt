use Rattle.std.proofs.Common.{◌≡◌, ◌∙◌, ◌+◌, ◌++◌, ◌∷◌, ◌<◌, List, [], length, get_or, drop, ap, sym, arith}
use Rattle.std.proofs.Math.ListN.{drop_of_length-le}
use Rattle.std.proofs.lemmas.List.{append-nil, append_assoc}
use Rattle.desk_runs.specs.declared.group.Group.{Group}
use Rattle.desk_runs.specs.Changes.{changed}
use Rattle.desk_core.specs.declared.desk.Submitted.{Submitted}
use Rattle.desk_core.specs.declared.ending.Ending.{Ending}
use Rattle.desk_core.specs.Desk.{seen}
use Rattle.desk_core.specs.Endings.{endings_of, told_along}
use Rattle.desk_core.proofs.ToldAt.{Picked, picked, endings_cons, told_length}
use Rattle.desk_core.proofs.desk.Desk.endings.Goals as goal

pub push_ending-requires : goal.push_ending-requires
push_ending-requires c =
    let i = c.loop-after.after-index in
    let within : i < length c.args.change.now.groups = let l = ap length c.as_slice-told.ensures in omega (arith, l, c.loop-after-test.true) in
    let f : Picked (seen c.args.self.now)
    (told_along c.args.change.now.groups (seen c.args.self.now) (changed c.args.self.now.runs c.args.change.now)) i c.after-item.result =
    picked (seen c.args.self.now) c.args.change.now i c.after-item.result c.requires.desk c.requires.can within
    (c.after-item.is ∙ ap (λ (l : List Group). get_or l i c.after-item.result) c.as_slice-told.ensures) in
    (f.one, f.told)

pub loop-after-preserved : goal.loop-after-preserved
loop-after-preserved c =
    let ps : List (Submitted × (Group × Group)) = told_along c.args.change.now.groups (seen c.args.self.now) (changed c.args.self.now.runs c.args.change.now) in
    let i = c.loop-after.after-index in
    let within : i < length c.args.change.now.groups = let l = ap length c.as_slice-told.ensures in omega (arith, l, c.loop-after-test.true) in
    let f : Picked (seen c.args.self.now) ps i c.after-item.result =
    picked (seen c.args.self.now) c.args.change.now i c.after-item.result c.requires.desk c.requires.can within
    (c.after-item.is ∙ ap (λ (l : List Group). get_or l i c.after-item.result) c.as_slice-told.ensures) in
    ap (λ (l : List Ending). l ++ endings_of (drop (i + 1) ps)) (c.in_ok-push_ending.ensures f.one f.told)
    ∙ append_assoc c.loop-after.endings.items (endings_of (f.one ∷ [])) (endings_of (drop (i + 1) ps))
    ∙ ap (λ (l : List Ending). c.loop-after.endings.items ++ l) (sym (endings_cons f.one (drop (i + 1) ps)) ∙ ap endings_of (sym f.rest))
    ∙ c.loop-after.invariant

pub returns : goal.returns
returns c =
    let ps : List (Submitted × (Group × Group)) = told_along c.args.change.now.groups (seen c.args.self.now) (changed c.args.self.now.runs c.args.change.now) in
    let long : length ps ≡ length c.args.change.now.groups = told_length (seen c.args.self.now) c.args.change.now c.requires.desk c.requires.can in
    let l = ap length c.as_slice-told.ensures in
    let none : drop c.loop-after.after-index ps ≡ [] = drop_of_length-le ps (omega (arith, l, long, c.loop-after-test.false)) in
    sym (append-nil c.loop-after.endings.items)
    ∙ ap (λ (x : List (Submitted × (Group × Group))). c.loop-after.endings.items ++ endings_of x) (sym none) ∙ c.loop-after.invariant
