use Rattle.std.proofs.Common.{◌≡◌, ◌∙◌, sym, ap, subst, List, [], ◌∷◌, ◌++◌, Option, Some}
use Rattle.atomic_table.specs.Table.{opening}
use Rattle.desk_book.specs.Seen.{BookSeen, empty_book}
use Rattle.desk_book.specs.Kept.{IsBook}
use Rattle.desk_passes.specs.Rule.{RuleHolds}
use Rattle.desk_passes.specs.Steps.{first_view}
use Rattle.desk_passes.proofs.Books.{full_new}
use Rattle.desk_passes.proofs.Ends.{opens}
use Rattle.desk_passes.proofs.desk.SharedDesk.new.Goals as goal

pub new-requires : goal.new-requires
new-requires c =
    let n = c.callers-callers.result in
    let b = c.args.book in
    let is : b ≡ empty_book n = c.requires ∙ ap empty_book (sym c.callers-callers.ensures.count) in
    let items : c.push.new.self.items ≡ Some b ∷ [] = c.in_ok-push.ensures.items
    ∙ ap (λ (xs : List (Option BookSeen)). xs ++ Some b ∷ []) c.new-slots.ensures.items in
    subst (λ (xs : List (Option BookSeen)). RuleHolds n (opening (0 ∷ 0 ∷ []) xs (first_view n))) (sym (items ∙ ap (λ (x : BookSeen). Some x ∷ []) is))
    (opens n (full_new n (subst IsBook is c.callers-callers.ensures.book)))
