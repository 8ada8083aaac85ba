use Rattle.std.proofs.Common.{◌≡◌, ◌∙◌, ◌<◌, ◌-◌, ap, sym, length, get_or, List, Option, Some, arith}
use Rattle.std.proofs.lemmas.Option.{slice_get-get_or}
use Rattle.desk_core.specs.declared.desk.Submitted.{Submitted}
use Rattle.desk_core.proofs.desk.Desk.submission.Goals as goal

pub bounds-as_slice-number : goal.bounds-as_slice-number
bounds-as_slice-number c = rw c.as_slice.ensures.value (omega (arith, c.requires.0, c.requires.1))

pub returns : goal.returns
returns c =
    let items : List Submitted = c.args.self.now.submitted.items in
    let place = c.args.number.0 - 1 in
    let w : Submitted = c.index-as_slice-number.result in
    let low : place < length items = omega (arith, c.requires.0, c.requires.1) in
    let is : w ≡ get_or items place w = c.index-as_slice-number.is ∙ ap (λ (l : List Submitted). get_or l place w) c.as_slice.ensures.value in
    slice_get-get_or items place w low ∙ ap (λ (x : Submitted). let o : Option Submitted = Some x in o) (sym is)
