-- What is written of a document.
use Rattle.std.proofs.Common.{◌≡◌, ℕ, List, [], ◌++◌, Result, Ok, Err, IfOk, sym, ◌∙◌, ap, subst}
use Rattle.plan_base.specs.declared.parts.Parts.{Parts}
use Rattle.plan_base.specs.declared.parts.GroupPart.{GroupPart}
use Rattle.plan_base.specs.declared.claim.Claim.{Claim}
use Rattle.plan_base.specs.declared.verdict.Reason.{Reason}
use Rattle.plan_base.specs.declared.verdict.Verdict.TheVariants as judged
use Rattle.plan_base.specs.Verdict.{IsVerdict}
use Rattle.plan_io.specs.declared.document.Said.{Said}
use Rattle.plan_io.specs.declared.document.Said.TheVariants as said
use Rattle.plan_io.specs.declared.document.Answer.{Answer}
use Rattle.plan_doc.specs.Reason.{reason_data}
use Rattle.plan_json.specs.Line.{line_of}
use Rattle.rapid.specs.declared.document.RapidDocument.{RapidDocument}
use Rattle.rapid.specs.declared.rapid.RapidAnswer.{RapidAnswer}
use Rattle.rapid.specs.declared.rapid.RapidAnswer.TheVariants.{Ready, No}
use Rattle.rapid.specs.Standing.{Standing, opening}
use Rattle.rapid.specs.Answer.{IsAnswer}
use Rattle.rapid.specs.Run.{WritesEach, IsOpen, IsAnswerTo}
use Rattle.rapid.specs.Lines.{AreLinesOf, IsAnswerFrom}

pub whole_lines : (first : Standing) (groups : List GroupPart) (after : Standing) (start text : List ℕ) → start ≡ []
    → AreLinesOf first groups after start text → (x : Standing) × WritesEach first groups text x
whole_lines first groups after start text e h =
    (after, subst (λ (t : List ℕ). WritesEach first groups t after) (sym (h.2 ∙ ap (λ (t : List ℕ). t ++ h.0) e)) h.1)

pub both_ok : {X E : Type 0} (P Q R : X → Type 0) (r : Result X E) → IfOk r P → IfOk r Q → ((x : X) → P x → Q x → R x) → IfOk r R
both_ok P Q R (Ok x) p q f = f x p q
both_ok P Q R (Err e) p q f = tt

answer_is : (d : RapidDocument) (text : List ℕ) (what : Said) → IsOpen d
    → IsAnswerFrom (opening d.publication.snapshot d.publication.claim) d.groups text what → IsAnswerTo d text what
answer_is d text said.Yes open_d h = (open_d, h.0, h.1)
answer_is d text said.No open_d h = absurd h
answer_is d text said.NoDocument open_d h = (open_d, h)

-- an answer to the parts of a publication is one to the publication
parted : (d : RapidDocument) (s : Parts) (claim : Claim) (answer one : RapidAnswer)
    → s ≡ d.publication.snapshot → claim ≡ d.publication.claim → IsAnswer s claim answer → answer ≡ one
    → IsAnswer d.publication.snapshot d.publication.claim one
parted d s claim answer one same_s same h e =
    subst (λ (x : Parts). IsAnswer x d.publication.claim one) same_s
    (subst (λ (c : Claim). IsAnswer s c one) same (subst (IsAnswer s claim) e h))

-- where the claim is certified
pub ready_answer : {E : Type 0} (d : RapidDocument) (s : Parts) (claim : Claim) (answer : RapidAnswer) (rapid : Standing) (r : Result Answer E)
    → s ≡ d.publication.snapshot → claim ≡ d.publication.claim → IsAnswer s claim answer → answer ≡ Ready rapid
    → IfOk r (λ a. IsAnswerFrom rapid d.groups a.text.items a.said) → IfOk r (λ a. IsAnswerTo d a.text.items a.said)
ready_answer d s claim answer rapid r same_s same h e ok =
    let ready : IsAnswer d.publication.snapshot d.publication.claim (Ready rapid) = parted d s claim answer (Ready rapid) same_s same h e in
    both_ok (λ (a : Answer). IsAnswerFrom rapid d.groups a.text.items a.said) (λ (a : Answer). IsAnswerFrom rapid d.groups a.text.items a.said)
    (λ (a : Answer). IsAnswerTo d a.text.items a.said) r ok ok
    (λ a p q. answer_is d a.text.items a.said ready.1 (subst (λ (b : Standing). IsAnswerFrom b d.groups a.text.items a.said) ready.0 p))

-- where it isn't
pub no_answer : {E : Type 0} (d : RapidDocument) (s : Parts) (claim : Claim) (answer : RapidAnswer) (reason : Reason) (r : Result Answer E)
    → s ≡ d.publication.snapshot → claim ≡ d.publication.claim → IsAnswer s claim answer → answer ≡ No reason
    → IfOk r (λ a. a.text.items ≡ line_of (reason_data reason)) → IfOk r (λ a. a.said ≡ said.No) → IfOk r (λ a. IsAnswerTo d a.text.items a.said)
no_answer d s claim answer reason r same_s same h e text what =
    let no : IsVerdict d.publication.snapshot d.publication.claim (judged.No reason) = parted d s claim answer (No reason) same_s same h e in
    both_ok (λ (a : Answer). a.text.items ≡ line_of (reason_data reason)) (λ (a : Answer). a.said ≡ said.No)
    (λ (a : Answer). IsAnswerTo d a.text.items a.said) r text what
    (λ a t w. subst (λ (x : Said). IsAnswerTo d a.text.items x) (sym w) (reason, no, t))
