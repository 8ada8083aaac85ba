-- How far a caller has come, and one entry more.
use Rattle.std.proofs.Common.{◌≡◌, ℕ, ◌+◌, ◌≤◌, ◌<◌, List, [], ◌∷◌, ◌++◌, length, Bool, true, false, refl, sym, ◌∙◌, ap, subst, arith, inl, inr}
use Rattle.std.proofs.Common.{append_assoc, length-append}
use Rattle.plan_io.specs.declared.lines.ScriptLine.{ScriptLine}
use Rattle.desk_events.specs.declared.entry.What.{What}
use Rattle.desk_events.specs.declared.entry.What.TheVariants.{Line, Take, Publish}
use Rattle.desk_core.specs.History.{AreTurnsOf, AnswersPrefix}
use Rattle.desk_book.specs.Kept.{IsPlace}
use Rattle.desk_book.proofs.Turns.{answers_more}

pub place_as : (script : List ScriptLine) (xs ys : List (ℕ × What)) (m n : ℕ) (a b : Bool) → xs ≡ ys → m ≡ n → a ≡ b
    → IsPlace script xs m a → IsPlace script ys n b
place_as script xs ys m n a b h g f p =
    subst (λ (ts : List (ℕ × What)). IsPlace script ts n b) h (subst (λ (k : ℕ). IsPlace script xs k b) g (subst (λ (c : Bool). IsPlace script xs m c) f p))

pub place_step : (script : List ScriptLine) (turns : List (ℕ × What)) (n : ℕ) → IsPlace script turns n false → n < length script
    → IsPlace script (turns ++ (n + 1, Line) ∷ []) (n + 1) false
place_step script turns n p next = (omega arith, answers_more 1 (n + 1) (n + 1 + 1) turns ((n + 1, Line) ∷ []) p.1 (refl, refl))

pub place_take : (script : List ScriptLine) (turns : List (ℕ × What)) (n : ℕ) → IsPlace script turns n false → n < length script
    → IsPlace script (turns ++ (n + 1, Take) ∷ []) n true
place_take script turns n p next = (next, (turns, refl, p.1))

pub place_publish : (script : List ScriptLine) (turns : List (ℕ × What)) (n : ℕ) → IsPlace script turns n true
    → IsPlace script (turns ++ (n + 1, Publish) ∷ []) (n + 1) false
place_publish script turns n p =
    let before : List (ℕ × What) = p.1.0 in
    let last : List (ℕ × What) = (n + 1, Publish) ∷ [] in
    let whole : turns ++ last ≡ before ++ (n + 1, Take) ∷ last = ap (λ (ts : List (ℕ × What)). ts ++ last) p.1.1
    ∙ append_assoc before ((n + 1, Take) ∷ []) last in
    let below : n < length script = p.0 in (
      omega arith,
      subst (λ (ts : List (ℕ × What)). AreTurnsOf 1 ts (n + 1 + 1)) (sym whole)
          (answers_more 1 (n + 1) (n + 1 + 1) before ((n + 1, Take) ∷ last) p.1.2 (refl, refl, refl)),
    )

pub place_longer : (script rest : List ScriptLine) (turns : List (ℕ × What)) (n : ℕ) (b : Bool) → IsPlace script turns n b → IsPlace (script ++ rest) turns n b
place_longer script rest turns n false p = let low : n ≤ length script = p.0 in (omega (arith, length-append script rest), p.1)
place_longer script rest turns n true p = let low : n < length script = p.0 in (omega (arith, length-append script rest), p.1)

pub place_low : (script : List ScriptLine) (turns : List (ℕ × What)) (n : ℕ) (b : Bool) → IsPlace script turns n b → n ≤ length script
place_low script turns n false p = p.0
place_low script turns n true p = let low : n < length script = p.0 in omega arith

pub place_open : (script : List ScriptLine) (turns : List (ℕ × What)) (n : ℕ) → IsPlace script turns n true → n < length script
place_open script turns n p = p.0

pub place_order : (script : List ScriptLine) (turns : List (ℕ × What)) (n : ℕ) (b : Bool) → IsPlace script turns n b → AnswersPrefix script turns
place_order script turns n false p = (n, inl (p.0, p.1))
place_order script turns n true p = (n, inr (p.1.0, p.0, p.1.1, p.1.2))
