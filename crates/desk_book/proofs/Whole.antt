-- A history of which nothing is left to do.
use Rattle.std.proofs.Common.{◌≡◌, ℕ, zero, suc, ◌+◌, ◌≤◌, List, [], ◌∷◌, length, slice_get, false, refl, ap, subst, arith, None}
use Rattle.std.specs.Option.{is_some}
use Rattle.plan_io.specs.declared.lines.ScriptLine.{ScriptLine}
use Rattle.desk_events.specs.declared.entry.What.{What}
use Rattle.desk_core.specs.History.{script_of, turns_of, AreTurnsOf}
use Rattle.desk_book.specs.Kept.{IsPlace}
use Rattle.desk_book.specs.Laws.{OverIsWhole}
use Rattle.desk_book.specs.Seen.{take_of, done_of}
use Rattle.desk_book.proofs.Places.{place_as}

none_left : {A : Type 0} (xs : List A) (n : ℕ) → slice_get xs n ≡ None → length xs ≤ n
none_left [] n h = omega arith
none_left (x ∷ xs) zero h = cc
none_left (x ∷ xs) (suc n) h = let less : length xs ≤ n = none_left xs n h in omega arith

all_done : (script : List ScriptLine) (turns : List (ℕ × What)) (n : ℕ) → IsPlace script turns n false → slice_get script n ≡ None
    → AreTurnsOf 1 turns (length script + 1)
all_done script turns n p h =
    let low : n ≤ length script = p.0 in
    let same : n + 1 ≡ length script + 1 = omega (arith, none_left script n h) in
    subst (λ (k : ℕ). AreTurnsOf 1 turns k) same p.1

pub over_is_whole : OverIsWhole
over_is_whole b k over caller =
    let script : List ScriptLine = script_of b.scripts caller in
    let turns : List (ℕ × What) = turns_of caller b.history in
    let n : ℕ = done_of caller b.history in
    let shut : is_some (take_of b.takes caller) ≡ false = ap is_some (over caller).0 in
    all_done script turns n (place_as script turns turns n n (is_some (take_of b.takes caller)) false refl refl shut (k.places caller)) (over caller).1
