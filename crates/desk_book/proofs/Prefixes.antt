-- The first entries of a whole history are in the order of the scripts.
use Rattle.std.proofs.Common.{◌≡◌, ℕ, ◌+◌, ◌-◌, ◌≤◌, ◌<◌, ◌⊎◌, List, [], ◌∷◌, ◌++◌, length, take, drop, map, refl, sym, ◌∙◌, ap, subst, arith, inl}
use Rattle.std.proofs.Common.{inr, take-append-drop}
use Rattle.std.proofs.lemmas.List.{map-append}
use Rattle.std.proofs.lemmas.List.Elements.{filter-append}
use Rattle.std.specs.Prelude.{◌==◌}
use Rattle.plan_io.specs.declared.lines.ScriptLine.{ScriptLine}
use Rattle.desk_events.specs.declared.entry.EventEntry.{EventEntry}
use Rattle.desk_events.specs.declared.entry.What.{What}
use Rattle.desk_events.specs.declared.entry.What.TheVariants.{Line, Take, Publish}
use Rattle.desk_core.specs.History.{script_of, entries_of, turns_of, AreTurnsOf, AnswersPrefix, IsWhole}

-- ---- the first turns

turns_rise : (n m : ℕ) (turns : List (ℕ × What)) → AreTurnsOf n turns m → n ≤ m
turns_rise n m [] h = omega (arith, h)
turns_rise n m ((k, Line) ∷ turns) h = omega (arith, turns_rise (n + 1) m turns h.1)
turns_rise n m ((k, Take) ∷ []) h = absurd h
turns_rise n m ((k, Take) ∷ (l, Line) ∷ turns) h = absurd h
turns_rise n m ((k, Take) ∷ (l, Take) ∷ turns) h = absurd h
turns_rise n m ((k, Take) ∷ (l, Publish) ∷ turns) h = omega (arith, turns_rise (n + 1) m turns h.2)
turns_rise n m ((k, Publish) ∷ turns) h = absurd h

-- turns of the lines from n up to the one before m, or a part of them from the front
record AreFirst (n m : ℕ) (turns : List (ℕ × What)) : Type 0 where
  next : ℕ
  from : n ≤ next
  up_to : next ≤ m
  are : AreTurnsOf n turns next ⊎ ((before : List (ℕ × What)) × (next < m) × (turns ≡ before ++ (next, Take) ∷ []) × AreTurnsOf n before next)

-- with a line's turns before them
later_line : (n m k : ℕ) (turns : List (ℕ × What)) → k ≡ n → AreFirst (n + 1) m turns → AreFirst n m ((k, Line) ∷ turns)
later_line n m k turns is f =
    let low : n + 1 ≤ f.next = f.from in
    let high : f.next ≤ m = f.up_to in
    record {
      next = f.next;
      from = omega arith;
      up_to = high;
      are = elim f.are [
        | inl all ↦ inl (is, all)
        | inr some ↦ inr ((k, Line) ∷ some.0, some.1, ap (λ (ts : List (ℕ × What)). (k, Line) ∷ ts) some.2, (is, some.3))
      ];
    }

later_plan : (n m k l : ℕ) (turns : List (ℕ × What)) → k ≡ n → l ≡ n → AreFirst (n + 1) m turns → AreFirst n m ((k, Take) ∷ (l, Publish) ∷ turns)
later_plan n m k l turns is too f =
    let low : n + 1 ≤ f.next = f.from in
    let high : f.next ≤ m = f.up_to in
    record {
      next = f.next;
      from = omega arith;
      up_to = high;
      are = elim f.are [
        | inl all ↦ inl (is, too, all)
        | inr some ↦ inr ((k, Take) ∷ (l, Publish) ∷ some.0, some.1, ap (λ (ts : List (ℕ × What)). (k, Take) ∷ (l, Publish) ∷ ts) some.2, (is, too, some.3))
      ];
    }

-- a Take alone, whose Publish comes first of the others
take_alone : (n m k : ℕ) (turns : List (ℕ × What)) → AreTurnsOf n ((k, Take) ∷ turns) m → AreFirst n m ((k, Take) ∷ [])
take_alone n m k [] h = absurd h
take_alone n m k ((l, Line) ∷ turns) h = absurd h
take_alone n m k ((l, Take) ∷ turns) h = absurd h
take_alone n m k ((l, Publish) ∷ turns) h =
    let more : n + 1 ≤ m = turns_rise (n + 1) m turns h.2 in
    record {
      next = n;
      from = omega arith;
      up_to = omega arith;
      are = inr ([], omega arith, ap (λ (j : ℕ). (j, Take) ∷ []) h.0, refl);
    }

first_turns : (n m : ℕ) (xs ys : List (ℕ × What)) → AreTurnsOf n (xs ++ ys) m → AreFirst n m xs
first_turns n m [] ys h = record { next = n; from = omega arith; up_to = turns_rise n m ys h; are = inl refl }
first_turns n m ((k, Line) ∷ xs) ys h = later_line n m k xs h.0 (first_turns (n + 1) m xs ys h.1)
first_turns n m ((k, Take) ∷ []) ys h = take_alone n m k ys h
first_turns n m ((k, Take) ∷ (l, Line) ∷ xs) ys h = absurd h
first_turns n m ((k, Take) ∷ (l, Take) ∷ xs) ys h = absurd h
first_turns n m ((k, Take) ∷ (l, Publish) ∷ xs) ys h = later_plan n m k l xs h.0 h.1 (first_turns (n + 1) m xs ys h.2)
first_turns n m ((k, Publish) ∷ xs) ys h = absurd h

-- they are those of a prefix of the script
prefix_turns : (script : List ScriptLine) (xs : List (ℕ × What)) → AreFirst 1 (length script + 1) xs → AnswersPrefix script xs
prefix_turns script xs f =
    let low : 1 ≤ f.next = f.from in
    let high : f.next ≤ length script + 1 = f.up_to in
    let back : f.next ≡ (f.next - 1) + 1 = omega arith in (
      f.next - 1,
      elim f.are [
        | inl all ↦ inl (omega arith, subst (λ (k : ℕ). AreTurnsOf 1 xs k) back all)
        | inr some ↦
            let short : f.next < length script + 1 = some.1 in
            inr (some.0, omega arith, subst (λ (k : ℕ). xs ≡ some.0 ++ (k, Take) ∷ []) back some.2, subst (λ (k : ℕ). AreTurnsOf 1 some.0 k) back some.3)
      ],
    )

-- ---- the first entries

pub turns_append : (caller : ℕ) (xs ys : List EventEntry) → turns_of caller (xs ++ ys) ≡ turns_of caller xs ++ turns_of caller ys
turns_append caller xs ys =
    ap (λ (es : List EventEntry). map (λ e. (e.line, e.what)) es) (filter-append (λ e. e.caller == caller) xs ys)
    ∙ map-append (λ e. (e.line, e.what)) (entries_of caller xs) (entries_of caller ys)

pub prefix_order : (scripts : List (List ScriptLine)) (history : List EventEntry) (n caller : ℕ) → IsWhole scripts history
    → AnswersPrefix (script_of scripts caller) (turns_of caller (take n history))
prefix_order scripts history n caller whole =
    let script : List ScriptLine = script_of scripts caller in
    let cut : turns_of caller history ≡ turns_of caller (take n history) ++ turns_of caller (drop n history) =
    ap (turns_of caller) (sym (take-append-drop n history)) ∙ turns_append caller (take n history) (drop n history) in
    prefix_turns script (turns_of caller (take n history))
    (first_turns 1 (length script + 1) (turns_of caller (take n history)) (turns_of caller (drop n history))
    (subst (λ (ts : List (ℕ × What)). AreTurnsOf 1 ts (length script + 1)) cut (whole caller)))
