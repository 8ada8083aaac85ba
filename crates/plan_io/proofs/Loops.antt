-- A loop over the calls of a reader of lines, step by step.
use Rattle.std.proofs.Common.{◌≡◌, ℕ, ◌+◌, ◌≤◌, ◌<◌, List, [], ◌∷◌, ◌++◌, length, take, drop, refl, sym, ◌∙◌, ap, subst, arith, append-nil}
use Rattle.std.proofs.Common.{append_assoc, take-append-drop, length-append, Bool, true, false, cond, nat_eq, inl, inr}
use Rattle.std.proofs.KnownBytes.{Consumes-trans}
use Rattle.std.specs.declared.option.Option.{Option}
use Rattle.std.specs.Io.KnownBytes.{Consumes, IsAtEnd}
use Rattle.std.proofs.Math.Seq.{take-append_seam}
use Rattle.std.proofs.lemmas.Bool.Decides.{leb_tells}
use Rattle.plan_io.specs.declared.lines.ScriptLine.{ScriptLine}
use Rattle.plan_io.specs.declared.lines.LineAnswer.{LineAnswer}
use Rattle.plan_io.specs.declared.lines.LineAnswer.TheVariants.{Line, End, ReadFault, InputOver}
use Rattle.plan_io.specs.LinesSeen.{LinesSeen, IsFresh, IsWithin}
use Rattle.plan_io.specs.LinesOf.{line_of, last_of, lines_from, lines_of, whole_lines_of, after_newline, lines_left}
use Rattle.plan_io.specs.Newline.{NoNewline}
use Rattle.plan_io.specs.Next.{Cuts, ReadsOn, ReadsOver, BeginsTooMany, IsNext}
use Rattle.plan_io.specs.Reading.{HasEnded, HasAnswered, ReadsAll, ReadsFirst}
use Rattle.plan_io.proofs.Cuts.{after_more, last_line}
use Rattle.plan_io.proofs.Readings.{advances_on, cuts_on}
use Rattle.plan_io.proofs.Turns.{reads_none}
use Rattle.plan_io.proofs.Wholes.{all_lines, all_with_last, all_whole_lines, first_whole_lines, fresh_lines}

pub so_far_start : (s : LinesSeen) (a : Option (List ℕ)) → s.ended ≡ false → HasAnswered s a [] s a
so_far_start s a opened = inl (reads_none s a, opened)

-- lines and then more lines
reads_on : (s t u : LinesSeen) (a b c : Option (List ℕ)) (ls ms : List ScriptLine) → ReadsOn s a ls t b → ReadsOn t b ms u c → ReadsOn s a (ls ++ ms) u c
reads_on s t u a b c ls ms h g = (h.0 ++ g.0, Consumes-trans a b c h.0 g.0 h.1 g.1, advances_on s t u h.0 g.0 ls ms h.2 g.2)

open_line : (s t u : LinesSeen) (a b c : Option (List ℕ)) (ls : List ScriptLine) (l : ScriptLine) → IsFresh s → ReadsOn s a ls t b → t.ended ≡ false
    → IsNext t b u c (Line l) → HasAnswered s a (ls ++ l ∷ []) u c
open_line s t u a b c ls l fresh h opened next =
    elim next.0 [
      | inl cut ↦ inl (reads_on s t u a b c ls (l ∷ []) h cut.0, cut.1)
      | inr last ↦
          let bytes = h.0 ++ last.0.0 in
          let came : Consumes a c bytes = Consumes-trans a b c h.0 last.0.0 h.1 last.0.1 in
          let ends = last.0.2 in
          inr (record {
            given = bytes;
            came = came;
            at_end = last.0.3 opened;
            are = all_with_last s t u h.0 last.0.0 ls l fresh h.2.cuts ends;
            fresh = ends.fresh;
            ended = last.1;
            taken = omega (arith, ends.taken, h.2.taken, length-append h.0 last.0.0);
            answered = omega (arith, ends.answered, h.2.answered, length-append ls (l ∷ []));
            most_bytes = ends.most_bytes ∙ h.2.most_bytes;
            most_lines = ends.most_lines ∙ h.2.most_lines;
          })
    ]

-- a line more
pub so_far_line : (s t u : LinesSeen) (a b c : Option (List ℕ)) (ls : List ScriptLine) (l : ScriptLine) → IsFresh s → HasAnswered s a ls t b
    → IsNext t b u c (Line l) → (t.ended ≡ true → IsFresh t → Line l ≡ End) → HasAnswered s a (ls ++ l ∷ []) u c
so_far_line s t u a b c ls l fresh (inl h) next stays = open_line s t u a b c ls l fresh h.0 h.1 next
so_far_line s t u a b c ls l fresh (inr h) next stays = absurd (let e = stays h.ended h.fresh in cc)

-- no line more
reads_on_none : (s t u : LinesSeen) (a b c : Option (List ℕ)) (ls : List ScriptLine) → ReadsOn s a ls t b → ReadsOn t b [] u c → ReadsOn s a ls u c
reads_on_none s t u a b c ls h g = subst (λ (ks : List ScriptLine). ReadsOn s a ks u c) (append-nil ls) (reads_on s t u a b c ls [] h g)

lines_some : (p bs : List ℕ) → 0 < length p + length bs → 0 < length (lines_from p bs)
lines_some [] [] h = absurd (omega (arith, h))
lines_some (x ∷ xs) [] h = omega arith
lines_some p (b ∷ bs) h =
    let more : 0 < length (p ++ b ∷ []) + length bs = omega (arith, length-append p (b ∷ [])) in
    elim (nat_eq b 10) as (λ t. 0 < length (cond t (line_of p ∷ lines_from [] bs) (lines_from (p ++ b ∷ []) bs))) [
      | true ↦ omega arith
      | false ↦ lines_some (p ++ b ∷ []) bs more
    ]

-- a line that has begun is left
begun_left : (long : Bool) (held : List ℕ) → ((held ≡ []) × (long ≡ false) → ⊥) → 0 < length (lines_left long (held ++ []))
begun_left true held h = omega arith
begun_left false [] h = absurd (h (refl, refl))
begun_left false (b ∷ bs) h = lines_some [] (b ∷ bs ++ []) (omega arith)

-- all lines of the bytes that were taken: those that were answered, and those that are left
answered_then_left : (s u : LinesSeen) (bytes : List ℕ) (ls : List ScriptLine) → IsFresh s → Cuts s bytes ls u
    → length (lines_of bytes) ≡ length ls + length (lines_left u.long (u.held ++ []))
answered_then_left s u bytes ls fresh cuts =
    let left = lines_left u.long (u.held ++ []) in
    let all : lines_of bytes ≡ ls ++ left = ap lines_of (sym (append-nil bytes)) ∙ sym (fresh_lines s bytes [] fresh) ∙ cuts [] in
    ap length all ∙ length-append ls left

one_last : (held : List ℕ) → length (last_of held) ≤ 1
one_last [] = omega arith
one_last (b ∷ bs) = omega arith

-- where no newline is held, at most one line is left
one_at_most : (long : Bool) (held : List ℕ) → NoNewline held → length (lines_left long (held ++ [])) ≤ 1
one_at_most true held clear = let rest : length (lines_of (after_newline (held ++ []))) ≡ 0 =
    ap (λ (xs : List ℕ). length (lines_of xs)) (after_more held [] clear) in omega (arith, rest)
one_at_most false held clear =
    let same : length (lines_of (held ++ [])) ≡ length (last_of held) = ap (λ (xs : List ℕ). length (lines_of xs)) (append-nil held)
    ∙ ap length (last_line held clear) in
    omega (arith, same, one_last held)

-- and none where no byte of one was taken
none_begun : (u : LinesSeen) → IsFresh u → length (lines_left u.long (u.held ++ [])) ≡ 0
none_begun u fresh = ap (λ (b : Bool). length (lines_left b (u.held ++ []))) fresh.long ∙ ap (λ (xs : List ℕ). length (lines_of (xs ++ []))) fresh.held

-- within the limits, the line that has begun is one of those that there may be
begun_within : (u : LinesSeen) → NoNewline u.held → IsWithin u → u.answered + length (lines_left u.long (u.held ++ [])) ≤ u.most_lines
begun_within u clear within =
    elim (leb_tells (u.answered + 1) u.most_lines) [
      | inl t ↦ omega (arith, t.1, one_at_most u.long u.held clear)
      | inr t ↦
          let last : u.answered ≡ u.most_lines = omega (arith, t.1, within.lines) in
          omega (arith, last, none_begun u (within.last last))
    ]

open_over : (s t u : LinesSeen) (a b c : Option (List ℕ)) (ls : List ScriptLine) → IsFresh s → s.taken ≡ 0 → s.answered ≡ 0 → t.taken ≤ t.most_bytes
    → t.answered ≤ t.most_lines → ReadsOn s a ls t b → ReadsOver t b u c
    → (given : List ℕ) × Consumes a c given × (length given ≡ s.most_bytes + 1) × (ls ≡ whole_lines_of (take s.most_bytes given)) × (length ls ≤ s.most_lines)
open_over s t u a b c ls fresh zero none within few h g =
    let kept = h.0 ++ g.0 in
    let lost = g.1.0 in
    let over = g.1.2 in
    let size : length kept ≡ s.most_bytes =
    omega (
      arith,
      over.one within,
      over.over,
      over.taken,
      over.most_bytes,
      length-append g.0 lost,
      h.2.taken,
      zero,
      h.2.most_bytes,
      length-append h.0 g.0,
    ) in
    let all : length (kept ++ lost) ≡ length kept + length lost = length-append kept lost in
    let came : length (g.0 ++ lost) ≡ length g.0 + length lost = length-append g.0 lost in
    let cuts : Cuts s kept ls u = subst (λ (ks : List ScriptLine). Cuts s kept ks u) (append-nil ls) (cuts_on s t u h.0 g.0 ls [] h.2.cuts over.cuts) in
    let front : take s.most_bytes (kept ++ lost) ≡ kept = subst (λ (n : ℕ). take n (kept ++ lost) ≡ kept) size (take-append_seam kept lost) in (
      kept ++ lost,
      subst (λ (xs : List ℕ). Consumes a c xs) (sym (append_assoc h.0 g.0 lost)) (Consumes-trans a b c h.0 (g.0 ++ lost) h.1 g.1.1),
      omega (arith, over.over, over.taken, over.most_bytes, h.2.most_bytes, h.2.taken, zero, all, came, length-append h.0 g.0),
      all_whole_lines s u kept ls fresh cuts over.clear ∙ ap whole_lines_of (sym front),
      omega (arith, few, h.2.answered, none, h.2.most_lines),
    )

open_many : (s u : LinesSeen) (a c : Option (List ℕ)) (ls : List ScriptLine) → IsFresh s → s.taken ≡ 0 → s.answered ≡ 0 → ReadsOn s a ls u c → BeginsTooMany u
    → (given : List ℕ) × Consumes a c given × (length given ≤ s.most_bytes) × (s.most_lines < length (lines_of given))
    × (ls ≡ take s.most_lines (whole_lines_of given))
open_many s u a c ls fresh zero none h many =
    let size : length ls ≡ s.most_lines = omega (arith, h.2.answered, none, many.lines, h.2.most_lines) in
    let some : 0 < length (lines_left u.long (u.held ++ [])) = begun_left u.long u.held (λ f. many.begun (record { held = f.0; long = f.1 })) in
    let more = answered_then_left s u h.0 ls fresh h.2.cuts in (
      h.0,
      h.1,
      omega (arith, h.2.taken, zero, many.bytes, h.2.most_bytes),
      omega (arith, more, size, some),
      first_whole_lines s u h.0 ls fresh h.2.cuts ∙ ap (λ (n : ℕ). take n (whole_lines_of h.0)) size,
    )

open_read : (s t u : LinesSeen) (a b c : Option (List ℕ)) (ls : List ScriptLine) (ending : LineAnswer) → IsFresh s → s.taken ≡ 0 → s.answered ≡ 0
    → t.taken ≤ t.most_bytes → t.answered ≤ t.most_lines → ReadsOn s a ls t b → t.ended ≡ false
    → IsNext t b u c ending → ((l : ScriptLine) → ending ≡ Line l → ⊥) → ReadsAll s.most_bytes s.most_lines a ls ending c
open_read s t u a b c ls (Line l) fresh zero none within few h opened next unlike = unlike l refl
open_read s t u a b c ls End fresh zero none within few h opened next unlike =
    let r = reads_on_none s t u a b c ls h next.0 in (
      r.0,
      r.1,
      next.5 opened,
      all_lines s u r.0 ls fresh r.2.cuts next.1,
      omega (arith, r.2.taken, zero, next.2.bytes, r.2.most_bytes),
      omega (arith, r.2.answered, none, next.2.lines, r.2.most_lines),
    )
open_read s t u a b c ls ReadFault fresh zero none within few h opened next unlike =
    let r = reads_on_none s t u a b c ls h next.0 in (
      r.0,
      r.1,
      all_whole_lines s u r.0 ls fresh r.2.cuts next.1,
      omega (arith, r.2.taken, zero, next.2.bytes, r.2.most_bytes),
      omega (arith, r.2.answered, none, next.2.lines, r.2.most_lines),
      omega (arith, answered_then_left s u r.0 ls fresh r.2.cuts, begun_within u next.1 next.2, r.2.answered, none, r.2.most_lines),
    )
open_read s t u a b c ls InputOver fresh zero none within few h opened next unlike =
    elim next.0 [
      | inl over ↦ let r = open_over s t u a b c ls fresh zero none within few h over in (r.0, r.1, inl (r.2, r.3, r.4))
      | inr many ↦ let r = open_many s u a c ls fresh zero none (reads_on_none s t u a b c ls h many.0) many.1 in (r.0, r.1, inr (r.2, r.3, r.4))
    ]

ended_read : (s t : LinesSeen) (a b c : Option (List ℕ)) (ls : List ScriptLine) → s.taken ≡ 0 → s.answered ≡ 0 → t.taken ≤ t.most_bytes
    → t.answered ≤ t.most_lines → HasEnded s a ls t b → c ≡ b
    → ReadsAll s.most_bytes s.most_lines a ls End c
ended_read s t a b c ls zero none within few h same = (
  h.given,
  subst (λ (o : Option (List ℕ)). Consumes a o h.given) (sym same) h.came,
  subst IsAtEnd (sym same) h.at_end,
  h.are,
  omega (arith, h.taken, zero, within, h.most_bytes),
  omega (arith, h.answered, none, few, h.most_lines),
)

-- the first answer that is no line; after the end nothing more is taken
pub so_far_ends : (s t u : LinesSeen) (a b c : Option (List ℕ)) (ls : List ScriptLine) (ending : LineAnswer) → IsFresh s → s.taken ≡ 0
    → s.answered ≡ 0 → t.taken ≤ t.most_bytes → t.answered ≤ t.most_lines → HasAnswered s a ls t b
    → IsNext t b u c ending → (t.ended ≡ true → IsFresh t → (c ≡ b) × (ending ≡ End)) → ((l : ScriptLine) → ending ≡ Line l → ⊥)
    → ReadsAll s.most_bytes s.most_lines a ls ending c
so_far_ends s t u a b c ls ending fresh zero none within few (inl h) next stays unlike =
    open_read s t u a b c ls ending fresh zero none within few h.0 h.1 next unlike
so_far_ends s t u a b c ls ending fresh zero none within few (inr h) next stays unlike =
    let ended = stays h.ended h.fresh in
    subst (λ (e : LineAnswer). ReadsAll s.most_bytes s.most_lines a ls e c) (sym ended.1) (ended_read s t a b c ls zero none within few h ended.0)

-- ---- a reader that may go on

open_first : (s u : LinesSeen) (a c : Option (List ℕ)) (ls : List ScriptLine) → IsFresh s → s.taken ≡ 0 → s.answered ≡ 0 → u.taken ≤ u.most_bytes
    → u.answered ≤ u.most_lines → ReadsOn s a ls u c
    → ReadsFirst s.most_bytes s.most_lines a ls c
open_first s u a c ls fresh zero none within few h =
    let ws = whole_lines_of h.0 in
    let n = length ls in
    record {
      given = h.0;
      came = h.1;
      first = inl (drop n ws, sym (take-append-drop n ws) ∙ ap (λ (xs : List ScriptLine). xs ++ drop n ws) (sym (first_whole_lines s u h.0 ls fresh h.2.cuts)));
      bytes = omega (arith, h.2.taken, zero, within, h.2.most_bytes);
      few = omega (arith, h.2.answered, none, few, h.2.most_lines);
    }

-- the lines that were answered so far
pub so_far_first : (s t : LinesSeen) (a b : Option (List ℕ)) (ls : List ScriptLine) → IsFresh s → s.taken ≡ 0 → s.answered ≡ 0
    → t.taken ≤ t.most_bytes → t.answered ≤ t.most_lines → HasAnswered s a ls t b
    → ReadsFirst s.most_bytes s.most_lines a ls b
so_far_first s t a b ls fresh zero none within few (inl h) = open_first s t a b ls fresh zero none within few h.0
so_far_first s t a b ls fresh zero none within few (inr h) = record {
  given = h.given;
  came = h.came;
  first = inr (h.at_end, h.are);
  bytes = omega (arith, h.taken, zero, within, h.most_bytes);
  few = omega (arith, h.answered, none, few, h.most_lines);
}

-- the same where memory was wanting in a call, which never is after the end
pub so_far_cut : (s t u : LinesSeen) (a b c : Option (List ℕ)) (ls : List ScriptLine) → IsFresh s → s.taken ≡ 0 → s.answered ≡ 0
    → HasAnswered s a ls t b → ReadsOn t b [] u c → IsWithin u
    → (t.ended ≡ true → IsFresh t → ⊥) → ReadsFirst s.most_bytes s.most_lines a ls c
so_far_cut s t u a b c ls fresh zero none (inl h) more within goes_on =
    open_first s u a c ls fresh zero none within.bytes within.lines (reads_on_none s t u a b c ls h.0 more)
so_far_cut s t u a b c ls fresh zero none (inr h) more within goes_on = absurd (goes_on h.ended h.fresh)
