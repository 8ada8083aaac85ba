-- What the parts of one call do to a reader.
use Rattle.std.proofs.Common.{◌≡◌, ℕ, ◌+◌, ◌-◌, ◌≤◌, ◌<◌, max, List, [], ◌∷◌, ◌++◌, length, take, drop, refl, sym, ◌∙◌, ap, subst, arith, append_assoc}
use Rattle.std.proofs.Common.{append-nil, length-append, Bool, true, false, inl, inr}
use Rattle.std.proofs.KnownBytes.{Consumes-nil, Consumes-trans, Consumes-kept}
use Rattle.std.specs.declared.option.Option.{Option}
use Rattle.std.specs.declared.option.Option.TheVariants.{Some, None}
use Rattle.std.specs.Io.KnownBytes.{Consumes, Keeps, IsAtEnd}
use Rattle.std.proofs.lemmas.Bool.{true≢false}
use Rattle.std.proofs.lemmas.Bool.Decides.{leb_tells}
use Rattle.std.proofs.lemmas.List.{length-take-le}
use Rattle.plan_io.specs.declared.lines.ScriptLine.{ScriptLine}
use Rattle.plan_io.specs.declared.lines.LineAnswer.{LineAnswer}
use Rattle.plan_io.specs.declared.lines.LineAnswer.TheVariants.{Line, End, ReadFault, InputOver}
use Rattle.plan_io.specs.declared.lines.Turn.TheVariants as turn
use Rattle.plan_io.specs.Newline.{NoNewline, EndsAt}
use Rattle.plan_io.specs.LinesOf.{lines_left}
use Rattle.plan_io.specs.LinesSeen.{LinesSeen, IsFresh, IsWithin, HasLine}
use Rattle.plan_io.specs.Next.{line_at, Advances, EndsIn, ReadsOn, ReadsOver, BeginsTooMany, IsCut, IsTurn, IsLast, IsNext, IsNextCause, IsLine}
use Rattle.plan_io.proofs.Cuts.{no_place, after_first}
use Rattle.plan_io.proofs.Readings.{cuts_first, cuts_long, cuts_same, cuts_on, last_piece, advances_on, reads_then, reads_more}

-- a line that has begun may be answered
may_answer : (s : LinesSeen) → IsWithin s → (IsFresh s → ⊥) → s.answered + 1 ≤ s.most_lines
may_answer s within begun =
    elim (leb_tells (s.answered + 1) s.most_lines) [
      | inl t ↦ t.1
      | inr t ↦
          let same : s.answered ≡ s.most_lines = omega (arith, t.1, within.lines) in
          absurd (begun (within.last same))
    ]

pub cut_some : (s : LinesSeen) (h : List ℕ) (n : ℕ) (l : ScriptLine) → IsWithin s → EndsAt s.held n → h ≡ drop (n + 1) s.held → l ≡ line_at s n
    → IsCut s (record s { held = h; long = false; answered = s.answered + 1 }) (Some l)
cut_some s h n l within ends held is =
    let t : LinesSeen = record s { held = h; long = false; answered = s.answered + 1 } in
    let begun : IsFresh s → ⊥ = λ f. omega (arith, ends.within, ap length f.held) in (
      record { cuts = cuts_first s t n l ends held refl is; taken = omega arith; answered = refl; most_bytes = refl; most_lines = refl },
      may_answer s within begun,
      refl,
      refl,
      (n, ends),
      held ∙ sym (after_first s.held n ends),
    )

pub cut_long : (s : LinesSeen) (h : List ℕ) → IsWithin s → NoNewline s.held → (s.long ≡ false → 1048576 < length s.held) → h ≡ []
    → IsCut s (record s { held = h; long = true }) None
cut_long s h within clear size held =
    let t : LinesSeen = record s { held = h; long = true } in
    let begun : IsFresh s → ⊥ = λ f. omega (arith, size f.long, ap length f.held) in
    let less : s.answered + 1 ≤ s.most_lines = may_answer s within begun in (
      record { cuts = cuts_long s t clear size held refl; taken = omega arith; answered = omega arith; most_bytes = refl; most_lines = refl },
      subst NoNewline (sym held) tt,
      record { bytes = within.bytes; lines = within.lines; last = λ e. absurd (omega (arith, e, less)) },
      refl,
      refl,
      clear,
    )

some_held : (xs : List ℕ) → (xs ≡ [] → ⊥) → 0 < length xs
some_held [] h = absurd (h refl)
some_held (x ∷ xs) h = omega arith

pub last_line_is : (s : LinesSeen) (h : List ℕ) (n : ℕ) (l : ScriptLine) → IsWithin s → NoNewline s.held → (IsFresh s → ⊥) → n ≡ length s.held
    → h ≡ [] → l ≡ line_at s n
    → IsLast s (record s { held = h; long = false; answered = s.answered + 1 }) (Line l)
last_line_is s h n l within clear begun size held is =
    let some : s.long ≡ false → 0 < n = λ e. omega (arith, size, some_held s.held (λ none. begun (record { held = none; long = e }))) in (
      record {
        last = last_piece s n clear size some ∙ ap (λ (k : ScriptLine). k ∷ []) (sym is);
        fresh = record { held = held; long = refl };
        taken = omega arith;
        answered = refl;
        most_bytes = refl;
        most_lines = refl;
      },
      may_answer s within begun,
      refl,
      refl,
    )

-- a read that asks for a byte beyond the limit, and gets it
pub read_over : (s : LinesSeen) (h block : List ℕ) (n size : ℕ) (a b : Option (List ℕ)) → IsWithin s → NoNewline s.held → s.failed ≡ false
    → s.ended ≡ false → h ≡ s.held → n ≤ size → size ≤ max 1 (s.most_bytes - s.taken)
    → s.most_bytes - s.taken < n → n ≤ length block → Consumes a b (take n block) → IsTurn s a (record s { held = h; taken = s.taken + n }) b turn.Over
read_over s h block n size a b within clear steady opened held most room over given came =
    let t : LinesSeen = record s { held = h; taken = s.taken + n } in
    let count : length (take n block) ≡ n = length-take-le n block given in (
      inl (
        [],
        (
          take n block,
          came,
          record {
            cuts = cuts_same s t held refl;
            clear = subst NoNewline (sym held) clear;
            over = omega (arith, within.bytes, over, most, room);
            one = λ _. omega (arith, within.bytes, over, most, room, count);
            taken = omega (arith, count);
            answered = refl;
            most_bytes = refl;
            most_lines = refl;
          },
        ),
      ),
      steady,
      opened,
    )

-- nothing read, and nothing answered
pub reads_none : (s : LinesSeen) (a : Option (List ℕ)) → ReadsOn s a [] s a
reads_none s a = (
  [],
  Consumes-nil a,
  record { cuts = cuts_same s s refl refl; taken = omega arith; answered = omega arith; most_bytes = refl; most_lines = refl },
)

begins_too_many : (s : LinesSeen) → (IsWithin s → ⊥) → s.answered ≤ s.most_lines → s.taken ≤ s.most_bytes → BeginsTooMany s
begins_too_many s over few small =
    let most : s.answered ≡ s.most_lines =
    elim (leb_tells (s.answered + 1) s.most_lines) [
      | inl t ↦ absurd (over (record { bytes = small; lines = few; last = λ e. absurd (omega (arith, e, t.1)) }))
      | inr t ↦ omega (arith, t.1, few)
    ] in
    record { bytes = small; lines = most; begun = λ f. over (record { bytes = small; lines = few; last = λ e. f }) }

-- a reader beyond its limits answers InputOver again
pub over_again : (s : LinesSeen) (a : Option (List ℕ)) → (IsWithin s → ⊥) → s.answered ≤ s.most_lines → s.taken ≤ s.most_bytes + 1
    → (s.most_bytes < s.taken → NoNewline s.held) → s.failed ≡ false → s.ended ≡ false
    → IsNext s a s a InputOver
over_again s a over few most clear steady opened =
    elim (leb_tells s.taken s.most_bytes) [
      | inl t ↦ (inr (reads_none s a, begins_too_many s over few t.1), over, steady, opened)
      | inr t ↦ (
        inl (
          [],
          (
            [],
            Consumes-nil a,
            record {
              cuts = cuts_same s s refl refl;
              clear = clear t.1;
              over = omega (arith, t.1, most);
              one = λ h. absurd (omega (arith, h, t.1));
              taken = omega arith;
              answered = refl;
              most_bytes = refl;
              most_lines = refl;
            },
          ),
        ),
        over,
        steady,
        opened,
      )
    ]

-- bytes beyond the limit after bytes within it
reads_over : (s t u : LinesSeen) (a b c : Option (List ℕ)) → ReadsOn s a [] t b → IsWithin t → ReadsOver t b u c → ReadsOver s a u c
reads_over s t u a b c h within g =
    let bytes = h.0 ++ g.0 in
    let lost = g.1.0 in
    let joined : h.0 ++ (g.0 ++ lost) ≡ bytes ++ lost = sym (append_assoc h.0 g.0 lost) in
    let over = g.1.2 in (
      bytes,
      (
        lost,
        subst (λ (xs : List ℕ). Consumes a c xs) joined (Consumes-trans a b c h.0 (g.0 ++ lost) h.1 g.1.1),
        record {
          cuts = cuts_on s t u h.0 g.0 [] [] h.2.cuts over.cuts;
          clear = over.clear;
          over = over.over;
          one = λ _. over.one within.bytes;
          taken = omega (arith, over.taken, h.2.taken, ap length joined, length-append h.0 (g.0 ++ lost));
          answered = omega (arith, over.answered, h.2.answered);
          most_bytes = over.most_bytes ∙ h.2.most_bytes;
          most_lines = over.most_lines ∙ h.2.most_lines;
        },
      ),
    )

-- a turn that came beyond a limit
pub over_now : (s t u : LinesSeen) (a b c : Option (List ℕ)) → ReadsOn s a [] t b → IsWithin t → IsTurn t b u c turn.Over → IsNext s a u c InputOver
over_now s t u a b c h within g =
    elim g.0 [
      | inl over ↦ (inl (reads_over s t u a b c h within over), λ w. omega (arith, w.bytes, over.1.2.over), g.1, g.2)
      | inr many ↦ (inr (reads_more s t u a b c h many.0, many.1), λ w. many.1.begun (w.last many.1.lines), g.1, g.2)
    ]

-- no line was cut where none is there
pub is_none : (line : Option ScriptLine) → ((l : ScriptLine) → line ≡ Some l → ⊥) → line ≡ None
is_none None h = refl
is_none (Some l) h = absurd (h l refl)

-- a line that has begun is answered at the end
pub begun_line : (s t : LinesSeen) (answer : LineAnswer) → IsLast s t answer → (IsFresh s → ⊥) → IsLine answer
begun_line s t (Line l) h begun = tt
begun_line s t End h begun = begun h.1
begun_line s t ReadFault h begun = h
begun_line s t InputOver h begun = h

-- where none was cut off and the source goes on, no line was at hand
pub no_line_at_hand : (s t : LinesSeen) → s.ended ≡ false → IsCut s t None → HasLine s → ⊥
no_line_at_hand s t opened cut has =
    elim has.whole [
      | inl newline ↦ no_place s.held cut.5 newline
      | inr last ↦ true≢false (sym last.0 ∙ opened)
    ]

-- bytes of a piece that is too long were dropped, or nothing, and then the reader answered these lines
reads_after : (s t u : LinesSeen) (a b : Option (List ℕ)) (ls : List ScriptLine) → Advances s [] [] t → ReadsOn t a ls u b → ReadsOn s a ls u b
reads_after s t u a b ls cut h = (h.0, h.1, advances_on s t u [] h.0 [] ls cut h.2)

ends_after : (s t u : LinesSeen) (bytes : List ℕ) (l : ScriptLine) → Advances s [] [] t → EndsIn t bytes l u → EndsIn s bytes l u
ends_after s t u bytes l cut h = record {
  last = ap (λ (xs : List ℕ). lines_left s.long (xs ++ bytes)) (sym (append-nil s.held)) ∙ cut.cuts bytes ∙ h.last;
  fresh = h.fresh;
  taken = omega (arith, h.taken, cut.taken);
  answered = omega (arith, h.answered, cut.answered);
  most_bytes = h.most_bytes ∙ cut.most_bytes;
  most_lines = h.most_lines ∙ cut.most_lines;
}

-- what follows where no line was cut off
pub next_after : (s t u : LinesSeen) (a b : Option (List ℕ)) (answer : LineAnswer) → IsCut s t None → IsNext t a u b answer → IsNext s a u b answer
next_after s t u a b (Line l) cut next = (
  elim next.0 [
    | inl h ↦ inl (reads_after s t u a b (l ∷ []) cut.0 h.0, h.1)
    | inr h ↦ inr ((h.0.0, h.0.1, ends_after s t u h.0.0 l cut.0 h.0.2, λ e. h.0.3 (cut.4 ∙ e)), h.1)
  ],
  next.1,
  next.2,
  next.3,
)
next_after s t u a b End cut next = (reads_after s t u a b [] cut.0 next.0, next.1, next.2, next.3, next.4, λ e. next.5 (cut.4 ∙ e))
next_after s t u a b ReadFault cut next = (reads_after s t u a b [] cut.0 next.0, next.1, next.2, next.3, next.4)
next_after s t u a b InputOver cut next = (
  elim next.0 [
    | inl over ↦ inl (reads_over s t u a a b ([], Consumes-nil a, cut.0) cut.2 over)
    | inr many ↦ inr (reads_after s t u a b [] cut.0 many.0, many.1)
  ],
  next.1,
  next.2,
  next.3,
)

pub cause_after : (s t : LinesSeen) (before now : ℕ) (answer : LineAnswer) → t.failed ≡ s.failed → IsNextCause t before now answer
    → IsNextCause s before now answer
cause_after s t before now (Line l) same h = h
cause_after s t before now End same h = h
cause_after s t before now ReadFault same h = (h.0, λ e. h.1 (same ∙ e))
cause_after s t before now InputOver same h = h

-- bytes that were taken before want of memory
pub stops_after : (s t u : LinesSeen) (a b : Option (List ℕ)) → IsCut s t None → ReadsOn t a [] u b → ReadsOn s a [] u b
stops_after s t u a b cut h = reads_after s t u a b [] cut.0 h

-- a block was added, and a line cut off
pub line_now : (s t u w : LinesSeen) (a b c : Option (List ℕ)) (l : ScriptLine) → ReadsOn s a [] t b → IsTurn t b u c turn.More → IsCut u w (Some l)
    → IsNext s a w c (Line l)
line_now s t u w a b c l h more cut =
    let reads = reads_then s u w a c (l ∷ []) (reads_more s t u a b c h more.0) cut.0 in
    let small : w.taken ≤ w.most_bytes = omega (arith, cut.0.taken, cut.0.most_bytes, more.2.bytes) in
    (inl (reads, cut.3 ∙ more.4), small, cut.1, cut.2 ∙ more.3)

-- the source came to its end, and what was held was answered
pub last_now : (s t u : LinesSeen) (a b c : Option (List ℕ)) (answer : LineAnswer) → ReadsOn s a [] t b → IsWithin t → t.failed ≡ false → Keeps b c
    → IsAtEnd c → IsLast (record t { ended = true }) u answer → IsNext s a u c answer
last_now s t u a b c (Line l) h within steady kept end last =
    let came : Consumes a c h.0 = Consumes-kept a b c h.0 h.1 kept in
    let ends : EndsIn s h.0 l u = record {
      last = ap (lines_left s.long) (sym (append-nil (s.held ++ h.0))) ∙ h.2.cuts [] ∙ last.0.last;
      fresh = last.0.fresh;
      taken = omega (arith, last.0.taken, h.2.taken);
      answered = omega (arith, last.0.answered, h.2.answered);
      most_bytes = last.0.most_bytes ∙ h.2.most_bytes;
      most_lines = last.0.most_lines ∙ h.2.most_lines;
    } in
    let small : u.taken ≤ u.most_bytes = omega (arith, last.0.taken, last.0.most_bytes, within.bytes) in
    (inr ((h.0, came, ends, λ e. end), last.3), small, last.1, last.2 ∙ steady)
last_now s t u a b c End h within steady kept end last =
    let came : Consumes a c h.0 = Consumes-kept a b c h.0 h.1 kept in
    let fresh : IsFresh (record t { ended = true }) = last.1 in
    subst (λ (v : LinesSeen). IsNext s a v c End) (sym last.0) (
      (
        h.0,
        came,
        record { cuts = h.2.cuts; taken = h.2.taken; answered = h.2.answered; most_bytes = h.2.most_bytes; most_lines = h.2.most_lines },
      ),
      fresh,
      record { bytes = within.bytes; lines = within.lines; last = λ e. fresh },
      steady,
      refl,
      λ e. end,
    )
last_now s t u a b c ReadFault h within steady kept end last = absurd last
last_now s t u a b c InputOver h within steady kept end last = absurd last

-- what isn't true is false
pub is_false : (b : Bool) → (b ≡ true → ⊥) → b ≡ false
is_false true h = absurd (h refl)
is_false false h = refl
