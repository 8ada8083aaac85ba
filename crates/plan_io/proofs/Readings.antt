-- What a reader's steps make of the lines that are left.
use Rattle.std.proofs.Common.{◌≡◌, ℕ, ◌+◌, ◌<◌, List, [], ◌∷◌, ◌++◌, length, take, drop, refl, sym, ◌∙◌, ap, subst, arith, append_assoc, append-nil}
use Rattle.std.proofs.Common.{take-append-drop, length-append, Bool, true, false, cond, take_all}
use Rattle.std.proofs.KnownBytes.{Consumes-trans}
use Rattle.std.specs.declared.option.Option.{Option}
use Rattle.std.proofs.lemmas.Bool.{true≢false}
use Rattle.plan_io.specs.declared.lines.ScriptLine.{ScriptLine}
use Rattle.plan_io.specs.declared.lines.ScriptLine.TheVariants.{TooLong}
use Rattle.plan_io.specs.Newline.{NoNewline, EndsAt}
use Rattle.plan_io.specs.LinesOf.{line_of, last_of, lines_of, after_newline, lines_left}
use Rattle.plan_io.specs.LinesSeen.{LinesSeen}
use Rattle.plan_io.specs.Next.{line_at, Cuts, Advances, ReadsOn}
use Rattle.plan_io.proofs.Cuts.{lines_from_more, cuts_line, last_line, lines_long, after_more}

left_cut : (long : Bool) (held xs : List ℕ) (n : ℕ) → EndsAt held n → lines_left long (held ++ xs) ≡ cond long TooLong (line_of (take n held))
    ∷ lines_of (drop (n + 1) held ++ xs)
left_cut long held xs n e =
    let r = drop (n + 1) held ++ xs in
    let parts : held ≡ take n held ++ 10 ∷ drop (n + 1) held = sym (take-append-drop n held) ∙ ap (λ (ys : List ℕ). take n held ++ ys) e.newline in
    let split : held ++ xs ≡ take n held ++ 10 ∷ r = ap (λ (ys : List ℕ). ys ++ xs) parts ∙ append_assoc (take n held) (10 ∷ drop (n + 1) held) xs in
    elim long as (λ t. lines_left t (held ++ xs) ≡ cond t TooLong (line_of (take n held)) ∷ lines_of r) [
      | true ↦ ap (λ (ys : List ℕ). TooLong ∷ lines_of (after_newline ys)) split
          ∙ ap (λ (ys : List ℕ). TooLong ∷ lines_of ys) (after_more (take n held) (10 ∷ r) e.clear)
      | false ↦ ap lines_of split ∙ cuts_line (take n held) r e.clear
    ]

left_long : (long : Bool) (held xs : List ℕ) → NoNewline held → (long ≡ false → 1048576 < length held) → lines_left long (held ++ xs) ≡ lines_left true xs
left_long true held xs h g = ap (λ (ys : List ℕ). TooLong ∷ lines_of ys) (after_more held xs h)
left_long false held xs h g = lines_from_more [] held xs h ∙ lines_long held xs (g refl)

last_too_long : (long : Bool) (held : List ℕ) → NoNewline held → (long ≡ false → 1048576 < length held) → lines_left long held ≡ TooLong ∷ []
last_too_long long held h g = ap (lines_left long) (sym (append-nil held)) ∙ left_long long held [] h g

last_some : (held : List ℕ) → 0 < length held → last_of held ≡ line_of held ∷ []
last_some [] h = absurd (omega (arith, h))
last_some (b ∷ bs) h = refl

last_of_both : (long : Bool) (held : List ℕ) → NoNewline held → (long ≡ false → 0 < length held) → lines_left long held ≡ cond long TooLong (line_of held) ∷ []
last_of_both true held clear some = last_too_long true held clear (λ e. absurd (true≢false e))
last_of_both false held clear some = last_line held clear ∙ last_some held (some refl)

-- the lines that are left, of a state with the same bytes
left_of : (s t : LinesSeen) (xs ys : List ℕ) → xs ≡ ys → s.long ≡ t.long → lines_left s.long xs ≡ lines_left t.long ys
left_of s t xs ys is long = ap (lines_left s.long) is ∙ ap (λ (b : Bool). lines_left b ys) long

-- a last piece is a line where it isn't empty
pub last_piece : (s : LinesSeen) (n : ℕ) → NoNewline s.held → n ≡ length s.held → (s.long ≡ false → 0 < n) → lines_left s.long (s.held ++ []) ≡ line_at s n ∷ []
last_piece s n clear is some =
    let whole : s.held ≡ take n s.held = sym (take_all n s.held (omega (arith, is))) in
    let size : s.long ≡ false → 0 < length s.held = λ e. omega (arith, some e, is) in
    ap (lines_left s.long) (append-nil s.held)
    ∙ last_of_both s.long s.held clear size
    ∙ ap (λ (ys : List ℕ). cond s.long TooLong (line_of ys) ∷ []) whole

-- the line up to the first newline is cut off
pub cuts_first : (s t : LinesSeen) (n : ℕ) (l : ScriptLine) → EndsAt s.held n → t.held ≡ drop (n + 1) s.held → t.long ≡ false
    → l ≡ line_at s n → Cuts s [] (l ∷ []) t
cuts_first s t n l e held long is later =
    ap (λ (xs : List ℕ). lines_left s.long (xs ++ later)) (append-nil s.held)
    ∙ left_cut s.long s.held later n e
    ∙ ap (λ (k : ScriptLine). k ∷ lines_of (drop (n + 1) s.held ++ later)) (sym is)
    ∙ ap (λ (h : List ℕ). l ∷ lines_left false (h ++ later)) (sym held)
    ∙ ap (λ (b : Bool). l ∷ lines_left b (t.held ++ later)) (sym long)

-- bytes of a piece that is too long are dropped
pub cuts_long : (s t : LinesSeen) → NoNewline s.held → (s.long ≡ false → 1048576 < length s.held) → t.held ≡ [] → t.long ≡ true → Cuts s [] [] t
cuts_long s t clear size held long later =
    ap (λ (xs : List ℕ). lines_left s.long (xs ++ later)) (append-nil s.held)
    ∙ left_long s.long s.held later clear size
    ∙ ap (λ (h : List ℕ). lines_left true (h ++ later)) (sym held)
    ∙ ap (λ (b : Bool). lines_left b (t.held ++ later)) (sym long)

-- bytes are added to those that are held
pub cuts_read : (s t : LinesSeen) (bs : List ℕ) → t.held ≡ s.held ++ bs → t.long ≡ s.long → Cuts s bs [] t
cuts_read s t bs held long later = left_of s t ((s.held ++ bs) ++ later) (t.held ++ later) (ap (λ (xs : List ℕ). xs ++ later) (sym held)) (sym long)

-- nothing is done
pub cuts_same : (s t : LinesSeen) → t.held ≡ s.held → t.long ≡ s.long → Cuts s [] [] t
cuts_same s t held long = cuts_read s t [] (held ∙ sym (append-nil s.held)) long

-- one step after another
pub cuts_on : (s t u : LinesSeen) (bs cs : List ℕ) (ls ms : List ScriptLine) → Cuts s bs ls t → Cuts t cs ms u → Cuts s (bs ++ cs) (ls ++ ms) u
cuts_on s t u bs cs ls ms h g later =
    let joined : (s.held ++ (bs ++ cs)) ++ later ≡ (s.held ++ bs) ++ (cs ++ later) = simp append_assoc in
    ap (lines_left s.long) joined
    ∙ h (cs ++ later)
    ∙ ap (λ (xs : List ℕ). ls ++ lines_left t.long xs) (sym (append_assoc t.held cs later))
    ∙ ap (λ (xs : List ScriptLine). ls ++ xs) (g later)
    ∙ sym (append_assoc ls ms (lines_left u.long (u.held ++ later)))

pub advances_on : (s t u : LinesSeen) (bs cs : List ℕ) (ls ms : List ScriptLine) → Advances s bs ls t → Advances t cs ms u → Advances s (bs ++ cs) (ls ++ ms) u
advances_on s t u bs cs ls ms h g = record {
  cuts = cuts_on s t u bs cs ls ms h.cuts g.cuts;
  taken = omega (arith, h.taken, g.taken, length-append bs cs);
  answered = omega (arith, h.answered, g.answered, length-append ls ms);
  most_bytes = g.most_bytes ∙ h.most_bytes;
  most_lines = g.most_lines ∙ h.most_lines;
}

-- after more bytes the reader answered lines of those that it held
pub reads_then : (s t u : LinesSeen) (a b : Option (List ℕ)) (ls : List ScriptLine) → ReadsOn s a [] t b → Advances t [] ls u → ReadsOn s a ls u b
reads_then s t u a b ls h g = (h.0, h.1, subst (λ (xs : List ℕ). Advances s xs ls u) (append-nil h.0) (advances_on s t u h.0 [] [] ls h.2 g))

-- more bytes, and no line
pub reads_more : (s t u : LinesSeen) (a b c : Option (List ℕ)) → ReadsOn s a [] t b → ReadsOn t b [] u c → ReadsOn s a [] u c
reads_more s t u a b c h g = (h.0 ++ g.0, Consumes-trans a b c h.0 g.0 h.1 g.1, advances_on s t u h.0 g.0 [] [] h.2 g.2)
