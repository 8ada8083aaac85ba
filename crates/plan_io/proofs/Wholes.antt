-- What all calls of a reader give of the bytes that it took.
use Rattle.std.proofs.Common.{◌≡◌, ℕ, suc, ◌+◌, ◌≤◌, ◌<◌, List, [], ◌∷◌, ◌++◌, length, take, refl, sym, ◌∙◌, ap, arith, append-nil, length-append}
use Rattle.std.proofs.Common.{Bool, true, false, cond, nat_eq}
use Rattle.std.proofs.lemmas.List.{take-append-le}
use Rattle.std.proofs.Math.Seq.{take-append_seam, take-length}
use Rattle.plan_io.specs.declared.lines.ScriptLine.{ScriptLine}
use Rattle.plan_io.specs.Newline.{NoNewline}
use Rattle.plan_io.specs.LinesOf.{line_of, lines_from, lines_of, whole_lines_from, whole_lines_of, lines_left}
use Rattle.plan_io.specs.LinesSeen.{LinesSeen, IsFresh}
use Rattle.plan_io.specs.Next.{Cuts, EndsIn}
use Rattle.plan_io.proofs.Cuts.{cuts_line, after_more}

-- the lines that are left to a fresh reader are those of the bytes
pub fresh_lines : (s : LinesSeen) (xs later : List ℕ) → IsFresh s → lines_left s.long ((s.held ++ xs) ++ later) ≡ lines_of (xs ++ later)
fresh_lines s xs later fresh =
    ap (λ (b : Bool). lines_left b ((s.held ++ xs) ++ later)) fresh.long
    ∙ ap (λ (h : List ℕ). lines_of ((h ++ xs) ++ later)) fresh.held

-- with a newline after the bytes there is one line more than those that are whole
one_more : (piece bytes : List ℕ) → (line : ScriptLine) × (lines_from piece (bytes ++ 10 ∷ []) ≡ whole_lines_from piece bytes ++ line ∷ [])
one_more piece [] = (line_of piece, refl)
one_more piece (b ∷ bs) =
    elim (nat_eq b 10) as (λ t. (line : ScriptLine)
    × (cond t (line_of piece ∷ lines_from [] (bs ++ 10 ∷ [])) (lines_from (piece ++ b ∷ []) (bs ++ 10 ∷ []))
    ≡ cond t (line_of piece ∷ whole_lines_from [] bs) (whole_lines_from (piece ++ b ∷ []) bs) ++ line ∷ [])) [
      | true ↦ let rest = one_more [] bs in (rest.0, ap (λ (ls : List ScriptLine). line_of piece ∷ ls) rest.1)
      | false ↦ one_more (piece ++ b ∷ []) bs
    ]

front_of : (ws ls ys : List ScriptLine) (x : ScriptLine) → ws ++ x ∷ [] ≡ ls ++ ys → 0 < length ys → ls ≡ take (length ls) ws
front_of ws ls ys x is some =
    let size : length ws + 1 ≡ length ls + length ys = sym (length-append ws (x ∷ [])) ∙ ap length is ∙ length-append ls ys in
    let small : length ls ≤ length ws = omega (arith, size, some) in
    sym (take-append_seam ls ys) ∙ ap (take (length ls)) (sym is) ∙ take-append-le (length ls) ws (x ∷ []) small

-- the lines that were answered, and those that a newline would end
pub answered_and_left : (s t : LinesSeen) (bytes : List ℕ) (ls : List ScriptLine) → IsFresh s → Cuts s bytes ls t
    → (line : ScriptLine) × (whole_lines_of bytes ++ line ∷ [] ≡ ls ++ lines_left t.long (t.held ++ 10 ∷ []))
answered_and_left s t bytes ls fresh cuts =
    let more = one_more [] bytes in
    (more.0, sym more.1 ∙ sym (fresh_lines s bytes (10 ∷ []) fresh) ∙ cuts (10 ∷ []))

some_left : (long : Bool) (held : List ℕ) → 0 < length (lines_left long (held ++ 10 ∷ []))
some_left true held = omega arith
some_left false held = let more = one_more [] held in omega (arith, ap length more.1, length-append (whole_lines_of held) (more.0 ∷ []))

-- the lines that were answered are the first of those whose newline was taken
pub first_whole_lines : (s t : LinesSeen) (bytes : List ℕ) (ls : List ScriptLine) → IsFresh s → Cuts s bytes ls t → ls ≡ take (length ls) (whole_lines_of bytes)
first_whole_lines s t bytes ls fresh cuts =
    let both = answered_and_left s t bytes ls fresh cuts in
    front_of (whole_lines_of bytes) ls (lines_left t.long (t.held ++ 10 ∷ [])) both.0 both.1 (some_left t.long t.held)

one_left : (long : Bool) (held : List ℕ) → NoNewline held → length (lines_left long (held ++ 10 ∷ [])) ≡ 1
one_left true held clear = ap (λ (xs : List ℕ). suc (length (lines_of xs))) (after_more held (10 ∷ []) clear)
one_left false held clear = ap length (cuts_line held [] clear)

-- where no newline is held, they are all of those whose newline was taken
pub all_whole_lines : (s t : LinesSeen) (bytes : List ℕ) (ls : List ScriptLine) → IsFresh s → Cuts s bytes ls t → NoNewline t.held → ls ≡ whole_lines_of bytes
all_whole_lines s t bytes ls fresh cuts clear =
    let both = answered_and_left s t bytes ls fresh cuts in
    let ws = whole_lines_of bytes in
    let size : length ws + 1 ≡ length ls + length (lines_left t.long (t.held ++ 10 ∷ [])) =
    sym (length-append ws (both.0 ∷ [])) ∙ ap length both.1 ∙ length-append ls (lines_left t.long (t.held ++ 10 ∷ [])) in
    let same : length ls ≡ length ws = omega (arith, size, one_left t.long t.held clear) in
    first_whole_lines s t bytes ls fresh cuts ∙ ap (λ (n : ℕ). take n ws) same ∙ take-length ws

-- where no byte is left over at the end, they are the lines of the bytes
pub all_lines : (s t : LinesSeen) (bytes : List ℕ) (ls : List ScriptLine) → IsFresh s → Cuts s bytes ls t → IsFresh t → lines_of bytes ≡ ls
all_lines s t bytes ls fresh cuts done =
    ap lines_of (sym (append-nil bytes))
    ∙ sym (fresh_lines s bytes [] fresh)
    ∙ cuts []
    ∙ ap (λ (b : Bool). ls ++ lines_left b (t.held ++ [])) done.long
    ∙ ap (λ (h : List ℕ). ls ++ lines_of (h ++ [])) done.held
    ∙ append-nil ls

-- with the last line they are the lines of the bytes
pub all_with_last : (s t u : LinesSeen) (bytes last : List ℕ) (ls : List ScriptLine) (line : ScriptLine) → IsFresh s → Cuts s bytes ls t
    → EndsIn t last line u → lines_of (bytes ++ last) ≡ ls ++ line ∷ []
all_with_last s t u bytes last ls line fresh cuts ends =
    sym (fresh_lines s bytes last fresh) ∙ cuts last ∙ ap (λ (ms : List ScriptLine). ls ++ ms) ends.last
