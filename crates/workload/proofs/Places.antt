-- The subjects by their places, and the lines.
use Rattle.std.proofs.Common.{◌≡◌, ℕ, ◌+◌, ◌-◌, ◌/◌, ◌%◌, ◌<◌, ◌≤◌, min, nat_lt, cond, Bool, true, false, List, length, map, get_or, slice_get}
use Rattle.std.proofs.Common.{slice_index_or, take, sum_by, refl, sym, ◌∙◌, ap, arith, Some, None}
use Rattle.std.specs.List.{range_with_len}
use Rattle.std.proofs.lemmas.List.FromFn.{get_or-map-range_with_len, length-map-range_with_len}
use Rattle.std.proofs.lemmas.List.Sums.{sum_by_more}
use Rattle.std.proofs.lemmas.Bool.Decides.{nat_tests}
use Rattle.workload.specs.declared.class.Class.{Class}
use Rattle.workload.specs.declared.subject.Subject.{Subject}
use Rattle.workload.specs.declared.subject.Subject.TheVariants.{Open, Instrument, Telescope, Night, Visibility, Grant, Submit, Plan}
use Rattle.std.proofs.lemmas.Option.{slice_get_past, slice_get-get_or}
use Rattle.plan_json.specs.Adds.{text_of}
use Rattle.workload.specs.Generator.{number_after}
use Rattle.workload.specs.Documents.{document}
use Rattle.workload.specs.Requests.{class_drawn}
use Rattle.workload.specs.Subjects.{subjects, draws_of}
use Rattle.workload.proofs.Numbers.{number_after-more}
use Rattle.workload.specs.Lines.{WorkloadSeen, number_before, line_at, workload_lines, line_next, one_given, HasSoManyLines}
use Rattle.workload.specs.Lines.{HasSoManyRequests}

-- what the line at a place is about
abbrev pub by_place : ℕ → Subject
by_place n =
    cond (nat_lt n 1) Open
    (cond (nat_lt n 3) (Instrument (class_drawn (n - 1)))
    (cond (nat_lt n 9) (Telescope ((n - 3) / 2) (class_drawn ((n - 3) % 2)))
    (cond (nat_lt n 12) (Night (n - 9))
    (cond (nat_lt n 132) (Visibility ((n - 12) / 3) ((n - 12) % 3))
    (cond (nat_lt n 140) (Grant ((n - 132) / 2) (class_drawn ((n - 132) % 2)))
    (cond (nat_lt n 210) (Submit (n - 140)) Plan))))))

are_by_place : subjects ≡ map by_place (range_with_len 0 211)
unfolding subjects
are_by_place = refl

pub subject_by_place : (n : ℕ) → n < 211 → get_or subjects n Plan ≡ by_place n
subject_by_place n few =
    ap (λ (ss : List Subject). get_or ss n Plan) are_by_place
    ∙ get_or-map-range_with_len by_place 0 211 n n Plan few (omega arith)

either : (P : Subject → Type 0) (b : Bool) (q r : Subject) → P q → P r → P (cond b q r)
either P true q r h g = h
either P false q r h g = g

-- in each range of places
pub at_first : (n : ℕ) → n ≡ 0 → by_place n ≡ Open
at_first n none = ap by_place none

pub in_instruments : (n : ℕ) (class : Class) → 1 ≤ n → n ≤ 2 → class ≡ class_drawn (n - 1) → by_place n ≡ Instrument class
in_instruments n class low high drawn =
    let here : by_place n ≡ Instrument (class_drawn (n - 1)) = grind (arith, nat_tests, low, high) in
    here ∙ ap Instrument (sym drawn)

pub in_telescopes : (n : ℕ) (class : Class) → 3 ≤ n → n ≤ 8 → class ≡ class_drawn ((n - 3) % 2) → by_place n ≡ Telescope ((n - 3) / 2) class
in_telescopes n class low high drawn =
    let here : by_place n ≡ Telescope ((n - 3) / 2) (class_drawn ((n - 3) % 2)) = grind (arith, nat_tests, low, high) in
    here ∙ ap (Telescope ((n - 3) / 2)) (sym drawn)

pub in_nights : (n : ℕ) → 9 ≤ n → n ≤ 11 → by_place n ≡ Night (n - 9)
in_nights n low high = grind (arith, nat_tests, low, high)

pub in_skies : (n : ℕ) → 12 ≤ n → n ≤ 131 → by_place n ≡ Visibility ((n - 12) / 3) ((n - 12) % 3)
in_skies n low high = grind (arith, nat_tests, low, high)

pub in_grants : (n : ℕ) (class : Class) → 132 ≤ n → n ≤ 139 → class ≡ class_drawn ((n - 132) % 2) → by_place n ≡ Grant ((n - 132) / 2) class
in_grants n class low high drawn =
    let here : by_place n ≡ Grant ((n - 132) / 2) (class_drawn ((n - 132) % 2)) = grind (arith, nat_tests, low, high) in
    here ∙ ap (Grant ((n - 132) / 2)) (sym drawn)

pub in_groups : (n : ℕ) → 140 ≤ n → n ≤ 209 → by_place n ≡ Submit (n - 140)
in_groups n low high = grind (arith, nat_tests, low, high)

pub at_last : (n : ℕ) → 210 ≤ n → by_place n ≡ Plan
at_last n low = grind (arith, nat_tests, low)

-- what holds of the subject of each range of places holds of that of a place
pub of_each : (P : Subject → Type 0) (n : ℕ) → P Open → P (Instrument (class_drawn (n - 1)))
    → P (Telescope ((n - 3) / 2) (class_drawn ((n - 3) % 2))) → P (Night (n - 9))
    → P (Visibility ((n - 12) / 3) ((n - 12) % 3)) → P (Grant ((n - 132) / 2) (class_drawn ((n - 132) % 2)))
    → P (cond (nat_lt n 210) (Submit (n - 140)) Plan) → P (by_place n)
of_each P n opening instrument telescope night sky grant last =
    either P (nat_lt n 1) _ _ opening
    (either P (nat_lt n 3) _ _ instrument
    (either P (nat_lt n 9) _ _ telescope (either P (nat_lt n 12) _ _ night (either P (nat_lt n 132) _ _ sky (either P (nat_lt n 140) _ _ grant last)))))

-- whether a line asks for a plan
abbrev pub is_plan : Subject → Bool
is_plan Plan = true
is_plan _ = false

-- the last line alone is about a plan
pub before_last : (n : ℕ) → n < 210 → is_plan (slice_index_or subjects n Plan) ≡ false
before_last n few =
    let here : nat_lt n 210 ≡ true = grind (arith, nat_tests, few) in
    ap is_plan (subject_by_place n (omega (arith, few)))
    ∙ of_each (λ s. is_plan s ≡ false) n refl refl refl refl refl refl (ap (λ (b : Bool). is_plan (cond b (Submit (n - 140)) Plan)) here)

pub subjects_count : length subjects ≡ 211
unfolding subjects
subjects_count = refl

pub so_many_lines : HasSoManyLines
so_many_lines number workers = length-map-range_with_len (line_at number workers) 0 (length subjects) ∙ subjects_count

pub so_many_requests : HasSoManyRequests
unfolding subjects
so_many_requests = refl

-- ---- one place more

pub number_more : (number n : ℕ) (subject : Subject) → n < 211 → subject ≡ slice_index_or subjects n Plan
    → number_after (number_before number n) (draws_of subject) ≡ number_before number (n + 1)
number_more number n subject few is =
    number_after-more number (sum_by draws_of (take n subjects)) (draws_of subject)
    ∙ ap (number_after number) (ap (λ (s : Subject). sum_by draws_of (take n subjects) + draws_of s) is
    ∙ sym (sum_by_more draws_of subjects n Plan (omega (arith, subjects_count))))

-- ---- the lines by their places

pub line_there : (number workers n : ℕ) → n < 211 → slice_get (workload_lines number workers) n ≡ Some (line_at number workers n)
line_there number workers n few =
    slice_get-get_or (workload_lines number workers) n (line_at number workers n) (omega (arith, few, so_many_lines number workers))
    ∙ ap (λ (l : List ℕ). Some l) (get_or-map-range_with_len (line_at number workers) 0 (length subjects) n n (line_at number workers n)
    (omega (arith, few, subjects_count)) (omega arith))

abbrev with_given : ℕ → ℕ → ℕ → WorkloadSeen
with_given number workers n = record { number = number; workers = workers; given = n }

pub line_past : (number workers n : ℕ) → 211 ≤ n → n ≤ 211 → (None ≡ line_next (with_given number workers n))
    × (with_given number workers n ≡ one_given (with_given number workers n))
line_past number workers n past most =
    let same : n ≡ min (n + 1) (length subjects) = grind (arith, subjects_count) in
    (sym (slice_get_past (workload_lines number workers) n (omega (arith, so_many_lines number workers))), ap (with_given number workers) same)

pub line_here : (number workers n : ℕ) (subject : Subject) (x : ℕ) (line : List ℕ) → n < 211 → subject ≡ slice_index_or subjects n Plan
    → x ≡ number_before number n
    → line ≡ text_of (document workers x subject)
    → (Some line ≡ line_next (with_given number workers n)) × (with_given number workers (n + 1) ≡ one_given (with_given number workers n))
line_here number workers n subject x line few is now text =
    let next : n + 1 ≡ min (n + 1) (length subjects) = grind (arith, subjects_count) in
    let here : line ≡ line_at number workers n =
    text ∙ ap (λ (y : ℕ). text_of (document workers y subject)) now ∙ ap (λ (s : Subject). text_of (document workers (number_before number n) s)) is in (
      ap (λ (l : List ℕ). Some l) here ∙ sym (line_there number workers n few),
      ap (with_given number workers) next,
    )
