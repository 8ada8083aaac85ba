-- The lines of a workload that are done, and the summary of what was replied.
use Rattle.std.proofs.Common.{◌≡◌, ℕ, ◌+◌, ◌-◌, ◌≤◌, ◌<◌, add-zero, cond, List, [], ◌∷◌, ◌++◌, length, take, min, get_or, slice_get, refl, sym, ◌∙◌}
use Rattle.std.proofs.Common.{ap, subst, arith, inl, inr, ◌⊎◌, Option, Some, None, append_assoc}
use Rattle.std.specs.List.{filter_map, last_or, cons_option, count_by, sum_by}
use Rattle.std.specs.Option.{option_map, option_map_or}
use Rattle.std.proofs.lemmas.List.{length-map, length-take, take_more, take_all}
use Rattle.std.proofs.lemmas.List.Sums.{fold-append}
use Rattle.std.proofs.lemmas.Option.{slice_get-map, slice_get_within, slice_get_cases, get_or_from_slice_get}
use Rattle.plan_base.specs.declared.claim.Claim.{Claim}
use Rattle.plan_io.specs.declared.lines.ScriptLine.{ScriptLine}
use Rattle.plan_io.specs.declared.lines.ScriptLine.TheVariants.{Bytes, TooLong}
use Rattle.desk_events.specs.declared.entry.EventEntry.{EventEntry}
use Rattle.desk_events.specs.declared.reply.Reply.{Reply}
use Rattle.desk_events.specs.declared.reply.Reply.TheVariants.{Submitted, Published, Refused}
use Rattle.desk_events.specs.Line.{command_of_line}
use Rattle.desk_core.specs.Desk.{StateSeen, start}
use Rattle.workload.specs.Lines.{WorkloadSeen, workload_lines, line_next, one_given}
use Rattle.workload.specs.Subjects.{subjects}
use Rattle.workload.proofs.Places.{so_many_lines, subjects_count}
use Rattle.session.specs.declared.summary.Summary.{Summary}
use Rattle.session.specs.Line.{RepliesAtLast, DoesLine, step_entry, take_entry, publish_entry}
use Rattle.session.specs.Summary.{is_refused, requests_in, claim_in, last_claim, summary_of, with_reply, with_line, workload_script, IsSummary}
use Rattle.session.proofs.Done.{AreDone, done_none, one_more, are_more, does_version, sound_done, whole_done}

-- ---- one entry more

-- the later of two claims
abbrev pub later : Option Claim → Option Claim → Option Claim
later claim None = claim
later claim (Some last) = Some last

pub last_cons : (o a : Option Claim) (claims : List Claim) → last_or o (cons_option a claims) ≡ last_or (later o a) claims
last_cons o None claims = refl
last_cons o (Some claim) claims = refl

abbrev pub claim_by : EventEntry → Option Claim
claim_by e = claim_in e.reply

last_more : (o : Option Claim) (h : List EventEntry) (e : EventEntry)
    → last_or o (filter_map claim_by (h ++ e ∷ [])) ≡ later (last_or o (filter_map claim_by h)) (claim_by e)
last_more o [] e = last_cons o (claim_by e) []
last_more o (x ∷ h) e =
    last_cons o (claim_by x) (filter_map claim_by (h ++ e ∷ []))
    ∙ last_more (later o (claim_by x)) h e
    ∙ ap (λ (l : Option Claim). later l (claim_by e)) (sym (last_cons o (claim_by x) (filter_map claim_by h)))

-- a summary by its counts
abbrev told : ℕ → Option Claim → ℕ → ℕ → Summary
told lines claim refused requests = record {
  bound = option_map_or (λ c. c.bound) claim 0;
  lines = lines;
  refused = refused;
  requests = requests;
  value = option_map_or (λ c. c.value) claim 0;
}

plain : (n : ℕ) (claim : Option Claim) (refused requests : ℕ) → told n claim (refused + 0) (requests + 0) ≡ told n claim refused requests
plain n claim refused requests = ap (λ (m : ℕ). told n claim m (requests + 0)) (add-zero refused) ∙ ap (told n claim refused) (add-zero requests)

by_reply : (n : ℕ) (claim : Option Claim) (refused requests : ℕ) (r : Reply)
    → told n (later claim (claim_in r)) (refused + cond (is_refused r) 1 0) (requests + requests_in r) ≡ with_reply (told n claim refused requests) r
by_reply n claim refused requests (Submitted group ipp_charged numbers) = ap (λ (m : ℕ). told n claim m (requests + length numbers)) (add-zero refused)
by_reply n claim refused requests (Published last) = plain n (Some last) refused requests
by_reply n claim refused requests (Refused refusal) = ap (told n claim (refused + 1)) (add-zero requests)
by_reply n claim refused requests _ = plain n claim refused requests

entry_more : (n : ℕ) (h : List EventEntry) (e : EventEntry) → summary_of n (h ++ e ∷ []) ≡ with_reply (summary_of n h) e.reply
entry_more n h e =
    let refusals : count_by (λ x. is_refused x.reply) (h ++ e ∷ []) ≡ count_by (λ x. is_refused x.reply) h + cond (is_refused e.reply) 1 0 =
    fold-append (λ (a : ℕ) (x : EventEntry). a + cond (is_refused x.reply) 1 0) 0 h (e ∷ []) in
    let requests : sum_by (λ x. requests_in x.reply) (h ++ e ∷ []) ≡ sum_by (λ x. requests_in x.reply) h + requests_in e.reply =
    fold-append (λ (a : ℕ) (x : EventEntry). a + requests_in x.reply) 0 h (e ∷ []) in
    ap (λ (c : Option Claim). told n c (count_by (λ x. is_refused x.reply) (h ++ e ∷ [])) (sum_by (λ x. requests_in x.reply) (h ++ e ∷ [])))
    (last_more None h e)
    ∙ ap (λ (m : ℕ). told n (later (last_claim h) (claim_by e)) m (sum_by (λ x. requests_in x.reply) (h ++ e ∷ []))) refusals
    ∙ ap (told n (later (last_claim h) (claim_by e)) (count_by (λ x. is_refused x.reply) h + cond (is_refused e.reply) 1 0)) requests
    ∙ by_reply n (last_claim h) (count_by (λ x. is_refused x.reply) h) (sum_by (λ x. requests_in x.reply) h) e.reply

-- ---- one line more

-- these lines are done, with this summary
pub record Tally (lines : List ScriptLine) (s : StateSeen) (summary : Summary) : Type 0 where
  pub history : List EventEntry
  pub are : AreDone lines history s
  pub summed : summary ≡ summary_of (length lines) history
  pub version : s.version ≤ length lines

tally_start : Tally [] start (summary_of 0 [])
tally_start = record { history = []; are = done_none; summed = refl; version = omega arith }

pub tally_none : (lines : List ScriptLine) (s : StateSeen) (summary : Summary) → lines ≡ [] → s ≡ start → summary ≡ summary_of 0 [] → Tally lines s summary
tally_none lines s summary none new zero_counts =
    subst (λ (ls : List ScriptLine). Tally ls s summary) (sym none)
    (subst (λ (t : StateSeen). Tally [] t summary) (sym new) (subst (λ (x : Summary). Tally [] start x) (sym zero_counts) tally_start))

-- the entries of a line with this reply at last
record LineEntries (s t : StateSeen) (n : ℕ) (line : ScriptLine) (reply : Reply) : Type 0 where
  entries : List EventEntry
  does : DoesLine s n (command_of_line line) entries t
  counted : (m : ℕ) (h : List EventEntry) → summary_of m (h ++ entries) ≡ with_reply (summary_of m h) reply

line_entries : (s t : StateSeen) (n : ℕ) (line : ScriptLine) (reply : Reply) → RepliesAtLast s (command_of_line line) reply t → LineEntries s t n line reply
line_entries s t n line reply (inl d) = record {
  entries = step_entry s n reply ∷ [];
  does = inl (reply, d, refl);
  counted = λ m h. entry_more m h (step_entry s n reply);
}
line_entries s t n line reply (inr d) = record {
  entries = take_entry s n ∷ publish_entry s n reply ∷ [];
  does = inr (d.0, (reply, d.1, refl, d.2));
  counted = λ m h.
      ap (summary_of m) (sym (append_assoc h (take_entry s n ∷ []) (publish_entry s n reply ∷ [])))
      ∙ entry_more m (h ++ take_entry s n ∷ []) (publish_entry s n reply)
      ∙ ap (λ (x : Summary). with_reply x reply) (entry_more m h (take_entry s n));
}

pub tally_line : (lines : List ScriptLine) (line : ScriptLine) (s t : StateSeen) (summary : Summary) (reply : Reply)
    → Tally lines s summary → length lines < 65536
    → RepliesAtLast s (command_of_line line) reply t → Tally (lines ++ line ∷ []) t (with_line summary reply)
tally_line lines line s t summary reply tally room replies =
    let more = line_entries s t (length lines + 1) line reply replies in
    let counts : with_line summary reply ≡ with_reply (summary_of (length lines + 1) tally.history) reply =
    ap (λ (x : Summary). with_line x reply) tally.summed in
    record {
      history = tally.history ++ more.entries;
      are = are_more lines line tally.history more.entries s t tally.are room more.does;
      summed = counts ∙ sym (more.counted (length lines + 1) tally.history)
          ∙ ap (λ (m : ℕ). summary_of m (tally.history ++ more.entries)) (one_more lines line);
      version = omega (arith, does_version s t (length lines + 1) (command_of_line line) more.entries more.does, tally.version, one_more lines line);
    }

-- ---- the lines of a workload

-- the first lines of a workload, so many
abbrev pub first_lines : ℕ → ℕ → List ScriptLine
first_lines number n = take n (workload_script number)

abbrev pub with_given : ℕ → ℕ → WorkloadSeen
with_given number n = record { number = number; workers = 4; given = n }

pub script_length : (number : ℕ) → length (workload_script number) ≡ 211
script_length number = length-map (workload_lines number 4) (λ bytes. Bytes bytes) ∙ so_many_lines number 4

few_lines : (number n : ℕ) → length (first_lines number n) ≤ 211
few_lines number n = grind (arith, length-take n (workload_script number), script_length number)

-- the next line, and the workload after it
pub next_line : (number n : ℕ) (bytes : List ℕ) → Some bytes ≡ line_next (with_given number n)
    → (n < 211) × (first_lines number (n + 1) ≡ first_lines number n ++ Bytes bytes ∷ [])
    × (one_given (with_given number n) ≡ with_given number (n + 1))
next_line number n bytes next =
    let here : slice_get (workload_script number) n ≡ Some (Bytes bytes) =
    slice_get-map (λ bs. Bytes bs) (workload_lines number 4) n ∙ ap (option_map (λ bs. Bytes bs)) (sym next) in
    let within : n < length (workload_script number) = slice_get_within (workload_script number) n (Bytes bytes) here in
    let few : n < 211 = omega (arith, within, script_length number) in
    let more : min (n + 1) (length subjects) ≡ n + 1 = grind (arith, subjects_count, few) in (
      few,
      take_more (workload_script number) n TooLong within
          ∙ ap (λ (line : ScriptLine). first_lines number n ++ line ∷ [])
          (get_or_from_slice_get (workload_script number) n (Bytes bytes) TooLong here),
      ap (with_given number) more,
    )

-- after the last line
abbrev Place : List (List ℕ) → ℕ → Type 0
Place lines n = ((line : List ℕ) × (n < length lines) × (slice_get lines n ≡ Some line) × (get_or lines n line ≡ line))
    ⊎ ((length lines ≤ n) × (slice_get lines n ≡ None))

past : (lines : List (List ℕ)) (n : ℕ) → Place lines n → None ≡ slice_get lines n → length lines ≤ n
past lines n (inl h) none = let clash : None ≡ Some h.0 = none ∙ h.2 in absurd (cc)
past lines n (inr h) none = h.0

no_line_next : (number n : ℕ) → None ≡ line_next (with_given number n) → first_lines number n ≡ workload_script number
no_line_next number n none =
    let all : length (workload_lines number 4) ≤ n = past (workload_lines number 4) n (slice_get_cases (workload_lines number 4) n).1 none in
    take_all n (workload_script number) (omega (arith, all, length-map (workload_lines number 4) (λ bytes. Bytes bytes)))

-- where all lines are done, their summary is that of the workload
pub summed_up : (number n : ℕ) (s : StateSeen) (summary : Summary) → None ≡ line_next (with_given number n) → Tally (first_lines number n) s summary
    → IsSummary number summary
summed_up number n s summary none tally =
    let all : Tally (workload_script number) s summary = subst (λ (ls : List ScriptLine). Tally ls s summary) (no_line_next number n none) tally in
    record {
      history = all.history;
      sound = sound_done (workload_script number) all.history s all.are;
      whole = whole_done (workload_script number) all.history s all.are;
      summed = all.summed;
    }

-- ---- a turn of the loop over the lines

-- the workload after a line more, and the summary of the lines so far
pub record NextTally (number : ℕ) (w v : WorkloadSeen) (t : StateSeen) (summary : Summary) : Type 0 where
  pub is : v ≡ with_given number v.given
  pub tally : Tally (first_lines number v.given) t summary
  pub smaller : 211 - v.given < 211 - w.given

pub next_tally : (number : ℕ) (w v : WorkloadSeen) (s t : StateSeen) (summary : Summary) (bytes : List ℕ) (line : ScriptLine) (reply : Reply)
    → w ≡ with_given number w.given
    → Tally (first_lines number w.given) s summary → Some bytes ≡ line_next w → v ≡ one_given w → line ≡ Bytes bytes
    → RepliesAtLast s (command_of_line line) reply t
    → NextTally number w v t (with_line summary reply)
next_tally number w v s t summary bytes line reply is tally next given as_bytes replies =
    let here = next_line number w.given bytes (next ∙ ap line_next is) in
    let after : v ≡ with_given number (w.given + 1) = given ∙ ap one_given is ∙ here.2 in
    let place : v.given ≡ w.given + 1 = ap (λ (x : WorkloadSeen). x.given) after in
    let few : w.given < 211 = here.0 in
    let now : RepliesAtLast s (command_of_line (Bytes bytes)) reply t =
    subst (λ (l : ScriptLine). RepliesAtLast s (command_of_line l) reply t) as_bytes replies in
    let room : length (first_lines number w.given) < 65536 = omega (arith, few_lines number w.given) in
    let done : Tally (first_lines number w.given ++ Bytes bytes ∷ []) t (with_line summary reply) =
    tally_line (first_lines number w.given) (Bytes bytes) s t summary reply tally room now in
    record {
      is = after ∙ ap (with_given number) (sym place);
      tally = subst (λ (ls : List ScriptLine). Tally ls t (with_line summary reply)) (sym (ap (first_lines number) place ∙ here.1)) done;
      smaller = omega (arith, place, few);
    }

-- a workload makes fewer changes than a desk may
pub few_changes : (number n : ℕ) (s : StateSeen) (summary : Summary) → Tally (first_lines number n) s summary → s.version < 524288
few_changes number n s summary tally = omega (arith, tally.version, few_lines number n)
