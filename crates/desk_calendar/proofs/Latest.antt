-- Which line is the latest that is about a second, in a history with one entry more.
use Rattle.std.proofs.Common.{◌≡◌, ◌⊎◌, ◌∙◌, ap, sym, subst, refl, ℕ, Bool, true, false, inl, inr, List, [], ◌∷◌, ◌++◌, Option, Some, None, slice_get}
use Rattle.std.proofs.Common.{true≢false}
use Rattle.std.specs.Prelude.{◌&&◌}
use Rattle.std.specs.Option.{option_map_or}
use Rattle.std.proofs.lemmas.Bool.{and_parts}
use Rattle.std.proofs.lemmas.List.{append_assoc}
use Rattle.std.proofs.lemmas.Option.{same_Some}
use Rattle.plan_io.specs.declared.lines.ScriptLine.{ScriptLine}
use Rattle.interval_set.specs.Spans.{has}
use Rattle.site_model.specs.declared.changes.Change.{Change}
use Rattle.site_model.specs.declared.changes.Change.TheVariants.{Close, Reopen}
use Rattle.site_model.specs.declared.code.Code.{Code}
use Rattle.site_model.specs.declared.code.Scope.{Scope}
use Rattle.site_model.specs.Latest.{is_close}
use Rattle.desk_events.specs.declared.entry.EventEntry.{EventEntry}
use Rattle.desk_core.specs.Registering.{in_scope}
use Rattle.desk_calendar.specs.Told.{Closing, closing_told, telescopes_told, IsAbout, IsClosedByLatest}

-- ---- a list with one more at its end

nil_has_none : {A : Type 0} (b a : List A) (f : A) → [] ≡ b ++ f ∷ a → ⊥
nil_has_none [] a f is = absurd (cc)
nil_has_none (y ∷ b) a f is = absurd (cc)

-- an element of it is the last one, or one of those before
split_last : {A : Type 0} (xs b a : List A) (e f : A) → xs ++ e ∷ [] ≡ b ++ f ∷ a
    → ((xs ≡ b) × (e ≡ f) × (a ≡ [])) ⊎ ((c : List A) × (a ≡ c ++ e ∷ []) × (xs ≡ b ++ f ∷ c))
split_last [] [] a e f is = inl (refl, cc, cc)
split_last [] (y ∷ b) a e f is = let rest : [] ≡ b ++ f ∷ a = cc in absurd (nil_has_none b a f rest)
split_last (x ∷ xs) [] a e f is = let first : x ≡ f = cc in let rest : xs ++ e ∷ [] ≡ a = cc in inr (xs, sym rest, λ i. first i ∷ xs)
split_last (x ∷ xs) (y ∷ b) a e f is =
    let first : x ≡ y = cc in
    let rest : xs ++ e ∷ [] ≡ b ++ f ∷ a = cc in
    elim (split_last xs b a e f rest) [
      | inl h ↦ inl (λ i. first i ∷ h.0 i, h.1, h.2)
      | inr h ↦ inr (h.0, h.1, λ i. first i ∷ h.2 i)
    ]

-- ---- whether a line is about a second

-- whether the telescope of this place is in the scope
abbrev pub is_inside : Scope → List Code → ℕ → Bool
is_inside scope codes t = option_map_or (in_scope scope) (slice_get codes t) false

-- whether a line is about second x of telescope t
abbrev pub is_about : Closing → List Code → ℕ → ℕ → Bool
is_about c codes t x = is_inside c.scope codes t && has c.spans x

inside_some : (scope : Scope) (o : Option Code) → option_map_or (in_scope scope) o false ≡ true → (code : Code) × (o ≡ Some code) × (in_scope scope code ≡ true)
inside_some scope None is = absurd (cc)
inside_some scope (Some code) is = (code, refl, is)

-- where the test says so, it is
pub about_if : (scripts : List (List ScriptLine)) (before : List EventEntry) (e : EventEntry) (c : Closing) (t x : ℕ) → closing_told scripts e ≡ Some c
    → is_about c (telescopes_told scripts before) t x ≡ true → IsAbout scripts before e c.change t x
about_if scripts before e c t x says is =
    let parts = and_parts (is_inside c.scope (telescopes_told scripts before) t) (has c.spans x) is in
    let found = inside_some c.scope (slice_get (telescopes_told scripts before) t) parts.0 in
    record { scope = c.scope; spans = c.spans; says = says; code = found.0; registered = found.1; inside = found.2; second = parts.1 }

-- and where it is, the test says so
pub about_only : (scripts : List (List ScriptLine)) (before : List EventEntry) (e : EventEntry) (c : Closing) (change : Change) (t x : ℕ)
    → closing_told scripts e ≡ Some c
    → IsAbout scripts before e change t x → is_about c (telescopes_told scripts before) t x ≡ true
about_only scripts before e c change t x says h =
    let own : Closing = record { change = change; scope = h.scope; spans = h.spans } in
    let same : own ≡ c = same_Some own c (sym h.says ∙ says) in
    let there : is_inside h.scope (telescopes_told scripts before) t ≡ true =
    ap (λ (o : Option Code). option_map_or (in_scope h.scope) o false) h.registered ∙ h.inside in
    ap (λ (l : Closing). is_about l (telescopes_told scripts before) t x) (sym same) ∙ ap (λ (b : Bool). b && has h.spans x) there ∙ h.second

-- a line doesn't close and reopen
one_change : (scripts : List (List ScriptLine)) (before : List EventEntry) (e : EventEntry) (t x : ℕ) → IsAbout scripts before e Close t x
    → IsAbout scripts before e Reopen t x → ⊥
one_change scripts before e t x h k =
    let closing : Closing = record { change = Close; scope = h.scope; spans = h.spans } in
    let reopening : Closing = record { change = Reopen; scope = k.scope; spans = k.spans } in
    let same : Close ≡ Reopen = ap (λ (c : Closing). c.change) (same_Some closing reopening (sym h.says ∙ k.says)) in
    true≢false (ap is_close same)

-- the same entry after the same ones
moved : (scripts : List (List ScriptLine)) (b c : List EventEntry) (e f : EventEntry) (change : Change) (t x : ℕ) → b ≡ c → e ≡ f
    → IsAbout scripts c f change t x
    → IsAbout scripts b e change t x
moved scripts b c e f change t x same one h =
    subst (λ (l : List EventEntry). IsAbout scripts l e change t x) (sym same) (subst (λ (g : EventEntry). IsAbout scripts c g change t x) (sym one) h)

-- ---- one entry more

-- the entry is no line about the second
abbrev pub IsNoneAbout : List (List ScriptLine) → List EventEntry → EventEntry → ℕ → ℕ → Type 0
IsNoneAbout scripts before e t x = (change : Change) → IsAbout scripts before e change t x → ⊥

-- a `close` that is about the second is the latest
closed_now : (scripts : List (List ScriptLine)) (before : List EventEntry) (e : EventEntry) (t x : ℕ) → IsAbout scripts before e Close t x
    → IsClosedByLatest scripts (before ++ e ∷ []) t x
closed_now scripts before e t x h = record {
  before = before;
  latest = e;
  after = [];
  is = refl;
  closes = h;
  none = λ b a f change is about. nil_has_none b a f is;
}

-- after a `reopen` that is about the second the latest is no `close`
not_reopened : (scripts : List (List ScriptLine)) (before : List EventEntry) (e : EventEntry) (t x : ℕ) → IsAbout scripts before e Reopen t x
    → IsClosedByLatest scripts (before ++ e ∷ []) t x → ⊥
not_reopened scripts before e t x h k = elim (split_last before k.before k.after e k.latest k.is) [
  | inl s ↦ one_change scripts before e t x (moved scripts before k.before e k.latest Close t x s.0 s.1 k.closes) h
  | inr s ↦ k.none s.0 [] e Reopen s.1 (subst (λ (l : List EventEntry). IsAbout scripts l e Reopen t x) s.2 h)
]

-- a line that is about the second decides
pub closed_by : (scripts : List (List ScriptLine)) (before : List EventEntry) (e : EventEntry) (change : Change) (t x : ℕ)
    → IsAbout scripts before e change t x → is_close change ≡ true
    → IsClosedByLatest scripts (before ++ e ∷ []) t x
closed_by scripts before e Close t x h is = closed_now scripts before e t x h
closed_by scripts before e Reopen t x h is = absurd (true≢false (sym is))

pub closes_if : (scripts : List (List ScriptLine)) (before : List EventEntry) (e : EventEntry) (change : Change) (t x : ℕ) → IsAbout scripts before e change t x
    → IsClosedByLatest scripts (before ++ e ∷ []) t x → is_close change ≡ true
closes_if scripts before e Close t x h k = refl
closes_if scripts before e Reopen t x h k = absurd (not_reopened scripts before e t x h k)

-- an entry that is no line about the second leaves the latest
pub still_closed : (scripts : List (List ScriptLine)) (before : List EventEntry) (e : EventEntry) (t x : ℕ) → IsNoneAbout scripts before e t x
    → IsClosedByLatest scripts before t x
    → IsClosedByLatest scripts (before ++ e ∷ []) t x
still_closed scripts before e t x away k = record {
  before = k.before;
  latest = k.latest;
  after = k.after ++ e ∷ [];
  is = ap (λ (l : List EventEntry). l ++ e ∷ []) k.is ∙ append_assoc k.before (k.latest ∷ k.after) (e ∷ []);
  closes = k.closes;
  none = λ b a f change is about. elim (split_last k.after b a e f is) [
    | inl s ↦ away change (moved scripts before (k.before ++ k.latest ∷ b) e f change t x
        (k.is ∙ ap (λ (l : List EventEntry). k.before ++ k.latest ∷ l) s.0) s.1 about)
    | inr s ↦ k.none b s.0 f change s.2 about
  ];
}

pub was_closed : (scripts : List (List ScriptLine)) (before : List EventEntry) (e : EventEntry) (t x : ℕ) → IsNoneAbout scripts before e t x
    → IsClosedByLatest scripts (before ++ e ∷ []) t x
    → IsClosedByLatest scripts before t x
was_closed scripts before e t x away k = elim (split_last before k.before k.after e k.latest k.is) [
  | inl s ↦ absurd (away Close (moved scripts before k.before e k.latest Close t x s.0 s.1 k.closes))
  | inr s ↦ record {
    before = k.before;
    latest = k.latest;
    after = s.0;
    is = s.2;
    closes = k.closes;
    none = λ b a f change is about. k.none b (a ++ e ∷ []) f change (s.1 ∙ ap (λ (l : List EventEntry). l ++ e ∷ []) is
        ∙ append_assoc b (f ∷ a) (e ∷ [])) about;
  }
]

-- before the first entry no second is closed
pub none_at_first : (scripts : List (List ScriptLine)) (t x : ℕ) → IsClosedByLatest scripts [] t x → ⊥
none_at_first scripts t x k = nil_has_none k.before k.after k.latest k.is
