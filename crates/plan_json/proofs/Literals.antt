-- Names and words of the source.
use Rattle.std.proofs.Common.{◌≡◌, ℕ, ◌≤◌, ◌<◌, List, [], ◌∷◌, ◌++◌, length, take, drop, length-drop, ◌-◌, true, false, Bool, IsUtf8, Result, Ok, Err}
use Rattle.std.proofs.Common.{refl, sym, ap, ap₂, ◌∙◌, subst, append_assoc, lt-ltb, arith}
use Rattle.std.specs.List.{list_all}
use Rattle.std.proofs.lemmas.Bool.{and_parts}
use Rattle.std.proofs.lemmas.Bool.Decides.{nat_tests}
use Rattle.std.proofs.lemmas.List.{take_all}
use Rattle.std.proofs.lemmas.Slice.Eq.{bytes_eq-Decides}
use Rattle.json.specs.Print.{escape, quoted}
use Rattle.serde_json.specs.Data.{string}
use Rattle.serde_json.specs.Written.{comma_if}
use Rattle.json.proofs.Printed.Strings.{escape_byte_plain}
use Rattle.json.proofs.Printed.Utf8.{are_ascii, IsUtf8-are_ascii}
use Rattle.plan_json.specs.Adds.{text_of, Adds, AddsNested}
use Rattle.plan_json.specs.Literals.{is_plain_byte, word_in, is_word, name_in, is_name}

plain_byte : (x : ℕ) → is_plain_byte x ≡ true → (x ≡ 34 → ⊥) × (x ≡ 92 → ⊥) × (32 ≤ x) × (x < 128)
plain_byte x h = grind (arith, nat_tests)

-- a text of printable bytes is written as it is
escape-plain : (s : List ℕ) → list_all is_plain_byte s ≡ true → escape s ≡ s
escape-plain [] h = refl
escape-plain (x ∷ s) h =
    let both = and_parts _ _ h in
    let byte = plain_byte x both.0 in
    ap₂ (λ (a b : List ℕ). a ++ b) (escape_byte_plain x byte.0 byte.1 byte.2) (escape-plain s both.1)

ascii : (s : List ℕ) → list_all is_plain_byte s ≡ true → are_ascii s ≡ true
ascii [] h = refl
ascii (x ∷ s) h =
    let both = and_parts _ _ h in
    rw (lt-ltb x 128 (plain_byte x both.0).3) (ascii s both.1)

pub word_is : (text : List ℕ) → is_word text ≡ true → text ≡ quoted (word_in text)
word_is text h =
    let both = and_parts _ _ h in
    (bytes_eq-Decides text _).0 both.1 ∙ ap (λ (s : List ℕ). 34 ∷ (s ++ 34 ∷ [])) (sym (escape-plain (word_in text) both.0))

pub word_utf8 : (text : List ℕ) → is_word text ≡ true → IsUtf8 (word_in text)
word_utf8 text h = IsUtf8-are_ascii _ (ascii (word_in text) (and_parts _ _ h).0)

pub name_is : (text : List ℕ) → is_name text ≡ true → text ≡ 44 ∷ (quoted (name_in text) ++ 58 ∷ [])
name_is text h =
    let both = and_parts _ _ h in
    let escaped : 34 ∷ (name_in text ++ 34 ∷ 58 ∷ []) ≡ quoted (name_in text) ++ 58 ∷ [] =
    ap (λ (s : List ℕ). 34 ∷ (s ++ 34 ∷ 58 ∷ [])) (sym (escape-plain (name_in text) both.0))
    ∙ ap (λ (s : List ℕ). 34 ∷ s) (sym (append_assoc (escape (name_in text)) (34 ∷ []) (58 ∷ []))) in
    (bytes_eq-Decides text _).0 both.1 ∙ ap (λ (s : List ℕ). 44 ∷ s) escaped

pub name_utf8 : (text : List ℕ) → is_name text ≡ true → IsUtf8 (name_in text)
name_utf8 text h = IsUtf8-are_ascii _ (ascii (name_in text) (and_parts _ _ h).0)

-- a text that is another one is added
pub adds_same : {E : Type 0} (r : Result (Unit {0}) E) (old new s t : List ℕ) → s ≡ t → Adds r old new s → Adds r old new t
adds_same r old new s t e h = subst (λ u. Adds r old new u) e h

word_of_quoted : {E : Type 0} (r : Result (Unit {0}) E) (old new s : List ℕ) → IsUtf8 s → Adds r old new (quoted s) → AddsNested r old new 0 (string s)
unfolding text_of
word_of_quoted (Ok u) old new s utf8 h = record { adds = h; holds = record { exact = utf8; in_order = tt; flat = omega arith } }
word_of_quoted (Err e) old new s utf8 h = record { adds = h; holds = tt }

-- a word in quotes is added
pub adds_word : {E : Type 0} (r : Result (Unit {0}) E) (old new s text : List ℕ) → is_word text ≡ true → s ≡ text → Adds r old new s
    → AddsNested r old new 0 (string (word_in text))
adds_word r old new s text h same adds = word_of_quoted r old new (word_in text) (word_utf8 text h) (adds_same r old new s _ (same ∙ word_is text h) adds)

-- a name with its comma, and one without
pub later_name : (is_later : Bool) (s text : List ℕ) → is_name text ≡ true → is_later ≡ true → s ≡ text
    → s ≡ comma_if is_later ++ (quoted (name_in text) ++ 58 ∷ [])
later_name is_later s text h later e = rw later (e ∙ name_is text h)

pub first_name : (is_later : Bool) (s text : List ℕ) → is_name text ≡ true → is_later ≡ false → s ≡ text
    → take (length s - 1) (drop 1 s) ≡ comma_if is_later ++ (quoted (name_in text) ++ 58 ∷ [])
first_name is_later s text h first e =
    rw first (take_all (length s - 1) (drop 1 s) (omega (arith, length-drop 1 s)) ∙ ap (drop 1) (e ∙ name_is text h))
