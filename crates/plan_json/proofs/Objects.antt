-- An object that is written member by member.
use Rattle.std.proofs.Common.{◌≡◌, ℕ, max, List, [], ◌∷◌, ◌++◌, Bool, true, false, Option, Some, IsUtf8, Result, Ok, Err, Ordering, Less, Equal}
use Rattle.std.proofs.Common.{Greater, refl, sym, ap, ◌∙◌, subst, append_assoc, arith}
use Rattle.std.specs.List.{list_all}
use Rattle.std.specs.Ordering.{nat_cmp, match_ordering}
use Rattle.std.specs.Cmp.Lexicographic.{slice_cmp}
use Rattle.std.proofs.lemmas.Bool.{and_parts}
use Rattle.json.specs.Print.{quoted}
use Rattle.serde_json.specs.Data.{Data, Members, member}
use Rattle.serde_json.specs.Written.{comma_if, members_text}
use Rattle.plan_json.specs.Adds.{text_of, AddsMembers}
use Rattle.plan_json.specs.Exact.{IsWritten}
use Rattle.plan_json.specs.Literals.{is_before}
use Rattle.plan_json.specs.Values.{if_has}
use Rattle.plan_json.proofs.Fronts.{IsFrontOf-trans}

less_by : (o : Ordering) → match_ordering o true false false ≡ true → o ≡ Less
less_by Less h = refl
less_by Equal h = absurd (cc)
less_by Greater h = absurd (cc)

less : (k l : List ℕ) → is_before k l ≡ true → slice_cmp nat_cmp k l ≡ Less
less k l h = less_by (slice_cmp nat_cmp k l) h

-- a member was added, and after it the others
pub there : {E : Type 0} (r : Result (Unit {0}) E) (old named valued new k : List ℕ) (v : Data) (ms : Members) (names : List (List ℕ))
    (a b : ℕ) (is_later : Bool)
    → IsUtf8 k → list_all (is_before k) names ≡ true → named ≡ old ++ (comma_if is_later ++ (quoted k ++ 58 ∷ [])) → valued ≡ named ++ text_of v → IsWritten a v
    → AddsMembers r valued new true names b ms → AddsMembers r old new is_later (k ∷ names) (max a b) (member k v ms)
unfolding text_of
there (Err e) old named valued new k v ms names a b is_later utf8 ahead name value written rest = record {
  adds = record { ok = tt; err = IsFrontOf-trans old named new (_, name) (IsFrontOf-trans named valued new (_, value) rest.adds.err) };
  holds = tt;
}
there (Ok u) old named valued new k v ms names a b is_later utf8 ahead name value written rest =
    let whole : ((old ++ (comma_if is_later ++ (quoted k ++ 58 ∷ []))) ++ text_of v) ++ members_text true ms ≡ old ++ members_text is_later (member k v ms) =
    simp append_assoc in
    record {
      adds = record {
        ok = rest.adds.ok ∙ ap (λ (s : List ℕ). s ++ members_text true ms) (value ∙ ap (λ (s : List ℕ). s ++ text_of v) name) ∙ whole;
        err = tt;
      };
      holds = record {
        exact = (utf8, written.exact, rest.holds.exact);
        in_order = (rest.holds.before k ahead, written.in_order, rest.holds.in_order);
        flat = omega (arith, written.flat, rest.holds.flat);
        before = λ l before. less l k (and_parts _ _ before).0;
      };
    }

pub if_there : {E : Type 0} (r : Result (Unit {0}) E) (old named valued new k : List ℕ) (v : Data) (o : Option Data) (ms : Members)
    (names : List (List ℕ)) (a b : ℕ) (is_later : Bool)
    → o ≡ Some v → IsUtf8 k → list_all (is_before k) names ≡ true → named ≡ old ++ (comma_if is_later ++ (quoted k ++ 58 ∷ []))
    → valued ≡ named ++ text_of v → IsWritten a v
    → AddsMembers r valued new true names b ms → AddsMembers r old new is_later (k ∷ names) (max a b) (if_has k o ms)
if_there r old named valued new k v o ms names a b is_later some utf8 ahead name value written rest =
    subst (λ d. AddsMembers r old new is_later (k ∷ names) (max a b) (if_has k d ms)) (sym some)
    (there r old named valued new k v ms names a b is_later utf8 ahead name value written rest)
