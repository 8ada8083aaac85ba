-- What values are read as.
use Rattle.std.proofs.Common.{◌≡◌, ℕ, Bool, true, false, cond, Some, IsUtf8, ok_or, List, [], ◌∷◌, None, Result, Ok, Err, IfOk, refl, ap, pos, unsigned_abs}
use Rattle.std.specs.Str.{is_utf8}
use Rattle.std.proofs.lemmas.Str.{is_utf8-from_IsUtf8, IsUtf8-from_is_utf8}
use Rattle.serde_json.specs.Read.{read}
use Rattle.serde_json.specs.Data.{Data, null, boolean, number, string, array, object}
use Rattle.serde_json.specs.Find.{as_str}
use Rattle.serde_json.specs.View.{items_of}
use Rattle.plan_json.specs.declared.member.Member.{Member}
use Rattle.plan_json.specs.declared.fault.JsonFault.TheVariants.{NotJson}
use Rattle.plan_json.specs.Object.{data_of}
use Rattle.plan_json.specs.Reading.{result_map}
use Rattle.plan_json.specs.Whole.{whole_in}
use Rattle.plan_json.specs.Moment.{last_moment, moment_at, moment_in}
use Rattle.plan_json.specs.List.{elements}

-- the elements of a list that was made of them
pub elements_of_items : (ds : List Data) → elements (items_of ds) ≡ ds
elements_of_items [] = refl
elements_of_items (d ∷ ds) = ap (λ rest. d ∷ rest) (elements_of_items ds)

-- a value that is no text is a moment where it is a whole number
pub moment_of_number : (m : Member) (d : Data) → as_str d ≡ None
    → moment_in m d ≡ result_map (λ z. moment_at (unsigned_abs z)) (whole_in m (pos 0) (pos last_moment) d)
moment_of_number m null h = refl
moment_of_number m (boolean b) h = refl
moment_of_number m (number n) h = refl
moment_of_number m (string s) h = absurd (cc)
moment_of_number m (array ds) h = refl
moment_of_number m (object ms) h = refl

-- bytes that are text and have a reading
pub data_of_text : (bytes : List ℕ) (d : Data) → IsUtf8 bytes → read bytes ≡ Some d → data_of bytes ≡ Ok d
data_of_text bytes d utf8 e = rw (is_utf8-from_IsUtf8 bytes utf8, e) refl

no_data_by : (b : Bool) (bytes : List ℕ) → is_utf8 bytes ≡ b → (IsUtf8 bytes → read bytes ≡ None)
    → cond b (ok_or (read bytes) NotJson) (Err NotJson) ≡ Err NotJson
no_data_by true bytes e h = rw (h (IsUtf8-from_is_utf8 bytes e)) refl
no_data_by false bytes e h = refl

-- bytes that are no text, or have no reading
pub no_data : (bytes : List ℕ) → (IsUtf8 bytes → read bytes ≡ None) → data_of bytes ≡ Err NotJson
no_data bytes h = no_data_by (is_utf8 bytes) bytes refl h

-- two facts of a value give a third
pub both : {T E : Type 0} (P Q R : T → Type 0) → ((x : T) → P x → Q x → R x) → (r : Result T E) → IfOk r P → IfOk r Q → IfOk r R
both P Q R f (Ok x) p q = f x p q
both P Q R f (Err e) p q = tt
