-- Where the text of a value ends, whatever its numbers are: so objects of one text have the same members, each of one text.
use Rattle.std.proofs.Common.{◌≡◌, ◌≢◌, ℕ, zero, suc, ◌+◌, ◌/◌, ◌%◌, ◌≤◌, pos, negsuc, List, [], ◌∷◌, ◌++◌, drop, get_or, map, Bool, true, false, cond}
use Rattle.std.proofs.Common.{◌==◌, ◌||◌, nat_lt, Some, Option, Ordering, Less, Equal, Greater, refl, sym, ap, ap₂, ◌∙◌, subst, arith, append_assoc}
use Rattle.std.proofs.Common.{decimal}
use Rattle.std.specs.Char.{digit_char}
use Rattle.std.specs.List.{AllByRecursion}
use Rattle.std.specs.Ordering.{nat_cmp, match_ordering}
use Rattle.std.specs.Cmp.Lexicographic.{slice_cmp}
use Rattle.std.proofs.lemmas.Bool.{ne_eqb}
use Rattle.std.proofs.lemmas.Bool.Decides.{nat_tests}
use Rattle.std.proofs.lemmas.List.{append_cancel_left, append_cancel_right}
use Rattle.json.specs.Print.{escape_letter, escape_byte, escape, quoted}
use Rattle.json.specs.Text.{content, plain}
use Rattle.json.proofs.Printed.Strings.{content-escape}
use Rattle.serde_json.specs.Data.{Num, unsigned, negative, float, Data, null, boolean, number, string, array, object, Items, no_items, item, Members}
use Rattle.serde_json.specs.Data.{no_members, member}
use Rattle.serde_json.specs.Find.{get, get_member}
use Rattle.serde_json.specs.Written.{number_text, compact_text, items_text, members_text}
use Rattle.serde_json.specs.View.{items_of}
use Rattle.plan_json.specs.Exact.{IsExact, AreExactItems}
use Rattle.plan_json.proofs.Decimals.{IsDigit, decimal_digits}

-- ---- a value is passed over

-- what a byte is, outside of texts in quotes
data Kind : Type 0 where
  quotes : Kind
  opens : Kind
  closes : Kind
  parts : Kind
  other : Kind

abbrev kind : ℕ → Kind
kind x = cond (x == 34) quotes (cond ((x == 91) || (x == 123)) opens (cond ((x == 93) || (x == 125)) closes (cond ((x == 44) || (x == 10)) parts other)))

data Place : Type 0 where
  outside : Place
  inside : Place
  escaped : Place

abbrev by_kind : Kind → ℕ → List ℕ → (ℕ → Place → List ℕ) → List ℕ
by_kind quotes n here on = on n inside
by_kind opens n here on = on (suc n) outside
by_kind closes zero here on = here
by_kind closes (suc n) here on = on n outside
by_kind parts zero here on = here
by_kind parts (suc n) here on = on (suc n) outside
by_kind other n here on = on n outside

-- What is left of a text from where a comma, a closing bracket or a newline stands that belongs to none of the brackets that were
-- opened, of which n are open.
abbrev past : ℕ → Place → List ℕ → List ℕ
past n place [] = []
past n outside (x ∷ xs) = by_kind (kind x) n (x ∷ xs) (λ m next. past m next xs)
past n inside (x ∷ xs) = past n (cond (x == 34) outside (cond (x == 92) escaped inside)) xs
past n escaped (x ∷ xs) = past n inside xs

-- ---- texts in quotes

inside_stays : (n x : ℕ) (r : List ℕ) → x ≢ 34 → x ≢ 92 → past n inside (x ∷ r) ≡ past n inside r
inside_stays n x r q b = rw (ne_eqb x 34 q, ne_eqb x 92 b) refl

digit_char_high : (d : ℕ) → (digit_char d ≢ 34) × (digit_char d ≢ 92)
digit_char_high d = (grind (arith, nat_tests), grind (arith, nat_tests))

abbrev escape_by : ℕ → Bool → Bool → List ℕ
escape_by x a b = cond a (92 ∷ escape_letter x ∷ []) (cond b (92 ∷ 117 ∷ 48 ∷ 48 ∷ digit_char (x / 16) ∷ digit_char (x % 16) ∷ []) (x ∷ []))

byte_by : (n x : ℕ) (a b : Bool) (r : List ℕ) → nat_lt 0 (escape_letter x) ≡ a → past n inside (escape_by x a b ++ r) ≡ past n inside r
byte_by n x true b r h = refl
byte_by n x false true r h =
    let high = digit_char_high (x / 16) in
    let low = digit_char_high (x % 16) in
    inside_stays n (digit_char (x / 16)) (digit_char (x % 16) ∷ r) high.0 high.1 ∙ inside_stays n (digit_char (x % 16)) r low.0 low.1
byte_by n x false false r h =
    inside_stays n x r (λ e. let lettered : true ≡ false = subst (λ (y : ℕ). nat_lt 0 (escape_letter y) ≡ false) e h in cc)
    (λ e. let lettered : true ≡ false = subst (λ (y : ℕ). nat_lt 0 (escape_letter y) ≡ false) e h in cc)

byte_passes : (n x : ℕ) (r : List ℕ) → past n inside (escape_byte x ++ r) ≡ past n inside r
unfolding escape_byte
byte_passes n x r = byte_by n x (nat_lt 0 (escape_letter x)) (nat_lt x 32) r refl

escape_passes : (n : ℕ) (s r : List ℕ) → past n inside (escape s ++ r) ≡ past n inside r
escape_passes n [] r = refl
escape_passes n (x ∷ s) r =
    ap (past n inside) (append_assoc (escape_byte x) (escape s) r) ∙ byte_passes n x (escape s ++ r) ∙ escape_passes n s r

quoted_passes : (n : ℕ) (s r : List ℕ) → past n outside (quoted s ++ r) ≡ past n outside r
quoted_passes n s r = ap (past n inside) (append_assoc (escape s) (34 ∷ []) r) ∙ escape_passes n s (34 ∷ r)

-- ---- numbers

digit_passes : (n x : ℕ) (r : List ℕ) → IsDigit x → past n outside (x ∷ r) ≡ past n outside r
digit_passes n x r h =
    let low : 48 ≤ x = h.0 in
    let high : x ≤ 57 = h.1 in
    rw (
      ne_eqb x 34 (λ e. omega arith),
      ne_eqb x 91 (λ e. omega arith),
      ne_eqb x 123 (λ e. omega arith),
      ne_eqb x 93 (λ e. omega arith),
      ne_eqb x 125 (λ e. omega arith),
      ne_eqb x 44 (λ e. omega arith),
      ne_eqb x 10 (λ e. omega arith),
    ) refl

digits_pass : (n : ℕ) (xs r : List ℕ) → AllByRecursion IsDigit xs → past n outside (xs ++ r) ≡ past n outside r
digits_pass n [] r h = refl
digits_pass n (x ∷ xs) r h = digit_passes n x (xs ++ r) h.0 ∙ digits_pass n xs r h.1

number_passes : (n : ℕ) (x : Num) (r : List ℕ) → past n outside (number_text x ++ r) ≡ past n outside r
number_passes n (unsigned m) r = digits_pass n (decimal m) r (decimal_digits m)
number_passes n (negative (pos m)) r = digits_pass n (decimal m) r (decimal_digits m)
number_passes n (negative (negsuc m)) r = digits_pass n (decimal (suc m)) r (decimal_digits (suc m))
number_passes n (float x) r = refl

-- ---- values

item_passes : (d : Data) (ds : Items) (n : ℕ) (r : List ℕ)
    → past (suc n) outside (compact_text d ++ (items_text true ds ++ r)) ≡ past (suc n) outside (items_text true ds ++ r)
    → past (suc n) outside (items_text true ds ++ r) ≡ past n outside r → past (suc n) outside ((compact_text d ++ items_text true ds) ++ r) ≡ past n outside r
item_passes d ds n r first others = ap (past (suc n) outside) (append_assoc (compact_text d) (items_text true ds) r) ∙ first ∙ others

abbrev member_text : List ℕ → Data → Members → List ℕ
member_text k d ms = quoted k ++ 58 ∷ (compact_text d ++ members_text true ms)

member_passes : (k : List ℕ) (d : Data) (ms : Members) (n : ℕ) (r : List ℕ)
    → past (suc n) outside (compact_text d ++ (members_text true ms ++ r)) ≡ past (suc n) outside (members_text true ms ++ r)
    → past (suc n) outside (members_text true ms ++ r) ≡ past n outside r → past (suc n) outside (member_text k d ms ++ r) ≡ past n outside r
member_passes k d ms n r first others =
    ap (past (suc n) outside) (append_assoc (quoted k) (58 ∷ (compact_text d ++ members_text true ms)) r)
    ∙ quoted_passes (suc n) k (58 ∷ ((compact_text d ++ members_text true ms) ++ r))
    ∙ ap (past (suc n) outside) (append_assoc (compact_text d) (members_text true ms) r) ∙ first ∙ others

mutual
  value_passes : (d : Data) (n : ℕ) (r : List ℕ) → past n outside (compact_text d ++ r) ≡ past n outside r
  value_passes null n r = refl
  value_passes (boolean true) n r = refl
  value_passes (boolean false) n r = refl
  value_passes (number x) n r = number_passes n x r
  value_passes (string s) n r = quoted_passes n s r
  value_passes (array ds) n r = items_pass false ds n r
  value_passes (object ms) n r = members_pass false ms n r

  items_pass : (later : Bool) (ds : Items) (n : ℕ) (r : List ℕ) → past (suc n) outside (items_text later ds ++ r) ≡ past n outside r
  items_pass later no_items n r = refl
  items_pass true (item d ds) n r = item_passes d ds n r (value_passes d (suc n) (items_text true ds ++ r)) (items_pass true ds n r)
  items_pass false (item d ds) n r = item_passes d ds n r (value_passes d (suc n) (items_text true ds ++ r)) (items_pass true ds n r)

  members_pass : (later : Bool) (ms : Members) (n : ℕ) (r : List ℕ) → past (suc n) outside (members_text later ms ++ r) ≡ past n outside r
  members_pass later no_members n r = refl
  members_pass true (member k d ms) n r = member_passes k d ms n r (value_passes d (suc n) (members_text true ms ++ r)) (members_pass true ms n r)
  members_pass false (member k d ms) n r = member_passes k d ms n r (value_passes d (suc n) (members_text true ms ++ r)) (members_pass true ms n r)

-- two values of one text, and what stands behind them, where no value goes on
one_value : (d e : Data) (s t : List ℕ) → past 0 outside s ≡ s → past 0 outside t ≡ t → compact_text d ++ s ≡ compact_text e ++ t
    → (compact_text d ≡ compact_text e) × (s ≡ t)
one_value d e s t p q same =
    let rest : s ≡ t = sym p ∙ sym (value_passes d 0 s) ∙ ap (past 0 outside) same ∙ value_passes e 0 t ∙ q in
    (append_cancel_right (compact_text d) (compact_text e) s (same ∙ ap (λ (r : List ℕ). compact_text e ++ r) (sym rest)), rest)

-- two lines of one text, and what stands behind them
pub one_line : (d e : Data) (s t : List ℕ) → compact_text d ++ 10 ∷ s ≡ compact_text e ++ 10 ∷ t → (compact_text d ≡ compact_text e) × (s ≡ t)
one_line d e s t same = let split = one_value d e (10 ∷ s) (10 ∷ t) refl refl same in (split.0, ap (drop 1) split.1)

-- ---- lists

items_stop : (ds : Items) → past 0 outside (items_text true ds) ≡ items_text true ds
items_stop no_items = refl
items_stop (item d ds) = refl

abbrev first : List ℕ → ℕ
first xs = get_or xs 0 0

no_item : (d : Data) (ds : Items) → compact_text d ≢ [] → 93 ∷ [] ≡ compact_text d ++ items_text true ds → ⊥
no_item d ds some same =
    let rest : 93 ∷ [] ≡ items_text true ds = ap (past 0 outside) same ∙ value_passes d 0 (items_text true ds) ∙ items_stop ds in
    some (append_cancel_right (compact_text d) [] (items_text true ds) (sym same ∙ rest))

-- what is known of values that are written one each: one of which nothing is lost is told by its text, which isn't empty
pub record IsTold {T : Type 0} (f : T → Data) : Type 0 where
  pub one : (x y : T) → IsExact (f x) → compact_text (f x) ≡ compact_text (f y) → x ≡ y
  pub some : (x : T) → compact_text (f x) ≢ []

same_items : {T : Type 0} (f : T → Data) → IsTold f → (later : Bool) (xs ys : List T) → AreExactItems (items_of (map f xs))
    → items_text later (items_of (map f xs)) ≡ items_text later (items_of (map f ys)) → xs ≡ ys
same_items f told later [] [] exact same = refl
same_items f told true [] (y ∷ ys) exact same = absurd (omega (arith, ap first same))
same_items f told false [] (y ∷ ys) exact same = absurd (no_item (f y) (items_of (map f ys)) (told.some y) same)
same_items f told true (x ∷ xs) [] exact same = absurd (omega (arith, ap first same))
same_items f told false (x ∷ xs) [] exact same = absurd (no_item (f x) (items_of (map f xs)) (told.some x) (sym same))
same_items f told true (x ∷ xs) (y ∷ ys) exact same =
    let split = one_value (f x) (f y) (items_text true (items_of (map f xs))) (items_text true (items_of (map f ys)))
    (items_stop (items_of (map f xs))) (items_stop (items_of (map f ys))) (ap (drop 1) same) in
    ap₂ (λ z zs. z ∷ zs) (told.one x y exact.0 split.0) (same_items f told true xs ys exact.1 split.1)
same_items f told false (x ∷ xs) (y ∷ ys) exact same =
    let split = one_value (f x) (f y) (items_text true (items_of (map f xs))) (items_text true (items_of (map f ys)))
    (items_stop (items_of (map f xs))) (items_stop (items_of (map f ys))) same in
    ap₂ (λ z zs. z ∷ zs) (told.one x y exact.0 split.0) (same_items f told true xs ys exact.1 split.1)

pub same_list : {T : Type 0} (f : T → Data) → IsTold f → (xs ys : List T) → AreExactItems (items_of (map f xs))
    → compact_text (array (items_of (map f xs))) ≡ compact_text (array (items_of (map f ys))) → xs ≡ ys
same_list f told xs ys exact same = same_items f told false xs ys exact (ap (drop 1) same)

-- ---- members

members_stop : (ms : Members) → past 0 outside (members_text true ms) ≡ members_text true ms
members_stop no_members = refl
members_stop (member k d ms) = refl

one_name : (k l s t : List ℕ) → quoted k ++ s ≡ quoted l ++ t → (k ≡ l) × (s ≡ t)
one_name k l s t same =
    let text : (m r : List ℕ) → content plain (drop 1 (quoted m ++ r)) ≡ Some m =
    λ m r. ap (content plain) (append_assoc (escape m) (34 ∷ []) r) ∙ content-escape m r in
    let both : Some k ≡ Some l = sym (text k s) ∙ ap (λ (xs : List ℕ). content plain (drop 1 xs)) same ∙ text l t in
    let name : k ≡ l = cc in
    (name, append_cancel_left (quoted k) s t (same ∙ ap (λ (m : List ℕ). quoted m ++ t) (sym name)))

-- the members have the same names, and values of the same texts
abbrev pub SameMembers : Members → Members → Type 0
SameMembers no_members no_members = Unit {0}
SameMembers no_members (member l e ns) = ⊥
SameMembers (member k d ms) no_members = ⊥
SameMembers (member k d ms) (member l e ns) = (k ≡ l) × (compact_text d ≡ compact_text e) × SameMembers ms ns

same_member : (k l : List ℕ) (d e : Data) (ms ns : Members) → (members_text true ms ≡ members_text true ns → SameMembers ms ns)
    → member_text k d ms ≡ member_text l e ns → SameMembers (member k d ms) (member l e ns)
same_member k l d e ms ns others same =
    let name = one_name k l (58 ∷ (compact_text d ++ members_text true ms)) (58 ∷ (compact_text e ++ members_text true ns)) same in
    let value = one_value d e (members_text true ms) (members_text true ns) (members_stop ms) (members_stop ns) (ap (drop 1) name.1) in
    (name.0, value.0, others value.1)

same_members : (later : Bool) (ms ns : Members) → members_text later ms ≡ members_text later ns → SameMembers ms ns
same_members later no_members no_members same = tt
same_members true no_members (member l e ns) same = absurd (omega (arith, ap first same))
same_members false no_members (member l e ns) same = absurd (omega (arith, ap first same))
same_members true (member k d ms) no_members same = absurd (omega (arith, ap first same))
same_members false (member k d ms) no_members same = absurd (omega (arith, ap first same))
same_members true (member k d ms) (member l e ns) same = same_member k l d e ms ns (same_members true ms ns) (ap (drop 1) same)
same_members false (member k d ms) (member l e ns) same = same_member k l d e ms ns (same_members true ms ns) same

same_by : (o : Ordering) (d e a b : Data) (x y : Option Data) → match_ordering o x (Some d) x ≡ Some a → match_ordering o y (Some e) y ≡ Some b
    → compact_text d ≡ compact_text e
    → (x ≡ Some a → y ≡ Some b → compact_text a ≡ compact_text b) → compact_text a ≡ compact_text b
same_by Less d e a b x y h g same later = later h g
same_by Equal d e a b x y h g same later =
    let first : d ≡ a = cc in
    let other : e ≡ b = cc in
    ap compact_text (sym first) ∙ same ∙ ap compact_text other
same_by Greater d e a b x y h g same later = later h g

same_in : (name : List ℕ) (ms ns : Members) (a b : Data) → SameMembers ms ns → get_member name ms ≡ Some a → get_member name ns ≡ Some b
    → compact_text a ≡ compact_text b
same_in name no_members no_members a b same h g = cc
same_in name no_members (member l e ns) a b same h g = absurd same
same_in name (member k d ms) no_members a b same h g = absurd same
same_in name (member k d ms) (member l e ns) a b same h g =
    let here : match_ordering (slice_cmp nat_cmp name k) (get_member name ns) (Some e) (get_member name ns) ≡ Some b =
    ap (λ (m : List ℕ). match_ordering (slice_cmp nat_cmp name m) (get_member name ns) (Some e) (get_member name ns)) same.0 ∙ g in
    same_by (slice_cmp nat_cmp name k) d e a b (get_member name ms) (get_member name ns) h here same.1
    (λ p q. same_in name ms ns a b same.2 p q)

-- the members of both, where both are objects
abbrev pub HaveSame : Data → Data → Type 0
HaveSame (object ms) (object ns) = SameMembers ms ns
HaveSame _ _ = Unit {0}

-- values of one text have the same, where both are objects
pub have_same : (c d : Data) → compact_text c ≡ compact_text d → HaveSame c d
have_same (object ms) (object ns) same = same_members false ms ns (ap (drop 1) same)
have_same (object ms) null same = tt
have_same (object ms) (boolean x) same = tt
have_same (object ms) (number x) same = tt
have_same (object ms) (string x) same = tt
have_same (object ms) (array x) same = tt
have_same null d same = tt
have_same (boolean x) d same = tt
have_same (number x) d same = tt
have_same (string x) d same = tt
have_same (array x) d same = tt

-- what two objects of one text have by one name has one text
pub same_at_name : (name : List ℕ) (c d a b : Data) → compact_text c ≡ compact_text d → get name c ≡ Some a → get name d ≡ Some b
    → compact_text a ≡ compact_text b
same_at_name name (object ms) (object ns) a b same h g = same_in name ms ns a b (same_members false ms ns (ap (drop 1) same)) h g
same_at_name name (object ms) null a b same h g = cc
same_at_name name (object ms) (boolean x) a b same h g = cc
same_at_name name (object ms) (number x) a b same h g = cc
same_at_name name (object ms) (string x) a b same h g = cc
same_at_name name (object ms) (array x) a b same h g = cc
same_at_name name null d a b same h g = cc
same_at_name name (boolean x) d a b same h g = cc
same_at_name name (number x) d a b same h g = cc
same_at_name name (string x) d a b same h g = cc
same_at_name name (array x) d a b same h g = cc
