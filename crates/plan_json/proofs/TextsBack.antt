-- The text of exact data is read as the data, and so says which it is.
use Rattle.std.proofs.Common.{◌≡◌, ℕ, suc, ◌+◌, ◌≤◌, ◌<◌, max, pos, negsuc, Bool, true, false, lt-ltb, List, [], ◌∷◌, ◌++◌, IsUtf8, Option, Some}
use Rattle.std.proofs.Common.{unwrap_or, option_and_then, Less, Greater, refl, sym, ap, ap₂, ◌∙◌, append-nil, arith}
use Rattle.std.specs.Prelude.{⊤}
use Rattle.std.specs.Ordering.{nat_cmp, ordering_reverse}
use Rattle.std.specs.Cmp.Lexicographic.{slice_cmp}
use Rattle.std.proofs.lemmas.Cmp.{nat_list_cmp_total}
use Rattle.std.proofs.lemmas.Str.{IsUtf8-append, IsUtf8-from_ascii}
use Rattle.std.proofs.lemmas.Fmt.{IsAscii-decimal, IsAscii-signed}
use Rattle.json.specs.Json as json
use Rattle.json.specs.Token.{Token}
use Rattle.json.specs.Lex.{tokens}
use Rattle.json.specs.Print.{IsNumber, quoted}
use Rattle.json.specs.Tree.{json_tokens, HasNumbers, ItemsHaveNumbers, MembersHaveNumbers, depth as json_depth, items_depth as json_items_depth}
use Rattle.json.specs.Tree.{members_depth as json_members_depth}
use Rattle.json.proofs.Printed.Decimals.{IsNumber-decimal, IsNumber-signed_decimal}
use Rattle.json.proofs.Printed.Tokens.{tokens-print}
use Rattle.json.proofs.Printed.Trees.{value-json_tokens, ArePrintable-json_tokens}
use Rattle.json.proofs.Printed.Utf8.{IsUtf8-are_ascii, IsUtf8-quoted, IsUtf8-boolean}
use Rattle.serde_json.specs.Data.{Num, unsigned, negative, float, Data, null, boolean, number, string, array, object, Items, no_items, item, Members}
use Rattle.serde_json.specs.Data.{no_members, member, put, depth, items_depth, members_depth}
use Rattle.serde_json.specs.Read.{number_of, of_json, of_items, of_members, max_depth, read}
use Rattle.serde_json.specs.Written.{number_text, outline, items_outline, members_outline, comma_if, compact_text, items_text, members_text}
use Rattle.serde_json.proofs.Numbers.{number_of-decimal, number_of-negative}
use Rattle.serde_json.proofs.Texts.{print-outline}
use Rattle.plan_json.specs.Adds.{text_of}
use Rattle.plan_json.specs.Exact.{IsExactNumber, IsExact, AreExactItems, AreExactMembers}
use Rattle.plan_json.specs.Order.{IsBefore, IsInByteOrder, AreInByteOrder, RiseInByteOrder}
use Rattle.plan_json.specs.TextLaws.{TextsAreReadBack, TextsAreDistinct}
use Rattle.plan_json.proofs.Values.{data_of_text}

-- ---- numbers

number_of-number_text : (n : Num) → IsExactNumber n → number_of (number_text n) ≡ Some n
number_of-number_text (unsigned n) h = number_of-decimal n h
number_of-number_text (negative (pos n)) h = absurd h
number_of-number_text (negative (negsuc n)) h = number_of-negative n h
number_of-number_text (float x) h = absurd h

IsNumber-number_text : (n : Num) → IsExactNumber n → IsNumber (number_text n)
IsNumber-number_text (unsigned n) h = IsNumber-decimal n h
IsNumber-number_text (negative (pos n)) h = absurd h
IsNumber-number_text (negative (negsuc n)) h = IsNumber-signed_decimal (negsuc n) h
IsNumber-number_text (float x) h = absurd h

IsUtf8-number_text : (n : Num) → IsExactNumber n → IsUtf8 (number_text n)
IsUtf8-number_text (unsigned n) h = IsUtf8-from_ascii _ (IsAscii-decimal n h)
IsUtf8-number_text (negative (pos n)) h = absurd h
IsUtf8-number_text (negative (negsuc n)) h = IsUtf8-from_ascii _ (IsAscii-signed (negsuc n) h)
IsUtf8-number_text (float x) h = absurd h

-- ---- the tokens

mutual
  pub HasNumbers-outline : (d : Data) → IsExact d → HasNumbers (outline d)
  HasNumbers-outline null h = tt
  HasNumbers-outline (boolean b) h = tt
  HasNumbers-outline (number n) h = IsNumber-number_text n h
  HasNumbers-outline (string s) h = tt
  HasNumbers-outline (array ds) h = HasNumbers-items ds h
  HasNumbers-outline (object ms) h = HasNumbers-members ms h

  HasNumbers-items : (ds : Items) → AreExactItems ds → ItemsHaveNumbers (items_outline ds)
  HasNumbers-items no_items h = tt
  HasNumbers-items (item d ds) h = (HasNumbers-outline d h.0, HasNumbers-items ds h.1)

  HasNumbers-members : (ms : Members) → AreExactMembers ms → MembersHaveNumbers (members_outline ms)
  HasNumbers-members no_members h = tt
  HasNumbers-members (member k d ms) h = (HasNumbers-outline d h.1, HasNumbers-members ms h.2)

tokens-compact_text : (d : Data) → IsExact d → tokens (compact_text d) ≡ json_tokens (outline d)
tokens-compact_text d h =
    ap tokens (sym (print-outline d)) ∙ tokens-print (json_tokens (outline d)) (ArePrintable-json_tokens (outline d) (HasNumbers-outline d h))

mutual
  depth-outline : (d : Data) → json_depth (outline d) ≡ depth d
  depth-outline null = refl
  depth-outline (boolean b) = refl
  depth-outline (number n) = refl
  depth-outline (string s) = refl
  depth-outline (array ds) = ap suc (depth-items ds)
  depth-outline (object ms) = ap suc (depth-members ms)

  depth-items : (ds : Items) → json_items_depth (items_outline ds) ≡ items_depth ds
  depth-items no_items = refl
  depth-items (item d ds) = ap₂ max (depth-outline d) (depth-items ds)

  depth-members : (ms : Members) → json_members_depth (members_outline ms) ≡ members_depth ms
  depth-members no_members = refl
  depth-members (member k d ms) = ap₂ max (depth-outline d) (depth-members ms)

-- ---- the data of the outline

abbrev join : Members → Members → Members
join no_members ms = ms
join (member k d fs) ms = member k d (join fs ms)

join-none : (fs : Members) → join fs no_members ≡ fs
join-none no_members = refl
join-none (member k d fs) = ap (member k d) (join-none fs)

join-next : (fs : Members) (k : List ℕ) (d : Data) (ms : Members) → join (join fs (member k d no_members)) ms ≡ join fs (member k d ms)
join-next no_members k d ms = refl
join-next (member l e fs) k d ms = ap (member l e) (join-next fs k d ms)

-- the names of these members come before the name
abbrev AllBefore : Members → List ℕ → Type 0
AllBefore no_members k = ⊤
AllBefore (member l e fs) k = (slice_cmp nat_cmp l k ≡ Less) × AllBefore fs k

-- and so before the name that follows it
all_before : (fs : Members) (k l : List ℕ) (d : Data) → AllBefore fs k → slice_cmp nat_cmp k l ≡ Less → AllBefore (join fs (member k d no_members)) l
all_before no_members k l d h less = (less, tt)
all_before (member m e fs) k l d h less = (nat_list_cmp_total.trans m k l h.0 less, all_before fs k l d h.1 less)

abbrev AreBefore : Members → Members → Type 0
AreBefore fs no_members = ⊤
AreBefore fs (member k d ms) = AllBefore fs k

next_before : (fs : Members) (k : List ℕ) (d : Data) (ms : Members) → AllBefore fs k → IsBefore k ms → AreBefore (join fs (member k d no_members)) ms
next_before fs k d no_members h less = tt
next_before fs k d (member l e ms) h less = all_before fs k l d h less

-- a name that comes after all others goes to the end
put-last : (k : List ℕ) (d : Data) (fs : Members) → AllBefore fs k → put k d fs ≡ join fs (member k d no_members)
put-last k d no_members h = refl
put-last k d (member l e fs) h =
    let after : slice_cmp nat_cmp k l ≡ Greater = nat_list_cmp_total.antisymm k l ∙ ap ordering_reverse h.0 in
    rw after (ap (member l e) (put-last k d fs h.1))

mutual
  of_json-outline : (d : Data) → IsExact d → IsInByteOrder d → of_json (outline d) ≡ Some d
  of_json-outline null h o = refl
  of_json-outline (boolean b) h o = refl
  of_json-outline (number n) h o = rw (number_of-number_text n h) refl
  of_json-outline (string s) h o = refl
  of_json-outline (array ds) h o = rw (of_items-outline ds h o) refl
  of_json-outline (object ms) h o = rw (of_members-outline no_members ms h o (none_before ms)) refl

  of_items-outline : (ds : Items) → AreExactItems ds → AreInByteOrder ds → of_items (items_outline ds) ≡ Some ds
  of_items-outline no_items h o = refl
  of_items-outline (item d ds) h o = rw (of_json-outline d h.0 o.0, of_items-outline ds h.1 o.1) refl

  of_members-outline : (fs ms : Members) → AreExactMembers ms → RiseInByteOrder ms → AreBefore fs ms → of_members (members_outline ms) fs ≡ Some (join fs ms)
  of_members-outline fs no_members h o before = ap Some (sym (join-none fs))
  of_members-outline fs (member k d ms) h o before =
      rw (of_json-outline d h.1 o.1, put-last k d fs before)
      (of_members-outline (join fs (member k d no_members)) ms h.2 o.2 (next_before fs k d ms before o.0) ∙ ap Some (join-next fs k d ms))

  none_before : (ms : Members) → AreBefore no_members ms
  none_before no_members = tt
  none_before (member k d ms) = tt

-- ---- UTF-8

comma_utf8 : (b : Bool) → IsUtf8 (comma_if b)
comma_utf8 true = IsUtf8-are_ascii _ refl
comma_utf8 false = IsUtf8-are_ascii _ refl

byte_utf8 : (x : ℕ) (s : List ℕ) → x < 128 → IsUtf8 s → IsUtf8 (x ∷ s)
byte_utf8 x s small h = IsUtf8-append (x ∷ []) s (IsUtf8-are_ascii (x ∷ []) (rw (lt-ltb x 128 small) refl)) h

mutual
  text_utf8 : (d : Data) → IsExact d → IsUtf8 (compact_text d)
  text_utf8 null h = IsUtf8-are_ascii _ refl
  text_utf8 (boolean b) h = IsUtf8-boolean b
  text_utf8 (number n) h = IsUtf8-number_text n h
  text_utf8 (string s) h = IsUtf8-quoted s h
  text_utf8 (array ds) h = byte_utf8 91 _ (omega arith) (items_utf8 false ds h)
  text_utf8 (object ms) h = byte_utf8 123 _ (omega arith) (members_utf8 false ms h)

  items_utf8 : (later : Bool) (ds : Items) → AreExactItems ds → IsUtf8 (items_text later ds)
  items_utf8 later no_items h = IsUtf8-are_ascii _ refl
  items_utf8 later (item d ds) h =
      IsUtf8-append (comma_if later) _ (comma_utf8 later) (IsUtf8-append (compact_text d) _ (text_utf8 d h.0) (items_utf8 true ds h.1))

  members_utf8 : (later : Bool) (ms : Members) → AreExactMembers ms → IsUtf8 (members_text later ms)
  members_utf8 later no_members h = IsUtf8-are_ascii _ refl
  members_utf8 later (member k d ms) h =
      let value = byte_utf8 58 _ (omega arith) (IsUtf8-append (compact_text d) _ (text_utf8 d h.1) (members_utf8 true ms h.2)) in
      IsUtf8-append (comma_if later) _ (comma_utf8 later) (IsUtf8-append (quoted k) _ (IsUtf8-quoted k h.0) value)

-- ---- the laws

read-compact_text : (d : Data) → IsExact d → IsInByteOrder d → depth d ≤ max_depth → read (compact_text d) ≡ Some d
read-compact_text d h o flat =
    let parsed : json.value max_depth (tokens (compact_text d)) ≡ Some (outline d, []) =
    ap (json.value max_depth) (tokens-compact_text d h ∙ sym (append-nil (json_tokens (outline d))))
    ∙ value-json_tokens (outline d) max_depth [] (omega (arith, depth-outline d)) in
    ap (λ (o : Option (json.Json × List Token)). option_and_then of_json (option_and_then (λ p. json.if_last p.0 p.1) o)) parsed ∙ of_json-outline d h o

pub texts_are_read_back : TextsAreReadBack
unfolding text_of
texts_are_read_back d h = data_of_text (compact_text d) d (text_utf8 d h.exact) (read-compact_text d h.exact h.in_order h.flat)

-- ---- data from its outline, whatever the order of names

mutual
  data_in : json.Json → Data
  data_in json.null = null
  data_in (json.boolean b) = boolean b
  data_in (json.number s) = number (unwrap_or (number_of s) (unsigned 0))
  data_in (json.string s) = string s
  data_in (json.array js) = array (items_in js)
  data_in (json.object ms) = object (members_in ms)

  items_in : json.Items → Items
  items_in json.no_items = no_items
  items_in (json.item j js) = item (data_in j) (items_in js)

  members_in : json.Members → Members
  members_in json.no_members = no_members
  members_in (json.member k j ms) = member k (data_in j) (members_in ms)

mutual
  unfolding data_in items_in members_in

  data_in-outline : (d : Data) → IsExact d → data_in (outline d) ≡ d
  data_in-outline null h = refl
  data_in-outline (boolean b) h = refl
  data_in-outline (number n) h = ap (λ m. number (unwrap_or m (unsigned 0))) (number_of-number_text n h)
  data_in-outline (string s) h = refl
  data_in-outline (array ds) h = ap array (items_in-outline ds h)
  data_in-outline (object ms) h = ap object (members_in-outline ms h)

  items_in-outline : (ds : Items) → AreExactItems ds → items_in (items_outline ds) ≡ ds
  items_in-outline no_items h = refl
  items_in-outline (item d ds) h = ap₂ item (data_in-outline d h.0) (items_in-outline ds h.1)

  members_in-outline : (ms : Members) → AreExactMembers ms → members_in (members_outline ms) ≡ ms
  members_in-outline no_members h = refl
  members_in-outline (member k d ms) h = ap₂ (member k) (data_in-outline d h.1) (members_in-outline ms h.2)

json_tokens-injective : (j k : json.Json) → json_tokens j ≡ json_tokens k → j ≡ k
json_tokens-injective j k e =
    let most = json_depth j + json_depth k in
    let read = sym (value-json_tokens j most [] (omega arith)) ∙ ap (λ (ts : List Token). json.value most (ts ++ [])) e
    ∙ value-json_tokens k most [] (omega arith) in
    ap (λ (found : Option (json.Json × List Token)). (unwrap_or found (j, [])).0) read

pub texts_are_distinct : TextsAreDistinct
unfolding text_of
texts_are_distinct c d p q e =
    let same : json_tokens (outline c) ≡ json_tokens (outline d) = sym (tokens-compact_text c p) ∙ ap tokens e ∙ tokens-compact_text d q in
    sym (data_in-outline c p) ∙ ap data_in (json_tokens-injective (outline c) (outline d) same) ∙ data_in-outline d q
