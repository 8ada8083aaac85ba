-- What was read has its members in byte order.
use Rattle.std.proofs.Common.{◌≡◌, ℕ, List, Option, Some, None, option_map, option_and_then, IfSome, Ordering, Less, Equal, Greater, refl, subst, ap, ◌∙◌}
use Rattle.std.specs.Prelude.{⊤}
use Rattle.std.specs.Ordering.{nat_cmp, match_ordering, ordering_reverse}
use Rattle.std.specs.Cmp.Lexicographic.{slice_cmp}
use Rattle.std.proofs.lemmas.Cmp.{nat_list_cmp_total}
use Rattle.json.specs.Lex.{tokens}
use Rattle.json.specs.Json as json
use Rattle.serde_json.specs.Data.{Data, number, array, object, item, Members, no_members, member, put}
use Rattle.serde_json.specs.Read.{number_of, of_json, of_items, of_members, max_depth, read}
use Rattle.plan_json.specs.Order.{IsBefore, IsInByteOrder, AreInByteOrder, RiseInByteOrder}

before_put_at : (o : Ordering) (l k m : List ℕ) (d e : Data) (ms : Members) → slice_cmp nat_cmp l k ≡ Less → slice_cmp nat_cmp l m ≡ Less
    → IsBefore l (match_ordering o (member k d (member m e ms)) (member m d ms) (member m e (put k d ms)))
before_put_at Less l k m d e ms new old = new
before_put_at Equal l k m d e ms new old = old
before_put_at Greater l k m d e ms new old = old

-- a name that comes before the new one and before the first one comes before the first one that there is then
before_put : (l k : List ℕ) (d : Data) (ms : Members) → slice_cmp nat_cmp l k ≡ Less → IsBefore l ms → IsBefore l (put k d ms)
before_put l k d no_members new old = new
before_put l k d (member m e ms) new old = before_put_at (slice_cmp nat_cmp k m) l k m d e ms new old

put_rises_at : (o : Ordering) (k l : List ℕ) (d e : Data) (ms : Members) → slice_cmp nat_cmp k l ≡ o → IsInByteOrder d
    → RiseInByteOrder (member l e ms) → RiseInByteOrder (put k d ms)
    → RiseInByteOrder (match_ordering o (member k d (member l e ms)) (member l d ms) (member l e (put k d ms)))
put_rises_at Less k l d e ms is inner rise later = (is, inner, rise)
put_rises_at Equal k l d e ms is inner rise later = (rise.0, inner, rise.2)
put_rises_at Greater k l d e ms is inner rise later =
    (before_put l k d ms (nat_list_cmp_total.antisymm l k ∙ ap ordering_reverse is) rise.0, rise.1, later)

-- a member that goes in keeps the order
put_rises : (k : List ℕ) (d : Data) (ms : Members) → IsInByteOrder d → RiseInByteOrder ms → RiseInByteOrder (put k d ms)
put_rises k d no_members inner rise = (tt, inner, tt)
put_rises k d (member l e ms) inner rise = put_rises_at (slice_cmp nat_cmp k l) k l d e ms refl inner rise (put_rises k d ms inner rise.2)

if_map : {A B : Type 0} (P : A → Type 0) (Q : B → Type 0) (f : A → B) → ((a : A) → P a → Q (f a)) → (o : Option A) → IfSome o P → IfSome (option_map f o) Q
if_map P Q f h None p = tt
if_map P Q f h (Some a) p = h a p

if_and_then : {A B : Type 0} (P : A → Type 0) (Q : B → Type 0) (f : A → Option B) → ((a : A) → P a → IfSome (f a) Q) → (o : Option A) → IfSome o P
    → IfSome (option_and_then f o) Q
if_and_then P Q f h None p = tt
if_and_then P Q f h (Some a) p = h a p

if_any : {A : Type 0} (o : Option A) → IfSome o (λ _. ⊤)
if_any None = tt
if_any (Some a) = tt

mutual
  json_rises : (j : json.Json) → IfSome (of_json j) IsInByteOrder
  json_rises json.null = tt
  json_rises (json.boolean b) = tt
  json_rises (json.number s) = if_map (λ _. ⊤) IsInByteOrder number (λ n p. tt) (number_of s) (if_any (number_of s))
  json_rises (json.string s) = tt
  json_rises (json.array js) = if_map AreInByteOrder IsInByteOrder array (λ ds p. p) (of_items js) (items_rise js)
  json_rises (json.object ms) = if_map RiseInByteOrder IsInByteOrder object (λ ds p. p) (of_members ms no_members) (members_rise ms no_members tt)

  items_rise : (js : json.Items) → IfSome (of_items js) AreInByteOrder
  items_rise json.no_items = tt
  items_rise (json.item j js) =
      if_and_then IsInByteOrder AreInByteOrder _ (λ d p. if_map AreInByteOrder AreInByteOrder (item d) (λ ds q. (p, q)) (of_items js) (items_rise js))
      (of_json j) (json_rises j)

  members_rise : (ms : json.Members) (found : Members) → RiseInByteOrder found → IfSome (of_members ms found) RiseInByteOrder
  members_rise json.no_members found rise = rise
  members_rise (json.member k j ms) found rise =
      if_and_then IsInByteOrder RiseInByteOrder _ (λ d p. members_rise ms (put k d found) (put_rises k d found p rise)) (of_json j) (json_rises j)

made_rises : (o : Option json.Json) (d : Data) → option_and_then of_json o ≡ Some d → IsInByteOrder d
made_rises o d e = subst (λ p. IfSome p IsInByteOrder) e (if_and_then (λ _. ⊤) IsInByteOrder of_json (λ j p. json_rises j) o (if_any o))

-- what a text was read as has its members in byte order
pub read_rises : (text : List ℕ) (d : Data) → read text ≡ Some d → IsInByteOrder d
read_rises text d e = made_rises (option_and_then (λ p. json.if_last p.0 p.1) (json.value max_depth (tokens text))) d e
