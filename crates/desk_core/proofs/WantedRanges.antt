-- What is wanted of the requests of a new group is in the ranges.
use Rattle.std.proofs.Common.{◌≡◌, ◌∙◌, sym, subst, refl, ℕ, zero, suc, ◌+◌, ◌*◌, ◌/◌, ◌%◌, ◌<◌, ◌≤◌, min, List, [], ◌∷◌, length, map, fold, All}
use Rattle.std.proofs.Common.{get_or, mul-le-mul, Option, Some, None, arith}
use Rattle.std.specs.List.{filter_map, cons_option}
use Rattle.std.specs.Int.{div_ceil}
use Rattle.std.specs.Ordering.{nat_cmp, match_ordering}
use Rattle.std.specs.BTreeSet.{insert_key}
use Rattle.std.specs.declared.cmp.Ordering.{Ordering}
use Rattle.std.specs.declared.cmp.Ordering.TheVariants.{Less, Equal, Greater}
use Rattle.std.proofs.lemmas.Grind.{div_ceil_times}
use Rattle.std.proofs.lemmas.List.{length-map}
use Rattle.std.proofs.lemmas.List.Elements.{All-nil, All-cons, All-head, All-tail, All-map}
use Rattle.std.proofs.lemmas.List.Quantifiers.{position-Some}
use Rattle.std.proofs.lemmas.Map.Views.{All-insert_key}
use Rattle.plan_base.specs.Snapshot.{most_requests}
use Rattle.plan_base.specs.declared.number.Sec.{Sec}
use Rattle.plan_base.specs.declared.number.TargetNo.{TargetNo}
use Rattle.plan_json.specs.Ranges.{IsBetween}
use Rattle.request_model.specs.Ranges.{IsGroup}
use Rattle.request_model.specs.declared.group.GroupDoc.{GroupDoc}
use Rattle.request_model.specs.declared.request.ConfigDoc.{ConfigDoc}
use Rattle.site_model.specs.Names.{is_name, number_of}
use Rattle.desk_runs.specs.declared.group.Group.{Group}
use Rattle.desk_runs.specs.Adding.{requests_from}
use Rattle.desk_core.specs.declared.desk.Submitted.{Submitted}
use Rattle.desk_core.specs.declared.desk.Wanted.{Wanted}
use Rattle.desk_core.specs.Desk.{DeskSeen}
use Rattle.desk_core.specs.Kept.{IsWanted, LastsADay, IsAlong}
use Rattle.desk_core.specs.Targets.{numbers_of, targets_of}
use Rattle.desk_core.specs.Asking.{MadeSeen}
use Rattle.desk_core.specs.Submitting.{targets_with, value_of, wanted_of, asks_of, op_of, group_of, submitted_of}
use Rattle.desk_core.specs.Making.{IsMade, AreMade}
use Rattle.desk_core.proofs.Drafts.{added_count}

-- ---- targets

numbers_all : (P : ℕ → Type 0) (f : ConfigDoc → Option ℕ) (cs : List ConfigDoc) → ((c : ConfigDoc) (n : ℕ) → f c ≡ Some n → P n) → All P (filter_map f cs)
numbers_all P f [] h = All-nil P
numbers_all P f (c ∷ cs) h = by (f c) refl (numbers_all P f cs h)
  where
    by : (o : Option ℕ) → f c ≡ o → All P (filter_map f cs) → All P (cons_option o (filter_map f cs))
    by None e rest = rest
    by (Some n) e rest = All-cons P n (filter_map f cs) (h c n e) rest

put_all : (P : ℕ → Type 0) (ks ns : List ℕ) → All P ks → All P ns → All P (fold (insert_key nat_cmp) ks ns)
put_all P ks [] a h = a
put_all P ks (n ∷ ns) a h = put_all P (insert_key nat_cmp ks n) ns (All-insert_key nat_cmp n P ks a (All-head P n ns h)) (All-tail P n ns h)

-- the numbers of targets are among those that there are
numbers_within : (targets : List (List ℕ)) (cs : List ConfigDoc) → All (λ n. n < length targets) (numbers_of targets cs)
numbers_within targets cs =
    put_all (λ n. n < length targets) [] (filter_map (λ c. number_of targets c.target) cs) (All-nil (λ n. n < length targets))
    (numbers_all (λ n. n < length targets) (λ c. number_of targets c.target) cs (λ c n e. (position-Some (is_name c.target) targets n [] e).0))

insert_few : (ks : List ℕ) (k : ℕ) → length (insert_key nat_cmp ks k) ≤ length ks + 1
insert_few [] k = omega arith
insert_few (x ∷ xs) k = by (nat_cmp k x) (insert_few xs k)
  where
    by : (o : Ordering) → length (insert_key nat_cmp xs k) ≤ length xs + 1
        → length (match_ordering o (k ∷ x ∷ xs) (x ∷ xs) (x ∷ insert_key nat_cmp xs k)) ≤ suc (length xs) + 1
    by Less rest = omega arith
    by Equal rest = omega arith
    by Greater rest = omega arith

put_few : (ks ns : List ℕ) → length (fold (insert_key nat_cmp) ks ns) ≤ length ks + length ns
put_few ks [] = omega arith
put_few ks (n ∷ ns) = let rest = put_few (insert_key nat_cmp ks n) ns in let one = insert_few ks n in omega (arith, rest, one)

found_few : (f : ConfigDoc → Option ℕ) (cs : List ConfigDoc) → length (filter_map f cs) ≤ length cs
found_few f [] = omega arith
found_few f (c ∷ cs) = by (f c) (found_few f cs)
  where
    by : (o : Option ℕ) → length (filter_map f cs) ≤ length cs → length (cons_option o (filter_map f cs)) ≤ suc (length cs)
    by None rest = omega arith
    by (Some n) rest = omega arith

numbers_few : (targets : List (List ℕ)) (cs : List ConfigDoc) → length (numbers_of targets cs) ≤ length cs
numbers_few targets cs =
    let all = put_few [] (filter_map (λ c. number_of targets c.target) cs) in
    let some = found_few (λ c. number_of targets c.target) cs in
    omega (arith, all, some)

-- ---- what is wanted

product_least : (a b : ℕ) → 1 ≤ a → 1 ≤ b → 1 ≤ a * b
product_least zero b h k = absurd (omega arith)
product_least (suc a) zero h k = absurd (omega arith)
product_least (suc a) (suc b) h k = omega arith

product_most : (a b c d : ℕ) → a ≤ b → c ≤ d → a * c ≤ b * d
product_most a b c d h k = mul-le-mul h k

value_between : (document : GroupDoc) (seconds : ℕ) → IsGroup document → IsBetween 1 86400 seconds → IsBetween 1 288000000 (value_of document seconds)
value_between document seconds h s =
    let bounds = div_ceil_times seconds 60 (omega arith) in
    let below : seconds ≤ (seconds / 60 + min 1 (seconds % 60)) * 60 = bounds.0 in
    let above : (seconds / 60 + min 1 (seconds % 60)) * 60 < seconds + 60 = bounds.1 in
    let least : 1 ≤ div_ceil seconds 60 = omega (arith, below, s.low) in
    let most : div_ceil seconds 60 ≤ 1440 = omega (arith, above, s.high) in
    let first = product_most document.priority 100 document.ipp 2000 h.rank.high h.share.high in
    record {
      low = product_least (document.priority * document.ipp) (div_ceil seconds 60)
          (product_least document.priority document.ipp h.rank.low (omega (arith, h.share.low))) least;
      high = product_most (document.priority * document.ipp) (100 * 2000) (div_ceil seconds 60) 1440 first most;
    }

is_wanted : (now : Sec) (targets : List (List ℕ)) (document : GroupDoc) (m : MadeSeen) → IsGroup document → IsMade now m
    → IsWanted (length targets) (wanted_of targets document m)
is_wanted now targets document m g h =
    let cs : List ConfigDoc = m.asked.configurations in
    let few = numbers_few targets cs in
    let count : length (targets_of targets cs) ≡ length (numbers_of targets cs) =
    length-map (numbers_of targets cs) (λ n. let t : TargetNo = record { 0 = n } in t) in
    record {
      place = h.asked.place;
      type = h.asked.type;
      least = h.asked.least;
      lost = h.asked.lost;
      worth = value_between document m.seconds g h.seconds;
      times = h.windows;
      few = omega (arith, few, count, h.asked.taken.count.high);
      known = All-map (λ t. t.0 < length targets) (λ n. let t : TargetNo = record { 0 = n } in t) (numbers_of targets cs) (numbers_within targets cs);
    }

all_wanted : (now : Sec) (targets : List (List ℕ)) (document : GroupDoc) (made : List MadeSeen) → IsGroup document → All (IsMade now) made
    → All (IsWanted (length targets)) (map (wanted_of targets document) made)
all_wanted now targets document made g h =
    All-map (IsWanted (length targets)) (wanted_of targets document) made (λ i m l. is_wanted now targets document (get_or made i m) g (h i m l))

all_asked : (n : ℕ) (now : Sec) (made : List MadeSeen) → All (IsMade now) made → All LastsADay (requests_from n (asks_of made))
all_asked n now [] h = All-nil LastsADay
all_asked n now (m ∷ ms) h = All-cons LastsADay _ (requests_from (n + 1) (asks_of ms)) (All-head (IsMade now) m ms h).seconds
    (all_asked (n + 1) now ms (All-tail (IsMade now) m ms h))

pub more_targets : (a b : ℕ) (w : Submitted) (g : Group) → a ≤ b → IsAlong a w g → IsAlong b w g
more_targets a b w g most h = record {
  document = h.document;
  count = h.count;
  shape = h.shape;
  wanted = λ i q l. wider (get_or w.requests i q) (h.wanted i q l);
  asked = h.asked;
}
  where
    wider : (q : Wanted) → IsWanted a q → IsWanted b q
    wider q k = record {
      place = k.place;
      type = k.type;
      least = k.least;
      lost = k.lost;
      worth = k.worth;
      times = k.times;
      few = k.few;
      known = λ i t l. let low = k.known i t l in omega (arith, low, most);
    }

pub is_along : (d : DeskSeen) (document : GroupDoc) (made : List MadeSeen) → IsGroup document → AreMade d.progress.moment document made
    → IsAlong (length (targets_with d document)) (submitted_of d document made) (group_of d document made)
is_along d document made g h =
    let count : length (group_of d document made).requests ≡ length made = added_count (op_of document made) made d.progress in
    record {
      document = g;
      count = length-map made (wanted_of (targets_with d document) document) ∙ sym count;
      shape = subst (λ (n : ℕ). IsBetween 1 (most_requests (op_of document made)) n) (sym count) h.shape;
      wanted = all_wanted d.progress.moment (targets_with d document) document made g h.each;
      asked = all_asked _ d.progress.moment made h.each;
    }
