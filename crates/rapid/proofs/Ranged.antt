-- A snapshot with one more group has its numbers in their ranges where the group has.
use Rattle.std.proofs.Common.{◌≡◌, ◌+◌, ◌≤◌, List, [], ◌∷◌, ◌++◌, length, map, All, sym, ◌∙◌, ap, subst, length-append, arith}
use Rattle.std.specs.List.{flat_map}
use Rattle.std.proofs.lemmas.Grind.{flat_map-append}
use Rattle.std.proofs.lemmas.List.{get_or_append_left, get_or-append-add}
use Rattle.std.proofs.lemmas.List.Elements.{All-nil, All-append, All-map}
use Rattle.plan_base.specs.declared.parts.Parts.{Parts}
use Rattle.plan_base.specs.declared.parts.GroupPart.{GroupPart}
use Rattle.plan_base.specs.declared.parts.RequestPart.{RequestPart}
use Rattle.plan_base.specs.declared.span.Span.{Span}
use Rattle.plan_base.specs.Requests.{Listed, listed_from, listed}
use Rattle.plan_base.specs.Snapshot.{IsMoment, IsInRanges, all_spans}
use Rattle.plan_base.proofs.Lists.{all_flat}
use Rattle.rapid.specs.Insertion.{with_group}
use Rattle.rapid.specs.Refused.{IsGroupInRanges}
use Rattle.rapid.proofs.Appended.{listed_after}

-- what holds of all of two lists holds of all of each
pub all_left : {X : Type 0} (P : X → Type 0) (xs ys : List X) → All P (xs ++ ys) → All P xs
all_left P xs ys all i d l = let count : length (xs ++ ys) ≡ length xs + length ys = length-append xs ys in
    subst P (get_or_append_left xs ys d i l) (all i d (omega arith))

pub all_right : {X : Type 0} (P : X → Type 0) (xs ys : List X) → All P (xs ++ ys) → All P ys
all_right P xs ys all i d l = let count : length (xs ++ ys) ≡ length xs + length ys = length-append xs ys in
    subst P (get_or-append-add xs ys i d) (all (length xs + i) d (omega arith))

module _ (s : Parts) (group : GroupPart) (ranges : IsInRanges s) (of_group : IsGroupInRanges group) where
  abbrev more : List Listed
  more = listed_from (length s.groups) (group ∷ [])

  -- what holds of the group's requests holds of those that are listed anew
  listed_new : (P : RequestPart → Type 0) → All P group.requests → All (λ x. P x.request) more
  listed_new P a = All-append (λ x. P x.request) (map (λ q. record { group = length s.groups; quota = group.quota; request = q }) group.requests) []
      (All-map (λ x. P x.request) (λ q. record { group = length s.groups; quota = group.quota; request = q }) group.requests a) (All-nil (λ x. P x.request))

  listed_both : (P : RequestPart → Type 0) → All (λ x. P x.request) (listed s) → All P group.requests → All (λ x. P x.request) (listed (with_group s group))
  listed_both P a b = subst (λ (xs : List Listed). All (λ x. P x.request) xs) (sym (listed_after s group))
      (All-append (λ x. P x.request) (listed s) more a (listed_new P b))

  abbrev others : List Span
  others = flat_map (λ t. t.usable) s.telescopes ++ flat_map (λ y. y.spans) s.skies

  abbrev windows : List Listed → List Span
  windows xs = flat_map (λ x. x.request.windows) xs

  abbrev IsTimed : Span → Type 0
  IsTimed w = IsMoment w.from.0 × IsMoment w.to.0

  moments : All IsTimed (all_spans (with_group s group))
  moments = All-append IsTimed others (windows (listed (with_group s group))) (all_left IsTimed others (windows (listed s)) ranges.moments)
      (subst (λ (ws : List Span). All IsTimed ws) (sym (ap windows (listed_after s group) ∙ flat_map-append (λ x. x.request.windows) (listed s) more))
      (All-append IsTimed (windows (listed s)) (windows more) (all_right IsTimed others (windows (listed s)) ranges.moments)
      (all_flat IsTimed (λ x. x.request.windows) more (listed_new (λ q. All IsTimed q.windows) of_group.moments))))

  pub ranges_more : IsInRanges (with_group s group)
  ranges_more = record {
    version = ranges.version;
    len_least = ranges.len_least;
    len_most = ranges.len_most;
    first = ranges.first;
    slices_least = ranges.slices_least;
    slices_most = ranges.slices_most;
    seconds = listed_both (λ q. (1 ≤ q.seconds) × (q.seconds ≤ 86400)) ranges.seconds of_group.seconds;
    values = listed_both (λ q. (1 ≤ q.value) × (q.value ≤ 288000000)) ranges.values of_group.values;
    moments = moments;
  }

-- parts to whose groups the group was added
pub built_is : (s parts : Parts) (group : GroupPart) (groups : List GroupPart) → parts ≡ s → groups ≡ parts.groups ++ group ∷ []
    → record parts { groups = groups } ≡ with_group s group
built_is s parts group groups e f = ap (λ (gs : List GroupPart). record parts { groups = gs }) f ∙ ap (λ (x : Parts). with_group x group) e
