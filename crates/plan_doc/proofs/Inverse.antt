-- Claims and snapshots from their documents, whatever the numbers: so a document has no second claim or snapshot.
use Rattle.std.proofs.Common.{◌≡◌, ℕ, ℤ, pos, negsuc, List, [], ◌∷◌, map, Bool, true, false, cond, nat_lt, Option, Some, None, option_map, unwrap_or}
use Rattle.std.proofs.Common.{option_and_then, get_or, refl, sym, ap, ap₂, ◌∙◌, arith}
use Rattle.std.proofs.lemmas.Bool.{ltb-false}
use Rattle.serde_json.specs.Data.{Data, string, Items, no_items, item}
use Rattle.serde_json.specs.Find.{get, as_number, as_u64, as_integer, as_str, as_array}
use Rattle.serde_json.specs.View.{items_of}
use Rattle.plan_base.specs.declared.number.TelescopeNo.{TelescopeNo}
use Rattle.plan_base.specs.declared.number.TargetNo.{TargetNo}
use Rattle.plan_base.specs.declared.span.Span.{Span}
use Rattle.plan_base.specs.declared.claim.Placement.{Placement}
use Rattle.plan_base.specs.declared.claim.Claim.{Claim}
use Rattle.plan_base.specs.declared.parts.Op.{Op}
use Rattle.plan_base.specs.declared.parts.Op.TheVariants.{Single, Many, OneOf, And}
use Rattle.plan_base.specs.declared.parts.TelescopePart.{TelescopePart}
use Rattle.plan_base.specs.declared.parts.Sky.{Sky}
use Rattle.plan_base.specs.declared.parts.RequestPart.{RequestPart}
use Rattle.plan_base.specs.declared.parts.GroupPart.{GroupPart}
use Rattle.plan_base.specs.declared.parts.Parts.{Parts}
use Rattle.plan_json.specs.declared.member.Member.{Member}
use Rattle.plan_json.specs.declared.member.Member.TheVariants as key
use Rattle.plan_json.specs.Member.{name_of}
use Rattle.plan_json.specs.Operator.{operator_name, operator_named}
use Rattle.plan_json.specs.Values.{whole, integer, list_of, given, given_if, object_of}
use Rattle.plan_doc.specs.Written.{placement_data, claim_data, span_data, telescope_number_data, target_number_data, telescope_data, sky_data}
use Rattle.plan_doc.specs.Written.{request_data, group_data, snapshot_data}

-- ---- values

abbrev whole_in : Option Data → ℕ
whole_in d = unwrap_or (option_and_then as_u64 (option_and_then as_number d)) 0

abbrev integer_in : Data → ℤ
integer_in d = unwrap_or (option_and_then as_integer (as_number d)) (pos 0)

abbrev each_in : {T : Type 0} → (Data → T) → Items → List T
each_in f no_items = []
each_in f (item d ds) = f d ∷ each_in f ds

abbrev list_in : {T : Type 0} → (Data → T) → Option Data → List T
list_in f d = each_in f (unwrap_or (option_and_then as_array d) no_items)

abbrev member_in : Member → Data → Option Data
member_in m d = get (name_of m) d

each_inverse : {T : Type 0} (f : Data → T) (g : T → Data) → ((x : T) → f (g x) ≡ x) → (xs : List T) → each_in f (items_of (map g xs)) ≡ xs
each_inverse f g h [] = refl
each_inverse f g h (x ∷ xs) = ap₂ (λ y ys. y ∷ ys) (h x) (each_inverse f g h xs)

price_inverse : (z : ℤ) → integer_in (integer z) ≡ z
price_inverse (pos n) = refl
price_inverse (negsuc n) = refl

abbrev number_in : Data → ℕ
number_in d = whole_in (Some d)

number_inverse : (n : ℕ) → number_in (whole n) ≡ n
number_inverse n = refl

-- ---- claims

abbrev placement_in : Data → Placement
placement_in d =
    let ns = list_in number_in (Some d) in
    record { request = record { 0 = get_or ns 0 0 }; telescope = record { 0 = get_or ns 1 0 }; slice = record { 0 = get_or ns 2 0 } }

placement_inverse : (p : Placement) → placement_in (placement_data p) ≡ p
placement_inverse p = refl

abbrev pub claim_in : Data → Claim
claim_in d = record {
  placements = list_in placement_in (member_in key.Placements d);
  prices = record { 0 = list_in integer_in (member_in key.Prices d) };
  quota_prices = record { 0 = list_in number_in (member_in key.QuotaPrices d) };
  value = whole_in (member_in key.Value d);
  bound = whole_in (member_in key.Bound d);
}

abbrev claim_made : List Placement → List ℤ → List ℕ → ℕ → ℕ → Claim
claim_made ps zs us v b = record { placements = ps; prices = record { 0 = zs }; quota_prices = record { 0 = us }; value = v; bound = b }

claim_inverse_by : (ps : List Placement) (zs : List ℤ) (us : List ℕ) (v b : ℕ) → claim_in (claim_data (claim_made ps zs us v b)) ≡ claim_made ps zs us v b
claim_inverse_by ps zs [] v b =
    ap₂ (λ (xs : List Placement) (ys : List ℤ). claim_made xs ys [] v b) (each_inverse placement_in placement_data placement_inverse ps)
    (each_inverse integer_in integer price_inverse zs)
claim_inverse_by ps zs (u ∷ us) v b =
    ap₂ (λ (xs : List Placement) (ys : List ℤ). claim_made xs ys (u ∷ each_in number_in (items_of (map whole us))) v b)
    (each_inverse placement_in placement_data placement_inverse ps) (each_inverse integer_in integer price_inverse zs)
    ∙ ap (λ (ws : List ℕ). claim_made ps zs (u ∷ ws) v b) (each_inverse number_in whole number_inverse us)

pub claim_inverse : (c : Claim) → claim_in (claim_data c) ≡ c
claim_inverse c = claim_inverse_by c.placements c.prices.0 c.quota_prices.0 c.value c.bound

-- claims with one document are the same
pub same_claim : (c d : Claim) → claim_data c ≡ claim_data d → c ≡ d
same_claim c d same = sym (claim_inverse c) ∙ ap claim_in same ∙ claim_inverse d

-- ---- snapshots

abbrev span_in : Data → Span
span_in d =
    let ns = list_in number_in (Some d) in
    record { from = record { 0 = get_or ns 0 0 }; to = record { 0 = get_or ns 1 0 } }

abbrev spans_in : Option Data → List Span
spans_in d = list_in span_in d

span_inverse : (w : Span) → span_in (span_data w) ≡ w
span_inverse w = refl

abbrev telescope_in : Data → TelescopePart
telescope_in d = record { site = record { 0 = whole_in (member_in key.Site d) }; usable = spans_in (member_in key.Usable d) }

telescope_inverse : (t : TelescopePart) → telescope_in (telescope_data t) ≡ t
telescope_inverse t = ap (λ (ws : List Span). record t { usable = ws }) (each_inverse span_in span_data span_inverse t.usable)

abbrev sky_in : Data → Sky
sky_in d = record {
  target = record { 0 = whole_in (member_in key.Target d) };
  site = record { 0 = whole_in (member_in key.Site d) };
  spans = spans_in (member_in key.Spans d);
}

sky_inverse : (y : Sky) → sky_in (sky_data y) ≡ y
sky_inverse y = ap (λ (ws : List Span). record y { spans = ws }) (each_inverse span_in span_data span_inverse y.spans)

abbrev telescope_number_in : Data → TelescopeNo
telescope_number_in d = record { 0 = number_in d }

telescope_number_inverse : (t : TelescopeNo) → telescope_number_in (telescope_number_data t) ≡ t
telescope_number_inverse t = refl

abbrev target_number_in : Data → TargetNo
target_number_in d = record { 0 = number_in d }

target_number_inverse : (t : TargetNo) → target_number_in (target_number_data t) ≡ t
target_number_inverse t = refl

abbrev request_in : Data → RequestPart
request_in d = record {
  request = record { 0 = whole_in (member_in key.Request d) };
  seconds = whole_in (member_in key.Seconds d);
  value = whole_in (member_in key.Value d);
  windows = spans_in (member_in key.Windows d);
  telescopes = list_in telescope_number_in (member_in key.Telescopes d);
  targets = list_in target_number_in (member_in key.Targets d);
  fade = whole_in (member_in key.Fade d);
}

-- the document of a request, where b tells whether a fade is written
abbrev request_data_by : RequestPart → Bool → Data
request_data_by q b =
    object_of
    (given key.Request (whole q.request.0) ∷ given key.Seconds (whole q.seconds) ∷ given key.Value (whole q.value)
    ∷ given key.Telescopes (list_of telescope_number_data q.telescopes) ∷ given key.Targets (list_of target_number_data q.targets)
    ∷ given key.Windows (list_of span_data q.windows) ∷ given_if key.Fade (option_map whole (cond b (Some q.fade) None)) ∷ [])

-- the lists of a request
abbrev with_lists : RequestPart → ℕ → List Span → List TelescopeNo → List TargetNo → RequestPart
with_lists q fade ws ts us = record q { windows = ws; telescopes = ts; targets = us; fade = fade }

lists_inverse : (q : RequestPart) (fade : ℕ)
    → with_lists q fade (each_in span_in (items_of (map span_data q.windows))) (each_in telescope_number_in (items_of (map telescope_number_data q.telescopes)))
    (each_in target_number_in (items_of (map target_number_data q.targets))) ≡ record q { fade = fade }
lists_inverse q fade =
    rw (
      each_inverse span_in span_data span_inverse q.windows,
      each_inverse telescope_number_in telescope_number_data telescope_number_inverse q.telescopes,
      each_inverse target_number_in target_number_data target_number_inverse q.targets,
    ) refl

request_inverse_by : (q : RequestPart) (b : Bool) → nat_lt 0 q.fade ≡ b → request_in (request_data_by q b) ≡ q
request_inverse_by q true above = lists_inverse q q.fade
request_inverse_by q false above =
    let none : 0 ≡ q.fade = omega (arith, ltb-false 0 q.fade above) in
    lists_inverse q 0 ∙ ap (λ (n : ℕ). record q { fade = n }) none

request_inverse : (q : RequestPart) → request_in (request_data q) ≡ q
request_inverse q = request_inverse_by q (nat_lt 0 q.fade) refl

abbrev operator_of : Option Data → Op
operator_of d = unwrap_or (option_and_then operator_named (option_and_then as_str d)) Single

operator_inverse : (op : Op) → operator_of (Some (string (operator_name op))) ≡ op
operator_inverse Single = refl
operator_inverse Many = refl
operator_inverse OneOf = refl
operator_inverse And = refl

abbrev group_in : Data → GroupPart
group_in d = record {
  group = record { 0 = whole_in (member_in key.Group d) };
  op = operator_of (member_in key.Operator d);
  requests = list_in request_in (member_in key.Requests d);
  quota = option_map number_in (member_in key.Quota d);
}

abbrev group_made : ℕ → Op → List RequestPart → Option ℕ → GroupPart
group_made n op qs quota = record { group = record { 0 = n }; op = op; requests = qs; quota = quota }

group_inverse_by : (n : ℕ) (op : Op) (qs : List RequestPart) (quota : Option ℕ) → group_in (group_data (group_made n op qs quota)) ≡ group_made n op qs quota
group_inverse_by n op qs None =
    ap₂ (λ (o : Op) (rs : List RequestPart). group_made n o rs None) (operator_inverse op) (each_inverse request_in request_data request_inverse qs)
group_inverse_by n op qs (Some place) =
    ap₂ (λ (o : Op) (rs : List RequestPart). group_made n o rs (Some place)) (operator_inverse op) (each_inverse request_in request_data request_inverse qs)

group_inverse : (x : GroupPart) → group_in (group_data x) ≡ x
group_inverse x = group_inverse_by x.group.0 x.op x.requests x.quota

abbrev pub snapshot_in : Data → Parts
snapshot_in d = record {
  version = whole_in (member_in key.Version d);
  len = whole_in (member_in key.Len d);
  first = record { 0 = whole_in (member_in key.First d) };
  slices = whole_in (member_in key.Slices d);
  telescopes = list_in telescope_in (member_in key.Telescopes d);
  skies = list_in sky_in (member_in key.Skies d);
  groups = list_in group_in (member_in key.Groups d);
  quotas = list_in number_in (member_in key.Quotas d);
}

-- the parts with these lists
abbrev with_parts : Parts → List ℕ → List TelescopePart → List Sky → List GroupPart → Parts
with_parts s us ts ys xs = record s { telescopes = ts; skies = ys; groups = xs; quotas = us }

parts_inverse : (s : Parts) (us : List ℕ)
    → with_parts s us (each_in telescope_in (items_of (map telescope_data s.telescopes))) (each_in sky_in (items_of (map sky_data s.skies)))
    (each_in group_in (items_of (map group_data s.groups))) ≡ record s { quotas = us }
parts_inverse s us =
    rw (
      each_inverse telescope_in telescope_data telescope_inverse s.telescopes,
      each_inverse sky_in sky_data sky_inverse s.skies,
      each_inverse group_in group_data group_inverse s.groups,
    ) refl

snapshot_inverse_by : (s : Parts) (us : List ℕ) → snapshot_in (snapshot_data (record s { quotas = us })) ≡ record s { quotas = us }
snapshot_inverse_by s [] = parts_inverse s []
snapshot_inverse_by s (u ∷ us) =
    parts_inverse s (u ∷ each_in number_in (items_of (map whole us)))
    ∙ ap (λ (ws : List ℕ). record s { quotas = u ∷ ws }) (each_inverse number_in whole number_inverse us)

pub snapshot_inverse : (s : Parts) → snapshot_in (snapshot_data s) ≡ s
snapshot_inverse s = snapshot_inverse_by s s.quotas

-- snapshots with one document are the same
pub same_snapshot : (s t : Parts) → snapshot_data s ≡ snapshot_data t → s ≡ t
same_snapshot s t same = sym (snapshot_inverse s) ∙ ap snapshot_in same ∙ snapshot_inverse t
