-- What becomes of tables and bound where a snapshot has one more request.
use Rattle.std.proofs.Common.{◌≡◌, ℕ, ◌+◌, ◌-◌, ◌<◌, ◌≤◌, Bool, ℤ, pos, ◌+ℤ◌, ◌-ℤ◌, ◌≤ℤ◌, List, [], ◌∷◌, ◌++◌, length, length-append, All, sym, ◌∙◌}
use Rattle.std.proofs.Common.{ap, subst, arith}
use Rattle.std.proofs.lemmas.Int.{ints}
use Rattle.std.proofs.lemmas.List.Elements.{All-push}
use Rattle.plan_base.specs.declared.parts.Parts.{Parts}
use Rattle.plan_base.specs.declared.parts.RequestPart.{RequestPart}
use Rattle.plan_base.specs.Sums.{IsSumOf}
use Rattle.plan_base.specs.Requests.{Listed, listed, IsKnown, request_value}
use Rattle.plan_base.specs.Snapshot.{IsOrderly}
use Rattle.plan_base.specs.Tables.{entry, row}
use Rattle.plan_base.specs.Bound.{IsBest, net_price, IsRebate, IsBound}
use Rattle.plan_base.specs.Verdict.{IsPriceInRange}
use Rattle.plan_base.proofs.Known.{known_or_is, value_at_most}
use Rattle.bound_checker.specs.declared.worth.Offer.{Offer}
use Rattle.bound_checker.specs.Summed.{IsPartSum}
use Rattle.bound_checker.specs.Tables.{IsEntry}
use Rattle.openings.specs.Openings.{IsOpenRow, IsOfferOf}
use Rattle.bound_checker.proofs.Summing.{rebate_between}
use Rattle.rapid.specs.declared.tables.Extension.{Extension}
use Rattle.rapid.specs.Insertion.{with_group}
use Rattle.rapid.specs.Tables.{IsTableOf, IsPriceable, AreMorePrices, IsEnough}
use Rattle.rapid.proofs.Newest.{count_newest, newest_known, newest_as}
use Rattle.rapid.proofs.Staying.{enough_for, table_kept}
use Rattle.rapid.proofs.Tabled.{entries_between}
use Rattle.rapid.proofs.Bounds.{bound_more}

module _ (x : Extension) (h : IsPriceable x) (ob : IsOrderly x.before.now) (oa : IsOrderly x.snapshot.now) where
  abbrev before : Parts
  before = x.before.now

  abbrev after : Parts
  after = with_group before h.group

  abbrev q : RequestPart
  q = x.request.now

  abbrev cs : List ℤ
  cs = x.claim.now.prices.0

  orderly : IsOrderly after
  orderly = subst IsOrderly h.whole oa

  -- the new group stands at the last place
  last_place : length x.snapshot.now.groups - 1 ≡ length before.groups
  last_place =
      let whole : length x.snapshot.now.groups ≡ length (before.groups ++ h.group ∷ []) = ap (λ (s : Parts). length s.groups) h.whole in
      let more : length (before.groups ++ h.group ∷ []) ≡ length before.groups + 1 = length-append before.groups (h.group ∷ []) in
      omega arith

  abbrev newest : Listed
  newest = record { group = length before.groups; quota = h.group.quota; request = q }

  -- the request has a value in its range
  pub value_most : q.value ≤ 288000000
  value_most =
      let known : IsKnown after q.request.0 = newest_known before h.group q h.only orderly in
      let value : request_value after q.request.0 ≡ q.value =
      known_or_is (λ x. x.request.value) 0 after q.request.0 newest known (newest_as before h.group q h.only orderly) in
      let most : request_value after q.request.0 ≤ 288000000 = value_at_most after q.request.0 orderly known in
      omega arith

  pub request_known : IsKnown x.snapshot.now q.request.0
  request_known = subst (λ (s : Parts). IsKnown s q.request.0) (sym h.whole) (newest_known before h.group q h.only orderly)

  telescopes_same : length before.telescopes ≡ length x.snapshot.now.telescopes
  telescopes_same = sym (ap (λ (s : Parts). length s.telescopes) h.whole)

  pub tables_count : length x.tables.now ≡ length x.snapshot.now.telescopes
  tables_count = h.are_tables.count ∙ telescopes_same

  pub table_entries : (t : ℕ) → t < length x.snapshot.now.telescopes → All IsEntry (row x.tables.now t)
  table_entries t l = entries_between before cs t ob (row x.tables.now t)
      (h.are_tables.each t (let same = telescopes_same in omega arith)) h.certified.price_range

  module _ (price : ℤ) (prices : List ℤ) (more : AreMorePrices x.claim.now price prices) where
    pub count_more : length prices ≡ length (listed x.snapshot.now)
    count_more =
        let old : length cs ≡ length (listed before) = h.certified.price_count in
        let new : length (listed after) ≡ length (listed before) + 1 = count_newest before h.group q h.only orderly in
        let same : length (listed x.snapshot.now) ≡ length (listed after) = ap (λ (s : Parts). length (listed s)) h.whole in
        let whole : length prices ≡ length (cs ++ price ∷ []) = ap length more.whole in
        let one : length (cs ++ price ∷ []) ≡ length cs + 1 = length-append cs (price ∷ []) in
        omega arith

    pub range_more : All IsPriceInRange prices
    range_more = subst (All IsPriceInRange) (sym more.whole) (All-push IsPriceInRange cs price h.certified.price_range more.range)

    -- a table stays where the starts of the request give no more than it has
    pub table_stays : (t : ℕ) → t < length x.snapshot.now.telescopes → (o : Offer) (flags : List Bool) → IsOfferOf x.snapshot.now prices q.request.0 o
        → IsOpenRow x.snapshot.now t q.request.0 flags → IsEnough o x.snapshot.now.first.0 flags (row x.tables.now t)
        → IsTableOf x.snapshot.now prices t (row x.tables.now t)
    table_stays t l o flags offer open_row enough =
        let table : List ℤ = row x.tables.now t in
        let below : t < length before.telescopes = (let same = telescopes_same in omega arith) in
        let old : IsTableOf before cs t table = h.are_tables.each t below in
        let offers : IsOfferOf after (cs ++ price ∷ []) q.request.0 o =
        subst (λ (ps : List ℤ). IsOfferOf after ps q.request.0 o) more.whole (subst (λ (s : Parts). IsOfferOf s prices q.request.0 o) h.whole offer)
        in
        let flagged : IsOpenRow after t q.request.0 flags = subst (λ (s : Parts). IsOpenRow s t q.request.0 flags) h.whole open_row in
        let most : IsEnough o before.first.0 flags table = subst (λ (s : Parts). IsEnough o s.first.0 flags table) h.whole enough in
        let kept : IsTableOf after (cs ++ price ∷ []) t table = record {
          count = old.count;
          from_slices = table_kept before h.group q h.only orderly cs price h.certified.price_count t (λ k. entry table (k - before.first.0))
              (enough_for after (cs ++ price ∷ []) t q.request.0 o flags table offers flagged most) old.from_slices;
        } in
        subst (λ (s : Parts). IsTableOf s prices t table) (sym h.whole) (subst (λ (ps : List ℤ). IsTableOf after ps t table) (sym more.whole) kept)

    abbrev net : ℕ → ℤ
    net = net_price x.snapshot.now prices x.claim.now.quota_prices.0

    pub rebate_part : (g : ℕ) (rebate : ℤ) → IsRebate x.snapshot.now net g rebate → IsPartSum rebate
    rebate_part g rebate gives =
        let range = rebate_between x.snapshot.now prices x.claim.now.quota_prices.0 g rebate oa range_more h.certified.quota_price_range gives in
        let most : rebate ≤ℤ pos 1024000000000000 = range.1 in
        (range.0, omega (arith, ints))

    -- the bound with other bests and the rebate of the last of the groups
    pub bound_is : (groups : ℕ) → groups ≡ length x.snapshot.now.groups → (old new rebate : ℤ)
        → IsSumOf (length before.telescopes) (λ t. IsBest before cs t before.first.0) old
        → IsSumOf (length x.snapshot.now.telescopes) (λ t. IsBest x.snapshot.now prices t x.snapshot.now.first.0) new
        → IsRebate x.snapshot.now net (groups - 1) rebate
        → IsBound x.snapshot.now prices x.claim.now.quota_prices.0 (pos x.claim.now.bound -ℤ old +ℤ new +ℤ rebate)
    bound_is groups all old new rebate olds news gives =
        let us : List ℕ = x.claim.now.quota_prices.0 in
        let there : IsSumOf (length before.telescopes) (λ t. IsBest after (cs ++ price ∷ []) t before.first.0) new =
        subst (λ (ps : List ℤ). IsSumOf (length before.telescopes) (λ t. IsBest after ps t before.first.0) new) more.whole
        (subst (λ (s : Parts). IsSumOf (length s.telescopes) (λ t. IsBest s prices t s.first.0) new) h.whole news)
        in
        let part : IsRebate after (net_price after (cs ++ price ∷ []) us) (length before.groups) rebate =
        subst (λ (ps : List ℤ). IsRebate after (net_price after ps us) (length before.groups) rebate) more.whole
        (subst (λ (s : Parts). IsRebate s (net_price s prices us) (length before.groups) rebate) h.whole
        (subst (λ (g : ℕ). IsRebate x.snapshot.now (net_price x.snapshot.now prices us) g rebate) (ap (λ (n : ℕ). n - 1) all ∙ last_place) gives))
        in
        let whole = bound_more before h.group q h.only ob orderly cs price h.certified.price_count us
        (pos x.claim.now.bound) old new rebate h.certified.bound olds there part in
        subst (λ (s : Parts). IsBound s prices us (pos x.claim.now.bound -ℤ old +ℤ new +ℤ rebate)) (sym h.whole)
        (subst (λ (ps : List ℤ). IsBound after ps us (pos x.claim.now.bound -ℤ old +ℤ new +ℤ rebate)) (sym more.whole) whole)
