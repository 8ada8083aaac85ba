use Rattle.std.proofs.Common.{List, refl, sym, subst, arith}
use Rattle.std.proofs.lemmas.List.Elements.{same_from_all_zip}
use Rattle.plan_base.specs.declared.claim.Placement.{Placement}
use Rattle.rapid.specs.declared.making.Priced.{Priced}
use Rattle.rapid.specs.Tables.{AreTables}
use Rattle.rapid.specs.Inside.{IsMadeOf}
use Rattle.rapid.specs.Placing.{IsReady, IsPlacedSo}
use Rattle.rapid.proofs.Made.{some_listed, only_last, value_fits, the_last, ready, value_same, insertion}
use Rattle.rapid.proofs.making.place_and_price.Goals as goal

pub last_request-request-requires : goal.last_request-request-requires
last_request-request-requires c =
    some_listed c.args.before.now c.args.snapshot.now c.args.claim.now c.requires.extended.group c.requires.extended.single c.requires.extended.whole
    c.recall_valid.ensures.orderly c.recall_valid-2.ensures.orderly c.requires.certified

pub price-requires : goal.price-requires
price-requires c = record {
  group = c.requires.extended.group;
  single = c.requires.extended.single;
  only = only_last c.args.before.now c.args.snapshot.now c.args.claim.now c.requires.extended.group c.requires.extended.single
      c.requires.extended.whole c.recall_valid.ensures.orderly c.recall_valid-2.ensures.orderly c.requires.certified
      c.last_request-request.result.now c.last_request-request.ensures;
  whole = c.requires.extended.whole;
  certified = c.requires.certified;
  are_tables = c.requires.tables;
}

pub place-requires : goal.place-requires
place-requires c =
    subst (λ (xs : List Placement). IsReady c.args.snapshot.now xs c.last_request-request.result.now.request.0) (sym c.as_slice.ensures)
    (ready c.args.before.now c.args.snapshot.now c.args.claim.now c.requires.extended.group c.requires.extended.single c.requires.extended.whole
    c.recall_valid.ensures.orderly c.recall_valid-2.ensures.orderly c.requires.certified
    c.last_request-request.result.now
    (the_last c.args.before.now c.args.snapshot.now c.args.claim.now c.requires.extended.group c.requires.extended.single c.requires.extended.whole
    c.recall_valid.ensures.orderly c.recall_valid-2.ensures.orderly c.requires.certified
    c.last_request-request.result.now c.last_request-request.ensures))

pub joined-requires : goal.joined-requires
joined-requires c =
    let small = value_fits c.args.snapshot.now c.args.claim.now.placements c.last_request-request.result.now.request.0 c.args.claim.now.value
    c.in_ok-placing.placing c.value_limit.ensures
    (subst (λ (xs : List Placement). IsPlacedSo c.args.snapshot.now xs c.last_request-request.result.now.request.0 c.in_ok-placing.placing)
    c.as_slice.ensures c.in_ok-placing.ensures)
    (value_same c.args.before.now c.args.snapshot.now c.args.claim.now c.requires.extended.group c.requires.extended.single c.requires.extended.whole
    c.recall_valid.ensures.orderly c.recall_valid-2.ensures.orderly c.requires.certified)
    in
    omega arith

pub returns-clause-tables : goal.returns-clause-tables
returns-clause-tables c = subst (λ (priced : Priced). AreTables c.args.snapshot.now priced.claim.prices.0 priced.tables)
    (sym c.joined.ensures) c.in_ok-pricing.ensures.tables

pub returns-clause-made : goal.returns-clause-made
returns-clause-made c = λ group single whole.
    subst (IsMadeOf c.args.before.now c.args.claim.now group c.args.snapshot.now) (sym c.joined.ensures)
    (insertion c.args.before.now c.args.snapshot.now c.args.claim.now group single whole c.recall_valid.ensures.orderly
    c.recall_valid-2.ensures.orderly c.requires.certified c.last_request-request.result.now
    (the_last c.args.before.now c.args.snapshot.now c.args.claim.now group single whole c.recall_valid.ensures.orderly
    c.recall_valid-2.ensures.orderly c.requires.certified c.last_request-request.result.now c.last_request-request.ensures)
    c.in_ok-placing.placing c.in_ok-pricing.pricing _
    (subst (λ (xs : List Placement). IsPlacedSo c.args.snapshot.now xs c.last_request-request.result.now.request.0 c.in_ok-placing.placing)
    c.as_slice.ensures c.in_ok-placing.ensures) c.in_ok-pricing.ensures refl refl
    (same_from_all_zip _ c.args.claim.now.quota_prices.0 c.in_ok-quota_prices.quota_prices.0 c.in_ok-quota_prices.ensures.cases (λ x y same. same))
    refl refl)
