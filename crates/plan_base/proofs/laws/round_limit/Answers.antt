use Rattle.plan_base.proofs.RoundPrices.{round_up_to, round_quota_in_range}
use Rattle.plan_base.proofs.laws.round_limit.Goals as goal

pub returns-clause-prices : goal.returns-clause-prices
returns-clause-prices c = λ lane round prices quota_prices is_round.
    round_up_to c.args.snapshot.now lane round prices quota_prices c.recall_valid.ensures.orderly is_round

pub returns-clause-quota_prices : goal.returns-clause-quota_prices
returns-clause-quota_prices c = λ lane round prices quota_prices is_round.
    round_quota_in_range c.args.snapshot.now lane round prices quota_prices is_round
