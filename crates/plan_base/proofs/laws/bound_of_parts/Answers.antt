use Rattle.std.proofs.Common.{refl}
use Rattle.plan_base.specs.Sums.{sum_of}
use Rattle.plan_base.proofs.laws.bound_of_parts.Goals as goal

pub returns : goal.returns
returns c = λ bests rebates quotas is_best is_rebate is_quota. record {
  bests = sum_of bests;
  rebates = sum_of rebates;
  quotas = sum_of quotas;
  best = record { parts = bests; count = is_best.count; each = is_best.each; sum = refl };
  rebate = record { parts = rebates; count = is_rebate.count; each = is_rebate.each; sum = refl };
  quota = record { parts = quotas; count = is_quota.count; each = is_quota.each; sum = refl };
  whole = refl;
}
