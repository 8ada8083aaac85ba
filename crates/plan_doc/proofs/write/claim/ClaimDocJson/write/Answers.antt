use Rattle.plan_doc.proofs.write.claim.ClaimDocJson.write.Goals as goal

pub returns : goal.returns
returns c = rw (c.format_given-format.ensures, c.prices_given-quota_prices.ensures) at c.write.ensures
