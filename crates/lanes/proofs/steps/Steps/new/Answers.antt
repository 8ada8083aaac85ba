use Rattle.std.proofs.Common.{length, ◌+◌, ◌∙◌, ap}
use Rattle.plan_base.specs.declared.parts.Parts.{Parts}
use Rattle.repair.specs.Repairing.{Repairing}
use Rattle.lanes.proofs.steps.Steps.new.Goals as goal

pub invariant_of-result : goal.invariant_of-result
invariant_of-result g c = (
  record {
    some = c.requires.lanes.0;
    few = c.requires.lanes.1;
    rows = c.requires.rows;
    lanes_count = c.in_ok-lanes_of.ensures.count;
    lanes = c.in_ok-lanes_of.ensures.lanes;
    uses_count = c.in_ok-uses_of.ensures.count;
    uses = λ i d l. (c.in_ok-uses_of.ensures.empty i d l).roomy;
    bound_parts = c.in_ok-new.ensures;
    repairing = ap (λ (r : Repairing). r.snapshot) c.in_ok-new-2.ensures;
    greatest = c.greatest_value.ensures;
  },
  record {
    prices_count = c.in_ok-zero_table.ensures.count ∙ c.request_count.ensures.value;
    prices_lanes = λ i d l. (c.in_ok-zero_table.ensures.entries i d l).count;
    entries_count = c.in_ok-zero_table-2.ensures.count ∙ ap (λ (p : Parts). p.slices + 1) c.parts-2.ensures.value;
    entries = c.in_ok-zero_table-2.ensures.entries;
    bests_count = c.in_ok-zero_table-3.ensures.count ∙ c.len-telescopes.ensures ∙ ap (λ (p : Parts). length p.telescopes) c.parts.ensures.value;
    bests_lanes = λ i d l. (c.in_ok-zero_table-3.ensures.entries i d l).count;
  },
)
