use Rattle.std.proofs.Common.{refl, length, arith}
use Rattle.std.proofs.lemmas.Grind.{elements}
use Rattle.std.proofs.lemmas.Bool.{both_ways}
use Rattle.rapid.specs.Held.{goes_by}
use Rattle.rapid.proofs.Qualifying.{places_within, sum_fits, loses, passes_quota, is_worth_it}
use Rattle.rapid.proofs.seeking.qualify.Goals as goal

pub strike_ands-requires : goal.strike_ands-requires
strike_ands-requires c = places_within c.args.snapshot.now c.args.held.now (length c.args.flags.now) c.requires.flags c.requires.stage.places

pub overflow_add-counted : goal.overflow_add-counted
overflow_add-counted c = sum_fits (goes_by c.strike_ands.new.flags c.held_of-new.result)
    (λ h. h.counted) c.args.held.now c.counted_kept.result c.held_of-new.result.counted c.counted_kept.ensures c.requires.stage.counts
    c.held_of-new.ensures.counted

pub returns-then-lost-new : goal.returns-then-lost-new
returns-then-lost-new c =
    loses c.args.snapshot.now c.args.held.now c.args.start c.recall_valid.ensures.orderly c.requires.stage
    (c.is_possible.ensures.0 c.if-not-is_possible.false) c.known_quota-quota.result c.held_of-new.result c.strike_ands.new.flags
    (length c.args.flags.now)
    c.known_quota-quota.ensures.value c.held_of-new.ensures.value c.requires.flags c.strike_ands.ensures c.worth_gone-lost.result
    c.worth_gone-lost.ensures c.if-lost-new.true

pub returns-then-not-is_within : goal.returns-then-not-is_within
returns-then-not-is_within c =
    passes_quota c.args.snapshot.now c.args.held.now c.args.start c.recall_valid.ensures.orderly c.requires.stage
    (c.is_possible.ensures.0 c.if-not-is_possible.false) c.known_quota-quota.result c.held_of-new.result c.strike_ands.new.flags
    (length c.args.flags.now)
    c.known_quota-quota.ensures.value c.held_of-new.ensures.value c.requires.flags c.strike_ands.ensures c.counted_kept.result c.counted_kept.ensures
    (λ within. both_ways c.is_within.result c.if-not-is_within.true (c.is_within.ensures.1 within))

pub returns : goal.returns
returns c =
    is_worth_it c.args.snapshot.now c.args.held.now c.args.start c.recall_valid.ensures.orderly c.requires.stage
    (c.is_possible.ensures.0 c.if-not-is_possible.false) c.known_quota-quota.result c.held_of-new.result c.strike_ands.new.flags
    (length c.args.flags.now)
    c.known_quota-quota.ensures.value c.held_of-new.ensures.value c.requires.flags c.strike_ands.ensures c.worth_gone-lost.result c.counted_kept.result _
    c.worth_gone-lost.ensures c.counted_kept.ensures c.if-lost-new.false (c.is_within.ensures.0 c.if-not-is_within.false) refl c.in_ok-gone.ensures
    c.in_ok-kept.ensures refl

pub returns-then-not-is_possible : goal.returns-then-not-is_possible
returns-then-not-is_possible c = grind (arith, elements)
