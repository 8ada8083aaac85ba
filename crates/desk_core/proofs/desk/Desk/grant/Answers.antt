use Rattle.std.proofs.Common.{refl, ap}
use Rattle.desk_events.specs.declared.refusal.Refusal.TheVariants.{NoSuchInstrument}
use Rattle.desk_core.specs.Desk.{seen}
use Rattle.desk_core.specs.Refusals.{refusal_in}
use Rattle.desk_core.specs.Registering.{instrument_lacks, accounts_refusal}
use Rattle.desk_core.proofs.Lacking.{lacking}
use Rattle.desk_core.proofs.desk.Desk.grant.Goals as goal

-- the instrument type isn't registered
pub returns-then-not-has_instrument_of : goal.returns-then-not-has_instrument_of
returns-then-not-has_instrument_of c = record {
  ok = tt;
  refused = λ _. (
    NoSuchInstrument 0,
    lacking (instrument_lacks (seen c.args.self.now) c.args.key.now) (NoSuchInstrument 0)
        (accounts_refusal (seen c.args.self.now) c.args.key.now) c.if-not-has_instrument_of.ensures,
    ap refusal_in c.into.ensures,
  );
  unchanged = refl;
}
