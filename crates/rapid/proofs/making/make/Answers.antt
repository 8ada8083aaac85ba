use Rattle.rapid.proofs.Refusals.{accepted_single}
use Rattle.rapid.proofs.making.make.Goals as goal

pub place_and_price-requires-clause-extended : goal.place_and_price-requires-clause-extended
place_and_price-requires-clause-extended c = record {
  group = c.args.group;
  single = accepted_single c.args.snapshot.now c.args.group c.in_ok-extended.ensures.accepted;
  whole = c.in_ok-extended.ensures.ok;
}

pub returns : goal.returns
returns c = record {
  tables = c.in_ok-priced.ensures.tables;
  ok = c.in_ok-priced.ensures.made c.args.group (accepted_single c.args.snapshot.now c.args.group c.in_ok-extended.ensures.accepted)
      c.in_ok-extended.ensures.ok;
  accepted = c.in_ok-extended.ensures.accepted;
  err = tt;
}
