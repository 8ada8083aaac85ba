use Rattle.std.proofs.Common.{◌≡◌, None, subst}
use Rattle.rapid.specs.Standing.{Standing}
use Rattle.rapid.specs.Insertion.{IsInsertion}
use Rattle.rapid.specs.Refused.{refusal_of}
use Rattle.rapid.proofs.Standings.{insertion_from}
use Rattle.rapid.proofs.rapid.Rapid.insert.Goals as goal

pub make-requires-clause-certified : goal.make-requires-clause-certified
make-requires-clause-certified c = c.self.invariant.0

pub returns : goal.returns
returns c =
    let made = c.in_ok-made.made in
    let before : Standing = record { snapshot = c.self.inside.snapshot; claim = c.self.inside.claim; displaced = c.self.inside.displaced } in
    let after : Standing = record { snapshot = made.snapshot; claim = made.priced.claim; displaced = made.priced.displaced } in
    record {
      ok = subst (λ (standing : Standing). IsInsertion standing c.args.group made.priced.inserted after) c.self.view_is
          (insertion_from before after c.args.group made.priced.inserted c.in_ok-made.ensures.ok);
      accepted = subst (λ (standing : Standing). refusal_of standing.snapshot c.args.group ≡ None) c.self.view_is c.in_ok-made.ensures.accepted;
      err = tt;
      fault = tt;
    }
