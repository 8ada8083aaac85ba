use Rattle.std.proofs.Common.{map}
use Rattle.desk_core.specs.Desk.{seen}
use Rattle.desk_core.specs.Asking.{seen_made}
use Rattle.desk_core.proofs.Makings.{made_are}
use Rattle.desk_core.proofs.desk.Desk.submit.Goals as goal

pub submit_made-requires-clause-made : goal.submit_made-requires-clause-made
submit_made-requires-clause-made c =
    made_are (seen c.args.self.now) c.args.document.now (map seen_made c.in_ok-made.made.items) c.requires.document c.in_ok-made.ensures.ok
