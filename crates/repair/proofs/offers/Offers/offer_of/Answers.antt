use Rattle.std.proofs.Common.{sym}
use Rattle.repair.proofs.Valued.{offer_known}
use Rattle.repair.proofs.offers.Offers.offer_of.Goals as goal

pub returns : goal.returns
returns c =
    offer_known c.args.snapshot.now c.args.self.now.by_place.items c.args.request.0 c.place_of.result c.index.result.now c.requires.offers.by_place
    c.requires.known c.place_of.ensures.value (sym c.index.ensures)
