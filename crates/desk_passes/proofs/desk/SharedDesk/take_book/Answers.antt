use Rattle.desk_passes.proofs.Known.{slot_held}
use Rattle.desk_passes.proofs.desk.SharedDesk.take_book.Goals as goal

pub exchange-requires : goal.exchange-requires
exchange-requires g c = (c.take_turn.ensures.desk, slot_held c.args.seat.now.me c.take_turn.new.seat.me c.take_turn.ensures.turn)
