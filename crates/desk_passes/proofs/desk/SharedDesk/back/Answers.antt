use Rattle.std.proofs.Common.{◌∙◌, ap, arith}
use Rattle.desk_passes.specs.Plays.{Seated}
use Rattle.desk_passes.proofs.Steps.{joins_pass, root_looks}
use Rattle.desk_passes.proofs.Known.{got_own, got_rest}
use Rattle.desk_passes.proofs.desk.SharedDesk.back.Goals as goal

pub join_seat-requires : goal.join_seat-requires
join_seat-requires c = (
  c.requires.root,
  c.requires.pass,
  c.args.pass.no_slot,
  omega (arith, c.args.self.now.two_words),
  λ s h at ne there.
      joins_pass c.args.self.now.table.shared.key s c.args.root.now.inner.id c.args.pass.inner.id c.args.pass.caller c.args.root.now.inner.me.0
      c.args.pass.inner.me.0 c.args.root.now.first
      c.args.pass.mine c.args.pass.no_turn c.args.root.now.looked h at ne there,
)

pub load-requires : goal.load-requires
load-requires c =
    let joined = c.join_seat.ensures in
    let seat = c.join_seat.new.seat in (
      joined.0 ∙ c.requires.root,
      omega (arith, c.args.self.now.two_words),
      λ s h _ at _.
          root_looks c.args.self.now.table.shared.key s seat.id seat.me h at (joined.1 ∙ c.args.root.now.first)
          (ap (λ (me : Seated). me.0.turn) joined.2 ∙ c.args.root.now.no_turn),
    )

pub returns-clause-own : goal.returns-clause-own
returns-clause-own c caller mine =
    got_own c.join_seat.new.seat.me c.load.new.seat.me c.args.root.now.inner.me.0 c.args.pass.inner.me.0 c.load.result caller
    (ap (λ (me : Seated). me.0) c.join_seat.ensures.2) mine c.load.ensures.2

pub returns-clause-rest : goal.returns-clause-rest
returns-clause-rest c other away differs =
    got_rest c.join_seat.new.seat.me c.load.new.seat.me c.args.root.now.inner.me.0 c.args.pass.inner.me.0 c.load.result c.args.pass.caller other
    (ap (λ (me : Seated). me.0) c.join_seat.ensures.2) c.args.pass.mine c.load.ensures.2 away differs
