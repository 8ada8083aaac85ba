use Rattle.std.proofs.Common.{rules, ◌≡◌, ◌-◌, ◌+◌, ◌≤◌, ◌<◌, max, ℕ, List, length, take, length-take, ap, sym, subst, arith}
use Rattle.std.proofs.lemmas.Grind.{common_steps}
use Rattle.plan_io.specs.declared.lines.Turn.TheVariants as turn
use Rattle.plan_io.specs.Newline.{NoNewline}
use Rattle.plan_io.specs.LinesOf.{after_newline}
use Rattle.plan_io.specs.LinesSeen.{LinesSeen}
use Rattle.plan_io.specs.Next.{IsTurn}
use Rattle.plan_io.proofs.Cuts.{after_added}
use Rattle.plan_io.proofs.Turns.{read_over}
use Rattle.plan_io.proofs.lines.Lines.read_more.Goals as goal

pub returns-then-count-allowed-clause-turn : goal.returns-then-count-allowed-clause-turn
returns-then-count-allowed-clause-turn g c =
    let s = c.args.self.now in
    let n = c.in-Got.count in
    let held : c.make_room.new.self.bytes ≡ s.held = search rules in
    let size : c.read_size-size.result ≤ max 1 (s.most_bytes - s.taken) = search rules in
    let over : s.most_bytes - s.taken < n = search rules in
    let given : n ≤ length c.read_block.new.room = search rules in
    let is = ap (λ (v : LinesSeen). record v { held = c.make_room.new.self.bytes; taken = v.taken + n }) c.self.view_is in
    subst (λ (t : LinesSeen). IsTurn s (g.S.Source.left c.args.source.now) t (g.S.Source.left c.read_block.new.source) turn.Over) (sym is)
    (read_over s c.make_room.new.self.bytes c.read_block.new.room n c.read_size-size.result _ _ c.requires.within c.requires.clear c.requires.steady
    c.requires.open held c.in-Got.ensures.bytes.0 size over given c.in-Got.ensures.bytes.1)

pub returns-then-self-clause-turn : goal.returns-then-self-clause-turn
returns-then-self-clause-turn g c = grind (arith, common_steps)

pub returns-else-self-clause-turn : goal.returns-else-self-clause-turn
returns-else-self-clause-turn g c = grind (arith, common_steps)

pub returns-else-self-clause-ahead : goal.returns-else-self-clause-ahead
returns-else-self-clause-ahead g c =
    let held : c.make_room.new.self.bytes ≡ c.args.self.now.held = search rules in
    let clear : NoNewline c.make_room.new.self.bytes = subst NoNewline (sym held) c.requires.clear in
    let block = take c.in-Got.count c.as_slice.result.now in
    let size : length block ≤ 65536 =
    omega (arith, length-take c.in-Got.count c.as_slice.result.now, c.in-Got.ensures.bytes.0, c.read_size-size.ensures.room) in
    λ _. subst (λ (xs : List ℕ). length (after_newline xs) < 65536) (sym c.add.ensures)
    (after_added c.make_room.new.self.bytes block 65536 clear (omega arith) size)
