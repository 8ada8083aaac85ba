use Rattle.std.proofs.Common.{◌∙◌, ap, sym, refl, ◌<◌, ◌-◌, length, not, ◌&&◌, arith}
use Rattle.desk_core.specs.Desk.{seen}
use Rattle.std.specs.List.{list_any}
use Rattle.desk_runs.specs.Clock.{is_waiting}
use Rattle.desk_core.specs.DeskSnapshot.{both_of}
use Rattle.desk_core.proofs.SnapshotListing.{group_at, along_at, both_many, listed_from}
use Rattle.desk_core.proofs.desk.Desk.is_listed.Goals as goal

pub returns-then-not-is_blocked : goal.returns-then-not-is_blocked
returns-then-not-is_blocked c p e =
    let d = seen c.args.self.now in
    let lt : c.args.number.0 - 1 < length (both_of d) = omega (arith, both_many d c.requires.desk, c.requires.number.0, c.requires.number.1) in
    ap (λ b. not b && c.has_waiting.result) (sym c.if-not-is_blocked.true)
    ∙ listed_from d c.known-group.result.now p (c.known-group.ensures ∙ group_at d c.args.number p e) (along_at d c.requires.desk c.args.number p e lt).count
    c.is_blocked.result c.has_waiting.result c.is_blocked.ensures c.has_waiting.ensures

pub returns-else-not-is_blocked : goal.returns-else-not-is_blocked
returns-else-not-is_blocked c p e =
    let d = seen c.args.self.now in
    let lt : c.args.number.0 - 1 < length (both_of d) = omega (arith, both_many d c.requires.desk, c.requires.number.0, c.requires.number.1) in
    let g = c.known-group.result.now in
    let waiting = list_any (is_waiting d.progress.running) g.requests in
    ap not c.if-not-is_blocked.false ∙ ap (λ b. not b && waiting) (sym c.if-not-is_blocked.false)
    ∙ listed_from d g p (c.known-group.ensures ∙ group_at d c.args.number p e) (along_at d c.requires.desk c.args.number p e lt).count
    c.is_blocked.result waiting c.is_blocked.ensures refl
