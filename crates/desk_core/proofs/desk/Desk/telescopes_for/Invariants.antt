use Rattle.std.proofs.Common.{◌≡◌, map, take}
use Rattle.std.specs.Prelude.{filter}
use Rattle.std.specs.List.{enumerate_from}
use Rattle.desk_core.specs.Asking.{is_fit}
use Rattle.desk_core.proofs.desk.Desk.telescopes_for.Given as goal

abbrev pub invariant-loop-telescope : goal.invariant-loop-telescope
invariant-loop-telescope l =
    l.telescopes ≡ map (λ p. record { 0 = p.0 })
    (filter (λ p. is_fit l.wanted.location l.wanted.instrument p.1) (take l.telescope (enumerate_from 0 l.self.network.registry.telescopes)))
