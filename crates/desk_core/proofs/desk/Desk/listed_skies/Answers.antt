use Rattle.std.proofs.Common.{◌≡◌, ◌∙◌, ap, map}
use Rattle.desk_core.specs.Desk.{seen}
use Rattle.desk_core.specs.DeskSnapshot.{targets_listed}
use Rattle.desk_core.proofs.SnapshotParts.{parts_targets, each_known, skies_are}
use Rattle.desk_core.proofs.desk.Desk.listed_skies.Goals as goal

pub skies-requires-clause-targets : goal.skies-requires-clause-targets
skies-requires-clause-targets c =
    let d = seen c.args.self.now in
    let targets : c.as_slice.result.now ≡ map (λ n. record { 0 = n }) (targets_listed d)
    = c.as_slice.ensures.value ∙ c.in_ok-targets.ensures ∙ ap (map (λ n. record { 0 = n })) (parts_targets d c.args.groups.now c.requires.groups)
    in each_known d c.requires.desk c.as_slice.result.now targets

pub returns : goal.returns
returns c =
    let d = seen c.args.self.now in
    let targets : c.as_slice.result.now ≡ map (λ n. record { 0 = n }) (targets_listed d)
    = c.as_slice.ensures.value ∙ c.in_ok-targets.ensures ∙ ap (map (λ n. record { 0 = n })) (parts_targets d c.args.groups.now c.requires.groups)
    in skies_are d c.as_slice.result.now c.skies.result targets c.skies.ensures
