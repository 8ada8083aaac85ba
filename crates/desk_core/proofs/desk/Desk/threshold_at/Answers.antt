use Rattle.std.proofs.Common.{◌<◌, ◌-◌, length, arith}
use Rattle.std.proofs.lemmas.Option.{slice_get_within}
use Rattle.desk_core.specs.Desk.{seen}
use Rattle.desk_core.specs.Timing.{IsFoundAt}
use Rattle.desk_core.proofs.desk.Desk.threshold_at.Goals as goal

pub submission-submitted-requires : goal.submission-submitted-requires
submission-submitted-requires c =
    let h : IsFoundAt (seen c.args.self.now) c.requires.0 c.args.place = c.requires.1 in
    let within : c.args.place.group.0 - 1 < length c.args.self.now.submitted.items =
    slice_get_within c.args.self.now.submitted.items (c.args.place.group.0 - 1) h.submitted h.submitted_at in
    (h.from, omega (arith, within))
