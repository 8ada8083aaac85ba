use Rattle.std.proofs.Common.{◌∙◌, ap, sym, ◌++◌, []}
use Rattle.desk_core.specs.Desk.{seen}
use Rattle.std.specs.List.{cons_option}
use Rattle.std.proofs.lemmas.List.{append-nil}
use Rattle.desk_core.specs.DeskSnapshot.{sky_part}
use Rattle.desk_core.proofs.SnapshotSights.{numbers_more}
use Rattle.desk_core.proofs.desk.Desk.add_skies.Goals.{in-Some+in_ok-push, in_default}
use Rattle.desk_core.proofs.desk.Desk.add_skies.Goals as goal

pub loop-site-preserved : goal.loop-site-preserved
loop-site-preserved c =
    let d = seen c.args.self.now in
    let more = numbers_more (sky_part d c.args.target.0) c.args.skies.now c.loop-site.skies c.match-branch-2.skies c.loop-site.site
    c.in_ok-sky.field-0 c.loop-site.invariant c.in_ok-sky.ensures in
    elim c.match-branch-2.branch [
      | in-Some+in_ok-push w ↦ more (w.skies-is ∙ w.in_ok-push.ensures.ok ∙ ap (λ o. c.loop-site.skies ++ cons_option o []) (sym w.in-Some.is))
      | in_default w ↦ more (w.skies-is ∙ sym (append-nil c.loop-site.skies) ∙ ap (λ o. c.loop-site.skies ++ cons_option o []) (sym w.in_default.is))
    ]
