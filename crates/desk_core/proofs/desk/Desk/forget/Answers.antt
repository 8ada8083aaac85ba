use Rattle.std.proofs.Common.{◌≡◌, ◌∙◌, ap, ◌≤◌, length, arith}
use Rattle.site_model.specs.Network.{NetworkSeen, forgets_targets}
use Rattle.desk_runs.specs.Adding.{IsOneMore}
use Rattle.desk_runs.specs.Progress.{Progress}
use Rattle.desk_core.specs.Desk.{DeskSeen, seen}
use Rattle.desk_core.specs.Targets.{target_names}
use Rattle.desk_core.specs.Submitting.{asks_of, op_of}
use Rattle.desk_core.proofs.Numbering.{grown_by, shrunk}
use Rattle.desk_core.proofs.Drafts.{count_asks}
use Rattle.desk_core.proofs.desk.Desk.forget.Goals as goal

pub returns : goal.returns
returns c = λ before h.
    let self = c.args.self.now in
    let with_both : DeskSeen → NetworkSeen → Progress → DeskSeen = λ d n p. record d { network = n; progress = p } in
    let some : 1 ≤ length (asks_of h.made) = omega (arith, h.some, count_asks h.made) in
    let one : IsOneMore before.progress self.runs =
    record {
      sound = h.sound;
      op = op_of h.document h.made;
      asks = asks_of h.made;
      some = some;
      added = ap (λ (d : DeskSeen). d.progress) h.entered;
    } in
    let names = target_names h.document.requests in
    let grown = grown_by names before.network self.network (ap (λ (d : DeskSeen). d.network) h.entered) in
    let network : c.forget_targets.new.self ≡ before.network =
    c.forget_targets.ensures ∙ ap (λ k. forgets_targets k self.network) h.count ∙ shrunk before.network self.network grown in
    ap (λ (n : NetworkSeen). with_both (seen self) n c.forget_last.new.self) network
    ∙ ap (with_both (seen self) before.network) (c.forget_last.ensures before.progress one)
    ∙ ap (λ (d : DeskSeen). with_both d before.network before.progress) h.entered
