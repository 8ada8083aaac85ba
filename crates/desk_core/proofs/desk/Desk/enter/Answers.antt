use Rattle.std.proofs.Common.{◌≡◌, ◌∙◌, ap, List, map}
use Rattle.request_model.specs.declared.request.RequestDoc.{RequestDoc}
use Rattle.site_model.specs.Network.{NetworkSeen, forgets_targets}
use Rattle.desk_core.specs.Desk.{DeskSeen, seen}
use Rattle.desk_core.specs.Targets.{target_names, all_numbered, with_targets}
use Rattle.desk_core.specs.Asking.{MadeSeen, seen_made}
use Rattle.desk_core.specs.Making.{drafted}
use Rattle.desk_core.proofs.Numbering.{grown_by, shrunk}
use Rattle.desk_core.proofs.desk.Desk.enter.Goals as goal

pub returns-in-Ok-clause-new : goal.returns-in-Ok-clause-new
returns-in-Ok-clause-new c =
    let old = c.args.self.now in
    let made : List MadeSeen = map seen_made c.args.made.items in
    let of : NetworkSeen → DeskSeen = λ n. record (seen old) { network = n } in
    let numbered : c.number_targets.new.network
    ≡ with_targets (all_numbered old.network.registry.targets (target_names c.args.document.now.requests)) old.network =
    c.in_ok-number_targets.ensures.numbered
    ∙ ap (λ (rs : List RequestDoc). with_targets (all_numbered old.network.registry.targets (target_names rs)) old.network) c.as_slice.ensures in
    c.in-Ok.ensures.new ∙ ap (λ (n : NetworkSeen). drafted (of n) c.args.document.now made) numbered

pub returns-in-Err-clause-unchanged : goal.returns-in-Err-clause-unchanged
returns-in-Err-clause-unchanged c =
    let old = c.args.self.now in
    let with_network : DeskSeen → NetworkSeen → DeskSeen = λ d n. record d { network = n } in
    let names = target_names c.as_slice.result.now in
    let numbered : c.number_targets.new.network ≡ with_targets (all_numbered old.network.registry.targets names) old.network =
    c.in_ok-number_targets.ensures.numbered in
    let same : c.draft.new.self.network ≡ c.number_targets.new.network = ap (λ (d : DeskSeen). d.network) c.in-Err.ensures.unchanged in
    let gone : c.forget_targets.new.self ≡ old.network =
    c.forget_targets.ensures ∙ ap (forgets_targets c.targets-known.result) same
    ∙ ap (λ k. forgets_targets k c.number_targets.new.network) c.targets-known.ensures.count
    ∙ shrunk old.network c.number_targets.new.network (grown_by names old.network c.number_targets.new.network numbered) in
    ap (with_network (seen c.draft.new.self)) gone ∙ ap (λ (d : DeskSeen). with_network d old.network) c.in-Err.ensures.unchanged
