use Rattle.std.proofs.Common.{◌∙◌, sym, rules}
use Rattle.desk_core.specs.Desk.{seen}
use Rattle.desk_core.proofs.SnapshotSights.{sky_cut, no_sky, a_sky}
use Rattle.desk_core.proofs.desk.Desk.sky_part.Goals as goal

pub returns-then-is_empty : goal.returns-then-is_empty
returns-then-is_empty c =
    let d = seen c.args.self.now in
    let cut = sky_cut d c.args.target c.args.site c.visible.result.now c.args.horizon.now c.in_ok-spans.spans c.visible.ensures.sky
    c.requires.horizon c.in_ok-spans.ensures in
    no_sky d c.args.target c.args.site (sym cut ∙ c.is_empty.ensures.0 c.if-is_empty.true)

pub returns : goal.returns
returns c =
    let d = seen c.args.self.now in
    let cut = sky_cut d c.args.target c.args.site c.visible.result.now c.args.horizon.now c.in_ok-spans.spans c.visible.ensures.sky
    c.requires.horizon c.in_ok-spans.ensures in
    a_sky d c.args.target c.args.site c.into_list.result (c.into_list.ensures ∙ cut)
    (λ none. grind (rules, c.is_empty.ensures.1 (sym c.into_list.ensures ∙ none), c.if-is_empty.false))
