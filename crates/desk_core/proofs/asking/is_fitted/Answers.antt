use Rattle.std.proofs.Common.{◌∙◌, ap, sym, ◌<◌, Bool, ◌||◌, [], length, get_or, arith}
use Rattle.std.proofs.lemmas.List.Folds.{list_any_more, list_any_at}
use Rattle.std.proofs.lemmas.Option.{slice_get-get_or}
use Rattle.site_model.specs.Registry.{TelescopeSeen}
use Rattle.desk_core.specs.Asking.{is_fit}
use Rattle.desk_core.proofs.asking.is_fitted.Goals as goal

none : TelescopeSeen
none = record { code = record { site = []; enclosure = []; telescope = [] }; class = []; instruments = [] }

pub returns-then-fits : goal.returns-then-fits
returns-then-fits c =
    let r = c.args.network.now.registry in
    let q = c.args.request.now in
    let i = c.loop-telescope.telescope in
    let l : i < length r.telescopes = omega (arith, c.telescopes-telescope-end.ensures.count) in
    let is = c.fits.ensures (get_or r.telescopes i none) (slice_get-get_or r.telescopes i none l) in
    sym (list_any_at (is_fit q.location q.instrument) r.telescopes i none l (sym is ∙ c.if-fits.true))

pub loop-telescope-preserved : goal.loop-telescope-preserved
loop-telescope-preserved c =
    let r = c.args.network.now.registry in
    let q = c.args.request.now in
    let i = c.loop-telescope.telescope in
    let l : i < length r.telescopes = omega (arith, c.telescopes-telescope-end.ensures.count) in
    let is = c.fits.ensures (get_or r.telescopes i none) (slice_get-get_or r.telescopes i none l) in
    list_any_more (is_fit q.location q.instrument) r.telescopes i none l
    ∙ ap (λ (b : Bool). b || is_fit q.location q.instrument (get_or r.telescopes i none)) c.loop-telescope.invariant ∙ sym is ∙ c.if-fits.false
