use Rattle.std.proofs.Common.{◌∙◌, ap, sym, ◌<◌, ◌≤◌, ◌++◌, ◌∷◌, [], length, cond, map, arith}
use Rattle.std.specs.Prelude.{filter}
use Rattle.std.specs.List.{enumerate_from}
use Rattle.std.proofs.lemmas.List.{append-nil, take_all}
use Rattle.std.proofs.lemmas.List.FromFn.{length-enumerate_from}
use Rattle.desk_core.specs.Asking.{is_fit}
use Rattle.desk_core.proofs.SnapshotListing.{kept_more, place_at}
use Rattle.desk_core.proofs.desk.Desk.telescopes_for.Goals.{then-fits+in_ok-push, else-fits}
use Rattle.desk_core.proofs.desk.Desk.telescopes_for.Goals as goal

pub loop-telescope-preserved : goal.loop-telescope-preserved
loop-telescope-preserved c =
    let all = c.args.self.now.network.registry.telescopes in
    let i = c.loop-telescope.telescope in
    let lt : i < length all = omega (arith, c.loop-telescope-test.true, c.telescopes-telescope-end.ensures.count) in
    let here = place_at all i lt in
    let in_range : i < length (enumerate_from 0 all) = omega (arith, length-enumerate_from 0 all) in
    let more = kept_more (λ p. record { 0 = p.0 }) (λ p. is_fit c.args.wanted.now.location c.args.wanted.now.instrument p.1) (enumerate_from 0 all) i
    (i, here.0) in_range here.2 c.loop-telescope.telescopes
    c.if-fits.telescopes c.loop-telescope.invariant c.fits.result (c.fits.ensures here.0 here.1)
    in
    elim c.if-fits.branch [
      | then-fits+in_ok-push w ↦
          more (w.telescopes-is ∙ w.in_ok-push.ensures.ok ∙ ap (λ b. c.loop-telescope.telescopes ++ cond b (record { 0 = i } ∷ []) []) (sym w.if-fits.true))
      | else-fits w ↦
          more (w.telescopes-is ∙ sym (append-nil c.loop-telescope.telescopes)
          ∙ ap (λ b. c.loop-telescope.telescopes ++ cond b (record { 0 = i } ∷ []) []) (sym w.if-fits.false))
    ]

pub returns : goal.returns
returns c =
    let all = c.args.self.now.network.registry.telescopes in
    let count : length (enumerate_from 0 all) ≤ c.loop-telescope.telescope
    = omega (arith, length-enumerate_from 0 all, c.loop-telescope-test.false, c.telescopes-telescope-end.ensures.count)
    in
    c.loop-telescope.invariant
    ∙ ap (λ l. map (λ p. record { 0 = p.0 }) (filter (λ p. is_fit c.args.wanted.now.location c.args.wanted.now.instrument p.1) l))
    (take_all c.loop-telescope.telescope (enumerate_from 0 all) count)
