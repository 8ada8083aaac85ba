use Rattle.std.proofs.Common.{◌∙◌, sym, ap, subst}
use Rattle.plan_base.specs.declared.parts.Parts.{Parts}
use Rattle.plan_base.specs.Starts.{slices_for}
use Rattle.groups.proofs.Footed.{seconds_here}
use Rattle.snapshot_starts.specs.Runs.{AreRuns, starts_with}
use Rattle.repair.proofs.Entered.{runs_for}
use Rattle.repair.proofs.entry.entry_of.Goals as goal

pub returns-clause-entry : goal.returns-clause-entry
returns-clause-entry c =
    let s = c.args.snapshot.now in
    record {
      known = c.requires.known;
      place = c.known_place-place.ensures.value;
      size = c.slices_for.ensures.value ∙ ap (λ n. slices_for n c.from-seconds.result) (c.from-len.ensures ∙ ap (λ (p : Parts). p.len) c.parts.ensures.value)
          ∙ ap (λ n. slices_for s.len n) (c.from-seconds.ensures
          ∙ seconds_here s c.args.request.0 c.known_place-place.result c.request_at.result.now c.requires.known
          c.known_place-place.ensures.value c.request_at.ensures);
      runs = runs_for s c.args.starts.now c.args.request.0 c.from_vec.result c.requires.starts
          (subst (AreRuns (starts_with c.args.starts.now c.args.request.0)) (sym (c.from_vec.ensures ∙ c.in_ok-runs.ensures.items)) c.runs_of.ensures);
    }
