use Rattle.std.proofs.Common.{◌≡◌, ap, sym, ◌∙◌, subst, Some, None, option_map}
use Rattle.plan_io.specs.declared.lines.ScriptLine.TheVariants.{Bytes}
use Rattle.workload.specs.Lines.{WorkloadSeen, line_next}
use Rattle.session.proofs.Tallies.{Tally, with_given, first_lines, tally_none, few_changes, next_tally, summed_up}
use Rattle.session.proofs.tally.sum_up.Goals as goal

pub loop-cache-init : goal.loop-cache-init
loop-cache-init g c =
    let given : c.new-workload.result.given ≡ 0 = ap (λ (w : WorkloadSeen). w.given) c.new-workload.ensures in
    record {
      is = c.new-workload.ensures ∙ ap (with_given c.args.number) (sym given);
      tally = tally_none (first_lines c.args.number c.new-workload.result.given) c.args.state.now c.no_summary-summary.result
          (ap (first_lines c.args.number) given) c.requires c.no_summary-summary.ensures;
    }

pub reply_to-requires-clause-version : goal.reply_to-requires-clause-version
reply_to-requires-clause-version g c κs sub =
    few_changes c.args.number c.loop-cache.workload.given c.loop-cache.state c.loop-cache.summary c.loop-cache.invariant.tally

pub loop-cache-smaller-in_ok-summary : goal.loop-cache-smaller-in_ok-summary
loop-cache-smaller-in_ok-summary g c =
    let line : Some c.in-Some.bytes.items ≡ line_next c.loop-cache.workload = sym (ap (option_map (λ v. v.items)) c.in-Some.is) ∙ c.in_ok-bytes.ensures.line in
    (next_tally c.args.number c.loop-cache.workload c.next.new.self c.loop-cache.state c.reply_to.new.state c.loop-cache.summary c.in-Some.bytes.items
    (Bytes c.from.result) c.in_ok-reply.reply
    c.loop-cache.invariant.is c.loop-cache.invariant.tally line c.in_ok-bytes.ensures.given
    (ap (λ bytes. Bytes bytes) c.from.ensures) c.in_ok-reply.ensures).smaller

pub loop-cache-preserved-in_ok-summary : goal.loop-cache-preserved-in_ok-summary
loop-cache-preserved-in_ok-summary g c =
    let line : Some c.in-Some.bytes.items ≡ line_next c.loop-cache.workload = sym (ap (option_map (λ v. v.items)) c.in-Some.is) ∙ c.in_ok-bytes.ensures.line in
    let next = next_tally c.args.number c.loop-cache.workload c.next.new.self c.loop-cache.state c.reply_to.new.state c.loop-cache.summary
    c.in-Some.bytes.items (Bytes c.from.result) c.in_ok-reply.reply
    c.loop-cache.invariant.is c.loop-cache.invariant.tally line c.in_ok-bytes.ensures.given (ap (λ bytes. Bytes bytes) c.from.ensures) c.in_ok-reply.ensures in
    record {
      is = next.is;
      tally = subst (Tally (first_lines c.args.number c.next.new.self.given) c.reply_to.new.state)
          (sym c.in_ok-summary.ensures) next.tally;
    }

pub returns : goal.returns
returns g c =
    let none : None ≡ line_next c.loop-cache.workload = sym (ap (option_map (λ v. v.items)) c.in_default.is) ∙ c.in_ok-bytes.ensures.line in
    summed_up c.args.number c.loop-cache.workload.given c.loop-cache.state c.loop-cache.summary
    (none ∙ ap line_next c.loop-cache.invariant.is) c.loop-cache.invariant.tally
