use Rattle.std.proofs.Common.{[], arith, sym, ◌∙◌, subst}
use Rattle.std.proofs.lemmas.Result.{err_from_is_err_and}
use Rattle.plan_io.specs.declared.lines.Turn.TheVariants as turn
use Rattle.plan_io.specs.LinesSeen.{LinesSeen}
use Rattle.plan_io.specs.Next.{ReadsOn, IsCut, IsTurn, IsTurnCause}
use Rattle.plan_io.proofs.Readings.{reads_then, reads_more}
use Rattle.plan_io.proofs.Turns.{is_none, line_now, over_now}
use Rattle.plan_io.proofs.lines.Lines.read_on.Goals as goal

pub returns-in_err-line-in-More-clause-err : goal.returns-in_err-line-in-More-clause-err
returns-in_err-line-in-More-clause-err g c =
    let a = g.S.Source.left c.args.source.now in
    let b = g.S.Source.left c.loop-self.source in
    let d = g.S.Source.left c.read_more.new.source in
    let more : IsTurn c.loop-self.self b c.read_more.new.self d turn.More =
    subst (IsTurn c.loop-self.self b c.read_more.new.self d) c.in-More.is c.in_ok-read_more.ensures.turn in
    let p = err_from_is_err_and c.from_residual-in_err-line-in-More.result c.from_residual-in_err-line-in-More.ensures.1 in
    rw (p.1) (
    subst (λ (v : LinesSeen). ReadsOn c.args.self.now a [] v d) (sym c.in_err-line-in-More.ensures.err)
    (reads_more _ c.loop-self.self _ a b d c.loop-self.invariant.reads more.0))

pub returns-in-Some-clause-next : goal.returns-in-Some-clause-next
returns-in-Some-clause-next g c =
    let a = g.S.Source.left c.args.source.now in
    let b = g.S.Source.left c.loop-self.source in
    let d = g.S.Source.left c.read_more.new.source in
    let more : IsTurn c.loop-self.self b c.read_more.new.self d turn.More =
    subst (IsTurn c.loop-self.self b c.read_more.new.self d) c.in-More.is c.in_ok-read_more.ensures.turn in
    let cut = subst (IsCut c.read_more.new.self c.cut.new.self) c.in-Some.is c.in_ok-line-in-More.ensures.cut in
    line_now _ c.loop-self.self c.read_more.new.self _ a b d c.in-Some.line c.loop-self.invariant.reads more cut

pub loop-self-preserved : goal.loop-self-preserved
loop-self-preserved g c =
    let was = c.loop-self.invariant in
    let a = g.S.Source.left c.args.source.now in
    let b = g.S.Source.left c.loop-self.source in
    let d = g.S.Source.left c.read_more.new.source in
    let more : IsTurn c.loop-self.self b c.read_more.new.self d turn.More =
    subst (IsTurn c.loop-self.self b c.read_more.new.self d) c.in-More.is c.in_ok-read_more.ensures.turn in
    let later = subst (IsTurnCause (g.S.Source.faults c.loop-self.source) (g.S.Source.faults c.read_more.new.source)) c.in-More.is
    c.in_ok-read_more.ensures.cause in
    let cut = subst (IsCut c.read_more.new.self c.cut.new.self) (is_none c.in_ok-line-in-More.field-0 c.in_default.not-Some) c.in_ok-line-in-More.ensures.cut in
    record {
      reads = reads_then _ c.read_more.new.self _ _ d [] (reads_more _ c.loop-self.self _ a b d was.reads more.0) cut.0;
      clear = cut.1;
      within = cut.2;
      failed = cut.3 ∙ more.3;
      ended = cut.4 ∙ more.4;
      later = omega (arith, was.later, later);
      unread = λ e. absurd (
          omega (
            arith,
            c.in_ok-read_more.ensures.more c.in-More.is,
            e,
            more.0.2.answered,
            was.reads.2.answered,
            more.0.2.most_lines,
            was.reads.2.most_lines,
          ));
    }

pub returns-in-Over-clause-next : goal.returns-in-Over-clause-next
returns-in-Over-clause-next g c =
    let was = c.loop-self.invariant in
    let a = g.S.Source.left c.args.source.now in
    let b = g.S.Source.left c.loop-self.source in
    let d = g.S.Source.left c.read_more.new.source in
    let over : IsTurn c.loop-self.self b c.read_more.new.self d turn.Over =
    subst (IsTurn c.loop-self.self b c.read_more.new.self d) c.in-Over.is c.in_ok-read_more.ensures.turn in
    over_now _ c.loop-self.self _ a b d was.reads was.within over
