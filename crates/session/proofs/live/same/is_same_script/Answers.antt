use Rattle.std.proofs.Common.{◌∙◌, sym, ap}
use Rattle.std.specs.Option.{option_copied}
use Rattle.desk_core.specs.History.{script_of}
use Rattle.session.proofs.Passes.{agree_all, agree_more}
use Rattle.session.proofs.live.same.is_same_script.Goals as goal

pub returns-in-None-None : goal.returns-in-None-None
returns-in-None-None c =
    λ _.
    agree_all c.loop-index.index (script_of c.args.a.now.scripts c.args.caller) (script_of c.args.b.now.scripts c.args.caller) c.loop-index.invariant
    (sym c.line.ensures ∙ ap option_copied c.in-None-None.is-0) (sym c.line-in-loop-index.ensures ∙ ap option_copied c.in-None-None.is-1)

pub loop-index-preserved : goal.loop-index-preserved
loop-index-preserved c =
    agree_more c.loop-index.index (script_of c.args.a.now.scripts c.args.caller)
    (script_of c.args.b.now.scripts c.args.caller) c.in-Some-Some.one.now c.in-Some-Some.other.now c.loop-index.invariant
    (sym c.line.ensures ∙ ap option_copied c.in-Some-Some.is-0) (sym c.line-in-loop-index.ensures ∙ ap option_copied c.in-Some-Some.is-1)
    (c.is_same_line.ensures c.if-is_same_line.true)
