use Rattle.desk_core.proofs.desk.Desk.answer.Goals as goal

pub returns-then-is_registering : goal.returns-then-is_registering
returns-then-is_registering c = c.register.ensures c.args.version
