use Rattle.std.proofs.Common.{sym, subst}
use Rattle.desk_events.specs.declared.reply.Reply.{Reply}
use Rattle.desk_events.specs.Entry.{AddsEntry}
use Rattle.desk_events.specs.Replied.{members_of_reply}
use Rattle.desk_events.proofs.write.entry.write_reply.Goals as goal

-- a snapshot is too large a value to be found out by search
pub returns-in-Exported : goal.returns-in-Exported
returns-in-Exported c =
    subst (λ (r : Reply). AddsEntry c.exported.result c.args.out.now.items c.exported.new.out.items c.args.entry.now (members_of_reply r))
    (sym c.in-Exported.is) c.exported.ensures
