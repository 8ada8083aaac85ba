-- A history leads to one state.
use Rattle.std.proofs.Common.{◌≡◌, List, [], ◌∷◌, ◌++◌, refl, sym, ◌∙◌, ap, subst, fold, append_assoc, append-nil, Result, Ok, Err}
use Rattle.plan_io.specs.declared.lines.ScriptLine.{ScriptLine}
use Rattle.desk_events.specs.declared.command.Command.{Command}
use Rattle.desk_events.specs.declared.entry.EventEntry.{EventEntry}
use Rattle.desk_events.specs.declared.entry.What.{What}
use Rattle.desk_events.specs.declared.entry.What.TheVariants.{Line, Take, Publish}
use Rattle.desk_events.specs.declared.fault.CommandFault.{CommandFault}
use Rattle.desk_events.specs.declared.reply.Reply.{Reply}
use Rattle.desk_core.specs.Desk.{StateSeen, Stepped, start}
use Rattle.desk_core.specs.Step.{IsStep}
use Rattle.desk_core.specs.History.{read_at, after_line, after_what, after_entry, replay, IsLineReply, IsReply, IsEntry, EachAfter}
use Rattle.desk_book.specs.Laws.{LineLeads, Leads, LeadTo, OneReplay}
use Rattle.desk_book.proofs.Histories.{replay_more}
use Rattle.desk_book.proofs.Stepping.{step_left}

-- ---- no other state

line_one : (s t : StateSeen) (read : Result Command CommandFault) (reply : Reply) → LineLeads s read reply t → t ≡ after_line s read reply
line_one s t (Err fault) reply h = h
line_one s t (Ok c) reply h = sym (step_left s c record { reply = reply; state = t } h)

what_one : (s t : StateSeen) (read : Result Command CommandFault) (what : What) (reply : Reply) → Leads s read what reply t → t ≡ after_what s read what reply
what_one s t read Line reply h = line_one s t read reply h
what_one s t read Take reply h = h
what_one s t read Publish reply h = h

history_one : (scripts : List (List ScriptLine)) (history : List EventEntry) (s t : StateSeen) → LeadTo scripts history s t
    → t ≡ fold (after_entry scripts) s history
history_one scripts [] s t h = h
history_one scripts (e ∷ es) s t h =
    history_one scripts es h.0 t h.2 ∙ ap (λ (u : StateSeen). fold (after_entry scripts) u es) (what_one s h.0 (read_at scripts e) e.what e.reply h.1)

-- ---- this state

leads_line : (s : StateSeen) (read : Result Command CommandFault) (reply : Reply) → IsLineReply s read reply → LineLeads s read reply (after_line s read reply)
leads_line s (Err fault) reply h = refl
leads_line s (Ok c) reply h =
    let stepped : Stepped = h.0 in
    let left : after_line s (Ok c) stepped.reply ≡ stepped.state = step_left s c stepped h.1 in
    let here : IsStep s c record { reply = stepped.reply; state = after_line s (Ok c) stepped.reply } =
    subst (λ (t : StateSeen). IsStep s c record { reply = stepped.reply; state = t }) (sym left) h.1 in
    subst (λ (r : Reply). IsStep s c record { reply = r; state = after_line s (Ok c) r }) h.2 here

leads_what : (scripts : List (List ScriptLine)) (before : List EventEntry) (e : EventEntry) (what : What) → IsReply scripts before e what
    → Leads (replay scripts before) (read_at scripts e) what e.reply (after_what (replay scripts before) (read_at scripts e) what e.reply)
leads_what scripts before e Line h = leads_line (replay scripts before) (read_at scripts e) e.reply h.1
leads_what scripts before e Take h = refl
leads_what scripts before e Publish h = refl

leads_on : (scripts : List (List ScriptLine)) (before rest : List EventEntry) → EachAfter (IsEntry scripts) (before ++ rest)
    → LeadTo scripts rest (replay scripts before) (replay scripts (before ++ rest))
leads_on scripts before [] h = ap (replay scripts) (append-nil before)
leads_on scripts before (e ∷ es) h =
    let whole : (before ++ e ∷ []) ++ es ≡ before ++ e ∷ es = append_assoc before (e ∷ []) es in
    let entry : IsEntry scripts before e = h before es e refl in
    let more : replay scripts (before ++ e ∷ []) ≡ after_entry scripts (replay scripts before) e = replay_more scripts before e in
    let later : LeadTo scripts es (replay scripts (before ++ e ∷ [])) (replay scripts (before ++ e ∷ es)) =
    subst (λ (h : List EventEntry). LeadTo scripts es (replay scripts (before ++ e ∷ [])) (replay scripts h)) whole
    (leads_on scripts (before ++ e ∷ []) es (subst (λ (h : List EventEntry). EachAfter (IsEntry scripts) h) (sym whole) h)) in (
      after_entry scripts (replay scripts before) e,
      leads_what scripts before e e.what entry.reply,
      subst (λ (s : StateSeen). LeadTo scripts es s (replay scripts (before ++ e ∷ es))) more later,
    )

pub one_replay : OneReplay
one_replay scripts history = (
  λ legal. leads_on scripts [] history legal.each,
  λ t leads. history_one scripts history start t leads,
)
