-- What is replied before the desk is opened, and what a call on an opened desk does to the state.
use Rattle.std.proofs.Common.{◌≡◌, ◌∙◌, ℕ, ◌+◌, ◌<◌, refl, ap, sym, subst, Option, Some, None}
use Rattle.std.proofs.lemmas.Option.{none-some}
use Rattle.plan_base.specs.declared.number.Sec.{Sec}
use Rattle.plan_base.specs.declared.span.Span.{Span}
use Rattle.desk_events.specs.declared.command.Command.{Command}
use Rattle.desk_events.specs.declared.command.Command.TheVariants as command
use Rattle.desk_events.specs.declared.refusal.Refusal.TheVariants.{NotOpened}
use Rattle.desk_events.specs.declared.reply.Reply.{Reply}
use Rattle.desk_events.specs.declared.reply.Reply.TheVariants.{Opened}
use Rattle.desk_events.specs.Ranges.{IsCommand}
use Rattle.desk_core.specs.declared.desk.Opening.{Opening}
use Rattle.desk_core.specs.Desk.{DeskSeen, StateSeen, refused}
use Rattle.desk_core.specs.Kept.{IsState}
use Rattle.desk_core.specs.Step.{IsStep, changes, opened, new_desk, step_by}
use Rattle.desk_core.proofs.KeptSteps.{step_keeps}
use Rattle.desk_core.proofs.Steps.{any}

-- a desk is opened with these
abbrev opening_of : (slice horizon : ℕ) (semester : Span) (lanes rounds workers : ℕ) (quota : Option ℕ) → Opening
opening_of slice horizon semester lanes rounds workers quota =
    record { slice = slice; horizon = horizon; semester = semester; settings = record { lanes = lanes; rounds = rounds; workers = workers }; quota = quota }

-- `open` opens it
pub opens : (s after : StateSeen) (now : Sec) (slice horizon : ℕ) (semester : Span) (lanes rounds workers : ℕ) (quota : Option ℕ) → s.desk ≡ None
    → after ≡ record { version = s.version + 1; desk = Some (new_desk (opening_of slice horizon semester lanes rounds workers quota) now) }
    → IsStep s (command.Open now slice horizon semester lanes rounds workers quota) record { reply = Opened; state = after }
opens s after now slice horizon semester lanes rounds workers quota none is = (
  any,
  tt,
  ap (λ o. step_by any s o (command.Open now slice horizon semester lanes rounds workers quota)) none
      ∙ ap (λ (t : StateSeen). Some record { reply = Opened; state = t }) (sym is),
)

-- any other command is refused
pub not_opened : (s : StateSeen) (c : Command) → s.desk ≡ None
    → ((now : Sec) (slice horizon : ℕ) (semester : Span) (lanes rounds workers : ℕ) (quota : Option ℕ)
    → c ≡ command.Open now slice horizon semester lanes rounds workers quota → ⊥)
    → IsStep s c (refused s NotOpened)
not_opened s (command.Open now slice horizon semester lanes rounds workers quota) none other =
    absurd (other now slice horizon semester lanes rounds workers quota refl)
not_opened s (command.Instrument a b c d e) none other = (any, tt, ap (λ o. step_by any s o (command.Instrument a b c d e)) none)
not_opened s (command.Telescope a b c d e) none other = (any, tt, ap (λ o. step_by any s o (command.Telescope a b c d e)) none)
not_opened s (command.Night a b) none other = (any, tt, ap (λ o. step_by any s o (command.Night a b)) none)
not_opened s (command.Visibility a b c) none other = (any, tt, ap (λ o. step_by any s o (command.Visibility a b c)) none)
not_opened s (command.Close a b) none other = (any, tt, ap (λ o. step_by any s o (command.Close a b)) none)
not_opened s (command.Reopen a b) none other = (any, tt, ap (λ o. step_by any s o (command.Reopen a b)) none)
not_opened s (command.Grant a b) none other = (any, tt, ap (λ o. step_by any s o (command.Grant a b)) none)
not_opened s (command.Submit a) none other = (any, tt, ap (λ o. step_by any s o (command.Submit a)) none)
not_opened s (command.Amend a b) none other = (any, tt, ap (λ o. step_by any s o (command.Amend a b)) none)
not_opened s (command.Withdraw a) none other = (any, tt, ap (λ o. step_by any s o (command.Withdraw a)) none)
not_opened s (command.Clock a) none other = (any, tt, ap (λ o. step_by any s o (command.Clock a)) none)
not_opened s (command.Report a b c) none other = (any, tt, ap (λ o. step_by any s o (command.Report a b c)) none)
not_opened s command.Plan none other = (any, tt, ap (λ o. step_by any s o command.Plan) none)
not_opened s (command.Publish a b) none other =
    (any, (λ same parts of. absurd (none-some of.0 (sym none ∙ of.1))), ap (λ o. step_by any s o (command.Publish a b)) none)
not_opened s command.Export none other = (any, tt, ap (λ o. step_by any s o command.Export) none)
not_opened s command.Balances none other = (any, tt, ap (λ o. step_by any s o command.Balances) none)
not_opened s (command.Show a) none other = (any, tt, ap (λ o. step_by any s o (command.Show a)) none)

-- ---- an opened desk

-- a step of an opened desk that was made keeps the state
pub answered_keeps : (version count : ℕ) (d e : DeskSeen) (c : Command) (reply : Reply) → version < 524288 → IsState (opened version d)
    → IsCommand c → count ≡ changes c
    → IsStep (opened version d) c record { reply = reply; state = opened (version + changes c) e } → IsState record { version = version + count; desk = Some e }
answered_keeps version count d e c reply lt h ranges same step =
    subst (λ (n : ℕ). IsState record { version = version + n; desk = Some e }) (sym same)
    (step_keeps version d c record { reply = reply; state = opened (version + changes c) e } lt h ranges step)
