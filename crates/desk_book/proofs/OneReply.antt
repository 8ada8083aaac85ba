-- For one state and what one line says there is one reply.
use Rattle.std.proofs.Common.{◌≡◌, ℕ, Bool, true, false, cond, ◌==◌, ap, sym, ◌∙◌, refl, Option, Some, None, Ok, Err}
use Rattle.std.proofs.lemmas.Bool.{eqb-true}
use Rattle.plan_base.specs.declared.claim.Claim.{Claim}
use Rattle.plan_base.specs.declared.verdict.Verdict.{Verdict}
use Rattle.plan_base.proofs.OneVerdict.{one_verdict}
use Rattle.desk_events.specs.declared.command.Command.{Command}
use Rattle.desk_events.specs.declared.command.Command.TheVariants as command
use Rattle.desk_events.specs.declared.refusal.Refusal.TheVariants.{Stale}
use Rattle.desk_events.specs.declared.reply.Reply.TheVariants.{Published, Refused}
use Rattle.desk_core.specs.Desk.{DeskSeen, StateSeen, Stepped, decided}
use Rattle.desk_core.specs.DeskSnapshot.{snapshot_of}
use Rattle.desk_core.specs.Publishing.{with_publication, rejection}
use Rattle.desk_core.specs.Step.{step_by, IsAsked, IsStep}
use Rattle.desk_book.specs.Laws.{OneReply}

-- a claim for the current version has one verdict
one_asked : (s : StateSeen) (d : DeskSeen) (version : ℕ) (claim : Claim) (v w : Verdict) → s.desk ≡ Some d → version ≡ s.version
    → IsAsked s (command.Publish version claim) v
    → IsAsked s (command.Publish version claim) w → v ≡ w
one_asked s d version claim v w opened now h g =
    one_verdict (snapshot_of s.version d) claim v w (h now (snapshot_of s.version d) (d, opened, refl)) (g now (snapshot_of s.version d) (d, opened, refl))

publish_agrees : (s : StateSeen) (d : DeskSeen) (version : ℕ) (claim : Claim) (v w : Verdict) (b : Bool) → s.desk ≡ Some d → (version == s.version) ≡ b
    → IsAsked s (command.Publish version claim) v → IsAsked s (command.Publish version claim) w
    → decided s record { refusal = cond b (rejection v) (Some (Stale version s.version)); reply = Published claim; desk = with_publication s.version claim d }
    ≡ decided s record { refusal = cond b (rejection w) (Some (Stale version s.version)); reply = Published claim; desk = with_publication s.version claim d }
publish_agrees s d version claim v w true opened now h g =
    ap (λ (x : Verdict). decided s record { refusal = rejection x; reply = Published claim; desk = with_publication s.version claim d })
    (one_asked s d version claim v w opened (eqb-true version s.version now) h g)
publish_agrees s d version claim v w false opened now h g = refl

agree : (v w : Verdict) (s : StateSeen) (o : Option DeskSeen) (c : Command) → s.desk ≡ o → IsAsked s c v → IsAsked s c w → step_by v s o c ≡ step_by w s o c
agree v w s None c opened h g = refl
agree v w s (Some d) (command.Open now slice horizon semester lanes rounds workers quota) opened h g = refl
agree v w s (Some d) (command.Instrument name front config readout change) opened h g = refl
agree v w s (Some d) (command.Telescope site enclosure telescope class instruments) opened h g = refl
agree v w s (Some d) (command.Night site spans) opened h g = refl
agree v w s (Some d) (command.Visibility target site spans) opened h g = refl
agree v w s (Some d) (command.Close scope spans) opened h g = refl
agree v w s (Some d) (command.Reopen scope spans) opened h g = refl
agree v w s (Some d) (command.Grant key seconds) opened h g = refl
agree v w s (Some d) (command.Submit document) opened h g = refl
agree v w s (Some d) (command.Amend old document) opened h g = refl
agree v w s (Some d) (command.Withdraw group) opened h g = refl
agree v w s (Some d) (command.Clock at) opened h g = refl
agree v w s (Some d) (command.Report request percent used) opened h g = refl
agree v w s (Some d) command.Plan opened h g = refl
agree v w s (Some d) (command.Publish version claim) opened h g = ap Some (publish_agrees s d version claim v w (version == s.version) opened refl h g)
agree v w s (Some d) command.Export opened h g = refl
agree v w s (Some d) command.Balances opened h g = refl
agree v w s (Some d) (command.Show group) opened h g = refl

pub one_step : (s : StateSeen) (c : Command) (a b : Stepped) → IsStep s c a → IsStep s c b → a ≡ b
one_step s c a b h g =
    let both : Some a ≡ Some b = sym h.2 ∙ agree h.0 g.0 s s.desk c refl h.1 g.1 ∙ g.2 in
    cc

pub one_reply : OneReply
one_reply s (Err fault) r r' h g =
    let both : Some h.0 ≡ Some g.0 = sym h.1 ∙ g.1 in
    let same : h.0 ≡ g.0 = cc in
    h.2 ∙ ap Refused same ∙ sym g.2
one_reply s (Ok c) r r' h g = sym h.2 ∙ ap (λ (x : Stepped). x.reply) (one_step s c h.0 g.0 h.1 g.1) ∙ g.2
