-- What a call decides or tells is what its command does.
use Rattle.std.proofs.Common.{◌≡◌, ◌∙◌, ℕ, ◌+◌, refl, ap, sym, subst, Option, Some, None, Result, Ok, Err, arith}
use Rattle.std.proofs.lemmas.Option.{same_Some}
use Rattle.plan_base.specs.declared.claim.Claim.{Claim}
use Rattle.plan_base.specs.declared.parts.Parts.{Parts}
use Rattle.plan_base.specs.Verdict.{IsVerdict}
use Rattle.plan_base.specs.declared.verdict.Verdict.{Verdict}
use Rattle.plan_base.specs.declared.verdict.Verdict.TheVariants.{Yes}
use Rattle.desk_events.specs.declared.command.Command.{Command}
use Rattle.desk_events.specs.declared.command.Command.TheVariants.{Publish}
use Rattle.desk_events.specs.declared.fault.CommandFault.{CommandFault}
use Rattle.desk_events.specs.declared.fault.CommandFault.TheVariants.{NoMemory}
use Rattle.desk_events.specs.declared.refusal.Refusal.{Refusal}
use Rattle.desk_events.specs.declared.reply.Reply.{Reply}
use Rattle.desk_core.specs.Desk.{DeskSeen, StateSeen, Stepped, Decision, Decides, Tells, accepted, refused, decided, told}
use Rattle.desk_core.specs.DeskSnapshot.{snapshot_of}
use Rattle.desk_core.specs.Publishing.{IsJudged, DecidesByVerdict, on_publish}
use Rattle.desk_core.specs.Step.{step, IsAsked, Does, changes, opened}

-- any verdict will do for a command that asks for none
abbrev pub any : Verdict
any = Yes 0 0

-- ---- decisions

accepted_so : (s : StateSeen) (decision : Decision) (reply : Reply) (e : DeskSeen) (o : Option Refusal) → o ≡ None → reply ≡ decision.reply → e ≡ decision.desk
    → decided s record { refusal = o; reply = decision.reply; desk = decision.desk } ≡ record { reply = reply; state = opened (s.version + 1) e }
accepted_so s decision reply e None none same is = λ j. accepted s (sym same j) (sym is j)
accepted_so s decision reply e (Some r) none same is = absurd (cc)

refused_so : (s : StateSeen) (decision : Decision) (r : Refusal) (o : Option Refusal) → o ≡ Some r
    → decided s record { refusal = o; reply = decision.reply; desk = decision.desk } ≡ refused s r
refused_so s decision r None some = absurd (cc)
refused_so s decision r (Some x) some = ap (refused s) (same_Some x r some)

-- a call that decides so does what its command does, where the command is this decision
pub decides_does : (version : ℕ) (d : DeskSeen) (c : Command) (decision : Decision) (e : DeskSeen) (result : Result Reply CommandFault)
    → changes c ≡ 1 → IsAsked (opened version d) c any
    → step any (opened version d) c ≡ Some (decided (opened version d) decision) → Decides decision d e result → Does version d c e result
decides_does version d c decision e (Ok reply) one asks is h = record {
  ok = (
    any,
    asks,
    is ∙ ap (λ (s : Stepped). Some s) (accepted_so (opened version d) decision reply e decision.refusal h.ok.0 h.ok.1 h.ok.2)
        ∙ ap (λ n. Some record { reply = reply; state = opened (version + n) e }) (sym one),
  );
  refused = tt;
  unchanged = tt;
}
decides_does version d c decision e (Err fault) one asks is h = record {
  ok = tt;
  refused = λ memory.
      let r = h.refused memory in
      (r.0, (any, asks, is ∙ ap (λ (s : Stepped). Some s) (refused_so (opened version d) decision r.0 decision.refusal r.1)), r.2);
  unchanged = h.unchanged;
}

-- ---- what is told

-- a call that tells so does what its command does, where the command is this
pub tells_does : (version : ℕ) (d : DeskSeen) (c : Command) (answer : Result Reply Refusal) (result : Result Reply CommandFault) → changes c ≡ 0
    → IsAsked (opened version d) c any
    → step any (opened version d) c ≡ Some (told (opened version d) answer) → Tells answer result → Does version d c d result
tells_does version d c answer (Ok reply) none asks is h = record {
  ok = (any, asks, is ∙ ap (λ a. Some (told (opened version d) a)) h.ok ∙ ap (λ n. Some record { reply = reply; state = opened n d }) (omega (arith, none)));
  refused = tt;
  unchanged = tt;
}
tells_does version d c answer (Err fault) none asks is h = record {
  ok = tt;
  refused = λ memory.
      let r = h.refused memory in
      (r.0, (any, asks, is ∙ ap (λ a. Some (told (opened version d) a)) r.1), r.2);
  unchanged = refl;
}

-- ---- publications

same_Err : {A E : Type 0} (e f : E) → (let r : Result A E = Err e in r) ≡ Err f → e ≡ f
same_Err e f is = cc

-- the verdict is that on the state's snapshot
asks : (version : ℕ) (d : DeskSeen) (asked : ℕ) (claim : Claim) (verdict : Verdict) → IsJudged version d asked claim verdict
    → IsAsked (opened version d) (Publish asked claim) verdict
asks version d asked claim verdict h = λ same parts of.
    subst (λ (p : Parts). IsVerdict p claim verdict) (sym (of.2 ∙ ap (snapshot_of version) (sym (same_Some d of.0 of.1)))) (h same)

-- a call that publishes by the verdict on the claim does what `publish` does
pub publishes_does : (version : ℕ) (d : DeskSeen) (asked : ℕ) (claim : Claim) (e : DeskSeen) (result : Result Reply CommandFault)
    → DecidesByVerdict version d asked claim e result
    → Does version d (Publish asked claim) e result
publishes_does version d asked claim e (Ok reply) h = record {
  ok = (
    h.verdict,
    asks version d asked claim h.verdict (h.judged (λ none. cc)),
    ap (λ (s : Stepped). Some s)
        (accepted_so (opened version d) (on_publish h.verdict version d asked claim) reply e
        (on_publish h.verdict version d asked claim).refusal h.decides.ok.0 h.decides.ok.1 h.decides.ok.2),
  );
  refused = tt;
  unchanged = tt;
}
publishes_does version d asked claim e (Err fault) h = record {
  ok = tt;
  refused = λ memory.
      let r = h.decides.refused memory in (
        r.0,
        (
          h.verdict,
          asks version d asked claim h.verdict (h.judged (λ none. memory (same_Err fault NoMemory none))),
          ap (λ (s : Stepped). Some s) (refused_so (opened version d) (on_publish h.verdict version d asked claim) r.0
              (on_publish h.verdict version d asked claim).refusal r.1),
        ),
        r.2,
      );
  unchanged = h.decides.unchanged;
}
