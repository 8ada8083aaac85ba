-- After each legal history refunds are of charges that were told, and nothing is told twice.
use Rattle.std.proofs.Common.{◌≡◌, ◌≢◌, ◌∙◌, ap, sym, subst, refl, ℕ, List, [], ◌∷◌, ◌++◌, map, All, Option, Some, None, arith}
use Rattle.std.specs.Prelude.{AllPairs}
use Rattle.std.specs.List.{Any, Contains}
use Rattle.std.specs.Option.{IfSome}
use Rattle.plan_base.specs.declared.number.GroupNo.{GroupNo}
use Rattle.plan_io.specs.declared.lines.ScriptLine.{ScriptLine}
use Rattle.desk_runs.specs.declared.group.Group.{Group}
use Rattle.desk_runs.specs.Sound.{IsCounted}
use Rattle.desk_events.specs.declared.entry.EventEntry.{EventEntry}
use Rattle.desk_core.specs.declared.desk.Submitted.{Submitted}
use Rattle.desk_core.specs.Desk.{DeskSeen, StateSeen}
use Rattle.desk_core.specs.History.{after_entry, replay, IsEntry, IsLegal}
use Rattle.desk_core.specs.Kept.{IsDesk}
use Rattle.desk_core.proofs.WentOn.{as_submitted}
use Rattle.desk_accounts.specs.Balance.{GroupTold, told_by, groups_told, refunds_in, told_of, all_refunds, all_completed}
use Rattle.desk_accounts.specs.Laws.{IsRefundOf}
use Rattle.desk_accounts.proofs.Goes.{groups_of, Goes}
use Rattle.desk_accounts.proofs.Histories.{AreTold, what_entry, begun_told, legal_told}
use Rattle.desk_accounts.proofs.Known.{charge_told, group_charge}
use Rattle.desk_accounts.proofs.Once.{all_charged}
use Rattle.desk_accounts.proofs.Refunds.{numbered_along}

pub refunds_are : (scripts : List (List ScriptLine)) (history before after : List EventEntry) (e : EventEntry) → IsLegal scripts history
    → history ≡ before ++ e ∷ after → All (λ r. Any (IsRefundOf r) (groups_told (told_of scripts before))) (refunds_in e.reply)
refunds_are scripts history before after e h is =
    let told : AreTold (told_of scripts before) (replay scripts before) = begun_told scripts history before (e ∷ after) h is in
    let entry : IsEntry scripts before e = h.each before after e is in
    let known : List GroupTold = groups_told (told_of scripts before) in
    let goes : Goes known (told_by scripts e) (replay scripts before) (after_entry scripts (replay scripts before) e) =
    what_entry scripts before e e.what known told.desk told.groups entry.reply in
    all_charged known (refunds_in e.reply)
    (subst (λ (cs : List (GroupNo × ℕ)). All (λ r. Contains cs (r.group, r.seconds)) (refunds_in e.reply)) (sym told.groups.charges) goes.back.charged)

pub refunds_once : (scripts : List (List ScriptLine)) (history : List EventEntry) → IsLegal scripts history
    → AllPairs (λ r s. r.group ≢ s.group) (all_refunds (told_of scripts history))
refunds_once scripts history h = (legal_told scripts history h).once.apart

pub completed_once : (scripts : List (List ScriptLine)) (history : List EventEntry) → IsLegal scripts history
    → AllPairs (λ m n. m ≢ n) (all_completed (told_of scripts history))
completed_once scripts history h = (legal_told scripts history h).once.once

-- ---- the numbers of groups

told_numbers : (groups : List GroupTold) → map (λ c. c.0.0) (map charge_told groups) ≡ map (λ g. g.number.0) groups
told_numbers [] = refl
told_numbers (g ∷ groups) = ap (λ (l : List ℕ). g.number.0 ∷ l) (told_numbers groups)

kept_numbers : (ps : List (Submitted × Group)) → map (λ c. c.0.0) (map group_charge ps) ≡ map (λ p. p.1.number.0) ps
kept_numbers [] = refl
kept_numbers (p ∷ ps) = ap (λ (l : List ℕ). p.1.number.0 ∷ l) (kept_numbers ps)

desk_numbers : (version : ℕ) (o : Option DeskSeen) → IfSome o IsDesk → IsCounted (map (λ p. p.1.number.0) (groups_of (record { version = version; desk = o })))
desk_numbers version None h = λ i l. absurd (omega (arith, l))
desk_numbers version (Some d) h = subst IsCounted (sym (numbered_along d.groups d.progress.groups (as_submitted d h))) h.sound.numbered.groups

pub groups_numbered : (scripts : List (List ScriptLine)) (history : List EventEntry) → IsLegal scripts history
    → IsCounted (map (λ g. g.number.0) (groups_told (told_of scripts history)))
groups_numbered scripts history h =
    let s : StateSeen = replay scripts history in
    let told : AreTold (told_of scripts history) s = legal_told scripts history h in
    let groups : List GroupTold = groups_told (told_of scripts history) in
    let same : map (λ g. g.number.0) groups ≡ map (λ p. p.1.number.0) (groups_of s) =
    sym (told_numbers groups) ∙ ap (λ (cs : List (GroupNo × ℕ)). map (λ c. c.0.0) cs) told.groups.charges ∙ kept_numbers (groups_of s) in
    subst IsCounted (sym same) (desk_numbers s.version s.desk told.desk)
