use Rattle.std.proofs.Common.{◌≡◌, ℕ, ◌<◌, ◌≤◌, length, ◌∙◌, sym, ap, subst}
use Rattle.plan_base.specs.declared.parts.Parts.{Parts}
use Rattle.plan_base.specs.Requests.{members}
use Rattle.groups.proofs.Runs.{count_read, some_members, few_members}
use Rattle.groups.proofs.rebates.member_count.Goals as goal

pub returns : goal.returns
returns c =
    let count : c.len.result ≡ length (members c.args.snapshot.now c.args.group) = c.len.ensures
    ∙ count_read c.args.snapshot.now _ c.args.group _ (c.as_slice.ensures ∙ ap (λ (s : Parts). s.groups) c.parts.ensures.value) c.requires in
    record {
      value = count;
      some = subst (λ (n : ℕ). 0 < n) (sym count) (some_members c.args.snapshot.now c.args.group c.parts.ensures.orderly c.requires);
      few = subst (λ (n : ℕ). n ≤ 256) (sym count) (few_members c.args.snapshot.now c.args.group c.parts.ensures.orderly c.requires);
    }
