use Rattle.std.proofs.Common.{◌≡◌, ℕ, List, Option, slice_index_or, sym, ap, ◌∙◌}
use Rattle.plan_base.specs.declared.parts.Parts.{Parts}
use Rattle.plan_base.specs.declared.parts.GroupPart.{GroupPart}
use Rattle.plan_base.specs.Requests.{quota_of}
use Rattle.bound_checker.proofs.Requested.{quota_here, quota_within}
use Rattle.bound_checker.proofs.quotas.known_quota.Goals as goal

-- what is read of the groups is what the snapshot has
quota_read : (s t : Parts) (gs : List GroupPart) (r g : ℕ) (d : GroupPart) → t ≡ s → gs ≡ t.groups
    → (slice_index_or s.groups g d).quota ≡ quota_of s r → (slice_index_or gs g d).quota ≡ quota_of s r
quota_read s t gs r g d e f h = ap (λ (xs : List GroupPart). (slice_index_or xs g d).quota) (f ∙ ap (λ (x : Parts). x.groups) e) ∙ h

pub returns-clause-value : goal.returns-clause-value
returns-clause-value c =
    quota_read c.args.snapshot.now c.parts.result.now c.as_slice.result.now c.args.request.0 c.known_group-group.result c.index-as_slice-group.result
    c.parts.ensures.value c.as_slice.ensures
    (quota_here c.args.snapshot.now c.args.request.0 c.known_group-group.result c.index-as_slice-group.result c.requires c.known_group-group.ensures.value)

pub returns-clause-within : goal.returns-clause-within
returns-clause-within c = λ q e. quota_within c.args.snapshot.now c.args.request.0 q c.parts.ensures.orderly c.requires (sym (returns-clause-value c) ∙ e)
