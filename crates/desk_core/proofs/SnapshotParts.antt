-- The parts of the snapshot, as they are put together.
use Rattle.std.proofs.Common.{◌≡◌, ℕ, ◌+◌, ◌<◌, List, [], ◌∷◌, ◌++◌, length, get_or, map, take, replicate, refl, sym, ap, ◌∙◌, subst, Option, Result}
use Rattle.std.proofs.Common.{Ok, Err, IfOk}
use Rattle.std.specs.Prelude.{fold, All}
use Rattle.std.specs.List.{flat_map}
use Rattle.std.specs.Ordering.{nat_cmp}
use Rattle.std.specs.BTreeSet.{insert_key}
use Rattle.std.proofs.lemmas.List.{take_more, map_push}
use Rattle.std.proofs.lemmas.List.Elements.{All-map}
use Rattle.std.proofs.lemmas.List.Folds.{flat_map-map}
use Rattle.std.proofs.lemmas.List.Sums.{fold_push}
use Rattle.std.specs.declared.alloc.AllocError.{AllocError}
use Rattle.plan_base.specs.declared.number.SliceNo.{SliceNo}
use Rattle.plan_base.specs.declared.number.TargetNo.{TargetNo}
use Rattle.plan_base.specs.declared.parts.Parts.{Parts}
use Rattle.plan_base.specs.declared.parts.TelescopePart.{TelescopePart}
use Rattle.plan_base.specs.declared.parts.GroupPart.{GroupPart}
use Rattle.plan_base.specs.declared.parts.RequestPart.{RequestPart}
use Rattle.plan_base.specs.declared.parts.Sky.{Sky}
use Rattle.desk_runs.specs.declared.group.Group.{Group}
use Rattle.desk_core.specs.declared.desk.Submitted.{Submitted}
use Rattle.desk_core.specs.Desk.{DeskSeen}
use Rattle.desk_core.specs.Kept.{IsDesk}
use Rattle.desk_core.specs.DeskSnapshot.{first_slice, telescope_parts, request_part, waiting_of, listed_groups, group_part, quota_place, quotas_of}
use Rattle.desk_core.specs.DeskSnapshot.{with_numbers_of, part_targets, targets_listed, skies_at, skies_of, snapshot_of}
use Rattle.desk_core.proofs.SnapshotGroups.{target_count}
use Rattle.desk_core.proofs.SnapshotSkies.{targets_known}

-- the quota once for each name
pub quota_each : (quota : ℕ) (names : List (List ℕ)) → replicate (length names) quota ≡ map (λ name. quota) names
quota_each quota [] = refl
quota_each quota (name ∷ names) = ap (λ l. quota ∷ l) (quota_each quota names)

-- the part of a group
pub group_part_is : (d : DeskSeen) (p : Submitted × Group) (w : Submitted) (g : Group) (requests : List RequestPart) (quota : Option ℕ) → w ≡ p.0 → g ≡ p.1
    → requests ≡ map (request_part d) (waiting_of d (w, g)) → quota ≡ quota_place d w.document.proposal d.opening.quota
    → record { group = g.number; op = g.op; requests = requests; quota = quota } ≡ group_part d p
group_part_is d p w g requests quota submitted group parts place =
    let made : List RequestPart → Option ℕ → GroupPart = λ r q. record { group = g.number; op = g.op; requests = r; quota = q } in
    ap (λ r. made r quota) parts ∙ ap (made (map (request_part d) (waiting_of d (w, g)))) place ∙ ap (λ (v : Submitted). group_part d (v, g)) submitted
    ∙ ap (λ (h : Group). group_part d (p.0, h)) group

-- one more element
pub mapped_more : {X Y : Type 0} (f : X → Y) (xs : List X) (i : ℕ) (x : X) → i < length xs → get_or xs i x ≡ x → (old new : List Y)
    → old ≡ map f (take i xs) → (y : Y) → y ≡ f x
    → new ≡ old ++ y ∷ [] → new ≡ map f (take (i + 1) xs)
mapped_more f xs i x lt stands old new so_far y is pushed =
    let more : take (i + 1) xs ≡ take i xs ++ x ∷ [] = take_more xs i x lt ∙ ap (λ z. take i xs ++ z ∷ []) stands in
    pushed ∙ ap (λ l. l ++ y ∷ []) so_far ∙ ap (λ z. map f (take i xs) ++ z ∷ []) is ∙ sym (map_push f (take i xs) x) ∙ ap (map f) (sym more)

pub folded_more : {X B : Type 0} (f : B → X → B) (a : B) (xs : List X) (i : ℕ) (x : X) → i < length xs → get_or xs i x ≡ x → (old new : B)
    → old ≡ fold f a (take i xs) → new ≡ f old x
    → new ≡ fold f a (take (i + 1) xs)
folded_more f a xs i x lt stands old new so_far is =
    let more : take (i + 1) xs ≡ take i xs ++ x ∷ [] = take_more xs i x lt ∙ ap (λ z. take i xs ++ z ∷ []) stands in
    is ∙ ap (λ b. f b x) so_far ∙ sym (fold_push f a (take i xs) x) ∙ ap (fold f a) (sym more)

-- ---- targets

pub targets_more : (keys old new : List ℕ) (targets : List TargetNo) (i : ℕ) (t : TargetNo) → i < length targets → get_or targets i t ≡ t
    → old ≡ with_numbers_of keys (take i targets)
    → new ≡ insert_key nat_cmp old t.0 → new ≡ with_numbers_of keys (take (i + 1) targets)
targets_more keys old new targets i t lt stands so_far is =
    let more : take (i + 1) targets ≡ take i targets ++ t ∷ [] = take_more targets i t lt ∙ ap (λ z. take i targets ++ z ∷ []) stands in
    is ∙ ap (λ b. insert_key nat_cmp b t.0) so_far ∙ sym (fold_push (insert_key nat_cmp) keys (map (λ u. u.0) (take i targets)) t.0)
    ∙ ap (fold (insert_key nat_cmp) keys) (sym (map_push (λ u. u.0) (take i targets) t)) ∙ ap (with_numbers_of keys) (sym more)

flat_same : {X Y : Type 0} (f g : X → List Y) → ((x : X) → f x ≡ g x) → (xs : List X) → flat_map f xs ≡ flat_map g xs
flat_same f g same [] = refl
flat_same f g same (x ∷ xs) = ap (λ l. l ++ flat_map f xs) (same x) ∙ ap (λ l. g x ++ l) (flat_same f g same xs)

-- the targets of the parts are those of the listed groups
pub parts_targets : (d : DeskSeen) (groups : List GroupPart) → groups ≡ map (group_part d) (listed_groups d)
    → with_numbers_of [] (part_targets groups) ≡ targets_listed d
parts_targets d groups is =
    let outer : flat_map (λ x. flat_map (λ q. q.targets) x.requests) (map (group_part d) (listed_groups d))
    ≡ flat_map (λ p. flat_map (λ q. q.targets) (map (request_part d) (waiting_of d p))) (listed_groups d)
    = flat_map-map (λ (x : GroupPart). flat_map (λ (q : RequestPart). q.targets) x.requests) (group_part d) (listed_groups d)
    in
    let inner : flat_map (λ p. flat_map (λ q. q.targets) (map (request_part d) (waiting_of d p))) (listed_groups d)
    ≡ flat_map (λ p. flat_map (λ m. m.1.targets) (waiting_of d p)) (listed_groups d)
    = flat_same (λ p. flat_map (λ q. q.targets) (map (request_part d) (waiting_of d p))) (λ p. flat_map (λ m. m.1.targets) (waiting_of d p))
    (λ p. flat_map-map (λ (q : RequestPart). q.targets) (request_part d) (waiting_of d p)) (listed_groups d)
    in ap (λ l. with_numbers_of [] (part_targets l)) is ∙ ap (with_numbers_of []) (outer ∙ inner)

-- the targets are known ..
pub each_known : (d : DeskSeen) → IsDesk d → (targets : List TargetNo) → targets ≡ map (λ n. record { 0 = n }) (targets_listed d)
    → All (λ t. t.0 < target_count d) targets
each_known d h targets is =
    subst (All (λ t. t.0 < target_count d)) (sym is) (All-map (λ t. t.0 < target_count d) (λ n. record { 0 = n }) (targets_listed d) (targets_known d h))

-- .. and their skies are those of the snapshot
pub skies_are : (d : DeskSeen) (targets : List TargetNo) (made : Result (List Sky) AllocError) → targets ≡ map (λ n. record { 0 = n }) (targets_listed d)
    → IfOk made (λ skies. skies ≡ flat_map (λ t. skies_at d t.0) targets) → IfOk made (λ skies. skies ≡ skies_of d)
skies_are d targets (Ok skies) is made =
    made ∙ ap (flat_map (λ t. skies_at d t.0)) is ∙ flat_map-map (λ (t : TargetNo). skies_at d t.0) (λ n. record { 0 = n }) (targets_listed d)
skies_are d targets (Err no_memory) is made = tt

-- the parts put together
pub parts_are : (version : ℕ) (d : DeskSeen) (first : SliceNo) (telescopes : List TelescopePart) (skies : List Sky) (groups : List GroupPart) (quotas : List ℕ)
    → first.0 ≡ first_slice d → telescopes ≡ telescope_parts d → skies ≡ skies_of d → groups ≡ map (group_part d) (listed_groups d)
    → quotas ≡ quotas_of d d.opening.quota
    → record {
      version = version;
      len = d.opening.slice;
      first = first;
      slices = d.opening.horizon;
      telescopes = telescopes;
      skies = skies;
      groups = groups;
      quotas = quotas;
    } ≡ snapshot_of version d
parts_are version d first telescopes skies groups quotas begins seen_by seen_at listed limits =
    let made : ℕ → List TelescopePart → List Sky → List GroupPart → List ℕ → Parts
    = λ k t y g q. record {
      version = version;
      len = d.opening.slice;
      first = record { 0 = k };
      slices = d.opening.horizon;
      telescopes = t;
      skies = y;
      groups = g;
      quotas = q;
    }
    in
    ap (λ k. made k telescopes skies groups quotas) begins ∙ ap (λ t. made (first_slice d) t skies groups quotas) seen_by
    ∙ ap (λ y. made (first_slice d) (telescope_parts d) y groups quotas) seen_at
    ∙ ap (λ g. made (first_slice d) (telescope_parts d) (skies_of d) g quotas) listed
    ∙ ap (made (first_slice d) (telescope_parts d) (skies_of d) (map (group_part d) (listed_groups d))) limits
