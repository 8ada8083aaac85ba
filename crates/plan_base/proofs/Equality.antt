-- That the tests of equality on the parts of a snapshot decide it.
use Rattle.std.proofs.Common.{◌≡◌, ℕ, Bool, true, false, ◌&&◌, nat_eq, List, Option, Some, None, refl, ap, sym, ◌∙◌}
use Rattle.std.specs.Bool.{Decides}
use Rattle.std.specs.Option.{option_eq}
use Rattle.std.specs.Cmp.Lexicographic.{pointwise}
use Rattle.std.proofs.lemmas.Bool.Decides.{Decides-eqb}
use Rattle.std.proofs.lemmas.Slice.Eq.{slice_eq-Decides}
use Rattle.plan_base.specs.declared.number.GroupNo.{GroupNo}
use Rattle.plan_base.specs.declared.number.RequestNo.{RequestNo}
use Rattle.plan_base.specs.declared.number.Sec.{Sec}
use Rattle.plan_base.specs.declared.number.SiteNo.{SiteNo}
use Rattle.plan_base.specs.declared.number.SliceNo.{SliceNo}
use Rattle.plan_base.specs.declared.number.TargetNo.{TargetNo}
use Rattle.plan_base.specs.declared.number.TelescopeNo.{TelescopeNo}
use Rattle.plan_base.specs.declared.span.Span.{Span}
use Rattle.plan_base.specs.declared.parts.Op.{Op}
use Rattle.plan_base.specs.declared.parts.Op.TheVariants.{Single, Many, OneOf, And}
use denote.Enum.Bare.{sameb}
use Rattle.plan_base.specs.contracts.parts.Op.{the_type}
use Rattle.plan_base.specs.declared.parts.Parts.{Parts}
use Rattle.plan_base.specs.declared.parts.TelescopePart.{TelescopePart}
use Rattle.plan_base.specs.declared.parts.Sky.{Sky}
use Rattle.plan_base.specs.declared.parts.GroupPart.{GroupPart}
use Rattle.plan_base.specs.declared.parts.RequestPart.{RequestPart}

-- ---- deciding

both : (p q : Bool) (P Q : Type 0) → Decides p P → Decides q Q → Decides (p && q) (P × Q)
both true true P Q h g = (λ _. (h.0 refl, g.0 refl), λ _. refl)
both true false P Q h g = (λ e. cc, λ x. g.1 x.1)
both false q P Q h g = (λ e. cc, λ x. h.1 x.0)

numbers_decide : (a b : ℕ) → Decides (nat_eq a b) (a ≡ b)
numbers_decide a b = Decides-eqb a b

lists_decide : {A : Type 0} (E : A → A → Bool) → ((a b : A) → Decides (E a b) (a ≡ b)) → (xs ys : List A) → Decides (pointwise E xs ys) (xs ≡ ys)
lists_decide E h xs ys = slice_eq-Decides h xs ys (pointwise E xs ys) refl

options_decide : {A : Type 0} (E : A → A → Bool) → ((a b : A) → Decides (E a b) (a ≡ b)) → (x y : Option A) → Decides (option_eq E x y) (x ≡ y)
options_decide E h None None = (λ _. refl, λ _. refl)
options_decide E h None (Some y) = (λ e. cc, λ e. cc)
options_decide E h (Some x) None = (λ e. cc, λ e. cc)
options_decide E h (Some x) (Some y) = (λ e. ap Some ((h x y).0 e), λ e. let same : x ≡ y = cc in (h x y).1 same)

-- values made of one part are equal where it is
one : {A R : Type 0} (make : A → R) (part : R → A) (p : Bool) (a b : A) → ((x : A) → part (make x) ≡ x) → Decides p (a ≡ b) → Decides p (make a ≡ make b)
one make part p a b back h = (λ e. ap make (h.0 e), λ e. h.1 (sym (back a) ∙ ap part e ∙ back b))

-- pairs are equal where both of their parts are
pairs : {A B : Type 0} (p q : Bool) (a c : A) (b d : B) → Decides p (a ≡ c) → Decides q (b ≡ d) → Decides (p && q) (◌≡◌ {A = A × B} (a, b) (c, d))
pairs p q a c b d h g = (
  λ e. (let apart = (both p q (a ≡ c) (b ≡ d) h g).0 e in ap (λ x. (x, b)) apart.0 ∙ ap (λ y. (c, y)) apart.1),
  λ e. (both p q (a ≡ c) (b ≡ d) h g).1 (ap (λ x. x.0) e, ap (λ x. x.1) e),
)

-- ---- numbers, moments and kinds

abbrev is_sec : Sec → Sec → Bool
is_sec a b = nat_eq a.0 b.0

secs_decide : (a b : Sec) → Decides (is_sec a b) (a ≡ b)
secs_decide a b = one (λ (n : ℕ). let r : Sec = record { 0 = n } in r) (λ r. r.0) _ a.0 b.0 (λ x. refl) (numbers_decide a.0 b.0)

abbrev is_site : SiteNo → SiteNo → Bool
is_site a b = nat_eq a.0 b.0

sites_decide : (a b : SiteNo) → Decides (is_site a b) (a ≡ b)
sites_decide a b = one (λ (n : ℕ). let r : SiteNo = record { 0 = n } in r) (λ r. r.0) _ a.0 b.0 (λ x. refl) (numbers_decide a.0 b.0)

abbrev is_slice : SliceNo → SliceNo → Bool
is_slice a b = nat_eq a.0 b.0

slices_decide : (a b : SliceNo) → Decides (is_slice a b) (a ≡ b)
slices_decide a b = one (λ (n : ℕ). let r : SliceNo = record { 0 = n } in r) (λ r. r.0) _ a.0 b.0 (λ x. refl) (numbers_decide a.0 b.0)

abbrev is_target : TargetNo → TargetNo → Bool
is_target a b = nat_eq a.0 b.0

pub targets_decide : (a b : TargetNo) → Decides (is_target a b) (a ≡ b)
targets_decide a b = one (λ (n : ℕ). let r : TargetNo = record { 0 = n } in r) (λ r. r.0) _ a.0 b.0 (λ x. refl) (numbers_decide a.0 b.0)

abbrev is_telescope : TelescopeNo → TelescopeNo → Bool
is_telescope a b = nat_eq a.0 b.0

pub telescopes_decide : (a b : TelescopeNo) → Decides (is_telescope a b) (a ≡ b)
telescopes_decide a b = one (λ (n : ℕ). let r : TelescopeNo = record { 0 = n } in r) (λ r. r.0) _ a.0 b.0 (λ x. refl) (numbers_decide a.0 b.0)

abbrev is_request : RequestNo → RequestNo → Bool
is_request a b = nat_eq a.0 b.0

pub requests_decide : (a b : RequestNo) → Decides (is_request a b) (a ≡ b)
requests_decide a b = one (λ (n : ℕ). let r : RequestNo = record { 0 = n } in r) (λ r. r.0) _ a.0 b.0 (λ x. refl) (numbers_decide a.0 b.0)

abbrev is_group : GroupNo → GroupNo → Bool
is_group a b = nat_eq a.0 b.0

groups_decide : (a b : GroupNo) → Decides (is_group a b) (a ≡ b)
groups_decide a b = one (λ (n : ℕ). let r : GroupNo = record { 0 = n } in r) (λ r. r.0) _ a.0 b.0 (λ x. refl) (numbers_decide a.0 b.0)

abbrev is_op : Op → Op → Bool
is_op a b = sameb the_type a b

ops_decide : (a b : Op) → Decides (is_op a b) (a ≡ b)
ops_decide Single Single = (λ _. refl, λ _. refl)
ops_decide Single Many = (λ e. cc, λ e. cc)
ops_decide Single OneOf = (λ e. cc, λ e. cc)
ops_decide Single And = (λ e. cc, λ e. cc)
ops_decide Many Single = (λ e. cc, λ e. cc)
ops_decide Many Many = (λ _. refl, λ _. refl)
ops_decide Many OneOf = (λ e. cc, λ e. cc)
ops_decide Many And = (λ e. cc, λ e. cc)
ops_decide OneOf Single = (λ e. cc, λ e. cc)
ops_decide OneOf Many = (λ e. cc, λ e. cc)
ops_decide OneOf OneOf = (λ _. refl, λ _. refl)
ops_decide OneOf And = (λ e. cc, λ e. cc)
ops_decide And Single = (λ e. cc, λ e. cc)
ops_decide And Many = (λ e. cc, λ e. cc)
ops_decide And OneOf = (λ e. cc, λ e. cc)
ops_decide And And = (λ _. refl, λ _. refl)

-- ---- the parts

abbrev is_span : Span → Span → Bool
is_span a b = is_sec a.from b.from && is_sec a.to b.to

pub spans_decide : (a b : Span) → Decides (is_span a b) (a ≡ b)
spans_decide a b =
    let make : Sec × Sec → Span = λ p. record { from = p.0; to = p.1 } in
    one make (λ r. (r.from, r.to)) _ (a.from, a.to) (b.from, b.to) (λ x. refl)
    (pairs _ _ a.from b.from a.to b.to (secs_decide a.from b.from)
    (secs_decide a.to b.to))

abbrev is_telescope_part : TelescopePart → TelescopePart → Bool
is_telescope_part a b = is_site a.site b.site && pointwise is_span a.usable b.usable

telescope_parts_decide : (a b : TelescopePart) → Decides (is_telescope_part a b) (a ≡ b)
telescope_parts_decide a b =
    let make : SiteNo × List Span → TelescopePart = λ p. record { site = p.0; usable = p.1 } in
    one make (λ r. (r.site, r.usable)) _ (a.site, a.usable) (b.site, b.usable) (λ x. refl)
    (pairs _ _ a.site b.site a.usable b.usable (sites_decide a.site b.site)
    (lists_decide is_span spans_decide a.usable b.usable))

abbrev is_sky : Sky → Sky → Bool
is_sky a b = is_target a.target b.target && (is_site a.site b.site && pointwise is_span a.spans b.spans)

skies_decide : (a b : Sky) → Decides (is_sky a b) (a ≡ b)
skies_decide a b =
    let make : TargetNo × (SiteNo × List Span) → Sky = λ p. record { target = p.0; site = p.1.0; spans = p.1.1 } in
    one make (λ r. (r.target, (r.site, r.spans))) _ (a.target, (a.site, a.spans)) (b.target, (b.site, b.spans)) (λ x. refl)
    (pairs _ _ a.target b.target (a.site, a.spans) (b.site, b.spans) (targets_decide a.target b.target)
    (pairs _ _ a.site b.site a.spans b.spans (sites_decide a.site b.site)
    (lists_decide is_span spans_decide a.spans b.spans)))

abbrev is_request_part : RequestPart → RequestPart → Bool
is_request_part a b =
    is_request a.request b.request &&
    (nat_eq a.seconds b.seconds &&
    (nat_eq a.value b.value &&
    (pointwise is_span a.windows b.windows &&
    (pointwise is_telescope a.telescopes b.telescopes &&
    (pointwise is_target a.targets b.targets &&
    nat_eq a.fade b.fade)))))

request_parts_decide : (a b : RequestPart) → Decides (is_request_part a b) (a ≡ b)
request_parts_decide a b =
    let make : RequestNo × (ℕ × (ℕ × (List Span × (List TelescopeNo × (List TargetNo × ℕ))))) → RequestPart = λ p. record {
      request = p.0;
      seconds = p.1.0;
      value = p.1.1.0;
      windows = p.1.1.1.0;
      telescopes = p.1.1.1.1.0;
      targets = p.1.1.1.1.1.0;
      fade = p.1.1.1.1.1.1;
    } in
    one make (λ r. (r.request, (r.seconds, (r.value, (r.windows, (r.telescopes, (r.targets, r.fade))))))) _
    (a.request, (a.seconds, (a.value, (a.windows, (a.telescopes, (a.targets, a.fade))))))
    (b.request, (b.seconds, (b.value, (b.windows, (b.telescopes, (b.targets, b.fade))))))
    (λ x. refl)
    (pairs _ _ a.request b.request
    (a.seconds, (a.value, (a.windows, (a.telescopes, (a.targets, a.fade))))) (b.seconds, (b.value, (b.windows, (b.telescopes, (b.targets, b.fade)))))
    (requests_decide a.request b.request)
    (pairs _ _ a.seconds b.seconds (a.value, (a.windows, (a.telescopes, (a.targets, a.fade))))
    (b.value, (b.windows, (b.telescopes, (b.targets, b.fade)))) (numbers_decide a.seconds b.seconds)
    (pairs _ _ a.value b.value (a.windows, (a.telescopes, (a.targets, a.fade))) (b.windows, (b.telescopes, (b.targets, b.fade)))
    (numbers_decide a.value b.value)
    (pairs _ _ a.windows b.windows (a.telescopes, (a.targets, a.fade)) (b.telescopes, (b.targets, b.fade))
    (lists_decide is_span spans_decide a.windows b.windows)
    (pairs _ _ a.telescopes b.telescopes (a.targets, a.fade) (b.targets, b.fade) (lists_decide is_telescope telescopes_decide a.telescopes b.telescopes)
    (pairs _ _ a.targets b.targets a.fade b.fade (lists_decide is_target targets_decide a.targets b.targets)
    (numbers_decide a.fade b.fade)))))))

abbrev is_group_part : GroupPart → GroupPart → Bool
is_group_part a b =
    is_group a.group b.group &&
    (is_op a.op b.op &&
    (pointwise is_request_part a.requests b.requests &&
    option_eq nat_eq a.quota b.quota))

group_parts_decide : (a b : GroupPart) → Decides (is_group_part a b) (a ≡ b)
group_parts_decide a b =
    let make : GroupNo × (Op × (List RequestPart × Option ℕ)) → GroupPart = λ p. record { group = p.0; op = p.1.0; requests = p.1.1.0; quota = p.1.1.1 } in
    one make (λ r. (r.group, (r.op, (r.requests, r.quota)))) _ (a.group, (a.op, (a.requests, a.quota))) (b.group, (b.op, (b.requests, b.quota))) (λ x. refl)
    (pairs _ _ a.group b.group (a.op, (a.requests, a.quota)) (b.op, (b.requests, b.quota)) (groups_decide a.group b.group)
    (pairs _ _ a.op b.op (a.requests, a.quota) (b.requests, b.quota) (ops_decide a.op b.op)
    (pairs _ _ a.requests b.requests a.quota b.quota (lists_decide is_request_part request_parts_decide a.requests b.requests)
    (options_decide nat_eq numbers_decide a.quota b.quota))))

abbrev pub is_parts : Parts → Parts → Bool
is_parts a b =
    nat_eq a.version b.version &&
    (nat_eq a.len b.len &&
    (is_slice a.first b.first &&
    (nat_eq a.slices b.slices &&
    (pointwise is_telescope_part a.telescopes b.telescopes &&
    (pointwise is_sky a.skies b.skies &&
    (pointwise is_group_part a.groups b.groups &&
    pointwise nat_eq a.quotas b.quotas))))))

pub parts_decide : (a b : Parts) → Decides (is_parts a b) (a ≡ b)
parts_decide a b =
    let make : ℕ × (ℕ × (SliceNo × (ℕ × (List TelescopePart × (List Sky × (List GroupPart × List ℕ)))))) → Parts = λ p. record {
      version = p.0;
      len = p.1.0;
      first = p.1.1.0;
      slices = p.1.1.1.0;
      telescopes = p.1.1.1.1.0;
      skies = p.1.1.1.1.1.0;
      groups = p.1.1.1.1.1.1.0;
      quotas = p.1.1.1.1.1.1.1;
    } in
    one make (λ r. (r.version, (r.len, (r.first, (r.slices, (r.telescopes, (r.skies, (r.groups, r.quotas)))))))) _
    (a.version, (a.len, (a.first, (a.slices, (a.telescopes, (a.skies, (a.groups, a.quotas)))))))
    (b.version, (b.len, (b.first, (b.slices, (b.telescopes, (b.skies, (b.groups, b.quotas)))))))
    (λ x. refl)
    (pairs _ _ a.version b.version
    (a.len, (a.first, (a.slices, (a.telescopes, (a.skies, (a.groups, a.quotas))))))
    (b.len, (b.first, (b.slices, (b.telescopes, (b.skies, (b.groups, b.quotas))))))
    (numbers_decide a.version b.version)
    (pairs _ _ a.len b.len (a.first, (a.slices, (a.telescopes, (a.skies, (a.groups, a.quotas)))))
    (b.first, (b.slices, (b.telescopes, (b.skies, (b.groups, b.quotas))))) (numbers_decide a.len b.len)
    (pairs _ _ a.first b.first (a.slices, (a.telescopes, (a.skies, (a.groups, a.quotas)))) (b.slices, (b.telescopes, (b.skies, (b.groups, b.quotas))))
    (slices_decide a.first b.first)
    (pairs _ _ a.slices b.slices (a.telescopes, (a.skies, (a.groups, a.quotas))) (b.telescopes, (b.skies, (b.groups, b.quotas)))
    (numbers_decide a.slices b.slices)
    (pairs _ _ a.telescopes b.telescopes (a.skies, (a.groups, a.quotas)) (b.skies, (b.groups, b.quotas))
    (lists_decide is_telescope_part telescope_parts_decide a.telescopes b.telescopes)
    (pairs _ _ a.skies b.skies (a.groups, a.quotas) (b.groups, b.quotas) (lists_decide is_sky skies_decide a.skies b.skies)
    (pairs _ _ a.groups b.groups a.quotas b.quotas (lists_decide is_group_part group_parts_decide a.groups b.groups)
    (lists_decide nat_eq numbers_decide a.quotas b.quotas))))))))
