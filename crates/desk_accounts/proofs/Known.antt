-- The groups that entries tell are those of the desk.
use Rattle.std.proofs.Common.{◌≡◌, ◌∙◌, ap, sym, subst, refl, ℕ, ◌+◌, ◌<◌, ◌≤◌, ◌==◌, Bool, true, false, cond, List, [], ◌∷◌, ◌++◌, length, map}
use Rattle.std.proofs.Common.{get_or, All, Option, Some, None, arith}
use Rattle.std.specs.List.{AllZip, zip, find, flat_map, list_any}
use Rattle.std.specs.Option.{option_map, option_map_or}
use Rattle.std.proofs.lemmas.Bool.{or_parts}
use Rattle.std.proofs.lemmas.Grind.{flat_map-append}
use Rattle.std.proofs.lemmas.List.{map-append}
use Rattle.std.proofs.lemmas.List.Elements.{All-nil, All-cons, All-head, All-tail}
use Rattle.plan_base.specs.declared.number.GroupNo.{GroupNo}
use Rattle.plan_base.specs.declared.number.RequestNo.{RequestNo}
use Rattle.request_model.specs.declared.group.GroupDoc.{GroupDoc}
use Rattle.allocations.specs.declared.key.Key.{Key}
use Rattle.allocations.specs.Refusals.{ipp_key}
use Rattle.desk_runs.specs.declared.group.Group.{Group}
use Rattle.desk_runs.specs.declared.group.Request.{Request}
use Rattle.desk_runs.specs.Numbers.{is_request, has_request}
use Rattle.desk_runs.specs.Progress.{Progress}
use Rattle.desk_runs.specs.Sound.{IsLater, IsLaterRequest}
use Rattle.desk_runs.proofs.Places.{IsCountedFrom, counted_from, number_at}
use Rattle.desk_core.specs.declared.desk.Submitted.{Submitted}
use Rattle.desk_core.specs.declared.desk.Wanted.{Wanted}
use Rattle.desk_core.specs.Desk.{DeskSeen}
use Rattle.desk_core.specs.Holds.{key_of, groups_along}
use Rattle.desk_core.specs.Kept.{IsDesk}
use Rattle.desk_core.specs.Timing.{member_of, request_with}
use Rattle.desk_core.proofs.WentOn.{as_submitted}
use Rattle.desk_accounts.specs.Balance.{GroupTold, group_accounts, accounts_in, request_accounts, account_at}
use Rattle.desk_accounts.proofs.Back.{IsPaidBy}
use Rattle.desk_accounts.proofs.Numbered.{in_front, IsFoundIn, all_found}

-- ---- the accounts as the desk has them

-- a desk's groups as they were submitted, and how far they have come
abbrev pub groups_in : DeskSeen → List (Submitted × Group)
groups_in d = zip d.groups d.progress.groups

-- a group's ipp account by its number
abbrev pub group_account : Submitted × Group → ℕ × Key
group_account p = (p.1.number.0, ipp_key p.0.document.proposal)

-- a group's ipp charge by its number
abbrev pub group_charge : Submitted × Group → GroupNo × ℕ
group_charge p = (p.1.number, p.0.charged)

-- as it is told
abbrev pub charge_told : GroupTold → GroupNo × ℕ
charge_told g = (g.number, g.charged)

-- a request's account by its number
abbrev pub member_account : GroupDoc → Request × Wanted → ℕ × Key
member_account document m = (m.0.number.0, key_of document m.1)

abbrev pub member_accounts : Submitted × Group → List (ℕ × Key)
member_accounts p = map (member_account p.0.document) (zip p.1.requests p.0.requests)

-- the groups that are told have the accounts and the ipp charges that the desk's have
pub record AreKnown (told : List GroupTold) (ps : List (Submitted × Group)) : Type 0 where
  pub groups : group_accounts told ≡ map group_account ps
  pub requests : request_accounts told ≡ flat_map member_accounts ps
  pub charges : map charge_told told ≡ map group_charge ps

pub none_known : AreKnown [] []
none_known = record { groups = refl; requests = refl; charges = refl }

-- with one more
pub known_more : (told : List GroupTold) (ps : List (Submitted × Group)) (g : GroupTold) (p : Submitted × Group) → AreKnown told ps → AreKnown (g ∷ []) (p ∷ [])
    → AreKnown (told ++ g ∷ []) (ps ++ p ∷ [])
known_more told ps g p h one = record {
  groups =
      map-append (λ (x : GroupTold). let a : ℕ × Key = (x.number.0, ipp_key x.document.proposal) in a) told (g ∷ [])
      ∙ ap (λ (l : List (ℕ × Key)). l ++ group_accounts (g ∷ [])) h.groups
      ∙ ap (λ (l : List (ℕ × Key)). map group_account ps ++ l) one.groups
      ∙ sym (map-append group_account ps (p ∷ []));
  requests =
      flat_map-append accounts_in told (g ∷ [])
      ∙ ap (λ (l : List (ℕ × Key)). l ++ request_accounts (g ∷ [])) h.requests
      ∙ ap (λ (l : List (ℕ × Key)). flat_map member_accounts ps ++ l) one.requests
      ∙ sym (flat_map-append member_accounts ps (p ∷ []));
  charges =
      map-append charge_told told (g ∷ [])
      ∙ ap (λ (l : List (GroupNo × ℕ)). l ++ map charge_told (g ∷ [])) h.charges
      ∙ ap (λ (l : List (GroupNo × ℕ)). map group_charge ps ++ l) one.charges
      ∙ sym (map-append group_charge ps (p ∷ []));
}

-- ---- groups that have gone on

same_groups : (ws : List Submitted) (gs hs : List Group) → AllZip IsLater gs hs → map group_account (zip ws gs) ≡ map group_account (zip ws hs)
same_groups [] gs hs z = refl
same_groups (w ∷ ws) [] [] z = refl
same_groups (w ∷ ws) [] (h ∷ hs) z = absurd z
same_groups (w ∷ ws) (g ∷ gs) [] z = absurd z
same_groups (w ∷ ws) (g ∷ gs) (h ∷ hs) z =
    ap (λ (n : GroupNo). (n.0, ipp_key w.document.proposal) ∷ map group_account (zip ws gs)) (sym z.0.number)
    ∙ ap (λ (l : List (ℕ × Key)). (h.number.0, ipp_key w.document.proposal) ∷ l) (same_groups ws gs hs z.1)

same_charges : (ws : List Submitted) (gs hs : List Group) → AllZip IsLater gs hs → map group_charge (zip ws gs) ≡ map group_charge (zip ws hs)
same_charges [] gs hs z = refl
same_charges (w ∷ ws) [] [] z = refl
same_charges (w ∷ ws) [] (h ∷ hs) z = absurd z
same_charges (w ∷ ws) (g ∷ gs) [] z = absurd z
same_charges (w ∷ ws) (g ∷ gs) (h ∷ hs) z =
    ap (λ (n : GroupNo). (n, w.charged) ∷ map group_charge (zip ws gs)) (sym z.0.number)
    ∙ ap (λ (l : List (GroupNo × ℕ)). (h.number, w.charged) ∷ l) (same_charges ws gs hs z.1)

same_members : (document : GroupDoc) (qs rs : List Request) (vs : List Wanted) → AllZip IsLaterRequest qs rs
    → map (member_account document) (zip qs vs) ≡ map (member_account document) (zip rs vs)
same_members document [] [] vs z = refl
same_members document [] (r ∷ rs) vs z = absurd z
same_members document (q ∷ qs) [] vs z = absurd z
same_members document (q ∷ qs) (r ∷ rs) [] z = refl
same_members document (q ∷ qs) (r ∷ rs) (v ∷ vs) z =
    ap (λ (n : RequestNo). (n.0, key_of document v) ∷ map (member_account document) (zip qs vs)) (sym z.0.number)
    ∙ ap (λ (l : List (ℕ × Key)). (r.number.0, key_of document v) ∷ l) (same_members document qs rs vs z.1)

same_requests : (ws : List Submitted) (gs hs : List Group) → AllZip IsLater gs hs → flat_map member_accounts (zip ws gs) ≡ flat_map member_accounts (zip ws hs)
same_requests [] gs hs z = refl
same_requests (w ∷ ws) [] [] z = refl
same_requests (w ∷ ws) [] (h ∷ hs) z = absurd z
same_requests (w ∷ ws) (g ∷ gs) [] z = absurd z
same_requests (w ∷ ws) (g ∷ gs) (h ∷ hs) z =
    ap (λ (l : List (ℕ × Key)). l ++ flat_map member_accounts (zip ws gs)) (same_members w.document g.requests h.requests w.requests z.0.requests)
    ∙ ap (λ (l : List (ℕ × Key)). member_accounts (w, h) ++ l) (same_requests ws gs hs z.1)

-- they are known as before
pub known_along : (told : List GroupTold) (ws : List Submitted) (gs hs : List Group) → AllZip IsLater gs hs → AreKnown told (zip ws gs)
    → AreKnown told (zip ws hs)
known_along told ws gs hs z h = record {
  groups = h.groups ∙ same_groups ws gs hs z;
  requests = h.requests ∙ same_requests ws gs hs z;
  charges = h.charges ∙ same_charges ws gs hs z;
}

-- ---- a group by its number

paid_at : (accounts : List (ℕ × Key)) (ws : List Submitted) (gs hs : List Group) → All (IsFoundIn accounts) (map group_account (zip ws gs))
    → All (IsPaidBy accounts) (zip ws (zip gs hs))
paid_at accounts [] gs hs h = All-nil (IsPaidBy accounts)
paid_at accounts (w ∷ ws) [] hs h = All-nil (IsPaidBy accounts)
paid_at accounts (w ∷ ws) (g ∷ gs) [] h = All-nil (IsPaidBy accounts)
paid_at accounts (w ∷ ws) (g ∷ gs) (x ∷ hs) h =
    All-cons (IsPaidBy accounts) (w, (g, x)) (zip ws (zip gs hs)) (All-head (IsFoundIn accounts) (group_account (w, g)) (map group_account (zip ws gs)) h)
    (paid_at accounts ws gs hs (All-tail (IsFoundIn accounts) (group_account (w, g)) (map group_account (zip ws gs)) h))

numbers_of : (ws : List Submitted) (gs : List Group) → length ws ≡ length gs → map (λ a. a.0) (map group_account (zip ws gs)) ≡ map (λ g. g.number.0) gs
numbers_of [] [] n = refl
numbers_of [] (g ∷ gs) n = absurd (omega arith)
numbers_of (w ∷ ws) [] n = absurd (omega arith)
numbers_of (w ∷ ws) (g ∷ gs) n = ap (λ (l : List ℕ). g.number.0 ∷ l) (numbers_of ws gs (omega arith))

pub group_accounts-append : (told later : List GroupTold) → group_accounts (told ++ later) ≡ group_accounts told ++ group_accounts later
group_accounts-append told later = map-append (λ (x : GroupTold). let a : ℕ × Key = (x.number.0, ipp_key x.document.proposal) in a) told later

-- whatever is told later
pub all_paid : (told later : List GroupTold) (d : DeskSeen) (after : Progress) → IsDesk d → AreKnown told (groups_in d)
    → All (IsPaidBy (group_accounts (told ++ later))) (groups_along d after)
all_paid told later d after h known =
    let accounts : List (ℕ × Key) = map group_account (groups_in d) in
    let counted : IsCountedFrom 0 (map (λ a. a.0) accounts) =
    subst (IsCountedFrom 0) (sym (numbers_of d.groups d.progress.groups (as_submitted d h)))
    (counted_from (map (λ g. g.number.0) d.progress.groups) h.sound.numbered.groups) in
    let found : All (IsFoundIn accounts) accounts = all_found 0 [] accounts (All-nil (λ a. a.0 ≤ 0)) counted in
    let there : All (IsFoundIn (group_accounts told ++ group_accounts later)) accounts = λ k e l.
    in_front (group_accounts told) (group_accounts later) (get_or accounts k e).0 (get_or accounts k e).1
    (ap (λ (xs : List (ℕ × Key)). account_at xs (get_or accounts k e).0) known.groups ∙ found k e l) in
    paid_at (group_accounts (told ++ later)) d.groups d.progress.groups after.groups
    (subst (λ (xs : List (ℕ × Key)). All (IsFoundIn xs) accounts) (sym (group_accounts-append told later)) there)

-- the numbers of a desk's groups are at most as many as there are
pub all_low : (told : List GroupTold) (d : DeskSeen) → IsDesk d → AreKnown told (groups_in d)
    → All (λ a. a.0 < length d.progress.groups + 1) (group_accounts told)
all_low told d h known =
    subst (All (λ a. a.0 < length d.progress.groups + 1)) (sym known.groups)
    (low d.groups d.progress.groups (λ k e l. let at = number_at d.progress.groups k e h.sound.numbered.groups l in omega (arith, at)))
  where
    low : (ws : List Submitted) (gs : List Group) → All (λ g. g.number.0 < length d.progress.groups + 1) gs
        → All (λ a. a.0 < length d.progress.groups + 1) (map group_account (zip ws gs))
    low [] gs l = All-nil (λ a. a.0 < length d.progress.groups + 1)
    low (w ∷ ws) [] l = All-nil (λ a. a.0 < length d.progress.groups + 1)
    low (w ∷ ws) (g ∷ gs) l =
        All-cons (λ a. a.0 < length d.progress.groups + 1) (group_account (w, g)) (map group_account (zip ws gs))
        (All-head (λ x. x.number.0 < length d.progress.groups + 1) g gs l)
        (low ws gs (All-tail (λ x. x.number.0 < length d.progress.groups + 1) g gs l))

-- ---- a request by its number

in_group : (document : GroupDoc) (ms : List (Request × Wanted)) (n : RequestNo) (m : Request × Wanted) → find (λ x. is_request n x.0) ms ≡ Some m
    → account_at (map (member_account document) ms) n.0 ≡ Some (key_of document m.1)
in_group document [] n m e = cc
in_group document (x ∷ ms) n m e = by (is_request n x.0) e (in_group document ms n m)
  where
    by : (b : Bool) → cond b (Some x) (find (λ y. is_request n y.0) ms) ≡ Some m
        → (find (λ y. is_request n y.0) ms ≡ Some m → account_at (map (member_account document) ms) n.0 ≡ Some (key_of document m.1))
        → option_map (λ (a : ℕ × Key). a.1) (cond b (Some (member_account document x)) (find (λ a. a.0 == n.0) (map (member_account document) ms)))
        ≡ Some (key_of document m.1)
    by true f rest = let same : x ≡ m = cc in ap (λ (y : Request × Wanted). Some (key_of document y.1)) same
    by false f rest = rest f

not_in : (document : GroupDoc) (qs : List Request) (vs : List Wanted) (n : RequestNo) (others : List (ℕ × Key)) → list_any (is_request n) qs ≡ false
    → account_at (map (member_account document) (zip qs vs) ++ others) n.0 ≡ account_at others n.0
not_in document [] vs n others e = refl
not_in document (q ∷ qs) [] n others e = refl
not_in document (q ∷ qs) (v ∷ vs) n others e =
    let parts = or_parts (is_request n q) (list_any (is_request n) qs) e in
    ap (λ (b : Bool). option_map (λ (a : ℕ × Key). a.1)
    (cond b (Some (member_account document (q, v))) (find (λ a. a.0 == n.0) (map (member_account document) (zip qs vs) ++ others)))) parts.0
    ∙ not_in document qs vs n others parts.1

member_found : (ps : List (Submitted × Group)) (n : RequestNo) (w : Submitted) (m : Request × Wanted)
    → option_map_or (member_of n) (find (λ p. has_request n p.1) ps) None ≡ Some (w, m)
    → account_at (flat_map member_accounts ps) n.0 ≡ Some (key_of w.document m.1)
member_found [] n w m e = cc
member_found (p ∷ ps) n w m e = by (has_request n p.1) refl e (member_found ps n w m)
  where
    first : (o : Option (Request × Wanted)) → find (λ x. is_request n x.0) (zip p.1.requests p.0.requests) ≡ o
        → option_map (λ x. let y : Submitted × (Request × Wanted) = (p.0, x) in y) o ≡ Some (w, m)
        → account_at (flat_map member_accounts (p ∷ ps)) n.0 ≡ Some (key_of w.document m.1)
    first None is f = cc
    first (Some x) is f =
        let same : p.0 ≡ w = ap (λ (o : Option (Submitted × (Request × Wanted))). option_map_or (λ y. y.0) o w) f in
        let same_too : x ≡ m = ap (λ (o : Option (Submitted × (Request × Wanted))). option_map_or (λ y. y.1) o m) f in
        let key : Some (key_of p.0.document x.1) ≡ Some (key_of w.document m.1) =
        ap (λ (y : Submitted). Some (key_of y.document x.1)) same ∙ ap (λ (y : Request × Wanted). Some (key_of w.document y.1)) same_too in
        in_front (member_accounts p) (flat_map member_accounts ps) n.0 (key_of w.document m.1)
        (in_group p.0.document (zip p.1.requests p.0.requests) n x is ∙ key)

    by : (b : Bool) → has_request n p.1 ≡ b → option_map_or (member_of n) (cond b (Some p) (find (λ x. has_request n x.1) ps)) None ≡ Some (w, m)
        → (option_map_or (member_of n) (find (λ x. has_request n x.1) ps) None ≡ Some (w, m)
        → account_at (flat_map member_accounts ps) n.0 ≡ Some (key_of w.document m.1))
        → account_at (flat_map member_accounts (p ∷ ps)) n.0 ≡ Some (key_of w.document m.1)
    by true is f rest = first (find (λ x. is_request n x.0) (zip p.1.requests p.0.requests)) refl f
    by false is f rest = not_in p.0.document p.1.requests p.0.requests n (flat_map member_accounts ps) is ∙ rest f

-- a request that is there has the account that is told, whatever is told later
pub request_found : (told later : List GroupTold) (d : DeskSeen) (n : RequestNo) (w : Submitted) (m : Request × Wanted) → AreKnown told (groups_in d)
    → request_with d n ≡ Some (w, m)
    → account_at (request_accounts (told ++ later)) n.0 ≡ Some (key_of w.document m.1)
request_found told later d n w m known e =
    ap (λ (xs : List (ℕ × Key)). account_at xs n.0) (flat_map-append accounts_in told later)
    ∙ in_front (request_accounts told) (request_accounts later) n.0 (key_of w.document m.1)
    (ap (λ (xs : List (ℕ × Key)). account_at xs n.0) known.requests ∙ member_found (groups_in d) n w m e)
