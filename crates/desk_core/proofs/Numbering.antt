-- Targets that get numbers: none is lost, and the first ones stay where they are.
use Rattle.std.proofs.Common.{◌≡◌, ◌≢◌, ◌∙◌, ap, subst, sym, refl, ℕ, ◌+◌, ◌<◌, ◌≤◌, nat_le, Bool, true, false, List, [], ◌∷◌, ◌++◌, length, take}
use Rattle.std.proofs.Common.{drop, get_or, Option, Some, None, Result, Ok, Err, arith}
use Rattle.std.specs.Result.{IsErrAnd}
use Rattle.std.specs.List.{filter_map, cons_option}
use Rattle.std.proofs.Math.Seq.{take-append_seam}
use Rattle.std.proofs.lemmas.Bool.{leb-true}
use Rattle.std.proofs.lemmas.List.{append-nil, append_assoc, length-append, map-append, map_more, take_more, take-append-drop}
use Rattle.std.proofs.lemmas.List.Concat.{flat_map-append}
use Rattle.std.proofs.lemmas.List.Elements.{filter_map-append}
use Rattle.std.proofs.lemmas.List.Sums.{fold-append}
use Rattle.request_model.specs.declared.request.ConfigDoc.{ConfigDoc}
use Rattle.request_model.specs.declared.request.RequestDoc.{RequestDoc}
use Rattle.site_model.specs.declared.fault.SiteFault.{SiteFault}
use Rattle.site_model.specs.declared.fault.SiteFault.TheVariants.{NoMemory}
use Rattle.site_model.specs.declared.fault.FullOf.TheVariants.{Targets}
use Rattle.site_model.specs.Limits.{most_targets, full}
use Rattle.site_model.specs.Names.{is_named, numbered}
use Rattle.site_model.specs.Network.{NetworkSeen, adds_target, forgets_targets}
use Rattle.site_model.specs.Registry.{target_refusal}
use Rattle.desk_core.specs.Targets.{names_of, target_names, all_numbered, with_targets, IsGrown, AreTooMany, Numbers}

-- ---- the targets, and more at their end

pub record IsMore (old new : List (List ℕ)) : Type 0 where
  pub more : List (List ℕ)
  pub is : new ≡ old ++ more

numbered_more : (targets : List (List ℕ)) (name : List ℕ) → IsMore targets (numbered targets name)
numbered_more targets name = by (is_named targets name) refl
  where
    by : (b : Bool) → is_named targets name ≡ b → IsMore targets (numbered targets name)
    by true e = record { more = []; is = rw e (sym (append-nil targets)) }
    by false e = record { more = name ∷ []; is = rw e refl }

-- names that get numbers go to the end
pub all_numbered_more : (targets names : List (List ℕ)) → IsMore targets (all_numbered targets names)
all_numbered_more targets [] = record { more = []; is = sym (append-nil targets) }
all_numbered_more targets (name ∷ names) =
    let one = numbered_more targets name in
    let rest = all_numbered_more (numbered targets name) names in
    record {
      more = one.more ++ rest.more;
      is = rest.is ∙ ap (λ (l : List (List ℕ)). l ++ rest.more) one.is ∙ append_assoc targets one.more rest.more;
    }

-- so there are no fewer
pub all_numbered_at_least : (targets names : List (List ℕ)) → length targets ≤ length (all_numbered targets names)
all_numbered_at_least targets names =
    let m = all_numbered_more targets names in
    omega (arith, ap length m.is, length-append targets m.more)

-- some names after others
pub numbered_after : (targets before after : List (List ℕ)) → all_numbered targets (before ++ after) ≡ all_numbered (all_numbered targets before) after
numbered_after targets before after = fold-append numbered targets before after

-- the first names make no more targets than all
first_at_most : (targets before after names : List (List ℕ)) → names ≡ before ++ after
    → length (all_numbered targets before) ≤ length (all_numbered targets names)
first_at_most targets before after names e =
    let all : all_numbered targets names ≡ all_numbered (all_numbered targets before) after = ap (all_numbered targets) e
    ∙ numbered_after targets before after in
    let least = all_numbered_at_least (all_numbered targets before) after in
    omega (arith, ap length all)

-- ---- networks

pub grown_by : (names : List (List ℕ)) (n m : NetworkSeen) → m ≡ with_targets (all_numbered n.registry.targets names) n → IsGrown n m
grown_by names n m e =
    let t = all_numbered_more n.registry.targets names in
    record { more = t.more; is = e ∙ ap (λ (l : List (List ℕ)). with_targets l n) t.is }

pub grown_after : (n m k : NetworkSeen) → IsGrown n m → IsGrown m k → IsGrown n k
grown_after n m k g h = record {
  more = g.more ++ h.more;
  is = h.is ∙ ap (λ (m : NetworkSeen). with_targets (m.registry.targets ++ h.more) m) g.is
      ∙ ap (λ (l : List (List ℕ)). with_targets l n) (append_assoc n.registry.targets g.more h.more);
}

-- the network without the targets that came in addition
pub shrunk : (n m : NetworkSeen) → IsGrown n m → forgets_targets (length n.registry.targets) m ≡ n
shrunk n m g =
    ap (forgets_targets (length n.registry.targets)) g.is
    ∙ ap (λ (l : List (List ℕ)). with_targets l n) (take-append_seam n.registry.targets g.more)

-- ---- one name after another

-- the names of one more configuration
names_more : (cs : List ConfigDoc) (i : ℕ) (d : ConfigDoc) → i < length cs → names_of (take (i + 1) cs) ≡ names_of (take i cs) ++ (get_or cs i d).target ∷ []
names_more cs i d l = map_more (λ c. c.target) cs i d l

pub one_more : (n m : NetworkSeen) (cs : List ConfigDoc) (i : ℕ) (d : ConfigDoc) → i < length cs
    → m ≡ with_targets (all_numbered n.registry.targets (names_of (take i cs))) n
    → adds_target m (get_or cs i d).target ≡ with_targets (all_numbered n.registry.targets (names_of (take (i + 1) cs))) n
one_more n m cs i d l e =
    let step : all_numbered n.registry.targets (names_of (take (i + 1) cs))
    ≡ numbered (all_numbered n.registry.targets (names_of (take i cs))) (get_or cs i d).target =
    ap (all_numbered n.registry.targets) (names_more cs i d l) ∙ numbered_after n.registry.targets (names_of (take i cs)) ((get_or cs i d).target ∷ []) in
    ap (λ (m : NetworkSeen). adds_target m (get_or cs i d).target) e ∙ ap (λ (l : List (List ℕ)). with_targets l n) (sym step)

-- a target is refused where it is new and there are as many as there may be
pub record IsOneTooMany (targets : List (List ℕ)) (name : List ℕ) (fault : SiteFault) : Type 0 where
  pub is : fault ≡ full Targets
  pub many : most_targets < length (numbered targets name)

refused_new : (n : NetworkSeen) (name : List ℕ) (fault : SiteFault) → target_refusal n.registry name ≡ Some fault → IsOneTooMany n.registry.targets name fault
refused_new n name fault h = by (is_named n.registry.targets name) (nat_le most_targets (length n.registry.targets)) refl refl
  where
    by : (b c : Bool) → is_named n.registry.targets name ≡ b → nat_le most_targets (length n.registry.targets) ≡ c → IsOneTooMany n.registry.targets name fault
    by true c e f = let bad : None ≡ Some fault = rw e at h in absurd (cc)
    by false false e f = let bad : None ≡ Some fault = rw f at (rw e at h) in absurd (cc)
    by false true e f =
        let is : Some (full Targets) ≡ Some fault = rw f at (rw e at h) in
        let more : length (numbered n.registry.targets name) ≡ length n.registry.targets + 1 = rw e (length-append n.registry.targets (name ∷ [])) in
        let many = leb-true most_targets (length n.registry.targets) f in
        record { is = cc; many = omega arith }

pub too_many_at : (n m : NetworkSeen) (cs : List ConfigDoc) (i : ℕ) (d : ConfigDoc) (fault : SiteFault) → i < length cs
    → m ≡ with_targets (all_numbered n.registry.targets (names_of (take i cs))) n → target_refusal m.registry (get_or cs i d).target ≡ Some fault
    → AreTooMany n.registry.targets (names_of cs) fault
too_many_at n m cs i d fault l e h =
    let refused = refused_new m (get_or cs i d).target fault h in
    let more : adds_target m (get_or cs i d).target ≡ with_targets (all_numbered n.registry.targets (names_of (take (i + 1) cs))) n = one_more n m cs i d l e in
    let same : numbered m.registry.targets (get_or cs i d).target ≡ all_numbered n.registry.targets (names_of (take (i + 1) cs)) =
    ap (λ (m : NetworkSeen). m.registry.targets) more in
    let whole : names_of cs ≡ names_of (take (i + 1) cs) ++ names_of (drop (i + 1) cs) =
    ap names_of (sym (take-append-drop (i + 1) cs)) ∙ map-append (λ c. c.target) (take (i + 1) cs) (drop (i + 1) cs) in
    let most = first_at_most n.registry.targets (names_of (take (i + 1) cs)) (names_of (drop (i + 1) cs)) (names_of cs) whole in
    record { is = refused.is; many = omega (arith, refused.many, ap length same) }

-- ---- one request after another

-- the names of one more request
pub request_more : (rs : List RequestDoc) (i : ℕ) (d : RequestDoc) → i < length rs → target_names (take (i + 1) rs) ≡ target_names (take i rs)
    ++ names_of (get_or rs i d).configurations
request_more rs i d l =
    ap target_names (take_more rs i d l) ∙ flat_map-append (λ q. names_of q.configurations) (take i rs) (get_or rs i d ∷ [])
    ∙ ap (λ (r : List (List ℕ)). target_names (take i rs) ++ r) (append-nil (names_of (get_or rs i d).configurations))

pub requests_more : (n m k : NetworkSeen) (rs : List RequestDoc) (i : ℕ) (d : RequestDoc) → i < length rs
    → m ≡ with_targets (all_numbered n.registry.targets (target_names (take i rs))) n
    → k ≡ with_targets (all_numbered m.registry.targets (names_of (get_or rs i d).configurations)) m
    → k ≡ with_targets (all_numbered n.registry.targets (target_names (take (i + 1) rs))) n
requests_more n m k rs i d l e f =
    let names = names_of (get_or rs i d).configurations in
    let step : all_numbered n.registry.targets (target_names (take (i + 1) rs))
    ≡ all_numbered (all_numbered n.registry.targets (target_names (take i rs))) names =
    ap (all_numbered n.registry.targets) (request_more rs i d l) ∙ numbered_after n.registry.targets (target_names (take i rs)) names in
    f ∙ ap (λ (m : NetworkSeen). with_targets (all_numbered m.registry.targets names) m) e ∙ ap (λ (l : List (List ℕ)). with_targets l n) (sym step)

pub requests_too_many : (n m : NetworkSeen) (rs : List RequestDoc) (i : ℕ) (d : RequestDoc) (fault : SiteFault) → i < length rs
    → m ≡ with_targets (all_numbered n.registry.targets (target_names (take i rs))) n
    → AreTooMany m.registry.targets (names_of (get_or rs i d).configurations) fault → AreTooMany n.registry.targets (target_names rs) fault
requests_too_many n m rs i d fault l e h =
    let names = names_of (get_or rs i d).configurations in
    let same : all_numbered m.registry.targets names ≡ all_numbered n.registry.targets (target_names (take (i + 1) rs)) =
    ap (λ (m : NetworkSeen). all_numbered m.registry.targets names) e ∙ sym (numbered_after n.registry.targets (target_names (take i rs)) names)
    ∙ ap (all_numbered n.registry.targets) (sym (request_more rs i d l)) in
    let whole : target_names rs ≡ target_names (take (i + 1) rs) ++ target_names (drop (i + 1) rs) =
    ap target_names (sym (take-append-drop (i + 1) rs)) ∙ flat_map-append (λ q. names_of q.configurations) (take (i + 1) rs) (drop (i + 1) rs) in
    let most = first_at_most n.registry.targets (target_names (take (i + 1) rs)) (target_names (drop (i + 1) rs)) (target_names rs) whole in
    record { is = h.is; many = omega (arith, h.many, ap length same) }

-- ---- what a call answers

-- it passed on why a call before it gave up
pub gave_up : {V : Type 0} (names : List (List ℕ)) (n m : NetworkSeen) (fault : SiteFault) (result : Result V SiteFault)
    → IsErrAnd result (λ f. f ≡ fault) → (fault ≢ NoMemory → AreTooMany n.registry.targets names fault) → IsGrown n m → Numbers names n m result
gave_up names n m fault (Ok v) is refused grown = absurd is
gave_up names n m fault (Err f) is refused grown =
    record {
      ok = tt;
      refused = λ memory. subst (λ (f : SiteFault). AreTooMany n.registry.targets names f) (sym is)
          (refused (λ none. memory (is ∙ none)));
      grown = grown;
    }

-- ---- one more in a list

pub filter_map_more : {X Y : Type 0} (f : X → Option Y) (xs : List X) (i : ℕ) (d : X) → i < length xs
    → filter_map f (take (i + 1) xs) ≡ filter_map f (take i xs) ++ cons_option (f (get_or xs i d)) []
filter_map_more f xs i d l = ap (filter_map f) (take_more xs i d l) ∙ filter_map-append f (take i xs) (get_or xs i d ∷ [])
