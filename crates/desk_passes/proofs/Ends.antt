-- How the table begins, and how it ends.
use Rattle.std.proofs.Common.{◌≡◌, ℕ, zero, suc, List, [], ◌∷◌, refl, sym, ◌∙◌, ap, subst, ◌⊎◌, inl, inr}
use Rattle.std.proofs.Common.{Option, Some, None, length}
use Rattle.std.specs.Prelude.{replicate}
use Rattle.std.proofs.lemmas.List.{length-replicate}
use mathlib.Core.Option.{Option as Home, some, some-injective}
use lib.ListN.{get_elem?}
use Rattle.atomic_table.specs.Table.{State, opening, Final, Seen}
use Rattle.desk_book.specs.Seen.{BookSeen, empty_book, take_of}
use Rattle.desk_passes.specs.declared.seen.PassPlace.TheVariants.{NotMade, Out}
use Rattle.desk_passes.specs.declared.seen.PassView.{PassView}
use Rattle.desk_passes.specs.Seen.{log_of, of_caller, open_with, line_next, EachHasEntry}
use Rattle.desk_passes.specs.Knowing.{IsFull}
use Rattle.desk_passes.specs.Rule.{EachIsBack, EachView, IsHome, IsOut, IsWithin, place_of, Rule, RuleHolds}
use Rattle.desk_passes.specs.Steps.{first_view}
use Rattle.desk_passes.proofs.Logs.{begins_none}
use Rattle.desk_passes.proofs.Keeping.{no_some, same_there}

-- nobody has taken anything in a new book
no_take : (callers caller : ℕ) → take_of (replicate callers None) caller ≡ None
no_take zero zero = refl
no_take zero (suc caller) = refl
no_take (suc callers) zero = refl
no_take (suc callers) (suc caller) = no_take callers caller

-- one view stands at seat 0
only_one : (x v : PassView) (seat : ℕ) → get_elem? (x ∷ []) seat ≡ some v → (seat ≡ 0) × (x ≡ v)
only_one x v zero at = (refl, some-injective x v at)
only_one x v (suc seat) at = cc

-- what holds of the one view holds of each
each_one : (P : ℕ → PassView → Type 0) (x : PassView) → P 0 x → EachView P (x ∷ [])
each_one P x p seat v at =
    let one = only_one x v seat at in subst (λ (k : ℕ). P k v) (sym one.0) (subst (P 0) one.1 p)

-- the rule holds of a new book
pub opens : (callers : ℕ) → IsFull (empty_book callers) → RuleHolds callers (opening (0 ∷ 0 ∷ []) (Some (empty_book callers) ∷ []) (first_view callers))
opens callers full =
    let b : BookSeen = empty_book callers in
    let x : PassView = first_view callers in
    record {
      book = b;
      turn = 0;
      words = refl;
      rule = record {
        shared = record { full = full; count = length-replicate callers [] };
        place = inl record { word = refl; slot = refl; free = each_one (λ seat v. v.turn ≡ None) x refl };
        within = each_one (λ seat v. IsWithin b v) x record {
          seen = begins_none (log_of b);
          told = begins_none (log_of b);
          mine = λ caller is. no_some x.caller caller refl is;
          nobody = λ _. refl;
        };
        apart = each_one (λ i v. EachView (λ j w. (caller : ℕ) → v.caller ≡ Some caller → w.caller ≡ Some caller → i ≡ j) (x ∷ [])) x
            (each_one (λ j w. (caller : ℕ) → x.caller ≡ Some caller → w.caller ≡ Some caller → 0 ≡ j) x (λ caller a b'. refl));
        root = record {
          view = x;
          at = refl;
          nobody = refl;
          count = length-replicate callers NotMade;
          out = each_one (λ seat v. (caller : ℕ) → v.caller ≡ Some caller → place_of x.passes caller ≡ Out) x (λ caller is. no_some x.caller caller refl is);
          not_made = λ caller _. (refl, ap (open_with (line_next b caller)) (no_take callers caller));
          known = λ caller _. record { got = λ is. no_some x.back caller refl is; seen = λ _. refl };
          all = λ _ _. refl;
        };
      };
    }

-- the book comes back, with all that the root has seen
pub record Closes (callers : ℕ) (v : PassView) (slots : List (Option BookSeen)) : Type 0 where
  pub book : BookSeen
  pub slot : get_elem? slots 0 ≡ some (Some book)
  pub count : length book.scripts ≡ callers
  pub seen : v.seen ≡ log_of book
  pub each : EachHasEntry book
  pub nobody : (caller : ℕ) → place_of v.passes caller ≡ NotMade → of_caller caller (log_of book) ≡ []

-- once all passes are back nobody has the book
nobody_out : (callers turn : ℕ) (homes : List (Home (Option BookSeen))) (views : List PassView) (b : BookSeen) (v : PassView)
    → Rule callers turn homes views b → get_elem? views 0 ≡ some v
    → EachIsBack v → (out : IsOut turn homes views b) → (o : Option ℕ) → out.view.caller ≡ o → ⊥
nobody_out callers turn homes views b v r at back out None is = no_some out.view.turn b ((r.within out.holder out.view out.at).nobody is) out.has
nobody_out callers turn homes views b v r at back out (Some caller) is =
    let one : r.root.view ≡ v = same_there views 0 r.root.view v r.root.at at in
    back caller (ap (λ (u : PassView). place_of u.passes caller) (sym one) ∙ r.root.out out.holder out.view out.at caller is)

-- so it is at home
at_home : (callers turn : ℕ) (homes : List (Home (Option BookSeen))) (views : List PassView) (b : BookSeen) (v : PassView)
    → Rule callers turn homes views b → get_elem? views 0 ≡ some v
    → EachIsBack v → IsHome turn homes views b ⊎ IsOut turn homes views b → IsHome turn homes views b
at_home callers turn homes views b v r at back (inl home) = home
at_home callers turn homes views b v r at back (inr out) = absurd (nobody_out callers turn homes views b v r at back out out.view.caller refl)

-- a root that looked once all passes were back gets the book
pub closes : (callers : ℕ) (v : PassView) (id : ℕ) (words : List ℕ) (slots : List (Option BookSeen)) → id ≡ 0 → v.back ≡ None → EachIsBack v
    → Final (Seen (RuleHolds callers) id v) words slots
    → Closes callers v slots
closes callers v id words slots first looked back final =
    let s : State (Option BookSeen) PassView = final.0 in
    let h : RuleHolds callers s = final.1.0 in
    let at : get_elem? s.views 0 ≡ some v = subst (λ (k : ℕ). get_elem? s.views k ≡ some v) first final.1.1 in
    let home = at_home callers h.turn s.homes s.views h.book v h.rule at back h.rule.place in
    record {
      book = h.book;
      slot = final.4 0 (Some h.book) (subst (λ (hs : List (Home (Option BookSeen))). get_elem? hs 0 ≡ some (some (Some h.book))) (sym home.slot) refl);
      count = h.rule.shared.count;
      seen = (subst (λ (u : PassView). u.back ≡ None → EachIsBack u → u.seen ≡ log_of h.book)
          (same_there s.views 0 h.rule.root.view v h.rule.root.at at) h.rule.root.all) looked back;
      each = h.rule.shared.full.each;
      nobody = λ caller unmade. (subst (λ (u : PassView). place_of u.passes caller ≡ NotMade → of_caller caller (log_of h.book) ≡ [])
          (same_there s.views 0 h.rule.root.view v h.rule.root.at at) (λ unmade'. (h.rule.root.not_made caller unmade').0)) unmade;
    }
