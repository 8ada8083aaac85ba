-- The root's passes are made and come back: that keeps the rule.
use Rattle.std.proofs.Common.{◌≡◌, ◌≢◌, ℕ, zero, suc, ◌<◌, List, [], ◌∷◌, ◌++◌, refl, sym, ◌∙◌, ap, subst, ⊎_elim, arith, Option, Some, None}
use Rattle.std.proofs.Common.{slice_set, length}
use Rattle.std.proofs.Common.{length-set, get_or-set_same, get_or-set_other}
use mathlib.Core.Option.{Option as Home, some}
use lib.ListN.{get_elem?}
use Rattle.atomic_table.proofs.Lists.{at_longer}
use Rattle.desk_book.specs.Seen.{BookSeen}
use Rattle.desk_book.proofs.Keeping.{same_or_other}
use Rattle.desk_passes.specs.declared.seen.PassPlace.{PassPlace}
use Rattle.desk_passes.specs.declared.seen.PassPlace.TheVariants.{NotMade, Out, Back}
use Rattle.desk_passes.specs.declared.seen.PassView.{PassView}
use Rattle.desk_passes.specs.declared.seen.SeenEntry.{SeenEntry}
use Rattle.desk_passes.specs.Seen.{log_of, of_caller}
use Rattle.desk_passes.specs.Knowing.{IsOwn, IsAllOf}
use Rattle.desk_passes.specs.Rule.{EachView, IsWithin, place_of, Rule}
use Rattle.desk_passes.specs.Steps.{with_pass_out, new_pass}
use Rattle.desk_passes.proofs.Logs.{begins_none}
use Rattle.desk_passes.proofs.Views.{set_there, each_set, each_more, apart_set, apart_more}
use Rattle.desk_passes.proofs.Keeping.{same_there, no_some, place_put, place_more, unmade_apart}

place_low : (passes : List PassPlace) (caller : ℕ) → place_of passes caller ≡ NotMade → caller < length passes
place_low [] zero h = let clash : Back ≡ NotMade = h in absurd (cc)
place_low [] (suc n) h = let clash : Back ≡ NotMade = h in absurd (cc)
place_low (x ∷ xs) zero h = omega arith
place_low (x ∷ xs) (suc n) h = let less : n < length xs = place_low xs n h in omega arith

-- a caller's pass is made
pub makes_pass : (callers turn : ℕ) (homes : List (Home (Option BookSeen))) (views : List PassView) (b : BookSeen) (caller : ℕ) (v : PassView)
    → Rule callers turn homes views b
    → get_elem? views 0 ≡ some v → place_of v.passes caller ≡ NotMade
    → Rule callers turn homes (slice_set views 0 (with_pass_out caller v) ++ new_pass caller v ∷ []) b
makes_pass callers turn homes views b caller v r at unmade =
    let is : r.root.view ≡ v = same_there views 0 r.root.view v r.root.at at in
    let old : IsWithin b v = r.within 0 v at in
    let w : PassView = with_pass_out caller v in
    let u : PassView = new_pass caller v in
    let nobody : v.caller ≡ None = ap (λ (x : PassView). x.caller) (sym is) ∙ r.root.nobody in
    let still : v.turn ≡ None = old.nobody nobody in
    let low : caller < length v.passes = place_low v.passes caller unmade in
    let count : length v.passes ≡ callers = ap (λ (x : PassView). length x.passes) (sym is) ∙ r.root.count in
    let here : place_of (slice_set v.passes caller Out) caller ≡ Out = get_or-set_same v.passes caller Out Back low in
    let passes : v.passes ≡ r.root.view.passes = ap (λ (x : PassView). x.passes) (sym is) in
    let unmade' : place_of r.root.view.passes caller ≡ NotMade = sym (ap (λ (ps : List PassPlace). place_of ps caller) passes) ∙ unmade in
    let unheld : EachView (λ seat x. x.caller ≢ Some caller) views = unmade_apart callers b views r.root caller unmade' in
    let mid : List PassView = slice_set views 0 w in
    let none_mid : EachView (λ seat x. x.caller ≢ Some caller) mid =
    each_set (λ seat x. x.caller ≢ Some caller) views 0 w unheld (λ mine. no_some v.caller caller nobody mine) in
    record {
      shared = r.shared;
      place = place_more turn homes mid b u refl (place_put turn homes views b 0 v w at still still r.place);
      within = each_more (λ seat x. IsWithin b x) mid u
          (each_set (λ seat x. IsWithin b x) views 0 w r.within record {
            seen = old.seen;
            told = old.told;
            mine = λ caller' mine. no_some v.caller caller' nobody mine;
            nobody = λ _. still;
          })
          record {
            seen = old.seen;
            told = begins_none (log_of b);
            mine = λ caller' mine.
                let one : caller ≡ caller' = cc in
                let facts = r.root.not_made caller unmade' in
                subst (λ (n : ℕ). IsOwn b n u) one record { low = omega (arith, low, count, r.shared.count); own = sym facts.0; take = sym facts.1 };
            nobody = λ _. refl;
          };
      apart = apart_more mid u (apart_set views 0 v w r.apart at (λ caller' mine. mine)) (λ caller' mine.
          let one : caller ≡ caller' = cc in
          subst (λ (n : ℕ). EachView (λ seat x. x.caller ≢ Some n) mid) one none_mid);
      root = record {
        view = w;
        at = at_longer mid (u ∷ []) 0 w (set_there views 0 v w at);
        nobody = nobody;
        count = length-set v.passes caller Out ∙ count;
        out = each_more (λ seat x. (caller' : ℕ) → x.caller ≡ Some caller' → place_of w.passes caller' ≡ Out) mid u
            (each_set (λ seat x. (caller' : ℕ) → x.caller ≡ Some caller' → place_of w.passes caller' ≡ Out) views 0 w
            (λ seat x there caller' mine.
            let ne : caller' ≢ caller = λ same. unheld seat x there (mine ∙ ap (λ (n : ℕ). Some n) same) in
            get_or-set_other v.passes caller caller' Out Back ne ∙ ap (λ (ps : List PassPlace). place_of ps caller') passes
            ∙ r.root.out seat x there caller' mine)
            (λ caller' mine. no_some v.caller caller' nobody mine))
            (λ caller' mine. let one : caller ≡ caller' = cc in subst (λ (n : ℕ). place_of w.passes n ≡ Out) one here);
        not_made = λ caller' unmade''.
            let ne : caller' ≢ caller = λ same.
            let clash : Out ≡ NotMade = sym here ∙ ap (place_of w.passes) (sym same) ∙ unmade'' in absurd (cc) in
            r.root.not_made caller' (sym (ap (λ (ps : List PassPlace). place_of ps caller') passes)
            ∙ sym (get_or-set_other v.passes caller caller' Out Back ne) ∙ unmade'');
        known = λ caller' away.
            let ne : caller' ≢ caller = λ same. away (ap (place_of w.passes) same ∙ here) in
            let it : IsAllOf v caller' (of_caller caller' (log_of b)) = subst (λ (x : PassView). IsAllOf x caller' (of_caller caller' (log_of b))) is
            (r.root.known caller' (λ out'. away (get_or-set_other v.passes caller caller' Out Back ne
            ∙ ap (λ (ps : List PassPlace). place_of ps caller') passes ∙ out'))) in
            record { got = it.got; seen = it.seen };
        all = λ looked back. absurd (back caller here);
      };
    }

-- the root is told of a pass that is back, which is no view's any more
pub takes_back : (callers turn : ℕ) (homes : List (Home (Option BookSeen))) (views : List PassView) (b : BookSeen) (caller : ℕ) (v w : PassView)
    → Rule callers turn homes views b
    → get_elem? views 0 ≡ some v → EachView (λ seat u. u.caller ≢ Some caller) views → caller < callers
    → w.caller ≡ v.caller → w.turn ≡ v.turn → w.passes ≡ slice_set v.passes caller Back → v.back ≡ None → w.back ≡ Some caller
    → w.seen ≡ v.seen → w.own ≡ of_caller caller (log_of b) → IsWithin b w
    → Rule callers turn homes (slice_set views 0 w) b
takes_back callers turn homes views b caller v w r at unheld low same turned back looked unlooked seen own within =
    let is : r.root.view ≡ v = same_there views 0 r.root.view v r.root.at at in
    let nobody : v.caller ≡ None = ap (λ (x : PassView). x.caller) (sym is) ∙ r.root.nobody in
    let still : v.turn ≡ None = (r.within 0 v at).nobody nobody in
    let count : length v.passes ≡ callers = ap (λ (x : PassView). length x.passes) (sym is) ∙ r.root.count in
    let passes : v.passes ≡ r.root.view.passes = ap (λ (x : PassView). x.passes) (sym is) in
    let others : (other : ℕ) → other ≢ caller → place_of w.passes other ≡ place_of r.root.view.passes other = λ other ne.
    ap (λ (ps : List PassPlace). place_of ps other) back ∙ get_or-set_other v.passes caller other Back Back ne
    ∙ ap (λ (ps : List PassPlace). place_of ps other) passes in
    let here : place_of w.passes caller ≡ Back = ap (λ (ps : List PassPlace). place_of ps caller) back
    ∙ get_or-set_same v.passes caller Back Back (omega (arith, low, count)) in
    record {
      shared = r.shared;
      place = place_put turn homes views b 0 v w at still (turned ∙ still) r.place;
      within = each_set (λ seat u. IsWithin b u) views 0 w r.within within;
      apart = apart_set views 0 v w r.apart at (λ caller' mine. sym same ∙ mine);
      root = record {
        view = w;
        at = set_there views 0 v w at;
        nobody = same ∙ nobody;
        count = ap (λ (ps : List PassPlace). length ps) back ∙ length-set v.passes caller Back ∙ count;
        out = each_set (λ seat u. (caller' : ℕ) → u.caller ≡ Some caller' → place_of w.passes caller' ≡ Out) views 0 w
            (λ seat u there caller' mine.
            others caller' (λ one. unheld seat u there (mine ∙ ap (λ (n : ℕ). Some n) one)) ∙ r.root.out seat u there caller' mine)
            (λ caller' mine. no_some v.caller caller' nobody (sym same ∙ mine));
        not_made = λ other unmade.
            let ne : other ≢ caller = λ one.
            let clash : Back ≡ NotMade = sym here ∙ ap (place_of w.passes) (sym one) ∙ unmade in absurd (cc) in
            r.root.not_made other (sym (others other ne) ∙ unmade);
        known = λ other away. ⊎_elim
            (λ (one : other ≡ caller). record {
              got = λ _. ap (λ (n : ℕ). of_caller n (log_of b)) one ∙ sym own;
              seen = λ ne. absurd (ne (unlooked ∙ ap (λ (n : ℕ). Some n) (sym one)));
            })
            (λ (ne : other ≢ caller).
            let it : IsAllOf v other (of_caller other (log_of b)) = subst (λ (x : PassView). IsAllOf x other (of_caller other (log_of b))) is
            (r.root.known other (λ out'. away (others other ne ∙ out'))) in
            record {
              got = λ is'. let both : Some caller ≡ Some other = sym unlooked ∙ is' in let one : caller ≡ other = cc in absurd (ne (sym one));
              seen = λ _. it.seen (λ is'. no_some v.back other looked is') ∙ sym (ap (λ (xs : List SeenEntry). of_caller other xs) seen);
            })
            (same_or_other other caller);
        all = λ none _. no_some w.back caller none unlooked;
      };
    }
