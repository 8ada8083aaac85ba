-- Each step keeps the rule.
use Rattle.std.proofs.Common.{◌≡◌, ◌≢◌, ℕ, zero, suc, ◌<◌, List, [], ◌∷◌, ◌++◌, refl, sym, ◌∙◌, ap, subst, ◌⊎◌, inl, inr, ⊎_elim, arith, Option}
use Rattle.std.proofs.Common.{Some, None, slice_set, length}
use mathlib.Core.Option.{Option as Home, some, none, some-injective}
use lib.ListN.{get_elem?}
use Rattle.atomic_table.proofs.Lists.{at_longer, set_else}
use Rattle.desk_book.specs.Seen.{BookSeen}
use Rattle.desk_book.proofs.Keeping.{same_or_other}
use Rattle.desk_passes.specs.declared.seen.PassPlace.{PassPlace}
use Rattle.desk_passes.specs.declared.seen.PassPlace.TheVariants.{NotMade, Out}
use Rattle.desk_passes.specs.declared.seen.PassView.{PassView}
use Rattle.desk_passes.specs.declared.seen.SeenEntry.{SeenEntry}
use Rattle.desk_passes.specs.Seen.{log_of, of_caller, open_take, BeginsWith}
use Rattle.desk_passes.specs.Knowing.{IsOwn, IsAllOf}
use Rattle.desk_passes.specs.Rule.{EachIsBack, EachView, IsShared, IsHome, IsOut, IsWithin, place_of, IsRoot, Rule}
use Rattle.desk_passes.specs.Steps.{spent, with_turn, with_entry, without_turn}
use Rattle.desk_passes.specs.Turns.{HasOneMore}
use Rattle.desk_passes.proofs.Logs.{begins_same, begins_none, begins_more, own_other}
use Rattle.desk_passes.proofs.Views.{set_there, each_set, each_others, each_more, apart_set, apart_more}

-- two that stand at one place are one
pub same_there : (views : List PassView) (i : ℕ) (v w : PassView) → get_elem? views i ≡ some v → get_elem? views i ≡ some w → v ≡ w
same_there views i v w a b = some-injective v w (sym a ∙ b)

pub no_some : {A : Type 0} {X : Type 0} (o : Option A) (x : A) → o ≡ None → o ≡ Some x → X
no_some o x empty is = let clash : None ≡ Some x = sym empty ∙ is in absurd (cc)

-- ---- where the book is

-- the book is at home, or out with another view
abbrev pub Place : ℕ → List (Home (Option BookSeen)) → List PassView → BookSeen → Type 0
Place turn homes views b = IsHome turn homes views b ⊎ IsOut turn homes views b

pub place_put : (turn : ℕ) (homes : List (Home (Option BookSeen))) (views : List PassView) (b : BookSeen) (i : ℕ) (v w : PassView)
    → get_elem? views i ≡ some v → v.turn ≡ None → w.turn ≡ None
    → Place turn homes views b → Place turn homes (slice_set views i w) b
place_put turn homes views b i v w at still stays (inl home) =
    inl record { word = home.word; slot = home.slot; free = each_set (λ seat u. u.turn ≡ None) views i w home.free stays }
place_put turn homes views b i v w at still stays (inr out) =
    let other : out.holder ≢ i = λ same.
    let is : out.view ≡ v = same_there views i out.view v (subst (λ (k : ℕ). get_elem? views k ≡ some out.view) same out.at) at in
    no_some v.turn b still (ap (λ (u : PassView). u.turn) (sym is) ∙ out.has) in
    inr record {
      word = out.word;
      slot = out.slot;
      holder = out.holder;
      view = out.view;
      at = set_else views i out.holder w other ∙ out.at;
      has = out.has;
      seen = out.seen;
      others = each_set (λ seat u. seat ≢ out.holder → u.turn ≡ None) views i w out.others (λ _. stays);
    }

pub place_more : (turn : ℕ) (homes : List (Home (Option BookSeen))) (views : List PassView) (b : BookSeen) (u : PassView) → u.turn ≡ None
    → Place turn homes views b → Place turn homes (views ++ u ∷ []) b
place_more turn homes views b u stays (inl home) =
    inl record { word = home.word; slot = home.slot; free = each_more (λ seat w. w.turn ≡ None) views u home.free stays }
place_more turn homes views b u stays (inr out) = inr record {
  word = out.word;
  slot = out.slot;
  holder = out.holder;
  view = out.view;
  at = at_longer views (u ∷ []) out.holder out.view out.at;
  has = out.has;
  seen = out.seen;
  others = each_more (λ seat w. seat ≢ out.holder → w.turn ≡ None) views u out.others (λ _. stays);
}

-- the view with the turn is the one that the book is out with
pub holder_out : (turn : ℕ) (homes : List (Home (Option BookSeen))) (views : List PassView) (b c : BookSeen) (i : ℕ) (v : PassView)
    → get_elem? views i ≡ some v → v.turn ≡ Some c
    → Place turn homes views b → (out : IsOut turn homes views b) × (out.holder ≡ i) × (out.view ≡ v) × (b ≡ c)
holder_out turn homes views b c i v at has (inl home) = no_some v.turn c (home.free i v at) has
holder_out turn homes views b c i v at has (inr out) =
    ⊎_elim
    (λ (same : i ≡ out.holder).
    let is : out.view ≡ v = same_there views i out.view v (subst (λ (k : ℕ). get_elem? views k ≡ some out.view) (sym same) out.at) at in
    let both : Some b ≡ Some c = sym out.has ∙ ap (λ (u : PassView). u.turn) is ∙ has in
    let one : b ≡ c = cc in
    (out, sym same, is, one))
    (λ (other : i ≢ out.holder). no_some v.turn c (out.others i v at other) has)
    (same_or_other i out.holder)

-- ---- the root

-- a caller's view isn't the root's
pub not_root : (callers : ℕ) (b : BookSeen) (views : List PassView) (i caller : ℕ) (v : PassView) → IsRoot callers b views
    → get_elem? views i ≡ some v → v.caller ≡ Some caller → i ≢ 0
not_root callers b views i caller v root at is same =
    let one : root.view ≡ v = same_there views 0 root.view v root.at (subst (λ (k : ℕ). get_elem? views k ≡ some v) same at) in
    no_some v.caller caller (ap (λ (u : PassView). u.caller) (sym one) ∙ root.nobody) is

-- ---- a view is replaced by one that knows more

pub record Replaces (b : BookSeen) (v w : PassView) : Type 0 where
  pub caller : w.caller ≡ v.caller
  pub passes : w.passes ≡ v.passes
  pub still : v.turn ≡ None
  pub stays : w.turn ≡ None
  pub within : IsWithin b w
  pub known : (caller : ℕ) → IsAllOf v caller (of_caller caller (log_of b)) → IsAllOf w caller (of_caller caller (log_of b))
  pub all : (v.back ≡ None → EachIsBack v → v.seen ≡ log_of b) → w.back ≡ None → EachIsBack w → w.seen ≡ log_of b

root_put : (callers : ℕ) (b : BookSeen) (views : List PassView) (i : ℕ) (v w : PassView) → get_elem? views i ≡ some v
    → w.caller ≡ v.caller → w.passes ≡ v.passes
    → ((caller : ℕ) → IsAllOf v caller (of_caller caller (log_of b)) → IsAllOf w caller (of_caller caller (log_of b)))
    → ((v.back ≡ None → EachIsBack v → v.seen ≡ log_of b) → w.back ≡ None → EachIsBack w → w.seen ≡ log_of b) → IsRoot callers b views
    → IsRoot callers b (slice_set views i w)
root_put callers b views zero v w at same passes known all root =
    let is : root.view ≡ v = same_there views 0 root.view v root.at at in
    let held : w.passes ≡ root.view.passes = passes ∙ ap (λ (u : PassView). u.passes) (sym is) in
    record {
      view = w;
      at = set_there views 0 v w at;
      nobody = same ∙ ap (λ (u : PassView). u.caller) (sym is) ∙ root.nobody;
      count = ap (λ (ps : List PassPlace). length ps) held ∙ root.count;
      out = each_set (λ seat u. (caller : ℕ) → u.caller ≡ Some caller → place_of w.passes caller ≡ Out) views 0 w
          (λ seat u there caller mine. ap (λ (ps : List PassPlace). place_of ps caller) held ∙ root.out seat u there caller mine)
          (λ caller mine. no_some v.caller caller (ap (λ (u : PassView). u.caller) (sym is) ∙ root.nobody) (sym same ∙ mine));
      not_made = λ caller unmade. root.not_made caller (sym (ap (λ (ps : List PassPlace). place_of ps caller) held) ∙ unmade);
      known = λ caller away. known caller (subst (λ (u : PassView). IsAllOf u caller (of_caller caller (log_of b))) is
          (root.known caller (λ out. away (ap (λ (ps : List PassPlace). place_of ps caller) held ∙ out))));
      all = all (subst (λ (u : PassView). u.back ≡ None → EachIsBack u → u.seen ≡ log_of b) is root.all);
    }
root_put callers b views (suc i) v w at same passes known all root = record {
  view = root.view;
  at = set_else views (suc i) 0 w (λ e. omega arith) ∙ root.at;
  nobody = root.nobody;
  count = root.count;
  out = each_set (λ seat u. (caller : ℕ) → u.caller ≡ Some caller → place_of root.view.passes caller ≡ Out) views (suc i) w root.out
      (λ caller mine. root.out (suc i) v at caller (sym same ∙ mine));
  not_made = root.not_made;
  known = root.known;
  all = root.all;
}

pub rule_put : (callers turn : ℕ) (homes : List (Home (Option BookSeen))) (views : List PassView) (b : BookSeen) (i : ℕ) (v w : PassView)
    → Rule callers turn homes views b
    → get_elem? views i ≡ some v → Replaces b v w → Rule callers turn homes (slice_set views i w) b
rule_put callers turn homes views b i v w r at new = record {
  shared = r.shared;
  place = place_put turn homes views b i v w at new.still new.stays r.place;
  within = each_set (λ seat u. IsWithin b u) views i w r.within new.within;
  apart = apart_set views i v w r.apart at (λ caller mine. sym new.caller ∙ mine);
  root = root_put callers b views i v w at new.caller new.passes new.known new.all r.root;
}

-- ---- a view is added that is unheld

pub rule_more : (callers turn : ℕ) (homes : List (Home (Option BookSeen))) (views : List PassView) (b : BookSeen) (u : PassView)
    → Rule callers turn homes views b
    → u.caller ≡ None → u.turn ≡ None → IsWithin b u → Rule callers turn homes (views ++ u ∷ []) b
rule_more callers turn homes views b u r nobody stays within = record {
  shared = r.shared;
  place = place_more turn homes views b u stays r.place;
  within = each_more (λ seat w. IsWithin b w) views u r.within within;
  apart = apart_more views u r.apart (λ caller mine. no_some u.caller caller nobody mine);
  root = record {
    view = r.root.view;
    at = at_longer views (u ∷ []) 0 r.root.view r.root.at;
    nobody = r.root.nobody;
    count = r.root.count;
    out = each_more (λ seat w. (caller : ℕ) → w.caller ≡ Some caller → place_of r.root.view.passes caller ≡ Out) views u r.root.out
        (λ caller mine. no_some u.caller caller nobody mine);
    not_made = r.root.not_made;
    known = r.root.known;
    all = r.root.all;
  };
}

-- ---- a view is spent

within_spent : (b : BookSeen) → IsWithin b spent
within_spent b = record {
  seen = begins_none (log_of b);
  told = begins_none (log_of b);
  mine = λ caller is. no_some spent.caller caller refl is;
  nobody = λ _. refl;
}

pub rule_spent : (callers turn : ℕ) (homes : List (Home (Option BookSeen))) (views : List PassView) (b : BookSeen) (i : ℕ) (v : PassView)
    → Rule callers turn homes views b
    → get_elem? views i ≡ some v → i ≢ 0 → v.turn ≡ None → Rule callers turn homes (slice_set views i spent) b
rule_spent callers turn homes views b i v r at later still = record {
  shared = r.shared;
  place = place_put turn homes views b i v spent at still refl r.place;
  within = each_set (λ seat u. IsWithin b u) views i spent r.within (within_spent b);
  apart = apart_set views i v spent r.apart at (λ caller is. no_some spent.caller caller refl is);
  root = record {
    view = r.root.view;
    at = set_else views i 0 spent (λ e. later (sym e)) ∙ r.root.at;
    nobody = r.root.nobody;
    count = r.root.count;
    out = each_set (λ seat u. (caller : ℕ) → u.caller ≡ Some caller → place_of r.root.view.passes caller ≡ Out) views i spent r.root.out
        (λ caller is. no_some spent.caller caller refl is);
    not_made = r.root.not_made;
    known = r.root.known;
    all = r.root.all;
  };
}

-- ---- a caller's view steps

pub record Steps (callers : ℕ) (views : List PassView) (b : BookSeen) (i : ℕ) (w : PassView) (turn : ℕ) (homes : List (Home (Option BookSeen)))
    (c : BookSeen) : Type 0 where
  pub shared : IsShared callers c
  pub place : Place turn homes (slice_set views i w) c
  pub others : (seat : ℕ) (u : PassView) → seat ≢ i → get_elem? views seat ≡ some u → IsWithin b u → IsWithin c u
  pub within : IsWithin c w
  pub not_made : (caller : ℕ) → ((seat : ℕ) (u : PassView) → get_elem? views seat ≡ some u → u.caller ≢ Some caller)
      → (of_caller caller (log_of b) ≡ []) × (open_take b caller ≡ None)
      → (of_caller caller (log_of c) ≡ []) × (open_take c caller ≡ None)
  pub same : (caller : ℕ) → ((seat : ℕ) (u : PassView) → get_elem? views seat ≡ some u → u.caller ≢ Some caller)
      → of_caller caller (log_of c) ≡ of_caller caller (log_of b)

pub unmade_apart : (callers : ℕ) (b : BookSeen) (views : List PassView) (root : IsRoot callers b views) (caller : ℕ)
    → place_of root.view.passes caller ≡ NotMade
    → (seat : ℕ) (u : PassView) → get_elem? views seat ≡ some u → u.caller ≢ Some caller
unmade_apart callers b views root caller unmade seat u at mine =
    let clash : NotMade ≡ Out = sym unmade ∙ root.out seat u at caller mine in absurd (cc)

pub rule_steps : (callers turn : ℕ) (homes : List (Home (Option BookSeen))) (views : List PassView) (b : BookSeen) (i caller : ℕ) (v w : PassView)
    (turn' : ℕ) (homes' : List (Home (Option BookSeen))) (c : BookSeen)
    → Rule callers turn homes views b → get_elem? views i ≡ some v → v.caller ≡ Some caller → w.caller ≡ v.caller → Steps callers views b i w turn' homes' c
    → Rule callers turn' homes' (slice_set views i w) c
rule_steps callers turn homes views b i caller v w turn' homes' c r at mine same new =
    let later : i ≢ 0 = not_root callers b views i caller v r.root at mine in
    record {
      shared = new.shared;
      place = new.place;
      within = each_others (λ seat u. IsWithin b u) (λ seat u. IsWithin c u) views i w new.others r.within new.within;
      apart = apart_set views i v w r.apart at (λ caller' is. sym same ∙ is);
      root = record {
        view = r.root.view;
        at = set_else views i 0 w (λ e. later (sym e)) ∙ r.root.at;
        nobody = r.root.nobody;
        count = r.root.count;
        out = each_set (λ seat u. (caller' : ℕ) → u.caller ≡ Some caller' → place_of r.root.view.passes caller' ≡ Out) views i w r.root.out
            (λ caller' is. r.root.out i v at caller' (sym same ∙ is));
        not_made = λ caller' unmade. new.not_made caller' (unmade_apart callers b views r.root caller' unmade) (r.root.not_made caller' unmade);
        known = λ caller' away. subst (IsAllOf r.root.view caller')
            (sym (new.same caller' (λ seat u there is. away (r.root.out seat u there caller' is)))) (r.root.known caller' away);
        all = λ looked back. absurd (back caller (r.root.out i v at caller mine));
      };
    }

-- the turn is taken
pub takes_turn : (callers turn : ℕ) (homes : List (Home (Option BookSeen))) (views : List PassView) (b : BookSeen) (i caller : ℕ) (v : PassView)
    → Rule callers turn homes views b
    → IsHome turn homes views b → get_elem? views i ≡ some v → v.caller ≡ Some caller → Rule callers 1 (none ∷ []) (slice_set views i (with_turn b v)) b
takes_turn callers turn homes views b i caller v r home at mine =
    let old : IsWithin b v = r.within i v at in
    let own : IsOwn b caller v = old.mine caller mine in
    rule_steps callers turn homes views b i caller v (with_turn b v) 1 (none ∷ []) b r at mine refl record {
      shared = r.shared;
      place = inr record {
        word = refl;
        slot = refl;
        holder = i;
        view = with_turn b v;
        at = set_there views i v (with_turn b v) at;
        has = refl;
        seen = refl;
        others = each_others (λ seat u. u.turn ≡ None) (λ seat u. seat ≢ i → u.turn ≡ None) views i (with_turn b v)
            (λ seat u _ _ free _. free) home.free (λ ne. absurd (ne refl));
      };
      others = λ seat u _ _ within. within;
      within = record {
        seen = begins_same (log_of b);
        told = begins_none (log_of b);
        mine = λ caller' is. let it : IsOwn b caller' v = old.mine caller' is in record { low = it.low; own = it.own; take = it.take };
        nobody = λ empty. no_some v.caller caller empty mine;
      };
      not_made = λ caller' _ facts. facts;
      same = λ caller' _. refl;
    }

-- the turn is given back
pub gives_turn : (callers turn : ℕ) (homes : List (Home (Option BookSeen))) (views : List PassView) (b : BookSeen) (i caller : ℕ) (v : PassView)
    → Rule callers turn homes views b
    → (out : IsOut turn homes views b) → out.holder ≡ i → get_elem? views i ≡ some v → v.caller ≡ Some caller
    → Rule callers 0 (some (Some b) ∷ []) (slice_set views i (without_turn v)) b
gives_turn callers turn homes views b i caller v r out held at mine =
    let old : IsWithin b v = r.within i v at in
    rule_steps callers turn homes views b i caller v (without_turn v) 0 (some (Some b) ∷ []) b r at mine refl record {
      shared = r.shared;
      place = inl record {
        word = refl;
        slot = refl;
        free = each_others (λ seat u. seat ≢ out.holder → u.turn ≡ None) (λ seat u. u.turn ≡ None) views i (without_turn v)
            (λ seat u ne _ free. free (λ same. ne (same ∙ held))) out.others refl;
      };
      others = λ seat u _ _ within. within;
      within = record {
        seen = old.seen;
        told = old.told;
        mine = λ caller' is. let it : IsOwn b caller' v = old.mine caller' is in record { low = it.low; own = it.own; take = it.take };
        nobody = λ _. refl;
      };
      not_made = λ caller' _ facts. facts;
      same = λ caller' _. refl;
    }

-- an entry of another caller changes nothing of one's own
own_stays : (b c : BookSeen) (caller other : ℕ) (u : PassView) → HasOneMore b caller c → other ≢ caller → IsOwn b other u → IsOwn c other u
own_stays b c caller other u more ne own =
    let apart : more.entry.entry.caller ≢ other = λ same. ne (sym same ∙ more.mine) in
    record {
      low = subst (λ (n : ℕ). other < n) (sym more.callers) own.low;
      own = own.own ∙ sym (ap (of_caller other) more.log ∙ own_other other (log_of b) more.entry apart);
      take = own.take ∙ sym (more.others other ne);
    }

begins_later : (b c : BookSeen) (caller : ℕ) (seen : List SeenEntry) → HasOneMore b caller c → BeginsWith (log_of b) seen → BeginsWith (log_of c) seen
begins_later b c caller seen more begins =
    subst (λ (log : List SeenEntry). BeginsWith log seen) (sym more.log) (begins_more (log_of b) seen (more.entry ∷ []) begins)

-- the entry is counted
pub counts : (callers turn : ℕ) (homes : List (Home (Option BookSeen))) (views : List PassView) (b c : BookSeen) (i caller : ℕ) (v : PassView)
    → Rule callers turn homes views b
    → (out : IsOut turn homes views b) → out.holder ≡ i → get_elem? views i ≡ some v → v.caller ≡ Some caller → HasOneMore b caller c
    → Rule callers turn homes (slice_set views i (with_entry c caller v)) c
counts callers turn homes views b c i caller v r out held at mine more =
    let old : IsWithin b v = r.within i v at in
    let own : IsOwn b caller v = old.mine caller mine in
    let w : PassView = with_entry c caller v in
    let differs : (other : ℕ) → EachView (λ seat u. u.caller ≢ Some other) views → other ≢ caller =
    λ other unheld is. unheld i v at (mine ∙ ap (λ (n : ℕ). Some n) (sym is)) in
    let same : (other : ℕ) → EachView (λ seat u. u.caller ≢ Some other) views → of_caller other (log_of c) ≡ of_caller other (log_of b) =
    λ other unheld. ap (of_caller other) more.log
    ∙ own_other other (log_of b) more.entry (λ is. differs other unheld (sym is ∙ more.mine)) in
    rule_steps callers turn homes views b i caller v w turn homes c r at mine refl record {
      shared = record { full = more.full; count = more.callers ∙ r.shared.count };
      place = inr record {
        word = out.word;
        slot = out.slot;
        holder = i;
        view = w;
        at = set_there views i v w at;
        has = refl;
        seen = refl;
        others = each_others (λ seat u. seat ≢ out.holder → u.turn ≡ None) (λ seat u. seat ≢ i → u.turn ≡ None) views i w
            (λ seat u ne _ free _. free (λ same. ne (same ∙ held))) out.others
            (λ ne. absurd (ne refl));
      };
      others = λ seat u ne there within. record {
        seen = begins_later b c caller u.seen more within.seen;
        told = begins_later b c caller u.told more within.told;
        mine = λ other is.
            own_stays b c caller other u more (λ same. ne (r.apart seat u there i v at caller (is ∙ ap (λ (n : ℕ). Some n) same) mine)) (within.mine other is);
        nobody = within.nobody;
      };
      within = record {
        seen = begins_same (log_of c);
        told = begins_later b c caller v.told more old.told;
        mine = λ caller' is.
            let both : Some caller ≡ Some caller' = sym mine ∙ is in
            let one : caller ≡ caller' = cc in
            subst (λ (n : ℕ). IsOwn c n w) one record { low = subst (λ (n : ℕ). caller < n) (sym more.callers) own.low; own = refl; take = refl };
        nobody = λ empty. no_some v.caller caller empty mine;
      };
      not_made = λ other unheld facts.
          (same other unheld ∙ facts.0, more.others other (differs other unheld) ∙ facts.1);
      same = same;
    }
