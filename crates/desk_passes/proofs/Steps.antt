-- What the table asks of each step.
use Rattle.std.proofs.Common.{◌≡◌, ◌≢◌, ℕ, ◌+◌, ◌%◌, ◌^◌, ◌<◌, List, [], ◌∷◌, ◌++◌, refl, sym, ◌∙◌, ap, subst, ◌⊎◌, inl, inr, arith}
use Rattle.std.proofs.Common.{Option, Some, None, slice_set, slice_index, length, mod-eq_of_lt}
use Rattle.std.proofs.Common.{length-append, ◌≤◌}
use mathlib.Core.Option.{Option as Home, some, none}
use lib.ListN.{get_elem?}
use prog.Atomic.{either}
use Rattle.std.specs.Prelude.{◌==◌}
use Rattle.atomic_table.specs.Table.{State, Act, keeps, takes, gives, Valid, stepped, put_back, rest, carried_after}
use Rattle.atomic_table.proofs.Lists.{exchanged, set_again, set_else}
use Rattle.desk_book.specs.Seen.{BookSeen}
use Rattle.desk_passes.specs.declared.seen.PassPlace.{PassPlace}
use Rattle.desk_passes.specs.declared.seen.PassPlace.TheVariants.{NotMade, Out}
use Rattle.desk_passes.specs.declared.seen.PassView.{PassView}
use Rattle.desk_passes.specs.declared.seen.SeenEntry.{SeenEntry}
use Rattle.desk_passes.specs.Seen.{log_of, of_caller}
use Rattle.desk_passes.specs.Knowing.{IsOwn, SeesAll, IsAllOf}
use Rattle.desk_passes.specs.Plays.{Seated, GoesOn, Looks, RootLooks, GetsTurn, TriesTurn, Counts, GivesTurn}
use Rattle.desk_passes.specs.Rule.{EachView, IsHome, IsOut, IsWithin, place_of, Rule, RuleHolds}
use Rattle.desk_passes.specs.Steps.{spent, having_seen, with_turn, with_entry, without_turn, with_pass_out, new_pass, copied, informed}
use Rattle.desk_passes.specs.Steps.{with_back, with_pass_back}
use Rattle.desk_passes.specs.Turns.{HasOneMore, HasEntry}
use Rattle.desk_passes.proofs.Logs.{begins_same, begins_none, length_lined}
use Rattle.desk_passes.proofs.Views.{each_others, swap_first}
use Rattle.desk_passes.proofs.Keeping.{no_some, same_there, holder_out, rule_put, rule_more, rule_spent, takes_turn, gives_turn, counts}
use Rattle.desk_passes.proofs.Roots.{makes_pass, takes_back}

-- the seat may take some view by which the rule is kept, where the word i becomes n
abbrev May : ℕ → State (Option BookSeen) PassView → ℕ → ℕ → ℕ → Seated → (Seated → Type 0) → Type 0
May callers s i n id me then =
    (w : PassView) × (act : Act (Option BookSeen)) × Valid s.homes me.1 act × RuleHolds callers (stepped s i n id me.1 w act) × then (w, carried_after me.1 act)

-- what a view that sees the book knows
goes_on : (b : BookSeen) (v : PassView) → IsWithin b v → GoesOn v b
goes_on b v w = record { seen = w.seen; told = w.told }

module _ (callers : ℕ) (s : State (Option BookSeen) PassView) (id : ℕ) (me : Seated) (h : RuleHolds callers s) (at : get_elem? s.views id ≡ some me.0) where
  abbrev v : PassView
  v = me.0

  abbrev b : BookSeen
  b = h.book

  within : IsWithin b v
  within = h.rule.within id v at

  turn_word : slice_index s.words 1 ≡ h.turn
  turn_word = ap (λ (ws : List ℕ). slice_index ws 1) h.words

  count_word : slice_index s.words 0 ≡ length b.history
  count_word = ap (λ (ws : List ℕ). slice_index ws 0) h.words

  -- all is seen, as it is now
  sees_all : (w : PassView) → w.seen ≡ log_of b → w.caller ≡ v.caller → w.own ≡ v.own → w.take ≡ v.take → SeesAll w b
  sees_all w seen caller own take = record {
    full = h.rule.shared.full;
    seen = seen;
    mine = λ c is.
        let it : IsOwn b c v = within.mine c (sym caller ∙ is) in
        record { low = it.low; own = own ∙ it.own; take = take ∙ it.take };
  }

  -- the rule holds once all is seen
  looked : v.turn ≡ None → RuleHolds callers (stepped s 0 (slice_index s.words 0) id me.1 (having_seen b v) keeps)
  looked still =
      let w : PassView = having_seen b v in
      record {
        book = b;
        turn = h.turn;
        words = ap (λ (ws : List ℕ). slice_set ws 0 (slice_index ws 0)) h.words;
        rule = rule_put callers h.turn s.homes s.views b id v w h.rule at record {
          caller = refl;
          passes = refl;
          still = still;
          stays = still;
          within = record {
            seen = begins_same (log_of b);
            told = begins_none (log_of b);
            mine = λ c is. let it : IsOwn b c v = within.mine c is in
                record { low = it.low; own = it.own; take = it.take };
            nobody = λ _. still;
          };
          known = λ c _. record { got = λ is. no_some w.back c refl is; seen = λ _. refl };
          all = λ _ _ _. refl;
        };
      }

  pub looks : v.turn ≡ None → May callers s 0 (slice_index s.words 0) id me (Looks me (slice_index s.words 0))
  looks still =
      let w : PassView = having_seen b v in
      (w, keeps, tt, looked still, (b, refl, goes_on b v within, sees_all w refl refl refl refl))

  pub root_looks : id ≡ 0 → v.turn ≡ None → May callers s 0 (slice_index s.words 0) id me (RootLooks me (slice_index s.words 0))
  root_looks first still =
      let w : PassView = having_seen b v in
      let is : h.rule.root.view ≡ v = same_there s.views 0 h.rule.root.view v h.rule.root.at (subst (λ (k : ℕ). get_elem? s.views k ≡ some v) first at) in
      let known : (caller : ℕ) → place_of v.passes caller ≢ Out → IsAllOf v caller (of_caller caller (log_of b)) =
      subst (λ (u : PassView). (caller : ℕ) → place_of u.passes caller ≢ Out → IsAllOf u caller (of_caller caller (log_of b))) is h.rule.root.known in
      (w, keeps, tt, looked still, (b, refl, goes_on b v within, sees_all w refl refl refl refl, known))

  -- the turn is free
  gets : (caller : ℕ) → v.caller ≡ Some caller → IsHome h.turn s.homes s.views b → May callers s 1 1 id me (λ after. GetsTurn me after)
  gets caller mine home =
      let w : PassView = with_turn b v in (
        w,
        takes 0 (Some b),
        subst (λ (hs : List (Home (Option BookSeen))). get_elem? hs 0 ≡ some (some (Some b))) (sym home.slot) refl,
        record {
          book = b;
          turn = 1;
          words = ap (λ (ws : List ℕ). slice_set ws 1 1) h.words;
          rule = subst (λ (hs : List (Home (Option BookSeen))). Rule callers 1 hs (slice_set s.views id w) b)
              (ap (λ (hs : List (Home (Option BookSeen))). slice_set hs 0 none) (sym home.slot))
              (takes_turn callers h.turn s.homes s.views b id caller v h.rule home at mine);
        },
        (b, refl, goes_on b v within, sees_all w refl refl refl refl),
      )

  free_home : h.turn ≡ 0 → IsHome h.turn s.homes s.views b ⊎ IsOut h.turn s.homes s.views b → IsHome h.turn s.homes s.views b
  free_home free (inl home) = home
  free_home free (inr out) = absurd (omega (arith, free, out.word))

  pub tries : (caller : ℕ) → v.caller ≡ Some caller
      → May callers s 1 (either (slice_index s.words 1 == 0) 1 (slice_index s.words 1)) id me (TriesTurn me (slice_index s.words 1))
  tries caller mine =
      let n : ℕ = slice_index s.words 1 in
      exchanged n 0 1 (λ m. May callers s 1 m id me (TriesTurn me n))
      (λ free.
      let got = gets caller mine (free_home (sym turn_word ∙ free) h.rule.place) in
      (got.0, got.1, got.2, got.3, ((λ _. got.4), (λ ne. absurd (ne free)))))
      (λ taken. (
        v,
        keeps,
        tt,
        record {
          book = b;
          turn = h.turn;
          words = ap (λ (ws : List ℕ). slice_set ws 1 (slice_index ws 1)) h.words;
          rule = subst (λ (vs : List PassView). Rule callers h.turn s.homes vs b) (sym (set_again s.views id v at)) h.rule;
        },
        ((λ free. absurd (taken free)), (λ _. refl)),
      ))

  pub counted : (caller : ℕ) (c : BookSeen) → HasEntry v caller c → me.1 ≡ (0, Some c) ∷ [] → length c.history < 2 ^ 64
      → May callers s 0 ((slice_index s.words 0 + 1) % 2 ^ 64) id me (Counts me (slice_index s.words 0))
  counted caller c entry carried few =
      let n : ℕ = slice_index s.words 0 in
      let next : ℕ = (n + 1) % 2 ^ 64 in
      let w : PassView = with_entry c caller v in
      let held = holder_out h.turn s.homes s.views b entry.0 id v at entry.1 h.rule.place in
      let more : HasOneMore b caller c = subst (λ (x : BookSeen). HasOneMore x caller c) (sym held.3) entry.3 in
      let seen : v.seen ≡ log_of b = ap (λ (u : PassView). u.seen) (sym held.2) ∙ held.0.seen in
      let before : length (log_of b) ≡ length b.history = length_lined b.scripts b.history in
      let after : length (log_of c) ≡ length c.history = length_lined c.scripts c.history in
      let one : length (log_of b ++ more.entry ∷ []) ≡ length (log_of b) + 1 = length-append (log_of b) (more.entry ∷ []) in
      let longer : length (log_of c) ≡ length (log_of b ++ more.entry ∷ []) = ap (λ (l : List SeenEntry). length l) more.log in
      let all : length c.history ≡ length b.history + 1 = sym after ∙ longer ∙ one ∙ ap (λ (m : ℕ). m + 1) before in
      let is : next ≡ n + 1 = mod-eq_of_lt (omega (arith, count_word, all, few)) in (
        w,
        keeps,
        tt,
        record {
          book = c;
          turn = h.turn;
          words = ap (λ (ws : List ℕ). slice_set ws 0 next) h.words ∙ ap (λ (m : ℕ). m ∷ h.turn ∷ []) (is ∙ ap (λ (m : ℕ). m + 1) count_word ∙ sym all);
          rule = counts callers h.turn s.homes s.views b c id caller v h.rule held.0 held.1 at entry.2 more;
        },
        (
          c,
          more.entry,
          more.log ∙ ap (λ (l : List SeenEntry). l ++ more.entry ∷ []) (sym seen),
          entry.2 ∙ ap (λ (m : ℕ). Some m) (sym more.mine),
          carried,
          ap (λ (m : ℕ). (with_entry c m v, me.1)) (sym more.mine),
          count_word ∙ sym before ∙ ap (λ (l : List SeenEntry). length l) (sym seen),
        ),
      )

  pub given : (caller : ℕ) (c : BookSeen) → v.caller ≡ Some caller → v.turn ≡ Some c → me.1 ≡ (0, Some c) ∷ []
      → May callers s 1 0 id me (GivesTurn me (slice_index s.words 1))
  given caller c mine has carried =
      let w : PassView = without_turn v in
      let held = holder_out h.turn s.homes s.views b c id v at has h.rule.place in
      let homes : put_back s.homes me.1 ≡ some (Some b) ∷ [] =
      ap (put_back s.homes) carried ∙ ap (λ (hs : List (Home (Option BookSeen))). slice_set hs 0 (some (Some c))) held.0.slot
      ∙ ap (λ (x : BookSeen). some (Some x) ∷ []) (sym held.3) in (
        w,
        gives,
        tt,
        record {
          book = b;
          turn = 0;
          words = ap (λ (ws : List ℕ). slice_set ws 1 0) h.words;
          rule = subst (λ (hs : List (Home (Option BookSeen))). Rule callers 0 hs (slice_set s.views id w) b) (sym homes)
              (gives_turn callers h.turn s.homes s.views b id caller v h.rule held.0 held.1 at mine);
        },
        ap (λ (xs : List (ℕ × Option BookSeen)). (w, rest xs)) carried,
      )

-- ---- views are cut in two, and put together

splits_pass : (callers : ℕ) (s : State (Option BookSeen) PassView) (v : PassView) (caller : ℕ) → place_of v.passes caller ≡ NotMade
    → RuleHolds callers s → get_elem? s.views 0 ≡ some v
    → RuleHolds callers record { words = s.words; homes = s.homes; views = slice_set s.views 0 (with_pass_out caller v) ++ new_pass caller v ∷ [] }
splits_pass callers s v caller unmade h at =
    record { book = h.book; turn = h.turn; words = h.words; rule = makes_pass callers h.turn s.homes s.views h.book caller v h.rule at unmade }

pub splits_pass_at : (callers : ℕ) (s : State (Option BookSeen) PassView) (id : ℕ) (v : PassView) (caller : ℕ) → id ≡ 0
    → place_of v.passes caller ≡ NotMade → RuleHolds callers s
    → get_elem? s.views id ≡ some v
    → RuleHolds callers record { words = s.words; homes = s.homes; views = slice_set s.views id (with_pass_out caller v) ++ new_pass caller v ∷ [] }
splits_pass_at callers s id v caller first unmade h at =
    subst (λ (k : ℕ). RuleHolds callers record {
      words = s.words;
      homes = s.homes;
      views = slice_set s.views k (with_pass_out caller v)
          ++ new_pass caller v ∷ [];
    }) (sym first)
    (splits_pass callers s v caller unmade h (subst (λ (k : ℕ). get_elem? s.views k ≡ some v) first at))

pub splits_note : (callers : ℕ) (s : State (Option BookSeen) PassView) (id : ℕ) (v : PassView) → RuleHolds callers s → get_elem? s.views id ≡ some v
    → RuleHolds callers record { words = s.words; homes = s.homes; views = slice_set s.views id v ++ copied v ∷ [] }
splits_note callers s id v h at =
    let b : BookSeen = h.book in
    let old : IsWithin b v = h.rule.within id v at in
    let again : slice_set s.views id v ≡ s.views = set_again s.views id v at in
    record {
      book = b;
      turn = h.turn;
      words = h.words;
      rule = subst (λ (vs : List PassView). Rule callers h.turn s.homes (vs ++ copied v ∷ []) b) (sym again)
          (rule_more callers h.turn s.homes s.views b (copied v) h.rule refl refl record {
            seen = old.seen;
            told = begins_none (log_of b);
            mine = λ caller is. no_some (copied v).caller caller refl is;
            nobody = λ _. refl;
          });
    }

-- what is told is what another view has seen
informed_within : (b : BookSeen) (v w : PassView) → IsWithin b v → IsWithin b w → IsWithin b (informed v w)
informed_within b v w old other = record {
  seen = old.seen;
  told = other.seen;
  mine = λ caller is. let it : IsOwn b caller v = old.mine caller is in record { low = it.low; own = it.own; take = it.take };
  nobody = old.nobody;
}

pub joins_note : (callers : ℕ) (s : State (Option BookSeen) PassView) (id other : ℕ) (v w : PassView) → v.turn ≡ None → w.caller ≡ None
    → w.passes ≡ [] → RuleHolds callers s
    → get_elem? s.views id ≡ some v → ¬ (other ≡ id) → get_elem? (slice_set s.views id (informed v w)) other ≡ some w
    → RuleHolds callers record { words = s.words; homes = s.homes; views = slice_set (slice_set s.views id (informed v w)) other spent }
joins_note callers s id other v w still nobody no_passes h at ne there =
    let b : BookSeen = h.book in
    let both : PassView = informed v w in
    let old : IsWithin b v = h.rule.within id v at in
    let before : get_elem? s.views other ≡ some w = sym (set_else s.views id other both ne) ∙ there in
    let within : IsWithin b w = h.rule.within other w before in
    let mid : Rule callers h.turn s.homes (slice_set s.views id both) b = rule_put callers h.turn s.homes s.views b id v both h.rule at record {
      caller = refl;
      passes = refl;
      still = still;
      stays = still;
      within = informed_within b v w old within;
      known = λ caller it. record { got = it.got; seen = it.seen };
      all = λ old looked back. old looked back;
    } in
    let later : other ≢ 0 = λ first.
    let is : h.rule.root.view ≡ w = same_there s.views 0 h.rule.root.view w h.rule.root.at (subst (λ (k : ℕ). get_elem? s.views k ≡ some w) first before) in
    let empty : length w.passes ≡ 0 = ap (λ (ps : List PassPlace). length ps) no_passes in
    let count : length w.passes ≡ callers = ap (λ (u : PassView). length u.passes) (sym is) ∙ h.rule.root.count in
    let least : 1 ≤ length b.scripts = h.rule.shared.full.book.callers.low in
    absurd (omega (arith, empty, count, least, h.rule.shared.count)) in
    record {
      book = b;
      turn = h.turn;
      words = h.words;
      rule = rule_spent callers h.turn s.homes (slice_set s.views id both) b other w mid there later (within.nobody nobody);
    }

pub joins_pass : (callers : ℕ) (s : State (Option BookSeen) PassView) (id other caller : ℕ) (v w : PassView) → id ≡ 0 → w.caller ≡ Some caller
    → w.turn ≡ None → v.back ≡ None → RuleHolds callers s
    → get_elem? s.views id ≡ some v → ¬ (other ≡ id) → get_elem? (slice_set s.views id (with_pass_back v w)) other ≡ some w
    → RuleHolds callers record { words = s.words; homes = s.homes; views = slice_set (slice_set s.views id (with_pass_back v w)) other spent }
joins_pass callers s id other caller v w first mine still looked h at ne there =
    let b : BookSeen = h.book in
    let both : PassView = with_pass_back v w in
    let at' : get_elem? s.views 0 ≡ some v = subst (λ (k : ℕ). get_elem? s.views k ≡ some v) first at in
    let later : other ≢ 0 = λ same. ne (same ∙ sym first) in
    let before : get_elem? s.views other ≡ some w = sym (set_else s.views id other both ne) ∙ there in
    let old : IsWithin b v = h.rule.within 0 v at' in
    let within : IsWithin b w = h.rule.within other w before in
    let is : h.rule.root.view ≡ v = same_there s.views 0 h.rule.root.view v h.rule.root.at at' in
    let nobody : v.caller ≡ None = ap (λ (u : PassView). u.caller) (sym is) ∙ h.rule.root.nobody in
    let own : IsOwn b caller w = within.mine caller mine in
    let views : List PassView = slice_set s.views other spent in
    let mid : Rule callers h.turn s.homes views b = rule_spent callers h.turn s.homes s.views b other w h.rule before later still in
    let unheld : EachView (λ seat u. u.caller ≢ Some caller) views =
    each_others (λ seat u. Unit {0}) (λ seat u. u.caller ≢ Some caller) s.views other spent
    (λ seat u apart here _ same. apart (h.rule.apart seat u here other w before caller same mine))
    (λ seat u _. tt)
    (λ same. no_some spent.caller caller refl same) in
    let swapped : slice_set (slice_set s.views id both) other spent ≡ slice_set views 0 both =
    ap (λ (k : ℕ). slice_set (slice_set s.views k both) other spent) first ∙ swap_first s.views other both spent later in
    record {
      book = b;
      turn = h.turn;
      words = h.words;
      rule = subst (λ (vs : List PassView). Rule callers h.turn s.homes vs b) (sym swapped)
          (takes_back callers h.turn s.homes views b caller v both mid (set_else s.views other 0 spent (λ e. later (sym e)) ∙ at') unheld
          (subst (λ (n : ℕ). caller < n) h.rule.shared.count own.low)
          refl refl (ap (with_back v.passes) mine) looked mine refl own.own
          record {
            seen = old.seen;
            told = within.seen;
            mine = λ caller' is'. no_some v.caller caller' nobody is';
            nobody = λ _. old.nobody nobody;
          });
    }
