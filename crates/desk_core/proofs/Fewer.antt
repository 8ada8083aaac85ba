-- What groups hold, once they have gone on.
use Rattle.std.proofs.Common.{◌≡◌, ℕ, zero, suc, ◌+◌, ◌<◌, ◌≤◌, max, Bool, true, false, cond, List, [], ◌∷◌, length, map, filter, fold, sum_by, All}
use Rattle.std.proofs.Common.{get_or, refl, sym, ◌∙◌, ap, subst, arith, inl, inr, ◌⊎◌}
use Rattle.std.specs.List.{zip, AllZip, Any, Contains, list_any}
use Rattle.std.proofs.lemmas.Bool.{or_cases, or_left, or_right, or_parts}
use Rattle.std.proofs.lemmas.List.{length-map, get_or-map}
use Rattle.std.proofs.lemmas.List.Elements.{All-map}
use Rattle.std.proofs.lemmas.List.Sums.{sum_by-cons, sum_by-le-sum_by}
use Rattle.plan_base.specs.declared.parts.Op.{Op}
use Rattle.plan_base.specs.States.{is_pending}
use Rattle.request_model.specs.declared.group.GroupDoc.{GroupDoc}
use Rattle.allocations.specs.declared.entry.Hold.{Hold}
use Rattle.allocations.specs.declared.key.Key.{Key}
use Rattle.allocations.specs.Key.{key_cmp, is_key}
use Rattle.allocations.specs.Rising.{Rises}
use Rattle.allocations.specs.Books.{held_in}
use Rattle.allocations.specs.Ledger.{seconds_of_holds}
use Rattle.allocations.proofs.Seen.{sum_by_mapped}
use Rattle.desk_runs.specs.declared.group.Group.{Group}
use Rattle.desk_runs.specs.declared.group.Request.{Request}
use Rattle.plan_base.specs.Operators.{is_oneof}
use Rattle.desk_runs.specs.States.{is_open}
use Rattle.desk_runs.specs.Sound.{IsLaterRequest, IsLater}
use Rattle.desk_core.specs.declared.desk.Submitted.{Submitted}
use Rattle.desk_core.specs.declared.desk.Wanted.{Wanted}
use Rattle.desk_core.specs.Holds.{key_of, needs_of, keys_in, greatest_in, held_for, holds_of, held_by}
use Rattle.desk_core.proofs.KeySets.{is_on, rises_from, on_from, from_on, sum_of_some}

-- ---- some of the needs, in their order

abbrev pub IsPart : List Hold → List Hold → Type 0
IsPart [] ms = Unit {0}
IsPart (n ∷ ns) [] = ⊥
IsPart (n ∷ ns) (m ∷ ms) = ((n ≡ m) × IsPart ns ms) ⊎ IsPart (n ∷ ns) ms

part_more : (ns ms : List Hold) (m : Hold) → IsPart ns ms → IsPart ns (m ∷ ms)
part_more [] ms m h = tt
part_more (n ∷ ns) ms m h = inr h

-- what a request needs
abbrev pub need_of : GroupDoc → Request → Wanted → Hold
need_of document q w = record { key = key_of document w; seconds = q.seconds }

pub needs_step : (document : GroupDoc) (b : Bool) (q : Request) (w : Wanted) (qs : List (Request × Wanted)) (rest : List Hold) → needs_of document qs ≡ rest
    → map (λ p. let h : Hold = record { key = key_of document p.1; seconds = p.0.seconds } in
    h) (cond b ((q, w) ∷ filter (λ p. is_pending p.0.state) qs) (filter (λ p. is_pending p.0.state) qs))
    ≡ cond b (need_of document q w ∷ rest) rest
needs_step document true q w qs rest e = ap (λ (l : List Hold). need_of document q w ∷ l) e
needs_step document false q w qs rest e = e

part_step : (a b : Bool) (m n : Hold) (ms ns : List Hold) → (b ≡ true → a ≡ true) → n ≡ m → IsPart ns ms → IsPart (cond b (n ∷ ns) ns) (cond a (m ∷ ms) ms)
part_step true true m n ms ns h e r = inl (e, r)
part_step true false m n ms ns h e r = part_more ns ms m r
part_step false false m n ms ns h e r = r
part_step false true m n ms ns h e r = let bad : false ≡ true = h refl in cc

-- later requests need some of what they needed
pub part_needs : (document : GroupDoc) (qs rs : List Request) (ws : List Wanted) → AllZip IsLaterRequest qs rs
    → IsPart (needs_of document (zip rs ws)) (needs_of document (zip qs ws))
part_needs document [] [] ws z = tt
part_needs document [] (r ∷ rs) ws z = absurd z
part_needs document (q ∷ qs) [] ws z = absurd z
part_needs document (q ∷ qs) (r ∷ rs) [] z = tt
part_needs document (q ∷ qs) (r ∷ rs) (w ∷ ws) z =
    let ms : List Hold = needs_of document (zip qs ws) in
    let ns : List Hold = needs_of document (zip rs ws) in
    let same : need_of document r w ≡ need_of document q w = ap (λ (n : ℕ). let h : Hold = record { key = key_of document w; seconds = n } in h) z.0.seconds in
    let step : IsPart (cond (is_pending r.state) (need_of document r w ∷ ns) ns) (cond (is_pending q.state) (need_of document q w ∷ ms) ms) =
    part_step (is_pending q.state) (is_pending r.state) (need_of document q w) (need_of document r w) ms ns
    (λ e. ap is_pending (sym (z.0.pending e)) ∙ e) same (part_needs document qs rs ws z.1) in
    subst (λ (l : List Hold). IsPart l (needs_of document (zip (q ∷ qs) (w ∷ ws)))) (sym (needs_step document (is_pending r.state) r w (zip rs ws) ns refl))
    (subst (IsPart (cond (is_pending r.state) (need_of document r w ∷ ns) ns)) (sym (needs_step document (is_pending q.state) q w (zip qs ws) ms refl)) step)

-- ---- so they hold less

pub on_part : (key : Key) (ns ms : List Hold) → IsPart ns ms → is_on key ns ≡ true → is_on key ms ≡ true
on_part key [] ms h e = cc
on_part key (n ∷ ns) [] h e = absurd h
on_part key (n ∷ ns) (m ∷ ms) (inl h) e = elim (or_cases (is_key n.key key) (is_on key ns) e) [
  | inl here ↦ or_left (is_key m.key key) (is_on key ms) (ap (λ (x : Hold). is_key x.key key) (sym h.0) ∙ here)
  | inr later ↦ or_right (is_key m.key key) (is_on key ms) (on_part key ns ms h.1 later)
]
on_part key (n ∷ ns) (m ∷ ms) (inr h) e = or_right (is_key m.key key) (is_on key ms) (on_part key (n ∷ ns) ms h e)

pub held_part : (key : Key) (ns ms : List Hold) → IsPart ns ms → held_in key ns ≤ held_in key ms
held_part key [] ms h = omega arith
held_part key (n ∷ ns) [] h = absurd h
held_part key (n ∷ ns) (m ∷ ms) (inl h) =
    let f : Hold → ℕ = λ x. cond (is_key x.key key) x.seconds 0 in
    let first : held_in key (n ∷ ns) ≡ f n + held_in key ns = sum_by-cons f n ns in
    let other : held_in key (m ∷ ms) ≡ f m + held_in key ms = sum_by-cons f m ms in
    let same : f n ≡ f m = ap f h.0 in
    let rest : held_in key ns ≤ held_in key ms = held_part key ns ms h.1 in
    omega (arith, first, other, same, rest)
held_part key (n ∷ ns) (m ∷ ms) (inr h) =
    let f : Hold → ℕ = λ x. cond (is_key x.key key) x.seconds 0 in
    let other : held_in key (m ∷ ms) ≡ f m + held_in key ms = sum_by-cons f m ms in
    let rest : held_in key (n ∷ ns) ≤ held_in key ms = held_part key (n ∷ ns) ms h in
    omega (arith, other, rest)

-- the greater of what is known and a need of an account
abbrev pub greater : Key → ℕ → Hold → ℕ
greater key most h = cond (is_key h.key key) (max most h.seconds) most

pub greater_more : (b : Bool) (m n x : ℕ) → m ≤ n → cond b (max m x) m ≤ cond b (max n x) n
greater_more true m n x h = omega arith
greater_more false m n x h = h

pub greater_least : (b : Bool) (m x : ℕ) → m ≤ cond b (max m x) m
greater_least true m x = omega arith
greater_least false m x = omega arith

pub greatest_least : (key : Key) (ms : List Hold) (a b : ℕ) → a ≤ b → a ≤ fold (greater key) b ms
greatest_least key [] a b h = h
greatest_least key (m ∷ ms) a b h =
    greatest_least key ms a (greater key b m) (let more : b ≤ greater key b m = greater_least (is_key m.key key) b m.seconds in omega arith)

greatest_part : (key : Key) (ns ms : List Hold) (a b : ℕ) → a ≤ b → IsPart ns ms → fold (greater key) a ns ≤ fold (greater key) b ms
greatest_part key [] ms a b l h = greatest_least key ms a b l
greatest_part key (n ∷ ns) [] a b l h = absurd h
greatest_part key (n ∷ ns) (m ∷ ms) a b l (inl h) =
    let same : greater key b n ≡ greater key b m = ap (greater key b) h.0 in
    let step : greater key a n ≤ greater key b n = greater_more (is_key n.key key) a b n.seconds l in
    let more : greater key a n ≤ greater key b m = omega (arith, same, step) in
    greatest_part key ns ms (greater key a n) (greater key b m) more h.1
greatest_part key (n ∷ ns) (m ∷ ms) a b l (inr h) =
    let more : b ≤ greater key b m = greater_least (is_key m.key key) b m.seconds in
    greatest_part key (n ∷ ns) ms a (greater key b m) (omega arith) h

pub held_for_part : (op : Op) (key : Key) (ns ms : List Hold) → IsPart ns ms → held_for op ns key ≤ held_for op ms key
held_for_part op key ns ms h = by (is_oneof op)
  where
    by : (b : Bool) → cond b (greatest_in key ns) (held_in key ns) ≤ cond b (greatest_in key ms) (held_in key ms)
    by true = greatest_part key ns ms 0 0 (omega arith) h
    by false = held_part key ns ms h

none_before : (x : Key) → Contains [] x → ⊥
none_before x c = let within : c.0 < 0 = c.1 in absurd (omega (arith, within))

-- the accounts that are needed
pub keys_part : (ns ms : List Hold) → IsPart ns ms → (x : Key) → Contains (keys_in ns) x → Contains (keys_in ms) x
keys_part ns ms h x c = elim (from_on [] ns x c) [
  | inl before ↦ absurd (none_before x before)
  | inr on ↦ on_from [] ms x (on_part x ns ms h on)
]

nothing_rises : Rises key_cmp []
nothing_rises = λ i j d l m. absurd (omega arith)

pub keys_rise : (needs : List Hold) → Rises key_cmp (keys_in needs)
keys_rise needs = rises_from [] needs nothing_rises

-- each hold is at most one of the others on its account
abbrev pub IsWithin : List Hold → List Hold → Type 0
IsWithin holds others = All (λ h. Any (λ o. (o.key ≡ h.key) × (h.seconds ≤ o.seconds)) others) holds

-- what is held of an account, as a hold
abbrev pub hold_of : Op → List Hold → Key → Hold
hold_of op needs key = record { key = key; seconds = held_for op needs key }

-- less is held
pub record IsLess (holds others : List Hold) : Type 0 where
  pub within : IsWithin holds others
  pub rising : Rises key_cmp (map (λ h. h.key) holds)
  pub seconds : seconds_of_holds holds ≤ seconds_of_holds others

keys_of : (op : Op) (needs : List Hold) (ks : List Key) → map (λ h. h.key) (map (hold_of op needs) ks) ≡ ks
keys_of op needs [] = refl
keys_of op needs (k ∷ ks) = ap (λ (l : List Key). k ∷ l) (keys_of op needs ks)

pub held_less : (op : Op) (ns ms : List Hold) → IsPart ns ms → IsLess (holds_of op ns) (holds_of op ms)
held_less op ns ms h = record {
  within =
      All-map (λ x. Any (λ o. (o.key ≡ x.key) × (x.seconds ≤ o.seconds)) (holds_of op ms)) (hold_of op ns) (keys_in ns)
      (λ k d l.
      let key : Key = get_or (keys_in ns) k d in
      let there : Contains (keys_in ms) key = keys_part ns ms h key (k, l, get_here (keys_in ns) k d l) in
      let long : length (map (hold_of op ms) (keys_in ms)) ≡ length (keys_in ms) = length-map (keys_in ms) (hold_of op ms) in (
        there.0,
        hold_of op ms key,
        (let inside : there.0 < length (keys_in ms) = there.1 in omega (arith, long, inside)),
        get_or-map (hold_of op ms) (keys_in ms) there.0 key (hold_of op ms key) there.1 ∙ ap (hold_of op ms) there.2,
        (refl, held_for_part op key ns ms h),
      ));
  rising = subst (Rises key_cmp) (sym (keys_of op ns (keys_in ns))) (keys_rise ns);
  seconds =
      let less : seconds_of_holds (holds_of op ns) ≡ sum_by (held_for op ns) (keys_in ns) =
      sum_by_mapped (λ x. x.seconds) (held_for op ns) (hold_of op ns) (keys_in ns) (λ k d l. refl) in
      let more : seconds_of_holds (holds_of op ms) ≡ sum_by (held_for op ms) (keys_in ms) =
      sum_by_mapped (λ x. x.seconds) (held_for op ms) (hold_of op ms) (keys_in ms) (λ k d l. refl) in
      let each : sum_by (held_for op ns) (keys_in ns) ≤ sum_by (held_for op ms) (keys_in ns) =
      sum_by-le-sum_by (held_for op ns) (held_for op ms) (keys_in ns) (λ key. held_for_part op key ns ms h) in
      let some : sum_by (held_for op ms) (keys_in ns) ≤ sum_by (held_for op ms) (keys_in ms) =
      sum_of_some (held_for op ms) (keys_in ns) (keys_in ms) (keys_rise ns) (keys_rise ms) (keys_part ns ms h) in
      omega (arith, less, more, each, some);
}
  where
    get_here : (ks : List Key) (k : ℕ) (d : Key) → k < length ks → get_or ks k (get_or ks k d) ≡ get_or ks k d
    get_here [] k d l = absurd (omega arith)
    get_here (x ∷ xs) zero d l = refl
    get_here (x ∷ xs) (suc k) d l = get_here xs k d (omega arith)

-- a group that has gone on holds less
pub group_less : (w : Submitted) (g h : Group) → IsLater g h → IsLess (held_by w h) (held_by w g)
group_less w g h later =
    subst (λ (op : Op). IsLess (holds_of op (needs_of w.document (zip h.requests w.requests))) (held_by w g)) (sym later.op)
    (held_less g.op (needs_of w.document (zip h.requests w.requests)) (needs_of w.document (zip g.requests w.requests))
    (part_needs w.document g.requests h.requests w.requests later.requests))

-- ---- a group that is closed holds nothing

none_needed : (document : GroupDoc) (qs : List Request) (ws : List Wanted) → list_any (λ q. is_pending q.state) qs ≡ false → needs_of document (zip qs ws) ≡ []
none_needed document [] ws e = refl
none_needed document (q ∷ qs) [] e = refl
none_needed document (q ∷ qs) (w ∷ ws) e =
    let parts = or_parts (is_pending q.state) (list_any (λ x. is_pending x.state) qs) e in
    needs_step document (is_pending q.state) q w (zip qs ws) [] (none_needed document qs ws parts.1)
    ∙ ap (λ (b : Bool). let l : List Hold = cond b (need_of document q w ∷ []) [] in l) parts.0

pub closed_holds : (w : Submitted) (g : Group) → is_open g ≡ false → held_by w g ≡ []
closed_holds w g e = ap (holds_of g.op) (none_needed w.document g.requests w.requests e)
