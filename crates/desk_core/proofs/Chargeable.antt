-- What a report may charge.
use Rattle.std.proofs.Common.{◌≡◌, ℕ, zero, suc, ◌+◌, ◌<◌, ◌≤◌, ◌==◌, max, Bool, true, false, cond, not, ◌&&◌, ◌||◌, List, [], ◌∷◌, length, map, fold}
use Rattle.std.proofs.Common.{All, get_or, refl, sym, ◌∙◌, ap, arith, inl, inr, Some}
use Rattle.std.specs.List.{AllZip, Contains, zip, find, list_any}
use Rattle.std.proofs.lemmas.Bool.{and_parts, and_left, and_right, or_cases, or_parts, or_left, or_right, cases_Bool, false_from_ne_true}
use Rattle.std.proofs.lemmas.List.Elements.{All-head, All-tail}
use Rattle.std.proofs.lemmas.List.Sums.{sum_by-cons}
use Rattle.std.proofs.lemmas.List.{get_or_default}
use Rattle.plan_base.specs.declared.number.RequestNo.{RequestNo}
use Rattle.plan_base.specs.declared.parts.Op.{Op}
use Rattle.plan_base.specs.declared.state.RequestState.{RequestState}
use Rattle.plan_base.specs.declared.state.RequestState.TheVariants.{Pending, Completed, Canceled, WindowExpired}
use Rattle.plan_base.specs.States.{is_pending, is_completed}
use Rattle.request_model.specs.declared.group.GroupDoc.{GroupDoc}
use Rattle.allocations.specs.declared.entry.Hold.{Hold}
use Rattle.allocations.specs.declared.key.Key.{Key}
use Rattle.allocations.specs.Key.{key_cmp, is_key}
use Rattle.allocations.specs.Rising.{Rises}
use Rattle.allocations.specs.Books.{held_in}
use Rattle.allocations.proofs.Keys.{is_key-refl, is_key-true}
use Rattle.desk_runs.specs.declared.group.Group.{Group}
use Rattle.desk_runs.specs.declared.group.Request.{Request}
use Rattle.desk_runs.specs.declared.observation.Observation.{Observation}
use Rattle.plan_base.specs.declared.number.Sec.{Sec}
use Rattle.desk_runs.specs.Clock.{is_waiting, is_past, with_state, change_requests, with_past, is_lost}
use Rattle.desk_runs.specs.Numbers.{is_request, has_request, is_placed}
use Rattle.desk_runs.specs.Reports.{canceled, completed}
use Rattle.plan_base.specs.Operators.{is_oneof}
use Rattle.desk_runs.specs.States.{is_open, any_in}
use Rattle.desk_runs.specs.Turning.{turned}
use Rattle.desk_runs.specs.Sound.{IsLaterRequest, IsLater}
use Rattle.desk_runs.proofs.Later.{later_turned}
use Rattle.desk_runs.proofs.Lists.{of_choice}
use Rattle.desk_runs.proofs.Opened.{open_back}
use Rattle.desk_runs.specs.Progress.{Progress}
use Rattle.desk_runs.proofs.Reporting.{others}
use Rattle.desk_runs.proofs.ReportChange.{settled_group, later_settled}
use Rattle.desk_runs.proofs.Sounds.{any_kept, is_pending_request}
use Rattle.desk_core.specs.declared.desk.Submitted.{Submitted}
use Rattle.desk_core.specs.declared.desk.Wanted.{Wanted}
use Rattle.desk_core.specs.Holds.{key_of, needs_of, keys_in, greatest_in, held_for, holds_of, held_by}
use Rattle.desk_core.proofs.KeySets.{is_on, on_from, from_on, not_less, rises_head, rises_tail}
use Rattle.desk_core.proofs.Fewer.{need_of, hold_of, needs_step, part_needs, on_part, held_part, held_for_part, keys_rise, closed_holds, greater}
use Rattle.desk_core.proofs.Fewer.{greatest_least}
use Rattle.desk_core.proofs.Pends.{pair_parts}

-- ---- what it needs

pub on_need : (document : GroupDoc) (qs : List Request) (ws : List Wanted) (n : RequestNo) (q : Request) (v : Wanted)
    → find (λ m. is_request n m.0) (zip qs ws) ≡ Some (q, v) → is_pending q.state ≡ true → is_on (key_of document v) (needs_of document (zip qs ws)) ≡ true
on_need document [] ws n q v f p = cc
on_need document (x ∷ qs) [] n q v f p = cc
on_need document (x ∷ qs) (w ∷ ws) n q v f p =
    ap (is_on (key_of document v)) (needs_step document (is_pending x.state) x w (zip qs ws) (needs_of document (zip qs ws)) refl)
    ∙ by (is_request n x) f (is_pending x.state) refl (λ k. on_need document qs ws n q v k p)
  where
    by : (t : Bool) → cond t (Some (x, w)) (find (λ m. is_request n m.0) (zip qs ws)) ≡ Some (q, v) → (b : Bool) → is_pending x.state ≡ b
        → (find (λ m. is_request n m.0) (zip qs ws) ≡ Some (q, v) → is_on (key_of document v) (needs_of document (zip qs ws)) ≡ true)
        → is_on (key_of document v) (cond b (need_of document x w ∷ needs_of document (zip qs ws)) (needs_of document (zip qs ws))) ≡ true
    by true k true is rest =
        let same : w ≡ v = (pair_parts x q w v k).1 in
        or_left (is_key (key_of document w) (key_of document v)) (is_on (key_of document v) (needs_of document (zip qs ws)))
        (ap (λ (y : Wanted). is_key (key_of document w) (key_of document y)) (sym same) ∙ is_key-refl (key_of document w))
    by true k false is rest = let same : x ≡ q = (pair_parts x q w v k).0 in
        let bad : false ≡ true = sym is ∙ ap (λ (y : Request). is_pending y.state) same ∙ p in cc
    by false k true is rest = or_right (is_key (key_of document w) (key_of document v)) (is_on (key_of document v) (needs_of document (zip qs ws))) (rest k)
    by false k false is rest = rest k

-- ---- less is needed without it

keep_less : (a b : Bool) (key : Key) (m n : Hold) (ms ns : List Hold) (s : ℕ) → (b ≡ true → a ≡ true) → n ≡ m → s + held_in key ns ≤ held_in key ms
    → s + held_in key (cond b (n ∷ ns) ns) ≤ held_in key (cond a (m ∷ ms) ms)
keep_less true true key m n ms ns s i e l =
    let f : Hold → ℕ = λ x. cond (is_key x.key key) x.seconds 0 in
    let x = sum_by-cons f n ns in
    let y = sum_by-cons f m ms in
    let z : f n ≡ f m = ap f e in
    omega (arith, x, y, z, l)
keep_less true false key m n ms ns s i e l =
    let f : Hold → ℕ = λ x. cond (is_key x.key key) x.seconds 0 in
    let y = sum_by-cons f m ms in
    omega (arith, y, l)
keep_less false true key m n ms ns s i e l = let bad : false ≡ true = i refl in cc
keep_less false false key m n ms ns s i e l = l

sum_less : (document : GroupDoc) (qs rs : List Request) (ws : List Wanted) (n : RequestNo) (q : Request) (v : Wanted) → AllZip IsLaterRequest qs rs
    → find (λ m. is_request n m.0) (zip qs ws) ≡ Some (q, v) → is_pending q.state ≡ true → list_any (is_pending_request n) rs ≡ false
    → q.seconds + held_in (key_of document v) (needs_of document (zip rs ws)) ≤ held_in (key_of document v) (needs_of document (zip qs ws))
sum_less document [] rs ws n q v z f p e = cc
sum_less document (x ∷ qs) [] ws n q v z f p e = absurd z
sum_less document (x ∷ qs) (r ∷ rs) [] n q v z f p e = cc
sum_less document (x ∷ qs) (r ∷ rs) (w ∷ ws) n q v z f p e =
    let key : Key = key_of document v in
    let ms : List Hold = needs_of document (zip qs ws) in
    let ns : List Hold = needs_of document (zip rs ws) in
    let before = ap (held_in key) (needs_step document (is_pending x.state) x w (zip qs ws) ms refl) in
    let after = ap (held_in key) (needs_step document (is_pending r.state) r w (zip rs ws) ns refl) in
    let parts = or_parts (is_pending_request n r) (list_any (is_pending_request n) rs) e in
    let fewer : held_in key ns ≤ held_in key ms = held_part key ns ms (part_needs document qs rs ws z.1) in
    let less : q.seconds + held_in key (cond (is_pending r.state) (need_of document r w ∷ ns) ns)
    ≤ held_in key (cond (is_pending x.state) (need_of document x w ∷ ms) ms) =
    by (is_request n x) refl f (λ k. sum_less document qs rs ws n q v z.1 k p parts.1) fewer parts.0 in
    omega (arith, before, after, less)
  where
    by : (t : Bool) → is_request n x ≡ t → cond t (Some (x, w)) (find (λ m. is_request n m.0) (zip qs ws)) ≡ Some (q, v)
        → (find (λ m. is_request n m.0) (zip qs ws) ≡ Some (q, v)
        → q.seconds + held_in (key_of document v) (needs_of document (zip rs ws)) ≤ held_in (key_of document v) (needs_of document (zip qs ws)))
        → held_in (key_of document v) (needs_of document (zip rs ws)) ≤ held_in (key_of document v) (needs_of document (zip qs ws))
        → is_pending_request n r ≡ false
        → q.seconds + held_in (key_of document v)
        (cond (is_pending r.state) (need_of document r w ∷ needs_of document (zip rs ws)) (needs_of document (zip rs ws)))
        ≤ held_in (key_of document v) (cond (is_pending x.state) (need_of document x w ∷ needs_of document (zip qs ws)) (needs_of document (zip qs ws)))
    by true is k rest fewer none =
        let key : Key = key_of document v in
        let ms : List Hold = needs_of document (zip qs ws) in
        let ns : List Hold = needs_of document (zip rs ws) in
        let same : x ≡ q = (pair_parts x q w v k).0 in
        let same_too : w ≡ v = (pair_parts x q w v k).1 in
        let open_before : is_pending x.state ≡ true = ap (λ (y : Request). is_pending y.state) same ∙ p in
        let number : is_request n r ≡ true = ap (λ (m : RequestNo). m.0 == n.0) z.0.number ∙ is in
        let closed : is_pending r.state ≡ false =
        false_from_ne_true (is_pending r.state) (λ o. let bad : false ≡ true = sym none ∙ ap (λ (b : Bool). b && is_pending r.state) number ∙ o in
        cc) in
        let f : Hold → ℕ = λ y. cond (is_key y.key key) y.seconds 0 in
        let sum = sum_by-cons f (need_of document x w) ms in
        let on : is_key (key_of document w) key ≡ true = ap (λ (y : Wanted). is_key (key_of document w) (key_of document y)) (sym same_too)
        ∙ is_key-refl (key_of document w) in
        let here : f (need_of document x w) ≡ x.seconds = ap (λ (b : Bool). cond b x.seconds 0) on in
        let worth : x.seconds ≡ q.seconds = ap (λ (y : Request). y.seconds) same in
        let a = ap (λ (b : Bool). held_in key (cond b (need_of document r w ∷ ns) ns)) closed in
        let b = ap (λ (c : Bool). held_in key (cond c (need_of document x w ∷ ms) ms)) open_before in
        omega (arith, sum, here, worth, a, b, fewer)
    by false is k rest fewer none =
        keep_less (is_pending x.state) (is_pending r.state) (key_of document v) (need_of document x w) (need_of document r w)
        (needs_of document (zip qs ws)) (needs_of document (zip rs ws)) q.seconds
        (λ o. ap is_pending (sym (z.0.pending o)) ∙ o)
        (ap (λ (m : ℕ). let y : Hold = record { key = key_of document w; seconds = m } in y) z.0.seconds) (rest k)

greatest_has : (document : GroupDoc) (qs : List Request) (ws : List Wanted) (n : RequestNo) (q : Request) (v : Wanted) (a : ℕ)
    → find (λ m. is_request n m.0) (zip qs ws) ≡ Some (q, v) → is_pending q.state ≡ true
    → q.seconds ≤ fold (greater (key_of document v)) a (needs_of document (zip qs ws))
greatest_has document [] ws n q v a f p = cc
greatest_has document (x ∷ qs) [] n q v a f p = cc
greatest_has document (x ∷ qs) (w ∷ ws) n q v a f p =
    let step = ap (fold (greater (key_of document v)) a) (needs_step document (is_pending x.state) x w (zip qs ws) (needs_of document (zip qs ws)) refl) in
    let less : q.seconds ≤ fold (greater (key_of document v)) a
    (cond (is_pending x.state) (need_of document x w ∷ needs_of document (zip qs ws)) (needs_of document (zip qs ws))) =
    by (is_request n x) f (is_pending x.state) refl (λ c k. greatest_has document qs ws n q v c k p) in
    omega (arith, step, less)
  where
    by : (t : Bool) → cond t (Some (x, w)) (find (λ m. is_request n m.0) (zip qs ws)) ≡ Some (q, v) → (b : Bool) → is_pending x.state ≡ b
        → ((c : ℕ) → find (λ m. is_request n m.0) (zip qs ws) ≡ Some (q, v) → q.seconds ≤ fold (greater (key_of document v)) c (needs_of document (zip qs ws)))
        → q.seconds ≤ fold (greater (key_of document v)) a (cond b (need_of document x w ∷ needs_of document (zip qs ws)) (needs_of document (zip qs ws)))
    by true k true is rest =
        let same : x ≡ q = (pair_parts x q w v k).0 in
        let same_too : w ≡ v = (pair_parts x q w v k).1 in
        let on : is_key (key_of document w) (key_of document v) ≡ true =
        ap (λ (y : Wanted). is_key (key_of document w) (key_of document y)) (sym same_too) ∙ is_key-refl (key_of document w) in
        let worth : x.seconds ≡ q.seconds = ap (λ (y : Request). y.seconds) same in
        let here : greater (key_of document v) a (need_of document x w) ≡ max a x.seconds = ap (λ (b : Bool). cond b (max a x.seconds) a) on in
        greatest_least (key_of document v) (needs_of document (zip qs ws)) q.seconds (greater (key_of document v) a (need_of document x w))
        (omega (arith, worth, here))
    by true k false is rest = let same : x ≡ q = (pair_parts x q w v k).0 in
        let bad : false ≡ true = sym is ∙ ap (λ (y : Request). is_pending y.state) same ∙ p in cc
    by false k true is rest = rest (greater (key_of document v) a (need_of document x w)) k
    by false k false is rest = rest a k

-- ---- what is held of one account

-- is at least what is needed of it, where it is one of these accounts
held_keys : (op : Op) (needs : List Hold) (key : Key) (ks : List Key) (i : ℕ) → i < length ks → get_or ks i key ≡ key
    → held_for op needs key ≤ held_in key (map (hold_of op needs) ks)
held_keys op needs key [] i l e = absurd (omega arith)
held_keys op needs key (k ∷ ks) zero l e =
    let f : Hold → ℕ = λ y. cond (is_key y.key key) y.seconds 0 in
    let sum = sum_by-cons f (hold_of op needs k) (map (hold_of op needs) ks) in
    let on : is_key k key ≡ true = ap (λ (y : Key). is_key y key) e ∙ is_key-refl key in
    let here : f (hold_of op needs k) ≡ held_for op needs k = ap (λ (b : Bool). cond b (held_for op needs k) 0) on in
    let same : held_for op needs k ≡ held_for op needs key = ap (held_for op needs) e in
    omega (arith, sum, here, same)
held_keys op needs key (k ∷ ks) (suc i) l e =
    let f : Hold → ℕ = λ y. cond (is_key y.key key) y.seconds 0 in
    let sum = sum_by-cons f (hold_of op needs k) (map (hold_of op needs) ks) in
    let rest : held_for op needs key ≤ held_in key (map (hold_of op needs) ks) = held_keys op needs key ks i (omega arith) e in
    omega (arith, sum, rest)

-- nothing of an account that none of these is
held_none : (op : Op) (needs : List Hold) (key : Key) (ks : List Key) → All (λ k. is_key k key ≡ false) ks → held_in key (map (hold_of op needs) ks) ≡ 0
held_none op needs key [] h = refl
held_none op needs key (k ∷ ks) h =
    let f : Hold → ℕ = λ y. cond (is_key y.key key) y.seconds 0 in
    let sum = sum_by-cons f (hold_of op needs k) (map (hold_of op needs) ks) in
    let here : f (hold_of op needs k) ≡ 0 = ap (λ (b : Bool). cond b (held_for op needs k) 0) (All-head (λ y. is_key y key ≡ false) k ks h) in
    let rest : held_in key (map (hold_of op needs) ks) ≡ 0 = held_none op needs key ks (All-tail (λ y. is_key y key ≡ false) k ks h) in
    omega (arith, sum, here, rest)

-- at most what is needed of it, since each account stands once
held_once : (op : Op) (needs : List Hold) (key : Key) (ks : List Key) → Rises key_cmp ks → held_in key (map (hold_of op needs) ks) ≤ held_for op needs key
held_once op needs key [] r = omega arith
held_once op needs key (k ∷ ks) r =
    let f : Hold → ℕ = λ y. cond (is_key y.key key) y.seconds 0 in
    let sum = sum_by-cons f (hold_of op needs k) (map (hold_of op needs) ks) in
    elim (cases_Bool (is_key k key)) [
      | inl on ↦
          let here : f (hold_of op needs k) ≡ held_for op needs k = ap (λ (b : Bool). cond b (held_for op needs k) 0) on in
          let is : k ≡ key = is_key-true k key on in
          let same : held_for op needs k ≡ held_for op needs key = ap (held_for op needs) is in
          let rest : held_in key (map (hold_of op needs) ks) ≡ 0 =
          held_none op needs key ks (λ i d l. false_from_ne_true (is_key (get_or ks i d) key) (λ too.
          not_less k (ap (key_cmp k) (is ∙ sym (is_key-true (get_or ks i d) key too)) ∙ rises_head k ks r i d l))) in
          omega (arith, sum, here, same, rest)
      | inr off ↦
          let here : f (hold_of op needs k) ≡ 0 = ap (λ (b : Bool). cond b (held_for op needs k) 0) off in
          let rest : held_in key (map (hold_of op needs) ks) ≤ held_for op needs key = held_once op needs key ks (rises_tail k ks r) in
          omega (arith, sum, here, rest)
    ]

-- so a group that has gone on holds no more of an account
pub group_no_more : (w : Submitted) (g h : Group) (key : Key) → IsLater g h → held_in key (held_by w h) ≤ held_in key (held_by w g)
group_no_more w g h key later =
    let ms : List Hold = needs_of w.document (zip g.requests w.requests) in
    let ns : List Hold = needs_of w.document (zip h.requests w.requests) in
    let part = part_needs w.document g.requests h.requests w.requests later.requests in
    let op : held_in key (held_by w h) ≡ held_in key (holds_of g.op ns) = ap (λ (o : Op). held_in key (holds_of o ns)) later.op in
    elim (cases_Bool (is_on key ns)) [
      | inl on ↦
          let at : Contains (keys_in ms) key = on_from [] ms key (on_part key ns ms part on) in
          let a : held_in key (holds_of g.op ns) ≤ held_for g.op ns key = held_once g.op ns key (keys_in ns) (keys_rise ns) in
          let b : held_for g.op ns key ≤ held_for g.op ms key = held_for_part g.op key ns ms part in
          let c : held_for g.op ms key ≤ held_in key (holds_of g.op ms) = held_keys g.op ms key (keys_in ms) at.0 at.1 at.2 in
          omega (arith, op, a, b, c)
      | inr off ↦
          let none : held_in key (holds_of g.op ns) ≡ 0 =
          held_none g.op ns key (keys_in ns) (λ i d l. false_from_ne_true (is_key (get_or (keys_in ns) i d) key) (λ on.
          let there : Contains (keys_in ns) key = (i, l, get_or_default (keys_in ns) i key d l ∙ is_key-true (get_or (keys_in ns) i d) key on) in
          elim (from_on [] ns key there) [
            | inl before ↦ absurd (let within : before.0 < 0 = before.1 in omega (arith, within))
            | inr among ↦ let bad : false ≡ true = sym off ∙ among in cc
          ])) in
          omega (arith, op, none)
    ]

-- and less, once a request of it is completed or all are over
pub group_less_by : (w : Submitted) (g h : Group) (n : RequestNo) (q : Request) (v : Wanted) → IsLater g h
    → find (λ m. is_request n m.0) (zip g.requests w.requests) ≡ Some (q, v) → is_pending q.state ≡ true
    → (is_oneof g.op ≡ true → is_open h ≡ false) → list_any (is_pending_request n) h.requests ≡ false
    → q.seconds + held_in (key_of w.document v) (held_by w h) ≤ held_in (key_of w.document v) (held_by w g)
group_less_by w g h n q v later f p one none =
    let key : Key = key_of w.document v in
    let ms : List Hold = needs_of w.document (zip g.requests w.requests) in
    let ns : List Hold = needs_of w.document (zip h.requests w.requests) in
    let at : Contains (keys_in ms) key = on_from [] ms key (on_need w.document g.requests w.requests n q v f p) in
    let c : held_for g.op ms key ≤ held_in key (holds_of g.op ms) = held_keys g.op ms key (keys_in ms) at.0 at.1 at.2 in
    let op : held_in key (held_by w h) ≡ held_in key (holds_of g.op ns) = ap (λ (o : Op). held_in key (holds_of o ns)) later.op in
    elim (cases_Bool (is_oneof g.op)) [
      | inl is ↦
          let nothing : held_in key (held_by w h) ≡ 0 = ap (held_in key) (closed_holds w h (one is)) in
          let greatest : q.seconds ≤ greatest_in key ms = greatest_has w.document g.requests w.requests n q v 0 f p in
          let same : held_for g.op ms key ≡ greatest_in key ms = ap (λ (b : Bool). cond b (greatest_in key ms) (held_in key ms)) is in
          omega (arith, nothing, greatest, same, c)
      | inr isnt ↦
          let a : held_in key (holds_of g.op ns) ≤ held_for g.op ns key = held_once g.op ns key (keys_in ns) (keys_rise ns) in
          let b : held_for g.op ns key ≡ held_in key ns = ap (λ (x : Bool). cond x (greatest_in key ns) (held_in key ns)) isnt in
          let d : held_for g.op ms key ≡ held_in key ms = ap (λ (x : Bool). cond x (greatest_in key ms) (held_in key ms)) isnt in
          let e : q.seconds + held_in key ns ≤ held_in key ms = sum_less w.document g.requests h.requests w.requests n q v later.requests f p none in
          omega (arith, op, a, b, c, d, e)
    ]

-- ---- a completed request

any_map : (p t : Request → Bool) (f : Request → Request) → ((x : Request) → p x ≡ true → t (f x) ≡ true) → (xs : List Request) → list_any p xs ≡ true
    → list_any t (map f xs) ≡ true
any_map p t f h [] e = cc
any_map p t f h (x ∷ xs) e = elim (or_cases (p x) (list_any p xs) e) [
  | inl here ↦ or_left (t (f x)) (list_any t (map f xs)) (h x here)
  | inr later ↦ or_right (t (f x)) (list_any t (map f xs)) (any_map p t f h xs later)
]

not_both : (s : RequestState) → is_completed s ≡ true → is_pending s ≡ false
not_both Pending e = cc
not_both Completed e = refl
not_both WindowExpired e = cc
not_both Canceled e = cc

-- completed members stay so where only pending ones change
stays_done : (test : Request → Bool) (state : RequestState) → ((x : Request) → is_pending x.state ≡ false → test x ≡ false) → (g : Group)
    → any_in is_completed g ≡ true
    → any_in is_completed (change_requests test state g) ≡ true
stays_done test state only g e =
    any_kept (λ q. is_completed q.state) (λ q. cond (test q) (with_state state q) q)
    (λ x done. ap (λ (b : Bool). is_completed (cond b (with_state state x) x).state) (only x (not_both x.state done)) ∙ done) g.requests e

completed_in : (n : RequestNo) (g : Group) → has_request n g ≡ true → any_in is_completed (completed n g) ≡ true
completed_in n g has =
    let h : Group = change_requests (is_request n) Completed g in
    let first : any_in is_completed h ≡ true =
    any_map (is_request n) (λ q. is_completed q.state) (λ q. cond (is_request n q) (with_state Completed q) q)
    (λ x e. ap (λ (b : Bool). is_completed (cond b (with_state Completed x) x).state) e) g.requests has in
    of_choice (λ (x : Group). any_in is_completed x ≡ true) (is_oneof g.op) (canceled h) h
    (λ t. stays_done (λ q. is_pending q.state) Canceled (λ x e. e) h first) (λ f. first)

turned_in : (running : List Observation) (now : Sec) (g : Group) → any_in is_completed g ≡ true → any_in is_completed (turned running now g) ≡ true
turned_in running now g e =
    let waits : (x : Request) → is_pending x.state ≡ false → is_waiting running x ≡ false =
    λ x no_more. and_left (is_pending x.state) (not (is_placed running x.number)) no_more in
    let past : Group = with_past running now g in
    let first : any_in is_completed past ≡ true =
    stays_done (is_past running now) WindowExpired (λ x no_more. and_right _ (is_waiting running x) (waits x no_more)) g e in
    of_choice (λ (x : Group). any_in is_completed x ≡ true) (is_lost past) (change_requests (is_waiting running) WindowExpired past) past
    (λ t. stays_done (is_waiting running) WindowExpired waits past first) (λ f. first)

none_map : (t : Request → Bool) (f : Request → Request) → ((x : Request) → t (f x) ≡ false) → (xs : List Request) → list_any t (map f xs) ≡ false
none_map t f h [] = refl
none_map t f h (x ∷ xs) = ap (λ (b : Bool). b || list_any t (map f xs)) (h x) ∙ none_map t f h xs

not_one : (n : RequestNo) (x : Request) → is_pending_request n (cond (is_request n x) (with_state Completed x) x) ≡ false
not_one n x = elim (cases_Bool (is_request n x)) [
  | inl is ↦ ap (λ (b : Bool). is_pending_request n (cond b (with_state Completed x) x)) is ∙ and_right (is_request n x) false refl
  | inr isnt ↦ ap (λ (b : Bool). is_pending_request n (cond b (with_state Completed x) x)) isnt ∙ and_left (is_request n x) (is_pending x.state) isnt
]

not_pending : (x : Request) → is_pending (cond (is_pending x.state) (with_state Canceled x) x).state ≡ false
not_pending x = of_choice (λ (r : Request). is_pending r.state ≡ false) (is_pending x.state) (with_state Canceled x) x (λ t. refl) (λ f. f)

completed_none : (n : RequestNo) (g : Group) → list_any (is_pending_request n) (completed n g).requests ≡ false
completed_none n g =
    let h : Group = change_requests (is_request n) Completed g in
    of_choice (λ (x : Group). list_any (is_pending_request n) x.requests ≡ false) (is_oneof g.op) (canceled h) h
    (λ t. none_map (is_pending_request n) (λ q. cond (is_pending q.state) (with_state Canceled q) q)
    (λ x. and_right (is_request n (cond (is_pending x.state) (with_state Canceled x) x))
    (is_pending (cond (is_pending x.state) (with_state Canceled x) x).state) (not_pending x)) h.requests)
    (λ f. none_map (is_pending_request n) (λ q. cond (is_request n q) (with_state Completed q) q) (not_one n) g.requests)

completed_closed : (n : RequestNo) (g : Group) → is_oneof g.op ≡ true → is_open (completed n g) ≡ false
completed_closed n g one =
    let h : Group = change_requests (is_request n) Completed g in
    ap (λ (b : Bool). is_open (cond b (canceled h) h)) one
    ∙ none_map (λ q. is_pending q.state) (λ q. cond (is_pending q.state) (with_state Canceled q) q) not_pending h.requests

pend_back : (n : RequestNo) (xs ys : List Request) → AllZip IsLaterRequest xs ys → list_any (is_pending_request n) ys ≡ true
    → list_any (is_pending_request n) xs ≡ true
pend_back n [] [] z e = e
pend_back n [] (y ∷ ys) z e = absurd z
pend_back n (x ∷ xs) [] z e = absurd z
pend_back n (x ∷ xs) (y ∷ ys) z e = elim (or_cases (is_pending_request n y) (list_any (is_pending_request n) ys) e) [
  | inl here ↦
      let parts = and_parts (is_request n y) (is_pending y.state) here in
      or_left (is_pending_request n x) (list_any (is_pending_request n) xs)
      (ap (λ (m : RequestNo). (m.0 == n.0) && is_pending x.state) (sym z.0.number) ∙ ap (λ (b : Bool). b && is_pending x.state) parts.0
      ∙ ap is_pending (sym (z.0.pending parts.1)) ∙ parts.1)
  | inr later ↦ or_right (is_pending_request n x) (list_any (is_pending_request n) xs) (pend_back n xs ys z.1 later)
]

-- a group of which a request is completed, after the moment
pub record IsDone (n : RequestNo) (g h : Group) : Type 0 where
  pub later : IsLater g h
  pub completed_too : any_in is_completed h ≡ true
  pub none : list_any (is_pending_request n) h.requests ≡ false
  pub closed : is_oneof g.op ≡ true → is_open h ≡ false

pub settled_done : (n : RequestNo) (s : Progress) (g : Group) → has_request n g ≡ true → IsDone n g (settled_group n true s g)
settled_done n s g has =
    let c : Group = completed n g in
    let h : Group = settled_group n true s g in
    let on : IsLater c h = later_turned (others n s.running) s.moment c in
    record {
      later = later_settled n true s g;
      completed_too = turned_in (others n s.running) s.moment c (completed_in n g has);
      none = false_from_ne_true (list_any (is_pending_request n) h.requests) (λ o. let bad : false ≡ true = sym (completed_none n g)
          ∙ pend_back n c.requests h.requests on.requests o in cc);
      closed = λ one. false_from_ne_true (is_open h) (λ o. let bad : false ≡ true = sym (completed_closed n g one) ∙ open_back c h on o in cc);
    }
