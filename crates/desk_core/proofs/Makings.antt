-- The requests that a document makes are in the ranges, and as many as their group may have.
use Rattle.std.proofs.Common.{◌≡◌, ◌∙◌, ap, sym, subst, refl, ℕ, zero, suc, ◌+◌, ◌*◌, ◌/◌, ◌%◌, ◌<◌, ◌≤◌, min, max, nat_le, nat_lt, Bool, true, false}
use Rattle.std.proofs.Common.{cond, ◌&&◌, List, [], ◌∷◌, ◌++◌, length, map, fold, sum_by, All, get_or, Option, Some, None, Result, Ok, Err, arith, inl}
use Rattle.std.proofs.Common.{inr}
use Rattle.std.specs.List.{enumerate_from, list_any, range_with_len}
use Rattle.std.specs.Option.{ok_or}
use Rattle.std.specs.Int.{div_ceil, is_in_range}
use Rattle.std.proofs.lemmas.Bool.{leb-true, ltb-false, le-leb, and_parts, eqb-true, cases_lt}
use Rattle.std.proofs.lemmas.Grind.{div_ceil_times}
use Rattle.std.proofs.lemmas.List.{length-append, length-map}
use Rattle.std.proofs.lemmas.List.Elements.{All-nil, All-cons, All-head, All-tail, All-append, All-map}
use Rattle.std.proofs.lemmas.List.Folds.{list_any_at}
use Rattle.std.proofs.lemmas.List.FromFn.{length-map-range_with_len}
use Rattle.std.proofs.lemmas.List.Sums.{get_or-le-sum_by, length-filter, count_by-le-length}
use Rattle.plan_base.specs.Limits.{most_seconds}
use Rattle.plan_base.specs.Snapshot.{most_requests}
use Rattle.plan_base.specs.declared.number.Sec.{Sec}
use Rattle.plan_base.specs.declared.parts.Op.{Op}
use Rattle.plan_base.specs.declared.parts.Op.TheVariants.{Single, Many, OneOf, And}
use Rattle.plan_base.specs.declared.span.Span.{Span}
use Rattle.plan_json.specs.Ranges.{IsBetween}
use Rattle.request_model.specs.Group.{is_shape}
use Rattle.request_model.specs.Ranges.{IsConfiguration, AreConfigurations, IsExposure, IsCadence, IsWindow, AreWindows, IsWhen, IsRequest, IsGroup}
use Rattle.request_model.specs.declared.group.GroupDoc.{GroupDoc}
use Rattle.request_model.specs.declared.request.Cadence.{Cadence as CadenceDoc}
use Rattle.request_model.specs.declared.request.ConfigDoc.{ConfigDoc}
use Rattle.request_model.specs.declared.request.Exposure.{Exposure}
use Rattle.request_model.specs.declared.request.RequestDoc.{RequestDoc}
use Rattle.request_model.specs.declared.request.When.{When}
use Rattle.request_model.specs.declared.request.When.TheVariants.{Windows, Cadence}
use Rattle.request_model.specs.declared.time_fault.TimeFault.{TimeFault}
use Rattle.request_times.specs.declared.instrument.Instrument.{Instrument}
use Rattle.request_times.specs.Duration.{exposure_ms, configuration_ms, request_ms, request_seconds, duration}
use Rattle.request_times.specs.Cadence.{centre, centre_count, window, is_long, windows_of, is_cadence, if_any, expansion}
use Rattle.request_times.proofs.Sound.{sound}
use Rattle.site_model.specs.declared.code.InstrumentTimes.{InstrumentTimes}
use Rattle.site_model.specs.Registry.{RegistrySeen, times_of}
use Rattle.desk_events.specs.declared.refusal.Refusal.{Refusal}
use Rattle.desk_events.specs.declared.refusal.Refusal.TheVariants.{NoSuchInstrument}
use Rattle.desk_core.specs.Desk.{DeskSeen}
use Rattle.plan_base.specs.Operators.{is_single}
use Rattle.desk_core.specs.Asking.{follows, turned_into, at_index, overheads, seconds_for, windows_for, is_outside, is_past, is_fitted}
use Rattle.desk_core.specs.Asking.{made_with, tested, made_from, gathered, made_of, last_of, MadeSeen}
use Rattle.desk_core.specs.Submitting.{op_of}
use Rattle.desk_core.specs.Making.{IsMade, AreMade}

-- ---- how long a request takes

one_second : (ms : ℕ) → 1 ≤ ms → 1 ≤ div_ceil ms 1000
one_second ms h = let b = div_ceil_times ms 1000 (omega arith) in let least : ms ≤ (ms / 1000 + min 1 (ms % 1000)) * 1000 = b.0 in omega (arith, least)

some_exposure : (instrument : Instrument) (e : Exposure) → IsExposure e → 1 ≤ exposure_ms instrument e
some_exposure instrument e h = let most = product e.count (e.ms + instrument.readout_ms) h.number.low (omega (arith, h.time.low)) in omega (arith, most)
  where
    product : (a b : ℕ) → 1 ≤ a → 1 ≤ b → 1 ≤ a * b
    product (suc a) (suc b) h k = omega arith
    product zero b h k = absurd (omega arith)
    product (suc a) zero h k = absurd (omega arith)

some_configuration : (instrument : Instrument) (c : ConfigDoc) → IsConfiguration c → 1 ≤ configuration_ms instrument c
some_configuration instrument c h = by c.exposures h.count.low h.each
  where
    by : (es : List Exposure) → 1 ≤ length es → All IsExposure es → 1 ≤ instrument.config_ms + sum_by (exposure_ms instrument) es
    by [] some each = absurd (omega arith)
    by (e ∷ es) some each =
        let part = get_or-le-sum_by (exposure_ms instrument) (e ∷ es) 0 e (omega arith) in
        let first = some_exposure instrument e (All-head IsExposure e es each) in
        omega (arith, part, first)

some_request : (instrument : Instrument) (cs : List ConfigDoc) → AreConfigurations cs → 1 ≤ request_ms instrument cs
some_request instrument [] h = absurd (omega (arith, h.count.low))
some_request instrument (c ∷ cs) h =
    let part = get_or-le-sum_by (configuration_ms instrument) (c ∷ cs) 0 c (omega arith) in
    let first = some_configuration instrument c (All-head IsConfiguration c cs h.each) in
    omega (arith, part, first)

duration_is : (instrument : Instrument) (cs : List ConfigDoc) (seconds : ℕ) → AreConfigurations cs → duration instrument cs ≡ Ok seconds
    → IsBetween 1 86400 seconds
duration_is instrument cs seconds h e = by (nat_le (request_seconds instrument cs) most_seconds) refl e
  where
    by : (b : Bool) → nat_le (request_seconds instrument cs) most_seconds ≡ b → duration instrument cs ≡ Ok seconds → IsBetween 1 86400 seconds
    by true t e =
        let d : Result ℕ TimeFault = Ok (request_seconds instrument cs) in
        let is : d ≡ Ok seconds = rw t at e in
        let same : request_seconds instrument cs ≡ seconds = cc in
        let least = one_second (request_ms instrument cs) (some_request instrument cs h) in
        let most = leb-true (request_seconds instrument cs) most_seconds t in
        record { low = omega (arith, least, same); high = omega (arith, most, same) }
    by false t e = let bad = rw t at e in absurd (cc)

pub seconds_are : (r : RegistrySeen) (index : ℕ) (q : RequestDoc) (seconds : ℕ) → AreConfigurations q.configurations
    → seconds_for r index q ≡ Ok seconds → IsBetween 1 86400 seconds
seconds_are r index q seconds h e = by (times_of r q.instrument) e
  where
    timed : (times : InstrumentTimes) (d : Result ℕ TimeFault) → duration (overheads times) q.configurations ≡ d → at_index index d ≡ Ok seconds
        → IsBetween 1 86400 seconds
    timed times (Ok n) t e = duration_is (overheads times) q.configurations seconds h (t ∙ cc)
    timed times (Err fault) t e = absurd (cc)

    by : (o : Option InstrumentTimes)
        → follows (ok_or o (NoSuchInstrument index)) (λ times. at_index index (duration (overheads times) q.configurations)) ≡ Ok seconds
        → IsBetween 1 86400 seconds
    by None e = absurd (cc)
    by (Some times) e = timed times (duration (overheads times) q.configurations) refl e

-- ---- the windows of a cadence

pub record IsExpanded (c : CadenceDoc) (seconds : ℕ) (windows : List Span) : Type 0 where
  pub count : IsBetween 1 256 (length windows)
  pub each : All IsWindow windows

few_windows : (c : CadenceDoc) (seconds n : ℕ) → length (windows_of c seconds n) ≤ n
few_windows c seconds n =
    let all : List Span = map (λ k. window c (centre c k)) (range_with_len 0 n) in
    let kept = length-filter (is_long seconds) all in
    let part = count_by-le-length (is_long seconds) all in
    let count = length-map-range_with_len (λ k. window c (centre c k)) 0 n in
    omega (arith, kept, part, count)

pub expanded : (c : CadenceDoc) (seconds : ℕ) (windows : List Span) → IsCadence c → 1 ≤ seconds → expansion c seconds ≡ Ok windows
    → IsExpanded c seconds windows
expanded c seconds windows h some e = record {
  count = counted (is_cadence c) (nat_le (centre_count c) 256) (windows_of c seconds (centre_count c)) refl refl refl e;
  each = λ i d l.
      let s = sound c seconds windows e in
      let long = s.long i d l in
      let inside = s.inside i d l in
      record { order = omega (arith, long, some); last = omega (arith, inside.to, h.last) };
}
  where
    counted : (a b : Bool) (ws : List Span) → is_cadence c ≡ a → nat_le (centre_count c) 256 ≡ b → windows_of c seconds (centre_count c) ≡ ws
        → expansion c seconds ≡ Ok windows → IsBetween 1 256 (length windows)
    counted false b ws p q r e = let bad = rw p at e in absurd (cc)
    counted true false ws p q r e = let bad = rw q at (rw p at e) in absurd (cc)
    counted true true [] p q r e = let bad = rw r at (rw q at (rw p at e)) in absurd (cc)
    counted true true (w ∷ ws) p q r e =
        let is : if_any (w ∷ ws) ≡ Ok windows = rw r at (rw q at (rw p at e)) in
        let same : w ∷ ws ≡ windows = cc in
        let few = few_windows c seconds (centre_count c) in
        let most = leb-true (centre_count c) 256 q in
        record { low = subst (λ (l : List Span). 1 ≤ length l) same (omega arith); high = omega (arith, few, most, ap length r, ap length same) }

-- ---- the windows of a request

pub record AreListed (op : Op) (lists : List (List Span)) : Type 0 where
  pub count : IsBetween 1 256 (length lists)
  pub one : is_single op ≡ false → length lists ≡ 1
  pub each : All AreWindows lists

pub listed : (op : Op) (index seconds : ℕ) (when : When) (lists : List (List Span)) → IsWhen when → 1 ≤ seconds
    → windows_for op index seconds when ≡ Ok lists → AreListed op lists
listed op index seconds (Windows ws) lists h some e =
    let same : ws ∷ [] ≡ lists = cc in
    subst (AreListed op) same (record {
      count = record { low = omega arith; high = omega arith };
      one = λ single. refl;
      each = All-cons AreWindows ws [] h (All-nil AreWindows);
    })
listed op index seconds (Cadence c) lists h some e = by (is_single op) refl e
  where
    of_windows : (r : Result (List Span) TimeFault) → expansion c seconds ≡ r → turned_into (at_index index r) (map (λ w. w ∷ [])) ≡ Ok lists
        → (is_single op ≡ false → ⊥) → AreListed op lists
    of_windows (Err fault) t e many = absurd (cc)
    of_windows (Ok ws) t e many =
        let x = expanded c seconds ws h some t in
        let same : map (λ w. w ∷ []) ws ≡ lists = cc in
        let count : length (map (λ w. w ∷ []) ws) ≡ length ws = length-map ws (λ w. w ∷ []) in
        subst (AreListed op) same (record {
          count = record { low = omega (arith, count, x.count.low); high = omega (arith, count, x.count.high) };
          one = λ single. absurd (many single);
          each = All-map AreWindows (λ w. w ∷ []) ws
              (λ i d l. record {
                count = record { low = omega arith; high = omega arith };
                each = All-cons IsWindow (get_or ws i d) [] (x.each i d l) (All-nil IsWindow);
              });
        })

    by : (b : Bool) → is_single op ≡ b → windows_for op index seconds (Cadence c) ≡ Ok lists → AreListed op lists
    by false s e = let bad = rw s at e in absurd (cc)
    by true s e = of_windows (expansion c seconds) refl (rw s at e) (λ f. let bad : true ≡ false = sym s ∙ f in cc)

-- ---- the requests of one of a document

pub record ArePart (now : Sec) (op : Op) (made : List MadeSeen) : Type 0 where
  pub count : IsBetween 1 256 (length made)
  pub one : is_single op ≡ false → length made ≡ 1
  pub each : All (IsMade now) made

none_past : (now : Sec) (lists : List (List Span)) → list_any (is_past now) lists ≡ false → All (λ ws. is_past now ws ≡ false) lists
none_past now lists h = λ i d l. false_here (is_past now (get_or lists i d))
    (λ t. let bad : true ≡ false = sym (list_any_at (is_past now) lists i d l t) ∙ h in cc)
  where
    false_here : (b : Bool) → (b ≡ true → ⊥) → b ≡ false
    false_here true n = absurd (n refl)
    false_here false n = refl

tested_are : (d : DeskSeen) (op : Op) (index : ℕ) (q : RequestDoc) (seconds : ℕ) (lists : List (List Span)) (made : List MadeSeen) → IsRequest q
    → IsBetween 1 86400 seconds → AreListed op lists → tested d index q seconds lists ≡ Ok made → ArePart d.progress.moment op made
tested_are d op index q seconds lists made hq hs hl e =
    by (is_outside d.opening.semester lists) (list_any (is_past d.progress.moment) lists) (is_fitted d.network.registry q) refl refl refl e
  where
    by : (a b c : Bool) → is_outside d.opening.semester lists ≡ a → list_any (is_past d.progress.moment) lists ≡ b
        → is_fitted d.network.registry q ≡ c → tested d index q seconds lists ≡ Ok made → ArePart d.progress.moment op made
    by true b c x y z e = let bad = rw x at e in absurd (cc)
    by false true c x y z e = let bad = rw y at (rw x at e) in absurd (cc)
    by false false false x y z e = let bad = rw z at (rw y at (rw x at e)) in absurd (cc)
    by false false true x y z e =
        let r : Result (List MadeSeen) Refusal = Ok (made_with q seconds lists) in
        let is : r ≡ Ok made = rw z at (rw y at (rw x at e)) in
        let same : made_with q seconds lists ≡ made = cc in
        let late = none_past d.progress.moment lists y in
        let count : length (made_with q seconds lists) ≡ length lists =
        length-map lists (λ windows. let m : MadeSeen = record { asked = q; seconds = seconds; windows = windows } in m) in
        subst (ArePart d.progress.moment op) same (record {
          count = record { low = omega (arith, count, hl.count.low); high = omega (arith, count, hl.count.high) };
          one = λ single. count ∙ hl.one single;
          each = All-map (IsMade d.progress.moment) (λ windows. let m : MadeSeen = record { asked = q; seconds = seconds; windows = windows } in m) lists
              (λ i w l. record { asked = hq; seconds = hs; windows = hl.each i w l; late = late i w l });
        })

pub part_is : (d : DeskSeen) (op : Op) (index : ℕ) (q : RequestDoc) (made : List MadeSeen) → IsRequest q → made_from d op (index, q) ≡ Ok made
    → ArePart d.progress.moment op made
part_is d op index q made h e = timed (seconds_for d.network.registry index q) refl e
  where
    placed : (seconds : ℕ) → IsBetween 1 86400 seconds → (r : Result (List (List Span)) Refusal) → windows_for op index seconds q.when ≡ r
        → follows r (tested d index q seconds) ≡ Ok made → ArePart d.progress.moment op made
    placed seconds hs (Err refusal) t e = absurd (cc)
    placed seconds hs (Ok lists) t e = tested_are d op index q seconds lists made h hs (listed op index seconds q.when lists h.times hs.low t) e

    timed : (r : Result ℕ Refusal) → seconds_for d.network.registry index q ≡ r
        → follows r (λ seconds. follows (windows_for op index seconds q.when) (tested d index q seconds)) ≡ Ok made
        → ArePart d.progress.moment op made
    timed (Err refusal) t e = absurd (cc)
    timed (Ok seconds) t e = placed seconds (seconds_are d.network.registry index q seconds h.taken t) (windows_for op index seconds q.when) refl e

-- ---- those of all

pub record AreAll (now : Sec) (op : Op) (requests : ℕ) (made : List MadeSeen) : Type 0 where
  pub none : requests ≡ 0 → length made ≡ 0
  pub one : is_single op ≡ false → length made ≡ requests
  pub single : requests ≡ 1 → IsBetween 1 256 (length made)
  pub each : All (IsMade now) made

pub all_are : (d : DeskSeen) (op : Op) (index : ℕ) (qs : List RequestDoc) (made : List MadeSeen) → All IsRequest qs
    → gathered (map (made_from d op) (enumerate_from index qs)) ≡ Ok made → AreAll d.progress.moment op (length qs) made
all_are d op index [] made h e =
    let none : List MadeSeen = [] in
    let same : none ≡ made = cc in
    subst (AreAll d.progress.moment op 0) same
    (record { none = λ z. refl; one = λ s. refl; single = λ z. absurd (omega (arith, z)); each = All-nil (IsMade d.progress.moment) })
all_are d op index (q ∷ qs) made h e =
    first (made_from d op (index, q)) refl e (λ rest t. all_are d op (index + 1) qs rest (All-tail IsRequest q qs h) t)
  where
    joined : (part : List MadeSeen) → ArePart d.progress.moment op part → (r : Result (List MadeSeen) Refusal)
        → gathered (map (made_from d op) (enumerate_from (index + 1) qs)) ≡ r → turned_into r (λ rest. part ++ rest) ≡ Ok made
        → ((rest : List MadeSeen) → gathered (map (made_from d op) (enumerate_from (index + 1) qs)) ≡ Ok rest
        → AreAll d.progress.moment op (length qs) rest) → AreAll d.progress.moment op (suc (length qs)) made
    joined part p (Err refusal) t e later = absurd (cc)
    joined part p (Ok rest) t e later =
        let same : part ++ rest ≡ made = cc in
        let count : length (part ++ rest) ≡ length part + length rest = length-append part rest in
        let all = later rest t in
        subst (AreAll d.progress.moment op (suc (length qs))) same (record {
          none = λ z. absurd (omega (arith, z));
          one = λ s. let one = p.one s in let others = all.one s in omega (arith, count, one, others);
          single = λ z. let others = all.none (omega (arith, z)) in
              record { low = omega (arith, count, others, p.count.low); high = omega (arith, count, others, p.count.high) };
          each = All-append (IsMade d.progress.moment) part rest p.each all.each;
        })

    first : (r : Result (List MadeSeen) Refusal) → made_from d op (index, q) ≡ r
        → follows r (λ made. turned_into (gathered (map (made_from d op) (enumerate_from (index + 1) qs))) (λ rest. made ++ rest)) ≡ Ok made
        → ((rest : List MadeSeen) → gathered (map (made_from d op) (enumerate_from (index + 1) qs)) ≡ Ok rest
        → AreAll d.progress.moment op (length qs) rest) → AreAll d.progress.moment op (suc (length qs)) made
    first (Err refusal) t e later = absurd (cc)
    first (Ok part) t e later = joined part (part_is d op index q part (All-head IsRequest q qs h) t)
        (gathered (map (made_from d op) (enumerate_from (index + 1) qs))) refl e later

-- ---- the group

shaped : (now : Sec) (document : GroupDoc) (made : List MadeSeen) → IsGroup document → AreAll now document.op (length document.requests) made
    → IsBetween 1 (most_requests (op_of document made)) (length made)
shaped now document made h a = by document.op (length document.requests) h.shape a
  where
    single : (b : Bool) → nat_lt 1 (length made) ≡ b → IsBetween 1 256 (length made) → IsBetween 1 (most_requests (cond b Many Single)) (length made)
    single true t s = s
    single false t s = record { low = s.low; high = least (length made) t }
      where
        least : (n : ℕ) → nat_lt 1 n ≡ false → n ≤ 1
        least n t = omega (arith, ltb-false 1 n t)

    range : (n : ℕ) → is_in_range 2 32 n ≡ true → (2 ≤ n) × (n ≤ 32)
    range n t = let p = and_parts (nat_le 2 n) (nat_le n 32) t in (leb-true 2 n p.0, leb-true n 32 p.1)

    by : (op : Op) (n : ℕ) → is_shape op n ≡ true → AreAll now op n made
        → IsBetween 1 (most_requests (cond (is_single op && nat_lt 1 (length made)) Many op)) (length made)
    by Single n t a = single (nat_lt 1 (length made)) refl (a.single (eqb-true n 1 t))
    by Many n t a = let r = range n t in let e = a.one refl in record { low = omega (arith, r.0, e); high = omega (arith, r.1, e) }
    by OneOf n t a = let r = range n t in let e = a.one refl in record { low = omega (arith, r.0, e); high = omega (arith, r.1, e) }
    by And n t a = let r = range n t in let e = a.one refl in record { low = omega (arith, r.0, e); high = omega (arith, r.1, e) }

-- what a document makes is in the ranges, and makes a group of the right shape
pub made_are : (d : DeskSeen) (document : GroupDoc) (made : List MadeSeen) → IsGroup document → made_of d document ≡ Ok made
    → AreMade d.progress.moment document made
made_are d document made h e =
    let all = all_are d document.op 0 document.requests made h.each e in
    record { shape = shaped d.progress.moment document made h all; each = all.each }

-- ---- the last window

least_last : (a : ℕ) (ws : List Span) → a ≤ fold (λ last w. max last w.to.0) a ws
least_last a [] = omega arith
least_last a (w ∷ ws) = let rest = least_last (max a w.to.0) ws in omega (arith, rest)

all_past : (now : Sec) (a : ℕ) (ws : List Span) → fold (λ last w. max last w.to.0) a ws ≤ now.0 → is_past now ws ≡ true
all_past now a [] h = refl
all_past now a (w ∷ ws) h =
    let least = least_last (max a w.to.0) ws in
    let here : nat_le w.to.0 now.0 ≡ true = le-leb w.to.0 now.0 (omega (arith, least, h)) in
    rw here (all_past now (max a w.to.0) ws h)

-- where not all windows are past, the last one ends after now
pub ends_later : (now : Sec) (ws : List Span) → is_past now ws ≡ false → now.0 < last_of ws
ends_later now ws h = elim (cases_lt now.0 (last_of ws)) [
  | inl later ↦ later
  | inr past ↦ let t = all_past now 0 ws past in let bad : true ≡ false = sym t ∙ h in absurd (cc)
]
