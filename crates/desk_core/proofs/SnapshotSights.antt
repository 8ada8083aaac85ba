-- What the calls that cut to the horizon make.
use Rattle.std.proofs.Common.{◌≡◌, ◌≢◌, ℕ, ◌+◌, ◌<◌, Bool, true, List, [], ◌∷◌, ◌++◌, length, get_or, map, take, refl, sym, ap, ◌∙◌, subst, arith, nat_lt}
use Rattle.std.proofs.Common.{Option, Some, None}
use Rattle.std.specs.List.{enumerate_from, filter_map, cons_option, range_with_len, slice_get}
use Rattle.std.specs.Option.{option_map, unwrap_or, IsSomeAnd, option_and_then}
use Rattle.std.proofs.lemmas.Bool.Decides.{nat_tests}
use Rattle.std.proofs.lemmas.List.{take_more, map_push, append_assoc, map-id}
use Rattle.std.proofs.lemmas.List.Elements.{filter_map-append}
use Rattle.std.proofs.lemmas.List.FromFn.{length-enumerate_from, get_or-enumerate_from, map-range_with_len_more}
use Rattle.std.proofs.Math.Seq.{take-length}
use Rattle.std.proofs.lemmas.Option.{slice_get-map, slice_get-get_or}
use Rattle.plan_base.proofs.Here.{element_at}
use Rattle.plan_base.specs.declared.number.SiteNo.{SiteNo}
use Rattle.plan_base.specs.declared.number.TargetNo.{TargetNo}
use Rattle.plan_base.specs.declared.span.Span.{Span}
use Rattle.interval_set.specs.Spans.{has, IsSetOf, IsMeet, IsDifference}
use Rattle.interval_set.proofs.OneList.{one_list}
use Rattle.site_model.specs.declared.code.Code.{Code}
use Rattle.site_model.specs.Calendar.{set_at, sky_of}
use Rattle.site_model.specs.Names.{number_of}
use Rattle.site_model.specs.Network.{IsUsable}
use Rattle.site_model.specs.Registry.{RegistrySeen, TelescopeSeen, codes_of, site_number}
use Rattle.desk_core.specs.Desk.{DeskSeen}
use Rattle.desk_core.specs.DeskSnapshot.{IsHorizonSet, in_horizon, observed_on, is_usable, sky_part}
use Rattle.desk_core.proofs.SnapshotSpans.{seconds_in}

-- what a set has in common with the horizon is cut to it
pub cut_is : (d : DeskSeen) (test : ℕ → Bool) (set horizon cut : List Span) → ((x : ℕ) → has set x ≡ test x) → IsHorizonSet d horizon → IsMeet set horizon cut
    → cut ≡ in_horizon d test
cut_is d test set horizon cut is whole meet =
    let one = seconds_in d test in
    one_list cut (in_horizon d test) meet.sorted one.sorted (λ x. grind (arith, meet.seconds x, one.seconds x, whole.seconds x, is x))

-- the night less the closures less what runs, cut to the horizon
pub usable_is : (d : DeskSeen) (site t : ℕ) (usable observed free horizon cut : List Span) → IsUsable d.network t usable
    → site_number d.network.registry t ≡ Some site
    → IsSetOf (has (observed_on d t)) observed → IsDifference usable observed free → IsHorizonSet d horizon → IsMeet free horizon cut
    → cut ≡ in_horizon d (is_usable d site t)
usable_is d site t usable observed free horizon cut is at runs less whole meet =
    let open_in : IsDifference (set_at d.network.calendar.nights site) (set_at d.network.calendar.closures t) usable
    = subst (λ (o : Option ℕ). IsSomeAnd o (λ s. IsDifference (set_at d.network.calendar.nights s) (set_at d.network.calendar.closures t) usable)) at is
    in
    cut_is d (is_usable d site t) free horizon cut (λ x. grind (arith, less.seconds x, open_in.seconds x, runs.seconds x)) whole meet

-- the site of a telescope
pub site_is : (r : RegistrySeen) (t site : ℕ) (seen : TelescopeSeen) → slice_get r.telescopes t ≡ Some seen → site_number r t ≡ Some site
    → unwrap_or (number_of r.sites seen.code.site) 0 ≡ site
site_is r t site seen at is =
    let code : slice_get (codes_of r) t ≡ Some seen.code = slice_get-map (λ u. u.code) r.telescopes t ∙ ap (option_map (λ (u : TelescopeSeen). u.code)) at in
    let number : number_of r.sites seen.code.site ≡ Some site
    = subst (λ (o : Option Code). option_and_then (λ c. number_of r.sites c.site) o ≡ Some site) code is
    in ap (λ (o : Option ℕ). unwrap_or o 0) number

-- ---- skies

-- the sky of a target at a site, cut to the horizon
abbrev pub cut_sky : DeskSeen → TargetNo → SiteNo → List Span
cut_sky d target site = in_horizon d (has (sky_of d.network.calendar.skies record { target = target; site = site }))

pub sky_cut : (d : DeskSeen) (target : TargetNo) (site : SiteNo) (sky horizon cut : List Span)
    → sky ≡ sky_of d.network.calendar.skies record { target = target; site = site }
    → IsHorizonSet d horizon → IsMeet sky horizon cut → cut ≡ cut_sky d target site
sky_cut d target site sky horizon cut is whole meet =
    cut_is d (has (sky_of d.network.calendar.skies record { target = target; site = site })) sky horizon cut (λ x. ap (λ l. has l x) is) whole meet

-- no second, no sky
pub no_sky : (d : DeskSeen) (target : TargetNo) (site : SiteNo) → cut_sky d target site ≡ [] → None ≡ sky_part d target.0 site.0
no_sky d target site none = rw none refl

some_long : (spans : List Span) → spans ≢ [] → nat_lt 0 (length spans) ≡ true
some_long [] some = absurd (some refl)
some_long (s ∷ spans) some = grind (arith, nat_tests)

pub a_sky : (d : DeskSeen) (target : TargetNo) (site : SiteNo) (spans : List Span) → spans ≡ cut_sky d target site → spans ≢ []
    → Some record { target = target; site = site; spans = spans } ≡ sky_part d target.0 site.0
a_sky d target site spans is some =
    let long : nat_lt 0 (length (cut_sky d target site)) ≡ true = some_long (cut_sky d target site) (λ none. some (is ∙ none)) in
    rw long (ap (λ (l : List Span). Some record { target = target; site = site; spans = l }) is)

-- ---- steps of loops

-- one more of what is made of places and elements
pub places_more : {X Y : Type 0} (f : ℕ × X → Y) (xs : List X) (i : ℕ) (ys : List Y) (y : Y) → i < length xs → ys ≡ map f (take i (enumerate_from 0 xs))
    → ((x : X) → slice_get xs i ≡ Some x → y ≡ f (i, x)) → ys ++ y ∷ [] ≡ map f (take (i + 1) (enumerate_from 0 xs))
places_more {X = X} f xs i ys y lt so_far new =
    let here = element_at xs i lt in
    let all = enumerate_from 0 xs in
    let d : ℕ × X = (i, here.0) in
    let found : slice_get xs i ≡ Some here.0 = slice_get-get_or xs i here.0 lt ∙ ap (λ z. Some z) here.1 in
    let place : 0 + i ≡ i = omega arith in
    let pair : get_or all i d ≡ (i, here.0) = get_or-enumerate_from 0 xs i d lt ∙ ap (λ k. (k, get_or xs i here.0)) place ∙ ap (λ z. (i, z)) here.1 in
    let more : take (i + 1) all ≡ take i all ++ get_or all i d ∷ [] = take_more all i d (omega (arith, length-enumerate_from 0 xs)) in
    rw (more, pair, map_push, ← so_far, new here.0 found) refl

-- all of them
pub places_all : {X Y : Type 0} (f : ℕ × X → Y) (xs : List X) (i : ℕ) (ys : List Y) → i ≡ length xs → ys ≡ map f (take i (enumerate_from 0 xs))
    → ys ≡ map f (enumerate_from 0 xs)
places_all f xs i ys end so_far =
    let all = enumerate_from 0 xs in
    let count : i ≡ length all = end ∙ sym (length-enumerate_from 0 xs) in
    so_far ∙ ap (λ k. map f (take k all)) count ∙ ap (map f) (take-length all)

-- one more number
range_more : (n : ℕ) → range_with_len 0 (n + 1) ≡ range_with_len 0 n ++ n ∷ []
range_more n = sym (map-id (range_with_len 0 (n + 1))) ∙ map-range_with_len_more (λ k. k) 0 n n (omega arith)
    ∙ ap (λ l. l ++ n ∷ []) (map-id (range_with_len 0 n))

-- one more of what is made of numbers
pub numbers_more : {Y : Type 0} (f : ℕ → Option Y) (old ys new : List Y) (n : ℕ) (made : Option Y) → ys ≡ old ++ filter_map f (range_with_len 0 n) → made ≡ f n
    → new ≡ ys ++ cons_option made [] → new ≡ old ++ filter_map f (range_with_len 0 (n + 1))
numbers_more f old ys new n made so_far is pushed =
    let more : filter_map f (range_with_len 0 (n + 1)) ≡ filter_map f (range_with_len 0 n) ++ cons_option (f n) []
    = ap (filter_map f) (range_more n) ∙ filter_map-append f (range_with_len 0 n) (n ∷ [])
    in
    pushed ∙ ap (λ l. l ++ cons_option made []) so_far ∙ ap (λ o. (old ++ filter_map f (range_with_len 0 n)) ++ cons_option o []) is
    ∙ append_assoc old (filter_map f (range_with_len 0 n)) (cons_option (f n) []) ∙ ap (λ l. old ++ l) (sym more)
