-- The documents of the lines are of the kind whose texts are read back.
use Rattle.std.proofs.Common.{◌≡◌, ℕ, suc, ◌+◌, ◌-◌, ◌*◌, ◌/◌, ◌%◌, ◌^◌, ◌<◌, nat_lt, cond, Bool, true, false, List, [], ◌∷◌, ◌++◌, map, codes}
use Rattle.std.proofs.Common.{decimal, IsUtf8, IsAscii, slice_index_or, ◌==◌, refl, sym, subst, arith}
use Rattle.std.specs.List.{list_all, range_with_len}
use Rattle.std.proofs.lemmas.Bool.{and_parts}
use Rattle.std.proofs.lemmas.Bool.Decides.{nat_tests}
use Rattle.std.proofs.lemmas.Fmt.{IsAscii-decimal}
use Rattle.std.proofs.lemmas.Nat.{mod_below}
use Rattle.std.proofs.lemmas.Str.{IsUtf8-append, IsUtf8-from_ascii}
use Rattle.std.proofs.lemmas.Str.Ascii.{IsAscii-nil, IsAscii-cons}
use Rattle.serde_json.specs.Data.{Data, string, array, object, Items, no_items, item, Members, no_members, member}
use Rattle.serde_json.specs.Read.{max_depth}
use Rattle.serde_json.specs.View.{items_of}
use Rattle.plan_base.specs.declared.parts.Op.{Op}
use Rattle.plan_base.specs.declared.parts.Op.TheVariants.{Single, Many, OneOf, And}
use Rattle.plan_base.specs.declared.span.Span.{Span}
use Rattle.plan_json.specs.Exact.{IsWritten}
use Rattle.plan_json.specs.Operator.{operator_name}
use Rattle.plan_json.specs.Order.{IsBefore}
use Rattle.plan_json.proofs.TextsBack.{texts_are_read_back}
use Rattle.plan_json.proofs.Writable.{deeper_written, whole_written, text_written}
use Rattle.workload.specs.declared.class.Class.{Class}
use Rattle.workload.specs.declared.class.Class.TheVariants.{OneMetre, FortyCentimetres}
use Rattle.workload.specs.declared.subject.Subject.{Subject}
use Rattle.workload.specs.declared.subject.Subject.TheVariants.{Open, Instrument, Telescope, Night, Visibility, Grant, Submit, Plan}
use Rattle.workload.specs.Generator.{number_after, drawn_at, draw}
use Rattle.workload.specs.Names.{class_name, instrument_name, enclosure_name, telescope_name, site_name}
use Rattle.workload.specs.Requests.{request_from, requests_from}
use Rattle.workload.specs.Subjects.{subjects, shape_of}
use Rattle.workload.specs.Documents.{exposure_data, configuration_data, window_data, location_data, request_data, group_data, span_data, open_data}
use Rattle.workload.specs.Documents.{instrument_data, telescope_data}
use Rattle.workload.specs.Documents.{night_of, night_line, sky_from, sky_line, grant_data, group_line, plan_data, document}
use Rattle.workload.specs.Lines.{number_before, document_at, AreReadBack}
use Rattle.workload.proofs.Places.{by_place, subject_by_place, of_each}

-- ---- texts and numbers

-- all bytes are below 128
abbrev is_low : List ℕ → Bool
is_low s = list_all (λ b. nat_lt b 128) s

ascii : (s : List ℕ) → is_low s ≡ true → IsAscii s
ascii [] h = IsAscii-nil
ascii (b ∷ s) h = let both = and_parts (nat_lt b 128) (is_low s) h in IsAscii-cons b s (grind (arith, nat_tests, both.0)) (ascii s both.1)

utf8 : (s : List ℕ) → is_low s ≡ true → IsUtf8 s
utf8 s low = IsUtf8-from_ascii s (ascii s low)

text : (n : ℕ) (s : List ℕ) → is_low s ≡ true → IsWritten n (string s)
text n s low = text_written n s (utf8 s low)

numbered : (n : ℕ) (letter : List ℕ) (k : ℕ) → is_low letter ≡ true → k < 2 ^ 64 → IsWritten n (string (letter ++ decimal k))
numbered n letter k low few =
    text_written n (letter ++ decimal k) (IsUtf8-append letter (decimal k) (utf8 letter low) (IsUtf8-from_ascii (decimal k) (IsAscii-decimal k few)))

-- ---- lists and objects

no_list : (n : ℕ) → IsWritten (suc n) (array no_items)
no_list n = record { exact = tt; in_order = tt; flat = omega arith }

more_list : (n : ℕ) (d : Data) (ds : Items) → IsWritten n d → IsWritten (suc n) (array ds) → IsWritten (suc n) (array (item d ds))
more_list n d ds first rest = record {
  exact = (first.exact, rest.exact);
  in_order = (first.in_order, rest.in_order);
  flat = omega (arith, first.flat, rest.flat);
}

one_list : (n : ℕ) (d : Data) → IsWritten n d → IsWritten (suc n) (array (item d no_items))
one_list n d only = more_list n d no_items only (no_list n)

no_object : (n : ℕ) → IsWritten (suc n) (object no_members)
no_object n = record { exact = tt; in_order = tt; flat = omega arith }

-- an object with a member before the others
more_object : (n : ℕ) (k : List ℕ) (d : Data) (ms : Members) → is_low k ≡ true → IsBefore k ms → IsWritten n d → IsWritten (suc n) (object ms)
    → IsWritten (suc n) (object (member k d ms))
more_object n k d ms low before value rest = record {
  exact = (utf8 k low, value.exact, rest.exact);
  in_order = (before, value.in_order, rest.in_order);
  flat = omega (arith, value.flat, rest.flat);
}

-- ---- names

low_class : (class : Class) → is_low (class_name class) ≡ true
low_class OneMetre = refl
low_class FortyCentimetres = refl

low_instrument : (class : Class) → is_low (instrument_name class) ≡ true
low_instrument OneMetre = refl
low_instrument FortyCentimetres = refl

low_enclosure : (class : Class) → is_low (enclosure_name class) ≡ true
low_enclosure OneMetre = refl
low_enclosure FortyCentimetres = refl

low_telescope : (class : Class) → is_low (telescope_name class) ≡ true
low_telescope OneMetre = refl
low_telescope FortyCentimetres = refl

low_operator : (op : Op) → is_low (operator_name op) ≡ true
low_operator Single = refl
low_operator Many = refl
low_operator OneOf = refl
low_operator And = refl

low_either : (b : Bool) (s t : List ℕ) → is_low s ≡ true → is_low t ≡ true → is_low (cond b s t) ≡ true
low_either true s t h g = h
low_either false s t h g = g

low_site : (site : ℕ) → is_low (site_name site) ≡ true
low_site site = low_either (site == 0) (codes "coj") _ refl (low_either (site == 1) (codes "lsc") (codes "cpt") refl refl)

-- ---- requests and groups

draw_below : (x i m : ℕ) → 0 < m → draw x i m < m
unfolding drawn_at
draw_below x i m some = mod_below (number_after x (i + 1) / 2 ^ 33) m some

exposure : (ms : ℕ) → ms < 2 ^ 64 → IsWritten 1 (exposure_data ms)
exposure ms few = more_object 0 _ _ _ refl refl (whole_written 0 1 (omega arith)) (more_object 0 _ _ _ refl tt (whole_written 0 ms few) (no_object 0))

configuration : (class : Class) (target ms : ℕ) → target < 2 ^ 64 → ms < 2 ^ 64 → IsWritten 3 (configuration_data class target ms)
configuration class target ms known few =
    more_object 2 _ _ _ refl refl (one_list 1 _ (exposure ms few))
    (more_object 2 _ _ _ refl refl (text 2 _ (low_instrument class))
    (more_object 2 _ _ _ refl tt (deeper_written 1 2 _ (omega arith) (more_object 0 _ _ _ refl tt (numbered 0 (codes "T") target refl known) (no_object 0)))
    (no_object 2)))

window : (start end : ℕ) → start < 2 ^ 64 → end < 2 ^ 64 → IsWritten 1 (window_data start end)
window start end early late = more_object 0 _ _ _ refl refl (whole_written 0 end late) (more_object 0 _ _ _ refl tt (whole_written 0 start early) (no_object 0))

location : (class : Class) → IsWritten 1 (location_data class)
location class = more_object 0 _ _ _ refl tt (text 0 _ (low_class class)) (no_object 0)

request : (x : ℕ) → IsWritten 5 (request_data (request_from x))
request x =
    let r = request_from x in
    let target : draw x 1 40 < 40 = draw_below x 1 40 (omega arith) in
    let exposures : draw x 2 20 < 20 = draw_below x 2 20 (omega arith) in
    let start : draw x 3 72 < 72 = draw_below x 3 72 (omega arith) in
    let end : draw x 4 48 < 48 = draw_below x 4 48 (omega arith) in
    more_object 4 _ _ _ refl refl (one_list 3 _ (configuration r.class r.target r.exposure_ms (omega (arith, target)) (omega (arith, exposures))))
    (more_object 4 _ _ _ refl refl (deeper_written 1 4 _ (omega arith) (location r.class))
    (more_object 4 _ _ _ refl tt (deeper_written 2 4 _ (omega arith) (one_list 1 _ (window r.start r.end (omega (arith, start)) (omega (arith, start, end)))))
    (no_object 4)))

requests : (x : ℕ) (is : List ℕ) → IsWritten 6 (array (items_of (map request_data (map (λ i. request_from (number_after x (5 * i))) is))))
requests x [] = no_list 5
requests x (i ∷ is) = more_list 5 _ _ (request (number_after x (5 * i))) (requests x is)

group : (number : ℕ) (op : Op) (priority x count : ℕ) → priority < 2 ^ 64 → IsWritten 7 (group_data number op priority (requests_from x count))
group number op priority x count few =
    let proposal : number % 4 < 4 = mod_below number 4 (omega arith) in
    more_object 6 _ _ _ refl refl (text 6 (codes "g") refl)
    (more_object 6 _ _ _ refl refl (text 6 (codes "NORMAL") refl)
    (more_object 6 _ _ _ refl refl (text 6 _ (low_operator op))
    (more_object 6 _ _ _ refl refl (whole_written 6 priority few)
    (more_object 6 _ _ _ refl refl (numbered 6 (codes "P") (number % 4) refl (omega (arith, proposal)))
    (more_object 6 _ _ _ refl tt (requests x (range_with_len 0 count)) (no_object 6))))))

-- ---- lines

span : (s : Span) → s.from.0 < 2 ^ 64 → s.to.0 < 2 ^ 64 → IsWritten 1 (span_data s)
span s from to = more_list 0 _ _ (whole_written 0 s.from.0 from) (one_list 0 _ (whole_written 0 s.to.0 to))

opens : (workers : ℕ) → workers < 2 ^ 64 → IsWritten 2 (open_data workers)
unfolding open_data
opens workers few =
    let semester = more_list 0 _ _ (whole_written 0 0 (omega arith)) (one_list 0 _ (whole_written 0 15552000 (omega arith))) in
    more_object 1 _ _ _ refl refl (text 1 (codes "open") refl)
    (more_object 1 _ _ _ refl refl (whole_written 1 144 (omega arith))
    (more_object 1 _ _ _ refl refl (whole_written 1 4 (omega arith))
    (more_object 1 _ _ _ refl refl (whole_written 1 0 (omega arith))
    (more_object 1 _ _ _ refl refl (whole_written 1 32 (omega arith))
    (more_object 1 _ _ _ refl refl semester
    (more_object 1 _ _ _ refl refl (whole_written 1 300 (omega arith)) (more_object 1 _ _ _ refl tt (whole_written 1 workers few) (no_object 1))))))))

instrument : (class : Class) → IsWritten 1 (instrument_data class)
unfolding instrument_data
instrument class =
    more_object 0 _ _ _ refl refl (whole_written 0 2000 (omega arith))
    (more_object 0 _ _ _ refl refl (whole_written 0 16000 (omega arith))
    (more_object 0 _ _ _ refl refl (text 0 (codes "instrument") refl)
    (more_object 0 _ _ _ refl refl (whole_written 0 90000 (omega arith))
    (more_object 0 _ _ _ refl refl (whole_written 0 28000 (omega arith)) (more_object 0 _ _ _ refl tt (text 0 _ (low_instrument class)) (no_object 0))))))

telescope : (site : ℕ) (class : Class) → IsWritten 2 (telescope_data site class)
unfolding telescope_data
telescope site class =
    more_object 1 _ _ _ refl refl (text 1 _ (low_class class))
    (more_object 1 _ _ _ refl refl (text 1 (codes "telescope") refl)
    (more_object 1 _ _ _ refl refl (text 1 _ (low_enclosure class))
    (more_object 1 _ _ _ refl refl (one_list 0 _ (text 0 _ (low_instrument class)))
    (more_object 1 _ _ _ refl refl (text 1 _ (low_site site)) (more_object 1 _ _ _ refl tt (text 1 _ (low_telescope class)) (no_object 1))))))

night : (site : ℕ) (s : Span) → s.from.0 < 2 ^ 64 → s.to.0 < 2 ^ 64 → IsWritten 3 (night_line site s)
unfolding night_line
night site s from to =
    more_object 2 _ _ _ refl refl (text 2 (codes "night") refl)
    (more_object 2 _ _ _ refl refl (text 2 _ (low_site site)) (more_object 2 _ _ _ refl tt (one_list 1 _ (span s from to)) (no_object 2)))

sky : (target site : ℕ) (s : Span) → target < 2 ^ 64 → s.from.0 < 2 ^ 64 → s.to.0 < 2 ^ 64 → IsWritten 3 (sky_line target site s)
unfolding sky_line
sky target site s known from to =
    more_object 2 _ _ _ refl refl (text 2 (codes "visibility") refl)
    (more_object 2 _ _ _ refl refl (text 2 _ (low_site site))
    (more_object 2 _ _ _ refl refl (one_list 1 _ (span s from to)) (more_object 2 _ _ _ refl tt (numbered 2 (codes "T") target refl known) (no_object 2))))

grant : (proposal : ℕ) (class : Class) → proposal < 2 ^ 64 → IsWritten 1 (grant_data proposal class)
unfolding grant_data
grant proposal class known =
    more_object 0 _ _ _ refl refl (text 0 (codes "standard") refl)
    (more_object 0 _ _ _ refl refl (text 0 (codes "grant") refl)
    (more_object 0 _ _ _ refl refl (text 0 _ (low_instrument class))
    (more_object 0 _ _ _ refl refl (numbered 0 (codes "P") proposal refl known)
    (more_object 0 _ _ _ refl tt (whole_written 0 1000000 (omega arith)) (no_object 0)))))

submit : (number : ℕ) (op : Op) (priority x count : ℕ) → priority < 2 ^ 64 → IsWritten 8 (group_line number op priority (requests_from x count))
unfolding group_line
submit number op priority x count few =
    more_object 7 _ _ _ refl refl (text 7 (codes "submit") refl) (more_object 7 _ _ _ refl tt (group number op priority x count few) (no_object 7))

plan : IsWritten 1 plan_data
unfolding plan_data
plan = more_object 0 _ _ _ refl tt (text 0 (codes "plan") refl) (no_object 0)

-- ---- all lines

-- the numbers of a subject are such that its document's numbers have 64 bits
abbrev IsSmall : Subject → Type 0
IsSmall (Night site) = site < 2 ^ 32
IsSmall (Visibility target site) = target < 2 ^ 32
IsSmall (Grant proposal class) = proposal < 2 ^ 32
IsSmall _ = Unit {0}

small_at : (n : ℕ) → n < 211 → IsSmall (by_place n)
small_at n few =
    let target : (n - 12) / 3 < 2 ^ 32 = omega (arith, few) in
    let proposal : (n - 132) / 2 < 2 ^ 32 = omega (arith, few) in
    of_each (λ s. IsSmall s) n tt tt tt (omega (arith, few)) target proposal (last (nat_lt n 210) (n - 140))
  where
    last : (b : Bool) (number : ℕ) → IsSmall (cond b (Submit number) Plan)
    last true number = tt
    last false number = tt

is_written : (workers x : ℕ) (subject : Subject) → workers < 2 ^ 64 → IsSmall subject → IsWritten max_depth (document workers x subject)
is_written workers x Open few small = deeper_written 2 127 _ (omega arith) (opens workers few)
is_written workers x (Instrument class) few small = deeper_written 1 127 _ (omega arith) (instrument class)
is_written workers x (Telescope site class) few small = deeper_written 2 127 _ (omega arith) (telescope site class)
is_written workers x (Night site) few small = deeper_written 3 127 _ (omega arith) (night site (night_of site) (omega (arith, small)) (omega (arith, small)))
is_written workers x (Visibility target site) few small =
    let from : draw x 0 96 < 96 = draw_below x 0 96 (omega arith) in
    let long : draw x 1 24 < 24 = draw_below x 1 24 (omega arith) in
    deeper_written 3 127 _ (omega arith) (sky target site (sky_from x) (omega (arith, small)) (omega (arith, from)) (omega (arith, from, long)))
is_written workers x (Grant proposal class) few small = deeper_written 1 127 _ (omega arith) (grant proposal class (omega (arith, small)))
is_written workers x (Submit number) few small =
    let priority : draw x 0 30 < 30 = draw_below x 0 30 (omega arith) in
    let shape = shape_of number in
    deeper_written 8 127 _ (omega arith) (submit number shape.0 (1 + draw x 0 30) (number_after x 1) shape.1 (omega (arith, priority)))
is_written workers x Plan few small = deeper_written 1 127 _ (omega arith) plan

pub lines_are_read_back : AreReadBack
lines_are_read_back number workers place few within =
    let small : IsSmall (slice_index_or subjects place Plan) =
    subst (λ (s : Subject). IsSmall s) (sym (subject_by_place place within)) (small_at place within) in
    texts_are_read_back (document_at number workers place) (is_written workers (number_before number place) (slice_index_or subjects place Plan) few small)
