-- A refusal from its object.
use Rattle.std.proofs.Common.{◌≡◌, ℕ, ◌==◌, List, Option, Bool, false, is_some, cond, bytes_eq, codes, refl, ap}
use Rattle.serde_json.specs.Data.{Data}
use Rattle.serde_json.specs.Find.{get}
use Rattle.plan_base.specs.declared.number.GroupNo.{GroupNo}
use Rattle.plan_base.specs.declared.verdict.Reason.{Reason}
use Rattle.plan_base.specs.declared.verdict.Reason.TheVariants as reason
use Rattle.plan_json.specs.declared.member.Member.{Member}
use Rattle.plan_json.specs.Values.{Named}
use Rattle.desk_events.specs.declared.entry.EventEntry.{EventEntry}
use Rattle.desk_events.specs.declared.refusal.Refusal.{Refusal}
use Rattle.desk_events.specs.declared.refusal.Refusal.TheVariants as refusal
use Rattle.desk_events.specs.Refused.{members_of_refusal}
use Rattle.desk_events.specs.Entry.{data_with}
use Rattle.desk_events.proofs.MembersBack.{member_in, member_back}
use Rattle.desk_events.proofs.WordsBack.{whole_at, text_at, state_in, state_back, account_in, account_back, full_in, full_back, operator_at, operator_back}

-- ---- reasons

abbrev group_at : Data → GroupNo
group_at d = record { 0 = whole_at (get (codes "group") d) }

abbrev index_at : Data → ℕ
index_at d = whole_at (get (codes "index") d)

abbrev reason_in : List ℕ → Data → Reason
reason_in s d =
    cond (bytes_eq s (codes "UnknownRequest")) (reason.UnknownRequest (index_at d)) (
    cond (bytes_eq s (codes "PlacedTwice")) (reason.PlacedTwice (index_at d)) (
    cond (bytes_eq s (codes "NotPossible")) (reason.NotPossible (index_at d)) (
    cond (bytes_eq s (codes "Overlap")) (reason.Overlap (index_at d)) (
    cond (bytes_eq s (codes "OneofTwice")) (reason.OneofTwice (group_at d)) (
    cond (bytes_eq s (codes "AndPartial")) (reason.AndPartial (group_at d)) (
    cond (bytes_eq s (codes "QuotaOver"))
    (reason.QuotaOver (whole_at (get (codes "quota") d)) (whole_at (get (codes "seconds") d)) (whole_at (get (codes "most") d))) (
    cond (bytes_eq s (codes "PriceCount")) (reason.PriceCount (whole_at (get (codes "given") d)) (whole_at (get (codes "wanted") d))) (
    cond (bytes_eq s (codes "PriceRange")) (reason.PriceRange (index_at d)) (
    cond (bytes_eq s (codes "QuotaPriceCount")) (reason.QuotaPriceCount (whole_at (get (codes "given") d)) (whole_at (get (codes "wanted") d))) (
    cond (bytes_eq s (codes "QuotaPriceRange")) (reason.QuotaPriceRange (index_at d)) (
    cond (bytes_eq s (codes "ValueDiffers")) (reason.ValueDiffers (whole_at (get (codes "claimed") d)) (whole_at (get (codes "found") d))) (
    reason.BoundDiffers (whole_at (get (codes "claimed") d)) (whole_at (get (codes "found") d))))))))))))))

-- ---- refusals, by their numbers

abbrev pub refusal_in : ℕ → Data → Refusal
refusal_in n d =
    cond (n == 1) (refusal.NotJson) (
    cond (n == 2) (refusal.NotObject) (
    cond (n == 3) (refusal.Missing (member_in (text_at (get (codes "member") d)))) (
    cond (n == 4) (refusal.WrongKind (member_in (text_at (get (codes "member") d)))) (
    cond (n == 5) (refusal.NotWhole (member_in (text_at (get (codes "member") d)))) (
    cond (n == 6) (refusal.OutOfRange (member_in (text_at (get (codes "member") d)))) (
    cond (n == 7) (refusal.BadMoment (member_in (text_at (get (codes "member") d)))) (
    cond (n == 8) (refusal.BadShape (whole_at (get (codes "count") d)) (operator_at (text_at (get (codes "operator") d)))) (
    cond (n == 9) (refusal.BadWindow (index_at d) (whole_at (get (codes "window") d))) (
    cond (n == 10) (refusal.BadCadence (index_at d)) (
    cond (n == 11) (refusal.TooManyWindows (whole_at (get (codes "count") d)) (index_at d)) (
    cond (n == 12) (refusal.TooLong (index_at d) (whole_at (get (codes "seconds") d))) (
    cond (n == 13) (refusal.NoSuchTelescope) (
    cond (n == 14) (refusal.NoSuchSite) (
    cond (n == 15) (refusal.Repeated) (
    cond (n == 16) (refusal.Full (whole_at (get (codes "limit") d)) (full_in (text_at (get (codes "what") d)))) (
    cond (n == 17) (refusal.NoSuchProposal) (
    cond (n == 18) (refusal.NoSuchAllocation (account_in (text_at (get (codes "account") d)))) (
    cond (n == 19) (refusal.NotEnoughTime (whole_at (get (codes "available") d)) (whole_at (get (codes "needed") d))) (
    cond (n == 20) (refusal.NotOpened) (
    cond (n == 21) (refusal.AlreadyOpened) (
    cond (n == 22) (refusal.OutsideSemester (index_at d)) (
    cond (n == 23) (refusal.NoTelescope (index_at d)) (
    cond (n == 24) (refusal.NoSuchGroup) (
    cond (n == 25) (refusal.GroupClosed (state_in (text_at (get (codes "state") d)))) (
    cond (n == 26) (refusal.GroupStarted (record { 0 = whole_at (get (codes "request") d) })) (
    cond (n == 27) (refusal.NoSuchRequest) (
    cond (n == 28) (refusal.NotRunning) (
    cond (n == 29) (refusal.UsedTooLong (whole_at (get (codes "most") d)) (whole_at (get (codes "used") d))) (
    cond (n == 30) (refusal.ClockBack (record { 0 = whole_at (get (codes "asked") d) }) (record { 0 = whole_at (get (codes "now") d) })) (
    cond (n == 31) (refusal.Stale (whole_at (get (codes "asked") d)) (whole_at (get (codes "newer") d))) (
    cond (n == 32) (refusal.Rejected (reason_in (text_at (get (codes "reason") d)) d)) (
    cond (n == 33) (refusal.UnknownCommand) (
    cond (n == 34) (refusal.LineTooLong) (
    cond (n == 35) (refusal.MixedInstruments (index_at d)) (
    cond (n == 36) (refusal.NoSuchInstrument (index_at d)) (
    cond (n == 37) (refusal.NothingPublished) (
    cond (n == 38) (refusal.TooManyStarts (whole_at (get (codes "count") d))) (
    refusal.WindowPast (index_at d)))))))))))))))))))))))))))))))))))))))

abbrev pub refused_in : Data → Refusal
refused_in d = refusal_in (whole_at (get (codes "no") d)) d

reason_back : (e : EventEntry) (why : Reason) → refused_in (data_with e (members_of_refusal (refusal.Rejected why))) ≡ refusal.Rejected why
unfolding data_with
reason_back e (reason.UnknownRequest index) = refl
reason_back e (reason.PlacedTwice index) = refl
reason_back e (reason.NotPossible index) = refl
reason_back e (reason.Overlap index) = refl
reason_back e (reason.OneofTwice group) = refl
reason_back e (reason.AndPartial group) = refl
reason_back e (reason.QuotaOver quota seconds most) = refl
reason_back e (reason.PriceCount given wanted) = refl
reason_back e (reason.PriceRange index) = refl
reason_back e (reason.QuotaPriceCount given wanted) = refl
reason_back e (reason.QuotaPriceRange index) = refl
reason_back e (reason.ValueDiffers claimed found) = refl
reason_back e (reason.BoundDiffers claimed found) = refl

pub refusal_back : (e : EventEntry) (r : Refusal) → refused_in (data_with e (members_of_refusal r)) ≡ r
unfolding data_with
refusal_back e refusal.NotJson = refl
refusal_back e refusal.NotObject = refl
refusal_back e (refusal.Missing m) = ap refusal.Missing (member_back m)
refusal_back e (refusal.WrongKind m) = ap refusal.WrongKind (member_back m)
refusal_back e (refusal.NotWhole m) = ap refusal.NotWhole (member_back m)
refusal_back e (refusal.OutOfRange m) = ap refusal.OutOfRange (member_back m)
refusal_back e (refusal.BadMoment m) = ap refusal.BadMoment (member_back m)
refusal_back e (refusal.BadShape count op) = ap (refusal.BadShape count) (operator_back op)
refusal_back e (refusal.BadWindow index window) = refl
refusal_back e (refusal.BadCadence index) = refl
refusal_back e (refusal.TooManyWindows count index) = refl
refusal_back e (refusal.TooLong index seconds) = refl
refusal_back e refusal.NoSuchTelescope = refl
refusal_back e refusal.NoSuchSite = refl
refusal_back e refusal.Repeated = refl
refusal_back e (refusal.Full limit what) = ap (refusal.Full limit) (full_back what)
refusal_back e refusal.NoSuchProposal = refl
refusal_back e (refusal.NoSuchAllocation account) = ap refusal.NoSuchAllocation (account_back account)
refusal_back e (refusal.NotEnoughTime available needed) = refl
refusal_back e refusal.NotOpened = refl
refusal_back e refusal.AlreadyOpened = refl
refusal_back e (refusal.OutsideSemester index) = refl
refusal_back e (refusal.NoTelescope index) = refl
refusal_back e refusal.NoSuchGroup = refl
refusal_back e (refusal.GroupClosed state) = ap refusal.GroupClosed (state_back state)
refusal_back e (refusal.GroupStarted request) = refl
refusal_back e refusal.NoSuchRequest = refl
refusal_back e refusal.NotRunning = refl
refusal_back e (refusal.UsedTooLong most used) = refl
refusal_back e (refusal.ClockBack asked now) = refl
refusal_back e (refusal.Stale asked newer) = refl
refusal_back e (refusal.Rejected why) = reason_back e why
refusal_back e refusal.UnknownCommand = refl
refusal_back e refusal.LineTooLong = refl
refusal_back e (refusal.MixedInstruments index) = refl
refusal_back e (refusal.NoSuchInstrument index) = refl
refusal_back e refusal.NothingPublished = refl
refusal_back e (refusal.TooManyStarts count) = refl
refusal_back e (refusal.WindowPast index) = refl

-- ---- what a refused entry has beside its refusal

-- caller, line and version, and that it wasn't accepted
abbrev pub head_in : Data → ℕ × ℕ × ℕ × Bool
head_in d = (whole_at (get (codes "caller") d), whole_at (get (codes "line") d), whole_at (get (codes "version") d), is_some (get (codes "ok") d))

abbrev pub head_of : EventEntry → ℕ × ℕ × ℕ × Bool
head_of e = (e.caller, e.line, e.version, false)

head_of_rejected : (e : EventEntry) (why : Reason) → head_in (data_with e (members_of_refusal (refusal.Rejected why))) ≡ head_of e
unfolding data_with
head_of_rejected e (reason.UnknownRequest index) = refl
head_of_rejected e (reason.PlacedTwice index) = refl
head_of_rejected e (reason.NotPossible index) = refl
head_of_rejected e (reason.Overlap index) = refl
head_of_rejected e (reason.OneofTwice group) = refl
head_of_rejected e (reason.AndPartial group) = refl
head_of_rejected e (reason.QuotaOver quota seconds most) = refl
head_of_rejected e (reason.PriceCount given wanted) = refl
head_of_rejected e (reason.PriceRange index) = refl
head_of_rejected e (reason.QuotaPriceCount given wanted) = refl
head_of_rejected e (reason.QuotaPriceRange index) = refl
head_of_rejected e (reason.ValueDiffers claimed found) = refl
head_of_rejected e (reason.BoundDiffers claimed found) = refl

pub head_back : (e : EventEntry) (r : Refusal) → head_in (data_with e (members_of_refusal r)) ≡ head_of e
unfolding data_with
head_back e refusal.NotJson = refl
head_back e refusal.NotObject = refl
head_back e (refusal.Missing m) = refl
head_back e (refusal.WrongKind m) = refl
head_back e (refusal.NotWhole m) = refl
head_back e (refusal.OutOfRange m) = refl
head_back e (refusal.BadMoment m) = refl
head_back e (refusal.BadShape count op) = refl
head_back e (refusal.BadWindow index window) = refl
head_back e (refusal.BadCadence index) = refl
head_back e (refusal.TooManyWindows count index) = refl
head_back e (refusal.TooLong index seconds) = refl
head_back e refusal.NoSuchTelescope = refl
head_back e refusal.NoSuchSite = refl
head_back e refusal.Repeated = refl
head_back e (refusal.Full limit what) = refl
head_back e refusal.NoSuchProposal = refl
head_back e (refusal.NoSuchAllocation account) = refl
head_back e (refusal.NotEnoughTime available needed) = refl
head_back e refusal.NotOpened = refl
head_back e refusal.AlreadyOpened = refl
head_back e (refusal.OutsideSemester index) = refl
head_back e (refusal.NoTelescope index) = refl
head_back e refusal.NoSuchGroup = refl
head_back e (refusal.GroupClosed state) = refl
head_back e (refusal.GroupStarted request) = refl
head_back e refusal.NoSuchRequest = refl
head_back e refusal.NotRunning = refl
head_back e (refusal.UsedTooLong most used) = refl
head_back e (refusal.ClockBack asked now) = refl
head_back e (refusal.Stale asked newer) = refl
head_back e (refusal.Rejected why) = head_of_rejected e why
head_back e refusal.UnknownCommand = refl
head_back e refusal.LineTooLong = refl
head_back e (refusal.MixedInstruments index) = refl
head_back e (refusal.NoSuchInstrument index) = refl
head_back e refusal.NothingPublished = refl
head_back e (refusal.TooManyStarts count) = refl
head_back e (refusal.WindowPast index) = refl
