-- The fault of parts that aren't a snapshot: one of each kind, and the first of two.
use Rattle.std.proofs.Common.{◌≡◌, [], ◌∷◌, Some, None, replicate, refl}
use Rattle.plan_base.specs.declared.parts.Op.TheVariants.{And}
use Rattle.plan_base.specs.declared.fault.Counted.TheVariants.{Telescopes, Windows}
use Rattle.plan_base.specs.declared.fault.SnapshotFault.TheVariants.{OverLimit, EmptySpan, NotApart, GroupOrder, RequestOrder, BadShape}
use Rattle.plan_base.specs.declared.fault.SnapshotFault.TheVariants.{NoSuchTelescope, FadeRange, NoSuchQuota, QuotaRange}
use Rattle.plan_base.specs.Snapshot.{fault_of}
use Rattle.plan_base.proofs.Small.{span, telescope, sky, asked, single, small, fading}

no_fault : fault_of small ≡ None
no_fault = refl

most_telescopes : fault_of (record small { telescopes = replicate 32 telescope }) ≡ None
most_telescopes = refl

too_many_telescopes : fault_of (record small { telescopes = replicate 33 telescope }) ≡ Some (OverLimit Telescopes 33)
too_many_telescopes = refl

too_many_windows : fault_of (record small { groups = single 1 (record (asked 1 300 50000 100) { windows = replicate 33 (span 5 5) }) ∷ [] })
    ≡ Some (OverLimit Windows 33)
too_many_windows = refl

empty_span : fault_of (record small { telescopes = record telescope { usable = span 5 5 ∷ [] } ∷ [] }) ≡ Some EmptySpan
empty_span = refl

touching : fault_of (record small { telescopes = record telescope { usable = span 0 300 ∷ span 300 600 ∷ [] } ∷ [] }) ≡ Some NotApart
touching = refl

apart : fault_of (record small { telescopes = record telescope { usable = span 0 300 ∷ span 301 600 ∷ [] } ∷ [] }) ≡ None
apart = refl

sky_twice : fault_of (record small { skies = sky 0 ∷ sky 0 ∷ [] }) ≡ Some NotApart
sky_twice = refl

group_twice : fault_of (record fading { groups = single 3 (asked 1 300 50000 0) ∷ single 3 (asked 2 300 50000 0) ∷ [] }) ≡ Some (GroupOrder (record { 0 = 3 }))
group_twice = refl

request_twice : fault_of (record fading { groups = single 3 (asked 1 300 50000 0) ∷ single 5 (asked 1 300 50000 0) ∷ [] })
    ≡ Some (RequestOrder (record { 0 = 1 }))
request_twice = refl

no_request : fault_of (record fading { groups = record { group = record { 0 = 3 }; op = And; requests = []; quota = None } ∷ [] })
    ≡ Some (BadShape (record { 0 = 3 }))
no_request = refl

no_telescope : fault_of (record fading { groups = single 3 (record (asked 1 300 50000 0) { telescopes = record { 0 = 1 } ∷ [] }) ∷ [] })
    ≡ Some (NoSuchTelescope (record { 0 = 1 }))
no_telescope = refl

telescope_twice : fault_of (record fading {
  groups = single 3 (record (asked 1 300 50000 0) { telescopes = record { 0 = 0 } ∷ record { 0 = 0 } ∷ [] })
      ∷ [];
}) ≡ Some (NoSuchTelescope (record { 0 = 0 }))
telescope_twice = refl

most_fade : fault_of (record fading { groups = single 3 (asked 1 300 50000 1000) ∷ [] }) ≡ None
most_fade = refl

over_fade : fault_of (record fading { groups = single 3 (asked 1 300 50000 1001) ∷ [] }) ≡ Some (FadeRange (record { 0 = 1 }))
over_fade = refl

no_quota : fault_of (record small { quotas = [] }) ≡ Some (NoSuchQuota (record { 0 = 2 }))
no_quota = refl

over_quota : fault_of (record small { quotas = 100000000 ∷ 100000001 ∷ [] }) ≡ Some (QuotaRange 1)
over_quota = refl

-- a request's number that doesn't rise comes before a fade of an earlier request
first_of_two : fault_of (record fading { groups = single 3 (asked 2 300 50000 1001) ∷ single 5 (asked 1 300 50000 0) ∷ [] })
    ≡ Some (RequestOrder (record { 0 = 1 }))
first_of_two = refl
