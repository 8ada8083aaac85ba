use Rattle.std.proofs.Common.{◌≡◌, ℕ, ◌+◌, ◌≤◌, ℤ, List, All, take, drop, length, slice_index_or, sym, ◌∙◌, ap, subst, arith}
use Rattle.plan_base.specs.declared.parts.Parts.{Parts}
use Rattle.plan_base.specs.declared.parts.RequestPart.{RequestPart}
use Rattle.plan_base.specs.Requests.{listed, place_of}
use Rattle.plan_base.specs.Verdict.{IsPriceInRange}
use Rattle.bound_checker.specs.Nets.{price_of}
use Rattle.bound_checker.proofs.Runs.{IsRun, first_run, group_read, nets_read, taken_length, nets_are, group_size, group_seconds, all_taken}
use Rattle.bound_checker.proofs.nets.nets_of.Goals as goal

pub known_place-first-requires : goal.known_place-first-requires
known_place-first-requires c =
    let groups = c.as_slice.ensures ∙ ap (λ (s : Parts). s.groups) c.parts.ensures.value in
    let at = group_read c.args.snapshot.now c.as_slice.result.now c.args.group c.index-as_slice-group.result groups c.index-as_slice-group.is in
    let run = first_run c.args.snapshot.now c.args.group c.index-as_slice-group.result c.as_slice-requests.result.now c.index-requests-0.result
    c.parts.ensures.orderly c.requires.group at c.as_slice-requests.ensures in
    run.0

pub prices_from-requires : goal.prices_from-requires
prices_from-requires c =
    let groups = c.as_slice.ensures ∙ ap (λ (s : Parts). s.groups) c.parts.ensures.value in
    let at = group_read c.args.snapshot.now c.as_slice.result.now c.args.group c.index-as_slice-group.result groups c.index-as_slice-group.is in
    let run = first_run c.args.snapshot.now c.args.group c.index-as_slice-group.result c.as_slice-requests.result.now c.index-requests-0.result
    c.parts.ensures.orderly c.requires.group at c.as_slice-requests.ensures in
    let same : length c.as_slice-requests.result.now ≡ length c.index-as_slice-group.result.requests =
    ap (λ (qs : List RequestPart). length qs) c.as_slice-requests.ensures in
    let first : c.known_place-first.result ≡ place_of c.args.snapshot.now
    (slice_index_or c.as_slice-requests.result.now 0 c.index-requests-0.result).request.0 = c.known_place-first.ensures.value in
    let run_here : IsRun 0 c.args.snapshot.now.groups c.args.group c.index-as_slice-group.result c.known_place-first.result =
    subst (IsRun 0 c.args.snapshot.now.groups c.args.group c.index-as_slice-group.result) (sym first) run.1 in
    let within : c.known_place-first.result + length c.index-as_slice-group.result.requests ≤ length (listed c.args.snapshot.now) = run_here.within in
    let count : length c.args.prices.now.0 ≡ length (listed c.args.snapshot.now) = c.requires.count in
    omega arith

pub returns-clause-valid : goal.returns-clause-valid
returns-clause-valid c =
    let groups = c.as_slice.ensures ∙ ap (λ (s : Parts). s.groups) c.parts.ensures.value in
    let at = group_read c.args.snapshot.now c.as_slice.result.now c.args.group c.index-as_slice-group.result groups c.index-as_slice-group.is in
    let run = first_run c.args.snapshot.now c.args.group c.index-as_slice-group.result c.as_slice-requests.result.now c.index-requests-0.result
    c.parts.ensures.orderly c.requires.group at c.as_slice-requests.ensures in
    let same : length c.as_slice-requests.result.now ≡ length c.index-as_slice-group.result.requests =
    ap (λ (qs : List RequestPart). length qs) c.as_slice-requests.ensures in
    let first : c.known_place-first.result ≡ place_of c.args.snapshot.now
    (slice_index_or c.as_slice-requests.result.now 0 c.index-requests-0.result).request.0 = c.known_place-first.ensures.value in
    let run_here : IsRun 0 c.args.snapshot.now.groups c.args.group c.index-as_slice-group.result c.known_place-first.result =
    subst (IsRun 0 c.args.snapshot.now.groups c.args.group c.index-as_slice-group.result) (sym first) run.1 in
    let within : c.known_place-first.result + length c.index-as_slice-group.result.requests ≤ length (listed c.args.snapshot.now) = run_here.within in
    let count : length c.args.prices.now.0 ≡ length (listed c.args.snapshot.now) = c.requires.count in
    let few : length c.index-as_slice-group.result.requests ≤ 256 =
    (group_size c.args.snapshot.now c.args.group c.index-as_slice-group.result c.parts.ensures.orderly c.requires.group at).1 in
    record {
      count = taken_length c.args.prices.now.0 c.prices_from.result.now c.known_place-first.result (length c.as_slice-requests.result.now)
          (omega arith) c.prices_from.ensures;
      few = omega arith;
      range = subst (All IsPriceInRange) (sym c.prices_from.ensures)
          (all_taken IsPriceInRange (length c.as_slice-requests.result.now) c.known_place-first.result c.args.prices.now.0 c.requires.range);
      quota = c.price_of.ensures.most;
      seconds = subst (All (λ q. q.seconds ≤ 86400)) (sym c.as_slice-requests.ensures)
          (group_seconds c.args.snapshot.now c.args.group c.known_place-first.result c.index-as_slice-group.result c.parts.ensures.orderly run_here);
    }

pub returns-clause-value : goal.returns-clause-value
returns-clause-value c =
    let groups = c.as_slice.ensures ∙ ap (λ (s : Parts). s.groups) c.parts.ensures.value in
    let at = group_read c.args.snapshot.now c.as_slice.result.now c.args.group c.index-as_slice-group.result groups c.index-as_slice-group.is in
    let run = first_run c.args.snapshot.now c.args.group c.index-as_slice-group.result c.as_slice-requests.result.now c.index-requests-0.result
    c.parts.ensures.orderly c.requires.group at c.as_slice-requests.ensures in
    let same : length c.as_slice-requests.result.now ≡ length c.index-as_slice-group.result.requests =
    ap (λ (qs : List RequestPart). length qs) c.as_slice-requests.ensures in
    let first : c.known_place-first.result ≡ place_of c.args.snapshot.now
    (slice_index_or c.as_slice-requests.result.now 0 c.index-requests-0.result).request.0 = c.known_place-first.ensures.value in
    let run_here : IsRun 0 c.args.snapshot.now.groups c.args.group c.index-as_slice-group.result c.known_place-first.result =
    subst (IsRun 0 c.args.snapshot.now.groups c.args.group c.index-as_slice-group.result) (sym first) run.1 in
    let within : c.known_place-first.result + length c.index-as_slice-group.result.requests ≤ length (listed c.args.snapshot.now) = run_here.within in
    let count : length c.args.prices.now.0 ≡ length (listed c.args.snapshot.now) = c.requires.count in
    nets_read c.price_of.result (price_of c.args.quota_prices.now.0 c.index-as_slice-group.result.quota) c.as_slice-requests.result.now
    c.index-as_slice-group.result.requests c.prices_from.result.now
    (take (length c.index-as_slice-group.result.requests) (drop c.known_place-first.result c.args.prices.now.0))
    (c.price_of.ensures.value ∙ ap (λ (us : List ℕ). price_of us c.index-as_slice-group.result.quota) c.as_slice-2.ensures) c.as_slice-requests.ensures
    (c.prices_from.ensures ∙ ap (λ (n : ℕ). take n (drop c.known_place-first.result c.args.prices.now.0)) same)
    ∙ nets_are c.args.snapshot.now c.args.prices.now.0 c.args.quota_prices.now.0 c.args.group c.known_place-first.result c.index-as_slice-group.result
    c.parts.ensures.orderly c.requires.group at run_here count
