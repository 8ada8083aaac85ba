-- What an account holds and is charged is no more than what it is granted and gets back.
use Rattle.std.proofs.Common.{◌≡◌, ◌∙◌, ap, ℕ, ◌+◌, ◌≤◌, List, [], ◌∷◌, fold, sum_by, All, arith, refl}
use Rattle.std.specs.List.{AllZip}
use Rattle.std.proofs.lemmas.List.Elements.{All-nil, All-head, All-tail, All-weaker}
use Rattle.std.proofs.lemmas.List.Sums.{sum_by-cons}
use Rattle.allocations.specs.declared.entry.Entry.{Entry}
use Rattle.allocations.specs.declared.entry.EntryKind.TheVariants.{Grant, Charge, Refund}
use Rattle.allocations.specs.declared.key.Key.{Key}
use Rattle.allocations.specs.Books.{Books, GroupHolds, seconds_of, held_in, held_of}
use Rattle.desk_runs.specs.declared.group.Group.{Group}
use Rattle.desk_runs.specs.Progress.{Progress}
use Rattle.desk_runs.specs.Sound.{IsLater}
use Rattle.desk_core.specs.declared.desk.Submitted.{Submitted}
use Rattle.desk_core.specs.Desk.{DeskSeen}
use Rattle.desk_core.specs.Holds.{held_by, after_group, groups_along, with_progress}
use Rattle.desk_core.specs.Kept.{IsHeldFor, IsDesk}
use Rattle.desk_core.proofs.Along.{AreAlong}
use Rattle.desk_core.proofs.Chargeable.{group_no_more}
use Rattle.desk_core.proofs.ToldAlong.{AreAfter, after_all}
use Rattle.desk_core.proofs.WentOn.{are_along}
use Rattle.desk_accounts.specs.Covered.{IsCovered}
use Rattle.desk_accounts.proofs.Tallies.{Tally, plus, tally_of, tally-append, Adds}

-- ---- entries are added

sums_then : (xs ys : List Entry) (f : Key → Tally) (key : Key) → Adds xs ys f → tally_of ys key ≡ plus (tally_of xs key) (f key)
sums_then xs ys f key a = ap (λ (l : List Entry). tally_of l key) a.entries ∙ tally-append xs a.more key ∙ ap (plus (tally_of xs key)) (a.tallies key)

-- where what is held and charged then is no more than what was held, with what is given
pub still_covered : (before after : Books) (f : Key → Tally) → Adds before.entries after.entries f
    → ((key : Key) → held_of after.holds key + (f key).charged ≤ held_of before.holds key + ((f key).granted + (f key).back))
    → IsCovered before → IsCovered after
still_covered before after f a less covered key =
    let sums : tally_of after.entries key ≡ plus (tally_of before.entries key) (f key) = sums_then before.entries after.entries f key a in
    let granted : seconds_of Grant key after.entries ≡ seconds_of Grant key before.entries + (f key).granted = ap (λ (t : Tally). t.granted) sums in
    let charged : seconds_of Charge key after.entries ≡ seconds_of Charge key before.entries + (f key).charged = ap (λ (t : Tally). t.charged) sums in
    let back : seconds_of Refund key after.entries ≡ seconds_of Refund key before.entries + (f key).back = ap (λ (t : Tally). t.back) sums in
    let held = less key in
    let now = covered key in
    omega (arith, granted, charged, back, held, now)

-- ---- groups go on

pub sum_less : {X : Type 0} (f g : X → ℕ) (xs : List X) → All (λ x. f x ≤ g x) xs → sum_by f xs ≤ sum_by g xs
sum_less f g [] h = omega arith
sum_less f g (x ∷ xs) h =
    let a = sum_by-cons f x xs in
    let b = sum_by-cons g x xs in
    let first : f x ≤ g x = All-head (λ y. f y ≤ g y) x xs h in
    let rest : sum_by f xs ≤ sum_by g xs = sum_less f g xs (All-tail (λ y. f y ≤ g y) x xs h) in
    omega (arith, a, b, first, rest)

held_sum : (key : Key) (f : Submitted × (Group × Group) → Submitted × Group) (ps : List (Submitted × (Group × Group))) (es : List GroupHolds)
    → AllZip (λ p e. IsHeldFor (f p) e) ps es
    → held_of es key ≡ sum_by (λ p. held_in key (held_by (f p).0 (f p).1)) ps
held_sum key f [] [] h = refl
held_sum key f [] (e ∷ es) h = absurd h
held_sum key f (p ∷ ps) [] h = absurd h
held_sum key f (p ∷ ps) (e ∷ es) h =
    let a = sum_by-cons (λ (x : GroupHolds). held_in key x.holds) e es in
    let b = sum_by-cons (λ (x : Submitted × (Group × Group)). held_in key (held_by (f x).0 (f x).1)) p ps in
    let c : held_in key e.holds ≡ held_in key (held_by (f p).0 (f p).1) = ap (held_in key) h.0.holds in
    let rest : held_of es key ≡ sum_by (λ x. held_in key (held_by (f x).0 (f x).1)) ps = held_sum key f ps es h.1 in
    omega (arith, a, b, c, rest)

-- groups that have gone on hold no more
pub held_less : (d : DeskSeen) (after : Progress) (key : Key) → IsDesk d → AllZip IsLater d.progress.groups after.groups
    → held_of (with_progress after d).books.holds key ≤ held_of d.books.holds key
held_less d after key h later =
    let ps : List (Submitted × (Group × Group)) = groups_along d after in
    let along : AreAlong 0 ps d.books.holds = are_along d after h later in
    let then : AreAfter d.books (fold after_group d.books ps) ps [] d.books.holds =
    after_all 0 d.books.entries [] ps d.books.holds (All-nil (λ x. x.group.0 ≤ 0)) along in
    let now : held_of (with_progress after d).books.holds key ≡ sum_by (λ p. held_in key (held_by p.0 p.1.1)) ps =
    ap (λ (l : List GroupHolds). held_of l key) then.holds ∙ held_sum key (λ p. (p.0, p.1.1)) ps then.others then.held in
    let before : held_of d.books.holds key ≡ sum_by (λ p. held_in key (held_by p.0 p.1.0)) ps = held_sum key (λ p. (p.0, p.1.0)) ps d.books.holds along.held in
    let less : sum_by (λ p. held_in key (held_by p.0 p.1.1)) ps ≤ sum_by (λ p. held_in key (held_by p.0 p.1.0)) ps =
    sum_less (λ p. held_in key (held_by p.0 p.1.1)) (λ p. held_in key (held_by p.0 p.1.0)) ps
    (All-weaker (λ p. IsLater p.1.0 p.1.1) (λ p. held_in key (held_by p.0 p.1.1) ≤ held_in key (held_by p.0 p.1.0))
    (λ p l. group_no_more p.0 p.1.0 p.1.1 key l) ps along.later) in
    omega (arith, now, before, less)
