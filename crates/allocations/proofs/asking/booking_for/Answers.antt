use Rattle.std.proofs.Common.{◌≡◌, ◌∙◌, sym, subst, ◌<◌, ◌≤◌, ℕ, List, true, get_or, Some, None, ⊎_elim}
use Rattle.std.specs.Prelude.{Any}
use Rattle.std.proofs.lemmas.Bool.{cases_lt, false≢true}
use Rattle.std.proofs.lemmas.Result.{err_from_is_err_and}
use Rattle.allocations.specs.declared.key.Key.{Key}
use Rattle.allocations.specs.Refusals.{proposal_of, knows_proposal, refusal_at, ipp_key}
use Rattle.allocations.specs.Store.{freed_books}
use Rattle.allocations.proofs.Freed.{knows_true, knows_false}
use Rattle.allocations.proofs.Refused.{proposal_first, unknown_proposal, refused_hold, asked_ipp, asked_none}
use Rattle.allocations.proofs.asking.booking_for.Goals as goal

pub returns-then-not-knows-clause-refused : goal.returns-then-not-knows-clause-refused
returns-then-not-knows-clause-refused c =
    λ _.
    let s = c.args.store.now in
    let hs = c.args.holds.now in
    let first : proposal_of hs ≡ (get_or hs 0 c.index-holds-0.result).key.proposal = proposal_first hs c.index-holds-0.result c.requires.some in
    let absent : Any (λ (k : Key). k.proposal ≡ proposal_of hs) s.keys
    → ⊥ = λ any. false≢true (sym c.if-not-knows.true
    ∙ c.knows.ensures.known.1 (subst (λ (p : List ℕ). Any (λ (k : Key). k.proposal ≡ p) s.keys) first any)) in
    unknown_proposal (freed_books s c.args.old) hs c.args.ipp (knows_false s c.args.old (proposal_of hs) c.knows.ensures.sound c.requires.old absent)

pub returns-in_err-holds-clause-refused : goal.returns-in_err-holds-clause-refused
returns-in_err-holds-clause-refused c =
    let p = err_from_is_err_and c.from_residual.result c.from_residual.ensures.1 in
    let s = c.args.store.now in
    let hs = c.args.holds.now in
    let first : proposal_of hs ≡ (get_or hs 0 c.index-holds-0.result).key.proposal = proposal_first hs c.index-holds-0.result c.requires.some in
    let any : Any (λ (k : Key). k.proposal ≡ proposal_of hs) s.keys = subst (λ (p : List ℕ). Any (λ (k : Key). k.proposal ≡ p) s.keys) (sym first)
    (c.knows.ensures.known.0 c.if-not-knows.false) in
    let knows : knows_proposal (freed_books s c.args.old).entries (proposal_of hs) ≡ true = knows_true s c.args.old (proposal_of hs) c.requires.granted any in
    rw (p.1, p.2) (λ ne. refused_hold (freed_books s c.args.old) hs c.args.ipp c.in_err-holds.field-0.0 knows (c.in_err-holds.ensures.refused ne))

pub returns-in_err-ipp-clause-refused : goal.returns-in_err-ipp-clause-refused
returns-in_err-ipp-clause-refused c =
    let p = err_from_is_err_and c.from_residual-in_err-ipp.result c.from_residual-in_err-ipp.ensures.1 in
    let s = c.args.store.now in
    let hs = c.args.holds.now in
    let first : proposal_of hs ≡ (get_or hs 0 c.index-holds-0.result).key.proposal = proposal_first hs c.index-holds-0.result c.requires.some in
    let any : Any (λ (k : Key). k.proposal ≡ proposal_of hs) s.keys = subst (λ (p : List ℕ). Any (λ (k : Key). k.proposal ≡ p) s.keys) (sym first)
    (c.knows.ensures.known.0 c.if-not-knows.false) in
    let knows : knows_proposal (freed_books s c.args.old).entries (proposal_of hs) ≡ true = knows_true s c.args.old (proposal_of hs) c.requires.granted any in
    rw (p.1, p.2) (λ ne.
    let refused = c.in_err-ipp.ensures.refused ne in
    asked_ipp (freed_books s c.args.old) hs c.args.ipp (Some c.in_err-ipp.field-0.0) knows c.in_ok-holds.ensures.given refused.0
    (subst (λ (q : List ℕ). refusal_at (freed_books s c.args.old) record { key = ipp_key q; seconds = c.args.ipp } ≡ Some c.in_err-ipp.field-0.0)
    (sym first) refused.1))

pub returns-clause-given : goal.returns-clause-given
returns-clause-given c =
    let s = c.args.store.now in
    let hs = c.args.holds.now in
    let first : proposal_of hs ≡ (get_or hs 0 c.index-holds-0.result).key.proposal = proposal_first hs c.index-holds-0.result c.requires.some in
    let any : Any (λ (k : Key). k.proposal ≡ proposal_of hs) s.keys = subst (λ (p : List ℕ). Any (λ (k : Key). k.proposal ≡ p) s.keys) (sym first)
    (c.knows.ensures.known.0 c.if-not-knows.false) in
    let knows : knows_proposal (freed_books s c.args.old).entries (proposal_of hs) ≡ true = knows_true s c.args.old (proposal_of hs) c.requires.granted any in
    ⊎_elim
    (λ (l : 0 < c.args.ipp). asked_ipp (freed_books s c.args.old) hs c.args.ipp None knows c.in_ok-holds.ensures.given l
    (subst (λ (q : List ℕ). refusal_at (freed_books s c.args.old) record { key = ipp_key q; seconds = c.args.ipp } ≡ None) (sym first)
    (c.in_ok-ipp.ensures.given l)))
    (λ (l : c.args.ipp ≤ 0). asked_none (freed_books s c.args.old) hs c.args.ipp knows c.in_ok-holds.ensures.given l)
    (cases_lt 0 c.args.ipp)
