-- Which refusal comes first.
use Rattle.std.proofs.Common.{◌≡◌, ℕ, ◌<◌, ◌≤◌, List, [], ◌∷◌, ◌++◌, length, get_or, refl, ap, ◌∙◌, arith, Bool, true, false, Some, None, Option}
use Rattle.std.specs.Prelude.{filter_map, slice_get, if◌then◌else◌}
use Rattle.std.specs.Option.{option_to_list}
use Rattle.std.proofs.lemmas.Bool.{lt-ltb, le-ltb}
use Rattle.std.proofs.lemmas.List.Elements.{filter_map-append}
use Rattle.allocations.specs.declared.entry.Hold.{Hold}
use Rattle.allocations.specs.declared.fault.LedgerFault.{LedgerFault}
use Rattle.allocations.specs.declared.fault.LedgerFault.TheVariants.{NoSuchProposal}
use Rattle.allocations.specs.Books.{Books}
use Rattle.allocations.specs.Refusals.{proposal_of, ipp_key, ipp_need, knows_proposal, refusal_at, first_refusal, refusal_of}

pub proposal_first : (hs : List Hold) (d : Hold) → 0 < length hs → proposal_of hs ≡ (get_or hs 0 d).key.proposal
proposal_first [] d l = absurd (omega arith)
proposal_first (x ∷ xs) d l = refl

head_left : {X : Type 0} (xs ys : List X) (x : X) → slice_get xs 0 ≡ Some x → slice_get (xs ++ ys) 0 ≡ Some x
head_left [] ys x h = cc
head_left (y ∷ xs) ys x h = h

head_right : {X : Type 0} (xs ys : List X) → slice_get xs 0 ≡ None → slice_get (xs ++ ys) 0 ≡ slice_get ys 0
head_right [] ys h = refl
head_right (y ∷ xs) ys h = cc

pub unknown_proposal : (b : Books) (hs : List Hold) (ipp : ℕ) → knows_proposal b.entries (proposal_of hs) ≡ false → refusal_of b hs ipp ≡ Some NoSuchProposal
unknown_proposal b hs ipp e = ap (λ (x : Bool). if x then first_refusal b (hs ++ option_to_list (ipp_need hs ipp)) else Some NoSuchProposal) e

known_proposal : (b : Books) (hs : List Hold) (ipp : ℕ) → knows_proposal b.entries (proposal_of hs) ≡ true
    → refusal_of b hs ipp ≡ first_refusal b (hs ++ option_to_list (ipp_need hs ipp))
known_proposal b hs ipp e = ap (λ (x : Bool). if x then first_refusal b (hs ++ option_to_list (ipp_need hs ipp)) else Some NoSuchProposal) e

pub refused_hold : (b : Books) (hs : List Hold) (ipp : ℕ) (f : LedgerFault) → knows_proposal b.entries (proposal_of hs) ≡ true
    → first_refusal b hs ≡ Some f → refusal_of b hs ipp ≡ Some f
refused_hold b hs ipp f e h =
    known_proposal b hs ipp e
    ∙ ap (λ (l : List LedgerFault). slice_get l 0) (filter_map-append (refusal_at b) hs (option_to_list (ipp_need hs ipp)))
    ∙ head_left (filter_map (refusal_at b) hs) (filter_map (refusal_at b) (option_to_list (ipp_need hs ipp))) f h

-- once no hold is refused, the ipp account decides
then_ipp : (b : Books) (hs : List Hold) (ipp : ℕ) → knows_proposal b.entries (proposal_of hs) ≡ true → first_refusal b hs ≡ None
    → refusal_of b hs ipp ≡ first_refusal b (option_to_list (ipp_need hs ipp))
then_ipp b hs ipp e h =
    known_proposal b hs ipp e
    ∙ ap (λ (l : List LedgerFault). slice_get l 0) (filter_map-append (refusal_at b) hs (option_to_list (ipp_need hs ipp)))
    ∙ head_right (filter_map (refusal_at b) hs) (filter_map (refusal_at b) (option_to_list (ipp_need hs ipp))) h

one_need : (b : Books) (n : Hold) → first_refusal b (n ∷ []) ≡ refusal_at b n
one_need b n = only (refusal_at b n) refl
  where
    only : (o : Option LedgerFault) → refusal_at b n ≡ o → first_refusal b (n ∷ []) ≡ o
    only None e = rw e refl
    only (Some f) e = rw e refl

pub need_above : (hs : List Hold) (ipp : ℕ) → 0 < ipp → ipp_need hs ipp ≡ Some record { key = ipp_key (proposal_of hs); seconds = ipp }
need_above hs ipp l = ap (λ (x : Bool). if x then Some record { key = ipp_key (proposal_of hs); seconds = ipp } else None) (lt-ltb 0 ipp l)

pub need_none : (hs : List Hold) (ipp : ℕ) → ipp ≤ 0 → ipp_need hs ipp ≡ None
need_none hs ipp l = ap (λ (x : Bool). if x then Some record { key = ipp_key (proposal_of hs); seconds = ipp } else None) (le-ltb 0 ipp l)

pub asked_ipp : (b : Books) (hs : List Hold) (ipp : ℕ) (o : Option LedgerFault) → knows_proposal b.entries (proposal_of hs) ≡ true
    → first_refusal b hs ≡ None → 0 < ipp → refusal_at b record { key = ipp_key (proposal_of hs); seconds = ipp } ≡ o → refusal_of b hs ipp ≡ o
asked_ipp b hs ipp o e h l r =
    then_ipp b hs ipp e h
    ∙ ap (λ (x : Option Hold). first_refusal b (option_to_list x)) (need_above hs ipp l)
    ∙ one_need b record { key = ipp_key (proposal_of hs); seconds = ipp } ∙ r

pub asked_none : (b : Books) (hs : List Hold) (ipp : ℕ) → knows_proposal b.entries (proposal_of hs) ≡ true → first_refusal b hs ≡ None → ipp ≤ 0
    → refusal_of b hs ipp ≡ None
asked_none b hs ipp e h l =
    then_ipp b hs ipp e h
    ∙ ap (λ (x : Option Hold). first_refusal b (option_to_list x)) (need_none hs ipp l)
