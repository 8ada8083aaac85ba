-- When holds are refused.
use Rattle.std.specs.Prelude.{ℕ, ◌++◌, ◌∷◌, ◌&&◌, Bool, if◌then◌else◌, nat_lt, nat_le, List, [], Option, Some, None, filter_map, slice_get}
use Rattle.std.specs.Option.{option_to_list}
use Rattle.std.specs.List.{list_any}
use Rattle.allocations.specs.declared.key.Key.{Key}
use Rattle.allocations.specs.declared.key.Account.TheVariants.{Ipp}
use Rattle.allocations.specs.declared.entry.Entry.{Entry}
use Rattle.allocations.specs.declared.entry.Hold.{Hold}
use Rattle.allocations.specs.declared.entry.EntryKind.TheVariants.{Grant}
use Rattle.allocations.specs.declared.fault.LedgerFault.{LedgerFault}
use Rattle.allocations.specs.declared.fault.LedgerFault.TheVariants.{NoSuchProposal, NoSuchAllocation, NotEnoughTime}
use Rattle.allocations.specs.Key.{is_text}
use Rattle.allocations.specs.Books.{Books, is_kind, has_grant, available_of}

-- the proposal of the first hold
abbrev pub proposal_of : List Hold → List ℕ
proposal_of [] = []
proposal_of (h ∷ hs) = h.key.proposal

-- the ipp account of a proposal
abbrev pub ipp_key : List ℕ → Key
ipp_key proposal = record { proposal = proposal; account = Ipp; instrument = [] }

-- the seconds that are asked of the ipp account of the proposal of the holds, where they are above 0
abbrev pub ipp_need : List Hold → ℕ → Option Hold
ipp_need holds ipp = if nat_lt 0 ipp then Some record { key = ipp_key (proposal_of holds); seconds = ipp } else None

-- whether an account of the proposal has a grant
abbrev pub knows_proposal : List Entry → List ℕ → Bool
knows_proposal entries proposal = list_any (λ e. is_kind Grant e.kind && is_text e.key.proposal proposal) entries

-- why an account can't give these seconds, if it can't
abbrev pub refusal_at : Books → Hold → Option LedgerFault
refusal_at books need =
    if has_grant books.entries need.key
    then (if nat_le need.seconds (available_of books need.key) then None else Some (NotEnoughTime need.seconds (available_of books need.key)))
    else Some (NoSuchAllocation need.key.account)

-- the first refusal of a list of needs
abbrev pub first_refusal : Books → List Hold → Option LedgerFault
first_refusal books needs = slice_get (filter_map (refusal_at books) needs) 0

-- why holds and an ipp charge are refused, if they are
abbrev pub refusal_of : Books → List Hold → ℕ → Option LedgerFault
refusal_of books holds ipp =
    if knows_proposal books.entries (proposal_of holds) then first_refusal books (holds ++ option_to_list (ipp_need holds ipp)) else Some NoSuchProposal
