-- Values and words from their data.
use Rattle.std.proofs.Common.{◌≡◌, ℕ, List, [], ◌∷◌, map, Option, Some, unwrap_or, option_and_then, cond, bytes_eq, codes, get_or, refl, ap₂}
use Rattle.serde_json.specs.Data.{Data, Items, no_items, item, string}
use Rattle.serde_json.specs.Find.{get, as_number, as_u64, as_str, as_array}
use Rattle.serde_json.specs.View.{items_of}
use Rattle.plan_base.specs.declared.parts.Op.{Op}
use Rattle.plan_base.specs.declared.parts.Op.TheVariants as op
use Rattle.plan_base.specs.declared.number.RequestNo.{RequestNo}
use Rattle.plan_json.specs.Operator.{operator_name, operator_named}
use Rattle.plan_json.specs.Values.{whole}
use Rattle.allocations.specs.declared.key.Account.{Account}
use Rattle.allocations.specs.declared.key.Account.TheVariants as account
use Rattle.desk_events.specs.declared.refusal.FullOf.{FullOf}
use Rattle.desk_events.specs.declared.refusal.FullOf.TheVariants as full
use Rattle.desk_events.specs.declared.reply.GroupRefund.{GroupRefund}
use Rattle.desk_events.specs.declared.reply.AccountBalance.{AccountBalance}
use Rattle.desk_events.specs.declared.reply.MemberState.{MemberState}
use Rattle.plan_base.specs.declared.state.RequestState.{RequestState}
use Rattle.plan_base.specs.declared.state.RequestState.TheVariants as state
use Rattle.desk_events.specs.Account.{account_named}
use Rattle.desk_events.specs.Words.{state_word, account_word, full_word}
use Rattle.desk_events.specs.Replied.{refund_data, balance_data, member_state_data, requests_data, refunds_data}

-- ---- values

abbrev pub whole_at : Option Data → ℕ
whole_at d = unwrap_or (option_and_then as_u64 (option_and_then as_number d)) 0

abbrev pub text_at : Option Data → List ℕ
text_at d = unwrap_or (option_and_then as_str d) []

abbrev pub each_at : {T : Type 0} → (Data → T) → Items → List T
each_at f no_items = []
each_at f (item d ds) = f d ∷ each_at f ds

abbrev pub list_at : {T : Type 0} → (Data → T) → Option Data → List T
list_at f d = each_at f (unwrap_or (option_and_then as_array d) no_items)

pub each_back : {T : Type 0} (f : Data → T) (g : T → Data) → ((x : T) → f (g x) ≡ x) → (xs : List T) → each_at f (items_of (map g xs)) ≡ xs
each_back f g h [] = refl
each_back f g h (x ∷ xs) = ap₂ (λ y ys. y ∷ ys) (h x) (each_back f g h xs)

-- ---- words

abbrev pub state_in : List ℕ → RequestState
state_in s =
    cond (bytes_eq s (codes "PENDING")) state.Pending
    (cond (bytes_eq s (codes "COMPLETED")) state.Completed
    (cond (bytes_eq s (codes "WINDOW_EXPIRED")) state.WindowExpired
    state.Canceled))

pub state_back : (x : RequestState) → state_in (state_word x) ≡ x
state_back state.Pending = refl
state_back state.Completed = refl
state_back state.WindowExpired = refl
state_back state.Canceled = refl

abbrev pub account_in : List ℕ → Account
account_in s = unwrap_or (account_named s) account.Ipp

pub account_back : (x : Account) → account_in (account_word x) ≡ x
account_back account.Standard = refl
account_back account.TimeCritical = refl
account_back account.RapidResponse = refl
account_back account.Ipp = refl

abbrev pub full_in : List ℕ → FullOf
full_in s =
    cond (bytes_eq s (codes "instruments")) full.Instruments
    (cond (bytes_eq s (codes "telescopes")) full.Telescopes
    (cond (bytes_eq s (codes "sites")) full.Sites
    (cond (bytes_eq s (codes "targets")) full.Targets
    (cond (bytes_eq s (codes "visibility")) full.Visibility
    (cond (bytes_eq s (codes "closures")) full.Closures
    (cond (bytes_eq s (codes "accounts")) full.Accounts
    full.Requests))))))

pub full_back : (x : FullOf) → full_in (full_word x) ≡ x
full_back full.Instruments = refl
full_back full.Telescopes = refl
full_back full.Sites = refl
full_back full.Targets = refl
full_back full.Visibility = refl
full_back full.Closures = refl
full_back full.Accounts = refl
full_back full.Requests = refl

abbrev pub operator_at : List ℕ → Op
operator_at s = unwrap_or (operator_named s) op.Single

pub operator_back : (x : Op) → operator_at (operator_name x) ≡ x
operator_back op.Single = refl
operator_back op.Many = refl
operator_back op.OneOf = refl
operator_back op.And = refl

-- ---- items of lists

abbrev pub request_in : Data → RequestNo
request_in d = record { 0 = whole_at (Some d) }

pub requests_back : (rs : List RequestNo) → list_at request_in (Some (requests_data rs)) ≡ rs
requests_back rs = each_back request_in (λ (r : RequestNo). whole r.0) (λ r. refl) rs

abbrev pub refund_in : Data → GroupRefund
refund_in d = let ns = list_at (λ n. whole_at (Some n)) (Some d) in record { group = record { 0 = get_or ns 0 0 }; seconds = get_or ns 1 0 }

pub refunds_back : (rs : List GroupRefund) → list_at refund_in (Some (refunds_data rs)) ≡ rs
refunds_back rs = each_back refund_in refund_data (λ r. refl) rs

abbrev pub balance_in : Data → AccountBalance
balance_in d = record {
  key = record {
    proposal = text_at (get (codes "proposal") d);
    account = account_in (text_at (get (codes "account") d));
    instrument = text_at (get (codes "instrument_type") d);
  };
  balance = whole_at (get (codes "balance") d);
  available = whole_at (get (codes "available") d);
}

pub balance_back : (b : AccountBalance) → balance_in (balance_data b) ≡ b
balance_back b = rw (account_back b.key.account) refl

abbrev pub member_state_in : Data → MemberState
member_state_in d = record { request = record { 0 = whole_at (get (codes "request") d) }; state = state_in (text_at (get (codes "state") d)) }

pub member_state_back : (m : MemberState) → member_state_in (member_state_data m) ≡ m
member_state_back m = rw (state_back m.state) refl
