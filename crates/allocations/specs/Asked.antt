-- What is booked for holds that are asked for.
use Rattle.std.specs.Prelude.{◌≡◌, ℕ, ◌<◌, ◌≤◌, List, Option, IfSome, All, length, map}
use Rattle.std.specs.Option.{option_map}
use Rattle.allocations.specs.declared.entry.Hold.{Hold}
use Rattle.allocations.specs.declared.asking.Booking.{Booking}
use Rattle.allocations.specs.Raw.{hold_of}
use Rattle.allocations.specs.Refusals.{ipp_need}
use Rattle.allocations.specs.Store.{StoreSeen, left_after}

-- the amounts stand for the holds and the ipp charge, and each fits what is left once the group at `old` is freed
pub record IsBookingFor (s : StoreSeen) (old : Option ℕ) (holds : List Hold) (ipp : ℕ) (p : Booking) : Type 0 where
  pub places : All (λ m. m.account < length s.keys) p.holds
  pub holds_stand : map (hold_of s.keys) p.holds ≡ holds
  pub holds_fit : All (λ m. m.seconds ≤ left_after s old m.account) p.holds
  pub ipp_place : IfSome p.ipp (λ m. m.account < length s.keys)
  pub ipp_stands : option_map (hold_of s.keys) p.ipp ≡ ipp_need holds ipp
  pub ipp_fits : IfSome p.ipp (λ m. m.seconds ≤ left_after s old m.account)
