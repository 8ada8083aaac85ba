-- Amounts that are lowered to holds.
use Rattle.std.specs.Prelude.{◌≡◌, ℕ, ◌≤◌, ◌∷◌, if◌then◌else◌, List, [], Option, Some, None, All, Any}
use Rattle.allocations.specs.declared.key.Key.{Key}
use Rattle.allocations.specs.declared.entry.Hold.{Hold}
use Rattle.allocations.specs.declared.sums.Amount.{Amount}
use Rattle.allocations.specs.Key.{is_key}
use Rattle.allocations.specs.Raw.{key_at}

-- the amounts whose accounts the holds name, with the seconds of the holds
abbrev pub lowered_to : List Key → List Amount → List Hold → List Amount
lowered_to keys [] holds = []
lowered_to keys (m ∷ ms) [] = []
lowered_to keys (m ∷ ms) (h ∷ hs) =
    if is_key (key_at keys m.account) h.key then record { account = m.account; seconds = h.seconds } ∷ lowered_to keys ms hs else lowered_to keys ms (h ∷ hs)

-- each hold is at most one of the amounts, on its account
abbrev pub AreAtMost : List Key → List Amount → List Hold → Type 0
AreAtMost keys amounts holds = All (λ h. Any (λ m. (key_at keys m.account ≡ h.key) × (h.seconds ≤ m.seconds)) amounts) holds

-- the seconds of the first hold, where it names the account
abbrev pub IsFirstOn : List Key → ℕ → List Hold → Option ℕ → Type 0
IsFirstOn keys account [] r = r ≡ None
IsFirstOn keys account (h ∷ hs) r = r ≡ (if is_key (key_at keys account) h.key then Some h.seconds else None)
