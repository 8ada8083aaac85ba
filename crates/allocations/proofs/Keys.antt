-- The order of keys is total, and only the same keys tie.
use Rattle.std.proofs.Common.{◌≡◌, ℕ, zero, suc, List, [], ◌∷◌, true, refl, sym, ap, ◌∙◌}
use Rattle.std.specs.Ordering.{nat_cmp, ordering_then, is_eq}
use Rattle.std.specs.declared.cmp.Ordering.{Ordering}
use Rattle.std.specs.declared.cmp.Ordering.TheVariants.{Less, Equal, Greater}
use Rattle.std.specs.Cmp.{IsTotalOrder}
use Rattle.std.specs.Cmp.Lexicographic.{slice_cmp}
use Rattle.std.proofs.lemmas.Cmp.{nat_list_cmp_total, nat_cmp_total, on_total, then_total, ranked, by_ranked, tied_itself}
use Rattle.allocations.specs.declared.key.Account.{Account}
use Rattle.allocations.specs.declared.key.Account.TheVariants.{Standard, TimeCritical, RapidResponse, Ipp}
use Rattle.allocations.specs.declared.key.Key.{Key}
use Rattle.allocations.specs.Key.{account_rank, key_cmp, is_key, is_text}

pub key_cmp_total : IsTotalOrder key_cmp
key_cmp_total = then_total (on_total (λ (k : Key). k.proposal) nat_list_cmp_total)
    (then_total (on_total (λ (k : Key). account_rank k.account) nat_cmp_total) (on_total (λ (k : Key). k.instrument) nat_list_cmp_total))

pub nat_same : (x y : ℕ) → nat_cmp x y ≡ Equal → x ≡ y
nat_same x y h = by_ranked _ _ _ (nat_cmp x y) (ranked x y (nat_cmp x y) refl) (λ l p. cc (sym l, h)) (λ _ p. p) (λ g p. cc (sym g, h))

pub then_equal : (r s : Ordering) → ordering_then r s ≡ Equal → (r ≡ Equal) × (s ≡ Equal)
then_equal Less s h = cc
then_equal Equal s h = (refl, h)
then_equal Greater s h = cc

pub texts_same : (xs ys : List ℕ) → slice_cmp nat_cmp xs ys ≡ Equal → xs ≡ ys
texts_same [] [] h = refl
texts_same [] (y ∷ ys) h = cc
texts_same (x ∷ xs) [] h = cc
texts_same (x ∷ xs) (y ∷ ys) h =
    let both = then_equal (nat_cmp x y) (slice_cmp nat_cmp xs ys) h in
    let first : x ≡ y = nat_same x y both.0 in
    let rest : xs ≡ ys = texts_same xs ys both.1 in
    cc

account_at : ℕ → Account
account_at zero = Standard
account_at (suc zero) = TimeCritical
account_at (suc (suc zero)) = RapidResponse
account_at (suc (suc (suc n))) = Ipp

account_at-rank : (a : Account) → account_at (account_rank a) ≡ a
unfolding account_at
account_at-rank Standard = refl
account_at-rank TimeCritical = refl
account_at-rank RapidResponse = refl
account_at-rank Ipp = refl

pub rank_same : (a b : Account) → account_rank a ≡ account_rank b → a ≡ b
rank_same a b h = sym (account_at-rank a) ∙ ap account_at h ∙ account_at-rank b

pub key_same : (a b : Key) → key_cmp a b ≡ Equal → a ≡ b
key_same a b h =
    let first = then_equal (slice_cmp nat_cmp a.proposal b.proposal)
    (ordering_then (nat_cmp (account_rank a.account) (account_rank b.account)) (slice_cmp nat_cmp a.instrument b.instrument)) h in
    let second = then_equal (nat_cmp (account_rank a.account) (account_rank b.account)) (slice_cmp nat_cmp a.instrument b.instrument) first.1 in
    let proposals : a.proposal ≡ b.proposal = texts_same a.proposal b.proposal first.0 in
    let accounts : a.account ≡ b.account = rank_same a.account b.account (nat_same _ _ second.0) in
    let instruments : a.instrument ≡ b.instrument = texts_same a.instrument b.instrument second.1 in
    ap (λ (p : List ℕ). record { proposal = p; account = a.account; instrument = a.instrument }) proposals
    ∙ ap (λ (x : Account). record { proposal = b.proposal; account = x; instrument = a.instrument }) accounts
    ∙ ap (λ (i : List ℕ). record { proposal = b.proposal; account = b.account; instrument = i }) instruments

-- the test answers true exactly for the same keys
pub is_key-refl : (a : Key) → is_key a a ≡ true
is_key-refl a = rw (tied_itself key_cmp_total a) refl

equal_is : (r : Ordering) → is_eq r ≡ true → r ≡ Equal
equal_is Less h = cc
equal_is Equal h = refl
equal_is Greater h = cc

pub is_key-true : (a b : Key) → is_key a b ≡ true → a ≡ b
is_key-true a b h = key_same a b (equal_is (key_cmp a b) h)

pub is_text-refl : (a : List ℕ) → is_text a a ≡ true
is_text-refl a = rw (tied_itself nat_list_cmp_total a) refl

pub is_text-true : (a b : List ℕ) → is_text a b ≡ true → a ≡ b
is_text-true a b h = texts_same a b (equal_is (slice_cmp nat_cmp a b) h)
