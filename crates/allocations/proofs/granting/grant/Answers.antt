use Rattle.std.proofs.Common.{◌≡◌, ◌∙◌, ap, sym, subst, List, [], ◌∷◌, ◌++◌, true, arith}
use Rattle.std.specs.Prelude.{All, ◌⊎◌}
use Rattle.std.specs.BTreeSet.{insert_key}
use Rattle.std.proofs.lemmas.Option.{slice_get_within, get_or_from_slice_get}
use Rattle.allocations.specs.declared.key.Key.{Key}
use Rattle.allocations.specs.declared.entry.Entry.{Entry}
use Rattle.allocations.specs.Key.{key_cmp}
use Rattle.allocations.specs.Books.{Books, has_grant, accounts_of, total_seconds}
use Rattle.allocations.specs.Changes.{grant_entry, with_entry}
use Rattle.allocations.specs.Raw.{no_key}
use Rattle.allocations.specs.Store.{StoreSeen, store_books}
use Rattle.allocations.proofs.Freed.{given-bounded}
use Rattle.allocations.proofs.Granted.{accounts_of-append, balance_at, granted_more, posted_seen}
use Rattle.allocations.proofs.granting.grant.Goals as goal

pub post-requires-clause-room : goal.post-requires-clause-room
post-requires-clause-room c =
    let same : store_books c.account_for.new.store ≡ store_books c.args.store.now = c.in_ok-account.ensures.books ∙ ap store_books c.reserve.ensures.rest in
    let given = given-bounded c.account_for.new.store.keys c.account_for.new.store.postings c.in_ok-account.account in
    let total : total_seconds (store_books c.account_for.new.store) ≡ total_seconds (store_books c.args.store.now) = ap (λ (b : Books). total_seconds b) same in
    let bound = c.requires.bound in
    omega (arith, given, total, bound)

pub sums-requires : goal.sums-requires
sums-requires c = rw c.post.ensures.posted (slice_get_within c.account_for.new.store.keys c.in_ok-account.account c.args.key.now c.in_ok-account.ensures.place)

pub returns-clause-books : goal.returns-clause-books
returns-clause-books c =
    let same : store_books c.account_for.new.store ≡ store_books c.args.store.now = c.in_ok-account.ensures.books ∙ ap store_books c.reserve.ensures.rest in
    let key = get_or_from_slice_get c.account_for.new.store.keys c.in_ok-account.account c.args.key.now no_key c.in_ok-account.ensures.place in
    ap store_books c.post.ensures.posted ∙ posted_seen c.account_for.new.store _
    ∙ ap (λ (k : Key). with_entry (grant_entry k c.args.seconds) (store_books c.account_for.new.store)) key
    ∙ ap (λ (b : Books). with_entry (grant_entry c.args.key.now c.args.seconds) b) same

pub returns-clause-granted : goal.returns-clause-granted
returns-clause-granted c =
    let books = returns-clause-books c in
    let before : store_books c.reserve.new.self ≡ store_books c.args.store.now = ap store_books c.reserve.ensures.rest in
    let entries : (store_books c.post.new.self).entries ≡ (store_books c.args.store.now).entries ++ grant_entry c.args.key.now c.args.seconds ∷ [] =
    ap (λ (b : Books). b.entries) books in
    let keys : c.post.new.self.keys ≡ c.account_for.new.store.keys = ap (λ (s : StoreSeen). s.keys) c.post.ensures.posted in
    let es : List Entry = (store_books c.args.store.now).entries in
    let key : Key = c.args.key.now in
    let all : All (λ (k : Key). (has_grant es k ≡ true) ⊎ (k ≡ key)) c.account_for.new.store.keys =
    subst (λ (b : Books). All (λ (k : Key). (has_grant b.entries k ≡ true) ⊎ (k ≡ key)) c.account_for.new.store.keys) before
    c.in_ok-account.ensures.granted in
    granted_more c.post.new.self es key c.args.seconds entries
    (subst (λ (ks : List Key). All (λ (k : Key). (has_grant es k ≡ true) ⊎ (k ≡ key)) ks) (sym keys) all)

pub returns-clause-listed : goal.returns-clause-listed
returns-clause-listed c =
    let books = returns-clause-books c in
    let entries : (store_books c.post.new.self).entries ≡ (store_books c.args.store.now).entries ++ grant_entry c.args.key.now c.args.seconds ∷ [] =
    ap (λ (b : Books). b.entries) books in
    let es : List Entry = (store_books c.args.store.now).entries in
    ap (λ (s : StoreSeen). s.listed) c.post.ensures.posted ∙ c.in_ok-account.ensures.listed
    ∙ ap (λ (s : StoreSeen). insert_key key_cmp s.listed c.args.key.now) c.reserve.ensures.rest
    ∙ ap (λ (l : List Key). insert_key key_cmp l c.args.key.now) c.requires.listed
    ∙ sym (accounts_of-append es (grant_entry c.args.key.now c.args.seconds ∷ []))
    ∙ sym (ap accounts_of entries)

pub returns-clause-balance : goal.returns-clause-balance
returns-clause-balance c =
    let at = rw (← ap (λ (s : StoreSeen). s.keys) c.post.ensures.posted) at c.in_ok-account.ensures.place in
    let balance = balance_at c.post.new.self c.in_ok-account.account c.args.key.now c.post.ensures.sound at in
    let sums = c.sums.ensures.balance in
    omega (arith, balance, sums)
