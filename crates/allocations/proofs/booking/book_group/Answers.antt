use Rattle.std.proofs.Common.{◌≡◌, ap, refl}
use Rattle.allocations.specs.Store.{StoreSeen}
use Rattle.allocations.proofs.Booked.{laid_charged}
use Rattle.allocations.proofs.booking.book_group.Goals as goal

pub returns-in-Some : goal.returns-in-Some
returns-in-Some c =
    let opened = c.open_group-index.ensures in
    let keys : c.open_group-index.new.store.keys ≡ c.args.store.now.keys = ap (λ (s : StoreSeen). s.keys) opened.rest in
    let listed : c.open_group-index.new.store.listed ≡ c.args.store.now.listed = ap (λ (s : StoreSeen). s.listed) opened.rest in
    let postings : c.open_group-index.new.store.postings ≡ c.args.store.now.postings = ap (λ (s : StoreSeen). s.postings) opened.rest in
    let groups = laid_charged c.args.store.now.groups c.open_group-index.new.store.groups c.args.group c.open_group-index.result c.args.booking.holds
    c.in-Some.amount opened.within opened.state opened.puts in
    rw (c.post.ensures.posted, c.set_ipp.ensures.changed, c.book.ensures, c.in-Some.is, groups, keys, listed, postings) refl
