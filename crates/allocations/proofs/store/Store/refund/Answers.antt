use Rattle.std.proofs.Common.{◌≡◌, ◌∙◌, sym, ap, ◌+◌, ◌^◌, ◌<◌, [], Some, length, refl}
use Rattle.std.proofs.lemmas.List.{get_or_default}
use Rattle.std.proofs.lemmas.List.Elements.{All-head}
use Rattle.allocations.specs.declared.posting.Posting.{Posting}
use Rattle.allocations.specs.declared.posting.GroupState.{GroupState}
use Rattle.allocations.specs.Store.{group_at, no_group, given_at, refund_posting}
use Rattle.allocations.proofs.store.Store.refund.Goals as goal

pub post-requires-clause-room : goal.post-requires-clause-room
post-requires-clause-room c =
    let inside = c.self.inside in
    let j = c.args.index in
    let within : j < length inside.groups.items = rw (← c.self.view_is) at c.requires.index in
    let state : c.index-2.result.now ≡ group_at inside.groups.items j = c.index-2.ensures
    ∙ get_or_default inside.groups.items j c.index-2.result.now no_group within in
    let ipp : (group_at inside.groups.items j).ipp ≡ Some c.in-Some.amount = ap (λ (g : GroupState). g.ipp) (sym state) ∙ c.in-Some.is in
    let fits = rw ipp at (rw (← c.self.view_is) at c.requires.fits) in
    rw (c.set_ipp.ensures.changed, ← c.self.view_is)
    (All-head (λ (p : Posting). given_at p.account inside.postings.items + p.seconds < 2 ^ 64)
    (refund_posting (group_at inside.groups.items j).group c.in-Some.amount) [] fits)

pub returns-in-Some-clause-refunded : goal.returns-in-Some-clause-refunded
returns-in-Some-clause-refunded c =
    let inside = c.self.inside in
    let j = c.args.index in
    let within : j < length inside.groups.items = rw (← c.self.view_is) at c.requires.index in
    let state : c.index-2.result.now ≡ group_at inside.groups.items j = c.index-2.ensures
    ∙ get_or_default inside.groups.items j c.index-2.result.now no_group within in
    let first : c.index.result.now ≡ group_at inside.groups.items j = c.index.ensures
    ∙ get_or_default inside.groups.items j c.index.result.now no_group within in
    let ipp : (group_at inside.groups.items j).ipp ≡ Some c.in-Some.amount = ap (λ (g : GroupState). g.ipp) (sym state) ∙ c.in-Some.is in
    let number : c.index.result.now.group ≡ (group_at inside.groups.items j).group = ap (λ (g : GroupState). g.group) first in
    rw (c.post.ensures.posted, c.set_ipp.ensures.changed, ← c.self.view_is, number, ipp) refl
