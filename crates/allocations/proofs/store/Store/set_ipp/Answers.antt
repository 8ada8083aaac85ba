use Rattle.std.proofs.Common.{◌≡◌, ◌∙◌, ◌<◌, length, refl}
use Rattle.std.proofs.lemmas.List.{get_or_default}
use Rattle.allocations.specs.Store.{group_at, no_group}
use Rattle.allocations.proofs.Groups.{tied_set, grouped_set, sound_of}
use Rattle.allocations.proofs.store.Store.set_ipp.Goals as goal

pub invariant_of-self : goal.invariant_of-self
invariant_of-self c =
    let inside = c.self.inside in
    let j = c.args.index in
    let t = c.self.invariant.tied in
    let within : j < length inside.groups.items = rw (← c.self.view_is) at c.requires.index in
    let state : c.index_mut.result.now ≡ group_at inside.groups.items j = c.index_mut.ensures.value
    ∙ get_or_default inside.groups.items j c.index_mut.result.now no_group within in
    let g = record (group_at inside.groups.items j) { ipp = c.args.ipp } in
    rw state record {
      tied = tied_set inside.register.keys inside.sums.items inside.sums.items inside.postings.items inside.groups.items j g t within
          ((t.of_accounts j no_group within).0, rw (← c.self.view_is) at c.requires.place) refl (λ i l. refl) (λ i l. refl) t.covered;
      grouped = grouped_set inside.register.keys inside.groups.items j g c.self.invariant.grouped refl (c.self.invariant.grouped.ordered j no_group within);
      room = c.self.invariant.room;
    }

pub returns-clause-sound : goal.returns-clause-sound
returns-clause-sound c =
    let inside = c.self.inside in
    let j = c.args.index in
    let t = c.self.invariant.tied in
    let within : j < length inside.groups.items = rw (← c.self.view_is) at c.requires.index in
    let state : c.index_mut.result.now ≡ group_at inside.groups.items j = c.index_mut.ensures.value
    ∙ get_or_default inside.groups.items j c.index_mut.result.now no_group within in
    let g = record (group_at inside.groups.items j) { ipp = c.args.ipp } in
    rw state
    (sound_of _ inside.sums.items
    (tied_set inside.register.keys inside.sums.items inside.sums.items inside.postings.items inside.groups.items j g t within
    ((t.of_accounts j no_group within).0, rw (← c.self.view_is) at c.requires.place) refl (λ i l. refl) (λ i l. refl) t.covered)
    (grouped_set inside.register.keys inside.groups.items j g c.self.invariant.grouped refl (c.self.invariant.grouped.ordered j no_group within)))
