use Rattle.std.proofs.Common.{◌≡◌, ℕ, ◌+◌, ◌≤◌, List, Bool, true, false, Some, ◌∙◌, sym, ap, subst, slice_index_or, not, arith}
use Rattle.std.proofs.lemmas.List.{get_or_default}
use Rattle.std.specs.List.{list_all, slice_range}
use Rattle.plan_base.specs.declared.parts.Op.TheVariants.{OneOf}
use Rattle.groups.proofs.Keeping.{room_by_tests}
use Rattle.groups.proofs.tables.Tables.has_room.Goals as goal
use Rattle.groups.proofs.tables.Tables.has_room.Goals.{else-allows_one-via-then-allows_one+else-index-gt0, else-allows_one-via-else-allows_one}

pub returns : goal.returns
returns c =
    let clear = c.are_clear.ensures
    ∙ ap (λ (xs : List Bool). list_all not (slice_range xs c.args.footprint.now.from c.args.footprint.now.to)) c.as_slice-2.ensures.value in
    let one_of : c.args.footprint.now.op ≡ OneOf → slice_index_or c.args.self.now.members.items c.args.footprint.now.group 0 ≡ 0 =
    λ e. elim c.else-allows_one.branch [
      | else-allows_one-via-then-allows_one+else-index-gt0 w ↦
          let at : w.index-then-allows_one.result.now ≡ slice_index_or c.args.self.now.members.items c.args.footprint.now.group 0
          = w.index-then-allows_one.ensures
          ∙ get_or_default c.args.self.now.members.items c.args.footprint.now.group w.index-then-allows_one.result.now 0 c.requires.within.group
          in
          omega arith
      | else-allows_one-via-else-allows_one w ↦ let yes : c.allows_one.result ≡ true = c.allows_one.ensures.1 e in
          let bad : c.allows_one.result ≡ false = w.if-allows_one.false in cc
    ]
    in
    let quota : (q : ℕ) → c.args.footprint.now.quota ≡ Some q → slice_index_or c.args.self.now.seconds.items q 0 + c.args.footprint.now.seconds
    ≤ slice_index_or c.args.quotas.now q 0
    = subst (λ (xs : List ℕ). (q : ℕ) → c.args.footprint.now.quota ≡ Some q
    → slice_index_or xs q 0 + c.args.footprint.now.seconds ≤ slice_index_or c.args.quotas.now q 0) c.as_slice.ensures.value
    (c.fits_quota.ensures.0 c.if-not-fits_quota.false)
    in
    let placed : slice_index_or c.args.self.now.placed.items c.args.footprint.now.place false ≡ false
    = sym (get_or_default c.args.self.now.placed.items c.args.footprint.now.place c.index.result.now false c.requires.within.place)
    ∙ sym c.index.ensures ∙ c.if-index.false
    in
    room_by_tests c.args.quotas.now c.args.footprint.now c.args.self.now c.are_clear.result c.requires.within placed one_of quota clear
