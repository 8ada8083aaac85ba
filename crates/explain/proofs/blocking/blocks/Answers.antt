use Rattle.std.proofs.Common.{◌≡◌, ◌↔◌, ℕ, ◌+◌, ◌-◌, ◌<◌, ◌≤◌, true, length, sym, ◌∙◌, ap, subst, arith}
use Rattle.std.proofs.lemmas.Bool.{false≢true}
use Rattle.plan_base.specs.declared.parts.Parts.{Parts}
use Rattle.plan_base.specs.Tables.{row}
use Rattle.plan_base.proofs.Known.{telescope_known}
use Rattle.openings.specs.Openings.{HasFlagWithin, IsOpenRow}
use Rattle.explain.proofs.Blocks.{blocks_iff, blocks_none}
use Rattle.openings.proofs.Flags.{row_read}
use Rattle.explain.proofs.Pieces.{same_from_test}
use Rattle.explain.proofs.blocking.blocks.Goals as goal

pub index-requires : goal.index-requires
index-requires c =
    let known : c.args.placement.telescope.0 < length c.args.snapshot.now.telescopes =
    telescope_known c.args.snapshot.now c.args.placement c.recall_valid.ensures.orderly c.requires.placement in
    let count : length c.args.openings.now.rows.items ≡ length c.args.snapshot.now.telescopes = c.requires.openings.1.rows.count in
    omega (arith, c.from.ensures)

pub returns-then-is_empty : goal.returns-then-is_empty
returns-then-is_empty c =
    let known : c.args.placement.telescope.0 < length c.args.snapshot.now.telescopes =
    telescope_known c.args.snapshot.now c.args.placement c.recall_valid.ensures.orderly c.requires.placement in
    let count : length c.args.openings.now.rows.items ≡ length c.args.snapshot.now.telescopes = c.requires.openings.1.rows.count in
    let read : c.as_slice-flags.result.now ≡ row c.args.openings.now.rows.items c.args.placement.telescope.0 =
    row_read c.args.openings.now.rows.items c.args.placement.telescope.0 c.from.result c.as_slice-flags.result.now c.index.result.now
    (omega arith) c.from.ensures c.index.ensures c.as_slice-flags.ensures in
    let open_row : IsOpenRow c.args.snapshot.now c.args.placement.telescope.0 c.args.openings.now.request.0 c.as_slice-flags.result.now
    = subst (IsOpenRow c.args.snapshot.now c.args.placement.telescope.0 c.args.openings.now.request.0) (sym read)
    (c.requires.openings.1.rows.each c.args.placement.telescope.0 known) in
    let none : length c.as_slice-flags.result.now ≡ 0 = same_from_test (length c.as_slice-flags.result.now) 0 (sym c.is_empty.ensures ∙ c.if-is_empty.true) in (
      λ yes. absurd (false≢true yes),
      λ does. absurd (blocks_none c.args.snapshot.now c.args.openings.now.request.0 c.args.openings.now.offer.size c.as_slice-flags.result.now
          c.args.placement c.recall_valid.ensures.orderly c.requires.openings.1.offer.size open_row c.requires.placement none does),
    )

pub returns : goal.returns
returns c =
    let known : c.args.placement.telescope.0 < length c.args.snapshot.now.telescopes =
    telescope_known c.args.snapshot.now c.args.placement c.recall_valid.ensures.orderly c.requires.placement in
    let count : length c.args.openings.now.rows.items ≡ length c.args.snapshot.now.telescopes = c.requires.openings.1.rows.count in
    let read : c.as_slice-flags.result.now ≡ row c.args.openings.now.rows.items c.args.placement.telescope.0 =
    row_read c.args.openings.now.rows.items c.args.placement.telescope.0 c.from.result c.as_slice-flags.result.now c.index.result.now
    (omega arith) c.from.ensures c.index.ensures c.as_slice-flags.ensures in
    let open_row : IsOpenRow c.args.snapshot.now c.args.placement.telescope.0 c.args.openings.now.request.0 c.as_slice-flags.result.now
    = subst (IsOpenRow c.args.snapshot.now c.args.placement.telescope.0 c.args.openings.now.request.0) (sym read)
    (c.requires.openings.1.rows.each c.args.placement.telescope.0 known) in
    let begins : c.args.snapshot.now.first.0 ≤ c.args.placement.slice.0 = c.requires.placement.begins in
    let first : c.parts.result.now.first.0 ≡ c.args.snapshot.now.first.0 = ap (λ (s : Parts). s.first.0) c.parts.ensures.value in
    let slice : c.from-slice.result ≡ c.args.placement.slice.0 - c.parts.result.now.first.0 = c.from-slice.ensures in
    let iff = blocks_iff c.args.snapshot.now c.args.openings.now.request.0 c.args.openings.now.offer.size c.as_slice-flags.result.now c.args.placement
    c.recall_valid.ensures.orderly c.requires.openings.1.offer.size open_row c.requires.placement c.from-slice.result c.size_at-taken.result
    (omega arith) c.size_at-taken.ensures in
    let within : (c.has_flag_within.result ≡ true)
    ↔ HasFlagWithin c.as_slice-flags.result.now (c.from-slice.result + 1 - c.args.openings.now.offer.size)
    (c.from-slice.result + c.size_at-taken.result)
    = subst (λ (a : ℕ). (c.has_flag_within.result ≡ true)
    ↔ HasFlagWithin c.as_slice-flags.result.now a (c.from-slice.result + c.size_at-taken.result)) c.saturating_sub-from.ensures
    c.has_flag_within.ensures in
    (λ yes. iff.0 (within.0 yes), λ does. within.1 (iff.1 does))
