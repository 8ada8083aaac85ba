use Rattle.std.proofs.Common.{◌≡◌, ◌<◌, ℕ, ℤ, List, length, All, sym, ◌∙◌, ap, subst, arith}
use Rattle.std.proofs.lemmas.Grind.{elements}
use Rattle.plan_base.specs.declared.number.RequestNo.{RequestNo}
use Rattle.plan_base.specs.Tables.{row}
use Rattle.bound_checker.specs.Tables.{IsEntry}
use Rattle.openings.specs.Openings.{IsOfferOf, IsOpenRow}
use Rattle.rapid.specs.Tables.{IsTableOf, IsEnough}
use Rattle.rapid.proofs.Mended.{count_more, range_more, tables_count, table_entries, table_stays}
use Rattle.rapid.proofs.Tabled.{table_read}
use Rattle.rapid.proofs.tables.mended_table.Goals as goal

pub raises-requires-clause-entries : goal.raises-requires-clause-entries
raises-requires-clause-entries c =
    let x = c.args.extension.now in
    let t = c.args.telescope.0 in
    let count : length x.tables.now ≡ length x.snapshot.now.telescopes =
    tables_count x c.requires.priceable c.recall_valid.ensures.orderly c.recall_valid-2.ensures.orderly in
    let within : t < length x.tables.now = (let below = c.requires.telescope in omega arith) in
    let same : c.as_slice-table.result.now ≡ row x.tables.now t =
    table_read x.tables.now t c.from.result c.index-extension-from.result c.as_slice-table.result.now within c.from.ensures
    c.index-extension-from.is (c.as_slice-table.ensures ∙ sym c.index-extension-from.is) in
    subst (λ (xs : List ℤ). All IsEntry xs) (sym same)
    (table_entries x c.requires.priceable c.recall_valid.ensures.orderly c.recall_valid-2.ensures.orderly t c.requires.telescope)

pub table_of-requires-clause-count : goal.table_of-requires-clause-count
table_of-requires-clause-count c =
    count_more c.args.extension.now c.requires.priceable c.recall_valid.ensures.orderly c.recall_valid-2.ensures.orderly c.requires.prices.0
    c.args.prices.now.0 c.requires.prices.1

pub table_of-requires-clause-range : goal.table_of-requires-clause-range
table_of-requires-clause-range c =
    range_more c.args.extension.now c.requires.priceable c.recall_valid.ensures.orderly c.recall_valid-2.ensures.orderly c.requires.prices.0
    c.args.prices.now.0 c.requires.prices.1

pub returns : goal.returns
returns c =
    let x = c.args.extension.now in
    let t = c.args.telescope.0 in
    let o = c.args.openings.now.offer in
    let flags = row c.args.openings.now.rows.items t in
    let number : c.args.openings.now.request.0 ≡ x.request.now.request.0 = ap (λ (r : RequestNo). r.0) c.requires.request in
    let count : length x.tables.now ≡ length x.snapshot.now.telescopes =
    tables_count x c.requires.priceable c.recall_valid.ensures.orderly c.recall_valid-2.ensures.orderly in
    let within : t < length x.tables.now = (let below = c.requires.telescope in omega arith) in
    let same : c.as_slice-table.result.now ≡ row x.tables.now t =
    table_read x.tables.now t c.from.result c.index-extension-from.result c.as_slice-table.result.now within c.from.ensures
    c.index-extension-from.is (c.as_slice-table.ensures ∙ sym c.index-extension-from.is) in
    let enough : IsEnough o x.snapshot.now.first.0 flags (row x.tables.now t) =
    subst (λ (xs : List ℤ). IsEnough o x.snapshot.now.first.0 flags xs) same (c.raises.ensures c.if-raises.false) in
    let offer : IsOfferOf x.snapshot.now c.args.prices.now.0 x.request.now.request.0 o =
    subst (λ (r : ℕ). IsOfferOf x.snapshot.now c.args.prices.now.0 r o) number c.requires.openings.offer in
    let open_row : IsOpenRow x.snapshot.now t x.request.now.request.0 flags =
    subst (λ (r : ℕ). IsOpenRow x.snapshot.now t r flags) number (c.requires.openings.rows.each t c.requires.telescope) in
    let stays : IsTableOf x.snapshot.now c.args.prices.now.0 t (row x.tables.now t) =
    table_stays x c.requires.priceable c.recall_valid.ensures.orderly c.recall_valid-2.ensures.orderly c.requires.prices.0 c.args.prices.now.0
    c.requires.prices.1 t c.requires.telescope o flags offer open_row enough
    in
    subst (IsTableOf x.snapshot.now c.args.prices.now.0 t) (sym (c.from_vec.ensures ∙ c.in_ok-table.ensures.items ∙ same)) stays

pub raises-requires-clause-range : goal.raises-requires-clause-range
raises-requires-clause-range c =
    range_more c.args.extension.now c.requires.priceable c.recall_valid.ensures.orderly c.recall_valid-2.ensures.orderly c.requires.prices.0
    c.args.prices.now.0 c.requires.prices.1

pub raises-requires-clause-count : goal.raises-requires-clause-count
raises-requires-clause-count c = grind (arith, elements)
