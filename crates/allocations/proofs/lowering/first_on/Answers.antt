use Rattle.std.proofs.Common.{◌≡◌, ◌∙◌, sym, ap, Bool, true, false, Some, None, ◌<◌, length, arith}
use Rattle.std.specs.Prelude.{if◌then◌else◌}
use Rattle.allocations.specs.declared.key.Key.{Key}
use Rattle.allocations.specs.Key.{is_key}
use Rattle.allocations.specs.Raw.{key_at}
use Rattle.allocations.proofs.Lower.{first_is}
use Rattle.allocations.proofs.lowering.first_on.Goals as goal

pub returns-then-is : goal.returns-then-is
returns-then-is c =
    let keys = c.args.store.now.keys in
    let first = c.first-item.result in
    let same : is_key (key_at keys c.args.account) first.key ≡ true = ap (λ (k : Key). is_key k first.key) (sym c.key.ensures)
    ∙ sym c.is.ensures ∙ c.if-is.true in
    let some : 0 < length c.args.holds.now = omega (arith, c.in-len1-up.len_at_least) in
    first_is keys c.args.account c.args.holds.now first (Some first.seconds) some c.first-item.is
    (ap (λ (b : Bool). if b then Some first.seconds else None) (sym same))

pub returns-else-is : goal.returns-else-is
returns-else-is c =
    let keys = c.args.store.now.keys in
    let first = c.first-item.result in
    let same : is_key (key_at keys c.args.account) first.key ≡ false = ap (λ (k : Key). is_key k first.key) (sym c.key.ensures)
    ∙ sym c.is.ensures ∙ c.if-is.false in
    let some : 0 < length c.args.holds.now = omega (arith, c.in-len1-up.len_at_least) in
    first_is keys c.args.account c.args.holds.now first None some c.first-item.is (ap (λ (b : Bool). if b then Some first.seconds else None) (sym same))
