use Rattle.std.proofs.Common.{◌≡◌, true}
use Rattle.session.specs.Words.{is_numeral}
use Rattle.session.proofs.Numbers.{number_unread}
use Rattle.session.proofs.words.number_of.Goals as goal

pub returns-in-Err : goal.returns-in-Err
returns-in-Err c =
    let tested = c.is_numeral.ensures in
    let bytes = c.as_bytes.ensures.value in
    let passed = c.if-not-is_numeral.false in
    let yes : is_numeral c.args.word.now ≡ true = cc in
    number_unread _ c.args.word.now c.in-Err.field-0 yes c.in-Err.ensures.value.0
