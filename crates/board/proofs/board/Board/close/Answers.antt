use Rattle.board.proofs.Steps.{closes}
use Rattle.board.proofs.board.Board.close.Goals as goal

pub returns-clause-bound : goal.returns-clause-bound
returns-clause-bound c =
    let end = closes _ _ _ _ c.word.result c.word-2.result c.word-3.result c.close_with-closed.ensures.values.2 c.word.ensures c.word-2.ensures
    c.word-3.ensures c.requires.only in
    end.bound

pub returns-clause-value : goal.returns-clause-value
returns-clause-value c =
    let end = closes _ _ _ _ c.word.result c.word-2.result c.word-3.result c.close_with-closed.ensures.values.2 c.word.ensures c.word-2.ensures
    c.word-3.ensures c.requires.only in
    end.value

pub returns-clause-seen : goal.returns-clause-seen
returns-clause-seen c =
    let end = closes _ _ _ _ c.word.result c.word-2.result c.word-3.result c.close_with-closed.ensures.values.2 c.word.ensures c.word-2.ensures
    c.word-3.ensures c.requires.only in
    end.seen

pub returns-clause-count : goal.returns-clause-count
returns-clause-count c =
    let end = closes _ _ _ _ c.word.result c.word-2.result c.word-3.result c.close_with-closed.ensures.values.2 c.word.ensures c.word-2.ensures
    c.word-3.ensures c.requires.only in
    end.count

pub returns-clause-claimed : goal.returns-clause-claimed
returns-clause-claimed c =
    let end = closes _ _ _ _ c.word.result c.word-2.result c.word-3.result c.close_with-closed.ensures.values.2 c.word.ensures c.word-2.ensures
    c.word-3.ensures c.requires.only in
    end.claimed
