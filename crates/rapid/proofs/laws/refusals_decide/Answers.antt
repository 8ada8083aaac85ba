use Rattle.rapid.proofs.Deciding.{whole_accepted, cut_refused}
use Rattle.rapid.proofs.laws.refusals_decide.Goals as goal

pub returns-clause-whole : goal.returns-clause-whole
returns-clause-whole c = λ before after groups text writes. whole_accepted before after groups text writes

pub returns-clause-cut : goal.returns-clause-cut
returns-clause-cut c = λ before groups text cut. cut_refused before groups text cut
