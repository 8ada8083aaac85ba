use Rattle.std.proofs.Common.{arith}
use Rattle.std.proofs.lemmas.Grind.{common_steps}
use Rattle.allocations.proofs.Granted.{books_kept}
use Rattle.allocations.proofs.granting.account_for.Goals as goal

pub returns-in_ok-add_account-in-Err-clause-books :
    goal.returns-in_ok-add_account-in-Err-clause-books
returns-in_ok-add_account-in-Err-clause-books c =
    rw c.in_ok-add_account-in-Err.ensures.ok
    (books_kept c.args.store.now.keys c.args.key.now c.args.store.now.postings c.args.store.now.groups c.find.ensures.sound.located
    c.find.ensures.sound.of_accounts)

pub returns-in_ok-add_account-in-Err-clause-granted : goal.returns-in_ok-add_account-in-Err-clause-granted
returns-in_ok-add_account-in-Err-clause-granted c = grind (arith, common_steps)
