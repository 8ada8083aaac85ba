use Rattle.std.proofs.Common.{◌≡◌, ◌∙◌, sym, ap, ℕ, Bool, refl, arith, Some, None}
use Rattle.std.specs.Prelude.{if◌then◌else◌}
use Rattle.std.proofs.lemmas.Bool.{le-leb, lt-leb}
use Rattle.std.proofs.lemmas.Option.{slice_get_within, get_or_from_slice_get}
use Rattle.allocations.specs.declared.fault.LedgerFault.TheVariants.{NotEnoughTime}
use Rattle.allocations.specs.Raw.{no_key}
use Rattle.allocations.specs.Store.{freed_postings, freed_groups, left_at}
use Rattle.allocations.proofs.Freed.{refusal_unknown, refusal_known, given-bounded}
use Rattle.allocations.proofs.asking.amount_for.Goals as goal

pub returns-in-Err-clause-refused : goal.returns-in-Err-clause-refused
returns-in-Err-clause-refused c =
    refusal_unknown c.args.store.now c.args.old c.args.key.now c.args.needed c.find.ensures.sound c.requires.old c.in-Err.ensures.absent

pub available-available-requires-clause-place : goal.available-available-requires-clause-place
available-available-requires-clause-place c = slice_get_within c.args.store.now.keys c.in-Ok.place c.args.key.now c.in-Ok.ensures.found

pub available-available-requires-clause-fits : goal.available-available-requires-clause-fits
available-available-requires-clause-fits c =
    let given = given-bounded c.args.store.now.keys (freed_postings c.args.old c.args.store.now.postings c.args.store.now.groups) c.in-Ok.place in
    let bound = c.requires.bound in
    omega (arith, given, bound)

pub returns-then-needed-available-clause-refused : goal.returns-then-needed-available-clause-refused
returns-then-needed-available-clause-refused c =
    let s = c.args.store.now in
    let n = c.args.needed in
    let left : ℕ = left_at c.in-Ok.place (freed_postings c.args.old s.postings s.groups) (freed_groups c.args.old s.groups) in
    let is : c.available-available.result ≡ left = c.available-available.ensures in
    refusal_known s c.args.old c.args.key.now n c.in-Ok.place c.find.ensures.sound c.requires.old c.requires.granted c.in-Ok.ensures.found
    ∙ ap (λ (b : Bool). if b then None else Some (NotEnoughTime n left)) (lt-leb n left (omega (arith, is)))
    ∙ ap (λ (x : ℕ). Some (NotEnoughTime n x)) (sym is)

pub returns-clause-given : goal.returns-clause-given
returns-clause-given c =
    let s = c.args.store.now in
    let n = c.args.needed in
    let left : ℕ = left_at c.in-Ok.place (freed_postings c.args.old s.postings s.groups) (freed_groups c.args.old s.groups) in
    let is : c.available-available.result ≡ left = c.available-available.ensures in
    refusal_known s c.args.old c.args.key.now n c.in-Ok.place c.find.ensures.sound c.requires.old c.requires.granted c.in-Ok.ensures.found
    ∙ ap (λ (b : Bool). if b then None else Some (NotEnoughTime n left)) (le-leb n left (omega (arith, is)))

pub returns-clause-stands : goal.returns-clause-stands
returns-clause-stands c =
    let s = c.args.store.now in
    let at = c.in-Ok.ensures.found in
    record {
      account = slice_get_within s.keys c.in-Ok.place c.args.key.now at;
      hold = rw (get_or_from_slice_get s.keys c.in-Ok.place c.args.key.now no_key at) refl;
    }
