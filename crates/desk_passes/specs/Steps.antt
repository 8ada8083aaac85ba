-- What a view becomes by each kind of step.
use Rattle.std.specs.Prelude.{ℕ, [], replicate, slice_set, List, Option, Some, None}
use Rattle.desk_book.specs.Seen.{BookSeen}
use Rattle.desk_passes.specs.declared.seen.PassPlace.{PassPlace}
use Rattle.desk_passes.specs.declared.seen.PassPlace.TheVariants.{NotMade, Out, Back}
use Rattle.desk_passes.specs.declared.seen.PassView.{PassView}
use Rattle.desk_passes.specs.Seen.{log_of, of_caller, open_take}

-- nobody's, and nothing is known
abbrev pub spent : PassView
spent = record { caller = None; seen = []; told = []; own = []; take = None; turn = None; passes = []; back = None }

-- the view of the root of a desk with so many callers
abbrev pub first_view : ℕ → PassView
first_view callers = record spent { passes = replicate callers NotMade }

-- all of the book is seen
abbrev pub having_seen : BookSeen → PassView → PassView
having_seen b v = record v { seen = log_of b; told = []; back = None }

-- the turn is taken, where the book is so
abbrev pub with_turn : BookSeen → PassView → PassView
with_turn b v = record v { seen = log_of b; told = []; turn = Some b }

-- the caller added an entry, by which the book became so
abbrev pub with_entry : BookSeen → ℕ → PassView → PassView
with_entry b caller v = record v { seen = log_of b; own = of_caller caller (log_of b); take = open_take b caller; turn = Some b }

-- the turn is given back
abbrev pub without_turn : PassView → PassView
without_turn v = record v { turn = None }

-- the root's view once a caller's pass is made
abbrev pub with_pass_out : ℕ → PassView → PassView
with_pass_out caller v = record v { passes = slice_set v.passes caller Out }

-- the view of a new pass of a caller, which has seen what the root has, and has made no call
abbrev pub new_pass : ℕ → PassView → PassView
new_pass caller v = record spent { caller = Some caller; seen = v.seen }

-- a copy of what was seen
abbrev pub copied : PassView → PassView
copied v = record spent { seen = v.seen }

-- told what another has seen
abbrev pub informed : PassView → PassView → PassView
informed v w = record v { told = w.seen }

-- this caller's pass is back, if it is one's
abbrev pub with_back : List PassPlace → Option ℕ → List PassPlace
with_back passes None = passes
with_back passes (Some caller) = slice_set passes caller Back

-- a pass is given back to the root, which is told what the pass has seen, and of its own calls
abbrev pub with_pass_back : PassView → PassView → PassView
with_pass_back v w = record v { told = w.seen; own = w.own; passes = with_back v.passes w.caller; back = w.caller }
