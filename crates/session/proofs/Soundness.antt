-- The histories of a book are sound.
use Rattle.std.proofs.Common.{◌≡◌, ℕ, List, [], ◌++◌, take, drop, refl, sym, subst, arith, inl, take-append-drop}
use Rattle.plan_io.specs.declared.lines.ScriptLine.{ScriptLine}
use Rattle.desk_events.specs.declared.entry.EventEntry.{EventEntry}
use Rattle.desk_core.specs.History.{IsEntry, EachAfter}
use Rattle.desk_book.specs.Claims.{IsClaimEntry}
use Rattle.desk_book.specs.Kept.{IsBook}
use Rattle.desk_book.specs.Seen.{BookSeen, IsOver}
use Rattle.desk_book.proofs.Histories.{each_front, each_none}
use Rattle.desk_book.proofs.Prefixes.{prefix_order}
use Rattle.desk_book.proofs.Whole.{over_is_whole}
use Rattle.session.specs.Session.{IsSound}

-- all entries
pub book_sound : (b : BookSeen) → IsBook b → IsSound b.scripts b.history
book_sound b k = record { legal = k.legal; bounded = k.claims }

-- the first entries of a book in which nothing is left to do
pub prefix_sound : (b : BookSeen) (n : ℕ) → IsBook b → ((caller : ℕ) → IsOver b caller) → IsSound b.scripts (take n b.history)
prefix_sound b n k over =
    let cut : b.history ≡ take n b.history ++ drop n b.history = sym (take-append-drop n b.history) in
    record {
      legal = record {
        order = λ caller. prefix_order b.scripts b.history n caller (over_is_whole b k over);
        each = each_front (IsEntry b.scripts) (take n b.history) (drop n b.history)
            (subst (λ (es : List EventEntry). EachAfter (IsEntry b.scripts) es) cut k.legal.each);
      };
      bounded = each_front (IsClaimEntry b.scripts) (take n b.history) (drop n b.history)
          (subst (λ (es : List EventEntry). EachAfter (IsClaimEntry b.scripts) es) cut k.claims);
    }

-- no entry
pub none_sound : (scripts : List (List ScriptLine)) → IsSound scripts []
none_sound scripts = record {
  legal = record { order = λ caller. (0, inl (omega arith, refl)); each = each_none (IsEntry scripts) };
  bounded = each_none (IsClaimEntry scripts);
}
