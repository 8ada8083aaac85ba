-- Lines of insertions, one more at their end.
use Rattle.std.proofs.Common.{◌≡◌, ℕ, List, [], ◌∷◌, ◌++◌, length, All, Some, None, refl, sym, ◌∙◌, ap, subst, append_assoc, arith}
use Rattle.std.proofs.lemmas.List.{append-nil}
use Rattle.std.proofs.lemmas.List.Elements.{All-head, All-tail}
use Rattle.plan_base.specs.declared.parts.GroupPart.{GroupPart}
use Rattle.plan_json.specs.Line.{line_of}
use Rattle.rapid.specs.declared.fault.RapidFault.{RapidFault}
use Rattle.rapid.specs.declared.inserted.Inserted.{Inserted}
use Rattle.rapid.specs.Standing.{Standing}
use Rattle.rapid.specs.Insertion.{IsInsertion}
use Rattle.rapid.specs.Refused.{refusal_of, IsGroupInRanges}
use Rattle.rapid.specs.Written.{inserted_data}
use Rattle.rapid.specs.Run.{WritesEach}
use Rattle.rapid.specs.Lines.{IsLineOf, AreLinesOf, IsStoppedAt}

writes_push : (before after next : Standing) (groups : List GroupPart) (group : GroupPart) (answer : Inserted) (text : List ℕ)
    → WritesEach before groups text after → refusal_of after.snapshot group ≡ None → IsInsertion after group answer next
    → WritesEach before (groups ++ group ∷ []) (text ++ line_of (inserted_data next.claim next.displaced answer)) next
writes_push before after next [] group answer text w accepted h =
    let line : List ℕ = line_of (inserted_data next.claim next.displaced answer) in
    let same : refusal_of before.snapshot group ≡ None = subst (λ (b : Standing). refusal_of b.snapshot group ≡ None) w.1 accepted in (
      same,
      answer,
      next,
      [],
      subst (λ (b : Standing). IsInsertion b group answer next) w.1 h,
      (refl, refl),
      ap (λ (t : List ℕ). t ++ line) w.0 ∙ sym (append-nil line),
    )
writes_push before after next (g ∷ groups) group answer text w accepted h =
    let line : List ℕ = line_of (inserted_data next.claim next.displaced answer) in (
      w.0,
      w.1,
      w.2,
      w.3 ++ line,
      w.4,
      writes_push w.2 after next groups group answer w.3 w.5 accepted h,
      ap (λ (t : List ℕ). t ++ line) w.6
          ∙ append_assoc (line_of (inserted_data w.2.claim w.2.displaced w.1)) w.3 line,
    )

-- the groups that were inserted so far, whose lines were added, and those that are left
pub record AreLinesSoFar (first : Standing) (groups left : List GroupPart) (after : Standing) (start text : List ℕ) : Type 0 where
  done : List GroupPart
  parted : groups ≡ done ++ left
  within : All IsGroupInRanges left
  lines : AreLinesOf first done after start text

module _ (first : Standing) (groups : List GroupPart) (start : List ℕ) where
  pub lines_none : (left : List GroupPart) → left ≡ groups → All IsGroupInRanges groups → AreLinesSoFar first groups left first start start
  lines_none left is all = record {
    done = [];
    parted = sym is;
    within = subst (All IsGroupInRanges) (sym is) all;
    lines = ([], (refl, refl), sym (append-nil start));
  }

  module _ (left rest : List GroupPart) (group : GroupPart) (is : left ≡ group ∷ rest) (after : Standing) (text : List ℕ)
      (so_far : AreLinesSoFar first groups left after start text) where
    pub next_in_ranges : IsGroupInRanges group
    next_in_ranges = All-head IsGroupInRanges group rest (subst (All IsGroupInRanges) is so_far.within)

    parts : groups ≡ so_far.done ++ group ∷ rest
    parts = so_far.parted ∙ ap (λ (gs : List GroupPart). so_far.done ++ gs) is

    pub lines_more : (next : Standing) (more : List ℕ) → IsLineOf after group next text more → AreLinesSoFar first groups rest next start more
    lines_more next more (accepted, answer, insertion, f) =
        let (lines, writes, e) = so_far.lines in
        let line : List ℕ = line_of (inserted_data next.claim next.displaced answer) in
        record {
          done = so_far.done ++ group ∷ [];
          parted = parts ∙ sym (append_assoc so_far.done (group ∷ []) rest);
          within = All-tail IsGroupInRanges group rest (subst (All IsGroupInRanges) is so_far.within);
          lines = (
            lines ++ line,
            writes_push first after next so_far.done group answer lines writes accepted insertion,
            f ∙ ap (λ (t : List ℕ). t ++ line) e ∙ append_assoc start lines line,
          );
        }

    pub stopped : (more : List ℕ) (fault : RapidFault) → refusal_of after.snapshot group ≡ Some fault → more ≡ text
        → IsStoppedAt first groups fault start more
    stopped more fault refused same = record {
      done = so_far.done;
      group = group;
      others = rest;
      parted = parts;
      standing = after;
      lines = subst (λ (t : List ℕ). AreLinesOf first so_far.done after start t) (sym same) so_far.lines;
      refused = refused;
    }

  pub lines_all : (left : List GroupPart) (after : Standing) (text : List ℕ) → length left ≡ 0 → AreLinesSoFar first groups left after start text
      → AreLinesOf first groups after start text
  lines_all [] after text none so_far =
      subst (λ (gs : List GroupPart). AreLinesOf first gs after start text) (sym (so_far.parted ∙ append-nil so_far.done)) so_far.lines
  lines_all (group ∷ left) after text none so_far = absurd (omega arith)
