-- Whether all groups are inserted, and which is refused first.
use Rattle.std.proofs.Common.{◌≡◌, ℕ, List, [], ◌∷◌, ◌++◌, Option, None, Some, refl, sym, ap, subst}
use Rattle.std.specs.Option.{option_or}
use Rattle.plan_base.specs.declared.parts.Parts.{Parts}
use Rattle.plan_base.specs.declared.parts.GroupPart.{GroupPart}
use Rattle.rapid.specs.declared.fault.RapidFault.{RapidFault}
use Rattle.rapid.specs.Standing.{Standing}
use Rattle.rapid.specs.Insertion.{with_group}
use Rattle.rapid.specs.Refused.{refusal_of, first_refusal}
use Rattle.rapid.specs.Run.{WritesEach, IsCutOff}

later : (s next : Parts) (group : GroupPart) (groups : List GroupPart) (found : Option RapidFault) → refusal_of s group ≡ None
    → next ≡ with_group s group → first_refusal next groups ≡ found → first_refusal s (group ∷ groups) ≡ found
later s next group groups found accepted e h =
    subst (λ (o : Option RapidFault). option_or o (first_refusal (with_group s group) groups) ≡ found) (sym accepted)
    (subst (λ (x : Parts). first_refusal x groups ≡ found) e h)

pub whole_accepted : (before after : Standing) (groups : List GroupPart) (text : List ℕ) → WritesEach before groups text after
    → first_refusal before.snapshot groups ≡ None
whole_accepted before after [] text w = refl
whole_accepted before after (group ∷ groups) text w =
    later before.snapshot w.2.snapshot group groups None w.0 w.4.snapshot (whole_accepted w.2 after groups w.3 w.5)

after_done : (before standing : Standing) (done : List GroupPart) (group : GroupPart) (others : List GroupPart) (lines : List ℕ) (refusal : RapidFault)
    → WritesEach before done lines standing → refusal_of standing.snapshot group ≡ Some refusal
    → first_refusal before.snapshot (done ++ group ∷ others) ≡ Some refusal
after_done before standing [] group others lines refusal w h =
    ap (λ (o : Option RapidFault). option_or o (first_refusal (with_group before.snapshot group) others))
    (subst (λ (b : Standing). refusal_of b.snapshot group ≡ Some refusal) w.1 h)
after_done before standing (g ∷ done) group others lines refusal w h =
    later before.snapshot w.2.snapshot g (done ++ group ∷ others) (Some refusal) w.0 w.4.snapshot
    (after_done w.2 standing done group others w.3 refusal w.5 h)

pub cut_refused : (before : Standing) (groups : List GroupPart) (text : List ℕ) (cut : IsCutOff before groups text)
    → first_refusal before.snapshot groups ≡ Some cut.refusal
cut_refused before groups text cut =
    subst (λ (gs : List GroupPart). first_refusal before.snapshot gs ≡ Some cut.refusal) (sym cut.parted)
    (after_done before cut.standing cut.done cut.group cut.others cut.lines cut.refusal cut.written cut.refused)
