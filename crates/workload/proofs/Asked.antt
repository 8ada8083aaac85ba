-- What lines ask for: those before the last for something other than a plan.
use Rattle.std.proofs.Common.{◌≡◌, ℕ, ◌<◌, ◌⊎◌, Bool, false, true, List, codes, slice_index_or, refl, inl, inr, Some}
use Rattle.serde_json.specs.Data.{Data, string, object, Members}
use Rattle.serde_json.specs.Find.{get_member}
use Rattle.workload.specs.declared.subject.Subject.{Subject}
use Rattle.workload.specs.declared.subject.Subject.TheVariants.{Open, Instrument, Telescope, Night, Visibility, Grant, Submit, Plan}
use Rattle.workload.specs.Documents.{open_data, instrument_data, telescope_data, night_line, sky_line, grant_data, group_line, document}
use Rattle.workload.specs.Lines.{number_before, document_at}
use Rattle.workload.specs.Subjects.{subjects}
use Rattle.workload.proofs.Places.{is_plan, before_last}

-- an object whose `do` is this word
abbrev pub Asks : List ℕ → Data → Type 0
Asks word d = (ms : Members) × (d ≡ object ms) × (get_member (codes "do") ms ≡ Some (string word))

abbrev pub AsksNoPlan : Data → Type 0
AsksNoPlan d =
    Asks (codes "open") d
    ⊎ (Asks (codes "instrument") d
    ⊎ (Asks (codes "telescope") d ⊎ (Asks (codes "night") d ⊎ (Asks (codes "visibility") d ⊎ (Asks (codes "grant") d ⊎ Asks (codes "submit") d)))))

asks : (workers x : ℕ) (subject : Subject) → is_plan subject ≡ false → AsksNoPlan (document workers x subject)
unfolding open_data instrument_data telescope_data night_line sky_line grant_data group_line
asks workers x Open other = inl (_, refl, refl)
asks workers x (Instrument class) other = inr (inl (_, refl, refl))
asks workers x (Telescope site class) other = inr (inr (inl (_, refl, refl)))
asks workers x (Night site) other = inr (inr (inr (inl (_, refl, refl))))
asks workers x (Visibility target site) other = inr (inr (inr (inr (inl (_, refl, refl)))))
asks workers x (Grant proposal class) other = inr (inr (inr (inr (inr (inl (_, refl, refl))))))
asks workers x (Submit group) other = inr (inr (inr (inr (inr (inr (_, refl, refl))))))
asks workers x Plan other = absurd (cc)

pub asks_no_plan : (number workers place : ℕ) → place < 210 → AsksNoPlan (document_at number workers place)
asks_no_plan number workers place few = asks workers (number_before number place) (slice_index_or subjects place Plan) (before_last place few)
