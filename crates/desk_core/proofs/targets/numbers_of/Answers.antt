use Rattle.std.proofs.Common.{◌≡◌, ◌∙◌, ap, sym, ◌<◌, ℕ, List, [], ◌∷◌, length, take, get_or, fold, Option, Some, None, refl, arith}
use Rattle.std.specs.Option.{option_map}
use Rattle.plan_base.specs.declared.number.TargetNo.{TargetNo}
use Rattle.std.specs.List.{filter_map, cons_option}
use Rattle.std.specs.Ordering.{nat_cmp}
use Rattle.std.specs.BTreeSet.{insert_key}
use Rattle.std.proofs.lemmas.List.Sums.{fold-append}
use Rattle.request_model.specs.declared.request.ConfigDoc.{ConfigDoc}
use Rattle.site_model.specs.Names.{number_of}
use Rattle.desk_core.specs.Targets.{numbers_of}
use Rattle.desk_core.proofs.Numbering.{filter_map_more}
use Rattle.desk_core.proofs.targets.numbers_of.Goals as goal
use Rattle.desk_core.proofs.targets.numbers_of.Goals.{in-Some+in_ok-insert, in_default}

number_in : (o : Option ℕ) (t : TargetNo) → Some t ≡ option_map (λ n. record { 0 = n }) o → cons_option o [] ≡ t.0 ∷ []
number_in None t e = absurd (cc)
number_in (Some n) t e = let is : t ≡ record { 0 = n } = cc in ap (λ (t : TargetNo). let l : List ℕ = t.0 ∷ [] in l) (sym is)

no_number_in : (o : Option ℕ) (found : Option TargetNo) → found ≡ option_map (λ n. record { 0 = n }) o
    → ((t : TargetNo) → found ≡ Some t → ⊥) → cons_option o [] ≡ []
no_number_in None found e h = refl
no_number_in (Some n) found e h = absurd (h record { 0 = n } e)

pub loop-configuration-preserved : goal.loop-configuration-preserved
loop-configuration-preserved c =
    let i = c.loop-configuration.configuration-index in
    let cs = c.args.configurations.now in
    let l : i < length cs = omega arith in
    let number : ConfigDoc → Option ℕ = λ q. number_of c.args.network.now.registry.targets q.target in
    let step = ap (fold (insert_key nat_cmp) []) (filter_map_more number cs i c.configuration-item.result l)
    ∙ fold-append (insert_key nat_cmp) [] (filter_map number (take i cs)) (cons_option (number (get_or cs i c.configuration-item.result)) []) in
    let before : List ℕ = numbers_of c.args.network.now.registry.targets (take i cs) in
    let found : c.find_target.result ≡ option_map (λ n. record { 0 = n }) (number (get_or cs i c.configuration-item.result)) =
    c.find_target.ensures ∙ ap (λ (q : ConfigDoc). option_map (λ n. let t : TargetNo = record { 0 = n } in t) (number q)) c.configuration-item.is in
    elim c.match-find_target.branch [
      | in-Some+in_ok-insert w ↦
          let one = number_in (number (get_or cs i c.configuration-item.result)) w.in-Some.target (sym w.in-Some.is ∙ found) in
          let same : c.match-find_target.numbers.keys ≡ w.insert.new.self.keys = rw w.numbers-is refl in
          same ∙ w.in_ok-insert.ensures.keys ∙ ap (λ (k : List ℕ). insert_key nat_cmp k w.in-Some.target.0) c.loop-configuration.invariant
          ∙ ap (fold (insert_key nat_cmp) before) (sym one) ∙ sym step
      | in_default w ↦
          let none = no_number_in (number (get_or cs i c.configuration-item.result)) c.find_target.result found w.in_default.not-Some in
          let same : c.match-find_target.numbers.keys ≡ c.loop-configuration.numbers.keys = rw w.numbers-is refl in
          same ∙ c.loop-configuration.invariant ∙ ap (fold (insert_key nat_cmp) before) (sym none) ∙ sym step
    ]
