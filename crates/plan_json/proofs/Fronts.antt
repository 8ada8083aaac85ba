-- What stays of the bytes that a writer is given.
use Rattle.std.proofs.Common.{List, ℕ, ◌≡◌, ◌++◌, Result, Ok, Err, IsErr, ap, ◌∙◌, append_assoc}
use Rattle.plan_json.specs.Adds.{IsFrontOf, Adds}

pub IsFrontOf-trans : (a b c : List ℕ) → IsFrontOf a b → IsFrontOf b c → IsFrontOf a c
IsFrontOf-trans a b c p q = (p.0 ++ q.0, q.1 ∙ ap (λ (s : List ℕ). s ++ q.0) p.1 ∙ append_assoc a p.0 q.0)

-- memory ran out within a text
pub Adds-part : {E : Type 0} (r : Result (Unit {0}) E) (a b c text : List ℕ) → IsErr r → IsFrontOf a b → IsFrontOf b c → Adds r a c text
Adds-part (Ok v) a b c text err p q = absurd cc
Adds-part (Err e) a b c text err p q = record { ok = tt; err = IsFrontOf-trans a b c p q }

-- a text is added after another that was
pub Adds-after : {E : Type 0} (r : Result (Unit {0}) E) (a b c first second : List ℕ) → b ≡ a ++ first → Adds r b c second → Adds r a c (first ++ second)
Adds-after (Ok v) a b c first second is adds = record { ok = adds.ok ∙ ap (λ (s : List ℕ). s ++ second) is ∙ append_assoc a first second; err = tt }
Adds-after (Err e) a b c first second is adds = record { ok = tt; err = IsFrontOf-trans a b c (first, is) adds.err }
