-- Histories and one entry more.
use Rattle.std.proofs.Common.{◌≡◌, List, [], ◌∷◌, ◌++◌, refl, sym, ◌∙◌, ap, subst, append_assoc, ◌⊎◌, inl, inr}
use Rattle.std.proofs.lemmas.List.Sums.{fold-append}
use Rattle.plan_io.specs.declared.lines.ScriptLine.{ScriptLine}
use Rattle.desk_events.specs.declared.entry.EventEntry.{EventEntry}
use Rattle.desk_core.specs.Desk.{start}
use Rattle.desk_core.specs.History.{after_entry, replay, EachAfter}

pub replay_more : (scripts : List (List ScriptLine)) (history : List EventEntry) (e : EventEntry)
    → replay scripts (history ++ e ∷ []) ≡ after_entry scripts (replay scripts history) e
replay_more scripts history e = fold-append (after_entry scripts) start history (e ∷ [])

-- what holds of each entry of a history holds of each of its front
pub each_front : (R : List EventEntry → EventEntry → Type 0) (xs ys : List EventEntry) → EachAfter R (xs ++ ys) → EachAfter R xs
each_front R xs ys h before after e is =
    h before (after ++ ys) e (ap (λ (zs : List EventEntry). zs ++ ys) is ∙ append_assoc before (e ∷ after) ys)

-- where a list with one more entry at its end is cut at an entry, that is the last one, or stands before it
abbrev CutMore : List EventEntry → EventEntry → List EventEntry → List EventEntry → EventEntry → Type 0
CutMore xs x before after e =
    ((before ≡ xs) × (e ≡ x)) ⊎ ((rest : List EventEntry) × (xs ≡ before ++ e ∷ rest))

cut_behind : (y : EventEntry) (xs : List EventEntry) (x : EventEntry) (before after : List EventEntry) (e : EventEntry) → CutMore xs x before after e
    → CutMore (y ∷ xs) x (y ∷ before) after e
cut_behind y xs x before after e (inl t) = inl (ap (λ (zs : List EventEntry). y ∷ zs) t.0, t.1)
cut_behind y xs x before after e (inr t) = inr (t.0, ap (λ (zs : List EventEntry). y ∷ zs) t.1)

along_first : (y z : EventEntry) (xs : List EventEntry) (x : EventEntry) (before after : List EventEntry) (e : EventEntry) → y ≡ z
    → CutMore (y ∷ xs) x (y ∷ before) after e
    → CutMore (y ∷ xs) x (z ∷ before) after e
along_first y z xs x before after e is h = subst (λ (w : EventEntry). CutMore (y ∷ xs) x (w ∷ before) after e) is h

cut_more : (xs : List EventEntry) (x : EventEntry) (before after : List EventEntry) (e : EventEntry) → xs ++ x ∷ [] ≡ before ++ e ∷ after
    → CutMore xs x before after e
cut_more [] x [] after e is = let same : e ≡ x = cc in inl (refl, same)
cut_more [] x (b ∷ []) after e is = cc
cut_more [] x (b ∷ c ∷ before) after e is = cc
cut_more (y ∷ xs) x [] after e is = let same : y ≡ e = cc in inr (xs, ap (λ (w : EventEntry). w ∷ xs) same)
cut_more (y ∷ xs) x (b ∷ before) after e is =
    let first : y ≡ b = cc in
    let rest : xs ++ x ∷ [] ≡ before ++ e ∷ after = cc in
    along_first y b xs x before after e first (cut_behind y xs x before after e (cut_more xs x before after e rest))

each_at : (R : List EventEntry → EventEntry → Type 0) (xs : List EventEntry) (x : EventEntry) → EachAfter R xs → R xs x
    → (before after : List EventEntry) (e : EventEntry)
    → CutMore xs x before after e → R before e
each_at R xs x h r before after e (inl t) = subst (λ (ys : List EventEntry). R ys e) (sym t.0) (subst (λ (y : EventEntry). R xs y) (sym t.1) r)
each_at R xs x h r before after e (inr t) = h before t.0 e t.1

-- one more entry
pub each_more : (R : List EventEntry → EventEntry → Type 0) (xs : List EventEntry) (x : EventEntry) → EachAfter R xs → R xs x → EachAfter R (xs ++ x ∷ [])
each_more R xs x h r before after e is = each_at R xs x h r before after e (cut_more xs x before after e is)

pub each_none : (R : List EventEntry → EventEntry → Type 0) → EachAfter R []
each_none R [] after e is = cc
each_none R (b ∷ before) after e is = cc
