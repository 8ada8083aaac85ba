-- The groups that a change tells.
use Rattle.std.proofs.Common.{◌≡◌, ◌≢◌, ℕ, ◌+◌, ◌≤◌, ◌==◌, Bool, true, false, cond, ◌||◌, List, [], ◌∷◌, length, map, filter, All, get_or, refl, sym}
use Rattle.std.proofs.Common.{◌∙◌, ap, subst, arith}
use Rattle.std.specs.List.{AllZip, list_any}
use Rattle.std.proofs.lemmas.Bool.{eq-eqb}
use Rattle.std.proofs.lemmas.List.{length-map, get_or-map}
use Rattle.std.proofs.lemmas.List.Elements.{All-nil, All-cons, All-head, All-tail, All-weaker}
use Rattle.plan_base.specs.declared.number.GroupNo.{GroupNo}
use Rattle.desk_runs.specs.declared.group.Group.{Group}
use Rattle.desk_runs.specs.Sound.{IsNumbered, is_told, AreTold}
use Rattle.desk_runs.proofs.Places.{IsCountedFrom, counted_from, counted_head, counted_tail, differs}

told_step : (b : Bool) (x : Group) (xs : List Group) (n : ℕ) → (x.number.0 == n) ≡ false
    → list_any (λ c. c.number.0 == n) (cond b (x ∷ xs) xs) ≡ list_any (λ c. c.number.0 == n) xs
told_step true x xs n e = ap (λ (v : Bool). v || list_any (λ c. c.number.0 == n) xs) e
told_step false x xs n e = refl

map_step : (f : Group → Group) (b : Bool) (x : Group) (xs : List Group) → map f (cond b (x ∷ xs) xs) ≡ cond b (f x ∷ map f xs) (map f xs)
map_step f true x xs = refl
map_step f false x xs = refl

-- no group further on has a number at or below b
told_beyond : (b : ℕ) (p : Group → Bool) (f : Group → Group) (gs : List Group) (n : ℕ) → ((g : Group) → (f g).number ≡ g.number)
    → IsCountedFrom b (map (λ g. g.number.0) gs) → n ≤ b → list_any (λ c. c.number.0 == n) (map f (filter p gs)) ≡ false
told_beyond b p f [] n keeps h low = refl
told_beyond b p f (x ∷ xs) n keeps h low =
    let first : x.number.0 ≡ b + 1 = counted_head b x.number.0 (map (λ g. g.number.0) xs) h in
    let same : (f x).number.0 ≡ x.number.0 = ap (λ (m : GroupNo). m.0) (keeps x) in
    let ne : (f x).number.0 ≢ n = λ e. absurd (omega arith) in
    ap (list_any (λ c. c.number.0 == n)) (map_step f (p x) x (filter p xs)) ∙ told_step (p x) (f x) (map f (filter p xs)) n (differs (f x).number.0 n ne)
    ∙ told_beyond (b + 1) p f xs n keeps (counted_tail b x.number.0 (map (λ g. g.number.0) xs) h) (omega arith)

head_told : (b : Bool) (x : Group) (xs : List Group) (n : ℕ) → (x.number.0 == n) ≡ true → list_any (λ c. c.number.0 == n) xs ≡ false
    → list_any (λ c. c.number.0 == n) (cond b (x ∷ xs) xs) ≡ b
head_told true x xs n e r = ap (λ (v : Bool). v || list_any (λ c. c.number.0 == n) xs) e
head_told false x xs n e r = r

-- told are those that pass
told_are : (b : ℕ) (p : Group → Bool) (f : Group → Group) (gs : List Group) → ((g : Group) → (f g).number ≡ g.number)
    → IsCountedFrom b (map (λ g. g.number.0) gs) → All (λ g. is_told (map f (filter p gs)) g ≡ p g) gs
told_are b p f [] keeps h = All-nil (λ g. is_told (map f (filter p [])) g ≡ p g)
told_are b p f (x ∷ xs) keeps h =
    let numbers : List ℕ = map (λ g. g.number.0) xs in
    let first : x.number.0 ≡ b + 1 = counted_head b x.number.0 numbers h in
    let tail : IsCountedFrom (b + 1) numbers = counted_tail b x.number.0 numbers h in
    let same : (f x).number.0 ≡ x.number.0 = ap (λ (m : GroupNo). m.0) (keeps x) in
    let cs : List Group = map f (filter p (x ∷ xs)) in
    let step : cs ≡ cond (p x) (f x ∷ map f (filter p xs)) (map f (filter p xs)) = map_step f (p x) x (filter p xs) in
    All-cons (λ g. is_told cs g ≡ p g) x xs
    (ap (list_any (λ c. c.number.0 == x.number.0)) step
    ∙ head_told (p x) (f x) (map f (filter p xs)) x.number.0 (eq-eqb (f x).number.0 x.number.0 same)
    (told_beyond (b + 1) p f xs x.number.0 keeps tail (omega arith)))
    (λ k d l.
    let g : Group = get_or xs k d in
    let len : length numbers ≡ length xs = length-map xs (λ y. y.number.0) in
    let at : get_or numbers k 0 ≡ b + 1 + k + 1 = tail k (omega arith) in
    let is : g.number.0 ≡ b + 1 + k + 1 = sym (get_or-map (λ y. y.number.0) xs k d 0 l) ∙ at in
    let ne : (f x).number.0 ≢ g.number.0 = λ e. absurd (omega arith) in
    ap (list_any (λ c. c.number.0 == g.number.0)) step ∙ told_step (p x) (f x) (map f (filter p xs)) g.number.0 (differs (f x).number.0 g.number.0 ne)
    ∙ told_are (b + 1) p f xs keeps tail k d l)

filter_step : (q b : Bool) (x y : Group) (xs ys : List Group) → q ≡ b → xs ≡ ys → x ≡ y → cond q (x ∷ xs) xs ≡ cond b (y ∷ ys) ys
filter_step q b x y xs ys e h s =
    ap (λ (v : Bool). cond v (x ∷ xs) xs) e ∙ ap (λ (l : List Group). cond b (x ∷ l) l) h ∙ ap (λ (g : Group). cond b (g ∷ ys) ys) s

-- what passes once it is changed is what passes, changed
filter_changed : (q p : Group → Bool) (f : Group → Group) (gs : List Group) → All (λ g. q (f g) ≡ p g) gs → map f (filter p gs) ≡ filter q (map f gs)
filter_changed q p f [] h = refl
filter_changed q p f (x ∷ xs) h =
    map_step f (p x) x (filter p xs)
    ∙ sym (filter_step (q (f x)) (p x) (f x) (f x) (filter q (map f xs)) (map f (filter p xs)) (All-head (λ g. q (f g) ≡ p g) x xs h)
    (sym (filter_changed q p f xs (All-tail (λ g. q (f g) ≡ p g) x xs h))) refl)

zip_changed : (Q : Group → Group → Type 0) (f : Group → Group) (gs : List Group) → All (λ g. Q g (f g)) gs → AllZip Q gs (map f gs)
zip_changed Q f [] h = tt
zip_changed Q f (g ∷ gs) h = (All-head (λ x. Q x (f x)) g gs h, zip_changed Q f gs (All-tail (λ x. Q x (f x)) g gs h))

-- where those that pass are changed and told, and all others stay
pub told_of : (p : Group → Bool) (f : Group → Group) (gs cs hs : List Group) → IsNumbered gs → ((g : Group) → (f g).number ≡ g.number)
    → ((g : Group) → p g ≡ false → f g ≡ g) → cs ≡ map f (filter p gs) → hs ≡ map f gs → AreTold gs cs hs
told_of p f gs cs hs numbered keeps same c h =
    let ds : List Group = map f (filter p gs) in
    let are : All (λ g. is_told ds g ≡ p g) gs = told_are 0 p f gs keeps (counted_from (map (λ g. g.number.0) gs) numbered.groups) in
    let after : All (λ g. is_told ds (f g) ≡ p g) gs =
    All-weaker (λ g. is_told ds g ≡ p g) (λ g. is_told ds (f g) ≡ p g)
    (λ g e. ap (λ (n : GroupNo). list_any (λ x. x.number.0 == n.0) ds) (keeps g) ∙ e) gs are in
    let first : AreTold gs ds (map f gs) = record {
      listed = filter_changed (is_told ds) p f gs after;
      others = zip_changed (λ g x. is_told ds g ≡ false → x ≡ g) f gs
          (All-weaker (λ g. is_told ds g ≡ p g) (λ g. is_told ds g ≡ false → f g ≡ g) (λ g e no. same g (sym e ∙ no)) gs are);
    } in
    subst (AreTold gs cs) (sym h) (subst (λ (l : List Group). AreTold gs l (map f gs)) (sym c) first)
