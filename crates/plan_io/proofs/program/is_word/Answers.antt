use Rattle.std.proofs.Common.{◌≡◌, ℕ, ◌<◌, ◌≤◌, length, Bool, List, [], ◌∷◌, slice_index_or, map, IsTrue, sym, ◌∙◌, ap, arith, String, string_bytes, Global}
use Rattle.std.specs.Str.{bytes_eq}
use Rattle.std.proofs.lemmas.Slice.Eq.{bytes_eq-Decides}
use Rattle.plan_io.proofs.program.is_word.Goals as goal

-- a list of one word is that word
one_word : (words : List (String Global)) (word : String Global) → 1 ≤ length words → length words < 2 → word ≡ slice_index_or words 0 word
    → map string_bytes words ≡ string_bytes word ∷ []
one_word [] word few many e = absurd (omega arith)
one_word (x ∷ []) word few many e = ap (λ (w : String Global). string_bytes w ∷ []) (sym e)
one_word (x ∷ y ∷ rest) word few many e = absurd (omega arith)

-- the test tells whether that word is the text
tells_words : (words : List (List ℕ)) (word text : List ℕ) (test : Bool) → words ≡ word ∷ [] → test ≡ bytes_eq word text
    → (IsTrue test → words ≡ text ∷ []) × (words ≡ text ∷ [] → IsTrue test)
tells_words words word text test one e =
    let told = bytes_eq-Decides word text in (
      λ h. one ∙ ap (λ (w : List ℕ). w ∷ []) (told.0 (sym e ∙ h)),
      λ h. let same : word ≡ text = cc in e ∙ told.1 same,
    )

pub returns-in-len1 : goal.returns-in-len1
returns-in-len1 c =
    tells_words _ c.as_str.result.now c.args.word.now c.eq.result
    (one_word _ c.only-item.result c.in-len1.len_at_least c.in-len1.len_below c.only-item.is
    ∙ ap (λ (bs : List ℕ). bs ∷ []) (sym c.as_str.ensures.value)) c.eq.ensures
