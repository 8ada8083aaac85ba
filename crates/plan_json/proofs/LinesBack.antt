-- The text of what is written is read as what was written, with a newline after it.
use Rattle.std.proofs.Common.{◌≡◌, ℕ, Bool, true, false, cond, List, ◌++◌, Option, Some, None, option_and_then, Result, Ok, Err, refl, ap, subst, ◌∙◌}
use Rattle.std.specs.Prelude.{ok_or}
use Rattle.std.specs.Str.{is_utf8}
use Rattle.std.proofs.lemmas.Str.{IsUtf8-append, IsUtf8-from_is_utf8}
use Rattle.json.specs.Json as json
use Rattle.json.specs.Token.{Token}
use Rattle.json.specs.Lex.{tokens}
use Rattle.json.specs.Tree.{json_tokens}
use Rattle.json.proofs.Printed.Trees.{ArePrintable-json_tokens}
use Rattle.json.proofs.Printed.Utf8.{IsUtf8-are_ascii}
use Rattle.serde_json.specs.Data.{Data}
use Rattle.serde_json.specs.Read.{of_json, max_depth, read}
use Rattle.serde_json.specs.Written.{outline}
use Rattle.serde_json.proofs.Texts.{print-outline}
use Rattle.plan_json.specs.declared.fault.JsonFault.{JsonFault}
use Rattle.plan_json.specs.declared.fault.JsonFault.TheVariants.{NotJson}
use Rattle.plan_json.specs.Adds.{text_of}
use Rattle.plan_json.specs.Exact.{IsExact}
use Rattle.plan_json.specs.TextLaws.{LinesAreReadBack}
use Rattle.plan_json.specs.Object.{data_of}
use Rattle.plan_json.proofs.TextsBack.{HasNumbers-outline, texts_are_read_back}
use Rattle.plan_json.proofs.Values.{data_of_text}
use Rattle.plan_json.proofs.Newline.{newline, tokens_newline}

-- ---- the text of exact data is printed

text_newline : (d : Data) → IsExact d → tokens (text_of d ++ newline) ≡ tokens (text_of d)
unfolding text_of
text_newline d h =
    subst (λ (text : List ℕ). tokens (text ++ newline) ≡ tokens text) (print-outline d)
    (tokens_newline (json_tokens (outline d)) (ArePrintable-json_tokens (outline d) (HasNumbers-outline d h)))

-- ---- it is read as the data

-- bytes that are read are UTF-8, and have a reading
both_from : (b : Bool) (o : Option Data) (d : Data) → (let r : Result Data JsonFault = cond b (ok_or o NotJson) (Err NotJson) in r ≡ Ok d)
    → (b ≡ true) × (o ≡ Some d)
both_from true (Some x) d e = (refl, cc)
both_from true None d e = cc
both_from false o d e = cc

pub lines_are_read_back : LinesAreReadBack
lines_are_read_back d h =
    let text : List ℕ = text_of d in
    let told = both_from (is_utf8 text) (read text) d (texts_are_read_back d h) in
    let same : read (text ++ newline) ≡ read text =
    ap (λ (ts : List Token). option_and_then of_json (option_and_then (λ p. json.if_last p.0 p.1) (json.value max_depth ts))) (text_newline d h.exact) in
    data_of_text (text ++ newline) d (IsUtf8-append text newline (IsUtf8-from_is_utf8 text told.0) (IsUtf8-are_ascii newline refl)) (same ∙ told.1)
