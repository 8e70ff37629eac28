-- Tokens that are put one behind the other.
use Rattle.std.proofs.Common.{◌≡◌, ℕ, suc, ◌+◌, List, ◌∷◌, ◌++◌, drop, Option, Some, Result, Ok, Err, OnOk, sym, ap, ◌∙◌, add-one, append_assoc}
use Rattle.std.specs.List.{slice_get}
use Rattle.std.proofs.Math.Seq.{drop-cons}
use Rattle.std.proofs.lemmas.Option.{slice_get_within, get_or_from_slice_get}
use Rattle.coco_lines.proofs.TextLemmas.{on_ok}
use Rattle.json.specs.Token.{Token}
use Rattle.json.specs.Tree.{json_tokens, items_tokens}
use Rattle.serde_json.specs.Written.{outline, items_outline}
use Rattle.coco_types.specs.declared.value.Value.{Value}
use Rattle.coco_lines.specs.Texts.{value_json}
use Rattle.coco_audit.specs.Texts.{args_json}

abbrev pub args_tokens : List (Option Value) → List Token
args_tokens args = items_tokens (items_outline (args_json args))

-- an argument from the front of those to come
pub put_argument : (args : List (Option Value)) (i : ℕ) (a : Option Value) (old new all : List Token) → slice_get args i ≡ Some a → new ≡ old ++ json_tokens (outline (value_json a))
    → old ++ args_tokens (drop i args) ≡ all → new ++ args_tokens (drop (i + 1) args) ≡ all
put_argument args i a old new all at is before =
    let first : drop i args ≡ a ∷ drop (i + 1) args =
    drop-cons args i a (slice_get_within args i a at) ∙ ap (λ x. x ∷ drop (suc i) args) (get_or_from_slice_get args i a a at) ∙ ap (λ k. a ∷ drop k args) (sym (add-one i)) in
    ap (λ s. s ++ args_tokens (drop (i + 1) args)) is ∙ append_assoc old (json_tokens (outline (value_json a))) (args_tokens (drop (i + 1) args))
    ∙ ap (λ xs. old ++ args_tokens xs) (sym first) ∙ before

-- what was put behind the tokens, and what is to come, is all
pub behind : {X : Type 0} (t next x rest all : List X) → next ≡ t ++ x → t ++ (x ++ rest) ≡ all → next ++ rest ≡ all
behind t next x rest all is h = ap (λ s. s ++ rest) is ∙ append_assoc t x rest ∙ h
