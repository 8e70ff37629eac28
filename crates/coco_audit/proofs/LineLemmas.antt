-- A line that is written behind what a buffer holds.
use Rattle.std.proofs.Common.{◌≡◌, ℕ, List, [], ◌∷◌, ◌++◌, Result, Ok, Err, ap, ◌∙◌, append_assoc}
use Rattle.std.specs.Prelude.{OnOk, IsOk}
use Rattle.json.specs.Print.{print}
use Rattle.json.specs.Tree.{json_tokens}
use Rattle.json.specs.Token.{Token}
use Rattle.serde_json.specs.Data.{Data}
use Rattle.serde_json.specs.Written.{outline, compact_text}
use Rattle.serde_json.proofs.Texts.{print-outline}

-- where the whole is Ok, so was its part, and what holds of both gives a third
pub on_both : {A B E F : Type 0} {P Q R : Type 0} (whole : Result A E) (part : Result B F) → OnOk whole (IsOk part) → OnOk whole P → OnOk part Q → (P → Q → R) → OnOk whole R
on_both (Err e) part is p q f = tt
on_both (Ok a) (Ok b) is p q f = f p q
on_both (Ok a) (Err e) is p q f = cc

-- the tokens of a value, printed behind what stood before, and a line feed
pub printed : (before items ended : List ℕ) (start tokens : List Token) (d : Data) → items ≡ before ++ print tokens → start ≡ [] → tokens ≡ start ++ json_tokens (outline d)
    → ended ≡ items ++ 10 ∷ [] → ended ≡ before ++ (compact_text d ++ 10 ∷ [])
printed before items ended start tokens d is none all end =
    let text : print tokens ≡ compact_text d = ap print (all ∙ ap (λ s. s ++ json_tokens (outline d)) none) ∙ print-outline d in
    end ∙ ap (λ s. s ++ 10 ∷ []) (is ∙ ap (λ s. before ++ s) text) ∙ append_assoc before (compact_text d) (10 ∷ [])
