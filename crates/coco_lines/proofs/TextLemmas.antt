-- The texts of answers, from the pieces that are put one behind the other.
use Rattle.std.proofs.Common.{◌≡◌, List, ℕ, [], ◌∷◌, ◌++◌, Result, Ok, Err, codes, decimal, ap, ◌∙◌, append_assoc}
use Rattle.std.specs.Prelude.{OnOk}
use Rattle.json.specs.Print.{print, escape_byte, quoted}
use Rattle.json.specs.Token.{Token}
use Rattle.serde_json.specs.Data.{string}
use Rattle.serde_json.specs.Written.{compact_text}
use Rattle.serde_json.proofs.Texts.{print-outline}
use Rattle.coco_types.specs.declared.call.Done.{Done}
use Rattle.coco_lines.specs.declared.error.LineError.{LineError}
use Rattle.coco_lines.specs.Texts.{reply_key, reply_json, reply_text, error_word, done_text, error_text}

-- what follows from a fact of a success
pub on_ok : {A E P Q : Type 0} (result : Result A E) → OnOk result P → (P → Q) → OnOk result Q
on_ok (Err e) p f = tt
on_ok (Ok a) p f = f p

-- a string that is printed alone
pub quoted_alone : (before text printed : List ℕ) (tokens : List Token) → before ≡ [] → tokens ≡ Token.string text ∷ [] → printed ≡ before ++ print tokens → printed ≡ quoted text
quoted_alone before text printed tokens empty one is = is ∙ (λ i. empty i ++ print (one i)) ∙ print-outline (string text)

pub four_pieces : (o a b c d o1 o2 o3 o4 : List ℕ) → o1 ≡ o ++ a → o2 ≡ o1 ++ b → o3 ≡ o2 ++ c → o4 ≡ o3 ++ d → o4 ≡ o ++ (a ++ (b ++ (c ++ d)))
four_pieces o a b c d o1 o2 o3 o4 is1 is2 is3 is4 = is4 ∙ ap (λ m. m ++ d) (is3 ∙ ap (λ m. m ++ c) (is2 ∙ ap (λ m. m ++ b) is1)) ∙ simp append_assoc

pub five_pieces : (o a b c d e o1 o2 o3 o4 o5 : List ℕ) → o1 ≡ o ++ a → o2 ≡ o1 ++ b → o3 ≡ o2 ++ c → o4 ≡ o3 ++ d → o5 ≡ o4 ++ e → o5 ≡ o ++ (a ++ (b ++ (c ++ (d ++ e))))
five_pieces o a b c d e o1 o2 o3 o4 o5 is1 is2 is3 is4 is5 = is5 ∙ ap (λ m. m ++ e) (four_pieces o a b c d o1 o2 o3 o4 is1 is2 is3 is4) ∙ simp append_assoc

done_pieces : (e i k v t : List ℕ) → (codes "{\"epoch\":" ++ e) ++ ((codes ",\"id\":" ++ i) ++ ((44 ∷ (k ++ 58 ∷ v)) ++ ((codes ",\"time\":" ++ t) ++ codes "}\n")))
    ≡ (codes "{\"epoch\":" ++ (e ++ (codes ",\"id\":" ++ (i ++ 44 ∷ (k ++ 58 ∷ (v ++ (codes ",\"time\":" ++ (t ++ 125 ∷ [])))))))) ++ 10 ∷ []
done_pieces e i k v t = simp append_assoc

pub done_is : (done : Done) → (codes "{\"epoch\":" ++ decimal done.epoch) ++ ((codes ",\"id\":" ++ decimal done.id) ++ (reply_text done.reply ++ ((codes ",\"time\":" ++ decimal done.time) ++ codes "}\n"))) ≡ done_text done
unfolding done_text escape_byte
done_is done = done_pieces (decimal done.epoch) (decimal done.id) (quoted (reply_key done.reply)) (compact_text (reply_json done.reply)) (decimal done.time)

error_pieces : (w n : List ℕ) → codes "{\"error\":" ++ (w ++ ((codes ",\"line\":" ++ n) ++ codes "}\n")) ≡ (codes "{\"error\":" ++ (w ++ (codes ",\"line\":" ++ (n ++ 125 ∷ [])))) ++ 10 ∷ []
error_pieces w n = simp append_assoc

pub error_is : (e : LineError) (line : ℕ) → codes "{\"error\":" ++ (quoted (error_word e) ++ ((codes ",\"line\":" ++ decimal line) ++ codes "}\n")) ≡ error_text e line
unfolding error_text escape_byte
error_is e line = error_pieces (quoted (error_word e)) (decimal line)
