-- A word is ASCII, so it is a text.
use Rattle.std.proofs.Common.{◌≡◌, ℕ, zero, suc, ◌<◌, true, List, [], ◌∷◌, arith}
use Rattle.std.specs.Prelude.{IsAscii, IsUtf8}
use Rattle.std.specs.List.{list_all}
use Rattle.std.proofs.lemmas.Bool.{and_parts}
use Rattle.std.proofs.lemmas.Bool.Decides.{nat_tests}
use Rattle.std.proofs.lemmas.Str.{IsUtf8-from_ascii}
use Rattle.coco_ast.specs.Words.{is_word_start, is_word_byte, is_spelled_as_word, is_word}

start_is_ascii : (b : ℕ) → is_word_start b ≡ true → b < 128
start_is_ascii b h = grind (arith, nat_tests)

byte_is_ascii : (b : ℕ) → is_word_byte b ≡ true → b < 128
byte_is_ascii b h = grind (arith, nat_tests)

bytes_are_ascii : (bs : List ℕ) → list_all is_word_byte bs ≡ true → IsAscii bs
bytes_are_ascii [] h i = omega arith
bytes_are_ascii (b ∷ bs) h zero = byte_is_ascii b (and_parts _ _ h).0
bytes_are_ascii (b ∷ bs) h (suc i) = bytes_are_ascii bs (and_parts _ _ h).1 i

spelling_is_ascii : (bs : List ℕ) → is_spelled_as_word bs ≡ true → IsAscii bs
spelling_is_ascii [] h i = omega arith
spelling_is_ascii (b ∷ bs) h zero = start_is_ascii b (and_parts _ _ h).0
spelling_is_ascii (b ∷ bs) h (suc i) = bytes_are_ascii bs (and_parts _ _ h).1 i

pub word_is_text : (bs : List ℕ) → is_word bs ≡ true → IsUtf8 bs
word_is_text bs h = IsUtf8-from_ascii bs (spelling_is_ascii bs (and_parts _ _ h).1)
