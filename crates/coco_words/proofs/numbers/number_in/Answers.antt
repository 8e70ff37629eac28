use Rattle.std.proofs.Common.{rules, ◌≡◌, true, arith}
use Rattle.std.specs.Char.{is_ascii_digit}
use Rattle.std.specs.List.{list_all}
use Rattle.std.specs.Str.Parse.{digits_value}
use Rattle.std.proofs.lemmas.Str.Parse.{IsNumeralModel, numerals_by_value, parse_digits}
use Rattle.coco_words.proofs.numbers.number_in.Goals as goal

own : IsNumeralModel (λ ds. list_all is_ascii_digit ds ≡ true) (digits_value 10)
own = numerals_by_value (λ ds. list_all is_ascii_digit ds ≡ true) (search rules)

pub returns-in-Err : goal.returns-in-Err
returns-in-Err c = λ n is.
    let refused = rw c.in-Err.is at (parse_digits own 64 c.args.text.now c.parse.result c.parse.ensures.value.0 is.digits) in
    let below = is.below in
    let value = is.value in
    refused (is.some, omega arith)
