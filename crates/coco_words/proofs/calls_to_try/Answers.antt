use Rattle.std.proofs.Common.{◌≡◌, ℕ, List, [], ◌∷◌, Option, MatchOption, codes, sym, subst}
use Rattle.clap.specs.Words.{first_value, found_of}
use Rattle.coco_words.specs.Commands.{Agree, kind_of, numbers_of, options_for, run_options, wanted}
use Rattle.coco_words.specs.Options.{AreInRange, AreNumbersOf}
use Rattle.coco_words.specs.declared.Command.{Command}
use Rattle.coco_words.specs.declared.Kind.TheVariants.{Try}
use Rattle.coco_words.proofs.NumberLemmas.{none_behind}
use Rattle.coco_words.proofs.calls_to_try.Goals as goal

pub returns-in_err-options : goal.returns-in_err-options
returns-in_err-options c =
    let values = first_value (found_of c.args.matches.now) in
    subst (λ (r : Option Command). MatchOption r ((numbers : List (Option ℕ)) → AreNumbersOf values (options_for Try) numbers → Agree Try numbers → ⊥)
    (λ command. (kind_of command ≡ Try) × AreNumbersOf values (options_for Try) (numbers_of command) × AreInRange (options_for Try) (numbers_of command) × Agree Try (numbers_of command)))
    (sym c.from_residual-in_err-options.ensures)
    (λ numbers are agree. none_behind values (wanted (codes "calls") 1 1000000 ∷ wanted (codes "seed") 0 8796093022207 ∷ []) run_options numbers c.in_err-options.ensures are)
