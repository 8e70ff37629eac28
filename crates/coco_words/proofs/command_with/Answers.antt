use Rattle.std.proofs.Common.{◌≡◌, ℕ, List, Option, MatchOption, sym, subst}
use Rattle.clap.specs.Words.{first_value, found_of}
use Rattle.std.specs.Prelude.{⊤}
use Rattle.coco_words.specs.Commands.{Agree, kind_of, numbers_of, options_for, run_options}
use Rattle.coco_words.specs.Options.{AreInRange, AreNumbersOf}
use Rattle.coco_words.specs.declared.Command.{Command}
use Rattle.coco_words.specs.declared.Kind.{Kind}
use Rattle.coco_words.specs.declared.Kind.TheVariants as kind
use Rattle.coco_words.proofs.command_with.Goals as goal

pub returns-in-Init : goal.returns-in-Init
returns-in-Init c =
    subst (λ (k : Kind). MatchOption c.store_to_make.result ((numbers : List (Option ℕ)) → AreNumbersOf (first_value (found_of c.args.matches.now)) (options_for k) numbers → Agree k numbers → ⊥)
    (λ command. (kind_of command ≡ k) × AreNumbersOf (first_value (found_of c.args.matches.now)) (options_for k) (numbers_of command) × AreInRange (options_for k) (numbers_of command) × Agree k (numbers_of command)))
    (sym c.in-Init.is) c.store_to_make.ensures

pub returns-in-Query : goal.returns-in-Query
returns-in-Query c =
    subst (λ (k : Kind). MatchOption c.epoch_to_ask.result ((numbers : List (Option ℕ)) → AreNumbersOf (first_value (found_of c.args.matches.now)) (options_for k) numbers → Agree k numbers → ⊥)
    (λ command. (kind_of command ≡ k) × AreNumbersOf (first_value (found_of c.args.matches.now)) (options_for k) (numbers_of command) × AreInRange (options_for k) (numbers_of command) × Agree k (numbers_of command)))
    (sym c.in-Query.is) c.epoch_to_ask.ensures

pub returns-in-Try : goal.returns-in-Try
returns-in-Try c =
    subst (λ (k : Kind). MatchOption c.calls_to_try.result ((numbers : List (Option ℕ)) → AreNumbersOf (first_value (found_of c.args.matches.now)) (options_for k) numbers → Agree k numbers → ⊥)
    (λ command. (kind_of command ≡ k) × AreNumbersOf (first_value (found_of c.args.matches.now)) (options_for k) (numbers_of command) × AreInRange (options_for k) (numbers_of command) × Agree k (numbers_of command)))
    (sym c.in-Try.is) c.calls_to_try.ensures

pub returns-in_err-run_options-in-Run : goal.returns-in_err-run_options-in-Run
returns-in_err-run_options-in-Run c =
    let values = first_value (found_of c.args.matches.now) in
    subst (λ (k : Kind). MatchOption c.from_residual.result ((numbers : List (Option ℕ)) → AreNumbersOf values (options_for k) numbers → Agree k numbers → ⊥)
    (λ command. (kind_of command ≡ k) × AreNumbersOf values (options_for k) (numbers_of command) × AreInRange (options_for k) (numbers_of command) × Agree k (numbers_of command)))
    (sym c.in-Run.is)
    (subst (λ (r : Option Command). MatchOption r ((numbers : List (Option ℕ)) → AreNumbersOf values run_options numbers → ⊤ → ⊥)
    (λ command. (kind_of command ≡ kind.Run) × AreNumbersOf values run_options (numbers_of command) × AreInRange run_options (numbers_of command) × ⊤)) (sym c.from_residual.ensures)
    (λ numbers are agree. c.in_err-run_options-in-Run.ensures numbers are))
