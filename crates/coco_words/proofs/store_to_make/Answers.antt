use Rattle.std.proofs.Common.{◌≡◌, ℕ, List, [], ◌∷◌, Option, MatchOption, codes, sym, subst}
use Rattle.clap.specs.Words.{first_value, found_of}
use Rattle.coco_types.specs.Limits.{most_copies, most_nodes, most_partitions}
use Rattle.coco_words.specs.Commands.{Agree, kind_of, numbers_of, optional, options_for}
use Rattle.coco_words.specs.Options.{AreInRange, AreNumbersOf}
use Rattle.coco_words.specs.declared.Command.{Command}
use Rattle.coco_words.specs.declared.Kind.TheVariants.{Init}
use Rattle.coco_words.proofs.NumberLemmas.{no_numbers}
use Rattle.coco_words.proofs.store_to_make.Goals as goal

pub returns-in_err-partitions : goal.returns-in_err-partitions
returns-in_err-partitions c =
    let values = first_value (found_of c.args.matches.now) in
    subst (λ (r : Option Command). MatchOption r ((numbers : List (Option ℕ)) → AreNumbersOf values (options_for Init) numbers → Agree Init numbers → ⊥)
    (λ command. (kind_of command ≡ Init) × AreNumbersOf values (options_for Init) (numbers_of command) × AreInRange (options_for Init) (numbers_of command) × Agree Init (numbers_of command)))
    (sym c.from_residual-in_err-partitions.ensures)
    (λ numbers are agree. no_numbers values (optional (codes "nodes") 1 1 most_nodes ∷ []) (optional (codes "partitions") 1 1 most_partitions) (optional (codes "copies") 0 0 most_copies ∷ []) numbers
    c.in_err-partitions.ensures.number are)
