use Rattle.clap.specs.Words.{first_value, found_of}
use Rattle.coco_words.specs.Options.{missing_of}
use Rattle.coco_words.proofs.NumberLemmas.{no_number}
use Rattle.coco_words.proofs.numbers.number_of.Goals as goal

pub returns-in-Err-clause-number : goal.returns-in-Err-clause-number
returns-in-Err-clause-number c =
    no_number c.args.name.now (missing_of c.args.default) c.args.least c.args.most (first_value (found_of c.args.matches.now) c.args.name.now) c.in-Err.ensures.number
