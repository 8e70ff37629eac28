use Rattle.coco_letters.proofs.WorldLemmas.{reached_on}
use Rattle.coco_cluster.proofs.laws.turns_are_steps_of_the_agreement.Goals as goal

pub returns-clause-steps : goal.returns-clause-steps
returns-clause-steps c stopped stopped_new next next_new commits before after steps w is above reached =
    let one = steps w is above in
    (one.after, one.is, one.made.above, reached_on stopped stopped_new w one.after reached one.goes)

pub returns-clause-entries : goal.returns-clause-entries
returns-clause-entries c d e stopped stopped_new next next_new commits before after steps w is above reached entries =
    let one = steps w is above entries in
    (one.after, one.is, one.made.reaches.above, reached_on stopped stopped_new w one.after reached one.goes, one.made.entries)
