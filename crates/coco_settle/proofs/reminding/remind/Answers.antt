use Rattle.coco_vote.proofs.LetterLemmas.{letters_same}
use Rattle.coco_settle.proofs.reminding.remind.Goals as goal

pub returns-then-have_all_finished-clause-letters : goal.returns-then-have_all_finished-clause-letters
returns-then-have_all_finished-clause-letters g c = letters_same c.args.net.now
