use Rattle.std.proofs.Common.{length, ◌∙◌, arith}
use Rattle.coco_chief.specs.Shown.{chief_of}
use Rattle.coco_finish.proofs.ExchangeLemmas.{ends_so}
use Rattle.coco_vote.proofs.LetterLemmas.{letters_then}
use Rattle.coco_finish.proofs.PhaseLemmas.{finished_then}
use Rattle.coco_finish.proofs.rounds.exchange.Goals as goal

pub answer_round-requires-clause-few : goal.answer_round-requires-clause-few
answer_round-requires-clause-few g c = omega (arith, c.tell_round.ensures.nodes, c.requires.nodes, c.requires.may.few)

pub answer_round-requires-clause-last : goal.answer_round-requires-clause-last
answer_round-requires-clause-last g c = omega (arith, c.in_ok-tell_round.ensures.done.hears.last, c.requires.last, c.ranges.epoch.fits)

pub returns-clause-done : goal.returns-clause-done
returns-clause-done g c =
    let told = c.in_ok-tell_round.ensures.done in
    finished_then told (c.in_ok-answer_round.ensures.done c.args.epoch c.tell_round.new.cores c.tell_round.new.tables (told.hears.last ∙ c.requires.last) told.can)

pub returns-clause-ends : goal.returns-clause-ends
returns-clause-ends g c =
    let told = c.in_ok-tell_round.ensures.done in
    let same = told.hears.last ∙ c.requires.last in
    ends_so c.args.epoch (length c.args.cores.now) (chief_of c.args.chief.now) (chief_of c.tell_round.new.chief) (chief_of c.answer_round.new.chief) (g.N.Net.given c.args.net.now) (g.N.Net.given c.tell_round.new.net)
    (g.N.Net.fresh c.args.net.now) (g.N.Net.fresh c.tell_round.new.net) (g.N.Net.faults c.args.net.now) (g.N.Net.faults c.tell_round.new.net) (g.N.Net.faults c.answer_round.new.net)
    c.requires.nodes c.tell_round.ensures.letters.gives.faults_rise c.answer_round.ensures.letters.gives.faults_rise told.hears (c.in_ok-answer_round.ensures.done c.args.epoch c.tell_round.new.cores c.tell_round.new.tables same told.can).hears.stays c.in_ok-tell_round.ensures.answers (c.in_ok-answer_round.ensures.came c.args.epoch same)
    (c.answer_round.ensures.nodes ∙ c.tell_round.ensures.nodes)

pub returns-in_err-tell_round-clause-letters : goal.returns-in_err-tell_round-clause-letters
returns-in_err-tell_round-clause-letters g c = c.tell_round.ensures.letters

pub returns-in_err-answer_round-clause-letters : goal.returns-in_err-answer_round-clause-letters
returns-in_err-answer_round-clause-letters g c =
    letters_then c.tell_round.ensures.letters c.answer_round.ensures.letters

pub returns-clause-letters : goal.returns-clause-letters
returns-clause-letters g c =
    letters_then c.tell_round.ensures.letters c.answer_round.ensures.letters
