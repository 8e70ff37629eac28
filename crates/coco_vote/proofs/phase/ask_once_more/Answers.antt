use Rattle.std.proofs.Common.{◌<◌, ◌^◌, [], ◌∷◌, arith, refl, sym, ◌∙◌}
use Rattle.coco_chief.specs.Table.{has_voted}
use Rattle.coco_chief.specs.Shown.{chief_of}
use Rattle.coco_msg.specs.declared.message.Message.TheVariants.{Prepare}
use Rattle.coco_world.proofs.Tools.{not_both}
use Rattle.coco_letters.proofs.HearingLemmas.{fresh_by, fresh_none}
use Rattle.coco_letters.proofs.TellingLemmas.{adds_one, adds_same, of_chief}
use Rattle.coco_letters.proofs.WorldLemmas.{nothing_goes}
use Rattle.coco_vote.specs.Counting.{prepare_of}
use Rattle.coco_vote.proofs.CountingLemmas.{fresh_new}
use Rattle.coco_letters.proofs.SendingLemmas.{fresh_same}
use Rattle.coco_vote.proofs.phase.ask_once_more.Goals as goal

pub returns-then-has_voted-clause-asked : goal.returns-then-has_voted-clause-asked
returns-then-has_voted-clause-asked g c = λ missing. absurd (not_both (has_voted c.args.node (chief_of c.args.chief.now)) (sym c.has_voted.ensures ∙ c.if-has_voted.true) missing)

pub returns-then-has_voted-clause-says : goal.returns-then-has_voted-clause-says
returns-then-has_voted-clause-says g c = adds_same (g.N.Net.sent c.args.net.now)

pub returns-then-has_voted-clause-world : goal.returns-then-has_voted-clause-world
returns-then-has_voted-clause-world g c cores core = nothing_goes (record { cores = cores; chief = core; sent = g.N.Net.sent c.args.net.now })

pub returns-then-has_voted-clause-fresh : goal.returns-then-has_voted-clause-fresh
returns-then-has_voted-clause-fresh g c = fresh_none (g.N.Net.sent c.args.net.now) (g.N.Net.fresh c.args.net.now)

pub returns-clause-asked : goal.returns-clause-asked
returns-clause-asked g c = λ _. fresh_new (g.N.Net.fresh c.args.net.now) (g.N.Net.fresh c.resend.new.net) (prepare_of c.args.node c.args.epoch) c.in_ok-resend.ensures.fresh

pub returns-clause-says : goal.returns-clause-says
returns-clause-says g c =
    let fits : c.args.epoch < 2 ^ 64 = omega (arith, c.ranges.epoch.fits) in
    adds_one (g.N.Net.sent c.args.net.now) (g.N.Net.sent c.resend.new.net) (prepare_of c.args.node c.args.epoch) c.in_ok-resend.ensures.sent (of_chief c.args.node (Prepare c.args.epoch) c.requires.node (record { is = fits; commit = refl }))

pub returns-clause-fresh : goal.returns-clause-fresh
returns-clause-fresh g c = fresh_by (g.N.Net.sent c.args.net.now) (g.N.Net.fresh c.args.net.now) (g.N.Net.sent c.resend.new.net) (g.N.Net.fresh c.resend.new.net) (prepare_of c.args.node c.args.epoch ∷ []) c.in_ok-resend.ensures.sent c.in_ok-resend.ensures.fresh

pub returns-in_err-resend-clause-fresh : goal.returns-in_err-resend-clause-fresh
returns-in_err-resend-clause-fresh g c = fresh_same (g.N.Net.sent c.args.net.now) (g.N.Net.fresh c.args.net.now) (g.N.Net.sent c.resend.new.net) (g.N.Net.fresh c.resend.new.net) c.in_err-resend.ensures.err.0 c.in_err-resend.ensures.err.1
