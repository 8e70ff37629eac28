use Rattle.std.proofs.Common.{◌≡◌, ◌<◌, ◌≤◌, ◌^◌, ℕ, List, ap, arith, subst, sym, ◌∙◌}
use Rattle.std.specs.List.{Contains}
use Rattle.coco_chief.specs.Chief.{Chief}
use Rattle.coco_chief.specs.Shown.{chief_of}
use Rattle.coco_chief.specs.Table.{is_voting, to_each}
use Rattle.coco_chief.specs.declared.machine.Phase.{Phase}
use Rattle.coco_chief.specs.declared.machine.Phase.TheVariants.{Rest}
use Rattle.coco_msg.specs.declared.message.Message.TheVariants.{Abort}
use Rattle.coco_net.specs.declared.letter.Posted.{Posted}
use Rattle.coco_letters.specs.Saying.{posted, posts_of}
use Rattle.coco_letters.specs.Turns.{AreSent}
use Rattle.coco_letters.specs.Worlds.{GoesOn}
use Rattle.coco_letters.proofs.TellingLemmas.{adds_none, adds_then}
use Rattle.coco_letters.proofs.WorldLemmas.{goes_on_then}
use Rattle.coco_vote.proofs.BeginningLemmas.{tells_each}
use Rattle.coco_vote.proofs.EndingLemmas.{aborted_from}
use Rattle.coco_vote.proofs.GivingLemmas.{fresh_given, given_waits, gives_round}
use Rattle.coco_vote.proofs.TakingLemmas.{fresh_has}
use Rattle.coco_vote.proofs.LetterLemmas.{letters_round, letters_sent, letters_then}
use Rattle.coco_vote.proofs.giving_up.give_up.Goals as goal

pub all_take_end-requires-clause-sent : goal.all_take_end-requires-clause-sent
all_take_end-requires-clause-sent g c =
    (subst (λ (ps : List Posted). AreSent ps (g.N.Net.waiting c.round.new.self)) (sym c.round.ensures.sent) (c.waiting_letters_were_sent.ensures.round (g.N.Net.sent c.chief_aborts.new.net) (g.N.Net.fresh c.chief_aborts.new.net) (g.N.Net.faults c.chief_aborts.new.net) (g.N.Net.faults c.round.new.self) (g.N.Net.waiting c.round.new.self) (g.N.Net.given c.chief_aborts.new.net) (g.N.Net.given c.round.new.self) c.in_ok-round.ensures.ok))

pub returns-in_err-chief_aborts-clause-letters : goal.returns-in_err-chief_aborts-clause-letters
returns-in_err-chief_aborts-clause-letters g c =
    letters_sent c.chief_aborts.ensures.sends.fresh c.chief_aborts.ensures.sends.counts

pub returns-in_err-round-clause-letters : goal.returns-in_err-round-clause-letters
returns-in_err-round-clause-letters g c =
    letters_then (letters_sent c.chief_aborts.ensures.sends.fresh c.chief_aborts.ensures.sends.counts) (letters_round c.round.result c.round.ensures.sent c.round.ensures.ok c.round.ensures.faults c.round.ensures.err c.round.ensures.seed)

pub returns-in_err-all_take_end-clause-letters : goal.returns-in_err-all_take_end-clause-letters
returns-in_err-all_take_end-clause-letters g c =
    letters_then (letters_then (letters_sent c.chief_aborts.ensures.sends.fresh c.chief_aborts.ensures.sends.counts) (letters_round c.round.result c.round.ensures.sent c.round.ensures.ok c.round.ensures.faults c.round.ensures.err c.round.ensures.seed)) (letters_sent c.all_take_end.ensures.fresh c.all_take_end.ensures.counts)

pub returns-in_err-collect-clause-nodes : goal.returns-in_err-collect-clause-nodes
returns-in_err-collect-clause-nodes g c =
    c.collect.ensures.nodes ∙ c.chief_aborts.ensures.nodes

pub returns-in_err-collect-clause-letters : goal.returns-in_err-collect-clause-letters
returns-in_err-collect-clause-letters g c =
    letters_then (letters_then (letters_then (letters_sent c.chief_aborts.ensures.sends.fresh c.chief_aborts.ensures.sends.counts) (letters_round c.round.result c.round.ensures.sent c.round.ensures.ok c.round.ensures.faults c.round.ensures.err c.round.ensures.seed)) (letters_sent c.all_take_end.ensures.fresh c.all_take_end.ensures.counts)) c.collect.ensures.letters

pub returns-clause-rest : goal.returns-clause-rest
returns-clause-rest g c =
    let still : (chief_of c.chief_aborts.new.chief).phase ≡ Rest = ap (λ (x : Chief). x.phase) c.in_ok-chief_aborts.ensures.turns.chief_is in
    let rests = c.in_ok-collect.ensures.rests (ap (λ (p : Phase). is_voting p) still) in
    rests.0 ∙ still

pub returns-clause-current : goal.returns-clause-current
returns-clause-current g c =
    let still : (chief_of c.chief_aborts.new.chief).phase ≡ Rest = ap (λ (x : Chief). x.phase) c.in_ok-chief_aborts.ensures.turns.chief_is in
    let rests = c.in_ok-collect.ensures.rests (ap (λ (p : Phase). is_voting p) still) in
    rests.1 ∙ ap (λ (x : Chief). x.current) c.in_ok-chief_aborts.ensures.turns.chief_is ∙ c.requires.current

pub returns-clause-nodes : goal.returns-clause-nodes
returns-clause-nodes g c =
    c.collect.ensures.nodes ∙ c.chief_aborts.ensures.nodes

pub returns-clause-told : goal.returns-clause-told
returns-clause-told g c =
    λ same n less.
    let gives = c.in_ok-round.ensures.ok in
    let fits : c.args.epoch < 2 ^ 64 = omega (arith, c.ranges.epoch.fits) in
    let risen = c.collect.ensures.letters.gives.faults_rise in
    let stays : (g.N.Net.faults c.round.new.self) ≡ (g.N.Net.faults c.chief_aborts.new.net) = omega (arith, (gives_round c.round.result (g.N.Net.sent c.chief_aborts.new.net) (g.N.Net.fresh c.chief_aborts.new.net) (g.N.Net.waiting c.round.new.self) (g.N.Net.given c.chief_aborts.new.net) (g.N.Net.faults c.chief_aborts.new.net) (g.N.Net.last_seed c.chief_aborts.new.net) (g.N.Net.given c.round.new.self) (g.N.Net.faults c.round.new.self) (g.N.Net.last_seed c.round.new.self) (g.N.Net.fresh c.round.new.self) c.round.ensures.ok c.round.ensures.faults c.round.ensures.err c.round.ensures.seed).faults_rise, risen, c.all_take_end.ensures.counts.faults_stay, c.chief_aborts.ensures.sends.counts.faults_stay, same) in
    let le : n ≤ 8 = omega (arith, less, c.requires.few) in
    let told : Contains (posts_of 8 (to_each (chief_of c.args.chief.now).nodes (Abort (chief_of c.args.chief.now).current))) (posted 8 n (Abort c.args.epoch)) = subst (λ (e : ℕ). Contains (posts_of 8 (to_each (chief_of c.args.chief.now).nodes (Abort (chief_of c.args.chief.now).current))) (posted 8 n (Abort e))) c.requires.current (tells_each (chief_of c.args.chief.now).nodes n (Abort (chief_of c.args.chief.now).current) (omega (arith, less, c.requires.nodes))) in
    let fresh : Contains (g.N.Net.fresh c.chief_aborts.new.net) (posted 8 n (Abort c.args.epoch)) = fresh_has (g.N.Net.sent c.args.net.now) (g.N.Net.fresh c.args.net.now) (g.N.Net.sent c.chief_aborts.new.net) (g.N.Net.fresh c.chief_aborts.new.net) (posts_of 8 (to_each (chief_of c.args.chief.now).nodes (Abort (chief_of c.args.chief.now).current))) (posted 8 n (Abort c.args.epoch)) c.in_ok-chief_aborts.ensures.sends.fresh c.in_ok-chief_aborts.ensures.turns.sent_is told in
    let given : Contains gives.0 (posted 8 n (Abort c.args.epoch)) = fresh_given (g.N.Net.sent c.chief_aborts.new.net) (g.N.Net.fresh c.chief_aborts.new.net) (g.N.Net.faults c.chief_aborts.new.net) (g.N.Net.faults c.round.new.self) (g.N.Net.waiting c.round.new.self) gives.0 (posted 8 n (Abort c.args.epoch)) gives.2 stays fresh in
    c.in_ok-all_take_end.ensures.told n (posted 8 n (Abort c.args.epoch)).letter less (given_waits (g.N.Net.sent c.chief_aborts.new.net) (g.N.Net.fresh c.chief_aborts.new.net) (g.N.Net.faults c.chief_aborts.new.net) (g.N.Net.faults c.round.new.self) (g.N.Net.waiting c.round.new.self) gives.0 gives.2 n le (posted 8 n (Abort c.args.epoch)).letter given) (aborted_from n c.args.epoch fits)

pub returns-clause-said : goal.returns-clause-said
returns-clause-said g c =
    adds_then (g.N.Net.sent c.args.net.now) (g.N.Net.sent c.all_take_end.new.net) (g.N.Net.sent c.collect.new.net)
    (adds_then (g.N.Net.sent c.args.net.now) (g.N.Net.sent c.chief_aborts.new.net) (g.N.Net.sent c.all_take_end.new.net) c.in_ok-chief_aborts.ensures.says
    (adds_none (g.N.Net.sent c.chief_aborts.new.net) (g.N.Net.sent c.all_take_end.new.net) (c.in_ok-all_take_end.ensures.silent ∙ c.round.ensures.sent)))
    c.in_ok-collect.ensures.says

pub returns-clause-world : goal.returns-clause-world
returns-clause-world g c =
    goes_on_then (record { cores = c.args.cores.now; chief = chief_of c.args.chief.now; sent = (g.N.Net.sent c.args.net.now) }) (record { cores = c.all_take_end.new.cores; chief = chief_of c.chief_aborts.new.chief; sent = (g.N.Net.sent c.all_take_end.new.net) }) (record { cores = c.all_take_end.new.cores; chief = chief_of c.collect.new.chief; sent = (g.N.Net.sent c.collect.new.net) })
    (goes_on_then (record { cores = c.args.cores.now; chief = chief_of c.args.chief.now; sent = (g.N.Net.sent c.args.net.now) }) (record { cores = c.args.cores.now; chief = chief_of c.chief_aborts.new.chief; sent = (g.N.Net.sent c.chief_aborts.new.net) }) (record { cores = c.all_take_end.new.cores; chief = chief_of c.chief_aborts.new.chief; sent = (g.N.Net.sent c.all_take_end.new.net) }) (c.in_ok-chief_aborts.ensures.world c.args.cores.now)
    (subst (λ (ps : List Posted). GoesOn (record { cores = c.args.cores.now; chief = chief_of c.chief_aborts.new.chief; sent = ps }) (record { cores = c.all_take_end.new.cores; chief = chief_of c.chief_aborts.new.chief; sent = (g.N.Net.sent c.all_take_end.new.net) })) c.round.ensures.sent (c.in_ok-all_take_end.ensures.world (chief_of c.chief_aborts.new.chief))))
    (c.in_ok-collect.ensures.world c.all_take_end.new.cores)

pub returns-clause-letters : goal.returns-clause-letters
returns-clause-letters g c =
    letters_then (letters_then (letters_then (letters_sent c.chief_aborts.ensures.sends.fresh c.chief_aborts.ensures.sends.counts) (letters_round c.round.result c.round.ensures.sent c.round.ensures.ok c.round.ensures.faults c.round.ensures.err c.round.ensures.seed)) (letters_sent c.all_take_end.ensures.fresh c.all_take_end.ensures.counts)) c.collect.ensures.letters
