use Rattle.std.proofs.Common.{◌≡◌, ℕ, List, [], ◌++◌, arith, length, ap, subst, sym, ◌∙◌}
use Rattle.std.specs.List.{Contains}
use Rattle.std.proofs.lemmas.List.Elements.{Contains-append_left, Contains-append_right}
use Rattle.std.proofs.lemmas.Result.{err_from_is_err_and}
use Rattle.coco_chief.specs.Shown.{chief_of}
use Rattle.coco_chief.specs.Table.{to_each}
use Rattle.coco_msg.specs.declared.message.Message.TheVariants.{Prepare}
use Rattle.coco_net.specs.declared.letter.Posted.{Posted}
use Rattle.coco_letters.specs.Saying.{posts_of}
use Rattle.coco_letters.proofs.TellingLemmas.{adds_then, adds_vote}
use Rattle.coco_vote.specs.Counting.{prepare_of, HasCounted, IsAye}
use Rattle.coco_vote.specs.Outcomes.{Comes}
use Rattle.coco_vote.specs.Preparing.{have_durable, Ballot, RestsVoted}
use Rattle.coco_vote.proofs.BeginningLemmas.{asks_each, begun_then, counted_begun, rests_new, told_new, voting_new}
use Rattle.coco_vote.proofs.CountingLemmas.{told_still}
use Rattle.coco_vote.proofs.GivingLemmas.{since_both}
use Rattle.coco_vote.proofs.PreparingLemmas.{keeps_same, none_ok}
use Rattle.coco_vote.proofs.TakingLemmas.{fresh_has}
use Rattle.coco_letters.proofs.SendingLemmas.{sends_fresh}
use Rattle.coco_vote.proofs.KeepingLemmas.{rest_sends, rest_then}
use Rattle.coco_vote.proofs.phase.prepare.Goals as goal

pub exchanges-requires-clause-nodes : goal.exchanges-requires-clause-nodes
exchanges-requires-clause-nodes g c =
    let same : (chief_of c.chief_begins.new.chief).nodes ≡ length c.args.cores.now = omega (arith, c.chief_begins.ensures.nodes, c.requires.nodes) in same

pub exchanges-requires-clause-voting : goal.exchanges-requires-clause-voting
exchanges-requires-clause-voting g c =
    voting_new c.args.epoch c.args.cores.now c.requires.new

pub exchanges-requires-clause-told : goal.exchanges-requires-clause-told
exchanges-requires-clause-told g c =
    told_still c.args.epoch c.args.cores.now (g.N.Net.sent c.args.net.now) (g.N.Net.sent c.chief_begins.new.net) (g.P.Power.asked c.args.power.now) c.in_ok-chief_begins.ensures.says (told_new c.args.epoch c.args.cores.now (g.N.Net.sent c.args.net.now) (g.P.Power.asked c.args.power.now) c.requires.some c.requires.new c.requires.unsaid)

pub exchanges-requires-clause-counted : goal.exchanges-requires-clause-counted
exchanges-requires-clause-counted g c =
    subst (HasCounted c.args.epoch (IsAye c.args.epoch [])) (sym c.in_ok-chief_begins.ensures.turns.chief_is) (counted_begun c.args.epoch (chief_of c.args.chief.now) (omega (arith, c.requires.some_node, c.requires.nodes)))

pub exchanges-requires-clause-asked : goal.exchanges-requires-clause-asked
exchanges-requires-clause-asked g c =
    λ n less. fresh_has (g.N.Net.sent c.args.net.now) (g.N.Net.fresh c.args.net.now) (g.N.Net.sent c.chief_begins.new.net) (g.N.Net.fresh c.chief_begins.new.net) (posts_of 8 (to_each (chief_of c.args.chief.now).nodes (Prepare c.args.epoch))) (prepare_of n c.args.epoch) c.in_ok-chief_begins.ensures.sends.fresh c.in_ok-chief_begins.ensures.turns.sent_is (asks_each (chief_of c.args.chief.now).nodes n c.args.epoch (omega (arith, less, c.requires.nodes)))

pub exchanges-requires-clause-sent : goal.exchanges-requires-clause-sent
exchanges-requires-clause-sent g c =
    λ n less. (subst (λ (ps : List Posted). Contains ps (prepare_of n c.args.epoch)) (sym c.in_ok-chief_begins.ensures.turns.sent_is) (Contains-append_right (g.N.Net.sent c.args.net.now) (posts_of 8 (to_each (chief_of c.args.chief.now).nodes (Prepare c.args.epoch))) (prepare_of n c.args.epoch) (asks_each (chief_of c.args.chief.now).nodes n c.args.epoch (omega (arith, less, c.requires.nodes)))))

pub returns-in_err-chief_begins-clause-files : goal.returns-in_err-chief_begins-clause-files
returns-in_err-chief_begins-clause-files g c k hold held may nodes logs rests =
    let b : Ballot = record { epoch = c.args.epoch; pieces = c.args.pieces.now; held = hold } in
    let p = err_from_is_err_and c.from_residual.result c.from_residual.ensures.1 in
    record {
      keeps = keeps_same g.H.Host k b g.met.H.Host.only_now (have_durable c.args.epoch c.args.cores.now) c.args.host.now (rests_new k b c.args.cores.now (g.H.Host.reads c.args.host.now) (g.H.Host.may_leave c.args.host.now) c.requires.some c.requires.new rests);
      ok = none_ok c.from_residual.result p.0 (RestsVoted k b (have_durable c.args.epoch c.args.cores.now) (g.H.Host.reads c.args.host.now) (g.H.Host.may_leave c.args.host.now)) p.1;
    }

pub returns-in_err-votes-clause-nodes : goal.returns-in_err-votes-clause-nodes
returns-in_err-votes-clause-nodes g c =
    c.exchanges.ensures.nodes ∙ c.chief_begins.ensures.nodes

pub returns-in_err-votes-clause-files : goal.returns-in_err-votes-clause-files
returns-in_err-votes-clause-files g c k hold held may nodes logs rests =
    let b : Ballot = record { epoch = c.args.epoch; pieces = c.args.pieces.now; held = hold } in
    let p = err_from_is_err_and c.from_residual-in_err-votes.result c.from_residual-in_err-votes.ensures.1 in
    record {
      keeps = (c.exchanges.ensures.files k hold held may nodes logs (rests_new k b c.args.cores.now (g.H.Host.reads c.args.host.now) (g.H.Host.may_leave c.args.host.now) c.requires.some c.requires.new rests)).keeps;
      ok = none_ok c.from_residual-in_err-votes.result p.0 (RestsVoted k b (have_durable c.args.epoch c.exchanges.new.cores) (g.H.Host.reads c.exchanges.new.host) (g.H.Host.may_leave c.exchanges.new.host)) p.1;
    }

pub returns-clause-answer : goal.returns-clause-answer
returns-clause-answer g c =
    λ given is. subst (λ (x : ℕ). Comes c.in_ok-votes.votes c.args.epoch c.exchanges.new.cores (chief_of c.exchanges.new.chief) given x (g.N.Net.faults c.exchanges.new.net) (g.P.Power.early_stops c.args.power.now) (g.P.Power.early_stops c.exchanges.new.power)) c.chief_begins.ensures.sends.counts.faults_stay (c.in_ok-votes.ensures.answer given (is ∙ ap (λ (ps : List Posted). ps ++ given) (sym c.chief_begins.ensures.sends.counts.given_stays)))

pub returns-clause-asked : goal.returns-clause-asked
returns-clause-asked g c =
    λ posts is n less.
    let more = c.in_ok-votes.ensures.says in
    subst (λ (ps : List Posted). Contains ps (prepare_of n c.args.epoch)) (sym (since_both (g.N.Net.sent c.args.net.now) (g.N.Net.sent c.chief_begins.new.net) (g.N.Net.sent c.exchanges.new.net) (posts_of 8 (to_each (chief_of c.args.chief.now).nodes (Prepare c.args.epoch))) more.posts posts c.in_ok-chief_begins.ensures.turns.sent_is more.sent_is is))
    (Contains-append_left (posts_of 8 (to_each (chief_of c.args.chief.now).nodes (Prepare c.args.epoch))) more.posts (prepare_of n c.args.epoch) (asks_each (chief_of c.args.chief.now).nodes n c.args.epoch (omega (arith, less, c.requires.nodes))))

pub returns-clause-were_sent : goal.returns-clause-were_sent
returns-clause-were_sent g c given p is among =
    c.in_ok-votes.ensures.were_sent given p (is ∙ ap (λ (ps : List Posted). ps ++ given) (sym c.chief_begins.ensures.sends.counts.given_stays)) among

pub returns-clause-nodes : goal.returns-clause-nodes
returns-clause-nodes g c =
    c.exchanges.ensures.nodes ∙ c.chief_begins.ensures.nodes

pub returns-clause-says : goal.returns-clause-says
returns-clause-says g c =
    adds_then (g.N.Net.sent c.args.net.now) (g.N.Net.sent c.chief_begins.new.net) (g.N.Net.sent c.exchanges.new.net)
    (adds_vote c.args.epoch (g.N.Net.sent c.args.net.now) (g.N.Net.sent c.chief_begins.new.net) c.in_ok-chief_begins.ensures.says) c.in_ok-votes.ensures.says

pub returns-clause-files : goal.returns-clause-files
returns-clause-files g c k hold held may nodes logs rests =
    let b : Ballot = record { epoch = c.args.epoch; pieces = c.args.pieces.now; held = hold } in
    c.in_ok-votes.ensures.files k hold held may nodes logs (rests_new k b c.args.cores.now (g.H.Host.reads c.args.host.now) (g.H.Host.may_leave c.args.host.now) c.requires.some c.requires.new rests)

pub returns-clause-world : goal.returns-clause-world
returns-clause-world g c =
    begun_then (g.P.Power.stopped c.args.power.now) (g.P.Power.stopped c.exchanges.new.power) c.args.epoch (record { cores = c.args.cores.now; chief = chief_of c.args.chief.now; sent = (g.N.Net.sent c.args.net.now) }) (record { cores = c.args.cores.now; chief = chief_of c.chief_begins.new.chief; sent = (g.N.Net.sent c.chief_begins.new.net) }) (record { cores = c.exchanges.new.cores; chief = chief_of c.exchanges.new.chief; sent = (g.N.Net.sent c.exchanges.new.net) })
    (c.in_ok-chief_begins.ensures.world c.args.cores.now) c.in_ok-votes.ensures.world

pub returns-in_err-chief_begins-clause-rest : goal.returns-in_err-chief_begins-clause-rest
returns-in_err-chief_begins-clause-rest g c =
    rest_sends c.args.voters.now c.args.host.now c.args.net.now c.chief_begins.new.net c.args.power.now (sends_fresh (g.N.Net.sent c.args.net.now) (g.N.Net.fresh c.args.net.now) (g.N.Net.sent c.chief_begins.new.net) (g.N.Net.fresh c.chief_begins.new.net) c.chief_begins.ensures.sends.fresh) c.chief_begins.ensures.sends.counts

pub returns-in_err-votes-clause-rest : goal.returns-in_err-votes-clause-rest
returns-in_err-votes-clause-rest g c =
    rest_then (rest_sends c.args.voters.now c.args.host.now c.args.net.now c.chief_begins.new.net c.args.power.now (sends_fresh (g.N.Net.sent c.args.net.now) (g.N.Net.fresh c.args.net.now) (g.N.Net.sent c.chief_begins.new.net) (g.N.Net.fresh c.chief_begins.new.net) c.chief_begins.ensures.sends.fresh) c.chief_begins.ensures.sends.counts) c.exchanges.ensures.rest

pub returns-clause-rest : goal.returns-clause-rest
returns-clause-rest g c =
    rest_then (rest_sends c.args.voters.now c.args.host.now c.args.net.now c.chief_begins.new.net c.args.power.now (sends_fresh (g.N.Net.sent c.args.net.now) (g.N.Net.fresh c.args.net.now) (g.N.Net.sent c.chief_begins.new.net) (g.N.Net.fresh c.chief_begins.new.net) c.chief_begins.ensures.sends.fresh) c.chief_begins.ensures.sends.counts) c.exchanges.ensures.rest
