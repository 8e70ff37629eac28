use Rattle.std.proofs.Common.{◌≡◌, inl, inr, ℕ, ◌≤◌, List, ◌∷◌, refl, sym, subst, ◌∙◌, arith}
use Rattle.std.specs.List.{Contains}
use Rattle.coco_letters.specs.Telling.{Adds, IsOfFinish}
use Rattle.coco_letters.specs.Turns.{AreFresh, AreSent, Counts}
use Rattle.coco_letters.specs.Worlds.{GoesOn}
use Rattle.coco_letters.proofs.HearingLemmas.{counts_then, fresh_none}
use Rattle.coco_letters.proofs.TakingLemmas.{fresh_then, sent_more}
use Rattle.coco_letters.proofs.WaitingLemmas.{letter_sent, taken_sent}
use Rattle.coco_net.specs.declared.letter.Letter.{Letter}
use Rattle.coco_net.specs.declared.letter.Posted.{Posted}
use Rattle.coco_finish.specs.Finishing.{finished_of, AreTold, TellsCommitted}
use Rattle.coco_finish.proofs.FinishLemmas.{finish_step}
use Rattle.coco_finish.proofs.HearLemmas.{none_in}
use Rattle.coco_finish.proofs.LoopLemmas.{answered_next, says_by_one}
use Rattle.coco_finish.proofs.PhaseLemmas.{tables_same, tables_then, taken_same, taken_then}
use Rattle.coco_finish.proofs.taking.finish_at.Goals as goal

pub take_committed-requires-clause-whole : goal.take_committed-requires-clause-whole
take_committed-requires-clause-whole g c = c.loop-letter.invariant.keep.whole

pub take_committed-requires-clause-behind : goal.take_committed-requires-clause-behind
take_committed-requires-clause-behind g c = omega (arith, c.loop-letter.invariant.keep.behind, c.requires.behind, c.loop-letter.invariant.count)

pub take_committed-requires-clause-can : goal.take_committed-requires-clause-can
take_committed-requires-clause-can g c = c.loop-letter.invariant.done.can

pub take_committed-requires-clause-sent : goal.take_committed-requires-clause-sent
take_committed-requires-clause-sent g c =
    let within : c.args.node ≤ 8 = omega (arith, c.requires.node, c.requires.few) in
    subst (λ (ps : List Posted). Contains ps (record { to = c.args.node; letter = c.in-Some.letter })) (sym c.next.ensures.sent)
    (letter_sent (g.N.Net.sent c.loop-letter.net) (g.N.Net.waiting c.loop-letter.net) (g.N.Net.waiting c.next.new.self) c.args.node c.in-Some.letter within c.loop-letter.invariant.sent c.in-Some.ensures.first)

pub loop-letter-init : goal.loop-letter-init
loop-letter-init g c = record {
  done = taken_same c.args.epoch c.args.cores.now c.args.tables.now c.args.net.now c.requires.can;
  keep = tables_same c.args.tables.now c.requires.whole;
  count = refl;
  answers = λ q waits. inl waits;
  sent = c.requires.sent;
  others = λ p other. refl;
  fresh = fresh_none (g.N.Net.sent c.args.net.now) (g.N.Net.fresh c.args.net.now);
  counts = record { given_stays = refl; faults_stay = refl; seed_stays = refl };
}

pub loop-letter-preserved : goal.loop-letter-preserved
loop-letter-preserved g c =
    let before = c.loop-letter.invariant in
    let start = c.args in
    let now = c.loop-letter in
    let after = c.take_committed.new in
    let did = c.in_ok-take_committed.ensures in
    let n : ℕ = c.args.node in
    let e : ℕ = c.args.epoch in
    let letter : Letter = c.in-Some.letter in
    let first : g.N.Net.waiting c.loop-letter.net n ≡ letter ∷ g.N.Net.waiting c.next.new.self n = c.in-Some.ensures.first in
    let rest : AreSent (g.N.Net.sent c.loop-letter.net) (g.N.Net.waiting c.next.new.self) =
    taken_sent (g.N.Net.sent c.loop-letter.net) (g.N.Net.waiting c.loop-letter.net) (g.N.Net.waiting c.next.new.self) n c.next.result before.sent c.next.ensures.first c.next.ensures.others in
    let said : AreFresh (g.N.Net.sent c.loop-letter.net) (g.N.Net.fresh c.loop-letter.net) (g.N.Net.sent c.take_committed.new.net) (g.N.Net.fresh c.take_committed.new.net) =
    subst (λ (ps : List Posted). AreFresh (g.N.Net.sent c.loop-letter.net) ps (g.N.Net.sent c.take_committed.new.net) (g.N.Net.fresh c.take_committed.new.net)) c.next.ensures.fresh
    (subst (λ (ps : List Posted). AreFresh ps (g.N.Net.fresh c.next.new.self) (g.N.Net.sent c.take_committed.new.net) (g.N.Net.fresh c.take_committed.new.net)) c.next.ensures.sent did.sends.fresh) in
    let taken : Counts (g.N.Net.given c.loop-letter.net) (g.N.Net.faults c.loop-letter.net) (g.N.Net.last_seed c.loop-letter.net) (g.N.Net.given c.next.new.self) (g.N.Net.faults c.next.new.self) (g.N.Net.last_seed c.next.new.self) =
    record { given_stays = c.next.ensures.given; faults_stay = c.next.ensures.faults; seed_stays = c.next.ensures.seed } in
    record {
      done = taken_then before.done (record {
        finish = finish_step c.in_ok-take_committed.field-0 e n letter now.cores (g.N.Net.sent c.next.new.self) after.cores (g.N.Net.sent after.net) now.tables after.tables
            (omega (arith, c.requires.node, before.count)) (omega (arith, c.requires.node, c.requires.behind, before.keep.behind)) did.heard did.tables;
        can = did.can;
        are_behind = did.are_behind;
        told = λ are told. did.told are (subst (λ (ps : List Posted). AreTold e ps c.loop-letter.tables.behind.items) (sym c.next.ensures.sent) told);
        said = subst (λ (ps : List Posted). Adds (IsOfFinish e) ps (g.N.Net.sent c.take_committed.new.net)) c.next.ensures.sent
            (says_by_one c.in_ok-take_committed.field-0 e n letter now.cores (g.N.Net.sent c.next.new.self) after.cores (g.N.Net.sent after.net) (omega (arith, c.requires.node, c.requires.few)) did.heard);
        world = λ chief. subst (λ (ps : List Posted). GoesOn (record { cores = c.loop-letter.cores; chief = chief; sent = ps }) (record { cores = c.take_committed.new.cores; chief = chief; sent = g.N.Net.sent c.take_committed.new.net })) c.next.ensures.sent (did.world chief);
      });
      keep = tables_then before.keep (record { whole = c.take_committed.ensures.whole; map = c.take_committed.ensures.map; behind = c.take_committed.ensures.behind });
      count = did.count ∙ before.count;
      answers = λ q waits. answered_next (TellsCommitted e) (finished_of n e) q letter (g.N.Net.waiting now.net n) (g.N.Net.waiting after.net n) (g.N.Net.waiting c.next.new.self n)
          (g.N.Net.sent now.net) (g.N.Net.fresh now.net) (g.N.Net.sent after.net) (g.N.Net.fresh after.net) first (c.take_committed.ensures.sends.waiting n) said did.answers (before.answers q waits);
      sent = sent_more (g.N.Net.sent now.net) (g.N.Net.sent after.net) said.posts (g.N.Net.waiting c.next.new.self) (g.N.Net.waiting after.net) said.sent_is c.take_committed.ensures.sends.waiting rest;
      others = λ p other. c.take_committed.ensures.sends.waiting p ∙ c.next.ensures.others p other ∙ before.others p other;
      fresh = fresh_then (g.N.Net.sent start.net.now) (g.N.Net.fresh start.net.now) (g.N.Net.sent now.net) (g.N.Net.fresh now.net) (g.N.Net.sent after.net) (g.N.Net.fresh after.net) before.fresh said;
      counts = counts_then (g.N.Net.given start.net.now) (g.N.Net.faults start.net.now) (g.N.Net.last_seed start.net.now) (g.N.Net.given c.next.new.self) (g.N.Net.faults c.next.new.self) (g.N.Net.last_seed c.next.new.self)
          (g.N.Net.given after.net) (g.N.Net.faults after.net) (g.N.Net.last_seed after.net)
          (counts_then (g.N.Net.given start.net.now) (g.N.Net.faults start.net.now) (g.N.Net.last_seed start.net.now) (g.N.Net.given now.net) (g.N.Net.faults now.net) (g.N.Net.last_seed now.net)
          (g.N.Net.given c.next.new.self) (g.N.Net.faults c.next.new.self) (g.N.Net.last_seed c.next.new.self) before.counts taken)
          c.take_committed.ensures.sends.counts;
    }

pub returns-clause-answers : goal.returns-clause-answers
returns-clause-answers g c = λ l waits tells.
    elim (c.loop-letter.invariant.answers l waits) [
      | inl still ↦ none_in l (subst (λ (ls : List Letter). Contains ls l) c.in_default.ensures.first.0 still)
      | inr had ↦ subst (λ (ps : List Posted). Contains ps (finished_of c.args.node c.args.epoch)) (sym c.next.ensures.fresh) (had tells)
    ]

pub returns-clause-sent : goal.returns-clause-sent
returns-clause-sent g c =
    subst (λ (ps : List Posted). AreSent ps (g.N.Net.waiting c.next.new.self)) (sym c.next.ensures.sent)
    (taken_sent (g.N.Net.sent c.loop-letter.net) (g.N.Net.waiting c.loop-letter.net) (g.N.Net.waiting c.next.new.self) c.args.node c.next.result c.loop-letter.invariant.sent c.next.ensures.first c.next.ensures.others)

pub returns-in_err-take_committed-clause-fresh : goal.returns-in_err-take_committed-clause-fresh
returns-in_err-take_committed-clause-fresh g c =
    fresh_then (g.N.Net.sent c.args.net.now) (g.N.Net.fresh c.args.net.now) (g.N.Net.sent c.loop-letter.net) (g.N.Net.fresh c.loop-letter.net) (g.N.Net.sent c.take_committed.new.net) (g.N.Net.fresh c.take_committed.new.net) (c.loop-letter.invariant.fresh) (subst (λ (ps : List Posted). AreFresh (g.N.Net.sent c.loop-letter.net) ps (g.N.Net.sent c.take_committed.new.net) (g.N.Net.fresh c.take_committed.new.net)) c.next.ensures.fresh
    (subst (λ (ps : List Posted). AreFresh ps (g.N.Net.fresh c.next.new.self) (g.N.Net.sent c.take_committed.new.net) (g.N.Net.fresh c.take_committed.new.net)) c.next.ensures.sent c.take_committed.ensures.sends.fresh))

pub returns-in_err-take_committed-clause-keep : goal.returns-in_err-take_committed-clause-keep
returns-in_err-take_committed-clause-keep g c =
    tables_then c.loop-letter.invariant.keep (record { whole = c.take_committed.ensures.whole; map = c.take_committed.ensures.map; behind = c.take_committed.ensures.behind })

-- taking nothing from an empty room changes no letter
pub returns-clause-done : goal.returns-clause-done
returns-clause-done g c =
    let done = c.loop-letter.invariant.done in
    record {
      finish = done.finish;
      can = done.can;
      are_behind = done.are_behind;
      told = λ are told. subst (λ (ps : List Posted). AreTold c.args.epoch ps c.loop-letter.tables.behind.items) (sym c.next.ensures.sent) (done.told are told);
      said = subst (λ (ps : List Posted). Adds (IsOfFinish c.args.epoch) (g.N.Net.sent c.args.net.now) ps) (sym c.next.ensures.sent) done.said;
      world = λ chief. subst (λ (ps : List Posted). GoesOn (record { cores = c.args.cores.now; chief = chief; sent = g.N.Net.sent c.args.net.now }) (record { cores = c.loop-letter.cores; chief = chief; sent = ps })) (sym c.next.ensures.sent) (done.world chief);
    }
