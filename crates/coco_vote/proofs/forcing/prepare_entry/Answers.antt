use Rattle.std.proofs.Common.{◌≡◌, Bool, true, List, refl, subst, sym}
use Rattle.std.proofs.lemmas.Result.{err_from_is_err_and}
use Rattle.coco_entry.specs.Rows.{prepared_bytes}
use Rattle.coco_entry.specs.declared.prepared.Row.{Row}
use Rattle.coco_append.specs.LastWrites.{AreLastWrites}
use Rattle.coco_world.specs.World.{put}
use Rattle.coco_vote.specs.Preparing.{prepared_of, Ballot}
use Rattle.coco_vote.proofs.PreparingLemmas.{log_still, may_still, stays_in_file, votes_failed, votes_gained, votes_none, votes_succeeded}
use Rattle.coco_vote.proofs.KeepingLemmas.{writes_none}
use Rattle.coco_vote.proofs.forcing.prepare_entry.Goals as goal

pub returns-in_err-rows-clause-files : goal.returns-in_err-rows-clause-files
returns-in_err-rows-clause-files g c k hold has n same may node log not rests =
    let b : Ballot = record { epoch = c.args.epoch; pieces = c.args.pieces.now; held = hold } in
    let p = err_from_is_err_and c.from_residual.result c.from_residual.ensures.1 in
    votes_none g.H.Host k b c.from_residual.result p.0 p.1 g.met.H.Host.only_now has (put has n true) c.args.host.now rests

pub returns-in_err-add_prepared-clause-files : goal.returns-in_err-add_prepared-clause-files
returns-in_err-add_prepared-clause-files g c k hold has n same may node log not rests =
    let b : Ballot = record { epoch = c.args.epoch; pieces = c.args.pieces.now; held = hold } in
    let rows : List Row = c.as_slice.result.now in
    let here : AreLastWrites c.args.held.now c.args.pieces.now rows = subst (AreLastWrites c.args.held.now c.args.pieces.now) (sym c.as_slice.ensures.value) c.in_ok-rows.ensures.rows in
    let last : AreLastWrites (hold n) c.args.pieces.now rows = subst (λ (h : List Bool). AreLastWrites h c.args.pieces.now rows) (sym same) here in
    let p = err_from_is_err_and c.from_residual-in_err-add_prepared.result c.from_residual-in_err-add_prepared.ensures.1 in
    votes_failed g.H.Host k b c.add_prepared.result c.from_residual-in_err-add_prepared.result p.0 p.1 (put has n true)
    c.args.host.now c.add_prepared.new.host
    (votes_gained g.H.Host k b c.add_prepared.result has rests.contents rests.voted n rows not last c.args.host.now c.add_prepared.new.host c.add_prepared.ensures.said
    (c.add_prepared.ensures.gains rests.contents n rests.rests (log_still k b has rests.contents rests.voted n c.args.log.now log)
    (λ is. may_still k b has rests.contents rests.voted n (prepared_of c.args.epoch rows) not (may n node rows last is))))

pub returns-clause-files : goal.returns-clause-files
returns-clause-files g c k hold has n same may node log not rests =
    let b : Ballot = record { epoch = c.args.epoch; pieces = c.args.pieces.now; held = hold } in
    let rows : List Row = c.as_slice.result.now in
    let here : AreLastWrites c.args.held.now c.args.pieces.now rows = subst (AreLastWrites c.args.held.now c.args.pieces.now) (sym c.as_slice.ensures.value) c.in_ok-rows.ensures.rows in
    let last : AreLastWrites (hold n) c.args.pieces.now rows = subst (λ (h : List Bool). AreLastWrites h c.args.pieces.now rows) (sym same) here in
    votes_succeeded g.H.Host k b c.add_prepared.result _ tt c.in_ok-add_prepared.was refl (put has n true)
    c.args.host.now c.add_prepared.new.host
    (votes_gained g.H.Host k b c.add_prepared.result has rests.contents rests.voted n rows not last c.args.host.now c.add_prepared.new.host c.add_prepared.ensures.said
    (c.add_prepared.ensures.gains rests.contents n rests.rests (log_still k b has rests.contents rests.voted n c.args.log.now log)
    (λ is. may_still k b has rests.contents rests.voted n (prepared_of c.args.epoch rows) not (may n node rows last is))))

pub returns-clause-entry : goal.returns-clause-entry
returns-clause-entry g c = record {
  rows = c.as_slice.result.now;
  last = subst (AreLastWrites c.args.held.now c.args.pieces.now) (sym c.as_slice.ensures.value) c.in_ok-rows.ensures.rows;
  added = c.in_ok-add_prepared.ensures.log;
}

pub returns-in_err-rows-clause-rest : goal.returns-in_err-rows-clause-rest
returns-in_err-rows-clause-rest g c = writes_none c.args.log.now c.args.log.now c.args.host.now refl

pub returns-in_err-add_prepared-clause-rest : goal.returns-in_err-add_prepared-clause-rest
returns-in_err-add_prepared-clause-rest g c =
    let place = stays_in_file c.add_prepared.result c.args.log.now c.add_prepared.new.log (prepared_bytes (prepared_of c.args.epoch c.as_slice.result.now)) (c.add_prepared.new.host ≡ c.args.host.now) c.add_prepared.ensures.log c.add_prepared.ensures.err in
    record {
      file = place.0;
      kind = place.1;
      others = c.add_prepared.ensures.others;
      read = c.add_prepared.ensures.files;
      crash = c.add_prepared.ensures.crash;
      said = c.add_prepared.ensures.said;
      stream = c.add_prepared.ensures.stream;
    }

pub returns-clause-rest : goal.returns-clause-rest
returns-clause-rest g c =
    let place = stays_in_file c.add_prepared.result c.args.log.now c.add_prepared.new.log (prepared_bytes (prepared_of c.args.epoch c.as_slice.result.now)) (c.add_prepared.new.host ≡ c.args.host.now) c.add_prepared.ensures.log c.add_prepared.ensures.err in
    record {
      file = place.0;
      kind = place.1;
      others = c.add_prepared.ensures.others;
      read = c.add_prepared.ensures.files;
      crash = c.add_prepared.ensures.crash;
      said = c.add_prepared.ensures.said;
      stream = c.add_prepared.ensures.stream;
    }
