use Rattle.std.proofs.Common.{◌≡◌, ◌-◌, ◌++◌, List, ℕ, take, drop, length, sym, ap, ◌∙◌, subst}
use Rattle.std.specs.FinMap.{empty}
use Rattle.std.proofs.lemmas.List.{length-map}
use Rattle.coco_ast.specs.Keyed.{Rows}
use Rattle.coco_copy.specs.CopyState.{CopyState, begun}
use Rattle.coco_desks.proofs.DeskLemmas.{written_back}
use Rattle.coco_order.specs.Execution.{Journal, Transcript, concat}
use Rattle.coco_order.specs.Outcome.{AreOnce}
use Rattle.coco_tail.specs.SerialEpoch.{IsSerialEpoch}
use Rattle.coco_tail.specs.Shards.{HoldMap, KeepStable, SettleOn}
use Rattle.coco_shard.specs.RowState.{ShardState, stable_at}
use Rattle.coco_parallel.specs.Ends.{IsEnd, MayBeginTail, MayRunTail}
use Rattle.coco_parallel.specs.Epochs.{IsWorkedEpoch, execution_with, started_with}
use Rattle.coco_parallel.specs.Tails.{tail_from}
use Rattle.coco_parallel.specs.Traces.{Traced}
use Rattle.coco_parallel.specs.Worked.{HaveCommits, start_of}
use Rattle.coco_parallel.proofs.TraceLemmas.{none_behind, whole_commits, whole_trace}
use Rattle.coco_parallel.proofs.WholeLemmas.{as_many_transcripts, copies_back, may_begin, may_run, shards_back, whole_epoch}
use Rattle.coco_parallel.proofs.epoch.run_epoch.Given as given
use Rattle.coco_parallel.proofs.epoch.run_epoch.Goals as goal
use Rattle.coco_parallel.proofs.epoch.run_epoch.Goals.{After-ends_are_serial, After-end_epoch, In-Ok}

-- what the workers left behind which the tail begins
may_start : (g : given.Over) (c : After-ends_are_serial g) → MayBeginTail c.args.shards.items c.in_ok-shards.field-0.shards.items c.in_ok-shards.field-0.transcripts.items
may_start g c =
    may_begin c.args.copies.items c.in_ok-shards.field-0 c.in_ok-shards.ensures.worked c.requires.some c.requires.fit c.requires.partitions c.requires.settled c.requires.distinct c.requires.few (assumption c.well_formed) c.ends_are_serial.ensures.begins

pub end_epoch-requires-clause-once : goal.end_epoch-requires-clause-once
end_epoch-requires-clause-once g c = subst (λ (ts : List Transcript). AreOnce (concat ts)) (sym c.deref.ensures.value) (may_start g (goal.at.end_epoch-requires-clause-once g c).After-ends_are_serial).once

pub end_epoch-requires-clause-shards : goal.end_epoch-requires-clause-shards
end_epoch-requires-clause-shards g c =
    subst MayRunTail (sym c.as_mut_slice.ensures.value)
    (may_run c.args.copies.items c.in_ok-shards.field-0 c.in_ok-shards.ensures.worked c.requires.some c.requires.fit c.requires.partitions c.requires.settled c.requires.distinct c.requires.few (assumption c.well_formed) c.ends_are_serial.ensures.begins c.requires.most)

-- ---- out of memory

-- the shards as they are back behind the tail
back_at : (g : given.Over) (c : After-end_epoch g) → take c.in_ok-shards.field-0.shards.len (c.end_epoch.new.shards ++ drop (length c.end_epoch.new.shards) c.in_ok-shards.field-0.shards.items) ≡ c.end_epoch.new.shards
back_at g c =
    let w = c.in_ok-shards.field-0 in
    written_back w.shards.len c.end_epoch.new.shards (drop (length c.end_epoch.new.shards) w.shards.items) (w.shards.ok.0 ∙ sym (c.end_epoch.ensures.kept.count ∙ ap length c.as_mut_slice.ensures.value))

kept : (g : given.Over) (c : After-end_epoch g) → KeepStable c.in_ok-shards.field-0.shards.items c.end_epoch.new.shards
kept g c = subst (λ ms. KeepStable ms c.end_epoch.new.shards) c.as_mut_slice.ensures.value c.end_epoch.ensures.kept

taken_so : (g : given.Over) (c : After-end_epoch g) (back : List ShardState)
    → SettleOn stable_at (take c.in_ok-shards.field-0.shards.len (c.end_epoch.new.shards ++ drop (length c.end_epoch.new.shards) c.in_ok-shards.field-0.shards.items)) back → back ≡ c.args.shards.items
taken_so g c back settle =
    shards_back c.args.copies.items c.in_ok-shards.field-0 c.in_ok-shards.ensures.worked c.requires.some c.requires.fit c.requires.partitions c.requires.settled c.requires.distinct c.requires.few (assumption c.well_formed) c.ends_are_serial.ensures.begins
    c.end_epoch.new.shards back (kept g c) (subst (λ ss. SettleOn stable_at ss back) (back_at g c) settle)

pub returns-in_default-clause-shards : goal.returns-in_default-clause-shards
returns-in_default-clause-shards g c = taken_so g (goal.at.returns-in_default-clause-shards g c).After-end_epoch c.taken_back.result.shards.items c.taken_back.ensures.shards

pub returns-in_default-clause-copies : goal.returns-in_default-clause-copies
returns-in_default-clause-copies g c = c.taken_back.ensures.copies ∙ copies_back c.args.copies.items c.in_ok-shards.field-0 c.in_ok-shards.ensures.worked

pub returns-in_default-add_idle-clause-shards : goal.returns-in_default-add_idle-clause-shards
returns-in_default-add_idle-clause-shards g c = taken_so g (goal.at.returns-in_default-add_idle-clause-shards g c).After-end_epoch c.taken_back-in_default-add_idle.result.shards.items c.taken_back-in_default-add_idle.ensures.shards

pub returns-in_default-add_idle-clause-copies : goal.returns-in_default-add_idle-clause-copies
returns-in_default-add_idle-clause-copies g c = c.taken_back-in_default-add_idle.ensures.copies ∙ copies_back c.args.copies.items c.in_ok-shards.field-0 c.in_ok-shards.ensures.worked

-- ---- on Ok

-- the workers with the tail behind them
whole : (g : given.Over) (c : In-Ok g) (m : Rows) → HoldMap m c.args.shards.items
    → IsWorkedEpoch (started_with c.args.procs.now m c.args.requests.now c.args.shards.items c.args.config) c.args.config.epoch c.in_ok-shards.field-0.journals.items c.in_ok-shards.field-0.transcripts.items c.end_epoch.new.shards c.in-Ok.dones c.in-Ok.pieces
whole g c =
    let w = c.in_ok-shards.field-0 in
    let value = c.as_mut_slice.ensures.value in
    let after = c.end_epoch.new.shards in
    whole_epoch c.args.copies.items w c.in_ok-shards.ensures.worked c.requires.some c.requires.fit c.requires.partitions c.requires.settled c.requires.distinct c.requires.few (assumption c.well_formed) c.ends_are_serial.ensures.serial
    after c.in-Ok.dones c.in-Ok.pieces (subst (λ ms. KeepStable ms after) value c.end_epoch.ensures.kept)
    (λ (opening : Rows) (journals : List Journal).
    subst (λ ms. IsEnd (started_with c.args.procs.now opening c.args.requests.now ms c.args.config) c.args.config.epoch (execution_with journals w.transcripts.items) w.pieces.items ms after c.in-Ok.dones c.in-Ok.pieces) value
    (subst (λ ts. IsEnd (started_with c.args.procs.now opening c.args.requests.now c.as_mut_slice.result.now c.args.config) c.args.config.epoch (execution_with journals ts) w.pieces.items c.as_mut_slice.result.now after c.in-Ok.dones c.in-Ok.pieces) c.deref.ensures.value
    (c.in-Ok.ensures.end opening journals)))

pub returns-clause-serial : goal.returns-clause-serial
returns-clause-serial g c = λ m holds.
    let at = goal.at.returns-clause-serial g c in
    subst (λ ss. IsSerialEpoch c.args.procs.now c.args.requests.now c.args.config.epoch m ss c.in-Ok.dones c.in-Ok.pieces) (sym (back_at g at.After-end_epoch)) (whole g at.In-Ok m holds).serial

pub returns-clause-trace : goal.returns-clause-trace
returns-clause-trace g c = λ m holds.
    let w = c.in_ok-shards.field-0 in
    let all = whole g (goal.at.returns-clause-trace g c).In-Ok m holds in
    let t : Traced = record { journals = w.journals.items; transcripts = c.add_idle.new.transcripts.items; tail = c.in-Ok.tail } in
    let tail = subst (λ (ts : List Transcript). c.in-Ok.tail ≡ tail_from (execution_with w.journals.items ts) 0 c.args.requests.now) c.deref.ensures.value (c.in-Ok.ensures.tail w.journals.items) in
    whole_trace (started_with c.args.procs.now m c.args.requests.now c.args.shards.items c.args.config) c.args.config.workers c.args.config.epoch c.in-Ok.dones t w.transcripts.items c.requires.allowed c.in-Ok-add_idle.ensures
    c.idle_workers_fit.ensures c.tails_are_left.ensures all.execution all.outcome tail c.requires.few (assumption c.well_formed)

pub returns-clause-idle : goal.returns-clause-idle
returns-clause-idle g c =
    let w = c.in_ok-shards.field-0 in
    none_behind w.transcripts.items c.add_idle.new.transcripts.items c.args.config.started (c.args.config.workers - c.args.config.started) c.in-Ok-add_idle.ensures
    (as_many_transcripts c.args.copies.items w c.in_ok-shards.ensures.worked)

pub returns-clause-count : goal.returns-clause-count
returns-clause-count g c =
    let at = goal.at.returns-clause-count g c in
    ap length (back_at g at.After-end_epoch) ∙ (kept g at.After-end_epoch).count ∙ (may_start g at.After-ends_are_serial).kept.count

pub returns-clause-commits : goal.returns-clause-commits
returns-clause-commits g c = λ m.
    let w = c.in_ok-shards.field-0 in
    let s = start_of c.args.procs.now m c.args.requests.now c.args.shards.items c.args.config (g.N.Net.carries c.args.net.now) in
    whole_commits s c.args.config.started c.args.config.workers (length c.args.copies.items) w.copy_journals.items w.transcripts.items c.add_idle.new.transcripts.items
    (subst (λ (n : ℕ). HaveCommits s c.args.config.started n w.copy_journals.items w.transcripts.items) (length-map c.args.copies.items (λ (t : CopyState). begun c.args.config.epoch t.stable)) (c.in_ok-shards.ensures.worked m).commits)
    (as_many_transcripts c.args.copies.items w c.in_ok-shards.ensures.worked) c.requires.allowed c.in-Ok-add_idle.ensures

pub returns-clause-replayed : goal.returns-clause-replayed
returns-clause-replayed g c = let w = c.in_ok-shards.ensures.worked empty in record { count = w.copies_are; each = λ table lt. (w.copied table lt).replays }
