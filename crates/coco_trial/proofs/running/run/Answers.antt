use Rattle.std.proofs.Common.{[], length, refl}
use Rattle.coco_members.specs.AtRest.{primaries_of}
use Rattle.coco_parallel.specs.Traces.{traced}
use Rattle.coco_work.specs.Pacing.{told}
use Rattle.coco_trial.specs.Running.{ring_of, start_on}
use Rattle.coco_trial.proofs.TableLemmas.{as_many, begun_so, has_run, keeps_run, keeps_same, may_work, ring_is, same_copied}
use Rattle.coco_trial.proofs.running.run.Goals as goal

pub run-requires-clause-may : goal.run-requires-clause-may
run-requires-clause-may g c _ _ = may_work c.args.procs.now c.args.requests.items c.args.config c.args.tables.now c.tables_at_rest.ensures.shards c.requires.may

pub run-requires-clause-tables : goal.run-requires-clause-tables
run-requires-clause-tables g c _ _ = as_many c.args.procs.now c.args.requests.items c.args.config c.args.tables.now c.requires.may

pub returns-in_err-ran-clause-keep : goal.returns-in_err-ran-clause-keep
returns-in_err-ran-clause-keep g c m have =
    let t = c.args.tables.now in
    keeps_same t.layout m t.shards.items c.run.new.shards.items t.copies.items c.run.new.copies.items (c.tables_at_rest.ensures.keep t.layout m t.shards.items t.copies.items have) c.run.ensures.count
    (begun_so c.args.config.epoch t.copies.items c.run.new.copies.items c.in_err-ran.ensures.copies) c.in_err-ran.ensures.err

pub returns-clause-ran : goal.returns-clause-ran
returns-clause-ran g c m have =
    let t = c.args.tables.now in
    has_run c.args.procs.now c.args.requests.items c.args.config t (g.N.Net.carries c.args.net.now) m c.run.new.shards.items c.in_ok-ran.ran.dones c.in_ok-ran.ran.pieces (traced c.in_ok-ran.ran.trace) c.requires.may.distinct c.run.ensures.count
    (c.in_ok-ran.ensures.worked m (c.tables_at_rest.ensures.shards (primaries_of t.layout) m t.shards.items [] have))

pub returns-clause-keep : goal.returns-clause-keep
returns-clause-keep g c m have =
    let t = c.args.tables.now in
    let ran = c.in_ok-ran.ran in
    let copied = c.in_ok-ran.ensures.early m in
    keeps_run t.layout m t.shards.items c.run.new.shards.items t.copies.items c.run.new.copies.items (c.tables_at_rest.ensures.keep t.layout m t.shards.items t.copies.items have) c.run.ensures.count
    (same_copied (start_on c.args.procs.now m c.args.requests.items t (told c.args.room.now.pace c.args.config (length c.args.requests.items)) (g.N.Net.carries c.args.net.now)) t.copies.items c.run.new.copies.items copied.0 (traced ran.trace) copied.1)
    c.args.procs.now c.args.requests.items c.args.config.epoch ran.dones ran.pieces (c.in_ok-ran.ensures.worked m (c.tables_at_rest.ensures.shards t.layout m t.shards.items t.copies.items have)).serial

pub returns-clause-shippable : goal.returns-clause-shippable
returns-clause-shippable g c =
    let t = c.args.tables.now in
    c.in_ok-ran.ensures.shippable (ring_of t.layout) (ring_is c.args.procs.now c.args.requests.items c.args.config t c.requires.may)

pub returns-clause-begun : goal.returns-clause-begun
returns-clause-begun g c =
    let t = c.args.tables.now in
    c.in_ok-ran.ensures.begun (ring_of t.layout) (ring_is c.args.procs.now c.args.requests.items c.args.config t c.requires.may)

pub returns-clause-early : goal.returns-clause-early
returns-clause-early g c m = c.in_ok-ran.ensures.early m

pub returns-in_err-ran-clause-places : goal.returns-in_err-ran-clause-places
returns-in_err-ran-clause-places g c = record { layout = refl; behind = refl }

pub returns-clause-places : goal.returns-clause-places
returns-clause-places g c = record { layout = refl; behind = refl }
