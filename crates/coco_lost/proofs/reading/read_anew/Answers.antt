use Rattle.std.proofs.Common.{◌≡◌, ◌<◌, Err, length, ap, arith}
use Rattle.std.proofs.lemmas.Result.{err_from_is_err_and}
use Rattle.coco_read.specs.declared.fault.OpenFault.TheVariants.{NotAStore}
use Rattle.coco_lost.proofs.ReadingLemmas.{anew_of, counted_of, is_of_read}
use Rattle.coco_lost.proofs.reading.read_anew.Goals as goal

-- ---- a refused file

pub returns-in_err-from-clause-here : goal.returns-in_err-from-clause-here
returns-in_err-from-clause-here g c file at is =
    let p = err_from_is_err_and c.from_residual.result c.from_residual.ensures.1 in
    let same : c.in_err-from.field-0.0 ≡ NotAStore file at = cc (p.1, p.2, is) in
    c.in_err-from.ensures.here file at (ap Err same)

pub returns-in_err-from-clause-refused : goal.returns-in_err-from-clause-refused
returns-in_err-from-clause-refused g c file at files s commits is told layout tree epochs =
    let p = err_from_is_err_and c.from_residual.result c.from_residual.ensures.1 in
    let same : c.in_err-from.field-0.0 ≡ NotAStore file at = cc (p.1, p.2, is) in
    c.in_err-from.ensures.refused file at files (ap Err same) told s commits layout tree epochs

pub returns-in_err-from-clause-kept : goal.returns-in_err-from-clause-kept
returns-in_err-from-clause-kept g c file at files d told holds known is =
    let p = err_from_is_err_and c.from_residual.result c.from_residual.ensures.1 in
    let same : c.in_err-from.field-0.0 ≡ NotAStore file at = cc (p.1, p.2, is) in
    c.in_err-from.ensures.kept file at files d told holds known (ap Err same)

-- ---- what was read

pub put_tables-requires-clause-from : goal.put_tables-requires-clause-from
put_tables-requires-clause-from g c =
    let from = c.in_ok-from.from in
    let read = c.in_ok-from.ensures.tables in
    counted_of c.args.tables.now.layout read.0 from.shards.items from.copies.items read.1

pub returns-clause-anew : goal.returns-clause-anew
returns-clause-anew g c =
    let from = c.in_ok-from.from in
    let read = c.in_ok-from.ensures in
    let did = c.put_tables.ensures in
    anew_of c.args.node c.args.voter.now c.args.tables.now c.in_ok-from.log c.put_tables.new.tables read.tables.0 from.shards.items from.copies.items read.tables.1 did.layout did.whole did.taken did.others did.behind read.log

pub returns-clause-files : goal.returns-clause-files
returns-clause-files g c files d told good known =
    let from = c.in_ok-from.from in
    let read = c.in_ok-from.ensures.ok files d told good known in
    let did = c.put_tables.ensures in
    let marked : c.args.node < length c.args.tables.now.behind.items = omega (arith, c.requires.node, c.requires.marks) in
    is_of_read d c.args.node c.args.tables.now _ c.put_tables.new.tables from.shards.items from.copies.items did.layout did.behind marked did.taken read.0 read.1
