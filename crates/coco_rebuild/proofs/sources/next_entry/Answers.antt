use Rattle.std.proofs.Common.{◌≡◌, map, Bool, true, false, Result, Ok, Err, ◌∙◌, sym, subst, arith}
use Rattle.coco_entry.specs.Rows.{prepared_bytes}
use Rattle.coco_log.specs.Reading.{IsNext}
use Rattle.coco_log.specs.declared.fault.LogFault.{LogFault}
use Rattle.coco_read.specs.declared.fault.OpenFault.{OpenFault}
use Rattle.coco_rebuild.specs.Sources.{GoesOnTo}
use Rattle.coco_rebuild.proofs.Reading.{after_next, fails, goes_on_to, none_left}
use Rattle.coco_rebuild.proofs.sources.next_entry.Goals as goal

pub returns-in-Ok-true-clause-next : goal.returns-in-Ok-true-clause-next
returns-in-Ok-true-clause-next g c all done rest files told are is reading =
    let old = c.args.entries.now in
    let new = c.next.new.self in
    let file = files c.args.file in
    let next = after_next old new c.args.file files (map prepared_bytes done) c.next.result c.requires.in_file reading (c.next.ensures.next files (map prepared_bytes done) told) in
    let got : c.next.result ≡ Ok true = grind arith in
    goes_on_to all done rest file are is new c.read_entry.result (c.next.ensures.of.of_kind ∙ c.requires.of_kind)
    (subst (λ (r : Result Bool LogFault). IsNext r old new (map prepared_bytes done) file) got next) c.read_entry.ensures.reads

pub returns-in-Ok-false-clause-next : goal.returns-in-Ok-false-clause-next
returns-in-Ok-false-clause-next g c all done rest files told are is reading =
    let old = c.args.entries.now in
    let new = c.next.new.self in
    let file = files c.args.file in
    let next = after_next old new c.args.file files (map prepared_bytes done) c.next.result c.requires.in_file reading (c.next.ensures.next files (map prepared_bytes done) told) in
    let got : c.next.result ≡ Ok false = grind arith in
    let ended : IsNext (Ok false) old new (map prepared_bytes done) file = subst (λ (r : Result Bool LogFault). IsNext r old new (map prepared_bytes done) file) got next in
    subst (λ (f : OpenFault). GoesOnTo (Err f) new done rest file) (sym c.lost.ensures) (none_left all done rest file are is new (c.next.ensures.of.of_kind ∙ c.requires.of_kind) ended.1)

pub returns-in-Err-clause-next : goal.returns-in-Err-clause-next
returns-in-Err-clause-next g c all done rest files told are is reading =
    let old = c.args.entries.now in
    let new = c.next.new.self in
    let file = files c.args.file in
    let next = after_next old new c.args.file files (map prepared_bytes done) c.next.result c.requires.in_file reading (c.next.ensures.next files (map prepared_bytes done) told) in
    subst (λ (f : OpenFault). GoesOnTo (Err f) new done rest file) (sym c.fault_in.ensures)
    (fails all done rest file are is old new c.args.file c.in-Err.fault c.requires.of_kind (subst (λ (r : Result Bool LogFault). IsNext r old new (map prepared_bytes done) file) c.in-Err.is next))
