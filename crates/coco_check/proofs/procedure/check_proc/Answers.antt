use Rattle.std.proofs.Common.{rules, ◌≡◌, [], Ok}
use Rattle.coco_check.specs.Search.{adding}
use Rattle.coco_check.proofs.NameSets.{own_names}
use Rattle.coco_check.proofs.procedure.check_proc.Goals as goal

pub check_body-requires-clause-own : goal.check_body-requires-clause-own
check_body-requires-clause-own c =
    let params = c.args.proc.now.params in
    let made : adding [] 0 params ≡ Ok c.add_all.new.set.keys = search rules in
    own_names params c.add_all.new.set.keys made
