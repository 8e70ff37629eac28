use Rattle.coco_bytes.specs.Fields.{u64_bytes}
use Rattle.coco_bytes.specs.Values.{key_bytes, value_bytes}
use Rattle.coco_entry.proofs.FitLemmas.{three_put}
use Rattle.coco_entry.proofs.prepared.put_row.Goals as goal

pub returns-clause-ok : goal.returns-clause-ok
returns-clause-ok c =
    let r = c.args.row.now in
    three_put c.args.out.now.items (key_bytes r.key) (u64_bytes r.time) (value_bytes r.value) c.put_key.new.out.items c.put_u64.new.out.items c.put_any.new.out.items c.in_ok-put_key.ensures.ok c.in_ok-put_u64.ensures.ok c.in_ok-put_any.ensures.ok
