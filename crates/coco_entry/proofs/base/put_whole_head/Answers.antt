use Rattle.std.proofs.Common.{◌≡◌, List, ℕ, ◌++◌, ap, ◌∙◌, append_assoc}
use Rattle.coco_bytes.specs.Fields.{u8_bytes, u64_bytes}
use Rattle.coco_entry.specs.Bases.{floor_bytes}
use Rattle.coco_entry.proofs.FitLemmas.{four_put}
use Rattle.coco_entry.proofs.base.put_whole_head.Goals as goal

pub returns-clause-ok : goal.returns-clause-ok
returns-clause-ok c =
    let h = c.args.head.now in
    let counts : c.put_u64-3.new.out.items ≡ c.put_floor.new.out.items ++ (u64_bytes h.dones ++ u64_bytes h.rows) =
    c.in_ok-put_u64-3.ensures.ok ∙ ap (λ (z : List ℕ). z ++ u64_bytes h.rows) c.in_ok-put_u64-2.ensures.ok ∙ append_assoc c.put_floor.new.out.items (u64_bytes h.dones) (u64_bytes h.rows) in
    four_put c.args.out.now.items (u8_bytes 4) (u64_bytes h.epoch) (floor_bytes h.floor) (u64_bytes h.dones ++ u64_bytes h.rows)
    c.put_u8.new.out.items c.put_u64.new.out.items c.put_floor.new.out.items c.put_u64-3.new.out.items c.in_ok-put_u8.ensures.ok c.in_ok-put_u64.ensures.ok c.in_ok-put_floor.ensures.ok counts
