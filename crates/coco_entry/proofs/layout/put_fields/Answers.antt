use Rattle.std.proofs.Common.{◌≡◌, ◌++◌}
use Rattle.std.specs.List.{flat_map}
use Rattle.coco_bytes.specs.Fields.{u32_bytes, u64_bytes}
use Rattle.coco_entry.specs.Grammar.{bytes32}
use Rattle.coco_entry.specs.Layouts.{sizes_bytes}
use Rattle.coco_entry.proofs.FitLemmas.{four_put}
use Rattle.coco_entry.proofs.layout.put_fields.Goals as goal

pub returns : goal.returns
returns c =
    let l = c.args.layout.now in
    let files : c.put_files.new.out.items ≡ c.put_sizes.new.out.items ++ flat_map u32_bytes l.node_files = rw c.as_slice.ensures at c.in_ok-put_files.ensures in
    let text : c.put_bytes32.new.out.items ≡ c.put_u64.new.out.items ++ bytes32 l.text = rw c.as_slice-2.ensures at c.in_ok-put_bytes32.ensures in
    four_put c.args.out.now.items (sizes_bytes l.nodes l.partitions l.copies l.chief_file) (flat_map u32_bytes l.node_files) (u64_bytes l.base_epoch) (bytes32 l.text)
    c.put_sizes.new.out.items c.put_files.new.out.items c.put_u64.new.out.items c.put_bytes32.new.out.items c.in_ok-put_sizes.ensures files c.in_ok-put_u64.ensures.ok text
