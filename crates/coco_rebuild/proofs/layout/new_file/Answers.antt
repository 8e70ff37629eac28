use Rattle.std.proofs.Common.{None, length, ap, ◌∙◌, arith}
use Rattle.coco_make.proofs.FreeLemmas.{length-free_files}
use Rattle.coco_store.specs.Entries.{files_of}
use Rattle.coco_rebuild.proofs.layout.new_file.Goals as goal

pub remove-requires : goal.remove-requires
remove-requires c =
    (let one = ap length c.in_ok-files.ensures ∙ length-free_files (files_of (record { layout = c.args.layout.now; keep = None; base_file = c.args.base_file })) 1 in
    let small = c.in_ok-files.files.small in omega (arith, one))
