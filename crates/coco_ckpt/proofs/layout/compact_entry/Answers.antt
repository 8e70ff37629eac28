use Rattle.std.proofs.Common.{◌≡◌, ℕ, ◌+◌, List, [], ◌∷◌, length, Some, refl, sym, ap, ◌∙◌, arith}
use Rattle.coco_make.specs.Free.{free_files}
use Rattle.coco_make.proofs.FreeLemmas.{length-free_files}
use Rattle.coco_store.specs.Entries.{files_of}
use Rattle.coco_ckpt.proofs.NewFiles.{first_two, is_layout, made_compact, within_limits}
use Rattle.coco_ckpt.proofs.layout.compact_entry.Goals as goal

pub free_files-requires : goal.free_files-requires
free_files-requires c = (let count = c.requires.is.fields.count in let nodes = c.requires.is.fields.nodes in omega (arith, count, nodes))

pub remove-base-requires : goal.remove-base-requires
remove-base-requires c =
    let old = c.args.old in
    omega (arith, ap length c.in_ok-files.ensures, length-free_files (files_of old) (old.layout.nodes + 2))

pub remove-requires : goal.remove-requires
remove-requires c =
    let old = c.args.old in
    let one = c.remove-base.ensures.len in
    omega (arith, one, ap length c.in_ok-files.ensures, length-free_files (files_of old) (old.layout.nodes + 2))

pub returns-clause-compact : goal.returns-clause-compact
returns-clause-compact c =
    let old = c.args.old in
    let long : length c.in_ok-files.files.items ≡ old.layout.nodes + 2 = ap length c.in_ok-files.ensures ∙ length-free_files (files_of old) (old.layout.nodes + 2) in
    made_compact old c.args.epoch _ _ _ (first_two c.in_ok-files.files.items old.layout.nodes _ _ _ _ long c.remove-base.ensures.value c.remove-base.ensures.items c.remove.ensures.value (c.from_vec.ensures ∙ c.remove.ensures.items) ∙ c.in_ok-files.ensures)

pub returns-clause-is : goal.returns-clause-is
returns-clause-is c =
    let old = c.args.old in
    let long : length c.in_ok-files.files.items ≡ old.layout.nodes + 2 = ap length c.in_ok-files.ensures ∙ length-free_files (files_of old) (old.layout.nodes + 2) in
    is_layout old c.requires.is c.requires.limits _ c.args.epoch c.requires.epoch
    (made_compact old c.args.epoch _ _ _ (first_two c.in_ok-files.files.items old.layout.nodes _ _ _ _ long c.remove-base.ensures.value c.remove-base.ensures.items c.remove.ensures.value (c.from_vec.ensures ∙ c.remove.ensures.items) ∙ c.in_ok-files.ensures))

pub returns-clause-limits : goal.returns-clause-limits
returns-clause-limits c =
    let old = c.args.old in
    let long : length c.in_ok-files.files.items ≡ old.layout.nodes + 2 = ap length c.in_ok-files.ensures ∙ length-free_files (files_of old) (old.layout.nodes + 2) in
    within_limits old c.requires.is c.requires.limits _ c.args.epoch c.requires.epoch
    (made_compact old c.args.epoch _ _ _ (first_two c.in_ok-files.files.items old.layout.nodes _ _ _ _ long c.remove-base.ensures.value c.remove-base.ensures.items c.remove.ensures.value (c.from_vec.ensures ∙ c.remove.ensures.items) ∙ c.in_ok-files.ensures))
