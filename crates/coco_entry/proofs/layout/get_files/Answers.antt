use Rattle.std.proofs.Common.{sym, ◌∙◌, ◌∷◌, [], append_assoc}
use Rattle.std.proofs.lemmas.List.{append-nil}
use Rattle.std.proofs.lemmas.Result.{err_from_is_err_and}
use Rattle.coco_entry.specs.Layouts.{files_at}
use Rattle.coco_entry.proofs.FilesLoop.{files_begin, files_go_on, files_end, files_fail}
use Rattle.coco_entry.proofs.layout.get_files.Goals as goal

pub returns-in_err-file-clause-read : goal.returns-in_err-file-clause-read
returns-in_err-file-clause-read c =
    let p = err_from_is_err_and c.from_residual.result c.from_residual.ensures.1 in
    rw (p.1, p.2) (files_fail c.loop.named c.loop.files c.args.count c.loop.counter c.args.from.now c.loop.end (files_at c.args.named.now c.args.count c.args.from.now c.args.at) c.in_err-file.field-0.0 c.loop-test.true (rw c.as_slice.ensures at c.in_err-file.ensures.read) c.loop.invariant.so_far)

pub returns-clause-read : goal.returns-clause-read
returns-clause-read c = sym c.loop.invariant.so_far ∙ files_end c.loop.named c.loop.files c.args.count c.loop.counter c.args.from.now c.loop.end c.loop-test.false

pub loop-init : goal.loop-init
loop-init c = record {
  so_far = files_begin c.args.named.now c.new-files.result c.args.count c.args.from.now c.args.at c.new-files.ensures;
  named = rw c.new-files.ensures (sym (append-nil c.args.named.now));
  within = c.requires;
}

pub loop-preserved : goal.loop-preserved
loop-preserved c = record {
  so_far = rw (c.in_ok-push.ensures.ok, c.in_ok-push-2.ensures.ok) (files_go_on c.loop.named c.loop.files c.args.count c.loop.counter c.args.from.now c.loop.end c.in_ok-file.file c.in_ok-file.after c.loop-test.true (sym (rw c.as_slice.ensures at c.in_ok-file.ensures.read)) ∙ c.loop.invariant.so_far);
  named = rw (c.in_ok-push.ensures.ok, c.in_ok-push-2.ensures.ok, c.loop.invariant.named) (append_assoc c.args.named.now c.loop.files (c.in_ok-file.file ∷ []));
  within = c.in_ok-file.ensures.within;
}
