use Rattle.std.proofs.Common.{rules, ◌≡◌}
use Rattle.std.proofs.lemmas.Str.{IsUtf8-string_bytes}
use Rattle.std.specs.String.{string_bytes}
use Rattle.coco_ast.specs.Views.{procedures_of}
use Rattle.coco_print.specs.Printed.{printed}
use Rattle.coco_print.proofs.Files.{reads_back}
use Rattle.coco_print.proofs.Sources.{tree_source}
use Rattle.coco_print.proofs.procedures.print.Goals as goal

pub returns-clause-reads_back : goal.returns-clause-reads_back
returns-clause-reads_back c h =
    let e : string_bytes c.push_procs.new.out ≡ printed (procedures_of c.args.procs.now) = search rules in
    reads_back (string_bytes c.push_procs.new.out) (procedures_of c.args.procs.now) e (IsUtf8-string_bytes c.push_procs.new.out) (tree_source (procedures_of c.args.procs.now) h)
