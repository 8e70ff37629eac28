use Rattle.std.proofs.Common.{Option, Some, refl, ap, subst, ◌∙◌}
use Rattle.std.specs.Option.{IsSome}
use Rattle.coco_ast.specs.Keyed.{write_at}
use Rattle.coco_types.specs.declared.value.Value.{Value}
use Rattle.coco_serial.specs.Applied.{rows_of}
use Rattle.coco_serial.proofs.RowLemmas.{hash_put}
use Rattle.coco_serial.proofs.call_on_map.replace.Goals as goal

pub returns-in-Some-clause-replaced : goal.returns-in-Some-clause-replaced
returns-in-Some-clause-replaced c =
    let updates = (c.get_mut.follows.holds c.store.new.place).3 (subst (λ (o : Option Value). IsSome o) c.in-Some.ensures.value refl) in
    λ _. hash_put c.args.rows.now.entries (c.get_mut.follows.lender c.store.new.place).entries c.args.key c.store.new.place updates.0
    ∙ ap (λ (v : Value). write_at (rows_of c.args.rows.now) c.args.key (Some v)) c.store.ensures
