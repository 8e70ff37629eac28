use Rattle.std.proofs.Common.{rules, ap, sym, subst, ◌∙◌, arith}
use Rattle.std.proofs.lemmas.Grind.{common_steps}
use Rattle.coco_ast.specs.Meaning.{Variables, bound}
use Rattle.coco_eval.specs.Slots.{AreAlike, names_in}
use Rattle.coco_eval.proofs.SlotLemmas.{alike_bound, names_paired}
use Rattle.coco_eval.proofs.room.prepare.Goals as goal

pub returns-clause-ok : goal.returns-clause-ok
returns-clause-ok c p of many = record {
  alike = subst (λ (vs : Variables). AreAlike (bound p.params c.args.args.now) vs) (sym c.in_ok-begin.ensures) (alike_bound c.args.plan.now.names p.params c.args.args.now of.params many);
  named = ap names_in c.in_ok-begin.ensures ∙ names_paired c.args.plan.now.names c.args.args.now;
  given = search rules;
  writes = search rules;
  path = search rules;
  given_room = search rules;
  writes_room = search rules;
  path_room = grind (arith, common_steps, of.deep);
  spare_room = grind (arith, common_steps, of.deep);
}
