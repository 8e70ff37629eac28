use Rattle.std.proofs.Common.{rules, ◌≡◌, true, false, refl, ap, sym, subst, None, [], ◌∷◌, ◌++◌, ⊎_elim, ◌∙◌}
use Rattle.std.proofs.lemmas.Bool.{false≢true}
use Rattle.coco_parse.specs.Counting.{Counts, Counted, is_wide}
use Rattle.coco_parse.specs.Limits.{is_name, opens, is_operator, begins_expression}
use Rattle.coco_parse.specs.declared.word.Word.TheVariants.{Proc, Refuse, CloseParen, CloseBrace}
use Rattle.coco_parse.proofs.Counters.{IsBesideProcedure}
use Rattle.coco_parse.proofs.Passing.{wide_from, narrow_from, free_word, range_passed, counted_procedure, counted_expression, number_counted, plain_counted}
use Rattle.coco_parse.proofs.counter.Counter.count.Goals.{else-behind_refuse-via-then-behind_refuse+else-number-gt-MOST_CODE, else-behind_refuse-via-else-behind_refuse}
use Rattle.coco_parse.proofs.counter.Counter.count.Goals as goal

pub returns-in-Name-clause-counts : goal.returns-in-Name-clause-counts
returns-in-Name-clause-counts c ws small h =
    let w = c.args.word.now in
    let n : is_name w ≡ true = ap is_name c.in-Name.is in
    counted_procedure c.name.result c.args.self.now c.name.new.self ws w (search rules) (search rules) (search rules) h (c.name.ensures ws w small n h.procedure)

pub returns-then-number-gt-MOST_CODE-clause-counts : goal.returns-then-number-gt-MOST_CODE-clause-counts
returns-then-number-gt-MOST_CODE-clause-counts c ws small h =
    range_passed c.args.self.now ws c.args.word.now h c.if-behind_refuse.true (wide_from c.args.word.now c.in-Number.number c.in-Number.is c.if-number-gt-MOST_CODE.true)

pub returns-else-behind_refuse-clause-counts : goal.returns-else-behind_refuse-clause-counts
returns-else-behind_refuse-clause-counts c ws small h =
    let s = c.args.self.now in
    let w = c.args.word.now in
    let narrow : s.refuses ≡ true → is_wide w ≡ false =
    elim c.else-behind_refuse.branch [
      | else-behind_refuse-via-then-behind_refuse+else-number-gt-MOST_CODE r ↦ λ t. narrow_from w c.in-Number.number c.in-Number.is r.if-number-gt-MOST_CODE.false
      | else-behind_refuse-via-else-behind_refuse r ↦ λ t. absurd (false≢true (sym r.if-behind_refuse.false ∙ t))
    ] in
    number_counted s ws w c.in-Number.number c.in-Number.is narrow h

pub returns-in-Not-clause-counts : goal.returns-in-Not-clause-counts
returns-in-Not-clause-counts c ws small h =
    let w = c.args.word.now in
    let o : is_operator w ≡ true = ⊎_elim (λ e. ap is_operator e) (λ e. ap is_operator e.1) c.in-Not.is in
    let beside : IsBesideProcedure w = record { proc = search rules; opens = search rules; closes = search rules; list = search rules; name = search rules } in
    counted_expression c.operator.result c.args.self.now c.operator.new.self ws w beside (search rules) h (c.operator.ensures ws w small o h.expression)

pub returns-in-OpenParen-clause-counts : goal.returns-in-OpenParen-clause-counts
returns-in-OpenParen-clause-counts c ws small h =
    let w = c.args.word.now in
    let o : opens w ≡ true = ⊎_elim (λ e. ap opens e) (λ e. ap opens e) c.in-OpenParen.is in
    counted_procedure c.open.result c.args.self.now c.open.new.self ws w (search rules) (search rules) (search rules) h (c.open.ensures ws w small o h.procedure)

pub returns-in-CloseParen-clause-counts : goal.returns-in-CloseParen-clause-counts
returns-in-CloseParen-clause-counts c ws small h =
    let s = c.args.self.now in
    let on = c.close_paren.new.self in
    subst (λ v. Counted None (Counts (record { procedure = on; expression = s.expression; refuses = false })) (ws ++ v ∷ [])) (sym c.in-CloseParen.is)
    (counted_procedure None s on ws CloseParen refl refl refl h (c.close_paren.ensures ws small h.procedure, free_word ws CloseParen refl refl refl refl))

pub returns-in-CloseBrace-clause-counts : goal.returns-in-CloseBrace-clause-counts
returns-in-CloseBrace-clause-counts c ws small h =
    let s = c.args.self.now in
    let on = c.close_brace.new.self in
    subst (λ v. Counted None (Counts (record { procedure = on; expression = s.expression; refuses = false })) (ws ++ v ∷ [])) (sym c.in-CloseBrace.is)
    (counted_procedure None s on ws CloseBrace refl refl refl h (c.close_brace.ensures ws small h.procedure, free_word ws CloseBrace refl refl refl refl))

pub returns-in-Assign-clause-counts : goal.returns-in-Assign-clause-counts
returns-in-Assign-clause-counts c ws small h =
    let w = c.args.word.now in
    let b : begins_expression w ≡ true = search rules in
    let beside : IsBesideProcedure w = record { proc = search rules; opens = search rules; closes = search rules; list = search rules; name = search rules } in
    counted_expression None c.args.self.now c.begin-in-Assign.new.self ws w beside (search rules) h (c.begin-in-Assign.ensures ws w b, free_word ws w beside.opens (search rules) beside.name (search rules))

pub returns-in-Refuse-clause-counts : goal.returns-in-Refuse-clause-counts
returns-in-Refuse-clause-counts c ws small h =
    let s = c.args.self.now in
    subst (λ v. Counted None (Counts (record { procedure = s.procedure; expression = s.expression; refuses = true })) (ws ++ v ∷ [])) (sym c.in-Refuse.is)
    (plain_counted s true ws Refuse (record { proc = refl; opens = refl; closes = refl; list = refl; name = refl }) refl refl refl refl h)

pub returns-in-Proc-clause-counts : goal.returns-in-Proc-clause-counts
returns-in-Proc-clause-counts c ws small h =
    let s = c.args.self.now in
    let on = c.begin.new.self in
    subst (λ v. Counted None (Counts (record { procedure = on; expression = s.expression; refuses = false })) (ws ++ v ∷ [])) (sym c.in-Proc.is)
    (counted_procedure None s on ws Proc refl refl refl h (c.begin.ensures ws, free_word ws Proc refl refl refl refl))

pub returns-in_default-clause-counts : goal.returns-in_default-clause-counts
returns-in_default-clause-counts c ws small h =
    let w = c.args.word.now in
    let beside : IsBesideProcedure w = record { proc = search rules; opens = search rules; closes = search rules; list = search rules; name = search rules } in
    plain_counted c.args.self.now false ws w beside (search rules) (search rules) (search rules) (search rules) h
