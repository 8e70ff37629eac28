use Rattle.std.proofs.Common.{nat_eq, [], ◌∷◌, refl, sym, subst}
use Rattle.std.specs.List.{IsDistinct}
use Rattle.std.proofs.lemmas.Result.{IfOk-weaker}
use Rattle.coco_epoch_tests.proofs.parallel.puts_into_one_row.Goals as goal

apart : IsDistinct nat_eq (9 ∷ 8 ∷ 3 ∷ 2 ∷ [])
unfolding IsDistinct
apart = ((refl, (refl, (refl, tt))), ((refl, (refl, tt)), ((refl, tt), (tt, tt))))

pub returns-clause-distinct : goal.returns-clause-distinct
returns-clause-distinct c = IfOk-weaker c.work_of.result _ _ (λ work ids. subst (IsDistinct nat_eq) (sym ids) apart) c.work_of.ensures.ids
