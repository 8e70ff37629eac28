-- What holds of all Dones holds of those that are kept of them and one more, and of those from a place on.
use Rattle.std.proofs.Common.{ℕ, List, [], ◌∷◌, ◌++◌, drop, Option}
use Rattle.std.specs.List.{AllByRecursion}
use Rattle.std.proofs.lemmas.List.Elements.{All-drop, All-filter, All-from_recursion, recursion_from_All}
use Rattle.coco_types.specs.declared.call.Done.{Done}
use Rattle.coco_ast.specs.History.{kept_of, is_held}
use Rattle.coco_ast.proofs.Lists.{all_append}

module _ (P : Done → Type 0) where
  pub all_drop : (n : ℕ) (ds : List Done) → AllByRecursion P ds → AllByRecursion P (drop n ds)
  all_drop n ds all = recursion_from_All P (drop n ds) (All-drop P n ds (All-from_recursion P ds all))

  pub all_kept : (keep : Option ℕ) (ds : List Done) (d : Done) → AllByRecursion P ds → P d → AllByRecursion P (kept_of keep (ds ++ d ∷ []))
  all_kept keep ds d all one =
      let more = ds ++ d ∷ [] in
      recursion_from_All P _ (All-filter (is_held keep more) P more (All-from_recursion P more (all_append P ds (d ∷ []) all (one, tt))))
