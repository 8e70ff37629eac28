-- The closed forms, from the runs.
use Rattle.std.proofs.Common.{◌≡◌, ap, ◌∙◌, Bool, None, Some}
use Rattle.coco_ast.specs.Keyed.{Rows, value_at}
use Rattle.coco_ast.specs.Meaning.{Datum, Computed, combined}
use Rattle.coco_ast.specs.Tree.{Add}
use Rattle.coco_ast.specs.BuiltinForms.{BuiltinForms, counted}
use Rattle.coco_ast.proofs.BuiltinRuns.{got, stored, added, summed, or_zero, run-get, run-put, run-add}

-- the sum that add makes, by either word
sums : (v n : Datum) (r : Computed Datum) → combined Add (counted v) n ≡ r → combined Add (or_zero v) n ≡ r
sums None n r e = e
sums (Some v) n r e = e

pub builtin_forms : (m : Rows) (snapshot : Bool) (a : Datum) → BuiltinForms m snapshot a
builtin_forms m snapshot a = record {
  get_refuses = λ c e. run-get m snapshot a ∙ ap (got m) e;
  put_refuses = λ c v e. run-put m snapshot a v ∙ ap (stored m v) e;
  add_refuses = λ c n e. run-add m snapshot a n ∙ ap (added m n) e;
  gets = λ k e. run-get m snapshot a ∙ ap (got m) e;
  puts = λ k v e. run-put m snapshot a v ∙ ap (stored m v) e;
  adds = λ k n sum e s. run-add m snapshot a n ∙ ap (added m n) e ∙ ap (summed m k) (sums (value_at m k) n _ s);
  add_fails = λ k n c e s. run-add m snapshot a n ∙ ap (added m n) e ∙ ap (summed m k) (sums (value_at m k) n _ s);
}
