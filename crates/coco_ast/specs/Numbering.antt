-- The numbers of the procedures of an accepted tree, which are their places in order, and the index of their names.
use Rattle.std.specs.Prelude.{◌≡◌, ℕ, true, List, Option, None, Some, slice_get}
use Rattle.std.specs.BTreeMap.{BTreeMap, get}
use Rattle.std.specs.Cmp.Lexicographic.{slice_cmp}
use Rattle.std.specs.Ordering.{nat_cmp}
use Rattle.coco_ast.specs.Meaning.{procedure_at}
use Rattle.coco_ast.specs.Tree.{Procedure, Procedures}
use Rattle.coco_ast.specs.Words.{is_word}
use Rattle.coco_ast.specs.declared.tree.Proc.{Proc}

-- the procedure of this number has this name
abbrev pub IsNamed : Procedures → ℕ → List ℕ → Type 0
IsNamed ps n name = (p : Procedure) × (procedure_at ps.procs n ≡ Some p) × (p.name ≡ name)

-- a number under which a procedure of this name stands, or none where there is none
abbrev pub IsNumberOf : List Proc → List ℕ → Option ℕ → Type 0
IsNumberOf ps x None = (k : ℕ) (p : Proc) → slice_get ps k ≡ Some p → p.name ≡ x → ⊥
IsNumberOf ps x (Some n) = (p : Proc) × (slice_get ps n ≡ Some p) × (p.name ≡ x)

-- the map has the number of each name, and each procedure's name is a word
pub record IsIndexOf (ps : List Proc) (numbers : BTreeMap (List ℕ) ℕ) : Type 0 where
  pub numbered : (x : List ℕ) → IsNumberOf ps x (get (slice_cmp nat_cmp) numbers x)
  pub words : (k : ℕ) (p : Proc) → slice_get ps k ≡ Some p → is_word p.name ≡ true
