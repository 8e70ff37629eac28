-- The three procedures that every store has, and its table `main`.
use Rattle.std.specs.Prelude.{[], ◌∷◌, pos, codes}
use Rattle.coco_ast.specs.Tree.{Number, None as Nothing, Variable, Two, Add, Equal, RowPlace, Let, Get, Put, If, Reply, End, Then, Procedure, Procedures}

abbrev pub main_row : RowPlace
main_row = record { table = codes "main"; row = Variable (codes "r") }

-- proc get(r) { let v = get main[r]; reply v; }
abbrev pub get_proc : Procedure
get_proc = record {
  name = codes "get";
  params = codes "r" ∷ [];
  body = Then (Get (codes "v") main_row) (Then (Reply (Variable (codes "v"))) End);
}

-- proc put(r, v) { put main[r] = v; reply v; }
abbrev pub put_proc : Procedure
put_proc = record {
  name = codes "put";
  params = codes "r" ∷ codes "v" ∷ [];
  body = Then (Put main_row (Variable (codes "v"))) (Then (Reply (Variable (codes "v"))) End);
}

-- proc add(r, n) { let v = get main[r]; if v == none { let v = 0; } let v = v + n; put main[r] = v; reply v; }
abbrev pub add_proc : Procedure
add_proc = record {
  name = codes "add";
  params = codes "r" ∷ codes "n" ∷ [];
  body =
      Then (Get (codes "v") main_row) (Then (If (Two Equal (Variable (codes "v")) Nothing) (Then (Let (codes "v") (Number (pos 0))) End))
      (Then (Let (codes "v") (Two Add (Variable (codes "v")) (Variable (codes "n")))) (Then (Put main_row (Variable (codes "v")))
      (Then (Reply (Variable (codes "v"))) End))));
}

abbrev pub builtins : Procedures
builtins = record { tables = codes "main" ∷ []; procs = get_proc ∷ put_proc ∷ add_proc ∷ [] }
