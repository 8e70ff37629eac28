-- A run of an accepted procedure writes only rows of tables that are declared.
use Rattle.std.proofs.Common.{◌≡◌, ℕ, zero, suc, ◌+◌, ◌*◌, ◌<◌, Bool, true, false, not, ◌||◌, if◌then◌else◌, nat_eq, Less, Equal, Greater, inr, List, [], ◌∷◌, ◌++◌, length, Option, None, Some, Ok, Err, pos, negsuc, refl, sym, ap, ◌∙◌, subst, true≢false, arith, slice_get}
use Rattle.std.specs.Bool.{⊤}
use Rattle.std.specs.List.{AllByRecursion}
use Rattle.std.specs.Ordering.{match_ordering}
use Rattle.std.specs.Cmp.Lexicographic.{pointwise, bytes_decides}
use Rattle.coco_types.specs.RowKey.{RowKey, key_cmp}
use Rattle.coco_types.specs.declared.call.Call.{Call}
use Rattle.coco_types.specs.declared.call.Write.{Write}
use Rattle.coco_types.specs.declared.value.Value.TheVariants.{Int, Text}
use Rattle.coco_ast.specs.Builtins.{add_proc, builtins, get_proc, put_proc}
use Rattle.coco_ast.specs.Checks.{HasNoError, Placed, and_within, behind_builtins, has_unknown, in_order, is_among, own_tables, statements_in}
use Rattle.coco_ast.specs.Keyed.{Rows}
use Rattle.coco_ast.specs.Meaning.{Datum, Computed, Access, Reads, Writes, State, Flow, Goes, Ends, Refuses, set_variable, with, after, turns, statement_flow, statements_flow, value_of, key_of, row_key, place_of, and_then, number_of, is_true, put_write, writes_after, run, run_of, flow_of, procedure_at, opened}
use Rattle.coco_ast.specs.Tree.{Statement, Let, Get, Put, Delete, If, IfElse, Repeat, Refuse, Reply, Statements, End, Then, Procedure, Procedures, RowPlace}
use Rattle.coco_ast.specs.declared.error.CheckKind.TheVariants.{UnknownName}
use Rattle.coco_ast.proofs.Accepted.{procedure_at-get}
use Rattle.coco_ast.proofs.Lists.{all_append, all_left, all_right}

-- ---- accesses

module _ (ts : List (List ℕ)) where
  abbrev pub Declared : RowKey → Type 0
  Declared k = k.table < length ts

  abbrev WritesDeclared : Access → Type 0
  WritesDeclared (Reads k) = ⊤
  WritesDeclared (Writes k v) = Declared k

  abbrev AreDeclared : List Access → Type 0
  AreDeclared = AllByRecursion WritesDeclared

  abbrev IsDeclared : Flow → Type 0
  IsDeclared (Goes s) = AreDeclared s.accesses
  IsDeclared (Ends s v) = AreDeclared s.accesses
  IsDeclared (Refuses s c) = AreDeclared s.accesses

  -- the statements name declared tables alone
  abbrev Knows : List Placed → Type 0
  Knows = AllByRecursion (λ (s : Placed). has_unknown ts (own_tables s.statement) ≡ false)

  -- ---- keys

  known : (b : Bool) → not b || false ≡ false → b ≡ true
  known true h = refl
  known false h = absurd (true≢false h)

  turned : (x n : List ℕ) → pointwise nat_eq n x ≡ false → pointwise nat_eq x n ≡ false
  turned x n apart = elim (pointwise nat_eq x n) as (λ b. pointwise nat_eq x n ≡ b → b ≡ false) [
    | true ↦ λ t. absurd (true≢false (sym ((bytes_decides n x).1 (sym ((bytes_decides x n).0 t))) ∙ apart))
    | false ↦ λ _. refl
  ] refl

  place_within : (x : List ℕ) (ns : List (List ℕ)) → is_among ns x ≡ true → place_of ns x < length ns
  place_within x [] h = absurd (true≢false (sym h))
  place_within x (n ∷ ns) h = elim (pointwise nat_eq n x) as (λ b. pointwise nat_eq n x ≡ b → (if b then 0 else suc (place_of ns x)) < suc (length ns)) [
    | true ↦ λ _. omega arith
    | false ↦ λ apart. (let rest : place_of ns x < length ns = place_within x ns (ap (λ b. b || is_among ns x) (sym (turned x n apart)) ∙ h) in omega arith)
  ] refl

  abbrev table_in : Computed RowKey → ℕ
  table_in (Ok k) = k.table
  table_in (Err c) = 0

  key_table : (t : ℕ) (r : Computed Datum) (k : RowKey) → and_then r (λ v. row_key t v) ≡ Ok k → k.table ≡ t
  key_table t (Err c) k h = cc
  key_table t (Ok None) k h = cc
  key_table t (Ok (Some (Text bytes))) k h = cc
  key_table t (Ok (Some (Int (negsuc n)))) k h = cc
  key_table t (Ok (Some (Int (pos n)))) k h = sym (ap table_in h)

  known_key : (s : State) (p : RowPlace) (k : RowKey) → has_unknown ts (p.table ∷ []) ≡ false → key_of ts s.variables p ≡ Ok k → Declared k
  known_key s p k knows is =
      let within : place_of ts p.table < length ts = place_within p.table ts (known (is_among ts p.table) knows) in
      let same : k.table ≡ place_of ts p.table = key_table (place_of ts p.table) (value_of s.variables p.row) k is in
      omega arith

  -- ---- flows

  with_declared : {A : Type 0} (s : State) (r : Computed A) (f : A → Flow) → AreDeclared s.accesses → ((a : A) → r ≡ Ok a → IsDeclared (f a)) → IsDeclared (with s r f)
  with_declared s (Ok a) f was all = all a refl
  with_declared s (Err c) f was all = was

  after_declared : (f : Flow) (g : State → Flow) → IsDeclared f → ((t : State) → AreDeclared t.accesses → IsDeclared (g t)) → IsDeclared (after f g)
  after_declared (Goes t) g was all = all t was
  after_declared (Ends t v) g was all = was
  after_declared (Refuses t c) g was all = was

  turns_declared : (body : State → Flow) (x : List ℕ) → ((t : State) → AreDeclared t.accesses → IsDeclared (body t)) → (n i : ℕ) (s : State) → AreDeclared s.accesses → IsDeclared (turns body x n i s)
  turns_declared body x all zero i s was = was
  turns_declared body x all (suc n) i s was =
      after_declared (body (set_variable s x (Some (Int (pos i))))) (λ t. turns body x n (i + 1) t) (all (set_variable s x (Some (Int (pos i)))) was)
      (λ t h. turns_declared body x all n (i + 1) t h)

  if_declared : (b : Bool) (f g : Flow) → IsDeclared f → IsDeclared g → IsDeclared (if b then f else g)
  if_declared true f g one other = one
  if_declared false f g one other = other

  one_more : (a : Access) (xs : List Access) → AreDeclared xs → WritesDeclared a → AreDeclared (xs ++ a ∷ [])
  one_more a xs was is = all_append WritesDeclared xs (a ∷ []) was (is, tt)

  mutual
    statement_declared : (n : ℕ) (t : Statement) (s : State) → Knows (and_within n t) → AreDeclared s.accesses → IsDeclared (statement_flow ts t s)
    statement_declared n (Let x e) s knows was = with_declared s (value_of s.variables e) _ was (λ v is. was)
    statement_declared n (Get x p) s knows was = with_declared s (key_of ts s.variables p) _ was (λ k is. one_more (Reads k) s.accesses was tt)
    statement_declared n (Put p e) s knows was =
        with_declared s (key_of ts s.variables p) _ was (λ k is. with_declared s (value_of s.variables e) _ was (λ v _. one_more (Writes k v) s.accesses was (known_key s p k knows.0 is)))
    statement_declared n (Delete p) s knows was = with_declared s (key_of ts s.variables p) _ was (λ k is. one_more (Writes k None) s.accesses was (known_key s p k knows.0 is))
    statement_declared n (If e a) s knows was =
        with_declared s (and_then (value_of s.variables e) number_of) _ was (λ z is. if_declared (is_true z) (statements_flow ts a s) (Goes s) (statements_declared n a s knows.1 was) was)
    statement_declared n (IfElse e a b) s knows was =
        with_declared s (and_then (value_of s.variables e) number_of) _ was (λ z is. if_declared (is_true z) (statements_flow ts a s) (statements_flow ts b s)
        (statements_declared n a s (all_left _ (in_order n a) (in_order n b) knows.1) was)
        (statements_declared n b s (all_right _ (in_order n a) (in_order n b) knows.1) was))
    statement_declared n (Repeat m x body) s knows was = turns_declared (λ t. statements_flow ts body t) x (λ t h. statements_declared (n * m) body t knows.1 h) m 0 s was
    statement_declared n (Refuse m) s knows was = was
    statement_declared n (Reply e) s knows was = with_declared s (value_of s.variables e) _ was (λ v is. was)

    statements_declared : (n : ℕ) (b : Statements) (s : State) → Knows (in_order n b) → AreDeclared s.accesses → IsDeclared (statements_flow ts b s)
    statements_declared n End s knows was = was
    statements_declared n (Then first rest) s knows was =
        after_declared (statement_flow ts first s) (λ t. statements_flow ts rest t)
        (statement_declared n first s (all_left _ (and_within n first) (in_order n rest) knows) was)
        (λ t h. statements_declared n rest t (all_right _ (and_within n first) (in_order n rest) knows) h)

  -- ---- writes

  abbrev pub WriteRows : List Write → Type 0
  WriteRows = AllByRecursion (λ (w : Write). Declared w.key)

  put_declared : (k : RowKey) (v : Datum) (ws : List Write) → Declared k → WriteRows ws → WriteRows (put_write k v ws)
  put_declared k v [] is was = (is, tt)
  put_declared k v (w ∷ ws) is was = elim (key_cmp k w.key) as (λ o. WriteRows (match_ordering o (record { key = k; value = v } ∷ w ∷ ws) (record { key = k; value = v } ∷ ws) (w ∷ put_write k v ws))) [
    | Less ↦ (is, was)
    | Equal ↦ (is, was.1)
    | Greater ↦ (was.0, put_declared k v ws is was.1)
  ]

  writes_declared : (ws : List Write) (xs : List Access) → WriteRows ws → AreDeclared xs → WriteRows (writes_after ws xs)
  writes_declared ws [] was all = was
  writes_declared ws (Reads k ∷ xs) was all = writes_declared ws xs was all.1
  writes_declared ws (Writes k v ∷ xs) was all = writes_declared (put_write k v ws) xs (put_declared k v ws all.0 was) all.1

  run_declared : (m : Rows) (f : Flow) → IsDeclared f → WriteRows (run_of m f).writes
  run_declared m (Goes s) is = writes_declared [] s.accesses tt is
  run_declared m (Ends s v) is = writes_declared [] s.accesses tt is
  run_declared m (Refuses s c) is = tt

-- ---- accepted trees

two_false : (a b : Bool) → (a || b ≡ true → ⊥) → a ≡ false
two_false true b never = absurd (never refl)
two_false false b never = refl

-- what holds at each place of a list holds of all of it
all_from_places : {X : Type 0} (P : X → Type 0) (xs : List X) → ((i : ℕ) (x : X) → slice_get xs i ≡ Some x → P x) → AllByRecursion P xs
all_from_places P [] each = tt
all_from_places P (x ∷ xs) each = (each 0 x refl, all_from_places P xs (λ i y is. each (suc i) y is))

knows_own : (own : Procedures) → HasNoError own → (i : ℕ) (p : Procedure) → slice_get own.procs i ≡ Some p → Knows (builtins.tables ++ own.tables) (statements_in p)
knows_own own sound i p there = all_from_places _ (statements_in p) (λ j s at. two_false _ _ (λ bad.
    sound (record { item = length own.tables + (i + 1); statement = suc j; kind = UnknownName }) (inr (record {
      place = i;
      procedure = p;
      there = there;
      item = refl;
      within = (s, at, bad);
    }))))

-- the three that are built in name the table `main` alone, which is the first
knows_built_in : (own : Procedures) → Knows (builtins.tables ++ own.tables) (statements_in get_proc)
    × Knows (builtins.tables ++ own.tables) (statements_in put_proc) × Knows (builtins.tables ++ own.tables) (statements_in add_proc)
knows_built_in own = ((refl, (refl, tt)), (refl, (refl, tt)), (refl, (refl, (refl, (refl, (refl, (refl, tt)))))))

abbrev KnowsIn : List (List ℕ) → Option Procedure → Type 0
KnowsIn ts None = ⊤
KnowsIn ts (Some p) = Knows ts (statements_in p)

knows_any : (own : Procedures) → HasNoError own → (n : ℕ) (p : Procedure) → procedure_at (behind_builtins own).procs n ≡ Some p → Knows (builtins.tables ++ own.tables) (statements_in p)
knows_any own sound zero p is = subst (KnowsIn (builtins.tables ++ own.tables)) is (knows_built_in own).0
knows_any own sound (suc zero) p is = subst (KnowsIn (builtins.tables ++ own.tables)) is (knows_built_in own).1
knows_any own sound (suc (suc zero)) p is = subst (KnowsIn (builtins.tables ++ own.tables)) is (knows_built_in own).2
knows_any own sound (suc (suc (suc n))) p is = knows_own own sound n p (sym (procedure_at-get own.procs n) ∙ is)

-- every run writes rows of declared tables alone
pub run_stays_in_tables : (own : Procedures) → HasNoError own → (call : Call) (m : Rows) → WriteRows (behind_builtins own).tables (run (behind_builtins own) call m).writes
unfolding run
run_stays_in_tables own sound call m = by (procedure_at (behind_builtins own).procs call.proc_no) refl
  where
    ts : List (List ℕ)
    ts = builtins.tables ++ own.tables

    by : (o : Option Procedure) → procedure_at (behind_builtins own).procs call.proc_no ≡ o → WriteRows ts (run_of m (flow_of (behind_builtins own) m o call.args)).writes
    by None is = tt
    by (Some p) is = run_declared ts m (statements_flow ts p.body (opened m p call.args)) (statements_declared ts 1 p.body (opened m p call.args) (knows_any own sound call.proc_no p is) tt)
