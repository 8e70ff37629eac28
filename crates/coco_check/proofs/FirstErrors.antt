-- The search finds the first error of the tables and procedures, or there is none.
use Rattle.std.proofs.Common.{◌≡◌, ℕ, zero, suc, ◌+◌, ◌<◌, ◌⊎◌, inl, inr, ⊎_elim, true, false, [], ◌++◌, length, take, Option, None, Some, MatchOption, slice_get, Result, Ok, Err, refl, sym, subst, arith}
use Rattle.std.proofs.lemmas.Bool.{cases_order}
use Rattle.std.proofs.lemmas.Option.{slice_get_within}
use Rattle.coco_ast.specs.declared.error.CheckError.{CheckError}
use Rattle.coco_ast.specs.declared.error.CheckKind.TheVariants.{Twice}
use Rattle.coco_ast.specs.Tree.{Procedure, Procedures}
use Rattle.coco_ast.specs.Builtins.{builtins}
use Rattle.coco_ast.specs.Checks.{HasNoError, IsBehind, IsErrorWithin, IsFirstError, IsProcedureError, IsTableError, StandsTwice}
use Rattle.coco_check.specs.Search.{Names, adding, built_in_names, built_in_tables, error_at, error_behind, first_error, first_of_procedures}
use Rattle.coco_check.proofs.NameSets.{Adds, IsThere, adding_adds, same_none, same_with_names}
use Rattle.coco_check.proofs.Procedures.{IsFirstOf, first_of, names_in}
use Rattle.coco_check.proofs.Statements.{IsAfter}

abbrev pub IsFirstOrNone : Procedures → Option CheckError → Type 0
IsFirstOrNone t o = MatchOption o (HasNoError t) (IsFirstError t)

same_error : (e f : CheckError) → e.item ≡ f.item → e.statement ≡ f.statement → e.kind ≡ f.kind → e ≡ f
same_error e f p q r i = record { item = p i; statement = q i; kind = r i }

-- an item whose name stands before it is behind `main`
table_place : (t : Procedures) (item : ℕ) → StandsTwice (builtins.tables ++ t.tables) item → (j : ℕ) × (item ≡ suc j) × IsThere builtins.tables t.tables j
table_place t zero h = let e : false ≡ true = h.2 in cc
table_place t (suc j) h = (j, refl, h)

module _ (t : Procedures) where
  -- ---- an error of the tables

  table_error : (i j : ℕ) → i ≡ j → IsThere builtins.tables t.tables j → IsTableError t (error_at (i + 1) (0, Twice))
  table_error i j e h = record {
    twice = subst (StandsTwice (builtins.tables ++ t.tables)) (let place : suc j ≡ i + 1 = omega (arith, e) in place) h;
    statement = refl;
    kind = refl;
  }

  behind_table : (i j : ℕ) → i ≡ j → ((l : ℕ) → l < j → IsThere builtins.tables t.tables l → ⊥) → (f : CheckError) → IsTableError t f
      → (f ≡ error_at (i + 1) (0, Twice)) ⊎ IsBehind (error_at (i + 1) (0, Twice)) f
  behind_table i j e none f h =
      let p = table_place t f.item h.twice in
      ⊎_elim
      (λ same. inl (same_error f (error_at (i + 1) (0, Twice)) (omega (arith, p.1)) h.statement h.kind))
      (⊎_elim (λ before. absurd (none p.0 before p.2)) (λ after. inr (inl (omega (arith, p.1)))))
      (cases_order p.0 j)

  table_first : (i : ℕ) → Adds builtins.tables t.tables 0 (Err i) → IsFirstError t (error_at (i + 1) (0, Twice))
  table_first i a =
      let same : i ≡ a.0 = omega (arith, a.1) in
      record {
        holds = inl (table_error i a.0 same a.2);
        first = λ f h. ⊎_elim (behind_table i a.0 same a.3 f) (λ (g : IsProcedureError t f).
            let within = slice_get_within t.tables a.0 a.2.0 a.2.1 in
            inr (inl (omega (arith, g.item, within, same)))) h;
      }

  -- ---- an error of the procedures

  no_table_error : ((j : ℕ) → IsThere builtins.tables t.tables j → ⊥) → (f : CheckError) → IsTableError t f → ⊥
  no_table_error none f h = let p = table_place t f.item h.twice in none p.0 p.2

  abbrev all_tables : Names
  all_tables = builtins.tables ++ t.tables

  abbrev Found : Option CheckError → Type 0
  Found o = IsFirstOf all_tables (names_in builtins.procs) (length t.tables + 1) t.procs o

  after_fault : (e f : CheckError) → f.item ≡ e.item → IsAfter (e.statement, e.kind) f.statement f.kind → (f ≡ e) ⊎ IsBehind e f
  after_fault e f same h =
      ⊎_elim (λ p. inl (same_error f e same p.0 p.1)) (⊎_elim (λ less. inr (inr (sym same, inl less))) (λ p. inr (inr (sym same, inr p)))) h

  behind_procedure : (e : CheckError) → (o : Found (Some e)) → (f : CheckError) → (g : IsProcedureError t f) → (f ≡ e) ⊎ IsBehind e f
  behind_procedure e o f g =
      ⊎_elim
      (λ same.
      let there : slice_get t.procs o.0 ≡ Some g.procedure = subst (λ (k : ℕ). slice_get t.procs k ≡ Some g.procedure) same g.there in
      let one : g.procedure ≡ o.1 = (let a = o.2 in cc) in
      let within : IsErrorWithin all_tables (names_in builtins.procs ++ names_in (take o.0 t.procs)) o.1 f.statement f.kind =
      subst (λ (q : Procedure). IsErrorWithin all_tables (names_in builtins.procs ++ names_in (take o.0 t.procs)) q f.statement f.kind) one
      (subst (λ (k : ℕ). IsErrorWithin all_tables (names_in builtins.procs ++ names_in (take k t.procs)) g.procedure f.statement f.kind) same g.within) in
      after_fault e f (omega (arith, g.item, o.3)) (o.4.1 f.statement f.kind within))
      (⊎_elim (λ before. absurd (o.5 g.place g.procedure before g.there f.statement f.kind g.within)) (λ after. inr (inl (omega (arith, g.item, o.3)))))
      (cases_order g.place o.0)

  procedures_first : ((j : ℕ) → IsThere builtins.tables t.tables j → ⊥) → (o : Option CheckError) → Found o → IsFirstOrNone t o
  procedures_first none None h =
      λ f. ⊎_elim (no_table_error none f) (λ (g : IsProcedureError t f). h g.place g.procedure g.there f.statement f.kind g.within)
  procedures_first none (Some e) h = record {
    holds = inr (record { place = h.0; procedure = h.1; there = h.2; item = omega (arith, h.3); within = h.4.0 });
    first = λ f. ⊎_elim (λ g. absurd (no_table_error none f g)) (behind_procedure e h f);
  }

  by_tables : (r : Result Names ℕ) → Adds builtins.tables t.tables 0 r → IsFirstOrNone t (error_behind t r)
  by_tables (Err i) a = table_first i a
  by_tables (Ok set) a =
      procedures_first a.1 (first_of_procedures set built_in_names (length t.tables + 1) t.procs)
      (first_of set all_tables a.0 t.procs built_in_names (names_in builtins.procs) (same_with_names [] [] (names_in builtins.procs) same_none) (length t.tables + 1))

  pub first_or_none : IsFirstOrNone t (first_error t)
  first_or_none = by_tables (adding built_in_tables 0 t.tables) (adding_adds built_in_tables builtins.tables t.tables 0 (same_with_names [] [] builtins.tables same_none))
