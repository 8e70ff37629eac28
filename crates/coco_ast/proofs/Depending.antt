-- Runs on two maps that agree on what the first one needs are alike, but for their maps.
use Rattle.std.proofs.Common.{◌≡◌, ℕ, zero, suc, ◌+◌, Bool, true, false, ◌||◌, cond, if◌then◌else◌, List, [], ◌∷◌, ◌++◌, Option, None, Some, Ok, Err, pos, refl, sym, ap, ◌∙◌, subst}
use Rattle.std.specs.List.{list_any}
use Rattle.coco_types.proofs.Keys.{one_key}
use Rattle.coco_types.specs.RowKey.{RowKey}
use Rattle.coco_types.specs.declared.value.Value.TheVariants.{Int}
use Rattle.coco_types.specs.declared.call.Call.{Call}
use Rattle.coco_types.specs.declared.call.Reply.TheVariants.{Ok as Answers, Refused}
use Rattle.coco_ast.specs.Keyed.{Rows, value_at, write_at, AgreeOn}
use Rattle.coco_ast.specs.Meaning.{Datum, Computed, Access, Reads, Writes, State, Flow, Goes, Ends, Refuses, set_variable, read_row, write_row, with, after, turns, statement_flow, statements_flow, value_of, key_of, and_then, number_of, is_true, is_key, needs_after, writes_after, run, run_of, flow_of, opened, procedure_at}
use Rattle.coco_ast.specs.RunLaws.{RunAlike, DependsOnNeeds, accesses_of}
use Rattle.coco_ast.specs.Checks.{key_weight}
use Rattle.coco_ast.specs.Tree.{Statement, Let, Get, Put, Delete, If, IfElse, Repeat, Refuse, Reply, Statements, End, Then, Procedure, Procedures}
use Rattle.coco_ast.proofs.Leading.{LeadsTo, statements_lead, turns_lead}
use Rattle.coco_ast.proofs.Writing.{value_written}

-- ---- accesses of a key

abbrev pub key_in : Access → RowKey
key_in (Reads k) = k
key_in (Writes k v) = k

abbrev pub is_seen : RowKey → List Access → Bool
is_seen k [] = false
is_seen k (a ∷ xs) = is_key k (key_in a) || is_seen k xs

unseen_split : (b c : Bool) → b || c ≡ false → (b ≡ false) × (c ≡ false)
unseen_split true c e = let h : true ≡ false = e in cc
unseen_split false c e = (refl, e)

unseen_both : (b c : Bool) → b ≡ false → c ≡ false → b || c ≡ false
unseen_both true c e f = e
unseen_both false c e f = f

unseen_push : (q : RowKey) (xs : List Access) (a : Access) → is_key q (key_in a) ≡ false → is_seen q xs ≡ false → is_seen q (xs ++ a ∷ []) ≡ false
unseen_push q [] a other unseen = unseen_both _ _ other refl
unseen_push q (x ∷ xs) a other unseen = let parts = unseen_split _ _ unseen in unseen_both _ _ parts.0 (unseen_push q xs a other parts.1)

module _ (m n : Rows) where
  -- ---- agreeing on what is needed

  abbrev pub AgreeOnNeeds : List RowKey → List Access → Type 0
  AgreeOnNeeds seen xs = AgreeOn (needs_after seen xs) m n

  -- on what was needed before, too
  needs_before : (seen : List RowKey) (xs ys : List Access) → AgreeOnNeeds seen (xs ++ ys) → AgreeOnNeeds seen xs
  needs_before seen [] ys agree = tt
  needs_before seen (Reads k ∷ xs) ys agree =
      elim (list_any (is_key k) seen) as (λ b. AgreeOn (if b then needs_after seen (xs ++ ys) else k ∷ needs_after (k ∷ seen) (xs ++ ys)) m n → AgreeOn (if b then needs_after seen xs else k ∷ needs_after (k ∷ seen) xs) m n) [
        | true ↦ λ h. needs_before seen xs ys h
        | false ↦ λ h. (h.0, needs_before (k ∷ seen) xs ys h.1)
      ] agree
  needs_before seen (Writes k v ∷ xs) ys agree = needs_before (k ∷ seen) xs ys agree

  -- a key that is read now, and wasn't seen, is needed
  needs_read : (seen : List RowKey) (xs : List Access) (k : RowKey) → AgreeOnNeeds seen (xs ++ Reads k ∷ []) → list_any (is_key k) seen ≡ false → is_seen k xs ≡ false → value_at m k ≡ value_at n k
  needs_read seen [] k agree new unseen =
      let h : AgreeOn (if false then needs_after seen [] else k ∷ []) m n = subst (λ b. AgreeOn (if b then needs_after seen [] else k ∷ needs_after (k ∷ seen) []) m n) new agree in h.0
  needs_read seen (Reads j ∷ xs) k agree new unseen =
      let parts = unseen_split _ _ unseen in
      elim (list_any (is_key j) seen) as (λ b. AgreeOn (if b then needs_after seen (xs ++ Reads k ∷ []) else j ∷ needs_after (j ∷ seen) (xs ++ Reads k ∷ [])) m n → value_at m k ≡ value_at n k) [
        | true ↦ λ h. needs_read seen xs k h new parts.1
        | false ↦ λ h. needs_read (j ∷ seen) xs k h.1 (unseen_both _ _ parts.0 new) parts.1
      ] agree
  needs_read seen (Writes j v ∷ xs) k agree new unseen = let parts = unseen_split _ _ unseen in needs_read (j ∷ seen) xs k agree (unseen_both _ _ parts.0 new) parts.1

  -- ---- states that differ in their maps alone

  abbrev pub with_rows : State → Rows → State
  with_rows s r = record s { rows = r }

  -- the maps have the same at each key that was seen, or that the first two agree on
  abbrev pub Alike : List Access → Rows → Rows → Type 0
  Alike xs r u = (q : RowKey) → (is_seen q xs ≡ false → value_at m q ≡ value_at n q) → value_at r q ≡ value_at u q

  pub record Same (s t : State) : Type 0 where
    pub is : t ≡ with_rows s t.rows
    pub rows : Alike s.accesses s.rows t.rows

  abbrev pub FlowSame : Flow → Flow → Type 0
  FlowSame (Goes s) (Goes t) = Same s t
  FlowSame (Ends s v) (Ends t w) = Same s t × (v ≡ w)
  FlowSame (Refuses s c) (Refuses t d) = Same s t × (c ≡ d)
  FlowSame _ _ = ⊥

  itself : (s : State) (r : Rows) → Alike s.accesses s.rows r → Same s (with_rows s r)
  itself s r alike = record { is = refl; rows = alike }

  alike_read : (xs : List Access) (r u : Rows) (k : RowKey) → Alike xs r u → value_at r k ≡ value_at u k → Alike (xs ++ Reads k ∷ []) r u
  alike_read xs r u k alike here q agree =
      elim (is_key q k) as (λ b. is_key q k ≡ b → value_at r q ≡ value_at u q) [
        | true ↦ λ e. subst (λ (j : RowKey). value_at r j ≡ value_at u j) (sym (one_key q k e)) here
        | false ↦ λ e. alike q (λ unseen. agree (unseen_push q xs (Reads k) e unseen))
      ] refl

  alike_write : (xs : List Access) (r u : Rows) (k : RowKey) (v : Datum) → Alike xs r u → Alike (xs ++ Writes k v ∷ []) (write_at r k v) (write_at u k v)
  alike_write xs r u k v alike q agree =
      value_written r k v q
      ∙ elim (is_key q k) as (λ b. is_key q k ≡ b → cond b v (value_at r q) ≡ cond b v (value_at u q)) [
        | true ↦ λ e. refl
        | false ↦ λ e. alike q (λ unseen. agree (unseen_push q xs (Writes k v) e unseen))
      ] refl
      ∙ sym (value_written u k v q)

  abbrev AgreeBy : Flow → Type 0
  AgreeBy f = AgreeOnNeeds [] (accesses_of f)

  agree_before : (w : ℕ) (s : State) (f : Flow) → LeadsTo w s f → AgreeBy f → AgreeOnNeeds [] s.accesses
  agree_before w s (Goes t) l agree = needs_before [] s.accesses l.more (subst (λ xs. AgreeOnNeeds [] xs) l.accesses agree)
  agree_before w s (Ends t v) l agree = needs_before [] s.accesses l.more (subst (λ xs. AgreeOnNeeds [] xs) l.accesses agree)
  agree_before w s (Refuses t c) l agree = needs_before [] s.accesses l.more (subst (λ xs. AgreeOnNeeds [] xs) l.accesses agree)

  -- what it leads to from a state, and from one with another map, is the same
  abbrev pub SameFrom : (State → Flow) → Type 0
  SameFrom go = (s : State) (r : Rows) → Alike s.accesses s.rows r → AgreeBy (go s) → FlowSame (go s) (go (with_rows s r))

  same_with : {A : Type 0} (s : State) (r : Rows) (c : Computed A) (f g : A → Flow) → Alike s.accesses s.rows r
      → ((a : A) → AgreeBy (f a) → FlowSame (f a) (g a)) → AgreeBy (with s c f) → FlowSame (with s c f) (with (with_rows s r) c g)
  same_with s r (Ok a) f g alike all agree = all a agree
  same_with s r (Err c) f g alike all agree = (itself s r alike, refl)

  same_if : (b : Bool) (f g h k : Flow) → (AgreeBy f → FlowSame f h) → (AgreeBy g → FlowSame g k) → AgreeBy (if b then f else g) → FlowSame (if b then f else g) (if b then h else k)
  same_if true f g h k one other agree = one agree
  same_if false f g h k one other agree = other agree

  same_after : (w : ℕ) (go : State → Flow) → ((s : State) → LeadsTo w s (go s)) → SameFrom go
      → (f g : Flow) → (AgreeBy f → FlowSame f g) → AgreeBy (after f go) → FlowSame (after f go) (after g go)
  same_after w go leads from (Goes s) (Goes t) same agree =
      let here = same (agree_before w s (go s) (leads s) agree) in
      subst (λ u. FlowSame (go s) (go u)) (sym here.is) (from s t.rows here.rows agree)
  same_after w go leads from (Goes s) (Ends t v) same agree = absurd (same (agree_before w s (go s) (leads s) agree))
  same_after w go leads from (Goes s) (Refuses t c) same agree = absurd (same (agree_before w s (go s) (leads s) agree))
  same_after w go leads from (Ends s v) (Goes t) same agree = absurd (same agree)
  same_after w go leads from (Ends s v) (Ends t u) same agree = same agree
  same_after w go leads from (Ends s v) (Refuses t c) same agree = absurd (same agree)
  same_after w go leads from (Refuses s c) (Goes t) same agree = absurd (same agree)
  same_after w go leads from (Refuses s c) (Ends t v) same agree = absurd (same agree)
  same_after w go leads from (Refuses s c) (Refuses t d) same agree = same agree

  same_turns : (w : ℕ) (body : State → Flow) (x : List ℕ) → ((s : State) → LeadsTo w s (body s)) → SameFrom body → (k i : ℕ) → SameFrom (λ s. turns body x k i s)
  same_turns w body x leads from zero i s r alike agree = itself s r alike
  same_turns w body x leads from (suc k) i s r alike agree =
      let v = Some (Int (pos i)) in
      same_after _ (λ t. turns body x k (i + 1) t) (λ t. turns_lead w body x leads k (i + 1) t) (same_turns w body x leads from k (i + 1))
      (body (set_variable s x v)) (body (set_variable (with_rows s r) x v)) (λ a. from (set_variable s x v) r alike a) agree

  reads_same : (s : State) (r : Rows) (x : List ℕ) (k : RowKey) → Alike s.accesses s.rows r → AgreeOnNeeds [] (s.accesses ++ Reads k ∷ []) → Same (read_row s x k) (read_row (with_rows s r) x k)
  reads_same s r x k alike agree =
      let here : value_at s.rows k ≡ value_at r k = alike k (λ unseen. needs_read [] s.accesses k agree refl unseen) in
      record {
        is = ap (λ v. record { variables = (x, v) ∷ s.variables; rows = r; accesses = s.accesses ++ Reads k ∷ [] }) (sym here);
        rows = alike_read s.accesses s.rows r k alike here;
      }

  writes_same : (s : State) (r : Rows) (k : RowKey) (v : Datum) → Alike s.accesses s.rows r → Same (write_row s k v) (write_row (with_rows s r) k v)
  writes_same s r k v alike = record { is = refl; rows = alike_write s.accesses s.rows r k v alike }

  mutual
    pub statement_same : (ts : List (List ℕ)) (t : Statement) → SameFrom (statement_flow ts t)
    statement_same ts (Let x e) s r alike agree = same_with s r (value_of s.variables e) _ _ alike (λ v a. record { is = refl; rows = alike }) agree
    statement_same ts (Get x p) s r alike agree = same_with s r (key_of ts s.variables p) _ _ alike (λ k a. reads_same s r x k alike a) agree
    statement_same ts (Put p e) s r alike agree =
        same_with s r (key_of ts s.variables p) _ _ alike (λ k a. same_with s r (value_of s.variables e) _ _ alike (λ v b. writes_same s r k v alike) a) agree
    statement_same ts (Delete p) s r alike agree = same_with s r (key_of ts s.variables p) _ _ alike (λ k a. writes_same s r k None alike) agree
    statement_same ts (If e body) s r alike agree =
        same_with s r (and_then (value_of s.variables e) number_of) _ _ alike (λ z a. same_if (is_true z) _ _ _ _ (λ h. statements_same ts body s r alike h) (λ h. itself s r alike) a) agree
    statement_same ts (IfElse e body other) s r alike agree =
        same_with s r (and_then (value_of s.variables e) number_of) _ _ alike (λ z a. same_if (is_true z) _ _ _ _ (λ h. statements_same ts body s r alike h) (λ h. statements_same ts other s r alike h) a) agree
    statement_same ts (Repeat k x body) s r alike agree = same_turns (key_weight body) (λ t. statements_flow ts body t) x (λ t. statements_lead ts body t) (statements_same ts body) k 0 s r alike agree
    statement_same ts (Refuse k) s r alike agree = (itself s r alike, refl)
    statement_same ts (Reply e) s r alike agree = same_with s r (value_of s.variables e) _ _ alike (λ v a. (itself s r alike, refl)) agree

    pub statements_same : (ts : List (List ℕ)) (b : Statements) → SameFrom (statements_flow ts b)
    statements_same ts End s r alike agree = itself s r alike
    statements_same ts (Then first rest) s r alike agree =
        same_after (key_weight rest) (λ t. statements_flow ts rest t) (λ t. statements_lead ts rest t) (statements_same ts rest)
        (statement_flow ts first s) (statement_flow ts first (with_rows s r)) (λ a. statement_same ts first s r alike a) agree

  -- ---- runs

  accesses_same : (s t : State) → Same s t → s.accesses ≡ t.accesses
  accesses_same s t same = sym (ap (λ u. u.accesses) same.is)

  run_alike : (f g : Flow) → (AgreeBy f → FlowSame f g) → AgreeOn (run_of m f).needs m n → RunAlike (run_of m f) (run_of n g)
  run_alike (Goes s) (Goes t) same agree = let h = accesses_same s t (same agree) in record { reply = refl; needs = ap (needs_after []) h; writes = ap (writes_after []) h }
  run_alike (Goes s) (Ends t v) same agree = absurd (same agree)
  run_alike (Goes s) (Refuses t c) same agree = absurd (same agree)
  run_alike (Ends s v) (Goes t) same agree = absurd (same agree)
  run_alike (Ends s v) (Ends t u) same agree = let h = accesses_same s t (same agree).0 in record { reply = ap (λ w. Answers w) (same agree).1; needs = ap (needs_after []) h; writes = ap (writes_after []) h }
  run_alike (Ends s v) (Refuses t c) same agree = absurd (same agree)
  run_alike (Refuses s c) (Goes t) same agree = absurd (same agree)
  run_alike (Refuses s c) (Ends t v) same agree = absurd (same agree)
  run_alike (Refuses s c) (Refuses t d) same agree = let h = accesses_same s t (same agree).0 in record { reply = ap (λ d. Refused d) (same agree).1; needs = ap (needs_after []) h; writes = refl }

  found_alike : (ps : Procedures) (p : Option Procedure) (args : List Datum) → AgreeOn (run_of m (flow_of ps m p args)).needs m n → RunAlike (run_of m (flow_of ps m p args)) (run_of n (flow_of ps n p args))
  found_alike ps None args agree = record { reply = refl; needs = refl; writes = refl }
  found_alike ps (Some p) args agree =
      run_alike (flow_of ps m (Some p) args) (flow_of ps n (Some p) args) (λ a. statements_same ps.tables p.body (opened m p args) n (λ q h. h refl) a) agree

pub run_depends : (ps : Procedures) (call : Call) → DependsOnNeeds ps call
unfolding run
run_depends ps call m n agree = found_alike m n ps (procedure_at ps.procs call.proc_no) call.args agree
