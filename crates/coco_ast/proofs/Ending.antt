-- A fitting call of an accepted tree ends, and reads and writes few keys.
use Rattle.std.proofs.Common.{◌≡◌, ℕ, zero, suc, ◌+◌, ◌≤◌, Bool, true, false, ◌||◌, if◌then◌else◌, List, [], ◌∷◌, length, Option, None, Some, Ok, Err, slice_get, inr, refl, sym, ◌∙◌, subst, arith, ⊎_elim}
use Rattle.std.proofs.lemmas.Bool.{cases_lt, and_parts}
use Rattle.std.specs.List.{list_any}
use Rattle.std.specs.Ordering.{match_ordering}
use Rattle.std.proofs.Common.{Less, Equal, Greater}
use Rattle.coco_types.specs.RowKey.{RowKey, key_cmp}
use Rattle.coco_types.specs.declared.call.Call.{Call}
use Rattle.coco_types.specs.declared.call.Write.{Write}
use Rattle.coco_ast.specs.declared.error.CheckKind.TheVariants.{TooManyKeys, NoReply}
use Rattle.coco_ast.specs.Builtins.{get_proc, put_proc, add_proc}
use Rattle.coco_ast.specs.Checks.{IsAccepted, HasNoError, behind_builtins, counted_weight, key_weight, ends, ends_at}
use Rattle.coco_ast.specs.Fitting.{Fits, is_taken}
use Rattle.coco_ast.specs.Keyed.{Rows}
use Rattle.coco_ast.specs.Meaning.{Datum, Computed, Access, Reads, Writes, State, Flow, Goes, Ends, Refuses, with, after, statement_flow, statements_flow, value_of, and_then, number_of, is_true, is_key, needs_after, put_write, writes_after, run, run_of, flow_of, opened, procedure_at}
use Rattle.coco_ast.specs.RunLaws.{EndsSoon, HasEnded, accesses_of}
use Rattle.coco_ast.specs.Tree.{Statement, Let, Get, Put, Delete, If, IfElse, Repeat, Refuse, Reply, Statements, End, Then, Procedure, Procedures}
use Rattle.coco_ast.proofs.Accepted.{procedure_at-get}
use Rattle.coco_ast.proofs.Leading.{LeadsTo, statements_lead}

-- ---- ends

with_ended : {A : Type 0} (s : State) (c : Computed A) (f : A → Flow) → ((a : A) → HasEnded (f a)) → HasEnded (with s c f)
with_ended s (Ok a) f all = all a
with_ended s (Err c) f all = tt

if_ended : (b : Bool) (f g : Flow) → HasEnded f → HasEnded g → HasEnded (if b then f else g)
if_ended true f g one other = one
if_ended false f g one other = other

ended_first : (f : Flow) (go : State → Flow) → HasEnded f → HasEnded (after f go)
ended_first (Goes s) go h = absurd h
ended_first (Ends s v) go h = tt
ended_first (Refuses s c) go h = tt

ended_later : (f : Flow) (go : State → Flow) → ((s : State) → HasEnded (go s)) → HasEnded (after f go)
ended_later (Goes s) go all = all s
ended_later (Ends s v) go all = tt
ended_later (Refuses s c) go all = tt

never : {A : Type 0} → false ≡ true → A
never h = cc

mutual
  statement_ends : (ts : List (List ℕ)) (t : Statement) (s : State) → ends_at t ≡ true → HasEnded (statement_flow ts t s)
  statement_ends ts (Let x e) s h = never h
  statement_ends ts (Get x p) s h = never h
  statement_ends ts (Put p e) s h = never h
  statement_ends ts (Delete p) s h = never h
  statement_ends ts (If e a) s h = never h
  statement_ends ts (IfElse e a b) s h =
      let both = and_parts (ends a) (ends b) h in
      with_ended s (and_then (value_of s.variables e) number_of) _ (λ z. if_ended (is_true z) (statements_flow ts a s) (statements_flow ts b s) (statements_end ts a s both.0) (statements_end ts b s both.1))
  statement_ends ts (Repeat n x body) s h = never h
  statement_ends ts (Refuse n) s h = tt
  statement_ends ts (Reply e) s h = with_ended s (value_of s.variables e) _ (λ v. tt)

  statements_end : (ts : List (List ℕ)) (b : Statements) (s : State) → ends b ≡ true → HasEnded (statements_flow ts b s)
  statements_end ts End s h = never h
  statements_end ts (Then first rest) s h =
      elim (ends_at first) as (λ b. ends_at first ≡ b → b || ends rest ≡ true → HasEnded (statements_flow ts (Then first rest) s)) [
        | true ↦ λ e r. ended_first (statement_flow ts first s) (λ t. statements_flow ts rest t) (statement_ends ts first s e)
        | false ↦ λ e r. ended_later (statement_flow ts first s) (λ t. statements_flow ts rest t) (λ t. statements_end ts rest t r)
      ] refl h

-- ---- keys

put_length : (k : RowKey) (v : Datum) (ws : List Write) → length (put_write k v ws) ≤ length ws + 1
put_length k v [] = omega arith
put_length k v (w ∷ ws) =
    elim (key_cmp k w.key) as (λ o. length (match_ordering o (record { key = k; value = v } ∷ w ∷ ws) (record { key = k; value = v } ∷ ws) (w ∷ put_write k v ws)) ≤ suc (length ws) + 1) [
      | Less ↦ omega arith
      | Equal ↦ omega arith
      | Greater ↦ (let h = put_length k v ws in omega (arith, h))
    ]

-- a key that is needed was read, and one in the writes was written
keys_few : (seen : List RowKey) (ws : List Write) (xs : List Access) → length (needs_after seen xs) + length (writes_after ws xs) ≤ length ws + length xs
keys_few seen ws [] = omega arith
keys_few seen ws (Reads k ∷ xs) =
    elim (list_any (is_key k) seen) as (λ b. length (if b then needs_after seen xs else k ∷ needs_after (k ∷ seen) xs) + length (writes_after ws xs) ≤ length ws + suc (length xs)) [
      | true ↦ (let h = keys_few seen ws xs in omega (arith, h))
      | false ↦ (let h = keys_few (k ∷ seen) ws xs in omega (arith, h))
    ]
keys_few seen ws (Writes k v ∷ xs) = let h = keys_few (k ∷ seen) (put_write k v ws) xs in let p = put_length k v ws in omega (arith, h, p)

leads_few : (w : ℕ) (m : Rows) (p : Procedure) (args : List Datum) (f : Flow) → LeadsTo w (opened m p args) f → length (accesses_of f) ≤ w
leads_few w m p args (Goes t) l = subst (λ xs. length xs ≤ w) (sym l.accesses) l.few
leads_few w m p args (Ends t v) l = subst (λ xs. length xs ≤ w) (sym l.accesses) l.few
leads_few w m p args (Refuses t c) l = subst (λ xs. length xs ≤ w) (sym l.accesses) l.few

run_few : (m : Rows) (f : Flow) → length (accesses_of f) ≤ 64 → length (run_of m f).needs + length (run_of m f).writes ≤ 64
run_few m (Goes s) few = let h = keys_few [] [] s.accesses in omega (arith, h, few)
run_few m (Ends s v) few = let h = keys_few [] [] s.accesses in omega (arith, h, few)
run_few m (Refuses s c) few = let h = keys_few [] [] s.accesses in omega (arith, h, few)

-- ---- accepted trees

-- a procedure that ends, with few keys
pub record IsSmall (p : Procedure) : Type 0 where
  pub weight : key_weight p.body ≤ 64
  pub ends : ends p.body ≡ true

small : (text : Procedures) → HasNoError text → (n : ℕ) (p : Procedure) → slice_get (behind_builtins text).procs n ≡ Some p → IsSmall p
small text sound zero p there = let is : get_proc ≡ p = cc in subst IsSmall is (record { weight = omega arith; ends = refl })
small text sound (suc zero) p there = let is : put_proc ≡ p = cc in subst IsSmall is (record { weight = omega arith; ends = refl })
small text sound (suc (suc zero)) p there = let is : add_proc ≡ p = cc in subst IsSmall is (record { weight = omega arith; ends = refl })
small text sound (suc (suc (suc k))) p there = record {
  weight = ⊎_elim (λ over. absurd (sound (record { item = length text.tables + (k + 1); statement = 0; kind = TooManyKeys (counted_weight p.body) })
      (inr (record { place = k; procedure = p; there = there; item = refl; within = (over, refl) })))) (λ le. le) (cases_lt 64 (key_weight p.body));
  ends =
      elim (ends p.body) as (λ b. ends p.body ≡ b → ends p.body ≡ true) [
        | true ↦ λ e. e
        | false ↦ λ e. absurd (sound (record { item = length text.tables + (k + 1); statement = 0; kind = NoReply })
            (inr (record { place = k; procedure = p; there = there; item = refl; within = e })))
      ] refl;
}

pub small_found : (tree : Procedures) → IsAccepted tree → (n : ℕ) (p : Procedure) → procedure_at tree.procs n ≡ Some p → IsSmall p
small_found tree a n p there = small a.text a.sound n p (subst (λ (u : Procedures). slice_get u.procs n ≡ Some p) a.whole (sym (procedure_at-get tree.procs n) ∙ there))

-- ---- calls

module _ (ps : Procedures) (accepted : IsAccepted ps) (call : Call) (m : Rows) where
  soon : (p : Option Procedure) → procedure_at ps.procs call.proc_no ≡ p → is_taken p call ≡ true
      → HasEnded (flow_of ps m p call.args) × (length (accesses_of (flow_of ps m p call.args)) ≤ 64)
  soon None there taken = never taken
  soon (Some p) there taken =
      let is = small_found ps accepted call.proc_no p there in
      let few = leads_few (key_weight p.body) m p call.args (flow_of ps m (Some p) call.args) (statements_lead ps.tables p.body (opened m p call.args)) in
      let le = is.weight in
      (statements_end ps.tables p.body (opened m p call.args) is.ends, omega (arith, few, le))

  pub ends_soon : Fits ps call → EndsSoon ps call m
  unfolding run
  ends_soon taken =
      let h = soon (procedure_at ps.procs call.proc_no) refl taken in
      record { ends = h.0; accesses = h.1; keys = run_few m (flow_of ps m (procedure_at ps.procs call.proc_no) call.args) h.1 }
