-- What statements lead to: which accesses they add, how many at most, and the map that these make.
use Rattle.std.proofs.Common.{◌≡◌, ℕ, zero, suc, ◌+◌, ◌*◌, ◌≤◌, max, Bool, true, false, if◌then◌else◌, List, [], ◌∷◌, ◌++◌, length, None, Ok, Err, pos, Some, refl, sym, ap, ◌∙◌, append-nil, append_assoc, length-append, suc-mul, subst, arith}
use Rattle.coco_types.specs.declared.value.Value.TheVariants.{Int}
use Rattle.coco_ast.specs.Checks.{statement_weight, key_weight}
use Rattle.coco_ast.specs.Keyed.{Rows, write_at}
use Rattle.coco_ast.specs.Meaning.{Datum, Computed, Access, Reads, Writes, State, Flow, Goes, Ends, Refuses, set_variable, read_row, write_row, with, after, turns, statement_flow, statements_flow, value_of, key_of, and_then, number_of, is_true}
use Rattle.coco_ast.specs.Tree.{Statement, Let, Get, Put, Delete, If, IfElse, Repeat, Refuse, Reply, Statements, End, Then}

-- the map after these accesses
abbrev pub rows_by : Rows → List Access → Rows
rows_by m [] = m
rows_by m (Reads k ∷ xs) = rows_by m xs
rows_by m (Writes k v ∷ xs) = rows_by (write_at m k v) xs

-- from a map and the accesses so far, by at most w more of them
pub record Leads (w : ℕ) (m : Rows) (xs : List Access) (t : State) : Type 0 where
  pub more : List Access
  pub accesses : t.accesses ≡ xs ++ more
  pub few : length more ≤ w
  pub rows : t.rows ≡ rows_by m more

abbrev pub LeadsTo : ℕ → State → Flow → Type 0
LeadsTo w s (Goes t) = Leads w s.rows s.accesses t
LeadsTo w s (Ends t v) = Leads w s.rows s.accesses t
LeadsTo w s (Refuses t c) = Leads w s.rows s.accesses t

-- ---- one access, none, and one way behind another

rows_by-append : (m : Rows) (xs ys : List Access) → rows_by m (xs ++ ys) ≡ rows_by (rows_by m xs) ys
rows_by-append m [] ys = refl
rows_by-append m (Reads k ∷ xs) ys = rows_by-append m xs ys
rows_by-append m (Writes k v ∷ xs) ys = rows_by-append (write_at m k v) xs ys

pub stays : (w : ℕ) (s : State) → Leads w s.rows s.accesses s
stays w s = record { more = []; accesses = sym (append-nil s.accesses); few = omega arith; rows = refl }

sets : (w : ℕ) (s : State) (x : List ℕ) (v : Datum) → Leads w s.rows s.accesses (set_variable s x v)
sets w s x v = record { more = []; accesses = sym (append-nil s.accesses); few = omega arith; rows = refl }

one_more : (m : Rows) (xs : List Access) (a : Access) (t : State) → t.accesses ≡ xs ++ a ∷ [] → t.rows ≡ rows_by m (a ∷ []) → Leads 1 m xs t
one_more m xs a t accesses rows = record { more = a ∷ []; accesses = accesses; few = omega arith; rows = rows }

leads_on : (a b : ℕ) (m : Rows) (xs : List Access) (t u : State) → Leads a m xs t → Leads b t.rows t.accesses u → Leads (a + b) m xs u
leads_on a b m xs t u first then_rest = record {
  more = first.more ++ then_rest.more;
  accesses = then_rest.accesses ∙ ap (λ ys. ys ++ then_rest.more) first.accesses ∙ append_assoc xs first.more then_rest.more;
  few = let fa = first.few in let fb = then_rest.few in let e = length-append first.more then_rest.more in omega (arith, fa, fb, e);
  rows = then_rest.rows ∙ ap (λ n. rows_by n then_rest.more) first.rows ∙ sym (rows_by-append m first.more then_rest.more);
}

leads_wider : (a b : ℕ) (m : Rows) (xs : List Access) (t : State) → a ≤ b → Leads a m xs t → Leads b m xs t
leads_wider a b m xs t le l = record { more = l.more; accesses = l.accesses; few = let h = l.few in omega (arith, h, le); rows = l.rows }

wider : (a b : ℕ) (s : State) (f : Flow) → a ≤ b → LeadsTo a s f → LeadsTo b s f
wider a b s (Goes t) le l = leads_wider a b s.rows s.accesses t le l
wider a b s (Ends t v) le l = leads_wider a b s.rows s.accesses t le l
wider a b s (Refuses t c) le l = leads_wider a b s.rows s.accesses t le l

flows_on : (a b : ℕ) (s t : State) (f : Flow) → Leads a s.rows s.accesses t → LeadsTo b t f → LeadsTo (a + b) s f
flows_on a b s t (Goes u) first l = leads_on a b s.rows s.accesses t u first l
flows_on a b s t (Ends u v) first l = leads_on a b s.rows s.accesses t u first l
flows_on a b s t (Refuses u c) first l = leads_on a b s.rows s.accesses t u first l

pub with_leads : {A : Type 0} (w : ℕ) (s : State) (r : Computed A) (f : A → Flow) → ((a : A) → LeadsTo w s (f a)) → LeadsTo w s (with s r f)
with_leads w s (Ok a) f all = all a
with_leads w s (Err c) f all = stays w s

after_leads : (a b : ℕ) (s : State) (f : Flow) (g : State → Flow) → LeadsTo a s f → ((t : State) → LeadsTo b t (g t)) → LeadsTo (a + b) s (after f g)
after_leads a b s (Goes t) g l all = flows_on a b s t (g t) l (all t)
after_leads a b s (Ends t v) g l all = leads_wider a (a + b) s.rows s.accesses t (omega arith) l
after_leads a b s (Refuses t c) g l all = leads_wider a (a + b) s.rows s.accesses t (omega arith) l

pub turns_lead : (w : ℕ) (body : State → Flow) (x : List ℕ) → ((t : State) → LeadsTo w t (body t)) → (n i : ℕ) (s : State) → LeadsTo (n * w) s (turns body x n i s)
turns_lead w body x all zero i s = stays (0 * w) s
turns_lead w body x all (suc n) i s =
    let first : LeadsTo w s (body (set_variable s x (Some (Int (pos i))))) = all (set_variable s x (Some (Int (pos i)))) in
    subst (λ k. LeadsTo k s (turns body x (suc n) i s)) (let e = suc-mul n w in omega (arith, e))
    (after_leads w (n * w) s (body (set_variable s x (Some (Int (pos i))))) (λ t. turns body x n (i + 1) t) first (λ t. turns_lead w body x all n (i + 1) t))

if_leads : (w : ℕ) (s : State) (b : Bool) (f g : Flow) → LeadsTo w s f → LeadsTo w s g → LeadsTo w s (if b then f else g)
if_leads w s true f g one other = one
if_leads w s false f g one other = other

-- ---- statements

mutual
  pub statement_leads : (ts : List (List ℕ)) (t : Statement) (s : State) → LeadsTo (statement_weight t) s (statement_flow ts t s)
  statement_leads ts (Let x e) s = with_leads 0 s (value_of s.variables e) _ (λ v. sets 0 s x v)
  statement_leads ts (Get x p) s = with_leads 1 s (key_of ts s.variables p) _ (λ k. one_more s.rows s.accesses (Reads k) (read_row s x k) refl refl)
  statement_leads ts (Put p e) s =
      with_leads 1 s (key_of ts s.variables p) _ (λ k. with_leads 1 s (value_of s.variables e) _ (λ v. one_more s.rows s.accesses (Writes k v) (write_row s k v) refl refl))
  statement_leads ts (Delete p) s = with_leads 1 s (key_of ts s.variables p) _ (λ k. one_more s.rows s.accesses (Writes k None) (write_row s k None) refl refl)
  statement_leads ts (If e a) s =
      with_leads (key_weight a) s (and_then (value_of s.variables e) number_of) _ (λ z. if_leads (key_weight a) s (is_true z) (statements_flow ts a s) (Goes s) (statements_lead ts a s) (stays (key_weight a) s))
  statement_leads ts (IfElse e a b) s =
      let w = max (key_weight a) (key_weight b) in
      with_leads w s (and_then (value_of s.variables e) number_of) _ (λ z. if_leads w s (is_true z) (statements_flow ts a s) (statements_flow ts b s)
      (wider (key_weight a) w s (statements_flow ts a s) (omega arith) (statements_lead ts a s))
      (wider (key_weight b) w s (statements_flow ts b s) (omega arith) (statements_lead ts b s)))
  statement_leads ts (Repeat n x body) s = turns_lead (key_weight body) (λ t. statements_flow ts body t) x (λ t. statements_lead ts body t) n 0 s
  statement_leads ts (Refuse n) s = stays 0 s
  statement_leads ts (Reply e) s = with_leads 0 s (value_of s.variables e) _ (λ v. stays 0 s)

  pub statements_lead : (ts : List (List ℕ)) (b : Statements) (s : State) → LeadsTo (key_weight b) s (statements_flow ts b s)
  statements_lead ts End s = stays 0 s
  statements_lead ts (Then first rest) s =
      after_leads (statement_weight first) (key_weight rest) s (statement_flow ts first s) (λ t. statements_flow ts rest t) (statement_leads ts first s) (λ t. statements_lead ts rest t)
