-- A run on a map comes to what its state goes on to from the start.
use Rattle.std.proofs.Common.{◌≡◌, ℕ, zero, suc, ◌+◌, Bool, true, false, cond, ◌||◌, if◌then◌else◌, nat_eq, nat_lt, List, [], ◌∷◌, ◌++◌, length, Option, None, Some, Ok, Err, refl, sym, ap, ◌∙◌, subst, ℤ, pos, not, neg_ℤ, ◌⊎◌, inl, inr, ⊎_elim, Ordering, Less, Equal, Greater, is_eq, arith}
use Rattle.std.specs.Prelude.{is_some, unwrap_or}
use Rattle.std.specs.List.{list_any}
use Rattle.std.specs.Ordering.{match_ordering}
use Rattle.std.specs.Cmp.Lexicographic.{pointwise, bytes_decides}
use Rattle.std.proofs.lemmas.Bool.{and_parts}
use Rattle.std.proofs.lemmas.Bool.Decides.{nat_tests}
use Rattle.std.proofs.lemmas.List.{append-nil, map-append}
use Rattle.coco_types.proofs.Keys.{keys_exact, one_key, key_itself}
use Rattle.coco_types.specs.RowKey.{RowKey, key_cmp}
use Rattle.coco_types.specs.declared.call.Reply.TheVariants.{Ok as Answers, Refused}
use Rattle.coco_types.specs.declared.call.Write.{Write}
use Rattle.coco_types.specs.declared.value.Value.TheVariants.{Int}
use Rattle.coco_ast.proofs.Writing.{value_written}
use Rattle.coco_ast.specs.Keyed.{Rows, value_at}
use Rattle.coco_ast.specs.Meaning.{Datum, Computed, Variables, variable_at, value_of, and_then, number_of, is_true, truth, within_range, combined, key_of, row_key, place_of, is_key, Access, Reads, Writes, State, Flow, Goes, Ends, Refuses, set_variable, read_row, write_row, with, after, turns, statement_flow, statements_flow, needs_after, put_write, writes_after}
use Rattle.coco_ast.specs.Tree.{Expression, Number, Quoted, None as Nothing, Variable, Not, Negate, Two, RowPlace, Statement, Let, Get, Put, Delete, If, IfElse, Repeat, Refuse, Reply as Replies, Statements, End, Then}
use Rattle.coco_eval.specs.Places.{Kept, written_at, given_at, or_else, known_at, with_variable, with_given, with_write, Onward, behind, read, chosen, runs_one, runs}
use Rattle.coco_eval.specs.Places as on
use Rattle.coco_ast.specs.Plans.{has_slot, has_slots_in, has_slots}
use Rattle.coco_eval.specs.Slots.{names_in, set_at}
use Rattle.coco_eval.proofs.SlotLemmas.{names_set}
use Rattle.coco_eval.specs.Standing.{keys_of}
use Rattle.coco_eval.specs.declared.machine.Given.{Given}

-- ---- variables

same_name : (x y : List ℕ) → pointwise nat_eq x y ≡ true → x ≡ y
same_name x y e = (bytes_decides x y).0 e

own_name : (x : List ℕ) → pointwise nat_eq x x ≡ true
own_name x = (bytes_decides x x).1 refl

twice : {A : Type 0} (b : Bool) (p q r : A) → cond b p (cond b q r) ≡ cond b p r
twice true p q r = refl
twice false p q r = refl

either : {A : Type 0} (a b : Bool) (v w o : A) → (a ≡ true → b ≡ true → ⊥) → cond a v (cond b w o) ≡ cond b w (cond a v o)
either true true v w o apart = absurd (apart refl refl)
either true false v w o apart = refl
either false b v w o apart = refl

-- a name has a slot if it is the first one, or has one behind
first_or : (a : Bool) (place count : ℕ) → nat_lt (cond a 0 (suc place)) (suc count) ≡ cond a true (nat_lt place count)
first_or true place count = let h : nat_lt 0 (suc count) ≡ true = grind (arith, nat_tests) in h
first_or false place count = let h : nat_lt (suc place) (suc count) ≡ nat_lt place count = grind (arith, nat_tests) in h

-- what a variable is where another was set
variable_at-set : (vs : Variables) (x : List ℕ) (d : Datum) (y : List ℕ) → has_slot (names_in vs) x ≡ true → variable_at (set_at vs x d) y ≡ cond (pointwise nat_eq x y) d (variable_at vs y)
variable_at-set [] x d y h = let e : false ≡ true = h in cc
variable_at-set (v ∷ vs) x d y h = step (variable_at-set vs x d y) (pointwise nat_eq v.0 x) refl (sym (first_or (pointwise nat_eq v.0 x) (place_of (names_in vs) x) (length (names_in vs))) ∙ h)
  where
    step : (has_slot (names_in vs) x ≡ true → variable_at (set_at vs x d) y ≡ cond (pointwise nat_eq x y) d (variable_at vs y)) → (a : Bool) → pointwise nat_eq v.0 x ≡ a → cond a true (has_slot (names_in vs) x) ≡ true
        → variable_at (cond a ((v.0, d) ∷ vs) (v ∷ set_at vs x d)) y ≡ cond (pointwise nat_eq x y) d (cond (pointwise nat_eq v.0 y) v.1 (variable_at vs y))
    step rest true is there =
        ap (λ (z : List ℕ). cond (pointwise nat_eq z y) d (variable_at vs y)) (same_name v.0 x is) ∙ sym (twice (pointwise nat_eq x y) d v.1 (variable_at vs y))
        ∙ ap (λ (z : List ℕ). cond (pointwise nat_eq x y) d (cond (pointwise nat_eq z y) v.1 (variable_at vs y))) (sym (same_name v.0 x is))
    step rest false is there =
        ap (cond (pointwise nat_eq v.0 y) v.1) (rest there)
        ∙ either (pointwise nat_eq v.0 y) (pointwise nat_eq x y) v.1 d (variable_at vs y)
        (λ at_v at_x. let e : false ≡ true = sym is ∙ ap (λ (z : List ℕ). pointwise nat_eq z x) (same_name v.0 y at_v ∙ sym (same_name x y at_x)) ∙ own_name x in cc)

has_slot-set : (vs : Variables) (x : List ℕ) (d : Datum) (y : List ℕ) → has_slot (names_in (set_at vs x d)) y ≡ has_slot (names_in vs) y
has_slot-set vs x d y = ap (λ (ns : List (List ℕ)). has_slot ns y) (names_set vs x d)

-- an expression has one value where variables have
value_of-same : (vs ws : Variables) → ((x : List ℕ) → variable_at vs x ≡ variable_at ws x) → (e : Expression) → value_of vs e ≡ value_of ws e
value_of-same vs ws same (Number n) = refl
value_of-same vs ws same (Quoted bytes) = refl
value_of-same vs ws same Nothing = refl
value_of-same vs ws same (Variable x) = ap (λ (d : Datum). Ok d) (same x)
value_of-same vs ws same (Not e) = ap (λ (c : Computed Datum). and_then c (λ v. and_then (number_of v) (λ z. truth (not (is_true z))))) (value_of-same vs ws same e)
value_of-same vs ws same (Negate e) = ap (λ (c : Computed Datum). and_then c (λ v. and_then (number_of v) (λ z. within_range (neg_ℤ z)))) (value_of-same vs ws same e)
value_of-same vs ws same (Two sign l r) =
    ap (λ (c : Computed Datum). and_then c (λ a. and_then (value_of vs r) (λ b. combined sign a b))) (value_of-same vs ws same l)
    ∙ ap (λ (c : Computed Datum). and_then (value_of ws l) (λ a. and_then c (λ b. combined sign a b))) (value_of-same vs ws same r)

key_of-same : (ts : List (List ℕ)) (vs ws : Variables) → ((x : List ℕ) → variable_at vs x ≡ variable_at ws x) → (p : RowPlace) → key_of ts vs p ≡ key_of ts ws p
key_of-same ts vs ws same p = ap (λ (c : Computed Datum). and_then c (λ v. row_key (place_of ts p.table) v)) (value_of-same vs ws same p.row)

-- ---- writes and what was given

written_at-put : (k : RowKey) (v : Datum) (ws : List Write) (q : RowKey) → written_at (put_write k v ws) q ≡ cond (is_key q k) (Some v) (written_at ws q)
written_at-put k v [] q = refl
written_at-put k v (w ∷ ws) q = step (written_at-put k v ws q) (key_cmp k w.key) refl
  where
    step : written_at (put_write k v ws) q ≡ cond (is_key q k) (Some v) (written_at ws q) → (o : Ordering) → key_cmp k w.key ≡ o
        → written_at (match_ordering o (record { key = k; value = v } ∷ w ∷ ws) (record { key = k; value = v } ∷ ws) (w ∷ put_write k v ws)) q ≡ cond (is_key q k) (Some v) (written_at (w ∷ ws) q)
    step rest Less e = refl
    step rest Equal e = sym (ap (λ (j : RowKey). cond (is_key q k) (Some v) (cond (is_key q j) (Some w.value) (written_at ws q))) (sym (keys_exact k w.key e)) ∙ twice (is_key q k) (Some v) (Some w.value) (written_at ws q))
    step rest Greater e =
        ap (cond (is_key q w.key) (Some w.value)) rest
        ∙ either (is_key q w.key) (is_key q k) (Some w.value) (Some v) (written_at ws q)
        (λ at_w at_k. let h : is_eq (key_cmp k w.key) ≡ true = ap (λ (j : RowKey). is_key k j) (sym (one_key q w.key at_w) ∙ one_key q k at_k) ∙ key_itself k in
        let g : false ≡ true = sym (ap is_eq e) ∙ h in cc)

given_at-more : (gs : List Given) (g : Given) (q : RowKey) → given_at (gs ++ g ∷ []) q ≡ or_else (given_at gs q) (cond (is_key q g.key) (Some g.value) None)
given_at-more [] g q = refl
given_at-more (h ∷ gs) g q = step (given_at-more gs g q) (is_key q h.key)
  where
    step : given_at (gs ++ g ∷ []) q ≡ or_else (given_at gs q) (cond (is_key q g.key) (Some g.value) None) → (b : Bool) → cond b (Some h.value) (given_at (gs ++ g ∷ []) q) ≡ or_else (cond b (Some h.value) (given_at gs q)) (cond (is_key q g.key) (Some g.value) None)
    step rest true = refl
    step rest false = rest

-- ---- accesses

abbrev seen_after : List RowKey → List Access → List RowKey
seen_after seen [] = seen
seen_after seen (Reads k ∷ xs) = cond (list_any (is_key k) seen) (seen_after seen xs) (seen_after (k ∷ seen) xs)
seen_after seen (Writes k v ∷ xs) = seen_after (k ∷ seen) xs

needs_after-append : (xs ys : List Access) (seen : List RowKey) → needs_after seen (xs ++ ys) ≡ needs_after seen xs ++ needs_after (seen_after seen xs) ys
needs_after-append [] ys seen = refl
needs_after-append (Reads k ∷ xs) ys seen = step (λ s. needs_after-append xs ys s) (list_any (is_key k) seen)
  where
    step : ((s : List RowKey) → needs_after s (xs ++ ys) ≡ needs_after s xs ++ needs_after (seen_after s xs) ys) → (b : Bool) → cond b (needs_after seen (xs ++ ys)) (k ∷ needs_after (k ∷ seen) (xs ++ ys)) ≡ cond b (needs_after seen xs) (k ∷ needs_after (k ∷ seen) xs) ++ needs_after (cond b (seen_after seen xs) (seen_after (k ∷ seen) xs)) ys
    step rest true = rest seen
    step rest false = ap (λ (ks : List RowKey). k ∷ ks) (rest (k ∷ seen))
needs_after-append (Writes k v ∷ xs) ys seen = needs_after-append xs ys (k ∷ seen)

seen_after-append : (xs ys : List Access) (seen : List RowKey) → seen_after seen (xs ++ ys) ≡ seen_after (seen_after seen xs) ys
seen_after-append [] ys seen = refl
seen_after-append (Reads k ∷ xs) ys seen = step (λ s. seen_after-append xs ys s) (list_any (is_key k) seen)
  where
    step : ((s : List RowKey) → seen_after s (xs ++ ys) ≡ seen_after (seen_after s xs) ys) → (b : Bool) → cond b (seen_after seen (xs ++ ys)) (seen_after (k ∷ seen) (xs ++ ys)) ≡ seen_after (cond b (seen_after seen xs) (seen_after (k ∷ seen) xs)) ys
    step rest true = rest seen
    step rest false = rest (k ∷ seen)
seen_after-append (Writes k v ∷ xs) ys seen = seen_after-append xs ys (k ∷ seen)

writes_after-append : (xs ys : List Access) (ws : List Write) → writes_after ws (xs ++ ys) ≡ writes_after (writes_after ws xs) ys
writes_after-append [] ys ws = refl
writes_after-append (Reads k ∷ xs) ys ws = writes_after-append xs ys ws
writes_after-append (Writes k v ∷ xs) ys ws = writes_after-append xs ys (put_write k v ws)

-- ---- states

known_some : (o p : Option Datum) (b : Bool) (d : Datum) → is_some (or_else o (or_else p (cond b (Some d) None))) ≡ b || is_some (or_else o p)
known_some (Some e) p true d = refl
known_some (Some e) p false d = refl
known_some None (Some e) true d = refl
known_some None (Some e) false d = refl
known_some None None true d = refl
known_some None None false d = refl

written_some : (o p : Option Datum) (b : Bool) (d : Datum) → is_some (or_else (cond b (Some d) o) p) ≡ b || is_some (or_else o p)
written_some o p true d = refl
written_some o p false d = refl

or_given : (o : Option Datum) (b : Bool) (d e : Datum) → or_else o (cond b (Some d) None) ≡ Some e → (o ≡ Some e) ⊎ ((b ≡ true) × (d ≡ e))
or_given (Some c) b d e h = inl h
or_given None true d e h = inr (refl, (let g : Some d ≡ Some e = h in cc))
or_given None false d e h = let g : None ≡ Some e = h in absurd (let f : false ≡ true = ap is_some g in cc)

no_more : (ks : List RowKey) → ks ++ [] ≡ ks
no_more ks = append-nil ks

module _ (m : Rows) (slots : Variables) where
  -- a state of the meaning, and what is kept of it
  pub record Alike (s : State) (c : Kept) : Type 0 where
    pub variables : (x : List ℕ) → variable_at s.variables x ≡ variable_at c.variables x
    pub slots_stay : (x : List ℕ) → has_slot (names_in c.variables) x ≡ has_slot (names_in slots) x
    pub rows : (k : RowKey) → value_at s.rows k ≡ unwrap_or (written_at c.writes k) (value_at m k)
    pub needs : needs_after [] s.accesses ≡ keys_of c.given
    pub writes : writes_after [] s.accesses ≡ c.writes
    pub seen : (k : RowKey) → list_any (is_key k) (seen_after [] s.accesses) ≡ is_some (known_at c k)
    pub given : (k : RowKey) (d : Datum) → given_at c.given k ≡ Some d → d ≡ value_at m k

  abbrev pub FlowsAlike : Flow → Onward → Type 0
  FlowsAlike (Goes s) (on.Goes c) = Alike s c
  FlowsAlike (Ends s v) (on.Ends c r) = Alike s c × (r ≡ Answers v)
  FlowsAlike (Refuses s e) (on.Ends c r) = Alike s c × (r ≡ Refused e)
  FlowsAlike _ _ = ⊥

  set_alike : (s : State) (c : Kept) (x : List ℕ) (d : Datum) → has_slot (names_in slots) x ≡ true → Alike s c → Alike (set_variable s x d) (with_variable c x d)
  set_alike s c x d there a = record {
    variables = λ y. ap (cond (pointwise nat_eq x y) d) (a.variables y) ∙ sym (variable_at-set c.variables x d y (a.slots_stay x ∙ there));
    slots_stay = λ y. has_slot-set c.variables x d y ∙ a.slots_stay y;
    rows = a.rows;
    needs = a.needs;
    writes = a.writes;
    seen = a.seen;
    given = a.given;
  }

  write_alike : (s : State) (c : Kept) (k : RowKey) (v : Datum) → Alike s c → Alike (write_row s k v) (with_write c k v)
  write_alike s c k v a = record {
    variables = a.variables;
    slots_stay = a.slots_stay;
    rows = λ q. value_written s.rows k v q ∙ ap (cond (is_key q k) v) (a.rows q) ∙ unwrapped (is_key q k) (written_at c.writes q) (value_at m q) ∙ ap (λ (o : Option Datum). unwrap_or o (value_at m q)) (sym (written_at-put k v c.writes q));
    needs = needs_after-append s.accesses (Writes k v ∷ []) [] ∙ no_more (needs_after [] s.accesses) ∙ a.needs;
    writes = writes_after-append s.accesses (Writes k v ∷ []) [] ∙ ap (put_write k v) a.writes;
    seen = λ q. ap (list_any (is_key q)) (seen_after-append s.accesses (Writes k v ∷ []) []) ∙ ap (λ (b : Bool). is_key q k || b) (a.seen q)
        ∙ sym (ap (λ (o : Option Datum). is_some (or_else o (given_at c.given q))) (written_at-put k v c.writes q) ∙ written_some (written_at c.writes q) (given_at c.given q) (is_key q k) v);
    given = a.given;
  }
    where
      unwrapped : (b : Bool) (o : Option Datum) (e : Datum) → cond b v (unwrap_or o e) ≡ unwrap_or (cond b (Some v) o) e
      unwrapped true o e = refl
      unwrapped false o e = refl

  -- a key that is known is read
  known_alike : (s : State) (c : Kept) (x : List ℕ) (k : RowKey) (d : Datum) → has_slot (names_in slots) x ≡ true → Alike s c → value_at s.rows k ≡ d → is_some (known_at c k) ≡ true → Alike (read_row s x k) (with_variable c x d)
  known_alike s c x k d there a is known =
      let seen : list_any (is_key k) (seen_after [] s.accesses) ≡ true = a.seen k ∙ known in
      record {
        variables = λ y. ap (cond (pointwise nat_eq x y) (value_at s.rows k)) (a.variables y) ∙ ap (λ (e : Datum). cond (pointwise nat_eq x y) e (variable_at c.variables y)) is ∙ sym (variable_at-set c.variables x d y (a.slots_stay x ∙ there));
        slots_stay = λ y. has_slot-set c.variables x d y ∙ a.slots_stay y;
        rows = a.rows;
        needs = needs_after-append s.accesses (Reads k ∷ []) [] ∙ ap (λ (b : Bool). needs_after [] s.accesses ++ cond b [] (k ∷ [])) seen ∙ no_more (needs_after [] s.accesses) ∙ a.needs;
        writes = writes_after-append s.accesses (Reads k ∷ []) [] ∙ a.writes;
        seen = λ q. ap (list_any (is_key q)) (seen_after-append s.accesses (Reads k ∷ []) [] ∙ ap (λ (b : Bool). cond b (seen_after [] s.accesses) (k ∷ seen_after [] s.accesses)) seen) ∙ a.seen q;
        given = a.given;
      }

  -- a key that isn't known is asked for
  fresh_alike : (s : State) (c : Kept) (x : List ℕ) (k : RowKey) → has_slot (names_in slots) x ≡ true → Alike s c → value_at s.rows k ≡ value_at m k → is_some (known_at c k) ≡ false
      → Alike (read_row s x k) (with_variable (with_given c k (value_at m k)) x (value_at m k))
  fresh_alike s c x k there a is known =
      let d = value_at m k in let seen : list_any (is_key k) (seen_after [] s.accesses) ≡ false = a.seen k ∙ known in
      record {
        variables = λ y. ap (cond (pointwise nat_eq x y) (value_at s.rows k)) (a.variables y) ∙ ap (λ (e : Datum). cond (pointwise nat_eq x y) e (variable_at c.variables y)) is ∙ sym (variable_at-set c.variables x d y (a.slots_stay x ∙ there));
        slots_stay = λ y. has_slot-set c.variables x d y ∙ a.slots_stay y;
        rows = a.rows;
        needs = needs_after-append s.accesses (Reads k ∷ []) [] ∙ ap (λ (b : Bool). needs_after [] s.accesses ++ cond b [] (k ∷ [])) seen ∙ ap (λ (ks : List RowKey). ks ++ k ∷ []) a.needs
            ∙ sym (map-append (λ (g : Given). g.key) c.given (record { key = k; value = d } ∷ []));
        writes = writes_after-append s.accesses (Reads k ∷ []) [] ∙ a.writes;
        seen = λ q. ap (list_any (is_key q)) (seen_after-append s.accesses (Reads k ∷ []) [] ∙ ap (λ (b : Bool). cond b (seen_after [] s.accesses) (k ∷ seen_after [] s.accesses)) seen)
            ∙ ap (λ (b : Bool). is_key q k || b) (a.seen q)
            ∙ sym (ap (λ (o : Option Datum). is_some (or_else (written_at c.writes q) o)) (given_at-more c.given (record { key = k; value = d }) q) ∙ known_some (written_at c.writes q) (given_at c.given q) (is_key q k) d);
        given = λ q e h. ⊎_elim (λ old. a.given q e old) (λ new. sym new.1 ∙ ap (value_at m) (sym (one_key q k new.0)))
            (or_given (given_at c.given q) (is_key q k) d e (sym (given_at-more c.given (record { key = k; value = d }) q) ∙ h));
      }

  read_alike : (s : State) (c : Kept) (x : List ℕ) (k : RowKey) → has_slot (names_in slots) x ≡ true → Alike s c → FlowsAlike (Goes (read_row s x k)) (read m c x k (known_at c k))
  read_alike s c x k there a = by (written_at c.writes k) (given_at c.given k) refl refl
    where
      by : (w g : Option Datum) → written_at c.writes k ≡ w → given_at c.given k ≡ g → FlowsAlike (Goes (read_row s x k)) (read m c x k (or_else w g))
      by (Some d) g w_is g_is = known_alike s c x k d there a (a.rows k ∙ ap (λ (o : Option Datum). unwrap_or o (value_at m k)) w_is) (ap (λ (o : Option Datum). is_some (or_else o (given_at c.given k))) w_is)
      by None (Some d) w_is g_is = known_alike s c x k d there a (a.rows k ∙ ap (λ (o : Option Datum). unwrap_or o (value_at m k)) w_is ∙ sym (a.given k d g_is))
          (ap (λ (o : Option Datum). is_some (or_else o (given_at c.given k))) w_is ∙ ap is_some g_is)
      by None None w_is g_is = fresh_alike s c x k there a (a.rows k ∙ ap (λ (o : Option Datum). unwrap_or o (value_at m k)) w_is)
          (ap (λ (o : Option Datum). is_some (or_else o (given_at c.given k))) w_is ∙ ap is_some g_is)

  -- ---- flows

  with_alike : {A : Type 0} (s : State) (c : Kept) (q r : Computed A) (f : A → Flow) (g : A → Onward) → q ≡ r → Alike s c → ((x : A) → FlowsAlike (f x) (g x)) → FlowsAlike (with s q f) (on.with c r g)
  with_alike {A} s c q r f g is a all = subst (λ (z : Computed A). FlowsAlike (with s q f) (on.with c z g)) is (by q)
    where
      by : (z : Computed A) → FlowsAlike (with s z f) (on.with c z g)
      by (Ok x) = all x
      by (Err e) = (a, refl)

  chosen_alike : (s : State) (c : Kept) (q : Computed ℤ) (f : ℤ → Flow) (g : Bool → Onward) → Alike s c → ((z : ℤ) → FlowsAlike (f z) (g (is_true z))) → FlowsAlike (with s q f) (on.with c (and_then q (λ z. Ok (is_true z))) g)
  chosen_alike s c (Ok z) f g a all = all z
  chosen_alike s c (Err e) f g a all = (a, refl)

  if_alike : (b : Bool) (f h : Flow) (g k : Onward) → FlowsAlike f g → FlowsAlike h k → FlowsAlike (if b then f else h) (if b then g else k)
  if_alike true f h g k one other = one
  if_alike false f h g k one other = other

  after_alike : (f : Flow) (o : Onward) (g : State → Flow) (k : Kept → Onward) → FlowsAlike f o → ((s : State) (c : Kept) → Alike s c → FlowsAlike (g s) (k c)) → FlowsAlike (after f g) (behind o k)
  after_alike (Goes s) (on.Goes c) g k a all = all s c a
  after_alike (Goes s) (on.Ends c r) g k a all = absurd a
  after_alike (Ends s v) (on.Goes c) g k a all = absurd a
  after_alike (Ends s v) (on.Ends c r) g k a all = a
  after_alike (Refuses s e) (on.Goes c) g k a all = absurd a
  after_alike (Refuses s e) (on.Ends c r) g k a all = a

  turns_alike : (x : List ℕ) → has_slot (names_in slots) x ≡ true → (body : State → Flow) (part : Kept → Onward) → ((s : State) (c : Kept) → Alike s c → FlowsAlike (body s) (part c))
      → (n i : ℕ) (s : State) (c : Kept) → Alike s c → FlowsAlike (turns body x n i s) (on.turns part x n i c)
  turns_alike x there body part all zero i s c a = a
  turns_alike x there body part all (suc n) i s c a =
      after_alike (body (set_variable s x (Some (Int (pos i))))) (part (with_variable c x (Some (Int (pos i))))) _ _ (all _ _ (set_alike s c x (Some (Int (pos i))) there a)) (λ t d b. turns_alike x there body part all n (i + 1) t d b)

  mutual
    one_alike : (ts : List (List ℕ)) (t : Statement) (s : State) (c : Kept) → has_slots_in (names_in slots) t ≡ true → Alike s c → FlowsAlike (statement_flow ts t s) (runs_one m ts t c)
    one_alike ts (Let x e) s c there a = with_alike s c _ _ _ _ (value_of-same s.variables c.variables a.variables e) a (λ d. set_alike s c x d there a)
    one_alike ts (Get x p) s c there a = with_alike s c _ _ _ _ (key_of-same ts s.variables c.variables a.variables p) a (λ k. read_alike s c x k there a)
    one_alike ts (Put p e) s c there a = with_alike s c _ _ _ _ (key_of-same ts s.variables c.variables a.variables p) a (λ k. with_alike s c _ _ _ _ (value_of-same s.variables c.variables a.variables e) a (λ d. write_alike s c k d a))
    one_alike ts (Delete p) s c there a = with_alike s c _ _ _ _ (key_of-same ts s.variables c.variables a.variables p) a (λ k. write_alike s c k None a)
    one_alike ts (If e b) s c there a =
        subst (λ (q : Computed Datum). FlowsAlike (with s (and_then q number_of) (λ z. if is_true z then statements_flow ts b s else Goes s)) (runs_one m ts (If e b) c)) (sym (value_of-same s.variables c.variables a.variables e))
        (chosen_alike s c (and_then (value_of c.variables e) number_of) _ _ a (λ z. if_alike (is_true z) _ _ _ _ (all_alike ts b s c there a) a))
    one_alike ts (IfElse e b d) s c there a =
        let both = and_parts (has_slots (names_in slots) b) (has_slots (names_in slots) d) there in
        subst (λ (q : Computed Datum). FlowsAlike (with s (and_then q number_of) (λ z. if is_true z then statements_flow ts b s else statements_flow ts d s)) (runs_one m ts (IfElse e b d) c)) (sym (value_of-same s.variables c.variables a.variables e))
        (chosen_alike s c (and_then (value_of c.variables e) number_of) _ _ a (λ z. if_alike (is_true z) _ _ _ _ (all_alike ts b s c both.0 a) (all_alike ts d s c both.1 a)))
    one_alike ts (Repeat n x b) s c there a =
        let both = and_parts (has_slot (names_in slots) x) (has_slots (names_in slots) b) there in
        turns_alike x both.0 (λ t. statements_flow ts b t) (λ d. runs m ts b d) (λ t d h. all_alike ts b t d both.1 h) n 0 s c a
    one_alike ts (Refuse n) s c there a = (a, refl)
    one_alike ts (Replies e) s c there a = with_alike s c _ _ _ _ (value_of-same s.variables c.variables a.variables e) a (λ v. (a, refl))

    pub all_alike : (ts : List (List ℕ)) (b : Statements) (s : State) (c : Kept) → has_slots (names_in slots) b ≡ true → Alike s c → FlowsAlike (statements_flow ts b s) (runs m ts b c)
    all_alike ts End s c there a = a
    all_alike ts (Then first rest) s c there a =
        let both = and_parts (has_slots_in (names_in slots) first) (has_slots (names_in slots) rest) there in
        after_alike (statement_flow ts first s) (runs_one m ts first c) _ _ (one_alike ts first s c both.0 a) (λ t d b. all_alike ts rest t d both.1 b)
