-- The walk over statements stops at the first one that is wrong, and at the first kind that is wrong with it.
use Rattle.std.proofs.Common.{◌≡◌, ℕ, zero, suc, ◌+◌, ◌*◌, ◌<◌, ◌⊎◌, inl, inr, ⊎_elim, if◌then◌else◌, Bool, true, false, not, ◌&&◌, ◌||◌, nat_eq, nat_lt, List, [], ◌∷◌, ◌++◌, take, Option, None, Some, slice_get, refl, sym, subst, arith, append_assoc, append-nil}
use Rattle.std.specs.List.{flat_map}
use Rattle.std.proofs.lemmas.Bool.Decides.{nat_tests}
use Rattle.coco_ast.specs.declared.error.CheckKind.{CheckKind}
use Rattle.coco_ast.specs.declared.error.CheckKind.TheVariants.{UnknownName, Twice, TooManyKeys, RepeatBound, NoReply}
use Rattle.coco_ast.specs.Tree.{Statement, Let, Get, Put, Delete, If, IfElse, Repeat, Refuse, Reply}
use Rattle.coco_ast.specs.Checks.{Placed, IsBadRepeat, IsStatementError, has_unknown, kind_number, own_tables, own_variables, set_by}
use Rattle.coco_check.specs.Search.{Names, Walk, Fault, and_then, step_of, stepped, walk, fault_of, kind_at, knows_names, repeats_badly, is_bad_bound}
use Rattle.coco_check.proofs.NameSets.{Same, same_with_names, has_all-unknown}

-- ---- the first kind

abbrev pub IsFirstKind : (CheckKind → Type 0) → Option CheckKind → Type 0
IsFirstKind E None = (k : CheckKind) → E k → ⊥
IsFirstKind E (Some k) = E k × ((l : CheckKind) → E l → (l ≡ k) ⊎ (kind_number k < kind_number l))

-- a kind of two may hold, of which the first is decided by whether names are known, and the second by a test
pub record AreKindsOf (E : CheckKind → Type 0) (knows bad : Bool) : Type 0 where
  pub unknown : knows ≡ false → E UnknownName
  pub known : knows ≡ true → E UnknownName → ⊥
  pub is_bad : bad ≡ true → E RepeatBound
  pub is_good : bad ≡ false → E RepeatBound → ⊥
  pub no_twice : E Twice → ⊥
  pub no_weight : (count : ℕ) → E (TooManyKeys count) → ⊥
  pub no_reply : E NoReply → ⊥

behind_unknown : (l : CheckKind) → (l ≡ UnknownName) ⊎ (kind_number UnknownName < kind_number l)
behind_unknown UnknownName = inl refl
behind_unknown Twice = inr (omega arith)
behind_unknown (TooManyKeys count) = inr (omega arith)
behind_unknown RepeatBound = inr (omega arith)
behind_unknown NoReply = inr (omega arith)

only_repeat : (E : CheckKind → Type 0) (bad : Bool) → AreKindsOf E true bad → (l : CheckKind) → E l → (l ≡ RepeatBound) ⊎ (kind_number RepeatBound < kind_number l)
only_repeat E bad k UnknownName h = absurd (k.known refl h)
only_repeat E bad k Twice h = absurd (k.no_twice h)
only_repeat E bad k (TooManyKeys count) h = absurd (k.no_weight count h)
only_repeat E bad k RepeatBound h = inl refl
only_repeat E bad k NoReply h = absurd (k.no_reply h)

no_kind : (E : CheckKind → Type 0) → AreKindsOf E true false → (l : CheckKind) → E l → ⊥
no_kind E k UnknownName h = k.known refl h
no_kind E k Twice h = k.no_twice h
no_kind E k (TooManyKeys count) h = k.no_weight count h
no_kind E k RepeatBound h = k.is_good refl h
no_kind E k NoReply h = k.no_reply h

first_of_two : (E : CheckKind → Type 0) (knows bad : Bool) → AreKindsOf E knows bad → IsFirstKind E (if knows then (if bad then Some RepeatBound else None) else Some UnknownName)
first_of_two E false bad k = (k.unknown refl, λ l h. behind_unknown l)
first_of_two E true true k = (k.is_bad refl, only_repeat E true k)
first_of_two E true false k = no_kind E k

-- ---- the kinds of a statement

abbrev BadBound : ℕ → ℕ → Type 0
BadBound around n = (n ≡ 0) ⊎ ((64 < n) ⊎ (4096 < around * n))

or_true : (a b c : Bool) → a || (b || c) ≡ true → (a ≡ true) ⊎ ((b ≡ true) ⊎ (c ≡ true))
or_true true b c h = inl refl
or_true false true c h = inr (inl refl)
or_true false false c h = inr (inr h)

or_false : (a b c : Bool) → a || (b || c) ≡ false → (a ≡ false) × (b ≡ false) × (c ≡ false)
or_false true b c h = let e : true ≡ false = h in cc
or_false false true c h = let e : true ≡ false = h in cc
or_false false false c h = (refl, refl, h)

is_zero : (n : ℕ) → nat_eq n 0 ≡ true → n ≡ 0
is_zero n h = grind (arith, nat_tests)

is_not_zero : (n : ℕ) → nat_eq n 0 ≡ false → n ≡ 0 → ⊥
is_not_zero n h e = grind (arith, nat_tests)

is_above : (m n : ℕ) → nat_lt m n ≡ true → m < n
is_above m n h = grind (arith, nat_tests)

is_not_above : (m n : ℕ) → nat_lt m n ≡ false → m < n → ⊥
is_not_above m n h below = grind (arith, nat_tests)

bad_bound : (around n : ℕ) → is_bad_bound around n ≡ true → BadBound around n
bad_bound around n h =
    ⊎_elim (λ e. inl (is_zero n e)) (⊎_elim (λ e. inr (inl (is_above 64 n e))) (λ e. inr (inr (is_above 4096 (around * n) e))))
    (or_true (nat_eq n 0) (nat_lt 64 n) (nat_lt 4096 (around * n)) h)

good_bound : (around n : ℕ) → is_bad_bound around n ≡ false → BadBound around n → ⊥
good_bound around n h b =
    let p = or_false (nat_eq n 0) (nat_lt 64 n) (nat_lt 4096 (around * n)) h in
    ⊎_elim (is_not_zero n p.0) (⊎_elim (is_not_above 64 n p.1) (is_not_above 4096 (around * n) p.2)) b

bad_repeat : (n : ℕ) (s : Statement) → repeats_badly n s ≡ true → IsBadRepeat (record { statement = s; around = n })
bad_repeat n (Let x e) h = let e : false ≡ true = h in cc
bad_repeat n (Get x p) h = let e : false ≡ true = h in cc
bad_repeat n (Put p e) h = let e : false ≡ true = h in cc
bad_repeat n (Delete p) h = let e : false ≡ true = h in cc
bad_repeat n (If e a) h = let e : false ≡ true = h in cc
bad_repeat n (IfElse e a b) h = let e : false ≡ true = h in cc
bad_repeat n (Repeat m x body) h = (m, x, body, refl, bad_bound n m h)
bad_repeat n (Refuse m) h = let e : false ≡ true = h in cc
bad_repeat n (Reply e) h = let e : false ≡ true = h in cc

good_repeat : (n : ℕ) (s : Statement) → repeats_badly n s ≡ false → IsBadRepeat (record { statement = s; around = n }) → ⊥
good_repeat n (Let x e) h b = let e : Let x e ≡ Repeat b.0 b.1 b.2 = b.3 in cc
good_repeat n (Get x p) h b = let e : Get x p ≡ Repeat b.0 b.1 b.2 = b.3 in cc
good_repeat n (Put p e) h b = let e : Put p e ≡ Repeat b.0 b.1 b.2 = b.3 in cc
good_repeat n (Delete p) h b = let e : Delete p ≡ Repeat b.0 b.1 b.2 = b.3 in cc
good_repeat n (If e a) h b = let e : If e a ≡ Repeat b.0 b.1 b.2 = b.3 in cc
good_repeat n (IfElse e a c) h b = let e : IfElse e a c ≡ Repeat b.0 b.1 b.2 = b.3 in cc
good_repeat n (Repeat m x body) h b =
    let e : Repeat m x body ≡ Repeat b.0 b.1 b.2 = b.3 in
    let same : m ≡ b.0 = cc in
    good_bound n m h (subst (BadBound n) (sym same) b.4)
good_repeat n (Refuse m) h b = let e : Refuse m ≡ Repeat b.0 b.1 b.2 = b.3 in cc
good_repeat n (Reply e) h b = let e : Reply e ≡ Repeat b.0 b.1 b.2 = b.3 in cc

unknown_of : (k t v : Bool) → k ≡ (not t && not v) → k ≡ false → t || v ≡ true
unknown_of k true v e h = refl
unknown_of k false true e h = refl
unknown_of k false false e h = cc

known_of : (k t v : Bool) → k ≡ (not t && not v) → k ≡ true → t || v ≡ true → ⊥
known_of k true v e h u = cc
known_of k false true e h u = cc
known_of k false false e h u = let e : false ≡ true = u in cc

both : (a b c d : Bool) → a ≡ c → b ≡ d → (a && b) ≡ (c && d)
both a b c d e f = cc

pub first_kind : (ts known_set tables known : Names) → Same ts tables → Same known_set known → (s : Placed) → IsFirstKind (IsStatementError tables known s) (kind_at ts known_set s)
first_kind ts known_set tables known same_tables same_known s =
    let t = has_unknown tables (own_tables s.statement) in
    let v = has_unknown known (own_variables s.statement) in
    let tests : knows_names ts known_set s.statement ≡ (not t && not v) =
    both _ _ _ _ (has_all-unknown ts tables same_tables (own_tables s.statement)) (has_all-unknown known_set known same_known (own_variables s.statement)) in
    first_of_two (IsStatementError tables known s) (knows_names ts known_set s.statement) (repeats_badly s.around s.statement) (record {
      unknown = unknown_of _ t v tests;
      known = known_of _ t v tests;
      is_bad = bad_repeat s.around s.statement;
      is_good = good_repeat s.around s.statement;
      no_twice = λ h. h;
      no_weight = λ count h. h;
      no_reply = λ h. h;
    })

-- ---- the first fault

abbrev pub IsAfter : Fault → ℕ → CheckKind → Type 0
IsAfter f n k = ((n ≡ f.0) × (k ≡ f.1)) ⊎ ((f.0 < n) ⊎ ((f.0 ≡ n) × (kind_number f.1 < kind_number k)))

abbrev pub IsFirstFault : (ℕ → CheckKind → Type 0) → Option Fault → Type 0
IsFirstFault E None = (n : ℕ) (k : CheckKind) → E n k → ⊥
IsFirstFault E (Some f) = E f.0 f.1 × ((n : ℕ) (k : CheckKind) → E n k → IsAfter f n k)

-- the same errors have the same first one
pub first_fault_of : (E F : ℕ → CheckKind → Type 0) → ((n : ℕ) (k : CheckKind) → E n k → F n k) → ((n : ℕ) (k : CheckKind) → F n k → E n k)
    → (o : Option Fault) → IsFirstFault E o → IsFirstFault F o
first_fault_of E F to from None h = λ n k f. h n k (from n k f)
first_fault_of E F to from (Some f) h = (to f.0 f.1 h.0, λ n k g. h.1 n k (from n k g))

-- the error of this kind of the statements of a list, numbered behind the last one before them
abbrev pub IsErrorAmong : Names → ℕ → Names → List Placed → ℕ → CheckKind → Type 0
IsErrorAmong tables last known ss n k =
    (i : ℕ) × (n ≡ last + 1 + i) × (s : Placed) × (slice_get ss i ≡ Some s) × IsStatementError tables (known ++ flat_map (λ t. set_by t.statement) (take i ss)) s k

abbrev setting : List Placed → Names
setting ss = flat_map (λ t. set_by t.statement) ss

module _ (tables : Names) (last : ℕ) (known : Names) (s : Placed) (ss : List Placed) where
  later : (n : ℕ) (k : CheckKind) → IsErrorAmong tables (last + 1) (known ++ set_by s.statement) ss n k → IsErrorAmong tables last known (s ∷ ss) n k
  later n k h =
      (suc h.0, omega (arith, h.1), h.2, h.3, subst (λ (l : Names). IsStatementError tables l h.2 k) (append_assoc known (set_by s.statement) (setting (take h.0 ss))) h.4)

  head_error : (k : CheckKind) → IsStatementError tables known s k → IsErrorAmong tables last known (s ∷ ss) (last + 1) k
  head_error k h = (zero, omega arith, s, refl, subst (λ (l : Names). IsStatementError tables l s k) (sym (append-nil known)) h)

  split_from : (i n : ℕ) (k : CheckKind) → n ≡ last + 1 + i → (t : Placed) → slice_get (s ∷ ss) i ≡ Some t → IsStatementError tables (known ++ setting (take i (s ∷ ss))) t k
      → ((n ≡ last + 1) × IsStatementError tables known s k) ⊎ IsErrorAmong tables (last + 1) (known ++ set_by s.statement) ss n k
  split_from zero n k e t there h =
      let same : s ≡ t = (let e : Some s ≡ Some t = there in cc) in
      inl (omega (arith, e), subst (λ (u : Placed). IsStatementError tables known u k) (sym same) (subst (λ (l : Names). IsStatementError tables l t k) (append-nil known) h))
  split_from (suc i) n k e t there h =
      inr (i, omega (arith, e), t, there, subst (λ (l : Names). IsStatementError tables l t k) (sym (append_assoc known (set_by s.statement) (setting (take i ss)))) h)

  split : (n : ℕ) (k : CheckKind) → IsErrorAmong tables last known (s ∷ ss) n k
      → ((n ≡ last + 1) × IsStatementError tables known s k) ⊎ IsErrorAmong tables (last + 1) (known ++ set_by s.statement) ss n k
  split n k h = split_from h.0 n k h.1 h.2 h.3 h.4

  after_good : ((k : CheckKind) → IsStatementError tables known s k → ⊥) → (o : Option Fault) → IsFirstFault (IsErrorAmong tables (last + 1) (known ++ set_by s.statement) ss) o
      → IsFirstFault (IsErrorAmong tables last known (s ∷ ss)) o
  after_good none o h =
      first_fault_of (IsErrorAmong tables (last + 1) (known ++ set_by s.statement) ss) (IsErrorAmong tables last known (s ∷ ss)) later
      (λ n k f. ⊎_elim (λ p. absurd (none k p.1)) (λ r. r) (split n k f)) o h

  at_bad : (kind : CheckKind) → IsFirstKind (IsStatementError tables known s) (Some kind) → IsFirstFault (IsErrorAmong tables last known (s ∷ ss)) (Some (last + 1, kind))
  at_bad kind h = (
    head_error kind h.0,
    λ n k f. ⊎_elim
        (λ p. ⊎_elim (λ e. inl (p.0, e)) (λ less. inr (inr (sym p.0, less))) (h.1 k p.1))
        (λ r. inr (inl (omega (arith, r.1)))) (split n k f),
  )

step_first : (ts tables : Names) → Same ts tables → (s : Placed) (ss : List Placed) (w : Walk) (known : Names) → Same w.known known
    → (o : Option CheckKind) → IsFirstKind (IsStatementError tables known s) o
    → IsFirstFault (IsErrorAmong tables (w.last + 1) (known ++ set_by s.statement) ss) (fault_of (walk ts (stepped w s.statement) ss))
    → IsFirstFault (IsErrorAmong tables w.last known (s ∷ ss)) (fault_of (and_then (step_of o w s.statement) (λ v. walk ts v ss)))
step_first ts tables same_tables s ss w known same None first rest = after_good tables w.last known s ss first _ rest
step_first ts tables same_tables s ss w known same (Some kind) first rest = at_bad tables w.last known s ss kind first

pub first_among : (ts tables : Names) → Same ts tables → (ss : List Placed) (w : Walk) (known : Names) → Same w.known known
    → IsFirstFault (IsErrorAmong tables w.last known ss) (fault_of (walk ts w ss))
first_among ts tables same_tables [] w known same = λ n k h. let e : None ≡ Some h.2 = h.3 in cc
first_among ts tables same_tables (s ∷ ss) w known same =
    step_first ts tables same_tables s ss w known same (kind_at ts w.known s) (first_kind ts w.known tables known same_tables same s)
    (first_among ts tables same_tables ss (stepped w s.statement) (known ++ set_by s.statement) (same_with_names w.known known (set_by s.statement) same))
