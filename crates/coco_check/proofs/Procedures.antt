-- The first fault of a procedure, and the first error of procedures.
use Rattle.std.proofs.Common.{◌≡◌, ℕ, zero, suc, ◌+◌, ◌<◌, ◌≤◌, ◌⊎◌, inl, inr, ⊎_elim, if◌then◌else◌, min, Bool, true, false, not, nat_lt, List, [], ◌∷◌, ◌++◌, map, take, Option, None, Some, slice_get, Result, Ok, Err, refl, sym, ap, ◌∙◌, subst, arith, append_assoc, append-nil}
use Rattle.std.proofs.lemmas.Bool.Decides.{nat_tests}
use Rattle.coco_ast.specs.declared.error.CheckError.{CheckError}
use Rattle.coco_ast.specs.declared.error.CheckKind.{CheckKind}
use Rattle.coco_ast.specs.declared.error.CheckKind.TheVariants.{UnknownName, Twice, TooManyKeys, RepeatBound, NoReply}
use Rattle.coco_ast.specs.Tree.{Procedure}
use Rattle.coco_ast.specs.Checks.{IsHeaderError, IsErrorWithin, StandsTwice, counted_weight, ends, is_among, key_weight, kind_number, statements_in}
use Rattle.coco_check.specs.Search.{Names, Fault, adding, body_fault, error_at, error_before, first_of_procedures, has, header_fault, header_kind, procedure_fault, with_name}
use Rattle.coco_check.proofs.NameSets.{Adds, IsThere, Same, adding_adds, same_none, same_with_name}
use Rattle.coco_check.proofs.Statements.{IsAfter, IsErrorAmong, IsFirstFault, IsFirstKind, first_among, first_fault_of}

-- ---- the procedure as a whole

above_most : (w : ℕ) → nat_lt 64 (min w 1000000) ≡ true → 64 < w
above_most w h = let m : 64 < min w 1000000 = grind (arith, nat_tests) in omega arith

within_most : (w : ℕ) → nat_lt 64 (min w 1000000) ≡ false → 64 < w → ⊥
within_most w h above = let m : min w 1000000 ≤ 64 = grind (arith, nat_tests) in omega arith

module _ (earlier : Names) (p : Procedure) where
  abbrev HeaderError : CheckKind → Type 0
  HeaderError k = IsHeaderError earlier p k

  behind_twice : (k : CheckKind) → HeaderError k → (k ≡ Twice) ⊎ (kind_number Twice < kind_number k)
  behind_twice UnknownName h = absurd h
  behind_twice Twice h = inl refl
  behind_twice (TooManyKeys count) h = inr (omega arith)
  behind_twice RepeatBound h = inr (omega arith)
  behind_twice NoReply h = inr (omega arith)

  behind_weight : (HeaderError Twice → ⊥) → (k : CheckKind) → HeaderError k → (k ≡ TooManyKeys (counted_weight p.body)) ⊎ (3 < kind_number k)
  behind_weight once UnknownName h = absurd h
  behind_weight once Twice h = absurd (once h)
  behind_weight once (TooManyKeys count) h = inl (ap TooManyKeys h.1)
  behind_weight once RepeatBound h = absurd h
  behind_weight once NoReply h = inr (omega arith)

  behind_reply : (HeaderError Twice → ⊥) → nat_lt 64 (counted_weight p.body) ≡ false → (k : CheckKind) → HeaderError k → (k ≡ NoReply) ⊎ (kind_number NoReply < kind_number k)
  behind_reply once light UnknownName h = absurd h
  behind_reply once light Twice h = absurd (once h)
  behind_reply once light (TooManyKeys count) h = absurd (within_most (key_weight p.body) light h.0)
  behind_reply once light RepeatBound h = absurd h
  behind_reply once light NoReply h = inl refl

  no_header : (HeaderError Twice → ⊥) → nat_lt 64 (counted_weight p.body) ≡ false → ends p.body ≡ true → (k : CheckKind) → HeaderError k → ⊥
  no_header once light ends UnknownName h = h
  no_header once light ends Twice h = once h
  no_header once light ends (TooManyKeys count) h = within_most (key_weight p.body) light h.0
  no_header once light ends RepeatBound h = h
  no_header once light ends NoReply h = let e : true ≡ false = sym ends ∙ h in cc

  header_by : (heavy ending : Bool) → nat_lt 64 (counted_weight p.body) ≡ heavy → ends p.body ≡ ending → (HeaderError Twice → ⊥)
      → IsFirstKind HeaderError (if heavy then Some (TooManyKeys (counted_weight p.body)) else (if ending then None else Some NoReply))
  header_by true ending e f once = ((above_most (key_weight p.body) e, refl), behind_weight once)
  header_by false true e f once = no_header once e f
  header_by false false e f once = (f, behind_reply once e)

  first_header : (is_twice : Bool) → (is_twice ≡ true → HeaderError Twice) → (is_twice ≡ false → HeaderError Twice → ⊥) → IsFirstKind HeaderError (header_kind is_twice p.body)
  first_header true twice once = (twice refl, behind_twice)
  first_header false twice once = header_by (nat_lt 64 (counted_weight p.body)) (ends p.body) refl refl (once refl)

-- ---- the procedure and its statements

twice_by : (is_new among : Bool) → is_new ≡ not among → not is_new ≡ true → among ≡ true
twice_by true among e h = let f : false ≡ true = h in cc
twice_by false true e h = refl
twice_by false false e h = cc

once_by : (is_new among : Bool) → is_new ≡ not among → not is_new ≡ false → (params : Names) → ((j : ℕ) → IsThere [] params j → ⊥)
    → (among ≡ true) ⊎ ((i : ℕ) × StandsTwice params i) → ⊥
once_by false among e h params none t = let f : true ≡ false = h in cc
once_by true true e h params none t = cc
once_by true false e h params none t = ⊎_elim (λ f. (let g : false ≡ true = f in cc)) (λ s. none s.0 s.1) t

module _ (tables earlier : Names) (p : Procedure) where
  abbrev Within : ℕ → CheckKind → Type 0
  Within n k = IsErrorWithin tables earlier p n k

  abbrev Among : ℕ → CheckKind → Type 0
  Among n k = IsErrorAmong tables 0 p.params (statements_in p) n k

  to_within : (n : ℕ) (k : CheckKind) → Among n k → Within n k
  to_within zero k h = absurd (omega (arith, h.1))
  to_within (suc i) k h =
      let same : h.0 ≡ i = omega (arith, h.1) in
      subst (λ (j : ℕ). Within (suc j) k) same (h.2, h.3, h.4)

  from_within : (i : ℕ) (k : CheckKind) → Within (suc i) k → Among (suc i) k
  from_within i k h = (i, omega arith, h.0, h.1, h.2)

  -- without a header error every error is a statement's
  only_among : ((k : CheckKind) → Within 0 k → ⊥) → (n : ℕ) (k : CheckKind) → Within n k → Among n k
  only_among none zero k h = absurd (none k h)
  only_among none (suc i) k h = from_within i k h

  after_header : (kind : CheckKind) → IsFirstKind (λ k. Within 0 k) (Some kind) → (n : ℕ) (k : CheckKind) → Within n k → IsAfter (0, kind) n k
  after_header kind first zero k h = ⊎_elim (λ e. inl (refl, e)) (λ less. inr (inr (refl, less))) (first.1 k h)
  after_header kind first (suc i) k h = inr (inl (omega arith))

  behind_header : (o : Option CheckKind) → IsFirstKind (λ k. Within 0 k) o → (b : Option Fault) → IsFirstFault Among b → IsFirstFault Within (header_fault o b)
  behind_header None none b h = first_fault_of Among Within to_within (only_among none) b h
  behind_header (Some kind) first b h = (first.0, after_header kind first)

  pub first_within : (ts : Names) → Same ts tables → (is_new : Bool) → is_new ≡ not (is_among earlier p.name) → (r : Result Names ℕ) → Adds [] p.params 0 r
      → IsFirstFault Within (procedure_fault ts is_new r p)
  first_within ts same is_new new (Err i) a =
      (inr (a.0, a.2), after_header Twice (inr (a.0, a.2), behind_twice earlier p))
  first_within ts same is_new new (Ok params) a =
      behind_header (header_kind (not is_new) p.body)
      (first_header earlier p (not is_new) (λ e. inl (twice_by is_new (is_among earlier p.name) new e)) (λ e h. once_by is_new (is_among earlier p.name) new e p.params a.1 h))
      (body_fault ts params p) (first_among ts tables same (statements_in p) (record { last = 0; known = params }) p.params a.0)

-- ---- procedures behind others

abbrev pub names_in : List Procedure → Names
names_in ps = map (λ p. p.name) ps

abbrev pub IsFirstOf : Names → Names → ℕ → List Procedure → Option CheckError → Type 0
IsFirstOf tables earlier item ps None =
    (k : ℕ) (p : Procedure) → slice_get ps k ≡ Some p → (n : ℕ) (kind : CheckKind) → IsErrorWithin tables (earlier ++ names_in (take k ps)) p n kind → ⊥
IsFirstOf tables earlier item ps (Some e) =
    (k : ℕ) × (p : Procedure) × (slice_get ps k ≡ Some p) × (e.item ≡ item + k)
    × IsFirstFault (λ n kind. IsErrorWithin tables (earlier ++ names_in (take k ps)) p n kind) (Some (e.statement, e.kind))
    × ((j : ℕ) (q : Procedure) → j < k → slice_get ps j ≡ Some q → (n : ℕ) (kind : CheckKind) → IsErrorWithin tables (earlier ++ names_in (take j ps)) q n kind → ⊥)

module _ (tables earlier : Names) (item : ℕ) (p : Procedure) (ps : List Procedure) where
  abbrev Fault_at : ℕ → Procedure → ℕ → CheckKind → Type 0
  Fault_at k q n kind = IsErrorWithin tables (earlier ++ names_in (take k (p ∷ ps))) q n kind

  abbrev Fault_behind : ℕ → Procedure → ℕ → CheckKind → Type 0
  Fault_behind k q n kind = IsErrorWithin tables ((earlier ++ p.name ∷ []) ++ names_in (take k ps)) q n kind

  to_behind : (k : ℕ) (q : Procedure) (n : ℕ) (kind : CheckKind) → Fault_at (suc k) q n kind → Fault_behind k q n kind
  to_behind k q n kind h = subst (λ (l : Names). IsErrorWithin tables l q n kind) (sym (append_assoc earlier (p.name ∷ []) (names_in (take k ps)))) h

  from_behind : (k : ℕ) (q : Procedure) (n : ℕ) (kind : CheckKind) → Fault_behind k q n kind → Fault_at (suc k) q n kind
  from_behind k q n kind h = subst (λ (l : Names). IsErrorWithin tables l q n kind) (append_assoc earlier (p.name ∷ []) (names_in (take k ps))) h

  to_own : (q : Procedure) (n : ℕ) (kind : CheckKind) → Fault_at 0 q n kind → IsErrorWithin tables earlier q n kind
  to_own q n kind h = subst (λ (l : Names). IsErrorWithin tables l q n kind) (append-nil earlier) h

  from_own : (q : Procedure) (n : ℕ) (kind : CheckKind) → IsErrorWithin tables earlier q n kind → Fault_at 0 q n kind
  from_own q n kind h = subst (λ (l : Names). IsErrorWithin tables l q n kind) (sym (append-nil earlier)) h

  abbrev IsSound : Type 0
  IsSound = (n : ℕ) (kind : CheckKind) → IsErrorWithin tables earlier p n kind → ⊥

  none_of_both : IsSound → ((k : ℕ) (q : Procedure) → slice_get ps k ≡ Some q → (n : ℕ) (kind : CheckKind) → Fault_behind k q n kind → ⊥)
      → (k : ℕ) (q : Procedure) → slice_get (p ∷ ps) k ≡ Some q → (n : ℕ) (kind : CheckKind) → Fault_at k q n kind → ⊥
  none_of_both sound rest zero q there n kind h =
      let same : p ≡ q = (let e : Some p ≡ Some q = there in cc) in
      sound n kind (subst (λ (r : Procedure). IsErrorWithin tables earlier r n kind) (sym same) (to_own q n kind h))
  none_of_both sound rest (suc k) q there n kind h = rest k q there n kind (to_behind k q n kind h)

  none_up_to : IsSound → (m : ℕ) → ((j : ℕ) (q : Procedure) → j < m → slice_get ps j ≡ Some q → (n : ℕ) (kind : CheckKind) → Fault_behind j q n kind → ⊥)
      → (j : ℕ) (q : Procedure) → j < suc m → slice_get (p ∷ ps) j ≡ Some q → (n : ℕ) (kind : CheckKind) → Fault_at j q n kind → ⊥
  none_up_to sound m rest zero q below there n kind h =
      let same : p ≡ q = (let e : Some p ≡ Some q = there in cc) in
      sound n kind (subst (λ (r : Procedure). IsErrorWithin tables earlier r n kind) (sym same) (to_own q n kind h))
  none_up_to sound m rest (suc j) q below there n kind h = rest j q (omega arith) there n kind (to_behind j q n kind h)

  first_behind : IsSound → (o : Option CheckError) → IsFirstOf tables (earlier ++ p.name ∷ []) (item + 1) ps o → IsFirstOf tables earlier item (p ∷ ps) o
  first_behind sound None h = none_of_both sound h
  first_behind sound (Some e) h = (
    suc h.0,
    h.1,
    h.2,
    omega (arith, h.3),
    first_fault_of (Fault_behind h.0 h.1) (Fault_at (suc h.0) h.1) (from_behind h.0 h.1) (to_behind h.0 h.1) (Some (e.statement, e.kind)) h.4,
    none_up_to sound h.0 h.5,
  )

  first_here : (f : Fault) → IsFirstFault (λ n kind. IsErrorWithin tables earlier p n kind) (Some f) → IsFirstOf tables earlier item (p ∷ ps) (Some (error_at item f))
  first_here f h = (
    zero,
    p,
    refl,
    omega arith,
    first_fault_of (λ n kind. IsErrorWithin tables earlier p n kind) (Fault_at 0 p) (from_own p) (to_own p) (Some f) h,
    λ j q below there n kind g. omega arith,
  )

  first_by : (o : Option Fault) → IsFirstFault (λ n kind. IsErrorWithin tables earlier p n kind) o → (r : Option CheckError) → IsFirstOf tables (earlier ++ p.name ∷ []) (item + 1) ps r
      → IsFirstOf tables earlier item (p ∷ ps) (error_before item o r)
  first_by None sound r rest = first_behind sound r rest
  first_by (Some f) h r rest = first_here f h

pub first_of : (ts tables : Names) → Same ts tables → (ps : List Procedure) (set earlier : Names) → Same set earlier → (item : ℕ) → IsFirstOf tables earlier item ps (first_of_procedures ts set item ps)
first_of ts tables same_tables [] set earlier same item = λ k p there. let e : None ≡ Some p = there in cc
first_of ts tables same_tables (p ∷ ps) set earlier same item =
    first_by tables earlier item p ps (procedure_fault ts (not (has set p.name)) (adding [] 0 p.params) p)
    (first_within tables earlier p ts same_tables (not (has set p.name)) (ap not (same p.name)) (adding [] 0 p.params) (adding_adds [] [] p.params 0 same_none))
    (first_of_procedures ts (with_name set p.name) (item + 1) ps)
    (first_of ts tables same_tables ps (with_name set p.name) (earlier ++ p.name ∷ []) (same_with_name set earlier p.name same) (item + 1))
