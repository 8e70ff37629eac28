-- What an accepted tree has: few procedures with few parameters, each of a name of its own.
use Rattle.std.proofs.Common.{◌≡◌, ℕ, zero, suc, ◌+◌, ◌<◌, ◌≤◌, ◌⊎◌, inl, inr, Bool, true, false, ◌||◌, nat_eq, List, [], ◌∷◌, length, map, take, Option, None, Some, MatchOption, IfSome, slice_get, refl, sym, ap, ◌∙◌, subst, arith, ⊎_elim, Bor, codes}
use Rattle.std.specs.List.{All, HoldsAt}
use Rattle.std.specs.Cmp.Lexicographic.{pointwise, bytes_decides}
use Rattle.std.specs.Option.{option_map}
use Rattle.std.proofs.lemmas.Option.{slice_get-map}
use Rattle.std.proofs.lemmas.List.Elements.{All-cons, All-get_or, All-nil}
use Rattle.std.proofs.lemmas.Option.{get_or_from_slice_get, slice_get_within, slice_get_past, slice_get-get_or}
use Rattle.std.proofs.lemmas.Bool.{cases_lt}
use Rattle.std.proofs.Math.Nat.{eq-or-lt_of_le}
use Rattle.coco_ast.specs.Tree.{Procedure, Procedures}
use Rattle.coco_ast.specs.Builtins.{get_proc, put_proc, add_proc, builtins}
use Rattle.coco_ast.specs.Checks.{IsAccepted, HasNoError, behind_builtins, is_among}
use Rattle.coco_ast.specs.Meaning.{procedure_at}
use Rattle.coco_ast.specs.Planning.{HasOwnNames}
use Rattle.coco_ast.specs.Numbering.{IsNamed, IsNumberOf}
use Rattle.coco_ast.specs.Words.{is_word}
use Rattle.coco_ast.specs.Views.{procedure_of, procedures_of}
use Rattle.coco_ast.specs.declared.error.CheckKind.TheVariants.{Twice}
use Rattle.coco_ast.specs.declared.tree.Proc.{Proc}
use Rattle.coco_ast.specs.declared.tree.Procs.{Procs}

pub procedure_at-get : (ps : List Procedure) (n : ℕ) → procedure_at ps n ≡ slice_get ps n
procedure_at-get [] zero = refl
procedure_at-get [] (suc n) = refl
procedure_at-get (p ∷ ps) zero = refl
procedure_at-get (p ∷ ps) (suc n) = procedure_at-get ps n

-- the procedures of a list, seen as their trees
pub procedure_at-map : (ps : List Proc) (n : ℕ) → procedure_at (map procedure_of ps) n ≡ option_map procedure_of (slice_get ps n)
procedure_at-map ps n = procedure_at-get (map procedure_of ps) n ∙ slice_get-map procedure_of ps n

-- what a look-up by `get` found
pub looked_up : (ps : List Proc) (n : ℕ) (r : Option (Bor Proc)) → MatchOption r (length ps ≤ n) (λ x. (n < length ps) × HoldsAt (λ y. x.now ≡ y) ps n)
    → option_map (λ p. procedure_of p.now) r ≡ procedure_at (map procedure_of ps) n
looked_up ps n None past = sym (procedure_at-map ps n ∙ ap (option_map procedure_of) (slice_get_past ps n past))
looked_up ps n (Some x) found =
    sym (procedure_at-map ps n ∙ ap (option_map procedure_of) (slice_get-get_or ps n x.now found.0 ∙ ap Some (sym (found.1 x.now))))

-- ---- how many there are

abbrev HasFew : Procedure → Type 0
HasFew p = length p.params ≤ 16

few_of_text : (text : Procedures) → All HasFew text.procs → All HasFew (behind_builtins text).procs
few_of_text text h =
    All-cons HasFew get_proc (put_proc ∷ add_proc ∷ text.procs) (omega arith)
    (All-cons HasFew put_proc (add_proc ∷ text.procs) (omega arith) (All-cons HasFew add_proc text.procs (omega arith) h))

pub few_params : (tree : Procedures) → IsAccepted tree → (n : ℕ) (p : Procedure) → slice_get tree.procs n ≡ Some p → length p.params ≤ 16
few_params tree a n p e =
    let few : All HasFew tree.procs = subst (λ (t : Procedures). All HasFew t.procs) (sym a.whole) (few_of_text a.text a.limits.params) in
    subst HasFew (get_or_from_slice_get tree.procs n p p e) (All-get_or HasFew tree.procs n p (slice_get_within tree.procs n p e) few)

pub few_found : (tree : Procedures) → IsAccepted tree → (n : ℕ) (r : Option (Bor Proc)) → option_map (λ p. procedure_of p.now) r ≡ procedure_at tree.procs n
    → IfSome r (λ p. length p.now.params ≤ 16)
few_found tree a n None e = tt
few_found tree a n (Some p) e = few_params tree a n (procedure_of p.now) (sym (procedure_at-get tree.procs n) ∙ sym e)

pub few_procs : (tree : Procedures) → IsAccepted tree → length tree.procs ≤ 60003
few_procs tree a =
    subst (λ (t : Procedures). length t.procs ≤ 60003) (sym a.whole) (let h : length a.text.procs ≤ 60000 = a.limits.procs in omega arith)

-- ---- names of their own

pub same_bytes : (a b : List ℕ) → a ≡ b → pointwise nat_eq a b ≡ true
same_bytes a b e = (bytes_decides a b).1 e

pub among_first : (b c : Bool) → b ≡ true → b || c ≡ true
among_first true c h = refl
among_first false c h = let e : false ≡ true = h in cc

pub among_later : (b c : Bool) → c ≡ true → b || c ≡ true
among_later true c h = refl
among_later false c h = h

-- a name is among those of the first k procedures where it is one's name
among_taken : (ps : List Procedure) (m k : ℕ) (p : Procedure) (x : List ℕ) → m < k → slice_get ps m ≡ Some p → p.name ≡ x → is_among (map (λ q. q.name) (take k ps)) x ≡ true
among_taken [] m k p x below e same = cc
among_taken (q ∷ ps) m zero p x below e same = absurd (omega arith)
among_taken (q ∷ ps) zero (suc k) p x below e same =
    let here : q ≡ p = cc in
    among_first _ _ (same_bytes x q.name (sym same ∙ ap (λ (r : Procedure). r.name) (sym here)))
among_taken (q ∷ ps) (suc m) (suc k) p x below e same = among_later _ _ (among_taken ps m k p x (omega arith) e same)

other_names : (p q : Procedure) → pointwise nat_eq p.name q.name ≡ false → p.name ≡ q.name → ⊥
other_names p q differ same = let e : true ≡ false = sym (same_bytes p.name q.name same) ∙ differ in cc

places : (m n : ℕ) → (m < n) ⊎ ((m ≡ n) ⊎ (n < m))
places m n = ⊎_elim inl (λ le. inr (⊎_elim (λ e. inl (sym e)) inr (eq-or-lt_of_le le))) (cases_lt m n)

-- no procedure has the name of an earlier one
no_two : (text : Procedures) → HasNoError text → (m n : ℕ) (p q : Procedure) → m < n
    → slice_get (behind_builtins text).procs m ≡ Some p → slice_get (behind_builtins text).procs n ≡ Some q → p.name ≡ q.name → ⊥
no_two text sound m zero p q below at_m at_n same = omega arith
no_two text sound zero (suc zero) p q below at_m at_n same = other_names get_proc put_proc refl (cc)
no_two text sound (suc m) (suc zero) p q below at_m at_n same = omega arith
no_two text sound zero (suc (suc zero)) p q below at_m at_n same = other_names get_proc add_proc refl (cc)
no_two text sound (suc zero) (suc (suc zero)) p q below at_m at_n same = other_names put_proc add_proc refl (cc)
no_two text sound (suc (suc m)) (suc (suc zero)) p q below at_m at_n same = omega arith
no_two text sound m (suc (suc (suc k))) p q below at_m at_n same =
    sound (record { item = length text.tables + (k + 1); statement = 0; kind = Twice })
    (inr (record { place = k; procedure = q; there = at_n; item = refl; within = inl (among_taken (behind_builtins text).procs m (suc (suc (suc k))) p q.name below at_m same) }))

one_place : (text : Procedures) → HasNoError text → (m n : ℕ) (p q : Procedure)
    → slice_get (behind_builtins text).procs m ≡ Some p → slice_get (behind_builtins text).procs n ≡ Some q → p.name ≡ q.name → m ≡ n
one_place text sound m n p q at_m at_n same =
    ⊎_elim (λ below. absurd (no_two text sound m n p q below at_m at_n same))
    (⊎_elim (λ e. e) (λ below. absurd (no_two text sound n m q p below at_n at_m (sym same)))) (places m n)

-- ---- names of parameters

own_one : (x : List ℕ) → HasOwnNames (x ∷ [])
own_one x zero twice = let e : false ≡ true = twice.2 in cc
own_one x (suc i) twice = let e : ◌≡◌ {A = Option (List ℕ)} None (Some twice.0) = twice.1 in cc

own_two : (x y : List ℕ) → pointwise nat_eq y x ≡ false → HasOwnNames (x ∷ y ∷ [])
own_two x y differ zero twice = let e : false ≡ true = twice.2 in cc
own_two x y differ (suc zero) twice =
    let here : y ≡ twice.0 = cc (twice.1) in
    let e : true ≡ false = sym twice.2 ∙ ap (λ (z : List ℕ). pointwise nat_eq z x || false) (sym here) ∙ ap (λ (b : Bool). b || false) differ in cc
own_two x y differ (suc (suc i)) twice = let e : ◌≡◌ {A = Option (List ℕ)} None (Some twice.0) = twice.1 in cc

own_of_text : (text : Procedures) → HasNoError text → (n : ℕ) (p : Procedure) → slice_get (behind_builtins text).procs n ≡ Some p → HasOwnNames p.params
own_of_text text sound zero p at = let here : get_proc ≡ p = cc in subst (λ (q : Procedure). HasOwnNames q.params) here (own_one (codes "r"))
own_of_text text sound (suc zero) p at = let here : put_proc ≡ p = cc in subst (λ (q : Procedure). HasOwnNames q.params) here (own_two (codes "r") (codes "v") refl)
own_of_text text sound (suc (suc zero)) p at = let here : add_proc ≡ p = cc in subst (λ (q : Procedure). HasOwnNames q.params) here (own_two (codes "r") (codes "n") refl)
own_of_text text sound (suc (suc (suc k))) p at = λ i twice.
    sound (record { item = length text.tables + (k + 1); statement = 0; kind = Twice })
    (inr (record { place = k; procedure = p; there = at; item = refl; within = inr (i, twice) }))

-- no procedure's parameters have the same name
pub own_params : (tree : Procedures) → IsAccepted tree → (n : ℕ) (p : Procedure) → slice_get tree.procs n ≡ Some p → HasOwnNames p.params
own_params tree a n p at = own_of_text a.text a.sound n p (subst (λ (u : Procedures). slice_get u.procs n ≡ Some p) a.whole at)

-- ---- the number of a name

module _ (t : Procs) (x : List ℕ) where
  named : (n : ℕ) (p : Proc) → slice_get t.procs n ≡ Some p → p.name ≡ x → IsNamed (procedures_of t) n x
  named n p there same = (procedure_of p, procedure_at-map t.procs n ∙ ap (option_map procedure_of) there, same)

  mapped : (o : Option Proc) (q : Procedure) → option_map procedure_of o ≡ Some q → (p : Proc) × (o ≡ Some p) × (procedure_of p ≡ q)
  mapped None q e = cc
  mapped (Some p) q e = (p, refl, cc)

  unnamed : ((k : ℕ) (p : Proc) → slice_get t.procs k ≡ Some p → p.name ≡ x → ⊥) → (n : ℕ) → IsNamed (procedures_of t) n x → ⊥
  unnamed none n h =
      let found = mapped (slice_get t.procs n) h.0 (sym (procedure_at-map t.procs n) ∙ h.1) in
      none n found.0 found.1 (ap (λ (q : Procedure). q.name) found.2 ∙ h.2)

  same_number : IsAccepted (procedures_of t) → (m n : ℕ) → IsNamed (procedures_of t) m x → IsNamed (procedures_of t) n x → m ≡ n
  same_number a m n h k =
      let at : (i : ℕ) (p : Procedure) → procedure_at (procedures_of t).procs i ≡ Some p → slice_get (behind_builtins a.text).procs i ≡ Some p =
      λ i p e. subst (λ (u : Procedures). slice_get u.procs i ≡ Some p) a.whole (sym (procedure_at-get (procedures_of t).procs i) ∙ e) in
      one_place a.text a.sound m n h.0 k.0 (at m h.0 h.1) (at n k.0 k.1) (h.2 ∙ sym k.2)

pub number_found : (t : Procs) (x : List ℕ) (r : Option ℕ) → IsNumberOf t.procs x r → IfSome r (λ n. IsNamed (procedures_of t) n x)
number_found t x None h = tt
number_found t x (Some n) h = named t x n h.0 h.1 h.2

pub number_only : (t : Procs) (x : List ℕ) → IsAccepted (procedures_of t) → (r : Option ℕ) → IsNumberOf t.procs x r → (n : ℕ) → IsNamed (procedures_of t) n x → r ≡ Some n
number_only t x a None h n k = absurd (unnamed t x h n k)
number_only t x a (Some m) h n k = ap Some (same_number t x a m n (named t x m h.0 h.1 h.2) k)

-- what is no word is no procedure's name
pub number_of_no_word : (ps : List Proc) (x : List ℕ) → ((k : ℕ) (p : Proc) → slice_get ps k ≡ Some p → is_word p.name ≡ true) → is_word x ≡ false → IsNumberOf ps x None
number_of_no_word ps x words other k p there same = let e : true ≡ false = sym (words k p there) ∙ ap is_word same ∙ other in cc

-- ---- the built-in procedures alone

no_two_tables : (n : ℕ) (x : List ℕ) → slice_get (codes "main" ∷ []) n ≡ Some x → is_among (take n (codes "main" ∷ [])) x ≡ true → ⊥
no_two_tables zero x there among = let e : false ≡ true = among in cc
no_two_tables (suc n) x there among = let e : ◌≡◌ {A = Option (List ℕ)} None (Some x) = there in cc

no_error : HasNoError (record { tables = []; procs = [] })
no_error e (inl table) = no_two_tables e.item table.twice.0 table.twice.1 table.twice.2
no_error e (inr procedure) = let none : ◌≡◌ {A = Option Procedure} None (Some procedure.procedure) = procedure.there in cc

pub builtins_accepted : IsAccepted builtins
builtins_accepted = record {
  text = record { tables = []; procs = [] };
  whole = refl;
  sound = no_error;
  limits = record { tables = omega arith; procs = omega arith; params = All-nil (λ (p : Procedure). length p.params ≤ 16) };
}
