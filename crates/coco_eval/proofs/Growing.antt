-- What was given stays, and more is given behind it.
use Rattle.std.proofs.Common.{◌≡◌, ℕ, zero, suc, ◌+◌, ◌-◌, Bool, true, false, if◌then◌else◌, List, [], ◌∷◌, ◌++◌, Option, None, Some, Ok, Err, pos, refl, ap, sym, ◌∙◌, append_assoc}
use Rattle.std.proofs.lemmas.List.{append-nil, map-append}
use Rattle.coco_types.specs.RowKey.{RowKey}
use Rattle.coco_types.specs.declared.value.Value.TheVariants.{Int}
use Rattle.coco_types.specs.declared.call.Cause.TheVariants.{User}
use Rattle.coco_types.specs.declared.call.Reply.TheVariants.{Ok as Answers, Refused}
use Rattle.coco_ast.specs.Keyed.{Rows, value_at}
use Rattle.coco_ast.specs.Meaning.{Datum, Computed, value_of, key_of}
use Rattle.coco_ast.specs.Tree.{RowPlace, Statement, Let, Get, Put, Delete, If, IfElse, Repeat, Refuse, Reply, Statements, End, Then}
use Rattle.coco_eval.specs.Outcomes.{outcome}
use Rattle.coco_eval.specs.Places.{Kept, Onward, Goes, Ends, behind, with, read, known_at, with_variable, with_write, chosen, turns, runs_one, runs, from, goes_on_get, goes_on_repeat, goes_on_one, goes_on_first, goes_on}
use Rattle.coco_eval.specs.Standing.{keys_of}
use Rattle.coco_eval.specs.declared.machine.Frame.{Frame}
use Rattle.coco_eval.specs.declared.machine.Given.{Given}
use Rattle.coco_eval.specs.declared.machine.Way.{Way}
use Rattle.coco_eval.specs.declared.machine.Way.TheVariants as way

abbrev pub given_of : Onward → List Given
given_of (Goes c) = c.given
given_of (Ends c r) = c.given

pub record Grows (c : Kept) (o : Onward) : Type 0 where
  pub more : List Given
  pub is : given_of o ≡ c.given ++ more

stays : (c : Kept) (o : Onward) → given_of o ≡ c.given → Grows c o
stays c o is = record { more = []; is = is ∙ sym (append-nil c.given) }

grows_behind : (c : Kept) (o : Onward) (f : Kept → Onward) → Grows c o → ((d : Kept) → Grows d (f d)) → Grows c (behind o f)
grows_behind c (Goes d) f h all = let g = all d in record { more = h.more ++ g.more; is = g.is ∙ ap (λ (gs : List Given). gs ++ g.more) h.is ∙ append_assoc c.given h.more g.more }
grows_behind c (Ends d r) f h all = h

grows_with : {A : Type 0} (c : Kept) (q : Computed A) (f : A → Onward) → ((a : A) → Grows c (f a)) → Grows c (with c q f)
grows_with c (Ok a) f all = all a
grows_with c (Err e) f all = stays c _ refl

grows_if : (c : Kept) (b : Bool) (o p : Onward) → Grows c o → Grows c p → Grows c (if b then o else p)
grows_if c true o p one other = one
grows_if c false o p one other = other

grows_read : (m : Rows) (c : Kept) (x : List ℕ) (k : RowKey) (known : Option Datum) → Grows c (read m c x k known)
grows_read m c x k (Some d) = stays c _ refl
grows_read m c x k None = record { more = record { key = k; value = value_at m k } ∷ []; is = refl }

grows_turns : (body : Kept → Onward) (x : List ℕ) → ((d : Kept) → Grows d (body d)) → (n i : ℕ) (c : Kept) → Grows c (turns body x n i c)
grows_turns body x all zero i c = stays c _ refl
grows_turns body x all (suc n) i c = grows_behind c (body (with_variable c x (Some (Int (pos i))))) _ (let g = all (with_variable c x (Some (Int (pos i)))) in record { more = g.more; is = g.is }) (λ d. grows_turns body x all n (i + 1) d)

mutual
  grows_one : (m : Rows) (ts : List (List ℕ)) (s : Statement) (c : Kept) → Grows c (runs_one m ts s c)
  grows_one m ts (Let x e) c = grows_with {A = Datum} c (value_of c.variables e) (λ d. Goes (with_variable c x d)) (λ d. stays c (Goes (with_variable c x d)) refl)
  grows_one m ts (Get x p) c = grows_with {A = RowKey} c (key_of ts c.variables p) (λ k. read m c x k (known_at c k)) (λ k. grows_read m c x k (known_at c k))
  grows_one m ts (Put p e) c = grows_with {A = RowKey} c (key_of ts c.variables p) (λ k. with c (value_of c.variables e) (λ d. Goes (with_write c k d)))
      (λ k. grows_with {A = Datum} c (value_of c.variables e) (λ d. Goes (with_write c k d)) (λ d. stays c (Goes (with_write c k d)) refl))
  grows_one m ts (Delete p) c = grows_with {A = RowKey} c (key_of ts c.variables p) (λ k. Goes (with_write c k None)) (λ k. stays c (Goes (with_write c k None)) refl)
  grows_one m ts (If e b) c = grows_with {A = Bool} c (chosen way.Fresh c e) (λ z. if z then runs m ts b c else Goes c) (λ z. grows_if c z (runs m ts b c) (Goes c) (grows_all m ts b c) (stays c (Goes c) refl))
  grows_one m ts (IfElse e b d) c = grows_with {A = Bool} c (chosen way.Fresh c e) (λ z. if z then runs m ts b c else runs m ts d c) (λ z. grows_if c z (runs m ts b c) (runs m ts d c) (grows_all m ts b c) (grows_all m ts d c))
  grows_one m ts (Repeat n x b) c = grows_turns (λ d. runs m ts b d) x (λ d. grows_all m ts b d) n 0 c
  grows_one m ts (Refuse n) c = stays c (Ends c (Refused (User n))) refl
  grows_one m ts (Reply e) c = grows_with {A = Datum} c (value_of c.variables e) (λ v. Ends c (Answers v)) (λ v. stays c (Ends c (Answers v)) refl)

  grows_all : (m : Rows) (ts : List (List ℕ)) (b : Statements) (c : Kept) → Grows c (runs m ts b c)
  grows_all m ts End c = stays c _ refl
  grows_all m ts (Then s r) c = grows_behind c (runs_one m ts s c) _ (grows_one m ts s c) (λ d. grows_all m ts r d)

grows_get : (m : Rows) (ts : List (List ℕ)) (w : Way) (x : List ℕ) (p : RowPlace) (c : Kept) → Grows c (goes_on_get m ts w x p c)
grows_get m ts way.Fresh x p c = grows_one m ts (Get x p) c
grows_get m ts way.Given x p c = stays c _ refl
grows_get m ts way.Then x p c = grows_one m ts (Get x p) c
grows_get m ts way.Else x p c = grows_one m ts (Get x p) c
grows_get m ts (way.Turn i) x p c = grows_one m ts (Get x p) c

grows_repeat : (w : Way) (inner fresh : Statements → Kept → Onward) (n : ℕ) (x : List ℕ) (b : Statements) (c : Kept) → ((d : Kept) → Grows d (inner b d)) → ((d : Kept) → Grows d (fresh b d)) → Grows c (goes_on_repeat w inner fresh n x b c)
grows_repeat way.Fresh inner fresh n x b c one all = grows_turns (fresh b) x all n 0 c
grows_repeat way.Given inner fresh n x b c one all = grows_turns (fresh b) x all n 0 c
grows_repeat way.Then inner fresh n x b c one all = grows_turns (fresh b) x all n 0 c
grows_repeat way.Else inner fresh n x b c one all = grows_turns (fresh b) x all n 0 c
grows_repeat (way.Turn i) inner fresh n x b c one all = grows_behind c (inner b c) _ (one c) (λ d. grows_turns (fresh b) x all (n - suc i) (i + 1) d)

grows_on_one : (m : Rows) (ts : List (List ℕ)) (w : Way) (inner : Statements → Kept → Onward) → ((b : Statements) (d : Kept) → Grows d (inner b d)) → (s : Statement) (c : Kept) → Grows c (goes_on_one m ts w inner s c)
grows_on_one m ts w inner all (Let x e) c = grows_one m ts (Let x e) c
grows_on_one m ts w inner all (Get x p) c = grows_get m ts w x p c
grows_on_one m ts w inner all (Put p e) c = grows_one m ts (Put p e) c
grows_on_one m ts w inner all (Delete p) c = grows_one m ts (Delete p) c
grows_on_one m ts w inner all (If e b) c = grows_with {A = Bool} c (chosen w c e) (λ z. if z then inner b c else Goes c) (λ z. grows_if c z (inner b c) (Goes c) (all b c) (stays c (Goes c) refl))
grows_on_one m ts w inner all (IfElse e b d) c = grows_with {A = Bool} c (chosen w c e) (λ z. if z then inner b c else inner d c) (λ z. grows_if c z (inner b c) (inner d c) (all b c) (all d c))
grows_on_one m ts w inner all (Repeat n x b) c = grows_repeat w inner (runs m ts) n x b c (all b) (λ d. grows_all m ts b d)
grows_on_one m ts w inner all (Refuse n) c = grows_one m ts (Refuse n) c
grows_on_one m ts w inner all (Reply e) c = grows_one m ts (Reply e) c

grows_first : (m : Rows) (ts : List (List ℕ)) (w : Way) (inner : Statements → Kept → Onward) → ((b : Statements) (d : Kept) → Grows d (inner b d)) → (b : Statements) (c : Kept) → Grows c (goes_on_first m ts w inner b c)
grows_first m ts w inner all End c = stays c _ refl
grows_first m ts w inner all (Then s r) c = grows_behind c (goes_on_one m ts w inner s c) _ (grows_on_one m ts w inner all s c) (λ d. grows_all m ts r d)

pub grows_on : (m : Rows) (ts : List (List ℕ)) (path : List Frame) (b : Statements) (c : Kept) → Grows c (goes_on m ts path b c)
grows_on m ts [] b c = grows_all m ts b c
grows_on m ts (f ∷ fs) b c = grows_first m ts f.way (λ inner d. goes_on m ts fs inner d) (λ inner d. grows_on m ts fs inner d) (from f.at b) c

outcome-needs : (m : Rows) (o : Onward) → (outcome m o).needs ≡ keys_of (given_of o)
outcome-needs m (Goes c) = refl
outcome-needs m (Ends c (Answers v)) = refl
outcome-needs m (Ends c (Refused e)) = refl

-- the keys that are needed begin with those that were given
pub needs_more : (m : Rows) (ts : List (List ℕ)) (path : List Frame) (b : Statements) (c : Kept) → (more : List RowKey) × ((outcome m (goes_on m ts path b c)).needs ≡ keys_of c.given ++ more)
needs_more m ts path b c =
    let g = grows_on m ts path b c in
    (keys_of g.more, outcome-needs m (goes_on m ts path b c) ∙ ap keys_of g.is ∙ map-append (λ (h : Given). h.key) c.given g.more)
