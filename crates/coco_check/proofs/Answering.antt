-- What the loop over procedures answers, and what the answers to a tree follow from.
use Rattle.std.proofs.Common.{◌≡◌, ℕ, suc, ◌+◌, ◌<◌, ◌⊎◌, inl, inr, not, List, [], ◌∷◌, ◌++◌, length, map, get_or, drop, Option, None, Some, refl, sym, ap, ◌∙◌, subst, arith, add-one, drop-cons}
use Rattle.std.specs.List.{All}
use Rattle.std.proofs.lemmas.List.Elements.{All-cons, All-head, All-tail, All-nil}
use Rattle.coco_ast.specs.declared.error.CheckError.{CheckError}
use Rattle.coco_ast.specs.declared.tree.Proc.{Proc}
use Rattle.coco_ast.specs.Plans.{ArePlansOf}
use Rattle.coco_ast.specs.Tree.{Procedure, Procedures}
use Rattle.coco_ast.specs.declared.plan.Plan.{Plan}
use Rattle.coco_ast.specs.Checks.{HasNoError, IsBehind, IsFirstError, kind_number}
use Rattle.coco_ast.specs.declared.tree.Procs.{Procs}
use Rattle.coco_ast.specs.Builtins.{builtins}
use Rattle.coco_ast.specs.Views.{procedure_of, procedures_of}
use Rattle.coco_check.specs.declared.fault.BodyFault.{BodyFault}
use Rattle.coco_check.specs.declared.fault.BodyFault.TheVariants as body
use Rattle.coco_check.specs.declared.fault.CheckFault.{CheckFault}
use Rattle.coco_check.specs.declared.fault.CheckFault.TheVariants.{Refused, NoMemory}
use Rattle.coco_check.specs.Accepting.{OnRefused}
use Rattle.coco_check.specs.Search.{Names, Fault, IsErrorFound, IsFaultFound, adding, built_in_names, built_in_tables, error_before, fault_at, first_error, first_of_procedures, has, procedure_fault, with_name, with_names}
use Rattle.coco_check.proofs.FirstErrors.{IsFirstOrNone, first_or_none}

pub all_mapped : {A B : Type 0} (P : B → Type 0) (f : A → B) (xs : List A) → All P (map f xs) → All (λ x. P (f x)) xs
all_mapped P f [] h = All-nil (λ x. P (f x))
all_mapped P f (x ∷ xs) h = All-cons (λ y. P (f y)) x xs (All-head P (f x) (map f xs) h) (all_mapped P f xs (All-tail P (f x) (map f xs) h))

-- ---- the procedures from a place on

pub front_of : (ts ns : Names) (item : ℕ) (procs : List Proc) (i : ℕ) (p : Proc) → i < length procs → p ≡ get_or procs i p
    → first_of_procedures ts ns item (map procedure_of (drop i procs))
    ≡ error_before item (procedure_fault ts (not (has ns p.name)) (adding [] 0 p.params) (procedure_of p)) (first_of_procedures ts (with_name ns p.name) (item + 1) (map procedure_of (drop (i + 1) procs)))
front_of ts ns item procs i p within is =
    let parts : drop i procs ≡ p ∷ drop (i + 1) procs = rw add-one (drop-cons procs i p within ∙ ap (λ (q : Proc). q ∷ drop (suc i) procs) (sym is)) in
    ap (λ ps. first_of_procedures ts ns item (map procedure_of ps)) parts

pub at_fault : (item : ℕ) (fault : BodyFault) (o : Option Fault) (r : Option CheckError) → IsFaultFound fault o → IsErrorFound (fault_at item fault) (error_before item o r)
at_fault item (body.Refused n kind) o r h = ap (λ p. error_before item p r) h
at_fault item body.NoMemory o r h = tt

-- ---- the built-in names and procedures

-- nothing is wrong with the built-in procedures
pub built_in_fine : (tables : Names) → tables ≡ built_in_tables → first_of_procedures tables [] 0 builtins.procs ≡ None
built_in_fine tables is = ap (λ (ts : Names). first_of_procedures ts [] 0 builtins.procs) is

names_mapped : (ps : List Proc) → map (λ p. p.name) ps ≡ map (λ q. q.name) (map procedure_of ps)
names_mapped [] = refl
names_mapped (p ∷ ps) = ap (λ (l : Names). p.name ∷ l) (names_mapped ps)

pub built_in_set : (first : Procs) → procedures_of first ≡ builtins → with_names [] (map (λ p. p.name) first.procs) ≡ built_in_names
built_in_set first is = ap (with_names []) (names_mapped first.procs ∙ ap (λ (t : Procedures). map (λ q. q.name) t.procs) is)

-- the plans of some procedures and those of others are the plans of both
pub plans_append : (ps qs : List Procedure) (plans more : List Plan) → ArePlansOf ps plans → ArePlansOf qs more → ArePlansOf (ps ++ qs) (plans ++ more)
plans_append [] qs [] more first second = second
plans_append [] qs (plan ∷ plans) more first second = absurd first
plans_append (p ∷ ps) qs [] more first second = absurd first
plans_append (p ∷ ps) qs (plan ∷ plans) more first second = (first.0, plans_append ps qs plans more first.1 second)

-- ---- answers

no_circle_within : (e f : CheckError) → (e.statement < f.statement) ⊎ ((e.statement ≡ f.statement) × (kind_number e.kind < kind_number f.kind))
    → (f.statement < e.statement) ⊎ ((f.statement ≡ e.statement) × (kind_number f.kind < kind_number e.kind)) → ⊥
no_circle_within e f (inl a) (inl b) = omega arith
no_circle_within e f (inl a) (inr b) = omega (arith, b.0)
no_circle_within e f (inr a) (inl b) = omega (arith, a.0)
no_circle_within e f (inr a) (inr b) = omega (arith, a.1, b.1)

no_circle : (e f : CheckError) → IsBehind e f → IsBehind f e → ⊥
no_circle e f (inl a) (inl b) = omega arith
no_circle e f (inl a) (inr b) = omega (arith, b.0)
no_circle e f (inr a) (inl b) = omega (arith, a.0)
no_circle e f (inr a) (inr b) = no_circle_within e f a.1 b.1

behind_not : (e f : CheckError) → (f ≡ e) ⊎ IsBehind e f → (e ≡ f) ⊎ IsBehind f e → e ≡ f
behind_not e f (inl same) q = sym same
behind_not e f (inr p) (inl same) = same
behind_not e f (inr p) (inr q) = absurd (no_circle e f p q)

pub one_first : (t : Procedures) (e f : CheckError) → IsFirstError t e → IsFirstError t f → e ≡ f
one_first t e f h k = behind_not e f (h.first f k.holds) (k.first e h.holds)

module _ (t : Procedures) where
  found_error : (e : CheckError) → first_error t ≡ Some e → IsFirstError t e
  found_error e found = subst (IsFirstOrNone t) found (first_or_none t)

  pub found_none : first_error t ≡ None → HasNoError t
  found_none found = subst (IsFirstOrNone t) found (first_or_none t)

  pub refused_first : (fault : CheckFault) → IsErrorFound fault (first_error t) → OnRefused fault (IsFirstError t)
  refused_first (Refused e) found = found_error e found
  refused_first NoMemory found = tt

  pub no_other_fault : (fault : CheckFault) → IsErrorFound fault (first_error t) → HasNoError t → fault ≡ NoMemory
  no_other_fault (Refused e) found none = absurd (none e (found_error e found).holds)
  no_other_fault NoMemory found none = refl

  pub no_other_error : (fault : CheckFault) → IsErrorFound fault (first_error t) → (e : CheckError) → IsFirstError t e → (fault ≡ Refused e) ⊎ (fault ≡ NoMemory)
  no_other_error (Refused f) found e first = inl (ap Refused (one_first t f e (found_error f found) first))
  no_other_error NoMemory found e first = inr refl
