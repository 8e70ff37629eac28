-- The classes of the requests of a batch, one by one.
use Rattle.std.proofs.Common.{◌≡◌, ℕ, zero, suc, ◌+◌, ◌<◌, ◌≤◌, List, [], ◌∷◌, ◌++◌, get_or, length, map, take, refl, sym, ap, subst, ◌∙◌, arith, append-nil}
use Rattle.std.proofs.lemmas.List.{take_more}
use Rattle.coco_types.specs.declared.call.Request.{Request}
use Rattle.coco_ast.specs.Fitting.{Fits}
use Rattle.coco_ast.specs.History.{request_of}
use Rattle.coco_ast.specs.Tree.{Procedures}
use Rattle.coco_kept.specs.Keeping.{Keeping}
use Rattle.coco_batches.specs.Asking.{known_of}
use Rattle.coco_lines.specs.Classes.{Known, and_known, new_in, new_of}
use Rattle.coco_lines.specs.declared.class.Class.{Class}
use Rattle.coco_lines.specs.declared.class.Class.TheVariants.{Refused, Same, New}
use Rattle.coco_serve.proofs.AgainLemmas.{both_added, new_append, none_added}
use Rattle.coco_try.specs.Growth.{AreClassesOf, IsClassOf}
use Rattle.coco_try.specs.Report.{answered_in}
use Rattle.coco_try.specs.Work.{AllFit, HasClasses}

-- one of the requests that can be run
pub fit_at : (procs : Procedures) (rs : List Request) (i : ℕ) (d : Request) → i < length rs → AllFit procs rs → Fits procs (get_or rs i d).call
fit_at procs [] i d lt fit = absurd (omega (arith, lt))
fit_at procs (r ∷ rs) zero d lt fit = fit.0
fit_at procs (r ∷ rs) (suc i) d lt fit = fit_at procs rs i d (omega (arith, lt)) fit.1

-- ---- lists of classes

pub answered-append : (xs ys : List Class) → answered_in (xs ++ ys) ≡ answered_in xs + answered_in ys
answered-append [] ys = omega arith
answered-append (Refused e ∷ xs) ys = answered-append xs ys
answered-append (Same id ∷ xs) ys = let rest = answered-append xs ys in omega (arith, rest)
answered-append (New r ∷ xs) ys = let rest = answered-append xs ys in omega (arith, rest)

pub answered_few : (cs : List Class) → answered_in cs ≤ length cs
answered_few [] = omega arith
answered_few (Refused e ∷ cs) = let rest = answered_few cs in omega (arith, rest)
answered_few (Same id ∷ cs) = let rest = answered_few cs in omega (arith, rest)
answered_few (New r ∷ cs) = let rest = answered_few cs in omega (arith, rest)

pub classes-length : (k : Known) (rs : List Request) (cs : List Class) → AreClassesOf k rs cs → length cs ≡ length rs
classes-length k [] cs are = ap (length {A = Class}) are
classes-length k (r ∷ rs) [] are = absurd are
classes-length k (r ∷ rs) (c ∷ cs) are = ap suc (classes-length (and_known k (new_in c)) rs cs are.1)

pub classes_more : (k : Known) (xs : List Request) (cs : List Class) (r : Request) (c : Class) → AreClassesOf k xs cs → IsClassOf (and_known k (new_of cs)) r c → AreClassesOf k (xs ++ r ∷ []) (cs ++ c ∷ [])
classes_more k [] cs r c are is =
    subst (λ l. AreClassesOf k (r ∷ []) (l ++ c ∷ [])) (sym are) (subst (λ m. IsClassOf m r c) (ap (λ l. and_known k (new_of l)) are ∙ none_added k) is, refl)
classes_more k (x ∷ xs) [] r c are is = absurd are
classes_more k (x ∷ xs) (d ∷ cs) r c are is =
    (are.0, classes_more (and_known k (new_in d)) xs cs r c are.1 (subst (λ m. IsClassOf m r c) (sym (both_added k (new_in d) (new_of cs))) is))

-- ---- a batch

-- what is known before the next request, with the new ones so far
known_with : (held : Keeping) (fresh : List Request) → known_of held fresh ≡ and_known (known_of held []) fresh
known_with held fresh = ap (λ l. record { requests = l; floor = held.floor }) (ap (λ l. l ++ fresh) (sym (append-nil (map request_of held.dones))))

-- what one request more does
pub record TakesIn (held : Keeping) (r : Request) (fresh grown : List Request) (answered counted : ℕ) : Type 0 where
  pub class : Class
  pub is : IsClassOf (known_of held fresh) r class
  pub fresh_are : grown ≡ fresh ++ new_in class
  pub answered_are : counted ≡ answered + answered_in (class ∷ [])

pub part_more : (held : Keeping) (front : List Request) (r : Request) (fresh grown : List Request) (answered counted : ℕ) → HasClasses (known_of held []) front fresh answered
    → TakesIn held r fresh grown answered counted → HasClasses (known_of held []) (front ++ r ∷ []) grown counted
part_more held front r fresh grown answered counted h t = record {
  classes = h.classes ++ t.class ∷ [];
  are = classes_more (known_of held []) front h.classes r t.class h.are (subst (λ m. IsClassOf m r t.class) (ap (known_of held) h.fresh_are ∙ known_with held (new_of h.classes)) t.is);
  fresh_are = t.fresh_are ∙ ap (λ l. l ++ new_in t.class) h.fresh_are ∙ ap (λ l. new_of h.classes ++ l) (sym (append-nil (new_in t.class))) ∙ sym (new_append h.classes (t.class ∷ []));
  answered_are = (let one = t.answered_are in let before = h.answered_are in let both = answered-append h.classes (t.class ∷ []) in omega (arith, one, before, both));
}

pub part_next : (held : Keeping) (rs : List Request) (i : ℕ) (r : Request) (fresh grown : List Request) (answered counted : ℕ) → i < length rs → get_or rs i r ≡ r
    → HasClasses (known_of held []) (take i rs) fresh answered → TakesIn held r fresh grown answered counted → HasClasses (known_of held []) (take (i + 1) rs) grown counted
part_next held rs i r fresh grown answered counted within at h t =
    subst (λ l. HasClasses (known_of held []) l grown counted) (ap (λ x. take i rs ++ x ∷ []) (sym at) ∙ sym (take_more rs i r within))
    (part_more held (take i rs) r fresh grown answered counted h t)

pub part_few : (k : Known) (rs : List Request) (fresh : List Request) (answered : ℕ) → HasClasses k rs fresh answered → answered ≤ length rs
part_few k rs fresh answered h =
    let same = h.answered_are in
    let few = answered_few h.classes in
    let count = classes-length k rs h.classes h.are in
    omega (arith, same, few, count)
