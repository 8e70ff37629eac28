-- The class of a line depends on what is known before it, and there on which requests are known, not on their order.
use Rattle.std.proofs.Common.{◌≡◌, refl, sym, ap, subst, ◌∙◌, ℕ, Bool, true, false, nat_eq, nat_le, nat_lt, ◌&&◌, suc, zero, List, [], ◌∷◌, ◌++◌, length, map, take, Option, None, Some, IsPermutation}
use Rattle.std.proofs.lemmas.List.Sorted.{list_any-IsPermutation, length_permutation, IsPermutation-append_left}
use Rattle.coco_types.specs.declared.limits.TheConstants.{MOST_KEPT, MOST_LINE_BYTES}
use Rattle.coco_types.specs.declared.call.Request.{Request}
use Rattle.coco_types.specs.contracts.call.CallPartialEq.TheImpl as call
use Rattle.coco_ast.specs.History.{is_up_to}
use Rattle.coco_ast.specs.Tree.{Procedures}
use Rattle.coco_lines.specs.Lines.{Line}
use Rattle.std.proofs.Common.{if◌then◌else◌, arith}
use Rattle.std.specs.Option.{option_map}
use Rattle.std.proofs.lemmas.Bool.Decides.{nat_tests}
use Rattle.coco_lines.specs.Reading.{json_of, first_that_fits, reading_tests, request_in, reading_error, request_on}
use Rattle.coco_lines.specs.Reads.{body_of}
use Rattle.coco_lines.specs.declared.reader.Body.{Body}
use Rattle.coco_lines.specs.declared.reader.Body.TheVariants.{Long, Whole}
use Rattle.coco_lines.specs.declared.error.LineError.{LineError}
use Rattle.coco_lines.proofs.ReadingLemmas.{first_of_both, first_of_second}
use Rattle.coco_lines.specs.Classes.{Known, and_known, is_known, is_same, is_full, refusing, request_tests, class_tests, IsClass, new_in, AreClasses}
use Rattle.coco_lines.specs.declared.class.Class.{Class}
use Rattle.coco_lines.specs.declared.class.Class.TheVariants.{Refused, Same, New}
use Rattle.coco_lines.specs.declared.error.LineError.TheVariants as error

-- the same requests are known, in whatever order, and the same ids may have been forgotten
pub record AreAlike (k m : Known) : Type 0 where
  pub requests : IsPermutation k.requests m.requests
  pub floors : (r : Request) → is_up_to k.floor r.id ≡ is_up_to m.floor r.id

pub alike_with : (k m : Known) (rs : List Request) → AreAlike k m → AreAlike (and_known k rs) (and_known m rs)
alike_with k m rs a = record { requests = IsPermutation-append_left rs k.requests m.requests a.requests; floors = a.floors }

abbrev tests_by : Request → Bool → Bool → Bool → Bool → List (Bool × Class)
tests_by r same known old full = (same, Same r.id) ∷ (known, Refused error.Reused) ∷ (old, Refused error.Old) ∷ (full, Refused error.Full) ∷ (true, New r) ∷ []

request_alike : (k m : Known) (o : Option Request) → AreAlike k m → request_tests k o ≡ request_tests m o
request_alike k m None a = refl
request_alike k m (Some r) a =
    let same : is_same k r ≡ is_same m r = list_any-IsPermutation (λ (q : Request). nat_eq r.id q.id && call.ghosts.eq q.call r.call) k.requests m.requests a.requests in
    let known : is_known k r ≡ is_known m r = list_any-IsPermutation (λ (q : Request). nat_eq r.id q.id) k.requests m.requests a.requests in
    let full : is_full k ≡ is_full m = ap (nat_le MOST_KEPT) (sym (length_permutation k.requests m.requests a.requests)) in
    ap (λ b. tests_by r b (is_known k r) (is_up_to k.floor r.id) (is_full k)) same ∙ ap (λ b. tests_by r (is_same m r) b (is_up_to k.floor r.id) (is_full k)) known
    ∙ ap (λ b. tests_by r (is_same m r) (is_known m r) b (is_full k)) (a.floors r) ∙ ap (λ b. tests_by r (is_same m r) (is_known m r) (is_up_to m.floor r.id) b) full

tests_alike : (procs : Procedures) (k m : Known) (line : Line) → AreAlike k m → class_tests procs k line ≡ class_tests procs m line
unfolding class_tests
tests_alike procs k m line a =
    ap (λ ts. (nat_lt MOST_LINE_BYTES (length line), Refused error.Long) ∷ (map refusing (reading_tests procs (json_of line)) ++ ts)) (request_alike k m (request_in procs (json_of line)) a)

one_class : (procs : Procedures) (k m : Known) (line : Line) (c d : Class) → AreAlike k m → IsClass procs k line c → IsClass procs m line d → c ≡ d
one_class procs k m line c d a is also =
    let e : Some c ≡ Some d = sym is ∙ ap first_that_fits (tests_alike procs k m line a) ∙ also in
    cc

-- lines have one list of classes
pub one_list : (procs : Procedures) (k m : Known) (lines : List Line) (cs ds : List Class) → AreAlike k m → AreClasses procs k lines cs → AreClasses procs m lines ds → cs ≡ ds
one_list procs k m [] cs ds a is also = is ∙ sym also
one_list procs k m (line ∷ lines) [] ds a is also = absurd is
one_list procs k m (line ∷ lines) (c ∷ cs) [] a is also = absurd also
one_list procs k m (line ∷ lines) (c ∷ cs) (d ∷ ds) a is also =
    let same = one_class procs k m line c d a is.0 also.0 in
    let later : AreClasses procs (and_known m (new_in c)) lines ds = subst (λ x. AreClasses procs (and_known m (new_in x)) lines ds) (sym same) also.1 in
    let rest = one_list procs (and_known k (new_in c)) (and_known m (new_in c)) lines cs ds (alike_with k m (new_in c) a) is.1 later in
    ap (λ x. x ∷ cs) same ∙ ap (λ l. d ∷ l) rest

pub classes_length : (procs : Procedures) (k : Known) (lines : List Line) (cs : List Class) → AreClasses procs k lines cs → length cs ≡ length lines
classes_length procs k [] cs are = ap length are
classes_length procs k (line ∷ lines) [] are = absurd are
classes_length procs k (line ∷ lines) (c ∷ cs) are = ap suc (classes_length procs (and_known k (new_in c)) lines cs are.1)

-- the first lines have the first classes
first_classes : (procs : Procedures) (k : Known) (n : ℕ) (lines : List Line) (cs : List Class) → AreClasses procs k lines cs → AreClasses procs k (take n lines) (take n cs)
first_classes procs k zero lines cs are = refl
first_classes procs k (suc n) [] cs are = ap (take (suc n)) are
first_classes procs k (suc n) (line ∷ lines) [] are = absurd are
first_classes procs k (suc n) (line ∷ lines) (c ∷ cs) are = (are.0, first_classes procs (and_known k (new_in c)) n lines cs are.1)

-- so they have one list of classes, whatever lines come behind
pub one_front : (procs : Procedures) (k m : Known) (n : ℕ) (lines others : List Line) (cs ds : List Class) → AreAlike k m → take n lines ≡ take n others → AreClasses procs k lines cs
    → AreClasses procs m others ds → take n cs ≡ take n ds
one_front procs k m n lines others cs ds a same is also =
    let first = subst (λ ls. AreClasses procs m ls (take n ds)) (sym same) (first_classes procs m n others ds also) in
    one_list procs k m (take n lines) (take n cs) (take n ds) a (first_classes procs k n lines cs is) first

-- ---- the class of a line that was read

lengths : (line : Line) (b : Bool) → nat_le (length line) MOST_LINE_BYTES ≡ b → (body : Body) → body ≡ (if b then Whole line else Long) → (body ≡ Long → nat_lt MOST_LINE_BYTES (length line) ≡ true)
    × ((bytes : List ℕ) → body ≡ Whole bytes → (bytes ≡ line) × (nat_lt MOST_LINE_BYTES (length line) ≡ false))
lengths line true fits body is = (λ long. absurd (differ (sym is ∙ long)), λ bytes whole. (sym (same (sym is ∙ whole)), grind (arith, nat_tests)))
  where
    differ : ◌≡◌ {A = Body} (Whole line) Long → ⊥
    differ h = cc

    same : {bytes : List ℕ} → ◌≡◌ {A = Body} (Whole line) (Whole bytes) → line ≡ bytes
    same h = cc
lengths line false fits body is = (λ long. grind (arith, nat_tests), λ bytes whole. absurd (differ (sym is ∙ whole)))
  where
    differ : {bytes : List ℕ} → ◌≡◌ {A = Body} Long (Whole bytes) → ⊥
    differ h = cc

pub whole_line : (line bytes : List ℕ) (body : Body) → body ≡ body_of line → body ≡ Whole bytes → bytes ≡ line
whole_line line bytes body is whole = ((lengths line (nat_le (length line) MOST_LINE_BYTES) refl body is).1 bytes whole).0

pub long_class : (procs : Procedures) (k : Known) (line : Line) (body : Body) → body ≡ body_of line → body ≡ Long → IsClass procs k line (Refused error.Long)
unfolding class_tests
long_class procs k line body is long =
    let test = (lengths line (nat_le (length line) MOST_LINE_BYTES) refl body is).0 long in
    rw test

refusals : (xs : List (Bool × LineError)) → first_that_fits (map refusing xs) ≡ option_map Refused (first_that_fits xs)
refusals [] = refl
refusals (x ∷ xs) = step x.0 (first_that_fits (map refusing xs)) (first_that_fits xs) (refusals xs)
  where
    step : (b : Bool) (o : Option Class) (p : Option LineError) → o ≡ option_map Refused p → (if b then Some (Refused x.1) else o) ≡ option_map Refused (if b then Some x.1 else p)
    step true o p h = refl
    step false o p h = h

after_long : (procs : Procedures) (k : Known) (line : Line) (bytes : List ℕ) (body : Body) (c : Class) → body ≡ body_of line → body ≡ Whole bytes
    → first_that_fits (map refusing (reading_tests procs (json_of line)) ++ request_tests k (request_in procs (json_of line))) ≡ Some c → IsClass procs k line c
unfolding class_tests
after_long procs k line bytes body c is whole first =
    let test = ((lengths line (nat_le (length line) MOST_LINE_BYTES) refl body is).1 bytes whole).1 in
    rw test first

pub refused_class : (procs : Procedures) (k : Known) (line bytes : List ℕ) (body : Body) (e : LineError) → body ≡ body_of line → body ≡ Whole bytes → reading_error procs line ≡ Some e
    → IsClass procs k line (Refused e)
unfolding reading_error
refused_class procs k line bytes body e is whole read =
    after_long procs k line bytes body (Refused e) is whole
    (first_of_both (map refusing (reading_tests procs (json_of line))) (request_tests k (request_in procs (json_of line))) (Refused e)
    (refusals (reading_tests procs (json_of line)) ∙ ap (option_map Refused) read))

pub request_class : (procs : Procedures) (k : Known) (line bytes : List ℕ) (body : Body) (r : Request) (c : Class) → body ≡ body_of line → body ≡ Whole bytes → reading_error procs line ≡ None
    → request_on procs line ≡ Some r → first_that_fits (request_tests k (Some r)) ≡ Some c → IsClass procs k line c
unfolding reading_error request_on
request_class procs k line bytes body r c is whole sound asks first =
    after_long procs k line bytes body c is whole
    (first_of_second (map refusing (reading_tests procs (json_of line))) (request_tests k (request_in procs (json_of line))) (refusals (reading_tests procs (json_of line)) ∙ ap (option_map Refused) sound)
    ∙ ap (λ o. first_that_fits (request_tests k o)) asks ∙ first)
