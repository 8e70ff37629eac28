-- Lines that come again on the history that they left.
use Rattle.std.proofs.Common.{◌≡◌, refl, sym, ap, subst, ◌∙◌, ℕ, suc, ◌+◌, Bool, true, false, ◌||◌, ◌&&◌, nat_eq, nat_le, nat_lt, List, [], ◌∷◌, ◌++◌, map, length, Option, None, Some, append_assoc, append-nil, arith, inl, inr, ◌⊎◌, IsPermutation}
use Rattle.std.specs.Prelude.{⊤, if◌then◌else◌}
use Rattle.std.specs.Cmp.{nat_eq_equiv}
use Rattle.std.specs.List.{AllByRecursion, list_any}
use Rattle.std.proofs.lemmas.Bool.Decides.{nat_tests}
use Rattle.std.proofs.lemmas.List.{map-append, length-append}
use Rattle.std.proofs.lemmas.List.Folds.{list_any-append}
use Rattle.std.proofs.lemmas.List.Sorted.{IsPermutation-append_right, IsPermutation-trans, IsPermutation-sym, IsPermutation-refl, list_any-IsPermutation, length_permutation}
use Rattle.std.proofs.lemmas.Bool.{and_left, or_from, or_left, or_parts, or_right}
use Rattle.coco_types.specs.declared.limits.TheConstants.{MOST_KEPT, MOST_LINE_BYTES}
use Rattle.coco_types.specs.declared.call.Done.{Done}
use Rattle.coco_types.specs.declared.call.Request.{Request}
use Rattle.coco_types.specs.contracts.call.CallPartialEq.TheImpl as call
use Rattle.coco_types.proofs.CallEquality.{call_Decides}
use Rattle.coco_ast.specs.Growth.{GrowsBy}
use Rattle.coco_ast.specs.History.{History, all_dones, followed_by, is_up_to, kept, request_of}
use Rattle.coco_ast.specs.Tree.{Procedures}
use Rattle.coco_ast.proofs.GrowthLemmas.{dones_behind}
use Rattle.coco_ast.proofs.KeptLemmas.{keeps_all}
use Rattle.coco_serve.specs.Again.{AreAnsweredAgain, again}
use Rattle.coco_lines.specs.Answers.{answer_by, answers_by}
use Rattle.coco_lines.specs.Batches.{Batch, joined}
use Rattle.coco_lines.specs.Classes.{Known, and_known, is_known, is_same, is_full, known_in, refusing, request_tests, class_tests, IsClass, new_in, new_of, AreClasses}
use Rattle.coco_lines.specs.Growing.{GrowsByBatches}
use Rattle.coco_lines.specs.Lines.{Line}
use Rattle.coco_lines.specs.Reading.{json_of, first_that_fits, reading_tests, request_in}
use Rattle.coco_lines.specs.declared.class.Class.{Class}
use Rattle.coco_lines.specs.declared.class.Class.TheVariants.{Refused, Same, New}
use Rattle.coco_lines.specs.declared.error.LineError.{LineError}
use Rattle.coco_lines.specs.declared.error.LineError.TheVariants as error
use Rattle.coco_lines.proofs.ClassLemmas.{AreAlike, alike_with, one_list}
use Rattle.coco_lines.proofs.ReplyLemmas.{IsNewTo, answers_still}

-- ---- what decides a class

abbrev pub Tests : Type 0
Tests = List (Bool × Class)

-- the line alone is refused by it
abbrev pub IsOwn : LineError → Type 0
IsOwn error.Reused = ⊥
IsOwn error.Full = ⊥
IsOwn error.Old = ⊥
IsOwn e = ⊤

-- it is refused whatever is known
pub record IsSettled (decide : Tests → Option Class) (c : Class) : Type 0 where
  pub fault : LineError
  pub own : IsOwn fault
  pub is : c ≡ Refused fault
  pub whatever : (ts : Tests) → decide ts ≡ Some c

-- what is known decides
pub record IsOpen (decide : Tests → Option Class) (ts : Tests) (c : Class) : Type 0 where
  pub fits : first_that_fits ts ≡ Some c
  pub whichever : (us : Tests) (d : Class) → first_that_fits us ≡ Some d → decide us ≡ Some d

abbrev pub behind : List (Bool × LineError) → Tests → Option Class
behind xs ts = first_that_fits (map refusing xs ++ ts)

settled : (e : LineError) (c : Class) → ◌≡◌ {A = Option Class} (Some (Refused e)) (Some c) → c ≡ Refused e
settled e c h = cc

abbrev tried : Bool → LineError → List (Bool × LineError) → Tests → Option Class
tried b e xs ts = if b then Some (Refused e) else behind xs ts

decided_by : (b : Bool) (e : LineError) (xs : List (Bool × LineError)) (ts : Tests) (c : Class) → IsOwn e → (behind xs ts ≡ Some c → IsSettled (behind xs) c ⊎ IsOpen (behind xs) ts c)
    → tried b e xs ts ≡ Some c → IsSettled (tried b e xs) c ⊎ IsOpen (tried b e xs) ts c
decided_by true e xs ts c own rest h = inl (record { fault = e; own = own; is = settled e c h; whatever = λ us. h })
decided_by false e xs ts c own rest h = rest h

decided : (xs : List (Bool × LineError)) (ts : Tests) (c : Class) → AllByRecursion (λ (x : Bool × LineError). IsOwn x.1) xs → behind xs ts ≡ Some c → IsSettled (behind xs) c ⊎ IsOpen (behind xs) ts c
decided [] ts c own h = inr (record { fits = h; whichever = λ us d e. e })
decided (x ∷ xs) ts c own h = decided_by x.0 x.1 xs ts c own.0 (decided xs ts c own.1) h

abbrev pub asked : Procedures → Line → Option Request
asked procs line = request_in procs (json_of line)

-- a line's class, by what is known
abbrev pub class_by : Procedures → Line → Tests → Option Class
class_by procs line = behind ((nat_lt MOST_LINE_BYTES (length line), error.Long) ∷ reading_tests procs (json_of line))

pub class_decided : (procs : Procedures) (k : Known) (line : Line) (c : Class) → IsClass procs k line c → IsSettled (class_by procs line) c ⊎ IsOpen (class_by procs line) (request_tests k (asked procs line)) c
unfolding class_tests
class_decided procs k line c is =
    decided ((nat_lt MOST_LINE_BYTES (length line), error.Long) ∷ reading_tests procs (json_of line)) (request_tests k (asked procs line)) c (tt, (tt, (tt, (tt, (tt, (tt, tt)))))) is

pub class_is : (procs : Procedures) (k : Known) (line : Line) (c : Class) → IsClass procs k line c → class_by procs line (request_tests k (asked procs line)) ≡ Some c
unfolding class_tests
class_is procs k line c is = is

class_from : (procs : Procedures) (k : Known) (line : Line) (c : Class) → class_by procs line (request_tests k (asked procs line)) ≡ Some c → IsClass procs k line c
unfolding class_tests
class_from procs k line c is = is

-- what a line is by one thing known it is by another, where its request is that too
other_class : (procs : Procedures) (k m : Known) (line : Line) (c d : Class) → IsClass procs k line c → ((e : LineError) → c ≡ Refused e → d ≡ c)
    → ((o : Option Request) → first_that_fits (request_tests k o) ≡ Some c → first_that_fits (request_tests m o) ≡ Some d) → IsClass procs m line d
other_class procs k m line c d is refused asks =
    class_from procs m line d (elim (class_decided procs k line c is) [
      | inl s ↦ s.whatever (request_tests m (asked procs line)) ∙ ap Some (sym (refused s.fault s.is))
      | inr o ↦ o.whichever (request_tests m (asked procs line)) d (asks (asked procs line) o.fits)
    ])

-- ---- what is known alike gives the same classes

abbrev pub tests_by : Request → Bool → Bool → Bool → Bool → Tests
tests_by r same known old full = (same, Same r.id) ∷ (known, Refused error.Reused) ∷ (old, Refused error.Old) ∷ (full, Refused error.Full) ∷ (true, New r) ∷ []

asks_alike : (k m : Known) (o : Option Request) → AreAlike k m → request_tests k o ≡ request_tests m o
asks_alike k m None a = refl
asks_alike k m (Some r) a =
    let same : is_same k r ≡ is_same m r = list_any-IsPermutation (λ (q : Request). nat_eq r.id q.id && call.ghosts.eq q.call r.call) k.requests m.requests a.requests in
    let known : is_known k r ≡ is_known m r = list_any-IsPermutation (λ (q : Request). nat_eq r.id q.id) k.requests m.requests a.requests in
    let full : is_full k ≡ is_full m = ap (nat_le MOST_KEPT) (sym (length_permutation k.requests m.requests a.requests)) in
    ap (λ b. tests_by r b (is_known k r) (is_up_to k.floor r.id) (is_full k)) same ∙ ap (λ b. tests_by r (is_same m r) b (is_up_to k.floor r.id) (is_full k)) known
    ∙ ap (λ b. tests_by r (is_same m r) (is_known m r) b (is_full k)) (a.floors r) ∙ ap (λ b. tests_by r (is_same m r) (is_known m r) (is_up_to m.floor r.id) b) full

class_alike : (procs : Procedures) (k m : Known) (line : Line) (c : Class) → AreAlike k m → IsClass procs k line c → IsClass procs m line c
class_alike procs k m line c a is = other_class procs k m line c c is (λ e h. refl) (λ o h. ap first_that_fits (sym (asks_alike k m o a)) ∙ h)

classes_alike : (procs : Procedures) (k m : Known) (lines : List Line) (cs : List Class) → AreAlike k m → AreClasses procs k lines cs → AreClasses procs m lines cs
classes_alike procs k m [] cs a are = are
classes_alike procs k m (line ∷ lines) [] a are = absurd are
classes_alike procs k m (line ∷ lines) (c ∷ cs) a are =
    (class_alike procs k m line c a are.0, classes_alike procs (and_known k (new_in c)) (and_known m (new_in c)) lines cs (alike_with k m (new_in c) a) are.1)

pub alike_by : (k m : Known) → k ≡ m → AreAlike k m
alike_by k m same = subst (AreAlike k) same (record { requests = IsPermutation-refl k.requests; floors = λ r. refl })

pub alike_trans : (k m n : Known) → AreAlike k m → AreAlike m n → AreAlike k n
alike_trans k m n a b = record { requests = IsPermutation-trans k.requests m.requests n.requests a.requests b.requests; floors = λ r. a.floors r ∙ b.floors r }

pub none_added : (k : Known) → and_known k [] ≡ k
none_added k = ap (λ l. record k { requests = l }) (append-nil k.requests)

pub both_added : (k : Known) (rs qs : List Request) → and_known (and_known k rs) qs ≡ and_known k (rs ++ qs)
both_added k rs qs = ap (λ l. record k { requests = l }) (append_assoc k.requests rs qs)

-- ---- lists of classes

pub new_append : (cs ds : List Class) → new_of (cs ++ ds) ≡ new_of cs ++ new_of ds
new_append [] ds = refl
new_append (c ∷ cs) ds = ap (λ l. new_in c ++ l) (new_append cs ds) ∙ sym (append_assoc (new_in c) (new_of cs) (new_of ds))

classes_append : (procs : Procedures) (k : Known) (xs ys : List Line) (cs ds : List Class) → AreClasses procs k xs cs → AreClasses procs (and_known k (new_of cs)) ys ds → AreClasses procs k (xs ++ ys) (cs ++ ds)
classes_append procs k [] ys cs ds are behind =
    subst (λ l. AreClasses procs k ys (l ++ ds)) (sym are) (subst (λ m. AreClasses procs m ys ds) (none_added k) (subst (λ l. AreClasses procs (and_known k (new_of l)) ys ds) are behind))
classes_append procs k (x ∷ xs) ys [] ds are behind = absurd are
classes_append procs k (x ∷ xs) ys (c ∷ cs) ds are behind =
    (are.0, classes_append procs (and_known k (new_in c)) xs ys cs ds are.1 (subst (λ m. AreClasses procs m ys ds) (sym (both_added k (new_in c) (new_of cs))) behind))

-- the classes of lines and of others behind them
pub record AreInTwo (procs : Procedures) (k : Known) (xs ys : List Line) (all : List Class) : Type 0 where
  pub front : List Class
  pub rest : List Class
  pub parts : all ≡ front ++ rest
  pub first : AreClasses procs k xs front
  pub second : AreClasses procs (and_known k (new_of front)) ys rest

pub in_two : (procs : Procedures) (k : Known) (xs ys : List Line) (all : List Class) → AreClasses procs k (xs ++ ys) all → AreInTwo procs k xs ys all
in_two procs k [] ys all are = record { front = []; rest = all; parts = refl; first = refl; second = subst (λ m. AreClasses procs m ys all) (sym (none_added k)) are }
in_two procs k (x ∷ xs) ys [] are = absurd are
in_two procs k (x ∷ xs) ys (c ∷ all) are =
    let t = in_two procs (and_known k (new_in c)) xs ys all are.1 in
    record { front = c ∷ t.front; rest = t.rest; parts = ap (λ l. c ∷ l) t.parts; first = (are.0, t.first); second = subst (λ m. AreClasses procs m ys t.rest) (both_added k (new_in c) (new_of t.front)) t.second }

-- ---- what the new requests of lines are to what was known before

abbrev pub has : ℕ → List Request → Bool
has id rs = list_any (λ (q : Request). nat_eq id q.id) rs

new_by : (k : Known) (q r : Request) (a b c d : Bool) → is_known k q ≡ b → is_up_to k.floor q.id ≡ c → is_full k ≡ d → first_that_fits (tests_by q a b c d) ≡ Some (New r) → (q ≡ r) × IsNewTo k q × (is_full k ≡ false)
new_by k q r true b c d known old full h = let e : ◌≡◌ {A = Option Class} (Some (Same q.id)) (Some (New r)) = h in cc
new_by k q r false true c d known old full h = let e : ◌≡◌ {A = Option Class} (Some (Refused error.Reused)) (Some (New r)) = h in cc
new_by k q r false false true d known old full h = let e : ◌≡◌ {A = Option Class} (Some (Refused error.Old)) (Some (New r)) = h in cc
new_by k q r false false false true known old full h = let e : ◌≡◌ {A = Option Class} (Some (Refused error.Full)) (Some (New r)) = h in cc
new_by k q r false false false false known old full h = let e : ◌≡◌ {A = Option Class} (Some (New q)) (Some (New r)) = h in (cc, record { unknown = known; above = old }, full)

new_asked : (k : Known) (o : Option Request) (r : Request) → first_that_fits (request_tests k o) ≡ Some (New r) → IsNewTo k r × (is_full k ≡ false)
new_asked k None r h = let e : ◌≡◌ {A = Option Class} None (Some (New r)) = h in absurd (cc)
new_asked k (Some q) r h =
    let is = new_by k q r (is_same k q) (is_known k q) (is_up_to k.floor q.id) (is_full k) refl refl refl h in
    (subst (IsNewTo k) is.0 is.1, is.2)

pub new_asked_is : (k : Known) (o : Option Request) (r : Request) → first_that_fits (request_tests k o) ≡ Some (New r) → o ≡ Some r
new_asked_is k None r h = let e : ◌≡◌ {A = Option Class} None (Some (New r)) = h in absurd (cc)
new_asked_is k (Some q) r h = ap Some (new_by k q r (is_same k q) (is_known k q) (is_up_to k.floor q.id) (is_full k) refl refl refl h).0

not_new : (r : Request) (e : LineError) → ◌≡◌ {A = Class} (New r) (Refused e) → ⊥
not_new r e h = cc

pub new_class : (procs : Procedures) (k : Known) (line : Line) (r : Request) → IsClass procs k line (New r) → IsNewTo k r × (is_full k ≡ false)
new_class procs k line r is =
    elim (class_decided procs k line (New r) is) [
      | inl s ↦ absurd (not_new r s.fault s.is)
      | inr o ↦ new_asked k (asked procs line) r o.fits
    ]

still_new : (k : Known) (rs : List Request) (q : Request) → IsNewTo (and_known k rs) q → IsNewTo k q
still_new k rs q new = record { unknown = (or_parts (is_known k q) (has q.id rs) (sym (list_any-append (λ (p : Request). nat_eq q.id p.id) k.requests rs) ∙ new.unknown)).0; above = new.above }

pub all_still_new : (k : Known) (rs qs : List Request) → AllByRecursion (IsNewTo (and_known k rs)) qs → AllByRecursion (IsNewTo k) qs
all_still_new k rs [] all = tt
all_still_new k rs (q ∷ qs) all = (still_new k rs q all.0, all_still_new k rs qs all.1)

pub news_are_new : (procs : Procedures) (k : Known) (lines : List Line) (cs : List Class) → AreClasses procs k lines cs → AllByRecursion (IsNewTo k) (new_of cs)
news_are_new procs k [] cs are = subst (λ l. AllByRecursion (IsNewTo k) (new_of l)) (sym are) tt
news_are_new procs k (line ∷ lines) [] are = absurd are
news_are_new procs k (line ∷ lines) (Refused e ∷ cs) are = all_still_new k [] (new_of cs) (news_are_new procs (and_known k []) lines cs are.1)
news_are_new procs k (line ∷ lines) (Same id ∷ cs) are = all_still_new k [] (new_of cs) (news_are_new procs (and_known k []) lines cs are.1)
news_are_new procs k (line ∷ lines) (New r ∷ cs) are = ((new_class procs k line r are.0).0, all_still_new k (r ∷ []) (new_of cs) (news_are_new procs (and_known k (r ∷ [])) lines cs are.1))

full_still : (k : Known) (rs : List Request) → is_full k ≡ true → is_full (and_known k rs) ≡ true
full_still k rs full = let l = length-append k.requests rs in grind (arith, nat_tests)

-- a full store takes no line for new
none_new : (procs : Procedures) (k : Known) (lines : List Line) (cs : List Class) → is_full k ≡ true → AreClasses procs k lines cs → new_of cs ≡ []
none_new procs k [] cs full are = ap new_of are
none_new procs k (line ∷ lines) [] full are = refl
none_new procs k (line ∷ lines) (Refused e ∷ cs) full are = none_new procs (and_known k []) lines cs (full_still k [] full) are.1
none_new procs k (line ∷ lines) (Same id ∷ cs) full are = none_new procs (and_known k []) lines cs (full_still k [] full) are.1
none_new procs k (line ∷ lines) (New r ∷ cs) full are = let e : true ≡ false = sym full ∙ (new_class procs k line r are.0).1 in absurd (cc)

-- ---- a line again

pub clash : (a b : Bool) → a ≡ b → a ≡ true → b ≡ false → ⊥
clash a b e p q = let f : true ≡ false = sym p ∙ e ∙ q in cc

-- requests of other ids
abbrev pub AreApart : Request → List Request → Type 0
AreApart r qs = AllByRecursion (λ q. nat_eq r.id q.id ≡ false) qs

pub apart_by : (r q : Request) (f : ℕ → Bool) → f r.id ≡ true → f q.id ≡ false → (b : Bool) → nat_eq r.id q.id ≡ b → b ≡ false
apart_by r q f here there true e = let same : r.id ≡ q.id = grind (arith, nat_tests) in absurd (clash (f r.id) (f q.id) (ap f same) here there)
apart_by r q f here there false e = refl

pub known_apart : (k : Known) (r : Request) (qs : List Request) → is_known k r ≡ true → AllByRecursion (IsNewTo k) qs → AreApart r qs
known_apart k r [] known all = tt
known_apart k r (q ∷ qs) known all = (apart_by r q (λ n. list_any (λ (p : Request). nat_eq n p.id) k.requests) known all.0.unknown (nat_eq r.id q.id) refl, known_apart k r qs known all.1)

pub old_apart : (k : Known) (r : Request) (qs : List Request) → is_up_to k.floor r.id ≡ true → AllByRecursion (IsNewTo k) qs → AreApart r qs
old_apart k r [] old all = tt
old_apart k r (q ∷ qs) old all =
    (apart_by r q (is_up_to k.floor) old all.0.above (nat_eq r.id q.id) refl, old_apart k r qs old all.1)

pub none_has : (r : Request) (qs : List Request) → AreApart r qs → has r.id qs ≡ false
none_has r [] all = refl
none_has r (q ∷ qs) all = or_from (nat_eq r.id q.id) (has r.id qs) all.0 (none_has r qs all.1)

abbrev pub equals : Request → Request → Bool
equals r q = nat_eq r.id q.id && call.ghosts.eq q.call r.call

pub none_equals : (r : Request) (qs : List Request) → AreApart r qs → list_any (equals r) qs ≡ false
none_equals r [] all = refl
none_equals r (q ∷ qs) all = or_from (equals r q) (list_any (equals r) qs) (and_left (nat_eq r.id q.id) (call.ghosts.eq q.call r.call) all.0) (none_equals r qs all.1)

pub same_with : (k : Known) (r : Request) (qs : List Request) → is_same (and_known k qs) r ≡ (is_same k r || list_any (equals r) qs)
same_with k r qs = list_any-append (equals r) k.requests qs

pub known_with : (k : Known) (r : Request) (qs : List Request) → is_known (and_known k qs) r ≡ (is_known k r || has r.id qs)
known_with k r qs = list_any-append (λ (q : Request). nat_eq r.id q.id) k.requests qs

pub equals_itself : (r : Request) → equals r r ≡ true
equals_itself r = both_true (nat_eq r.id r.id) (call.ghosts.eq r.call r.call) (nat_eq_equiv.refl r.id) ((call_Decides r.call r.call).1 refl)
  where
    both_true : (b c : Bool) → b ≡ true → c ≡ true → (b && c) ≡ true
    both_true b c p q = ap (λ x. x && c) p ∙ q

-- what stands of a request behind a line of this class, when these are known too
abbrev Behind : Known → List Request → Class → Type 0
Behind k later c = AllByRecursion (IsNewTo (and_known k (new_in c))) later × (is_full (and_known k (new_in c)) ≡ true → later ≡ [])

pub tests_are : (k : Known) (r : Request) (a b c d : Bool) (is : Class) → is_same k r ≡ a → is_known k r ≡ b → is_up_to k.floor r.id ≡ c → is_full k ≡ d → first_that_fits (tests_by r a b c d) ≡ Some is
    → first_that_fits (request_tests k (Some r)) ≡ Some is
tests_are k r a b c d is p q s t h =
    ap (λ x. first_that_fits (tests_by r x (is_known k r) (is_up_to k.floor r.id) (is_full k))) p ∙ ap (λ x. first_that_fits (tests_by r a x (is_up_to k.floor r.id) (is_full k))) q
    ∙ ap (λ x. first_that_fits (tests_by r a b x (is_full k))) s ∙ ap (λ x. first_that_fits (tests_by r a b c x)) t ∙ h

-- that class is the one that it has again
asked_again : (k : Known) (later : List Request) (r : Request) (c : Class) (a b o f : Bool) → is_same k r ≡ a → is_known k r ≡ b → is_up_to k.floor r.id ≡ o → is_full k ≡ f
    → first_that_fits (tests_by r a b o f) ≡ Some c → Behind k later c → first_that_fits (request_tests (and_known k (new_in c ++ later)) (Some r)) ≡ Some (again c)
asked_again k later r (Same id) true b o f same known old full h after =
    let e : ◌≡◌ {A = Option Class} (Some (Same r.id)) (Some (Same id)) = h in
    tests_are (and_known k later) r true (is_known (and_known k later) r) (is_up_to k.floor r.id) (is_full (and_known k later)) (Same id)
    (same_with k r later ∙ or_left (is_same k r) (list_any (equals r) later) same) refl refl refl e
asked_again k later r (Refused x) true b o f same known old full h after = let e : ◌≡◌ {A = Option Class} (Some (Same r.id)) (Some (Refused x)) = h in absurd (cc)
asked_again k later r (New q) true b o f same known old full h after = let e : ◌≡◌ {A = Option Class} (Some (Same r.id)) (Some (New q)) = h in absurd (cc)
asked_again k later r (Refused x) false true o f same known old full h after =
    let apart = known_apart k r later known (all_still_new k [] later after.0) in
    tests_are (and_known k later) r false true (is_up_to k.floor r.id) (is_full (and_known k later)) (Refused x)
    (same_with k r later ∙ or_from (is_same k r) (list_any (equals r) later) same (none_equals r later apart))
    (known_with k r later ∙ or_left (is_known k r) (has r.id later) known) refl refl h
asked_again k later r (Same id) false true o f same known old full h after = let e : ◌≡◌ {A = Option Class} (Some (Refused error.Reused)) (Some (Same id)) = h in absurd (cc)
asked_again k later r (New q) false true o f same known old full h after = let e : ◌≡◌ {A = Option Class} (Some (Refused error.Reused)) (Some (New q)) = h in absurd (cc)
asked_again k later r (Refused x) false false true f same known old full h after =
    let apart = old_apart k r later old (all_still_new k [] later after.0) in
    tests_are (and_known k later) r false false true (is_full (and_known k later)) (Refused x)
    (same_with k r later ∙ or_from (is_same k r) (list_any (equals r) later) same (none_equals r later apart))
    (known_with k r later ∙ or_from (is_known k r) (has r.id later) known (none_has r later apart)) old refl h
asked_again k later r (Same id) false false true f same known old full h after = let e : ◌≡◌ {A = Option Class} (Some (Refused error.Old)) (Some (Same id)) = h in absurd (cc)
asked_again k later r (New q) false false true f same known old full h after = let e : ◌≡◌ {A = Option Class} (Some (Refused error.Old)) (Some (New q)) = h in absurd (cc)
asked_again k later r (Refused x) false false false true same known old full h after =
    let none : later ≡ [] = after.1 (full_still k [] full) in
    let apart : AreApart r later = subst (AreApart r) (sym none) tt in
    tests_are (and_known k later) r false false false true (Refused x)
    (same_with k r later ∙ or_from (is_same k r) (list_any (equals r) later) same (none_equals r later apart))
    (known_with k r later ∙ or_from (is_known k r) (has r.id later) known (none_has r later apart)) old (full_still k later full) h
asked_again k later r (Same id) false false false true same known old full h after = let e : ◌≡◌ {A = Option Class} (Some (Refused error.Full)) (Some (Same id)) = h in absurd (cc)
asked_again k later r (New q) false false false true same known old full h after = let e : ◌≡◌ {A = Option Class} (Some (Refused error.Full)) (Some (New q)) = h in absurd (cc)
asked_again k later r (New q) false false false false same known old full h after =
    let e : ◌≡◌ {A = Option Class} (Some (New r)) (Some (New q)) = h in
    let is : r ≡ q = cc in
    let all = and_known k (q ∷ later) in
    let here : is_same all r ≡ true = same_with k r (q ∷ later) ∙ or_right (is_same k r) (equals r q || list_any (equals r) later)
    (or_left (equals r q) (list_any (equals r) later) (subst (λ x. equals r x ≡ true) is (equals_itself r))) in
    tests_are all r true (is_known all r) (is_up_to k.floor r.id) (is_full all) (Same q.id) here refl refl refl (ap (λ (x : Request). Some (Same x.id)) is)
asked_again k later r (Refused x) false false false false same known old full h after = let e : ◌≡◌ {A = Option Class} (Some (New r)) (Some (Refused x)) = h in absurd (cc)
asked_again k later r (Same id) false false false false same known old full h after = let e : ◌≡◌ {A = Option Class} (Some (New r)) (Some (Same id)) = h in absurd (cc)

any_asked_again : (k : Known) (later : List Request) (o : Option Request) (c : Class) → first_that_fits (request_tests k o) ≡ Some c → Behind k later c
    → first_that_fits (request_tests (and_known k (new_in c ++ later)) o) ≡ Some (again c)
any_asked_again k later None c h after = let e : ◌≡◌ {A = Option Class} None (Some c) = h in absurd (cc)
any_asked_again k later (Some r) c h after = asked_again k later r c (is_same k r) (is_known k r) (is_up_to k.floor r.id) (is_full k) refl refl refl refl h after

class_again : (procs : Procedures) (k : Known) (later : List Request) (line : Line) (c : Class) → IsClass procs k line c → Behind k later c → IsClass procs (and_known k (new_in c ++ later)) line (again c)
class_again procs k later line c is after =
    other_class procs k (and_known k (new_in c ++ later)) line c (again c) is (λ e refused. ap again refused ∙ sym refused) (λ o h. any_asked_again k later o c h after)

pub not_new_again : (c : Class) → new_in (again c) ≡ []
not_new_again (Refused e) = refl
not_new_again (Same id) = refl
not_new_again (New r) = refl

pub none_new_again : (cs : List Class) → new_of (map again cs) ≡ []
none_new_again [] = refl
none_new_again (c ∷ cs) = ap (λ l. l ++ new_of (map again cs)) (not_new_again c) ∙ none_new_again cs

-- lines once more, where all that was new in them is known
classes_again : (procs : Procedures) (k m : Known) (lines : List Line) (cs : List Class) → AreAlike (and_known k (new_of cs)) m → AreClasses procs k lines cs → AreClasses procs m lines (map again cs)
classes_again procs k m [] cs a are = ap (map again) are
classes_again procs k m (line ∷ lines) [] a are = absurd are
classes_again procs k m (line ∷ lines) (c ∷ cs) a are =
    let next = and_known k (new_in c) in
    let after : Behind k (new_of cs) c = (news_are_new procs next lines cs are.1, λ full. none_new procs next lines cs full are.1) in
    let quiet : m ≡ and_known m (new_in (again c)) = sym (ap (and_known m) (not_new_again c) ∙ none_added m) in (
      class_alike procs (and_known k (new_in c ++ new_of cs)) m line (again c) a (class_again procs k (new_of cs) line c are.0 after),
      classes_again procs next (and_known m (new_in (again c))) lines cs (subst (AreAlike (and_known next (new_of cs))) quiet (subst (λ x. AreAlike x m) (sym (both_added k (new_in c) (new_of cs))) a)) are.1,
    )

-- ---- a history without a keep number

alike_for : (k m : Known) → IsPermutation k.requests m.requests → k.floor ≡ m.floor → AreAlike k m
alike_for k m requests floors = record { requests = requests; floors = λ r. ap (λ f. is_up_to f r.id) floors }

grown_known : (h : History) (rs : List Request) (g : History) → h.keep ≡ None → GrowsBy h rs g → AreAlike (and_known (known_in h) rs) (known_in g) × (g.keep ≡ None)
grown_known h [] g all same = (alike_by (and_known (known_in h) []) (known_in g) (none_added (known_in h) ∙ ap known_in (sym same)), ap (λ (x : History). x.keep) same ∙ all)
grown_known h (r ∷ rs) g all grows =
    let e = grows.0 in
    let f = followed_by h e in
    let before = keeps_all h all in
    let after = keeps_all f all in
    let old : List Request = map request_of (kept h) in
    let one : map request_of (kept f) ≡ old ++ map request_of e.dones =
    ap (map request_of) (after.held ∙ dones_behind h e) ∙ map-append request_of (all_dones h) e.dones ∙ ap (λ l. map request_of l ++ map request_of e.dones) (sym before.held) in
    let requests : IsPermutation (old ++ r ∷ rs) (map request_of (kept f)) =
    subst (IsPermutation (old ++ r ∷ rs)) (sym one) (IsPermutation-append_right old (r ∷ rs) (map request_of e.dones) grows.2.each) in (
      subst (λ x. AreAlike (and_known (known_in h) (r ∷ rs)) (known_in x)) (sym grows.3)
          (alike_for (and_known (known_in h) (r ∷ rs)) (known_in f) requests (before.forgotten ∙ sym after.forgotten)),
      ap (λ (x : History). x.keep) grows.3 ∙ all,
    )

all_kept : (procs : Procedures) (h : History) (bs : List Batch) (cs : List (List Class)) (g : History) → h.keep ≡ None → GrowsByBatches procs h bs cs g → g.keep ≡ None
all_kept procs h [] cs g all grows = ap (λ (x : History). x.keep) grows.1 ∙ all
all_kept procs h (b ∷ bs) [] g all grows = absurd grows
all_kept procs h (b ∷ bs) (c ∷ cs) g all grows = all_kept procs grows.0 bs cs g (grown_known h (new_of c) grows.0 all grows.1.grows).1 grows.2

-- all lines of the batches have their classes one behind another, and leave their new requests known
pub record GrewByLines (procs : Procedures) (h : History) (lines : List Line) (cs : List Class) (g : History) : Type 0 where
  pub are : AreClasses procs (known_in h) lines cs
  pub leaves : AreAlike (and_known (known_in h) (new_of cs)) (known_in g)

pub swapped : (k m : Known) → AreAlike k m → AreAlike m k
swapped k m a = record { requests = IsPermutation-sym k.requests m.requests a.requests; floors = λ r. sym (a.floors r) }

pub grew_by_lines : (procs : Procedures) (h : History) (bs : List Batch) (cs : List (List Class)) (g : History) → h.keep ≡ None → GrowsByBatches procs h bs cs g → GrewByLines procs h (joined bs) (joined cs) g
grew_by_lines procs h [] cs g all grows =
    let none : joined cs ≡ [] = ap joined grows.0 in
    record {
      are = none;
      leaves = alike_by (and_known (known_in h) (new_of (joined cs))) (known_in g) (ap (λ l. and_known (known_in h) (new_of l)) none ∙ none_added (known_in h) ∙ ap known_in (sym grows.1));
    }
grew_by_lines procs h (b ∷ bs) [] g all grows = absurd grows
grew_by_lines procs h (b ∷ bs) (c ∷ cs) g all grows =
    let m = grows.0 in
    let k = known_in h in
    let now = and_known k (new_of c) in
    let one = grown_known h (new_of c) m all grows.1.grows in
    let rest = grew_by_lines procs m bs cs g one.1 grows.2 in
    let later = new_of (joined cs) in
    record {
      are = classes_append procs k b (joined bs) c (joined cs) grows.1.are (classes_alike procs (known_in m) now (joined bs) (joined cs) (swapped now (known_in m) one.0) rest.are);
      leaves = subst (λ x. AreAlike x (known_in g)) (both_added k (new_of c) later ∙ ap (and_known k) (sym (new_append c (joined cs))))
          (alike_trans (and_known now later) (and_known (known_in m) later) (known_in g) (alike_with now (known_in m) later one.0) rest.leaves);
    }

-- ---- answers

answers_append : (ds : List Done) (n : ℕ) (xs ys : List Class) → answers_by ds n (xs ++ ys) ≡ answers_by ds n xs ++ answers_by ds (n + length xs) ys
answers_append ds n [] ys = ap (λ m. answers_by ds m ys) (sym (plus_none n))
  where
    plus_none : (m : ℕ) → m + 0 ≡ m
    plus_none m = omega arith
answers_append ds n (x ∷ xs) ys =
    ap (λ l. answer_by ds n x ++ l) (answers_append ds (n + 1) xs ys ∙ ap (λ m. answers_by ds (n + 1) xs ++ answers_by ds m ys) (shift n (length xs)))
    ∙ sym (append_assoc (answer_by ds n x) (answers_by ds (n + 1) xs) (answers_by ds (n + suc (length xs)) ys))
  where
    shift : (m l : ℕ) → m + 1 + l ≡ m + suc l
    shift m l = omega arith

answer_again : (ds : List Done) (n : ℕ) (c : Class) → answer_by ds n (again c) ≡ answer_by ds n c
answer_again ds n (Refused e) = refl
answer_again ds n (Same id) = refl
answer_again ds n (New r) = refl

answers_again : (ds : List Done) (n : ℕ) (cs : List Class) → answers_by ds n (map again cs) ≡ answers_by ds n cs
answers_again ds n [] = refl
answers_again ds n (c ∷ cs) = ap (λ l. l ++ answers_by ds (n + 1) (map again cs)) (answer_again ds n c) ∙ ap (λ l. answer_by ds n c ++ l) (answers_again ds (n + 1) cs)

length_again : (cs : List Class) → length (map again cs) ≡ length cs
length_again [] = refl
length_again (c ∷ cs) = ap suc (length_again cs)

-- ---- the same lines, and others behind them

module _ (procs : Procedures) (h : History) (bs bs' : List Batch) (cs ds : List (List Class)) (g k : History) (others : List Line) (all : h.keep ≡ None) (lines : joined bs' ≡ joined bs ++ others)
    (first : GrowsByBatches procs h bs cs g) (second : GrowsByBatches procs g bs' ds k) where
  still_all : g.keep ≡ None
  still_all = all_kept procs h bs cs g all first

  pub answered_again : AreAnsweredAgain procs others (joined cs) g (joined ds) k
  answered_again =
      let one = grew_by_lines procs h bs cs g all first in
      let two = grew_by_lines procs g bs' ds k still_all second in
      let parts = in_two procs (known_in g) (joined bs) others (joined ds) (subst (λ l. AreClasses procs (known_in g) l (joined ds)) lines two.are) in
      let same : parts.front ≡ map again (joined cs) =
      one_list procs (known_in g) (known_in g) (joined bs) parts.front (map again (joined cs)) (alike_by (known_in g) (known_in g) refl) parts.first (classes_again procs (known_in h) (known_in g) (joined bs) (joined cs) one.leaves one.are) in
      let quiet : and_known (known_in g) (new_of parts.front) ≡ known_in g = ap (λ l. and_known (known_in g) (new_of l)) same ∙ ap (and_known (known_in g)) (none_new_again (joined cs)) ∙ none_added (known_in g) in
      let classes : joined ds ≡ map again (joined cs) ++ parts.rest = parts.parts ∙ ap (λ l. l ++ parts.rest) same in
      record {
        more = parts.rest;
        classes = classes;
        are = subst (λ m. AreClasses procs m others parts.rest) quiet parts.second;
        answers = λ n. ap (answers_by (all_dones k) n) classes ∙ answers_append (all_dones k) n (map again (joined cs)) parts.rest
            ∙ ap (λ l. l ++ answers_by (all_dones k) (n + length (map again (joined cs))) parts.rest) (answers_again (all_dones k) n (joined cs) ∙ answers_still procs h bs bs' cs ds g k n first second)
            ∙ ap (λ l. answers_by (all_dones g) n (joined cs) ++ answers_by (all_dones k) (n + l) parts.rest) (length_again (joined cs));
      }

again_again : (cs : List Class) → map again (map again cs) ≡ map again cs
again_again [] = refl
again_again (c ∷ cs) = ap (λ x. x ∷ map again (map again cs)) (once_again c) ∙ ap (λ l. again c ∷ l) (again_again cs)
  where
    once_again : (c : Class) → again (again c) ≡ again c
    once_again (Refused e) = refl
    once_again (Same id) = refl
    once_again (New r) = refl

-- where nothing stands behind them, all are what they were
pub nothing_behind : (procs : Procedures) (first second : List Class) (g k : History) → AreAnsweredAgain procs [] first g second k → second ≡ map again first
nothing_behind procs first second g k a = a.classes ∙ ap (λ l. map again first ++ l) a.are ∙ append-nil (map again first)

-- a growth by all the lines without a break
pub as_without_break : (procs : Procedures) (h : History) (bs whole : List Batch) (cs es : List (List Class)) (g w k : History) (others : List Line) (second : List Class) → h.keep ≡ None
    → GrowsByBatches procs h bs cs g → joined whole ≡ joined bs ++ others → GrowsByBatches procs h whole es w → AreAnsweredAgain procs others (joined cs) g second k
    → map again second ≡ map again (joined es)
as_without_break procs h bs whole cs es g w k others second all first lines unbroken a =
    let one = grew_by_lines procs h bs cs g all first in
    let two = grew_by_lines procs h whole es w all unbroken in
    let parts = in_two procs (known_in h) (joined bs) others (joined es) (subst (λ l. AreClasses procs (known_in h) l (joined es)) lines two.are) in
    let same : parts.front ≡ joined cs = one_list procs (known_in h) (known_in h) (joined bs) parts.front (joined cs) (alike_by (known_in h) (known_in h) refl) parts.first one.are in
    let behind_them = subst (λ l. AreClasses procs (and_known (known_in h) (new_of l)) others parts.rest) same parts.second in
    let rest : parts.rest ≡ a.more = one_list procs (and_known (known_in h) (new_of (joined cs))) (known_in g) others parts.rest a.more one.leaves behind_them a.are in
    ap (map again) a.classes ∙ map-append again (map again (joined cs)) a.more ∙ ap (λ l. l ++ map again a.more) (again_again (joined cs)) ∙ sym (map-append again (joined cs) a.more)
    ∙ ap (λ l. map again (joined cs ++ l)) (sym rest) ∙ ap (λ l. map again (l ++ parts.rest)) (sym same) ∙ ap (map again) (sym parts.parts)
