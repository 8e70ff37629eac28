-- What lines leave in a history: the Done of the id, or that the id is old.
use Rattle.std.proofs.Common.{◌≡◌, refl, sym, ap, subst, ◌∙◌, ℕ, zero, suc, Bool, true, false, not, ◌||◌, ◌&&◌, cond, nat_eq, nat_le, List, [], ◌∷◌, ◌++◌, map, Option, None, Some, append-nil, arith, inl, inr, ◌⊎◌}
use Rattle.std.specs.Prelude.{⊤}
use Rattle.std.specs.List.{AllByRecursion, IsDistinct, list_any}
use Rattle.std.proofs.lemmas.Bool.{and_parts, or_from, or_left, or_right}
use Rattle.std.proofs.lemmas.Bool.Decides.{nat_tests}
use Rattle.std.proofs.lemmas.List.{map-append}
use Rattle.std.proofs.lemmas.List.Folds.{list_any-append}
use Rattle.std.proofs.lemmas.List.Sorted.{list_any-IsPermutation}
use Rattle.coco_types.specs.declared.call.Done.{Done}
use Rattle.coco_types.specs.declared.call.Request.{Request}
use Rattle.coco_types.specs.contracts.call.CallPartialEq.TheImpl as call
use Rattle.coco_ast.specs.Growth.{GrowsBy}
use Rattle.coco_ast.specs.History.{History, AreAbove, IsOrdered, all_dones, done_of, floor, ids_of, is_held, is_up_to, kept, request_of}
use Rattle.coco_ast.specs.Tree.{Procedures}
use Rattle.coco_ast.proofs.KeptLemmas.{follows}
use Rattle.coco_lines.specs.Batches.{Batch, joined}
use Rattle.coco_lines.specs.Classes.{Known, and_known, is_known, is_same, is_full, known_in, request_tests, IsClass, new_in, new_of, AreClasses}
use Rattle.coco_lines.specs.Growing.{GrowsByBatches}
use Rattle.coco_lines.specs.Lines.{Line}
use Rattle.coco_lines.specs.Reading.{first_that_fits}
use Rattle.coco_lines.specs.declared.class.Class.{Class}
use Rattle.coco_lines.specs.declared.class.Class.TheVariants.{Refused, Same, New}
use Rattle.coco_lines.specs.declared.error.LineError.{LineError}
use Rattle.coco_lines.specs.declared.error.LineError.TheVariants as error
use Rattle.coco_lines.proofs.ReplyLemmas.{IsNewTo}
use Rattle.coco_serve.specs.Again.{StandsAt}
use Rattle.coco_serve.proofs.AgainLemmas.{IsSettled, all_still_new, asked, both_added, class_by, class_decided, equals, equals_itself, has, known_with, news_are_new, none_has, old_apart, tests_by}
use Rattle.coco_serve.proofs.OnceLemmas.{gains}
use Rattle.coco_serve.proofs.SpentLemmas.{Leads, any_passing, either, fewer, leads_on, old_above}

-- ---- requests of an id, with an equal call or with another

abbrev pub calls : Bool → Request → Request → Bool
calls true r q = nat_eq r.id q.id && call.ghosts.eq q.call r.call
calls false r q = nat_eq r.id q.id && not (call.ghosts.eq q.call r.call)

not_true : (b : Bool) → not b ≡ true → b ≡ false
not_true true h = let e : false ≡ true = h in cc
not_true false h = refl

call_parts : (b : Bool) (r q : Request) → calls b r q ≡ true → (nat_eq r.id q.id ≡ true) × (call.ghosts.eq q.call r.call ≡ b)
call_parts true r q h = and_parts _ _ h
call_parts false r q h = let parts = and_parts _ _ h in (parts.0, not_true (call.ghosts.eq q.call r.call) parts.1)

-- where none has an equal call, one has another
any_other : (r : Request) (qs : List Request) → has r.id qs ≡ true → list_any (equals r) qs ≡ false → list_any (calls false r) qs ≡ true
any_other r [] h none = h
any_other r (q ∷ qs) h none = by (nat_eq r.id q.id) (call.ghosts.eq q.call r.call) h none (any_other r qs)
  where
    by : (a c : Bool) → (a || has r.id qs) ≡ true → ((a && c) || list_any (equals r) qs) ≡ false → (has r.id qs ≡ true → list_any (equals r) qs ≡ false → list_any (calls false r) qs ≡ true)
        → ((a && not c) || list_any (calls false r) qs) ≡ true
    by true true h none rest = let e : true ≡ false = none in cc
    by true false h none rest = refl
    by false c h none rest = rest h none

-- ---- the Done of a request's id

-- it is there, with an equal call or with another
pub record HasDone (ds : List Done) (equal : Bool) (r : Request) : Type 0 where
  pub done : Done
  pub found : done_of r.id ds ≡ Some done
  pub compared : call.ghosts.eq done.call r.call ≡ equal

nobody : (id : ℕ) (ds : List Done) → AllByRecursion (λ x. nat_eq id x ≡ false) (ids_of ds) → done_of id ds ≡ None
nobody id [] apart = refl
nobody id (d ∷ ds) apart = ap (λ b. cond b (Some d) (done_of id ds)) apart.0 ∙ nobody id ds apart.1

same_id : (m n : ℕ) → nat_eq m n ≡ true → m ≡ n
same_id m n h = grind (arith, nat_tests)

pub not_both : (d : Done) (o : Option Done) → o ≡ None → o ≡ Some d → ⊥
not_both d o none some = let e : None ≡ Some d = sym none ∙ some in cc

found_behind : (id : ℕ) (d x : Done) (ds : List Done) → AllByRecursion (λ y. nat_eq d.id y ≡ false) (ids_of ds) → done_of id ds ≡ Some x → (b : Bool) → nat_eq id d.id ≡ b → cond b (Some d) (done_of id ds) ≡ Some x
found_behind id d x ds apart found true e = absurd (not_both x (done_of id ds) (ap (λ n. done_of n ds) (same_id id d.id e) ∙ nobody d.id ds apart) found)
found_behind id d x ds apart found false e = found

pub has_done : (equal : Bool) (r : Request) (ds : List Done) → IsDistinct nat_eq (ids_of ds) → list_any (calls equal r) (map request_of ds) ≡ true → HasDone ds equal r
unfolding IsDistinct
has_done equal r [] once h = let e : false ≡ true = h in absurd (cc)
has_done equal r (d ∷ ds) once h =
    elim (either (calls equal r (request_of d)) (list_any (calls equal r) (map request_of ds)) h) [
      | inl here ↦ (let parts = call_parts equal r (request_of d) here in record { done = d; found = ap (λ b. cond b (Some d) (done_of r.id ds)) parts.0; compared = parts.1 })
      | inr there ↦ (let rest = has_done equal r ds once.1 there in
          record { done = rest.done; found = found_behind r.id d rest.done ds once.0 rest.found (nat_eq r.id d.id) refl; compared = rest.compared })
    ]

-- ---- ids that were forgotten

-- no kept Done has it, and it is at most the floor
pub record IsPast (h : History) (r : Request) : Type 0 where
  pub unkept : has r.id (map request_of (kept h)) ≡ false
  pub old : is_up_to (floor h) r.id ≡ true

pub above_one : (f : Option ℕ) (r : Request) → is_up_to f r.id ≡ false → AreAbove f (r.id ∷ [])
above_one None r h = tt
above_one (Some n) r h = let test : nat_le r.id n ≡ false = h in (grind (arith, nat_tests), tt)

-- what lies above one floor lies above the other
still_old : (f e : Option ℕ) (r : Request) → ((ids : List ℕ) → AreAbove e ids → AreAbove f ids) → is_up_to f r.id ≡ true → (b : Bool) → is_up_to e r.id ≡ b → b ≡ true
still_old f e r below old true h = refl
still_old f e r below old false h = absurd (old_above f r old (below (r.id ∷ []) (above_one e r h)))

pub no_more : (b c : Bool) → (b ≡ true → c ≡ true) → c ≡ false → b ≡ false
no_more true c f h = let e : true ≡ false = sym (f refl) ∙ h in cc
no_more false c f h = refl

kept_with : (procs : Procedures) (h m : History) (rs : List Request) (r : Request) → GrowsBy h rs m → has r.id (map request_of (kept h) ++ rs) ≡ false → has r.id (map request_of (kept m)) ≡ false
kept_with procs h m [] r same none = ap (λ x. has r.id (map request_of (kept x))) same ∙ ap (has r.id) (sym (append-nil (map request_of (kept h)))) ∙ none
kept_with procs h m (q ∷ qs) r grows none =
    let e = grows.0 in
    let one : Request → Bool = λ (x : Request). nat_eq r.id x.id in
    let all : has r.id (map request_of (kept h ++ e.dones)) ≡ false =
    ap (has r.id) (map-append request_of (kept h) e.dones) ∙ list_any-append one (map request_of (kept h)) (map request_of e.dones)
    ∙ ap (λ b. has r.id (map request_of (kept h)) || b) (sym (list_any-IsPermutation one (q ∷ qs) (map request_of e.dones) grows.2.each))
    ∙ sym (list_any-append one (map request_of (kept h)) (q ∷ qs)) ∙ none in
    ap (λ x. has r.id (map request_of (kept x))) grows.3 ∙ ap (λ l. has r.id (map request_of l)) ((follows procs h e).held)
    ∙ no_more _ _ (any_passing one (is_held h.keep (kept h ++ e.dones)) (kept h ++ e.dones)) all

past_with : (procs : Procedures) (h m : History) (rs : List Request) (r : Request) → GrowsBy h rs m → has r.id (map request_of (kept h) ++ rs) ≡ false → is_up_to (floor h) r.id ≡ true → IsPast m r
past_with procs h m rs r grows none old = record {
  unkept = kept_with procs h m rs r grows none;
  old = still_old (floor h) (floor m) r (gains procs h rs m grows).below old (is_up_to (floor m) r.id) refl;
}

-- an id that was forgotten stays so
pub past_still : (procs : Procedures) (h : History) (bs : List Batch) (cs : List (List Class)) (g : History) (r : Request) → GrowsByBatches procs h bs cs g → IsPast h r → IsPast g r
past_still procs h [] cs g r grows past = subst (λ x. IsPast x r) (sym grows.1) past
past_still procs h (b ∷ bs) [] g r grows past = absurd grows
past_still procs h (b ∷ bs) (c ∷ cs) g r grows past =
    let none = none_has r (new_of c) (old_apart (known_in h) r (new_of c) past.old (news_are_new procs (known_in h) b c grows.1.are)) in
    past_still procs grows.0 bs cs g r grows.2 (past_with procs h grows.0 (new_of c) r grows.1.grows (known_with (known_in h) r (new_of c) ∙ or_from _ _ past.unkept none) past.old)

-- ---- what a line leaves

abbrev pub LeavesRefused : History → Request → LineError → Type 0
LeavesRefused g r error.Reused = HasDone (all_dones g) false r
LeavesRefused g r error.Old = IsPast g r
LeavesRefused g r error.Full = ⊤
LeavesRefused g r e = ⊥

-- the request of a line of this class
abbrev pub LeavesRequest : History → Request → Class → Type 0
LeavesRequest g r (Refused e) = LeavesRefused g r e
LeavesRequest g r (Same id) = (r.id ≡ id) × HasDone (all_dones g) true r
LeavesRequest g r (New q) = (r ≡ q) × HasDone (all_dones g) true r

-- a line whose class what was known decided
pub record LeavesOpen (procs : Procedures) (g : History) (line : Line) (c : Class) : Type 0 where
  pub request : Request
  pub asks : asked procs line ≡ Some request
  pub whichever : (us : List (Bool × Class)) (d : Class) → first_that_fits us ≡ Some d → class_by procs line us ≡ Some d
  pub leaves : LeavesRequest g request c

abbrev pub Leaves : Procedures → History → Line → Class → Type 0
Leaves procs g line c = IsSettled (class_by procs line) c ⊎ LeavesOpen procs g line c

-- what is known with these requests and isn't kept is past, if it is old
abbrev Passes : History → Known → Type 0
Passes g k = (r : Request) → is_known k r ≡ false → is_up_to k.floor r.id ≡ true → IsPast g r

-- the requests that are new behind a line of this class
abbrev NewBehind : Known → Class → List Request → Type 0
NewBehind k c later = AllByRecursion (IsNewTo (and_known k (new_in c))) later

among : (p : Request → Bool) (k : Known) (rs : List Request) → list_any p k.requests ≡ true → list_any p (k.requests ++ rs) ≡ true
among p k rs h = list_any-append p k.requests rs ∙ or_left (list_any p k.requests) (list_any p rs) h

left_by : (k : Known) (g : History) (later : List Request) (r : Request) (c : Class) (a b o f : Bool) → is_same k r ≡ a → is_known k r ≡ b → is_up_to k.floor r.id ≡ o → first_that_fits (tests_by r a b o f) ≡ Some c
    → IsDistinct nat_eq (ids_of (all_dones g)) → Leads (and_known k (new_in c)) g → Passes g (and_known k (new_in c ++ later)) → NewBehind k c later → LeavesRequest g r c
left_by k g later r (Same id) true b o f same known old h once leads passes new =
    let e : ◌≡◌ {A = Option Class} (Some (Same r.id)) (Some (Same id)) = h in
    (cc, has_done true r (all_dones g) once (leads.have (equals r) (among (equals r) k [] same)))
left_by k g later r (Refused x) true b o f same known old h once leads passes new = let e : ◌≡◌ {A = Option Class} (Some (Same r.id)) (Some (Refused x)) = h in absurd (cc)
left_by k g later r (New q) true b o f same known old h once leads passes new = let e : ◌≡◌ {A = Option Class} (Some (Same r.id)) (Some (New q)) = h in absurd (cc)
left_by k g later r (Refused x) false true o f same known old h once leads passes new =
    let e : ◌≡◌ {A = Option Class} (Some (Refused error.Reused)) (Some (Refused x)) = h in
    let is : error.Reused ≡ x = cc in
    subst (LeavesRefused g r) is (has_done false r (all_dones g) once (leads.have (calls false r) (among (calls false r) k [] (any_other r k.requests known same))))
left_by k g later r (Same id) false true o f same known old h once leads passes new = let e : ◌≡◌ {A = Option Class} (Some (Refused error.Reused)) (Some (Same id)) = h in absurd (cc)
left_by k g later r (New q) false true o f same known old h once leads passes new = let e : ◌≡◌ {A = Option Class} (Some (Refused error.Reused)) (Some (New q)) = h in absurd (cc)
left_by k g later r (Refused x) false false true f same known old h once leads passes new =
    let e : ◌≡◌ {A = Option Class} (Some (Refused error.Old)) (Some (Refused x)) = h in
    let is : error.Old ≡ x = cc in
    let none = none_has r later (old_apart k r later old (all_still_new k [] later new)) in
    subst (LeavesRefused g r) is (passes r (known_with k r later ∙ or_from (is_known k r) (has r.id later) known none) old)
left_by k g later r (Same id) false false true f same known old h once leads passes new = let e : ◌≡◌ {A = Option Class} (Some (Refused error.Old)) (Some (Same id)) = h in absurd (cc)
left_by k g later r (New q) false false true f same known old h once leads passes new = let e : ◌≡◌ {A = Option Class} (Some (Refused error.Old)) (Some (New q)) = h in absurd (cc)
left_by k g later r (Refused x) false false false true same known old h once leads passes new =
    let e : ◌≡◌ {A = Option Class} (Some (Refused error.Full)) (Some (Refused x)) = h in
    let is : error.Full ≡ x = cc in
    subst (LeavesRefused g r) is tt
left_by k g later r (Same id) false false false true same known old h once leads passes new = let e : ◌≡◌ {A = Option Class} (Some (Refused error.Full)) (Some (Same id)) = h in absurd (cc)
left_by k g later r (New q) false false false true same known old h once leads passes new = let e : ◌≡◌ {A = Option Class} (Some (Refused error.Full)) (Some (New q)) = h in absurd (cc)
left_by k g later r (New q) false false false false same known old h once leads passes new =
    let e : ◌≡◌ {A = Option Class} (Some (New r)) (Some (New q)) = h in
    let is : r ≡ q = cc in
    let here : list_any (equals r) (k.requests ++ q ∷ []) ≡ true =
    list_any-append (equals r) k.requests (q ∷ []) ∙ or_right (list_any (equals r) k.requests) (equals r q || false) (or_left (equals r q) false (subst (λ x. equals r x ≡ true) is (equals_itself r))) in
    (is, has_done true r (all_dones g) once (leads.have (equals r) here))
left_by k g later r (Refused x) false false false false same known old h once leads passes new = let e : ◌≡◌ {A = Option Class} (Some (New r)) (Some (Refused x)) = h in absurd (cc)
left_by k g later r (Same id) false false false false same known old h once leads passes new = let e : ◌≡◌ {A = Option Class} (Some (New r)) (Some (Same id)) = h in absurd (cc)

any_left : (procs : Procedures) (k : Known) (g : History) (later : List Request) (line : Line) (c : Class) (o : Option Request) → asked procs line ≡ o → first_that_fits (request_tests k o) ≡ Some c
    → ((us : List (Bool × Class)) (d : Class) → first_that_fits us ≡ Some d → class_by procs line us ≡ Some d)
    → IsDistinct nat_eq (ids_of (all_dones g)) → Leads (and_known k (new_in c)) g → Passes g (and_known k (new_in c ++ later)) → NewBehind k c later → LeavesOpen procs g line c
any_left procs k g later line c None asks h whichever once leads passes new = let e : ◌≡◌ {A = Option Class} None (Some c) = h in absurd (cc)
any_left procs k g later line c (Some r) asks h whichever once leads passes new = record {
  request = r;
  asks = asks;
  whichever = whichever;
  leaves = left_by k g later r c (is_same k r) (is_known k r) (is_up_to k.floor r.id) (is_full k) refl refl refl h once leads passes new;
}

line_left : (procs : Procedures) (k : Known) (g : History) (later : List Request) (line : Line) (c : Class) → IsClass procs k line c → IsDistinct nat_eq (ids_of (all_dones g)) → Leads (and_known k (new_in c)) g
    → Passes g (and_known k (new_in c ++ later)) → NewBehind k c later → Leaves procs g line c
line_left procs k g later line c is once leads passes new =
    elim (class_decided procs k line c is) [
      | inl s ↦ inl s
      | inr o ↦ inr (any_left procs k g later line c (asked procs line) refl o.fits o.whichever once leads passes new)
    ]

-- ---- the lines of a batch, and of all of them

abbrev pub AllLeave : Procedures → History → List Line → List Class → Type 0
AllLeave procs g [] cs = cs ≡ []
AllLeave procs g (line ∷ lines) [] = ⊥
AllLeave procs g (line ∷ lines) (c ∷ cs) = Leaves procs g line c × AllLeave procs g lines cs

batch_left : (procs : Procedures) (k : Known) (g : History) (lines : List Line) (cs : List Class) → AreClasses procs k lines cs → IsDistinct nat_eq (ids_of (all_dones g)) → Leads (and_known k (new_of cs)) g
    → Passes g (and_known k (new_of cs)) → AllLeave procs g lines cs
batch_left procs k g [] cs are once leads passes = are
batch_left procs k g (line ∷ lines) [] are once leads passes = absurd are
batch_left procs k g (line ∷ lines) (c ∷ cs) are once leads passes =
    let next = and_known k (new_in c) in
    let all = sym (both_added k (new_in c) (new_of cs)) in
    let later : Leads (and_known next (new_of cs)) g = subst (λ m. Leads m g) all leads in (
      line_left procs k g (new_of cs) line c are.0 once (fewer next (new_of cs) g later) passes (news_are_new procs next lines cs are.1),
      batch_left procs next g lines cs are.1 once later (subst (Passes g) all passes),
    )

left_append : (procs : Procedures) (g : History) (xs ys : List Line) (cs ds : List Class) → AllLeave procs g xs cs → AllLeave procs g ys ds → AllLeave procs g (xs ++ ys) (cs ++ ds)
left_append procs g [] ys cs ds here there = subst (λ l. AllLeave procs g ys (l ++ ds)) (sym here) there
left_append procs g (x ∷ xs) ys [] ds here there = absurd here
left_append procs g (x ∷ xs) ys (c ∷ cs) ds here there = (here.0, left_append procs g xs ys cs ds here.1 there)

pub all_left : (procs : Procedures) (h : History) (bs : List Batch) (cs : List (List Class)) (g : History) → GrowsByBatches procs h bs cs g → IsOrdered g → AllLeave procs g (joined bs) (joined cs)
all_left procs h [] cs g grows ordered = ap joined grows.0
all_left procs h (b ∷ bs) [] g grows ordered = absurd grows
all_left procs h (b ∷ bs) (c ∷ cs) g grows ordered =
    let m = grows.0 in
    left_append procs g b (joined bs) c (joined cs)
    (batch_left procs (known_in h) g b c grows.1.are ordered.once (leads_on procs h m (new_of c) bs cs g grows.1.grows grows.2)
    (λ r none old. past_still procs m bs cs g r grows.2 (past_with procs h m (new_of c) r grows.1.grows none old)))
    (all_left procs m bs cs g grows.2 ordered)

pub some_is : {A : Type 0} (x y : A) → Some x ≡ Some y → x ≡ y
some_is x y h = cc

pub left_at : (procs : Procedures) (g : History) (i : ℕ) (lines : List Line) (cs : List Class) (line : Line) (c : Class) → AllLeave procs g lines cs → StandsAt i lines cs line c → Leaves procs g line c
left_at procs g i [] cs line c all stands = let e : ◌≡◌ {A = Option Line} None (Some line) = stands.0 in absurd (cc)
left_at procs g i (x ∷ lines) [] line c all stands = absurd all
left_at procs g zero (x ∷ lines) (d ∷ cs) line c all stands = subst (λ y. Leaves procs g y c) (some_is x line stands.0) (subst (Leaves procs g x) (some_is d c stands.1) all.0)
left_at procs g (suc i) (x ∷ lines) (d ∷ cs) line c all stands = left_at procs g i lines cs line c all.1 stands
