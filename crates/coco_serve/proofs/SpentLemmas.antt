-- Lines that a history has answered make nothing new in it, be their replies kept or forgotten.
use Rattle.std.proofs.Common.{◌≡◌, refl, sym, ap, subst, ◌∙◌, ℕ, ◌<◌, Bool, true, false, ◌||◌, ◌&&◌, cond, nat_eq, nat_le, List, [], ◌∷◌, ◌++◌, map, Option, None, Some, inl, inr, ◌⊎◌, arith, filter}
use Rattle.std.specs.Cmp.{nat_eq_equiv}
use Rattle.std.specs.List.{AllByRecursion, list_any}
use Rattle.std.proofs.lemmas.Bool.Decides.{nat_tests}
use Rattle.std.proofs.lemmas.List.{map-append}
use Rattle.std.proofs.lemmas.List.Folds.{list_any-append}
use Rattle.std.proofs.lemmas.List.Sorted.{list_any-IsPermutation}
use Rattle.std.proofs.lemmas.Bool.{or_left, or_right}
use Rattle.coco_types.specs.declared.call.Done.{Done}
use Rattle.coco_types.specs.declared.call.Request.{Request}
use Rattle.coco_types.specs.contracts.call.CallPartialEq.TheImpl as call
use Rattle.coco_ast.specs.Growth.{AreNew, GrowsBy}
use Rattle.coco_ast.specs.History.{History, AreAbove, all_dones, floor, is_held, is_up_to, kept, request_of}
use Rattle.coco_ast.specs.Tree.{Procedures}
use Rattle.coco_ast.proofs.GrowthLemmas.{new_have_no_done}
use Rattle.coco_ast.proofs.Lists.{all_append, all_left, all_right}
use Rattle.coco_lines.specs.Batches.{Batch, joined}
use Rattle.coco_lines.specs.Classes.{Known, and_known, is_known, is_same, is_full, known_in, request_tests, IsClass, new_in, new_of, AreClasses}
use Rattle.coco_lines.specs.Growing.{GrowsByBatches}
use Rattle.coco_lines.specs.Lines.{Line}
use Rattle.coco_lines.specs.Reading.{first_that_fits}
use Rattle.coco_lines.specs.declared.class.Class.{Class}
use Rattle.coco_lines.specs.declared.class.Class.TheVariants.{Refused, Same, New}
use Rattle.coco_lines.specs.declared.error.LineError.{LineError}
use Rattle.coco_lines.specs.declared.error.LineError.TheVariants as error
use Rattle.coco_lines.proofs.ReplyLemmas.{all_added, are_new}
use Rattle.coco_serve.specs.Again.{IsNotFull}
use Rattle.coco_serve.proofs.AgainLemmas.{asked, both_added, class_decided, clash, equals, has, new_asked_is, none_added, tests_by}
use Rattle.coco_serve.proofs.OnceLemmas.{gains, has_none}

-- ---- what a line has left

-- the line is not new to this history
abbrev pub IsSpent : Procedures → History → Line → Type 0
IsSpent procs g line = (r : Request) → IsClass procs (known_in g) line (New r) → ⊥

-- what was known before a line is in the history: the requests, and what was forgotten
pub record Leads (k : Known) (g : History) : Type 0 where
  pub have : (p : Request → Bool) → list_any p k.requests ≡ true → list_any p (map request_of (all_dones g)) ≡ true
  pub below : (ids : List ℕ) → AreAbove (floor g) ids → AreAbove k.floor ids

-- the id is there, or may have been forgotten
abbrev IsTaken : Known → Request → Type 0
IsTaken k r = (has r.id k.requests ≡ true) ⊎ (is_up_to k.floor r.id ≡ true)

pub same_has : (r : Request) (qs : List Request) → list_any (equals r) qs ≡ true → has r.id qs ≡ true
same_has r [] h = h
same_has r (q ∷ qs) h = by (nat_eq r.id q.id) (call.ghosts.eq q.call r.call) h (same_has r qs)
  where
    by : (a b : Bool) → ((a && b) || list_any (equals r) qs) ≡ true → (list_any (equals r) qs ≡ true → has r.id qs ≡ true) → (a || has r.id qs) ≡ true
    by true b e rest = refl
    by false b e rest = rest e

taken_by : (k : Known) (r : Request) (c : Class) (a b o f : Bool) → is_same k r ≡ a → is_known k r ≡ b → is_up_to k.floor r.id ≡ o → first_that_fits (tests_by r a b o f) ≡ Some c → IsNotFull c
    → IsTaken (and_known k (new_in c)) r
taken_by k r c true b o f same known old h fits = inl (here k r (new_in c) (same_has r k.requests same))
  where
    here : (k : Known) (r : Request) (qs : List Request) → has r.id k.requests ≡ true → has r.id (k.requests ++ qs) ≡ true
    here k r qs h = list_any-append (λ (q : Request). nat_eq r.id q.id) k.requests qs ∙ or_left (has r.id k.requests) (has r.id qs) h
taken_by k r c false true o f same known old h fits = inl (list_any-append (λ (q : Request). nat_eq r.id q.id) k.requests (new_in c) ∙ or_left (has r.id k.requests) (has r.id (new_in c)) known)
taken_by k r c false false true f same known old h fits = inr old
taken_by k r c false false false true same known old h fits =
    let e : ◌≡◌ {A = Option Class} (Some (Refused error.Full)) (Some c) = h in
    let is : c ≡ Refused error.Full = cc in
    absurd (fits is)
taken_by k r c false false false false same known old h fits =
    let e : ◌≡◌ {A = Option Class} (Some (New r)) (Some c) = h in
    let is : New r ≡ c = cc in
    subst (λ x. IsTaken (and_known k (new_in x)) r) is
    (inl (list_any-append (λ (q : Request). nat_eq r.id q.id) k.requests (r ∷ []) ∙ or_right (has r.id k.requests) (has r.id (r ∷ [])) (or_left (nat_eq r.id r.id) false (nat_eq_equiv.refl r.id))))

pub old_above : (f : Option ℕ) (r : Request) → is_up_to f r.id ≡ true → AreAbove f (r.id ∷ []) → ⊥
old_above None r old above = let e : false ≡ true = old in cc
old_above (Some n) r old above = let test : nat_le r.id n ≡ true = old in let low : n < r.id = above.0 in grind (arith, nat_tests)

-- a request that was taken isn't new
taken_is_spent : (procs : Procedures) (k : Known) (g : History) (line : Line) (r : Request) → Leads k g → IsTaken k r → IsClass procs (known_in g) line (New r) → ⊥
taken_is_spent procs k g line r leads taken is =
    let new : AreNew g (r ∷ []) = are_new procs g (line ∷ []) (New r ∷ []) (is, refl) in
    elim taken [
      | inl there ↦ clash (has r.id (map request_of (all_dones g))) (has r.id (map request_of (all_dones g))) refl (leads.have (λ (q : Request). nat_eq r.id q.id) there) (has_none r.id (all_dones g) (new_have_no_done g (r ∷ []) new).0)
      | inr old ↦ old_above k.floor r old (leads.below (r.id ∷ []) new.above)
    ]

refused_not_new : (c : Class) (e : LineError) (r : Request) → c ≡ Refused e → ◌≡◌ {A = Option Class} (Some c) (Some (New r)) → ⊥
refused_not_new c e r is same = cc

asks_one : (k : Known) (o : Option Request) (r : Request) (c : Class) → o ≡ Some r → first_that_fits (request_tests k o) ≡ Some c → first_that_fits (request_tests k (Some r)) ≡ Some c
asks_one k o r c is h = ap (λ x. first_that_fits (request_tests k x)) (sym is) ∙ h

line_spent : (procs : Procedures) (k : Known) (g : History) (line : Line) (c : Class) → IsClass procs k line c → IsNotFull c → Leads (and_known k (new_in c)) g → IsSpent procs g line
line_spent procs k g line c is fits leads r new =
    elim (class_decided procs (known_in g) line (New r) new) [
      | inl s ↦ absurd (refused_not_new (New r) s.fault r s.is refl)
      | inr now ↦ elim (class_decided procs k line c is) [
        | inl s ↦ refused_not_new c s.fault r s.is (sym (s.whatever (request_tests (known_in g) (asked procs line))) ∙ now.whichever (request_tests (known_in g) (asked procs line)) (New r) now.fits)
        | inr then_ ↦ taken_is_spent procs (and_known k (new_in c)) g line r leads
            (taken_by k r c (is_same k r) (is_known k r) (is_up_to k.floor r.id) (is_full k) refl refl refl
            (asks_one k (asked procs line) r c (new_asked_is (known_in g) (asked procs line) r now.fits) then_.fits) fits) new
      ]
    ]

-- ---- the lines of a batch, and of all of them

pub fewer : (k : Known) (rs : List Request) (g : History) → Leads (and_known k rs) g → Leads k g
fewer k rs g leads = record {
  have = λ p h. leads.have p (list_any-append p k.requests rs ∙ or_left (list_any p k.requests) (list_any p rs) h);
  below = leads.below;
}

batch_spent : (procs : Procedures) (k : Known) (g : History) (lines : List Line) (cs : List Class) → AreClasses procs k lines cs → AllByRecursion IsNotFull cs → Leads (and_known k (new_of cs)) g
    → AllByRecursion (IsSpent procs g) lines
batch_spent procs k g [] cs are fit leads = tt
batch_spent procs k g (line ∷ lines) [] are fit leads = absurd are
batch_spent procs k g (line ∷ lines) (c ∷ cs) are fit leads =
    let next = and_known k (new_in c) in
    let later : Leads (and_known next (new_of cs)) g = subst (λ m. Leads m g) (sym (both_added k (new_in c) (new_of cs))) leads in
    (line_spent procs k g line c are.0 fit.0 (fewer next (new_of cs) g later), batch_spent procs next g lines cs are.1 fit.1 later)

falls : (procs : Procedures) (h : History) (bs : List Batch) (cs : List (List Class)) (g : History) → GrowsByBatches procs h bs cs g → (ids : List ℕ) → AreAbove (floor g) ids → AreAbove (floor h) ids
falls procs h [] cs g grows ids above = subst (λ x. AreAbove (floor x) ids) grows.1 above
falls procs h (b ∷ bs) [] g grows ids above = absurd grows
falls procs h (b ∷ bs) (c ∷ cs) g grows ids above = (gains procs h (new_of c) grows.0 grows.1.grows).below ids (falls procs grows.0 bs cs g grows.2 ids above)

pub any_passing : (p : Request → Bool) (held : Done → Bool) (ds : List Done) → list_any p (map request_of (filter held ds)) ≡ true → list_any p (map request_of ds) ≡ true
any_passing p held [] h = h
any_passing p held (d ∷ ds) h = by (held d) h (any_passing p held ds)
  where
    one : (a b c : Bool) → (b ≡ true → c ≡ true) → (a || b) ≡ true → (a || c) ≡ true
    one true b c f e = refl
    one false b c f e = f e

    by : (b : Bool) → list_any p (map request_of (cond b (d ∷ filter held ds) (filter held ds))) ≡ true → (list_any p (map request_of (filter held ds)) ≡ true → list_any p (map request_of ds) ≡ true)
        → list_any p (map request_of (d ∷ ds)) ≡ true
    by true e rest = one (p (request_of d)) (list_any p (map request_of (filter held ds))) (list_any p (map request_of ds)) rest e
    by false e rest = or_right (p (request_of d)) (list_any p (map request_of ds)) (rest e)

any_front : (p : Request → Bool) (xs ys : List Done) → list_any p (map request_of xs) ≡ true → list_any p (map request_of (xs ++ ys)) ≡ true
any_front p xs ys h =
    ap (list_any p) (map-append request_of xs ys) ∙ list_any-append p (map request_of xs) (map request_of ys)
    ∙ or_left (list_any p (map request_of xs)) (list_any p (map request_of ys)) h

any_back : (p : Request → Bool) (xs ys : List Done) → list_any p (map request_of ys) ≡ true → list_any p (map request_of (xs ++ ys)) ≡ true
any_back p xs ys h =
    ap (list_any p) (map-append request_of xs ys) ∙ list_any-append p (map request_of xs) (map request_of ys)
    ∙ or_right (list_any p (map request_of xs)) (list_any p (map request_of ys)) h

pub either : (b c : Bool) → (b || c) ≡ true → (b ≡ true) ⊎ (c ≡ true)
either true c e = inl refl
either false c e = inr e

pub leads_on : (procs : Procedures) (h m : History) (rs : List Request) (bs : List Batch) (cs : List (List Class)) (g : History) → GrowsBy h rs m → GrowsByBatches procs m bs cs g → Leads (and_known (known_in h) rs) g
leads_on procs h m rs bs cs g one rest =
    let now = gains procs h rs m one in
    let then_ = all_added procs m bs cs g rest in
    let in_m : (p : Request → Bool) → list_any p (map request_of (kept h) ++ rs) ≡ true → list_any p (map request_of (all_dones m)) ≡ true = λ p e.
    ap (λ l. list_any p (map request_of l)) now.dones
    ∙ elim (either (list_any p (map request_of (kept h))) (list_any p rs) (sym (list_any-append p (map request_of (kept h)) rs) ∙ e)) [
      | inl old ↦ any_front p (all_dones h) now.more (any_passing p (is_held h.keep (all_dones h)) (all_dones h) old)
      | inr new ↦ any_back p (all_dones h) now.more (sym (list_any-IsPermutation p rs (map request_of now.more) now.each) ∙ new)
    ] in
    record {
      have = λ p e. ap (λ l. list_any p (map request_of l)) then_.1 ∙ any_front p (all_dones m) then_.0 (in_m p e);
      below = λ ids above. now.below ids (falls procs m bs cs g rest ids above);
    }

pub all_spent : (procs : Procedures) (h : History) (bs : List Batch) (cs : List (List Class)) (g : History) → GrowsByBatches procs h bs cs g → AllByRecursion IsNotFull (joined cs)
    → AllByRecursion (IsSpent procs g) (joined bs)
all_spent procs h [] cs g grows fit = tt
all_spent procs h (b ∷ bs) [] g grows fit = absurd grows
all_spent procs h (b ∷ bs) (c ∷ cs) g grows fit =
    all_append (IsSpent procs g) b (joined bs)
    (batch_spent procs (known_in h) g b c grows.1.are (all_left IsNotFull c (joined cs) fit) (leads_on procs h grows.0 (new_of c) bs cs g grows.1.grows grows.2))
    (all_spent procs grows.0 bs cs g grows.2 (all_right IsNotFull c (joined cs) fit))

-- ---- spent lines

none_new : (procs : Procedures) (g : History) (k : Known) (lines : List Line) (cs : List Class) → k ≡ known_in g → AllByRecursion (IsSpent procs g) lines → AreClasses procs k lines cs → new_of cs ≡ []
none_new procs g k [] cs known spent are = ap new_of are
none_new procs g k (line ∷ lines) [] known spent are = absurd are
none_new procs g k (line ∷ lines) (Refused e ∷ cs) known spent are = none_new procs g (and_known k []) lines cs (none_added k ∙ known) spent.1 are.1
none_new procs g k (line ∷ lines) (Same id ∷ cs) known spent are = none_new procs g (and_known k []) lines cs (none_added k ∙ known) spent.1 are.1
none_new procs g k (line ∷ lines) (New r ∷ cs) known spent are = absurd (spent.0 r (subst (λ m. IsClass procs m line (New r)) known are.0))

-- a history doesn't grow by lines that are spent
pub spent_stay : (procs : Procedures) (g h : History) (bs : List Batch) (cs : List (List Class)) (k : History) → h ≡ g → AllByRecursion (IsSpent procs g) (joined bs) → GrowsByBatches procs h bs cs k → k ≡ g
spent_stay procs g h [] cs k same spent grows = grows.1 ∙ same
spent_stay procs g h (b ∷ bs) [] k same spent grows = absurd grows
spent_stay procs g h (b ∷ bs) (c ∷ cs) k same spent grows =
    let none = none_new procs g (known_in h) b c (ap known_in same) (all_left (IsSpent procs g) b (joined bs) spent) grows.1.are in
    let still : grows.0 ≡ h = subst (λ l. GrowsBy h l grows.0) none grows.1.grows in
    spent_stay procs g grows.0 bs cs k (still ∙ same) (all_right (IsSpent procs g) b (joined bs) spent) grows.2

pub stays_again : (procs : Procedures) (before : History) (batches repeated : List Batch) (cs ds : List (List Class)) (g k : History) → AllByRecursion IsNotFull (joined cs) → joined repeated ≡ joined batches
    → GrowsByBatches procs before batches cs g → GrowsByBatches procs g repeated ds k → k ≡ g
stays_again procs before batches repeated cs ds g k fit lines first second =
    spent_stay procs g g repeated ds k refl (subst (AllByRecursion (IsSpent procs g)) (sym lines) (all_spent procs before batches cs g first fit)) second
