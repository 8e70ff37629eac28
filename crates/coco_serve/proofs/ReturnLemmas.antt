-- Lines that come again, where replies may have been forgotten.
use Rattle.std.proofs.Common.{◌≡◌, refl, sym, ap, subst, ◌∙◌, ℕ, zero, suc, Bool, true, false, ◌||◌, ◌&&◌, cond, nat_eq, List, [], ◌∷◌, ◌++◌, map, Option, None, Some, inl, inr}
use Rattle.std.specs.List.{AllByRecursion, IsDistinct, list_any}
use Rattle.std.specs.Option.{option_or}
use Rattle.std.proofs.lemmas.Bool.{false_from_ne_true, or_from, or_left}
use Rattle.coco_types.specs.declared.call.Done.{Done}
use Rattle.coco_types.specs.declared.call.Request.{Request}
use Rattle.coco_types.specs.contracts.call.CallPartialEq.TheImpl as call
use Rattle.coco_ast.specs.Growth.{AreNew}
use Rattle.coco_ast.specs.History.{History, IsOrdered, all_dones, done_of, floor, is_held, is_up_to, kept, request_of}
use Rattle.coco_ast.specs.Tree.{Procedures}
use Rattle.coco_ast.proofs.GrowthLemmas.{done_of-append, new_have_no_done}
use Rattle.coco_ast.proofs.Growths.{kept_are_dones}
use Rattle.coco_ast.proofs.Lists.{all_append}
use Rattle.coco_lines.specs.Answers.{answer_by, replied_id, text_of}
use Rattle.coco_lines.specs.Batches.{Batch, joined}
use Rattle.coco_lines.specs.Classes.{Known, and_known, is_known, is_same, is_full, known_in, request_tests, IsClass, new_in, AreClasses}
use Rattle.coco_lines.specs.Growing.{GrowsByBatches}
use Rattle.coco_lines.specs.Lines.{Line}
use Rattle.coco_lines.specs.Reading.{first_that_fits, request_on}
use Rattle.coco_lines.specs.Texts.{done_text}
use Rattle.coco_lines.specs.declared.class.Class.{Class}
use Rattle.coco_lines.specs.declared.class.Class.TheVariants.{Refused, Same, New}
use Rattle.coco_lines.specs.declared.error.LineError.{LineError}
use Rattle.coco_lines.specs.declared.error.LineError.TheVariants as error
use Rattle.coco_lines.proofs.ReplyLemmas.{IsNewTo, all_added, all_ordered}
use Rattle.coco_serve.specs.Again.{ComesAgain, IsAgain, IsRefusedAgain, StandsAt, or_old}
use Rattle.coco_serve.proofs.AgainLemmas.{IsOwn, IsSettled, all_still_new, asked, both_added, class_by, class_is, equals, has, known_apart, known_with, new_class, none_added, none_equals, none_has, old_apart, same_with, tests_are}
use Rattle.coco_serve.proofs.OnceLemmas.{has_none}
use Rattle.coco_serve.proofs.SpentLemmas.{any_passing, same_has}
use Rattle.coco_serve.proofs.LeftLemmas.{HasDone, IsPast, LeavesOpen, LeavesRequest, above_one, all_left, has_done, left_at, no_more, not_both, past_still, some_is}

-- ---- a line in its batch

-- the requests before it that are new, and its class by these
record IsIn (procs : Procedures) (k : Known) (line : Line) (c : Class) : Type 0 where
  pub before : List Request
  pub new : AllByRecursion (IsNewTo k) before
  pub is : IsClass procs (and_known k before) line c

new_here : (procs : Procedures) (k : Known) (line : Line) (c : Class) → IsClass procs k line c → AllByRecursion (IsNewTo k) (new_in c)
new_here procs k line (Refused e) is = tt
new_here procs k line (Same id) is = tt
new_here procs k line (New r) is = ((new_class procs k line r is).0, tt)

is_in : (procs : Procedures) (k : Known) (j : ℕ) (lines : List Line) (cs : List Class) (line : Line) (c : Class) → AreClasses procs k lines cs → StandsAt j lines cs line c → IsIn procs k line c
is_in procs k j [] cs line c are stands = let e : ◌≡◌ {A = Option Line} None (Some line) = stands.0 in absurd (cc)
is_in procs k j (x ∷ lines) [] line c are stands = absurd are
is_in procs k zero (x ∷ lines) (d ∷ cs) line c are stands = record {
  before = [];
  new = tt;
  is = subst (λ m. IsClass procs m line c) (sym (none_added k)) (subst (λ y. IsClass procs k y c) (some_is x line stands.0) (subst (IsClass procs k x) (some_is d c stands.1) are.0));
}
is_in procs k (suc j) (x ∷ lines) (d ∷ cs) line c are stands =
    let rest = is_in procs (and_known k (new_in d)) j lines cs line c are.1 stands in
    record {
      before = new_in d ++ rest.before;
      new = all_append (IsNewTo k) (new_in d) rest.before (new_here procs k x d are.0) (all_still_new k (new_in d) rest.before rest.new);
      is = subst (λ m. IsClass procs m line c) (both_added k (new_in d) rest.before) rest.is;
    }

-- ---- kept Dones among what is known

done_has : (id : ℕ) (ds : List Done) (d : Done) → done_of id ds ≡ Some d → has id (map request_of ds) ≡ true
done_has id [] d h = absurd (not_both d None refl h)
done_has id (x ∷ ds) d h = by (nat_eq id x.id) h (done_has id ds d)
  where
    by : (b : Bool) → cond b (Some x) (done_of id ds) ≡ Some d → (done_of id ds ≡ Some d → has id (map request_of ds) ≡ true) → (b || has id (map request_of ds)) ≡ true
    by true h rest = refl
    by false h rest = rest h

done_equal : (r : Request) (ds : List Done) (d : Done) → call.ghosts.eq d.call r.call ≡ true → done_of r.id ds ≡ Some d → list_any (equals r) (map request_of ds) ≡ true
done_equal r [] d equal h = absurd (not_both d None refl h)
done_equal r (x ∷ ds) d equal h = by (nat_eq r.id x.id) h (done_equal r ds d equal)
  where
    by : (b : Bool) → cond b (Some x) (done_of r.id ds) ≡ Some d → (done_of r.id ds ≡ Some d → list_any (equals r) (map request_of ds) ≡ true)
        → ((b && call.ghosts.eq x.call r.call) || list_any (equals r) (map request_of ds)) ≡ true
    by true h rest = or_left (call.ghosts.eq x.call r.call) (list_any (equals r) (map request_of ds)) (ap (λ (y : Done). call.ghosts.eq y.call r.call) (some_is x d h) ∙ equal)
    by false h rest = rest h

-- ---- a request again

-- what a request is that has a Done, with an equal call or with another
abbrev was : Bool → Request → Class
was true r = Same r.id
was false r = Refused error.Reused

-- behind requests of its batch that are new
module _ (m : History) (ordered : IsOrdered m) (r : Request) (before : List Request) (new : AllByRecursion (IsNewTo (known_in m)) before) where
  abbrev Fits : Class → Type 0
  Fits c = first_that_fits (request_tests (and_known (known_in m) before) (Some r)) ≡ Some c

  past_again : IsPast m r → Fits (Refused error.Old)
  past_again past =
      let k = and_known (known_in m) before in
      let apart = old_apart (known_in m) r before past.old new in
      let same : is_same (known_in m) r ≡ false = no_more (is_same (known_in m) r) (has r.id (map request_of (kept m))) (same_has r (map request_of (kept m))) past.unkept in
      tests_are k r false false true (is_full k) (Refused error.Old)
      (same_with (known_in m) r before ∙ or_from (is_same (known_in m) r) (list_any (equals r) before) same (none_equals r before apart))
      (known_with (known_in m) r before ∙ or_from (is_known (known_in m) r) (has r.id before) past.unkept (none_has r before apart)) past.old refl refl

  is_past : (equal : Bool) → HasDone (all_dones m) equal r → done_of r.id (kept m) ≡ None → IsPast m r
  unfolding IsDistinct
  is_past equal has none = record { unkept = has_none r.id (kept m) none; old = by (is_up_to (floor m) r.id) refl }
    where
      by : (b : Bool) → is_up_to (floor m) r.id ≡ b → b ≡ true
      by true h = refl
      by false h =
          let fresh : AreNew m (r ∷ []) = record { distinct = (tt, tt); unkept = (none, tt); above = above_one (floor m) r h } in
          absurd (not_both has.done (done_of r.id (all_dones m)) (new_have_no_done m (r ∷ []) fresh).0 has.found)

  one_done : (d : Done) (equal : Bool) (there : HasDone (all_dones m) equal r) → done_of r.id (all_dones m) ≡ Some d → call.ghosts.eq d.call r.call ≡ equal
  one_done d equal there found = ap (λ (x : Done). call.ghosts.eq x.call r.call) (some_is d there.done (sym found ∙ there.found)) ∙ there.compared

  kept_again : (equal : Bool) (d : Done) → HasDone (all_dones m) equal r → done_of r.id (kept m) ≡ Some d → Fits (was equal r)
  kept_again true d there found =
      let k = and_known (known_in m) before in
      let equal = one_done d true there (kept_are_dones m ordered r.id d found) in
      tests_are k r true (is_known k r) (is_up_to (floor m) r.id) (is_full k) (Same r.id)
      (same_with (known_in m) r before ∙ or_left (is_same (known_in m) r) (list_any (equals r) before) (done_equal r (kept m) d equal found)) refl refl refl refl
  kept_again false d there found =
      let k = and_known (known_in m) before in
      let known : is_known (known_in m) r ≡ true = done_has r.id (kept m) d found in
      let apart = known_apart (known_in m) r before known new in
      let same : is_same (known_in m) r ≡ false = false_from_ne_true (is_same (known_in m) r) (λ h.
      let other = has_done true r (all_dones m) ordered.once (any_passing (equals r) (is_held m.keep (all_dones m)) (all_dones m) h) in
      let e : true ≡ false = sym other.compared ∙ one_done other.done false there other.found in
      cc) in
      tests_are k r false true (is_up_to (floor m) r.id) (is_full k) (Refused error.Reused)
      (same_with (known_in m) r before ∙ or_from (is_same (known_in m) r) (list_any (equals r) before) same (none_equals r before apart))
      (known_with (known_in m) r before ∙ or_left (is_known (known_in m) r) (has r.id before) known) refl refl refl

  pub done_again : (equal : Bool) → HasDone (all_dones m) equal r → (o : Option Done) → done_of r.id (kept m) ≡ o → Fits (or_old o (was equal r))
  done_again equal there None none = past_again (is_past equal there none)
  done_again equal there (Some d) found = kept_again equal d there found

-- ---- a line again

done_still : (procs : Procedures) (g : History) (bs : List Batch) (cs : List (List Class)) (m : History) (id : ℕ) (d : Done) → GrowsByBatches procs g bs cs m → done_of id (all_dones g) ≡ Some d → done_of id (all_dones m) ≡ Some d
done_still procs g bs cs m id d grows found =
    let rest = all_added procs g bs cs m grows in
    ap (done_of id) rest.1 ∙ done_of-append id (all_dones g) rest.0 ∙ ap (λ o. option_or o (done_of id rest.0)) found

settled_again : (procs : Procedures) (m : History) (line : Line) (e : LineError) (second : Class) → IsOwn e → second ≡ Refused e → IsRefusedAgain procs m line e second
settled_again procs m line error.Long second own h = h
settled_again procs m line error.Json second own h = h
settled_again procs m line error.Shape second own h = h
settled_again procs m line error.Name second own h = h
settled_again procs m line error.Args second own h = h
settled_again procs m line error.Snapshot second own h = h
settled_again procs m line error.Reused second own h = absurd own
settled_again procs m line error.Full second own h = absurd own
settled_again procs m line error.Old second own h = absurd own

reads : (procs : Procedures) (line : Line) (r : Request) → asked procs line ≡ Some r → request_on procs line ≡ Some r
unfolding request_on
reads procs line r h = h

module _ (procs : Procedures) (before g m k : History) (batches earlier rest : List Batch) (cs es fs : List (List Class)) (ordered : IsOrdered before)
    (first : GrowsByBatches procs before batches cs g) (then_ : GrowsByBatches procs g earlier es m) (last : GrowsByBatches procs m rest fs k) (line : Line) where
  ordered_left : IsOrdered g
  ordered_left = all_ordered procs before batches cs g ordered first

  ordered_then : IsOrdered m
  ordered_then = all_ordered procs g earlier es m ordered_left then_

  still : (equal : Bool) (r : Request) → HasDone (all_dones g) equal r → HasDone (all_dones m) equal r
  still equal r there = record { done = there.done; found = done_still procs g earlier es m r.id there.done then_ there.found; compared = there.compared }

  -- the one Done that is kept is the one that the line left, and stays
  one_text : (r : Request) (id : ℕ) (d : Done) → r.id ≡ id → HasDone (all_dones g) true r → done_of id (kept m) ≡ Some d → (done_of id (all_dones g) ≡ Some d) × (done_of id (all_dones k) ≡ Some d)
  one_text r id d is there found =
      let left : done_of id (all_dones g) ≡ Some there.done = subst (λ n. done_of n (all_dones g) ≡ Some there.done) is there.found in
      let now : done_of id (all_dones m) ≡ Some d = kept_are_dones m ordered_then id d found in
      (left ∙ sym (done_still procs g earlier es m id there.done then_ left) ∙ now, done_still procs m rest fs k id d last now)

  texts : (id n p : ℕ) (d : Done) (second : Class) → (done_of id (all_dones g) ≡ Some d) × (done_of id (all_dones k) ≡ Some d) → second ≡ Same id
      → (text_of (done_of id (all_dones g)) ≡ done_text d) × (answer_by (all_dones k) p second ≡ done_text d)
  texts id n p d second found is = (ap text_of found.0, ap (answer_by (all_dones k) p) is ∙ ap text_of found.1)

  module _ (r : Request) (asks : asked procs line ≡ Some r) (second : Class) (known : List Request) (new : AllByRecursion (IsNewTo (known_in m)) known)
      (now : (d : Class) → first_that_fits (request_tests (and_known (known_in m) known) (Some r)) ≡ Some d → second ≡ d) where
    done_now : (equal : Bool) → HasDone (all_dones g) equal r → second ≡ or_old (done_of r.id (kept m)) (was equal r)
    done_now equal there = now (or_old (done_of r.id (kept m)) (was equal r)) (done_again m ordered_then r known new equal (still equal r there) (done_of r.id (kept m)) refl)

    open_again : (c : Class) → LeavesRequest g r c → IsAgain procs m line c second
    open_again (Same id) left = subst (λ n. second ≡ or_old (done_of n (kept m)) (Same n)) left.0 (done_now true left.1)
    open_again (New q) left = subst (λ (x : Request). second ≡ or_old (done_of x.id (kept m)) (Same x.id)) left.0 (done_now true left.1)
    open_again (Refused error.Reused) left = (r, reads procs line r asks, done_now false left)
    open_again (Refused error.Old) left = now (Refused error.Old) (past_again m ordered_then r known new (past_still procs g earlier es m r then_ left))
    open_again (Refused error.Full) left = tt
    open_again (Refused error.Long) left = absurd left
    open_again (Refused error.Json) left = absurd left
    open_again (Refused error.Shape) left = absurd left
    open_again (Refused error.Name) left = absurd left
    open_again (Refused error.Args) left = absurd left
    open_again (Refused error.Snapshot) left = absurd left

    open_answer : (c : Class) → LeavesRequest g r c → (n p id : ℕ) (d : Done) → replied_id c ≡ Some id → done_of id (kept m) ≡ Some d
        → (answer_by (all_dones g) n c ≡ done_text d) × (answer_by (all_dones k) p second ≡ done_text d)
    open_answer (Same x) left n p id d is found =
        let same = some_is x id is in
        let here : done_of x (kept m) ≡ Some d = ap (λ y. done_of y (kept m)) same ∙ found in
        texts x n p d second (one_text r x d left.0 left.1 here) (open_again (Same x) left ∙ ap (λ o. or_old o (Same x)) here)
    open_answer (New q) left n p id d is found =
        let same = some_is q.id id is in
        let here : done_of q.id (kept m) ≡ Some d = ap (λ y. done_of y (kept m)) same ∙ found in
        texts q.id n p d second (one_text r q.id d (ap (λ (x : Request). x.id) left.0) left.1 here) (open_again (New q) left ∙ ap (λ o. or_old o (Same q.id)) here)
    open_answer (Refused e) left n p id d is found = let h : ◌≡◌ {A = Option ℕ} None (Some id) = is in absurd (cc)

  settled : (c second : Class) (k' : Known) → IsSettled (class_by procs line) c → IsClass procs k' line second → ComesAgain procs g m k line c second
  settled c second k' s is =
      let same : second ≡ c = some_is second c (sym (class_is procs k' line second is) ∙ s.whatever (request_tests k' (asked procs line))) in
      record {
        class = subst (λ x. IsAgain procs m line x second) (sym s.is) (settled_again procs m line s.fault second s.own (same ∙ s.is));
        answer = λ n p id d replied found. absurd (none_replied c s.fault id s.is replied);
      }
    where
      none_replied : (c : Class) (e : LineError) (id : ℕ) → c ≡ Refused e → replied_id c ≡ Some id → ⊥
      none_replied c e id is replied = let h : ◌≡◌ {A = Option ℕ} None (Some id) = sym (ap replied_id is) ∙ replied in cc

  was_open : (c second : Class) (known : List Request) → AllByRecursion (IsNewTo (known_in m)) known → LeavesOpen procs g line c → IsClass procs (and_known (known_in m) known) line second
      → ComesAgain procs g m k line c second
  was_open c second known new left is =
      let r = left.request in
      let tests = request_tests (and_known (known_in m) known) (Some r) in
      let found : class_by procs line tests ≡ Some second = subst (λ o. class_by procs line (request_tests (and_known (known_in m) known) o) ≡ Some second) left.asks (class_is procs (and_known (known_in m) known) line second is) in
      let now : (d : Class) → first_that_fits tests ≡ Some d → second ≡ d = λ d fits. some_is second d (sym found ∙ left.whichever tests d fits) in
      record { class = open_again r left.asks second known new now c left.leaves; answer = open_answer r left.asks second known new now c left.leaves }

pub comes_again : (procs : Procedures) (before g m k : History) (batches earlier later : List Batch) (own : Batch) (cs es fs : List (List Class)) (ds : List Class) (i j : ℕ) (line : Line) (first second : Class)
    → IsOrdered before → GrowsByBatches procs before batches cs g → GrowsByBatches procs g earlier es m → GrowsByBatches procs m (own ∷ later) (ds ∷ fs) k
    → StandsAt i (joined batches) (joined cs) line first → StandsAt j own ds line second → ComesAgain procs g m k line first second
comes_again procs before g m k batches earlier later own cs es fs ds i j line first second ordered grew then_ last one two =
    let there = is_in procs (known_in m) j own ds line second last.1.are two in
    elim (left_at procs g i (joined batches) (joined cs) line first (all_left procs before batches cs g grew (all_ordered procs before batches cs g ordered grew)) one) [
      | inl s ↦ settled procs before g m k batches earlier (own ∷ later) cs es (ds ∷ fs) ordered grew then_ last line first second (and_known (known_in m) there.before) s there.is
      | inr o ↦ was_open procs before g m k batches earlier (own ∷ later) cs es (ds ∷ fs) ordered grew then_ last line first second there.before there.new o there.is
    ]
