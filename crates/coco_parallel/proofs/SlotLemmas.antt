-- What a worker's slot says of its transcript, of its passes, and of the requests that it worked off.
use Rattle.std.proofs.Common.{◌≡◌, ℕ, suc, ◌<◌, ◌≤◌, Bool, true, false, cond, nat_eq, nat_lt, ◌==◌, List, [], ◌∷◌, ◌++◌, map, length, Some, refl, sym, ap, ◌∙◌, subst, arith}
use Rattle.std.specs.Prelude.{sum_by}
use Rattle.std.specs.List.{AllByRecursion, slice_get}
use Rattle.std.specs.Option.{option_map}
use Rattle.std.proofs.lemmas.Bool.{eqb-true, lt-ltb}
use Rattle.std.proofs.lemmas.List.Sums.{length-filter, sum_by-cons}
use Rattle.std.proofs.lemmas.Option.{slice_get-map}
use Rattle.coco_ast.proofs.Lists.{all_weaker}
use Rattle.coco_claim.specs.Numbers.{times}
use Rattle.coco_claim.specs.Seats.{Drawer}
use Rattle.coco_desks.specs.Gains.{done_by, undone}
use Rattle.coco_desks.proofs.DeskLemmas.{some_mapped}
use Rattle.coco_tail.specs.Shards.{shard_at}
use Rattle.coco_journaled.specs.Passes.{new_pass}
use Rattle.coco_occ.specs.declared.outcome.Tried.{Tried}
use Rattle.coco_order.specs.Execution.{AreOf, IsTried, RiseByNumber, Tries, all_at_shard, how_many_at}
use Rattle.coco_shard.specs.Law.{Entry}
use Rattle.coco_worker.specs.Gains.{ShardPass, entered}
use Rattle.coco_worker.specs.Trying.{AreNumbered}
use Rattle.coco_worker.specs.Working.{IsTriedBy, Worked, places_among, places_of, scripts_of}
use Rattle.coco_worker.specs.declared.slot.Slot.{Slot}
use Rattle.coco_parallel.specs.Ending.{HasWorked, Start, beginning_of, job_of}

pub by_bool : (P : Bool → Type 0) (b : Bool) → (b ≡ true → P true) → (b ≡ false → P false) → P b
by_bool P true t f = t refl
by_bool P false t f = f refl

-- ---- scripts

is_tried : (s : Start) (worker : ℕ) (t : Tried) → IsTriedBy (job_of s worker) t → IsTried (beginning_of s) t
is_tried s worker t is = record { request = is.1.request; writes = is.0; placed = is.1.placed; script = is.1.script }

numbered_above : (n : ℕ) (ts : List Tried) → AreNumbered n ts → AllByRecursion (λ u. n ≤ u.by.number) ts
numbered_above n [] numbered = tt
numbered_above n (t ∷ ts) numbered =
    (omega (arith, numbered.0), all_weaker (λ u. suc n ≤ u.by.number) (λ u. n ≤ u.by.number) (λ u le. omega arith) ts (numbered_above (suc n) ts numbered.1))

numbered_rise : (n : ℕ) (ts : List Tried) → AreNumbered n ts → RiseByNumber ts
numbered_rise n [] numbered = tt
numbered_rise n (t ∷ ts) numbered =
    (all_weaker (λ u. suc n ≤ u.by.number) (λ u. t.by.number < u.by.number) (λ u le. omega (arith, numbered.0)) ts (numbered_above (suc n) ts numbered.1), numbered_rise (suc n) ts numbered.1)

-- ---- counts

sum_map : {X Y : Type 0} (g : Y → ℕ) (f : X → Y) (xs : List X) → sum_by g (map f xs) ≡ sum_by (λ x. g (f x)) xs
sum_map g f [] = refl
sum_map g f (x ∷ xs) = omega (arith, sum_by-cons g (f x) (map f xs), sum_by-cons (λ y. g (f y)) x xs, sum_map g f xs)

-- the tries of a place are as many as the place stands among the places
tries_counted : (place : ℕ) (ws : List Worked) → how_many_at place (map (λ (w : Worked). w.tries) ws) ≡ times place (places_of ws)
tries_counted place ws =
    length-filter (λ (r : Tries). nat_eq r.place place) (map (λ (w : Worked). w.tries) ws)
    ∙ sum_map (λ (r : Tries). cond (nat_eq r.place place) 1 0) (λ (w : Worked). w.tries) ws
    ∙ sym (sum_map (λ (n : ℕ). cond (n == place) 1 0) (λ (w : Worked). w.tries.place) ws)

-- a place stands as often among the numbers below n as among all of them
among_counted : (n place : ℕ) → place < n → (xs : List ℕ) → times place (places_among n xs) ≡ times place xs
among_counted n place lt [] = refl
among_counted n place lt (x ∷ xs) =
    by_bool (λ b. nat_lt x n ≡ b → times place (cond b (x ∷ places_among n xs) (places_among n xs)) ≡ times place (x ∷ xs)) (nat_lt x n)
    (λ _ _. omega (arith, sum_by-cons one x (places_among n xs), sum_by-cons one x xs, among_counted n place lt xs))
    (λ f _. omega (arith, ap (λ b. (let n : ℕ = cond b 1 0 in n)) (apart f), sum_by-cons one x xs, among_counted n place lt xs))
    refl
  where
    one : ℕ → ℕ
    one y = cond (y == place) 1 0

    apart : nat_lt x n ≡ false → (x == place) ≡ false
    apart f = by_bool (λ b. (x == place) ≡ b → b ≡ false) (x == place)
        (λ t _. (let h : true ≡ false = sym (lt-ltb x n (subst (λ k. k < n) (sym (eqb-true x place t)) lt)) ∙ f in h)) (λ _ _. refl) refl

-- ---- a pass

-- the worker's pass of a shard's lock, which made the steps of its scripts there
pub record HasPass (s : Start) (shard : ℕ) (slot : Slot) : Type 0 where
  pub pass : ShardPass
  pub there : slice_get slot.passes.items shard ≡ Some pass
  pub number : pass.number ≡ slot.worker
  pub root : pass.root ≡ Some (shard_at s.shards shard)
  pub made : map entered pass.calls ≡ all_at_shard shard slot.transcript

-- ---- a slot

module _ (s : Start) (slot : Slot) (has : HasWorked s slot) where
  pub transcript_is : slot.transcript ≡ scripts_of has.worked
  transcript_is = has.works.adds.transcript ∙ ap (λ (ts : List Tried). ts ++ scripts_of has.worked) has.begun.transcript

  pub all_tried : AllByRecursion (IsTried (beginning_of s)) slot.transcript
  all_tried = subst (AllByRecursion (IsTried (beginning_of s))) (sym transcript_is)
      (all_weaker (IsTriedBy (job_of s has.before.worker)) (IsTried (beginning_of s)) (is_tried s has.before.worker) (scripts_of has.worked) has.works.adds.whole)

  pub of_worker : AreOf slot.worker slot.transcript
  of_worker = subst (λ (w : ℕ). AreOf w slot.transcript) (sym has.worker) (subst (AreOf has.before.worker) (sym transcript_is) (record {
    by_worker = all_weaker (IsTriedBy (job_of s has.before.worker)) (λ t. t.by.worker ≡ has.before.worker) (λ t is. is.1.by_worker) (scripts_of has.worked) has.works.adds.whole;
    rising = numbered_rise (length has.before.transcript) (scripts_of has.worked) has.works.adds.numbered;
  }))

  -- the request of a place was worked off as often as the seat drew the place
  pub drawn_tried : (place : ℕ) → place < length s.requests → how_many_at place (map (λ (w : Worked). w.tries) has.worked) ≡ times place slot.seat.drawn
  drawn_tried place lt =
      tries_counted place has.worked ∙ ap (times place) has.draws.places ∙ among_counted (length s.requests) place lt has.draws.numbers
      ∙ ap (times place) (sym (ap (λ (d : Drawer). d.drawn) has.draws.draws.drawn ∙ ap (λ (xs : List ℕ). xs ++ has.draws.numbers) has.begun.drawn))

  pub has_pass : (shard : ℕ) → shard < length s.shards → HasPass s shard slot
  has_pass shard within =
      let new = has.begun.passes shard within in
      let fresh : ShardPass = new_pass new.0 (shard_at s.shards shard) has.before.worker in
      let found = some_mapped undone (slice_get slot.passes.items shard) fresh
      (sym (slice_get-map undone slot.passes.items shard) ∙ ap (λ (ps : List ShardPass). slice_get ps shard) has.same ∙ slice_get-map undone has.before.passes.items shard ∙ ap (option_map undone) new.1) in
      let below : shard < length has.before.passes.items = omega (arith, has.begun.count) in
      record {
        pass = found.0;
        there = found.1;
        number = ap (λ (p : ShardPass). p.number) found.2 ∙ sym has.worker;
        root = ap (λ (p : ShardPass). p.root) found.2;
        made = sym (ap (done_by entered) found.1) ∙ has.works.adds.made shard below ∙ ap (λ (es : List Entry). es ++ all_at_shard shard (scripts_of has.worked)) (ap (done_by entered) new.1)
            ∙ ap (all_at_shard shard) (sym transcript_is);
      }
