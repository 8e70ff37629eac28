-- One batch of requests: what its turn makes of the store.
use Rattle.std.proofs.Common.{◌≡◌, ◌≢◌, ℕ, ◌+◌, ◌<◌, ◌≤◌, inl, inr, ◌⊎◌, ⊎_elim, List, [], ◌∷◌, length, Result, Ok, Err, refl, sym, ap, subst, ◌∙◌, arith, true≢false}
use Rattle.coco_types.specs.declared.call.Request.{Request}
use Rattle.coco_batches.specs.Asking.{known_of}
use Rattle.coco_cluster.specs.Faults.{MayHaveCommitted}
use Rattle.coco_cluster.specs.Standing.{IsBehindAll, StandsAt}
use Rattle.coco_cluster.specs.Turning.{KeepsHistory, Turns, epochs_of}
use Rattle.coco_cluster.specs.declared.cluster.Cluster.{Cluster}
use Rattle.coco_cluster.specs.declared.stop.Stop.{Stop}
use Rattle.coco_cluster.specs.declared.stop.Stop.TheVariants as stop
use Rattle.coco_host.specs.declared.host.Host.{Ghosts as HostGhosts}
use Rattle.coco_lines.specs.Classes.{Known, known_in, new_of}
use Rattle.coco_store.specs.Contents.{Contents, history_of}
use Rattle.coco_serve.specs.Growth.{AddsWithin, GrowsByExecution, manner_of}
use Rattle.coco_serve.specs.declared.bounds.RunBounds.{RunBounds}
use Rattle.coco_serve.proofs.BatchLemmas.{Committed, RefusesNone, adds_one, below_one, grows_by_execution, refused}
use Rattle.coco_serve.proofs.RunLemmas.{few_new, known_at}
use Rattle.coco_try.specs.Growth.{AreClassesOf}
use Rattle.coco_try.specs.Work.{ComesOfPart, HasClasses, HasNew, IsFew, WorksOffPart}
use Rattle.coco_try.specs.declared.one_part.Tally.{Tally}
use Rattle.coco_try.proofs.PartLemmas.{classes-length, part_few}

-- ---- new requests

pub few_fresh : (k : Known) (part fresh : List Request) (answered : ℕ) → HasClasses k part fresh answered → length fresh ≤ length part
few_fresh k part fresh answered has =
    let same = ap (length {A = Request}) has.fresh_are in
    let few = few_new has.classes in
    let count = classes-length k part has.classes has.are in
    omega (arith, same, few, count)

epochs_few : (rs : List Request) → epochs_of rs ≤ length rs
epochs_few [] = omega arith
epochs_few (r ∷ rs) = omega arith

-- what is counted is no more than there are requests
pub worked_few : (k : Known) (part fresh requests : List Request) (answered : ℕ) (worked : Tally) → HasClasses k part fresh answered → requests ≡ fresh → worked.answered ≡ answered → worked.epochs ≡ epochs_of requests
    → IsFew (length part) worked
worked_few k part fresh requests answered worked has same answered_is epochs_is =
    let counted = part_few k part fresh answered has in
    let few = few_fresh k part fresh answered has in
    let made = epochs_few requests in
    let as_many = ap (length {A = Request}) same in
    record { answered = omega (arith, answered_is, counted); epochs = omega (arith, epochs_is, made, as_many, few) }

has_new : (k : Known) (part fresh requests : List Request) (answered : ℕ) → HasClasses k part fresh answered → requests ≡ fresh → 0 < length requests → HasNew k part
has_new k part fresh requests answered has same some =
    let as_many = ap (length {A = Request}) (same ∙ has.fresh_are) in
    record { classes = has.classes; are = has.are; some = omega (arith, as_many, some) }

-- ---- files

module _ {H : Type 0} (frame : HostGhosts H) where
  module _ (part fresh requests : List Request) (answered : ℕ) (bounds : RunBounds) (spare : ℕ) (c : Contents) (before after : Cluster) (old new : H) (has : HasClasses (known_of before.kept []) part fresh answered)
      (same : requests ≡ fresh) (stands : StandsAt c before) where
    are : AreClassesOf (known_in (history_of c)) part has.classes
    are = subst (λ k. AreClassesOf k part has.classes) (known_at c before stands) has.are

    news : requests ≡ new_of has.classes
    news = same ∙ has.fresh_are

    -- its turn failed
    module _ (f : Stop) (turned : Result (Unit {0}) Stop) (was : turned ≡ Err f) (none : RefusesNone f) where
      fails : Turns frame turned requests bounds.workers bounds.attempts spare c before after old new
          → WorksOffPart frame (Err f) part bounds c before.next_epoch spare after old new
      fails t = by f none (subst MayHaveCommitted was t.may)
        where
          numbers : AddsWithin before.next_epoch (t.number + epochs_of (new_of has.classes)) spare (history_of c) (history_of t.d)
          numbers = subst (λ rs. AddsWithin before.next_epoch (t.number + epochs_of rs) spare (history_of c) (history_of t.d)) news
              (adds_one requests bounds.workers bounds.attempts before.next_epoch t.number spare t.trace c t.d t.grown t.taken)

          below : IsBehindAll t.d (t.number + epochs_of (new_of has.classes))
          below = subst (λ rs. IsBehindAll t.d (t.number + epochs_of rs)) news (below_one requests bounds.workers bounds.attempts t.number t.trace c t.d t.grown)

          grows : GrowsByExecution (manner_of c.setting bounds) (history_of c) (new_of has.classes) (history_of t.d)
          grows = subst (λ rs. GrowsByExecution (manner_of c.setting bounds) (history_of c) rs (history_of t.d)) news (grows_by_execution requests bounds t.number t.trace c t.d t.grown)

          by : (f : Stop) → RefusesNone f → MayHaveCommitted {T = Unit {0}} (Err f) → WorksOffPart frame (Err f) part bounds c before.next_epoch spare after old new
          by stop.Read none may = absurd may
          by stop.Say none may = absurd may
          by stop.Disk none may = record {
            classes = has.classes;
            are = are;
            d = t.d;
            setting = t.grown.setting;
            grows = grows;
            number = t.number;
            taken = t.taken;
            numbers = numbers;
            below = below;
            next_is = tt;
            moments = t.moments;
            others = t.others;
            ends = t.left;
          }
          by (stop.NotAStore file at) none may = absurd (none file at refl)
          by stop.Unreachable none may = absurd may
          by stop.EpochsUsedUp none may = absurd may
          by stop.NoMemory none may = record {
            classes = has.classes;
            are = are;
            d = t.d;
            setting = t.grown.setting;
            grows = grows;
            number = t.number;
            taken = t.taken;
            numbers = numbers;
            below = below;
            next_is = tt;
            moments = t.moments;
            others = t.others;
            ends = t.left;
          }

    pub part_failed : (f : Stop) (turned : Result (Unit {0}) Stop) (result : Result Tally Stop) → turned ≡ Err f → ((file at : ℕ) → turned ≢ Err (stop.NotAStore file at))
        → result ≡ Err f → frame.said new ≡ frame.said old
        → KeepsHistory frame turned requests before.next_epoch spare c old new ⊎ Turns frame turned requests bounds.workers bounds.attempts spare c before after old new
        → ComesOfPart frame result part bounds c before.next_epoch spare after old new
    part_failed f turned result was never is quiet turns =
        let none : RefusesNone f = λ file at e. never file at (was ∙ ap Err e) in
        subst (λ r. ComesOfPart frame r part bounds c before.next_epoch spare after old new) (sym is)
        (⊎_elim (λ keeps. inl (refused frame f turned requests spare c before old new was none quiet keeps)) (λ t. inr (fails f turned was none t)) turns)

    -- it committed
    pub part_done : (worked : Tally) → worked.answered ≡ answered → worked.epochs ≡ epochs_of requests → Committed frame c requests bounds before.next_epoch spare after old new
        → WorksOffPart frame (Ok worked) part bounds c before.next_epoch spare after old new
    part_done worked answered_is epochs_is done = record {
      classes = has.classes;
      are = are;
      d = done.d;
      setting = done.setting;
      grows = subst (λ rs. GrowsByExecution (manner_of c.setting bounds) (history_of c) rs (history_of done.d)) news done.grows;
      number = done.number;
      taken = done.taken;
      numbers = subst (λ rs. AddsWithin before.next_epoch (done.number + epochs_of rs) spare (history_of c) (history_of done.d)) news done.numbers;
      below = subst (λ rs. IsBehindAll done.d (done.number + epochs_of rs)) news done.below;
      next_is = subst (λ rs. after.next_epoch ≡ done.number + epochs_of rs) news done.next_is;
      moments = done.moments;
      others = done.others;
      ends = (done.rests, done.stands, record { answered = answered_is ∙ has.answered_are; epochs = epochs_is ∙ ap epochs_of news });
    }
