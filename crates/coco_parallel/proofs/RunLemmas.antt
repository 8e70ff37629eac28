-- From the start of the locks to their end: what the calls hand on to each other.
use Rattle.std.proofs.Common.{◌≡◌, ℕ, zero, suc, ◌+◌, ◌<◌, List, [], ◌∷◌, ◌++◌, All, map, length, Option, Some, slice_index_or, append_assoc, refl, sym, ap, ◌∙◌, subst, arith}
use Rattle.std.specs.Global.{Vec}
use Rattle.std.specs.List.{AllByRecursion, cons_option, slice_get}
use Rattle.std.specs.Option.{option_map}
use Rattle.std.proofs.lemmas.List.{append-nil, length-map}
use Rattle.std.proofs.lemmas.List.Elements.{All-head, recursion_from_All}
use Rattle.std.proofs.lemmas.Option.{same_Some, slice_get-map}
use Rattle.coco_ast.proofs.Lists.{all_map}
use Rattle.coco_desks.specs.Locking.{AreEnded, AreStarted, IsEnded, IsStarted}
use Rattle.coco_desks.specs.Rows.{column}
use Rattle.coco_tail.specs.Shards.{shard_at}
use Rattle.coco_journaled.specs.Passes.{HasPasses, new_pass}
use Rattle.coco_journaled.specs.Replay.{Replays}
use Rattle.coco_order.specs.Execution.{Journal}
use Rattle.coco_seen.specs.Notes.{Lock, TableId}
use Rattle.coco_seen.specs.Rules.{numbers}
use Rattle.coco_shard.specs.RowState.{ShardState}
use Rattle.coco_shard.specs.Table.{after_ask, answer_in}
use Rattle.coco_worker.specs.Gains.{ShardPass}
use Rattle.coco_worker.specs.declared.slot.Slot.{Slot}
use Rattle.coco_parallel.specs.Ending.{HasEnded, HasWorked, IsClosed, IsNew, Start, passes_at}
use Rattle.coco_parallel.specs.Running.{IsDealt, IsRun, RunsEnd, slots_of}
use Rattle.coco_parallel.specs.declared.workers.Station.{Station}
use Rattle.coco_parallel.proofs.LockLemmas.{as_many_passes}
use Rattle.coco_parallel.proofs.SlotLemmas.{HasPass, has_pass}

abbrev Trays : Type 0
Trays = List (Vec ShardPass)

-- ---- the passes of a worker

number_at : (first count n : ℕ) → n < count → slice_get (numbers first count) n ≡ Some (first + n)
number_at first zero n lt = absurd (omega arith)
number_at first (suc count) zero lt = ap Some (let h : first ≡ first + 0 = omega arith in h)
number_at first (suc count) (suc n) lt = number_at (suc first) count n (omega arith) ∙ ap Some (let h : suc first + n ≡ first + suc n = omega arith in h)

pass_of : (workers worker : ℕ) (root : ShardState) (lock : Lock) (tray : Vec ShardPass) → worker < workers → IsStarted workers root lock tray → slice_get tray.items worker ≡ Some (new_pass lock.id root worker)
pass_of workers worker root lock tray lt is =
    ap (λ (ps : List ShardPass). slice_get ps worker) is.passes ∙ slice_get-map (new_pass lock.id root) (numbers 0 workers) worker
    ∙ ap (option_map (new_pass lock.id root)) (number_at 0 workers worker lt ∙ ap Some (let h : 0 + worker ≡ worker = omega arith in h))

module _ (workers worker : ℕ) (lt : worker < workers) where
  dealt_at : (shards : List ShardState) (locks : List Lock) (trays : Trays) → AreStarted workers shards locks trays → (shard : ℕ) → shard < length shards
      → (lock : TableId) × (slice_get (column worker trays) shard ≡ Some (new_pass lock (shard_at shards shard) worker))
  dealt_at [] locks trays are shard within = absurd (omega arith)
  dealt_at (m ∷ ms) [] trays are shard within = absurd are
  dealt_at (m ∷ ms) (l ∷ ls) [] are shard within = absurd are
  dealt_at (m ∷ ms) (l ∷ ls) (t ∷ ts) are zero within = (l.id, ap (λ (o : Option ShardPass). slice_get (cons_option o (column worker ts)) 0) (pass_of workers worker m l t lt are.0))
  dealt_at (m ∷ ms) (l ∷ ls) (t ∷ ts) are (suc shard) within =
      let rest = dealt_at ms ls ts are.1 shard (omega arith) in
      (rest.0, ap (λ (o : Option ShardPass). slice_get (cons_option o (column worker ts)) (suc shard)) (pass_of workers worker m l t lt are.0) ∙ rest.1)

  dealt_count : (shards : List ShardState) (locks : List Lock) (trays : Trays) → AreStarted workers shards locks trays → length (column worker trays) ≡ length shards
  dealt_count [] [] [] are = refl
  dealt_count [] [] (t ∷ ts) are = absurd are
  dealt_count [] (l ∷ ls) trays are = absurd are
  dealt_count (m ∷ ms) [] trays are = absurd are
  dealt_count (m ∷ ms) (l ∷ ls) [] are = absurd are
  dealt_count (m ∷ ms) (l ∷ ls) (t ∷ ts) are = ap (λ (o : Option ShardPass). length (cons_option o (column worker ts))) (pass_of workers worker m l t lt are.0) ∙ ap suc (dealt_count ms ls ts are.1)

  dealt_new : (shards : List ShardState) (locks : List Lock) (trays : Trays) (slot : Slot) → AreStarted workers shards locks trays → IsDealt trays worker slot → IsNew shards slot
  dealt_new shards locks trays slot are is = record {
    passes = λ shard within. (
        let found = dealt_at shards locks trays are shard within in
        (found.0, ap (λ (ps : List ShardPass). slice_get ps shard) is.passes ∙ found.1 ∙ ap (λ (n : ℕ). Some (new_pass found.0 (shard_at shards shard) n)) (sym is.worker_is))
        );
    count = ap length is.passes ∙ dealt_count shards locks trays are;
    transcript = is.transcript;
    pieces = is.pieces;
    tail = is.tail;
    drawn = is.drawn;
  }

-- ---- the workers' numbers

numbered : (first : ℕ) (stations : List Station) → ((n : ℕ) (d : Station) → n < length stations → (slice_index_or stations n d).slot.worker ≡ first + n) → map (λ (slot : Slot). slot.worker) (slots_of stations) ≡ numbers first (length stations)
numbered first [] each = refl
numbered first (x ∷ xs) each =
    ap (λ (n : ℕ). n ∷ map (λ (slot : Slot). slot.worker) (slots_of xs)) (let h : x.slot.worker ≡ first + 0 = each 0 x (omega arith) in let same : x.slot.worker ≡ first = omega (arith, h) in same)
    ∙ ap (λ (ns : List ℕ). first ∷ ns) (numbered (suc first) xs (λ n d lt. each (suc n) d (omega arith) ∙ (let h : first + suc n ≡ suc first + n = omega arith in h)))

-- ---- what each lock left

abbrev EachEnded : Trays → List ShardState → List Journal → Type 0
EachEnded [] [] [] = Unit {0}
EachEnded (t ∷ ts) (m ∷ ms) (j ∷ js) = IsEnded answer_in after_ask t m j × EachEnded ts ms js
EachEnded ts ms js = ⊥

-- behind what stood there before
pub record LeftBehind (trays : Trays) (ms : List ShardState) (js : List Journal) (ms' : List ShardState) (js' : List Journal) : Type 0 where
  pub machines : List ShardState
  pub journals : List Journal
  pub machines_are : ms' ≡ ms ++ machines
  pub journals_are : js' ≡ js ++ journals
  pub each : EachEnded trays machines journals

left_behind : (trays : Trays) (ms : List ShardState) (js : List Journal) (ms' : List ShardState) (js' : List Journal) → AreEnded answer_in after_ask trays ms js ms' js' → LeftBehind trays ms js ms' js'
left_behind [] ms js ms' js' are = record { machines = []; journals = []; machines_are = are.0 ∙ sym (append-nil ms); journals_are = are.1 ∙ sym (append-nil js); each = tt }
left_behind (t ∷ ts) ms js ms' js' are =
    let rest = left_behind ts (ms ++ are.0 ∷ []) (js ++ are.1 ∷ []) ms' js' are.3 in
    record {
      machines = are.0 ∷ rest.machines;
      journals = are.1 ∷ rest.journals;
      machines_are = rest.machines_are ∙ append_assoc ms (are.0 ∷ []) rest.machines;
      journals_are = rest.journals_are ∙ append_assoc js (are.1 ∷ []) rest.journals;
      each = (are.2, rest.each);
    }

each_at : (trays : Trays) (ms : List ShardState) (js : List Journal) → EachEnded trays ms js → (n : ℕ) (d : Vec ShardPass) → n < length trays → IsEnded answer_in after_ask (slice_index_or trays n d) (shard_at ms n) (slice_index_or js n [])
each_at [] ms js each n d lt = absurd (omega arith)
each_at (t ∷ ts) [] js each n d lt = absurd each
each_at (t ∷ ts) (m ∷ ms) [] each n d lt = absurd each
each_at (t ∷ ts) (m ∷ ms) (j ∷ js) each zero d lt = each.0
each_at (t ∷ ts) (m ∷ ms) (j ∷ js) each (suc n) d lt = each_at ts ms js each.1 n d (omega arith)

each_count : (trays : Trays) (ms : List ShardState) (js : List Journal) → EachEnded trays ms js → (length ms ≡ length trays) × (length js ≡ length trays)
each_count [] [] [] each = (refl, refl)
each_count [] [] (j ∷ js) each = absurd each
each_count [] (m ∷ ms) js each = absurd each
each_count (t ∷ ts) [] js each = absurd each
each_count (t ∷ ts) (m ∷ ms) [] each = absurd each
each_count (t ∷ ts) (m ∷ ms) (j ∷ js) each = let rest = each_count ts ms js each.1 in (ap suc rest.0, ap suc rest.1)

-- ---- a lock with the workers' passes

module _ (s : Start) (shard : ℕ) (within : shard < length s.shards) where
  pass_numbers : (slots : List Slot) → AllByRecursion (HasWorked s) slots → map (λ (p : ShardPass). p.number) (passes_at shard slots) ≡ map (λ (slot : Slot). slot.worker) slots
  pass_numbers [] all = refl
  pass_numbers (slot ∷ slots) all =
      let has : HasPass s shard slot = has_pass s slot all.0 shard within in
      ap (λ (o : Option ShardPass). map (λ (p : ShardPass). p.number) (cons_option o (passes_at shard slots))) has.there
      ∙ ap (λ (n : ℕ). n ∷ map (λ (p : ShardPass). p.number) (passes_at shard slots)) has.number ∙ ap (λ (ns : List ℕ). slot.worker ∷ ns) (pass_numbers slots all.1)

  module _ (machine : ShardState) (journal : Journal) where
    abbrev CameFrom : ShardPass → Type 0
    CameFrom p = (root : ShardState) × (p.root ≡ Some root) × Replays answer_in after_ask root journal machine

    replayed : (slots : List Slot) → AllByRecursion (HasWorked s) slots → 0 < length slots → All CameFrom (passes_at shard slots) → Replays answer_in after_ask (shard_at s.shards shard) journal machine
    replayed [] all some came = absurd (omega arith)
    replayed (slot ∷ slots) all some came =
        let has : HasPass s shard slot = has_pass s slot all.0 shard within in
        let first = All-head CameFrom has.pass (passes_at shard slots) (subst (λ (o : Option ShardPass). All CameFrom (cons_option o (passes_at shard slots))) has.there came) in
        subst (λ (root : ShardState). Replays answer_in after_ask root journal machine) (same_Some first.0 (shard_at s.shards shard) (sym first.1 ∙ has.root)) first.2

    closed : (slots : List Slot) (tray : Vec ShardPass) → AllByRecursion (HasWorked s) slots → 0 < length slots → map (λ (slot : Slot). slot.worker) slots ≡ numbers 0 (length slots) → tray.items ≡ passes_at shard slots
        → IsEnded answer_in after_ask tray machine journal → IsClosed (shard_at s.shards shard) (passes_at shard slots) journal machine
    closed slots tray all some workers are ended = record {
      passes_are = subst (λ (ps : List ShardPass). HasPasses ps journal) are (ended.passes
          (ap (map (λ (p : ShardPass). p.number)) are ∙ pass_numbers slots all ∙ workers ∙ ap (numbers 0) (sym (ap length are ∙ as_many_passes s shard within journal slots all))));
      replays = replayed slots all some (subst (All CameFrom) are ended.replays);
    }

some_tray : (trays : Trays) (n : ℕ) → n < length trays → Vec ShardPass
some_tray [] n lt = absurd (omega arith)
some_tray (t ∷ ts) n lt = t

-- ---- all of it

module _ (s : Start) (locks : List Lock) (trays back : Trays) (before after : List Station) (journals : List Journal) (machines : List ShardState) (run : IsRun s locks trays back before after journals machines) where
  worked : AllByRecursion (HasWorked s) (slots_of after)
  worked = all_map (λ (station : Station). station.slot) (HasWorked s) after (recursion_from_All (λ (station : Station). HasWorked s station.slot) after each)
    where
      each : (n : ℕ) (d : Station) → n < length after → HasWorked s (slice_index_or after n d).slot
      each n d lt =
          let here : n < length before = (let same : length after ≡ length before = run.still in omega arith) in
          let below : n < s.config.started = (let count : length before ≡ s.config.started = run.stations in omega arith) in
          let left = run.left n d here in
          let did = left.worked (run.done n d here) in
          record {
            before = (slice_index_or before n d).slot;
            worked = did.0;
            begun = dealt_new s.config.started n below s.shards locks trays (slice_index_or before n d).slot run.started (run.dealt n d here);
            same = left.same;
            worker = left.worker;
            works = did.1;
            draws = did.2;
          }

  workers_are : map (λ (slot : Slot). slot.worker) (slots_of after) ≡ numbers 0 (length after)
  workers_are = numbered 0 after (λ n d lt. (
      let here : n < length before = (let same : length after ≡ length before = run.still in omega arith) in
      (run.left n d here).worker ∙ (run.dealt n d here).worker_is ∙ (let h : n ≡ 0 + n = omega arith in h)
      ))

  slots_count : length (slots_of after) ≡ length after
  slots_count = length-map after (λ (station : Station). station.slot)

  has_ended : HasEnded s (slots_of after) journals machines
  has_ended =
      let left = left_behind back [] [] machines journals run.ended in
      let counts = each_count back left.machines left.journals left.each in
      record {
        worked = worked;
        workers = workers_are ∙ ap (numbers 0) (run.still ∙ run.stations);
        drawn = run.drawn;
        journals_are = ap length left.journals_are ∙ counts.1 ∙ run.trays_are;
        machines_are = ap length left.machines_are ∙ counts.0 ∙ run.trays_are;
        closed = λ shard within. closed_at shard within left;
      }
    where
      closed_at : (shard : ℕ) → shard < length s.shards → LeftBehind back [] [] machines journals → IsClosed (shard_at s.shards shard) (passes_at shard (slots_of after)) (slice_index_or journals shard []) (shard_at machines shard)
      closed_at shard within left =
          let below : shard < length back = (let same : length back ≡ length s.shards = run.trays_are in omega arith) in
          at_tray (some_tray back shard below)
        where
          at_tray : (t : Vec ShardPass) → IsClosed (shard_at s.shards shard) (passes_at shard (slots_of after)) (slice_index_or journals shard []) (shard_at machines shard)
          at_tray t =
              let below : shard < length back = (let same : length back ≡ length s.shards = run.trays_are in omega arith) in
              let ended = each_at back left.machines left.journals left.each shard t below in
              let some : 0 < length (slots_of after) = (let a = slots_count in let b = run.still in let c = run.stations in let d = run.some in omega (arith, a, b, c, d)) in
              closed s shard within (shard_at machines shard) (slice_index_or journals shard []) (slots_of after) (slice_index_or back shard t) worked some (workers_are ∙ ap (numbers 0) (sym slots_count)) (run.back_are shard t within)
              (subst (λ (ms : List ShardState). IsEnded answer_in after_ask (slice_index_or back shard t) (shard_at ms shard) (slice_index_or journals shard [])) (sym left.machines_are)
              (subst (λ (js : List Journal). IsEnded answer_in after_ask (slice_index_or back shard t) (shard_at left.machines shard) (slice_index_or js shard [])) (sym left.journals_are) ended))

pub runs_end : RunsEnd
runs_end s locks trays back before after journals machines run = has_ended s locks trays back before after journals machines run
