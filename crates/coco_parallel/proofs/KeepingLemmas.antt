-- What stays of shards and tables whose locks are closed, whatever was asked of them.
use Rattle.std.proofs.Common.{◌≡◌, ◌⊎◌, inl, inr, ℕ, ◌<◌, ◌≤◌, List, [], ◌∷◌, ◌++◌, length, take, Some, slice_index_or, vec_len, refl, sym, ap, ◌∙◌, subst, arith}
use Rattle.std.specs.Global.{Vec}
use Rattle.std.specs.FinMap.{empty}
use Rattle.std.specs.Option.{option_map}
use Rattle.std.proofs.lemmas.List.{get_or-map, length-map, same_lists}
use Rattle.std.proofs.lemmas.Option.{slice_get-get_or, unwrap_or-slice_get}
use Rattle.coco_types.specs.RowKey.{RowKey}
use Rattle.coco_types.proofs.KeyMaps.{same_keyed}
use Rattle.coco_types.specs.declared.value.Value.{Value}
use Rattle.coco_copy.specs.CopyState.{CopyState, begun}
use Rattle.coco_copy.specs.Puts as puts
use Rattle.coco_copy.specs.declared.ops.CopyAnswer.{CopyAnswer}
use Rattle.coco_copy.specs.declared.ops.CopyAnswer.TheVariants.{Applied, Older, OtherEpoch}
use Rattle.coco_copy.specs.declared.ops.CopyAsk.{CopyAsk}
use Rattle.coco_copy.specs.declared.ops.CopyAsk.TheVariants.{Put}
use Rattle.coco_desks.specs.Desks.{AreBackBy, AreDealt, IsOpen}
use Rattle.coco_desks.proofs.DeskLemmas.{as_many_started, bears, closed_by, machines_count, written_back}
use Rattle.coco_desks.proofs.RowLemmas.{any_default}
use Rattle.coco_tail.specs.Shards.{AreSettled, SettleOn, shard_at}
use Rattle.coco_journaled.specs.declared.entry.Entry.{Entry}
use Rattle.coco_journaled.specs.Passes.{Passing}
use Rattle.coco_journaled.specs.Replay.{Replays, after}
use Rattle.coco_order.specs.Execution.{Journal}
use Rattle.coco_order.specs.Laws.{ClosedIsLawful}
use Rattle.coco_seen.specs.Notes.{Lock}
use Rattle.coco_shard.specs.RowState.{IsSettled, RowState, ShardState, resting, stable_at}
use Rattle.coco_shard.specs.Table.{after_ask, answer_in}
use Rattle.coco_worker.specs.Gains.{ShardPass}
use Rattle.coco_parallel.specs.Closing.{AreStill, HasAllBack}
use Rattle.coco_parallel.specs.Copies.{CopyPass}
use Rattle.coco_parallel.specs.Worked.{CopyJournal, KeepValues, begun_all, emptied, table_at}
use Rattle.coco_parallel.proofs.OutcomeLemmas.{past_end, within_or_past}

-- ---- desks

module _ {M Q A : Type 0} {workers : ℕ} {machines : List M} {rows : List (Vec (Passing M Q A))} where
  -- a desk that was opened, once rows with the same passes are back
  pub all_back : {locks : Vec Lock} {trays back : Vec (Vec (Passing M Q A))} {last : Vec M} {journals : Vec (List (Entry Q A))} → IsOpen workers machines locks trays back last journals rows → (new : Vec (Vec (Passing M Q A))) → AreStill rows new.items → HasAllBack locks trays new last journals
  all_back is new still = record { workers = workers; machines = machines; rows = rows; dealt = is.dealt; still = still; empty = is.empty; trays_are = is.trays_are; last_room = is.last_room; journals_room = is.journals_room }

  -- what the locks left whose passes came back in these rows, for each machine
  pub by_machines : (answer_to : M → Q → A) (state_after : M → Q → M) (locks : Vec Lock) {back to : List (Vec (Passing M Q A))} {ms : List M} {js : List (List (Entry Q A))} → AreDealt workers machines locks.items rows → to ≡ back → AreBackBy answer_to state_after to (vec_len locks) ms js
      → AreBackBy answer_to state_after back (length machines) ms js
  by_machines answer_to state_after locks {back = back} {to = to} {ms = ms} {js = js} dealt is closed =
      subst (λ (n : ℕ). AreBackBy answer_to state_after back n ms js) (locks.ok.0 ∙ (as_many_started workers machines locks.items dealt.trays dealt.started).0)
      (subst (λ (rs : List (Vec (Passing M Q A))). AreBackBy answer_to state_after rs (vec_len locks) ms js) is closed)

-- ---- shards

module _ (law : ClosedIsLawful) {workers : ℕ} {machines : List ShardState} {locks : List Lock} {rows back : List (Vec ShardPass)} (dealt : AreDealt workers machines locks rows) (still : AreStill rows back) (some : 0 < workers) (settled : AreSettled machines)
    {ms : List ShardState} {js : List Journal} (closed : AreBackBy answer_in after_ask back (length machines) ms js) where
  as_many : length ms ≡ length machines
  as_many = machines_count answer_in after_ask back (length machines) ms js closed

  at_place : (shards : List ShardState) (p : ℕ) → shard_at shards p ≡ slice_index_or shards p empty
  at_place shards p = unwrap_or-slice_get shards p empty

  stable_as : (p : ℕ) (k : RowKey) → (p < length machines) ⊎ (length machines ≤ p) → stable_at (shard_at ms p) k ≡ stable_at (shard_at machines p) k
  stable_as p k (inl lt) =
      let root : ShardState = slice_index_or machines p empty in
      let by = closed_by answer_in after_ask back (length machines) ms js closed p root empty lt (let n = dealt.count in let m = still.count in omega (arith, n, m, some)) (bears workers machines locks rows back dealt still.count still.same p root (slice_get-get_or machines p empty lt)) in
      let holds : IsSettled root = subst IsSettled (at_place machines p) (settled p) in
      ap (λ (s : ShardState). stable_at s k) (at_place ms p)
      ∙ ap (λ (row : RowState). row.stable) ((law (stable_at root) root (slice_index_or ms p empty) (slice_index_or js p []) holds by.replays).1 k)
      ∙ sym (ap (λ (s : ShardState). stable_at s k) (at_place machines p))
  stable_as p k (inr past) = ap (λ (s : ShardState). stable_at s k) (past_end ms p (omega (arith, as_many, past))) ∙ sym (ap (λ (s : ShardState). stable_at s k) (past_end machines p past))

  pub keep_values : KeepValues machines ms
  keep_values = record { count = as_many; stable = λ p k. stable_as p k (within_or_past p (length machines)) }

-- shards that are settled on the stable values that they had at rest are as they were
pub settled_same : (first last back : List ShardState) → AreSettled first → KeepValues first last → SettleOn stable_at last back → back ≡ first
settled_same first last back settled kept settle = same_lists back first (settle.count ∙ kept.count) (λ k d lt. sym (read back k d lt) ∙ same k ∙ read first k d (let n = settle.count in let m = kept.count in omega (arith, n, m, lt)))
  where
    same : (p : ℕ) → shard_at back p ≡ shard_at first p
    same p = same_keyed (shard_at back p) (shard_at first p) (λ k. settle.each p k ∙ ap (option_map (λ (value : Value). resting (Some value))) (kept.stable p k) ∙ sym (settled p k))

    read : (shards : List ShardState) (p : ℕ) (d : ShardState) → p < length shards → shard_at shards p ≡ slice_index_or shards p d
    read shards p d lt = unwrap_or-slice_get shards p empty ∙ any_default shards p empty d lt

-- ---- tables

abbrev empty_of : CopyState → CopyState
empty_of t = begun t.epoch t.stable

after_put : (s : CopyState) (ask : CopyAsk) (answer : CopyAnswer) → empty_of (puts.left_by answer ask s) ≡ empty_of s
after_put s (Put epoch time write) Applied = refl
after_put s ask (Older time) = refl
after_put s ask (OtherEpoch current) = refl

after_puts : (s : CopyState) (journal : CopyJournal) → empty_of (after puts.after_ask s journal) ≡ empty_of s
after_puts s [] = refl
after_puts s (e ∷ es) = after_puts (puts.after_ask s e.ask) es ∙ after_put s e.ask (puts.answer_in s e.ask)

module _ {workers : ℕ} {tables : List CopyState} {locks : List Lock} {rows back : List (Vec CopyPass)} (dealt : AreDealt workers tables locks rows) (still : AreStill rows back) (some : 0 < workers) {cs : List CopyState} {ks : List CopyJournal}
    (closed : AreBackBy puts.answer_in puts.after_ask back (length tables) cs ks) where
  as_many_tables : length cs ≡ length tables
  as_many_tables = machines_count puts.answer_in puts.after_ask back (length tables) cs ks closed

  pub keep_maps : emptied cs ≡ emptied tables
  keep_maps = same_lists (emptied cs) (emptied tables) (length-map cs empty_of ∙ as_many_tables ∙ sym (length-map tables empty_of)) (λ p d lt. each p d (let n = length-map cs empty_of in omega (arith, n, lt, as_many_tables)))
    where
      each : (p : ℕ) (d : CopyState) → p < length tables → slice_index_or (emptied cs) p d ≡ slice_index_or (emptied tables) p d
      each p d lt =
          let root : CopyState = slice_index_or tables p d in
          let by = closed_by puts.answer_in puts.after_ask back (length tables) cs ks closed p root d lt (let n = dealt.count in let m = still.count in omega (arith, n, m, some)) (bears workers tables locks rows back dealt still.count still.same p root (slice_get-get_or tables p d lt)) in
          get_or-map empty_of cs p d d (omega (arith, as_many_tables, lt)) ∙ ap empty_of by.replays.machine_is ∙ after_puts root (slice_index_or ks p []) ∙ sym (get_or-map empty_of tables p d d lt)

-- tables whose locks closed have nothing but what pends changed
pub emptied_copied : (tables copies : List CopyState) (journals : List CopyJournal) → length copies ≡ length tables
    → ((table : ℕ) → table < length tables → Replays puts.answer_in puts.after_ask (table_at tables table) (slice_index_or journals table []) (table_at copies table)) → emptied copies ≡ emptied tables
emptied_copied tables copies journals count replays = same_lists (emptied copies) (emptied tables) (length-map copies empty_of ∙ count ∙ sym (length-map tables empty_of)) (λ p d lt. each p d (let n = length-map copies empty_of in omega (arith, n, lt, count)))
  where
    each : (p : ℕ) (d : CopyState) → p < length tables → slice_index_or (emptied copies) p d ≡ slice_index_or (emptied tables) p d
    each p d lt = get_or-map empty_of copies p (begun 0 empty) d (omega (arith, count, lt)) ∙ ap empty_of (replays p lt).machine_is ∙ after_puts (table_at tables p) (slice_index_or journals p []) ∙ sym (get_or-map empty_of tables p (begun 0 empty) d lt)

-- ---- nothing was done

pub same_values : (shards : List ShardState) → KeepValues shards shards
same_values shards = record { count = refl; stable = λ p k. refl }

-- the tables, once each has begun the epoch in its place
pub begun_back : (epoch count : ℕ) (tables slice new rest : List CopyState) → count ≡ length tables → slice ≡ tables → new ≡ begun_all epoch slice → take count (new ++ rest) ≡ begun_all epoch tables
begun_back epoch count tables slice new rest many same is =
    written_back count new rest (many ∙ sym (ap length is ∙ length-map slice (λ (t : CopyState). begun epoch t.stable) ∙ ap length same)) ∙ is ∙ ap (begun_all epoch) same

pub emptied_begun : (epoch : ℕ) (tables : List CopyState) → emptied (begun_all epoch tables) ≡ begun_all epoch tables
emptied_begun epoch [] = refl
emptied_begun epoch (t ∷ ts) = ap (λ (us : List CopyState). begun epoch t.stable ∷ us) (emptied_begun epoch ts)
