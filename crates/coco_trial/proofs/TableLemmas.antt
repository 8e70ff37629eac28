-- What an epoch's run, and its shipping, leave in the tables of all nodes.
use Rattle.std.proofs.Common.{◌≡◌, ℕ, zero, suc, ◌+◌, ◌-◌, ◌*◌, ◌<◌, ◌≤◌, Bool, List, [], ◌∷◌, map, length, slice_index_or, fold, IfSome, nat_eq, refl, sym, ap, subst, ◌∙◌, arith}
use Rattle.std.specs.List.{slice_get, IsDistinct}
use Rattle.std.specs.FinMap.{empty}
use Rattle.coco_types.specs.declared.call.Done.{Done}
use Rattle.coco_types.specs.declared.call.Piece.{Piece}
use Rattle.coco_types.specs.declared.call.Request.{Request}
use Rattle.coco_ast.specs.History.{rows_after}
use Rattle.coco_ast.specs.Keyed.{Rows, on_partition}
use Rattle.coco_ast.specs.Tree.{Procedures}
use Rattle.coco_copy.proofs.Greatest.{same_stable}
use Rattle.coco_copy.specs.CopyState.{CopyState, begun}
use Rattle.coco_copy.specs.Puts.{after_ask, after_asks}
use Rattle.coco_copy.specs.declared.ops.CopyAnswer.{CopyAnswer}
use Rattle.coco_copy.specs.declared.ops.CopyAsk.{CopyAsk}
use Rattle.coco_early.specs.Laws.{OfEachRun, PendingIsLast, PendsLast}
use Rattle.coco_early.specs.Runs.{HasCopied, HasRun}
use Rattle.coco_entry.specs.declared.layout.Layout.{Layout}
use Rattle.coco_tail.specs.SerialEpoch.{IsSerialEpoch}
use Rattle.coco_finish.specs.declared.tables.NodeTables.{NodeTables}
use Rattle.coco_journaled.specs.declared.entry.Entry.{Entry}
use Rattle.coco_load.specs.Tables.{copy_at}
use Rattle.coco_members.specs.AtRest.{primaries_of}
use Rattle.coco_net.specs.Mail.{letters_to}
use Rattle.coco_net.specs.declared.letter.Letter.{Letter}
use Rattle.coco_net.specs.declared.letter.Posted.{Posted}
use Rattle.coco_parallel.specs.Ending.{Start}
use Rattle.coco_parallel.specs.Epochs.{beginning_with}
use Rattle.coco_parallel.specs.Traces.{Traced}
use Rattle.coco_parallel.specs.Worked.{CopyJournal, begun_all, table_at}
use Rattle.coco_shard.specs.RowState.{ShardState}
use Rattle.coco_ship.specs.Letters.{Gains}
use Rattle.coco_ship.specs.Pieces.{HasPieces}
use Rattle.coco_ship.specs.Placing.{holder_of, table_of, IsCopy}
use Rattle.coco_ship.specs.Shipping.{AreWhole, GainOnly}
use Rattle.coco_standing.proofs.Pending.{shard_has}
use Rattle.coco_standing.specs.Laws.{AtRestShards, PendingStands}
use Rattle.coco_standing.specs.Standing.{AreCounted, TablesKeep, TablesStand, all_behind}
use Rattle.coco_work.specs.Working.{HasWorked, IsRingOn, MayWork}
use Rattle.coco_worker.proofs.CopyLemmas.{table_within}
use Rattle.coco_worker.specs.declared.slot.EpochConfig.{EpochConfig}
use Rattle.coco_trial.specs.Running.{MayTry, ring_of, start_on}

-- ---- before the run

pub may_work : (procs : Procedures) (requests : List Request) (config : EpochConfig) (t : NodeTables) → AtRestShards → MayTry procs requests config t → MayWork procs requests config t.shards.items
may_work procs requests config t law may =
    let stand = may.stands.1 in
    let count : length t.shards.items ≡ t.layout.partitions = stand.counted.shard_count in
    record {
      some = omega (arith, count, stand.counted.ring.some);
      most = omega (arith, count, may.partitions);
      holds = (may.stands.0, law (primaries_of t.layout) may.stands.0 t.shards.items [] stand);
      fit = may.fit;
      few = may.few;
      distinct = may.distinct;
      workers = may.workers;
      attempts = may.attempts;
      nodes = omega (arith, stand.counted.ring.around, may.nodes);
    }

pub as_many : (procs : Procedures) (requests : List Request) (config : EpochConfig) (t : NodeTables) → MayTry procs requests config t → length t.copies.items ≡ length t.shards.items * config.copies
as_many procs requests config t may =
    let counted = may.whole in
    counted.copy_count ∙ ap (λ (n : ℕ). n * t.layout.copies) (sym counted.shard_count) ∙ ap (λ (n : ℕ). length t.shards.items * n) (sym may.copies)

pub ring_is : (procs : Procedures) (requests : List Request) (config : EpochConfig) (t : NodeTables) → MayTry procs requests config t → IsRingOn (length t.shards.items) config.copies (ring_of t.layout)
ring_is procs requests config t may = record { partitions_are = sym may.whole.shard_count; copies_are = sym may.copies }

-- ---- places of copies

-- that of copy j among all, where copies are counted from 1
same_place : (q j : ℕ) → 1 ≤ j → q + (j - 1) ≡ q + j - 1
same_place q j from = omega (arith, from)

less_one : (j n : ℕ) → 1 ≤ j → j ≤ n → j - 1 < n
less_one j n from to = omega (arith, from, to)

copy_within : (layout : Layout) (p j len : ℕ) → len ≡ layout.partitions * layout.copies → p < layout.partitions → 1 ≤ j → j ≤ layout.copies → p * layout.copies + j - 1 < len
copy_within layout p j len many within from to =
    subst (λ (n : ℕ). n < len) (same_place (p * layout.copies) j from) (table_within layout.partitions layout.copies layout.copies p (j - 1) len many refl within (less_one j layout.copies from to))

some_at : {X : Type 0} (P : X → Type 0) (xs : List X) (n : ℕ) (d : X) → n < length xs → IfSome (slice_get xs n) P → P (slice_index_or xs n d)
some_at P [] n d lt is = absurd (omega (arith, lt))
some_at P (x ∷ xs) zero d lt is = is
some_at P (x ∷ xs) (suc n) d lt is = some_at P xs n d (omega (arith, lt)) is

-- what holds of the copy at a place of the ring holds of it
at_copy : (P : CopyState → Type 0) (layout : Layout) (copies : List CopyState) (p j : ℕ) → length copies ≡ layout.partitions * layout.copies → p < layout.partitions → 1 ≤ j → j ≤ layout.copies
    → IfSome (slice_get copies (table_of (ring_of layout) p (j - 1))) P → P (copy_at layout copies p j)
at_copy P layout copies p j many within from to is =
    some_at P copies (p * layout.copies + j - 1) (begun 0 empty) (copy_within layout p j (length copies) many within from to)
    (subst (λ (n : ℕ). IfSome (slice_get copies n) P) (same_place (p * layout.copies) j from) is)

is_copy : (layout : Layout) (p j : ℕ) → p < layout.partitions → 1 ≤ j → j ≤ layout.copies → IsCopy (ring_of layout) p (j - 1)
is_copy layout p j within from to = record { partition = within; copy = less_one j layout.copies from to }

-- ---- behind the run

pub has_run : (procs : Procedures) (requests : List Request) (config : EpochConfig) (t : NodeTables) (carries : ℕ → ℕ → ℕ → ℕ → Bool) (m : Rows) (after : List ShardState) (dones : List Done) (pieces : List Piece) (trace : Traced)
    → IsDistinct nat_eq (map (λ (r : Request). r.id) requests) → length after ≡ length t.shards.items → HasWorked (beginning_with procs m requests t.shards.items config) config.epoch after dones pieces trace
    → HasRun (start_on procs m requests t config carries) after dones pieces trace
has_run procs requests config t carries m after dones pieces trace distinct count worked = record { distinct = distinct; count = count; serial = worked.serial; trace_is = worked.traced }

-- as many copies, each with the stable rows of before
pub record SameStable (old new : List CopyState) : Type 0 where
  pub many : length new ≡ length old
  pub each : (n : ℕ) → n < length old → (table_at new n).stable ≡ (table_at old n).stable

module _ (layout : Layout) (m : Rows) (before after : List ShardState) (old new : List CopyState) (was : TablesKeep layout m before old) (count : length after ≡ length before) (same : SameStable old new) where
  counted : AreCounted layout after new
  counted = record { ring = was.counted.ring; shard_count = count ∙ was.counted.shard_count; copy_count = same.many ∙ was.counted.copy_count }

  others : (p j : ℕ) → p < layout.partitions → 1 ≤ j → j ≤ layout.copies → (copy_at layout new p j).stable ≡ on_partition layout.partitions p m
  others p j within from to = same.each (p * layout.copies + j - 1) (copy_within layout p j (length old) was.counted.copy_count within from to) ∙ was.others p j within from to

  -- so to revert the tables gives the map, behind a run from it, and where the shards are as before
  pub keeps_run : (ps : Procedures) (requests : List Request) (epoch : ℕ) (dones : List Done) (pieces : List Piece) → IsSerialEpoch ps requests epoch m after dones pieces → TablesKeep layout m after new
  keeps_run ps requests epoch dones pieces serial = record {
    counted = counted;
    primaries = λ p within. shard_has (λ r. r.stable) refl m after serial.partitions serial.stable layout.partitions p (count ∙ was.counted.shard_count);
    others = others;
  }

  pub keeps_same : after ≡ before → TablesKeep layout m after new
  keeps_same is = subst (λ (shards : List ShardState). TablesKeep layout m shards new) (sym is) (record {
    counted = record { ring = was.counted.ring; shard_count = was.counted.shard_count; copy_count = same.many ∙ was.counted.copy_count };
    primaries = was.primaries;
    others = others;
  })

-- ---- copies that began the epoch, and took what came early

many_begun : (epoch : ℕ) (ts : List CopyState) → length (begun_all epoch ts) ≡ length ts
many_begun epoch [] = refl
many_begun epoch (t ∷ ts) = ap suc (many_begun epoch ts)

stable_begun : (epoch : ℕ) (ts : List CopyState) (n : ℕ) → n < length ts → (table_at (begun_all epoch ts) n).stable ≡ (table_at ts n).stable
stable_begun epoch [] n lt = absurd (omega (arith, lt))
stable_begun epoch (t ∷ ts) zero lt = refl
stable_begun epoch (t ∷ ts) (suc n) lt = stable_begun epoch ts n (omega (arith, lt))

pub begun_so : (epoch : ℕ) (ts after : List CopyState) → after ≡ begun_all epoch ts → SameStable ts after
begun_so epoch ts after is = subst (λ (us : List CopyState). SameStable ts us) (sym is) (record { many = many_begun epoch ts; each = stable_begun epoch ts })

abbrev Logged : Type 0
Logged = Entry CopyAsk CopyAnswer

folded : (t : CopyState) (journal : CopyJournal) → fold (λ (c : CopyState) (e : Logged). after_ask c e.ask) t journal ≡ after_asks t (map (λ (e : Logged). e.ask) journal)
folded t [] = refl
folded t (e ∷ journal) = folded (after_ask t e.ask) journal

pub same_copied : (s : Start) (before after : List CopyState) (journals : List CopyJournal) (trace : Traced) → HasCopied s before after journals trace → SameStable before after
same_copied s before after journals trace copied = record {
  many = copied.replayed.count ∙ many_begun s.config.epoch before;
  each = λ n lt. stays n lt;
}
  where
    stays : (n : ℕ) → n < length before → (table_at after n).stable ≡ (table_at before n).stable
    stays n lt =
        let begins : CopyState = table_at (begun_all s.config.epoch before) n in
        let made = (copied.replayed.each n (let many : length (begun_all s.config.epoch before) ≡ length before = many_begun s.config.epoch before in omega (arith, lt, many))).machine_is in
        ap (λ (t : CopyState). t.stable) (made ∙ folded begins (slice_index_or journals n [])) ∙ same_stable begins (map (λ (e : Logged). e.ask) (slice_index_or journals n [])) ∙ stable_begun s.config.epoch before n lt

-- ---- copies that were shipped to

module _ (layout : Layout) (epoch : ℕ) (given : List Posted) (m : Rows) (shards : List ShardState) (old new : List CopyState) (gains : GainOnly (ring_of layout) epoch given old new) (many : length new ≡ length old) (keep : TablesKeep layout m shards old) where
  count : length new ≡ layout.partitions * layout.copies
  count = many ∙ keep.counted.copy_count

  abbrev letters_at : ℕ → ℕ → List Letter
  letters_at p j = letters_to (holder_of (ring_of layout) p (j - 1)) given

  gained : (p j : ℕ) → p < layout.partitions → 1 ≤ j → j ≤ layout.copies → Gains epoch p (letters_at p j) (copy_at layout old p j) (copy_at layout new p j)
  gained p j within from to =
      at_copy (λ (t : CopyState). Gains epoch p (letters_at p j) (copy_at layout old p j) t) layout new p j count within from to
      (at_copy (λ (before : CopyState). IfSome (slice_get new (table_of (ring_of layout) p (j - 1))) (λ t. Gains epoch p (letters_at p j) before t)) layout old p j keep.counted.copy_count within from to
      (gains p (j - 1) (is_copy layout p j within from to)))

  -- what is gained pends, so to revert the tables gives the map still
  pub keeps_shipped : TablesKeep layout m shards new
  keeps_shipped = record {
    counted = record { ring = keep.counted.ring; shard_count = keep.counted.shard_count; copy_count = count };
    primaries = keep.primaries;
    others = λ p j within from to. (gained p j within from to).stable_stays ∙ keep.others p j within from to;
  }

  -- Where each copy has its pieces, to promote the tables gives the map behind the epoch.
  pub gives_shipped : OfEachRun PendingIsLast → PendingStands → (s : Start) (dones : List Done) (pieces : List Piece) (trace : Traced) → s.config.epoch ≡ epoch → s.opening ≡ m → HasRun s shards dones pieces trace
      → AreWhole (ring_of layout) epoch pieces new → TablesStand layout (rows_after s.procs m dones) all_behind shards new
  gives_shipped last stands s dones pieces trace number opening run whole =
      stands layout s.procs s.requests s.config.epoch m shards new dones pieces keeps_shipped.counted (subst (λ (rows : Rows). IsSerialEpoch s.procs s.requests s.config.epoch rows shards dones pieces) opening run.serial) (record {
        stable = keeps_shipped.others;
        last = λ p j within from to k on. (pends p j within from to).last k on;
        elsewhere = λ p j within from to k off. (pends p j within from to).elsewhere k off;
      })
    where
      parts : length s.shards ≡ layout.partitions
      parts = sym run.count ∙ keep.counted.shard_count

      has : (p j : ℕ) → p < layout.partitions → 1 ≤ j → j ≤ layout.copies → HasPieces epoch pieces p (copy_at layout new p j)
      has p j within from to = at_copy (λ (t : CopyState). HasPieces epoch pieces p t) layout new p j count within from to (whole p (j - 1) (is_copy layout p j within from to))

      pends : (p j : ℕ) → p < layout.partitions → 1 ≤ j → j ≤ layout.copies → PendsLast layout.partitions pieces p (copy_at layout new p j)
      pends p j within from to =
          subst (λ (n : ℕ). PendsLast n pieces p (copy_at layout new p j)) parts
          (last s shards dones pieces trace run p (copy_at layout new p j) (subst (λ (e : ℕ). HasPieces e pieces p (copy_at layout new p j)) (sym number) (has p j within from to)))
