-- What the run of an epoch leaves in the copies is of its pieces.
use Rattle.std.proofs.Common.{◌≡◌, ℕ, zero, suc, ◌+◌, ◌*◌, ◌<◌, List, [], ◌∷◌, All, Contains, nat_eq, map, length, slice_index_or, fold, IfSome, Option, None, Some, refl, sym, ap, ◌∙◌, subst, arith}
use Rattle.std.specs.List.{slice_get}
use Rattle.std.specs.FinMap.{empty, get}
use Rattle.std.proofs.lemmas.Bool.{eq-eqb}
use Rattle.std.proofs.lemmas.List.Elements.{All-from_get_or}
use Rattle.std.proofs.lemmas.Nat.{div-mul-add}
use Rattle.coco_types.specs.RowKey.{RowKey}
use Rattle.coco_types.specs.declared.call.Done.{Done}
use Rattle.coco_types.specs.declared.call.Piece.{Piece}
use Rattle.coco_types.specs.declared.value.Value.{Value}
use Rattle.coco_ast.specs.Keyed.{Rows}
use Rattle.coco_copy.proofs.Greatest.{same_epoch}
use Rattle.coco_copy.specs.CopyState.{CopyState, begun}
use Rattle.coco_copy.specs.Puts.{after_ask, after_asks}
use Rattle.coco_copy.specs.declared.ops.CopyAnswer.{CopyAnswer}
use Rattle.coco_copy.specs.declared.ops.CopyAsk.{CopyAsk}
use Rattle.coco_copy.specs.declared.ops.CopyAsk.TheVariants.{Put}
use Rattle.coco_tail.specs.Pieces.{pieces_of}
use Rattle.coco_journaled.specs.Passes.{entries_of}
use Rattle.coco_journaled.specs.declared.entry.Entry.{Entry}
use Rattle.coco_order.specs.Execution.{Beginning, InEachExecution}
use Rattle.coco_order.specs.Laws.{WritesAreRuns}
use Rattle.coco_order.specs.OneKey.{Among}
use Rattle.coco_shard.specs.RowState.{ShardState}
use Rattle.coco_ship.specs.Pieces.{IsOf, IsWritten}
use Rattle.coco_ship.specs.Placing.{IsCopy, table_of}
use Rattle.coco_ship.specs.Shipping.{AreBegun}
use Rattle.coco_ship.specs.declared.ring.Ring.{Ring}
use Rattle.coco_worker.proofs.CopyLemmas.{table_within}
use Rattle.coco_worker.specs.Copying.{partition_of_table}
use Rattle.coco_parallel.specs.Ending.{Start}
use Rattle.coco_parallel.specs.Epochs.{beginning_with}
use Rattle.coco_parallel.specs.Traces.{Traced, execution_in}
use Rattle.coco_parallel.specs.Worked.{CopyJournal, begun_all, table_at}
use Rattle.coco_early.specs.Runs.{HasCopied, HasRun, IsRingOf}
use Rattle.coco_early.proofs.Members.{filtered, mapped, none_some, of_map, same_some, to_contains}
use Rattle.coco_early.proofs.PutLemmas.{IsOfPiece, IsPut, pending_was_put, put_is_of_piece}
use Rattle.coco_early.proofs.ShipLemmas.{HasOutcome}

abbrev pub beginning : Start → Beginning
beginning s = beginning_with s.procs s.opening s.requests s.shards s.config

pub has_outcome : (s : Start) (shards : List ShardState) (dones : List Done) (pieces : List Piece) (trace : Traced) → HasRun s shards dones pieces trace → HasOutcome (beginning s) s.config.epoch (execution_in trace) dones pieces
has_outcome s shards dones pieces trace run = record {
  execution = run.trace_is.execution;
  outcome = run.trace_is.outcome;
  distinct = run.distinct;
  pieces_are = run.serial.pieces ∙ ap (λ (n : ℕ). pieces_of s.procs n s.requests s.opening dones) run.count;
}

-- ---- lists and journals

abbrev Logged : Type 0
Logged = Entry CopyAsk CopyAnswer

abbrev asked : Logged → CopyAsk
asked e = e.ask

at_index : {X : Type 0} (xs : List X) (n : ℕ) (x d : X) → slice_get xs n ≡ Some x → slice_index_or xs n d ≡ x
at_index [] n x d is = absurd (none_some is)
at_index (y ∷ xs) zero x d is = same_some is
at_index (y ∷ xs) (suc n) x d is = at_index xs n x d is

of_indexed : {X : Type 0} (P : X → Type 0) (xs : List X) (x : X) → All P xs → Among xs x → P x
of_indexed P xs x all among = let at = to_contains xs x among in subst P at.2 (all at.0 x at.1)

many_begun : (epoch : ℕ) (ts : List CopyState) → length (begun_all epoch ts) ≡ length ts
many_begun epoch [] = refl
many_begun epoch (t ∷ ts) = ap suc (many_begun epoch ts)

begun_at : (epoch : ℕ) (ts : List CopyState) (n : ℕ) (d : CopyState) → n < length ts → (stable : Rows) × (slice_index_or (begun_all epoch ts) n d ≡ begun epoch stable)
begun_at epoch [] n d lt = absurd (omega (arith, lt))
begun_at epoch (t ∷ ts) zero d lt = (t.stable, refl)
begun_at epoch (t ∷ ts) (suc n) d lt = begun_at epoch ts n d (omega (arith, lt))

folded : (t : CopyState) (journal : List Logged) → fold (λ (m : CopyState) (e : Logged). after_ask m e.ask) t journal ≡ after_asks t (map asked journal)
folded t [] = refl
folded t (e ∷ journal) = folded (after_ask t e.ask) journal

-- a row that was put as a piece's write is the piece's
in_piece : (pieces : List Piece) (q p epoch : ℕ) (k : RowKey) (time : ℕ) (value : Option Value) (ask : CopyAsk) → IsPut epoch k time value ask → IsOfPiece pieces epoch q ask → q ≡ p
    → (x : Piece) × IsOf pieces p x × (x.time ≡ time) × Contains x.writes (record { key = k; value = value })
in_piece pieces q p epoch k time value ask put of here =
    let asks : Put epoch time put.w ≡ Put epoch of.time of.w = sym put.ask_is ∙ of.ask_is in
    let times : of.time ≡ time = (let h : time ≡ of.time = cc in sym h) in
    let writes : of.w ≡ put.w = (let h : put.w ≡ of.w = cc in sym h) in
    let row : put.w ≡ record { key = k; value = value } = λ i. record { key = put.key_is i; value = put.value_is i } in (
      of.x,
      record { among = to_contains pieces of.x of.among; partition = of.partition ∙ here },
      of.time_is ∙ times,
      subst (Contains of.x.writes) (writes ∙ row) (to_contains of.x.writes of.w of.in_x),
    )

-- ---- the copies

module _ (runs : InEachExecution WritesAreRuns) (s : Start) (dones : List Done) (pieces : List Piece) (trace : Traced) (has : HasOutcome (beginning s) s.config.epoch (execution_in trace) dones pieces)
    (before after : List CopyState) (journals : List CopyJournal) (copied : HasCopied s before after journals trace) (ring : Ring) (fits : IsRingOf s ring) where
  abbrev journal_at : ℕ → CopyJournal
  journal_at table = slice_index_or journals table []

  -- what a copy's journal made of it
  record IsMade (table : ℕ) : Type 0 where
    pub stable : Rows
    pub is : table_at after table ≡ after_asks (begun s.config.epoch stable) (map asked (journal_at table))

  made : (table : ℕ) → table < length before → IsMade table
  made table lt =
      let first = begun_at s.config.epoch before table (begun 0 empty) lt in
      let replays = copied.replayed.each table (let many : length (begun_all s.config.epoch before) ≡ length before = many_begun s.config.epoch before in omega (arith, lt, many)) in
      record {
        stable = first.0;
        is = replays.machine_is ∙ folded (table_at (begun_all s.config.epoch before) table) (journal_at table) ∙ ap (λ (t : CopyState). after_asks t (map asked (journal_at table))) first.1;
      }

  in_epoch : (table : ℕ) → table < length before → (table_at after table).epoch ≡ s.config.epoch
  in_epoch table lt = let m : IsMade table = made table lt in ap (λ (t : CopyState). t.epoch) m.is ∙ same_epoch (begun s.config.epoch m.stable) (map asked (journal_at table))

  -- an entry of a journal is a write of a piece
  of_entry : (table : ℕ) → table < length before → partition_of_table s.config table < length s.shards → (e : Logged) → Among (journal_at table) e → IsOfPiece pieces s.config.epoch (partition_of_table s.config table) e.ask
  of_entry table lt within e among =
      let pass : e.pass < s.config.workers = of_indexed (λ (d : Logged). d.pass < s.config.workers) (journal_at table) e (copied.commits.no_other table lt) among in
      let puts = copied.commits.puts e.pass pass in
      let count : length trace.transcripts ≡ s.config.workers = has.execution.workers in
      let own : Among (entries_of e.pass (journal_at table)) e = filtered (λ (d : Logged). nat_eq d.pass e.pass) (journal_at table) e among (eq-eqb e.pass e.pass refl) in
      put_is_of_piece runs (beginning s) (execution_in trace) s.config dones pieces has s.carries e.pass (omega (arith, pass, count)) puts.worked puts.each puts.scripts table within e.ask
      (subst (λ (asks : List CopyAsk). Among asks e.ask) (puts.puts table lt) (mapped asked (entries_of e.pass (journal_at table)) e own))

  of_ask : (table : ℕ) → table < length before → partition_of_table s.config table < length s.shards → (ask : CopyAsk) → (e : Logged) × Among (journal_at table) e × (asked e ≡ ask) → IsOfPiece pieces s.config.epoch (partition_of_table s.config table) ask
  of_ask table lt within ask entry = subst (IsOfPiece pieces s.config.epoch (partition_of_table s.config table)) entry.2 (of_entry table lt within entry.0 entry.1)

  written : (table p : ℕ) → table < length before → partition_of_table s.config table ≡ p → p < length s.shards → IsWritten pieces p (table_at after table)
  written table p lt at within k time value pends =
      let m : IsMade table = made table lt in
      let put = pending_was_put (begun s.config.epoch m.stable) (map asked (journal_at table)) k time value refl (ap (λ (t : CopyState). get t.pending k) (sym m.is) ∙ pends) in
      in_piece pieces (partition_of_table s.config table) p s.config.epoch k time value put.0 put.2 (of_ask table lt (omega (arith, at, within)) put.0 (of_map asked (journal_at table) put.0 put.1)) at

  pub are_begun : AreBegun ring s.config.epoch pieces after
  are_begun = record {
    count = count ∙ ap (λ (n : ℕ). n * s.config.copies) (sym fits.partitions) ∙ ap (λ (n : ℕ). ring.partitions * n) (sym fits.copies);
    begun = All-from_get_or (λ (t : CopyState). t.epoch ≡ s.config.epoch) after (begun 0 empty) (λ table lt. in_epoch table (omega (arith, lt, many)));
    written = λ p j is. from p j is (slice_get after (table_of ring p j)) refl;
  }
    where
      many : length after ≡ length before
      many = copied.replayed.count ∙ many_begun s.config.epoch before

      count : length after ≡ length s.shards * s.config.copies
      count = many ∙ copied.tables

      from : (p j : ℕ) → IsCopy ring p j → (o : Option CopyState) → slice_get after (table_of ring p j) ≡ o → IfSome o (IsWritten pieces p)
      from p j is None there = tt
      from p j is (Some t) there =
          let in_shards : p < length s.shards = (let a : p < ring.partitions = is.partition in let c : ring.partitions ≡ length s.shards = fits.partitions in omega (arith, a, c)) in
          let in_copies : j < s.config.copies = (let a : j < ring.copies = is.copy in let c : ring.copies ≡ s.config.copies = fits.copies in omega (arith, a, c)) in
          let lt : table_of ring p j < length before = table_within (length s.shards) s.config.copies ring.copies p j (length before) copied.tables fits.copies in_shards in_copies in
          let at : partition_of_table s.config (table_of ring p j) ≡ p = ap (λ (n : ℕ). partition_of_table s.config (p * n + j)) fits.copies ∙ div-mul-add p s.config.copies j in_copies in
          subst (IsWritten pieces p) (at_index after (table_of ring p j) t (begun 0 empty) there) (written (table_of ring p j) p lt at in_shards)
