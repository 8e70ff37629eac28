-- What a run of an epoch leaves in the tables.
use Rattle.std.proofs.Common.{◌≡◌, ◌≢◌, ℕ, zero, suc, ◌%◌, ◌<◌, Bool, true, false, cond, nat_eq, List, [], ◌∷◌, length, Option, None, Some, IsSome, refl, sym, ap, ◌∙◌, subst}
use Rattle.std.specs.FinMap.{get, empty}
use Rattle.std.specs.Option.{option_map, option_or, unwrap_or}
use Rattle.std.proofs.lemmas.Bool.{eqb-true, eq-eqb}
use Rattle.std.proofs.lemmas.Option.{unwrap_or-slice_get}
use Rattle.coco_types.specs.RowKey.{RowKey}
use Rattle.coco_types.specs.declared.call.Done.{Done}
use Rattle.coco_types.specs.declared.call.Piece.{Piece}
use Rattle.coco_types.specs.declared.call.Request.{Request}
use Rattle.coco_types.specs.declared.call.Write.{Write}
use Rattle.coco_types.specs.declared.value.Value.{Value}
use Rattle.coco_types.proofs.Keys.{is_key, one_key}
use Rattle.coco_ast.specs.History.{rows_after}
use Rattle.coco_ast.specs.Keyed.{Rows, on_partition, value_at}
use Rattle.coco_ast.specs.Meaning.{run}
use Rattle.coco_ast.specs.Tree.{Procedures}
use Rattle.coco_ast.proofs.KeyedLemmas.{value_on_partition}
use Rattle.coco_copy.specs.CopyState.{CopyState, promoted_at}
use Rattle.coco_tail.specs.Pieces.{pieces_of, place_of}
use Rattle.coco_tail.specs.Shards.{AreOfPartitions, row_in}
use Rattle.coco_tail.specs.Shards as epochs
use Rattle.coco_load.specs.Tables.{copy_at, shard_at}
use Rattle.coco_pieces.specs.Pieces.{piece_of, pieces_from, request_pieces, writes_on}
use Rattle.coco_append.specs.LastWrites.{Stamp, held_pieces, holds, last_stamp, last_value}
use Rattle.coco_append.proofs.LastWriteLemmas.{last_append, or_none, stamp_append, value_after}
use Rattle.coco_shard.specs.RowState.{RowState, ShardState, resting, row_at}
use Rattle.coco_standing.specs.Laws.{PendingKeeps, PendingStands}
use Rattle.coco_standing.specs.Standing.{ShardHas}

two_sides : true ≡ false → ⊥
two_sides h = cc

-- ---- shards

-- two names for one shard
pub same_shard : (shards : List ShardState) (p : ℕ) → epochs.shard_at shards p ≡ shard_at shards p
same_shard shards p = unwrap_or-slice_get shards p empty

no_row : (o : Option RowState) → (IsSome o → ⊥) → o ≡ None
no_row None absent = refl
no_row (Some r) absent = absurd (absent refl)

-- shards that have a map together in one of their versions have each its partition of it
module _ (version : RowState → Option Value) (bare : version (resting None) ≡ None) (m : Rows) (shards : List ShardState) (of : AreOfPartitions shards) (values : (k : RowKey) → version (row_in shards k) ≡ value_at m k) where
  module _ (p : ℕ) (k : RowKey) where
    here : k.row % length shards ≡ p → version (row_at (epochs.shard_at shards p) k) ≡ value_at m k
    here e = ap (λ (q : ℕ). version (row_at (epochs.shard_at shards q) k)) (sym e) ∙ values k

    elsewhere : (k.row % length shards ≡ p → ⊥) → version (row_at (epochs.shard_at shards p) k) ≡ None
    elsewhere away = ap (λ (o : Option RowState). version (unwrap_or o (resting None))) (no_row (get (epochs.shard_at shards p) k) (λ some. away (of p k some))) ∙ bare

    value_here : version (row_at (epochs.shard_at shards p) k) ≡ value_at (on_partition (length shards) p m) k
    value_here =
        elim (nat_eq (k.row % length shards) p) as (λ b. nat_eq (k.row % length shards) p ≡ b → version (row_at (epochs.shard_at shards p) k) ≡ cond b (value_at m k) None) [
          | true ↦ λ t. here (eqb-true (k.row % length shards) p t)
          | false ↦ λ f. elsewhere (λ e. two_sides (sym (eq-eqb (k.row % length shards) p e) ∙ f))
        ] refl
        ∙ sym (value_on_partition (length shards) p m k)

  pub shard_has : (count p : ℕ) → length shards ≡ count → ShardHas (λ s k. version (row_at s k)) count p (on_partition count p m) (shard_at shards p)
  shard_has count p is =
      subst (λ (n : ℕ). ShardHas (λ s k. version (row_at s k)) n p (on_partition n p m) (shard_at shards p)) is
      (subst (ShardHas (λ s k. version (row_at s k)) (length shards) p (on_partition (length shards) p m)) (same_shard shards p) (record { values = value_here p; partition = of p }))

-- ---- copies

-- a key's partition alone is held
only : ℕ → List Bool
only zero = true ∷ []
only (suc p) = false ∷ only p

only_itself : (p : ℕ) → holds (only p) p ≡ true
unfolding only
only_itself zero = refl
only_itself (suc p) = only_itself p

module _ (count : ℕ) (k : RowKey) where
  abbrev home : ℕ
  home = k.row % count

  -- what is written in another partition is of other keys
  no_write : (q : ℕ) → q ≢ home → (ws : List Write) → last_value k (writes_on count q ws) ≡ None
  no_write q away [] = refl
  no_write q away (w ∷ ws) = elim (nat_eq (w.key.row % count) q) as (λ b. nat_eq (w.key.row % count) q ≡ b → last_value k (cond b (w ∷ writes_on count q ws) (writes_on count q ws)) ≡ None) [
    | true ↦ λ t. ap (λ b. option_or (last_value k (writes_on count q ws)) (cond b (Some w.value) None)) (other (eqb-true (w.key.row % count) q t)) ∙ or_none (last_value k (writes_on count q ws)) ∙ no_write q away ws
    | false ↦ λ _. no_write q away ws
  ] refl
    where
      other : w.key.row % count ≡ q → is_key k w.key ≡ false
      other at = elim (is_key k w.key) as (λ b. is_key k w.key ≡ b → b ≡ false) [
        | true ↦ λ t. absurd (away (sym at ∙ ap (λ (z : RowKey). z.row % count) (sym (one_key k w.key t))))
        | false ↦ λ _. refl
      ] refl

  -- where the key's partition is held, its last write is among the pieces that are
  module _ (held : List Bool) (is : holds held home ≡ true) where
    one_held : (place time q : ℕ) (ws : List Write) → (q ≢ home → last_value k ws ≡ None) → last_stamp k (held_pieces held (piece_of place time q ws)) ≡ last_stamp k (piece_of place time q ws)
    one_held place time q [] none = refl
    one_held place time q (w ∷ ws) none =
        let piece : List Piece = record { place = place; partition = q; time = time; writes = w ∷ ws } ∷ [] in
        elim (holds held q) as (λ b. holds held q ≡ b → last_stamp k (cond b piece []) ≡ last_stamp k piece) [
          | true ↦ λ _. refl
          | false ↦ λ f. sym (ap (option_map (λ (v : Option Value). (time, v))) (none (λ e. two_sides (sym is ∙ ap (holds held) (sym e) ∙ f))))
        ] refl

    all_from : (place time : ℕ) (ws : List Write) (q n : ℕ) → last_stamp k (held_pieces held (pieces_from count place time ws q n)) ≡ last_stamp k (pieces_from count place time ws q n)
    all_from place time ws q zero = refl
    all_from place time ws q (suc n) =
        let one : List Piece = piece_of place time q (writes_on count q ws) in
        let more : List Piece = pieces_from count place time ws (suc q) n in
        stamp_append count k held one more
        ∙ ap (λ o. option_or o (last_stamp k (held_pieces held one))) (all_from place time ws (suc q) n)
        ∙ ap (option_or (last_stamp k more)) (one_held place time q (writes_on count q ws) (λ away. no_write q away ws))
        ∙ sym (last_append count k one more)

    all_held : (ps : Procedures) (requests : List Request) (m : Rows) (dones : List Done) → last_stamp k (held_pieces held (pieces_of ps count requests m dones)) ≡ last_stamp k (pieces_of ps count requests m dones)
    all_held ps requests m [] = refl
    all_held ps requests m (d ∷ ds) =
        let parts : List Piece = request_pieces count (place_of requests d.id) d.time (run ps d.call m).writes in
        let rest : List Piece = pieces_of ps count requests (run ps d.call m).rows ds in
        stamp_append count k held parts rest
        ∙ ap (λ o. option_or o (last_stamp k (held_pieces held parts))) (all_held ps requests (run ps d.call m).rows ds)
        ∙ ap (option_or (last_stamp k rest)) (all_from (place_of requests d.id) d.time (run ps d.call m).writes 0 count)
        ∙ sym (last_append count k parts rest)

abbrev value_in : Option Stamp → Option (Option Value)
value_in = option_map (λ s. s.1)

-- to promote a copy with the last writes leaves the map after them
copy_ends : (ps : Procedures) (count p : ℕ) (requests : List Request) (m : Rows) (dones : List Done) (s : CopyState) → 0 < count → s.stable ≡ on_partition count p m
    → ((k : RowKey) → k.row % count ≡ p → get s.pending k ≡ last_stamp k (pieces_of ps count requests m dones)) → ((k : RowKey) → k.row % count ≢ p → get s.pending k ≡ None)
    → (k : RowKey) → promoted_at s k ≡ value_at (on_partition count p (rows_after ps m dones)) k
copy_ends ps count p requests m dones s some stable last elsewhere k =
    ap (unwrap_or (value_in (get s.pending k))) (ap (λ (n : Rows). value_at n k) stable ∙ value_on_partition count p m k)
    ∙ elim (nat_eq (k.row % count) p) as (λ b. nat_eq (k.row % count) p ≡ b → unwrap_or (value_in (get s.pending k)) (cond b (value_at m k) None) ≡ cond b (value_at (rows_after ps m dones) k) None) [
      | true ↦ λ t. (let held : List Bool = only (k.row % count) in let is : holds held (k.row % count) ≡ true = only_itself (k.row % count) in
          ap (λ (o : Option Stamp). unwrap_or (value_in o) (value_at m k)) (last k (eqb-true (k.row % count) p t) ∙ sym (all_held count k held is ps requests m dones))
          ∙ sym (value_after count k held some is ps requests m dones))
      | false ↦ λ f. ap (λ (o : Option Stamp). unwrap_or (value_in o) None) (elsewhere k (λ e. two_sides (sym (eq-eqb (k.row % count) p e) ∙ f)))
    ] refl
    ∙ sym (value_on_partition count p (rows_after ps m dones) k)

-- ---- all tables

pub pending_stands : PendingStands
pending_stands layout ps requests epoch m shards copies dones parts counted serial pend = record {
  counted = counted;
  nodes = λ n below. record {
    primaries = λ p within here. shard_has (λ r. r.newest) refl (rows_after ps m dones) shards serial.partitions serial.newest layout.partitions p counted.shard_count;
    others = λ p j within from to here. copy_ends ps layout.partitions p requests m dones (copy_at layout copies p j) counted.ring.some (pend.stable p j within from to)
        (λ k on. pend.last p j within from to k on ∙ ap (last_stamp k) (serial.pieces ∙ ap (λ (n : ℕ). pieces_of ps n requests m dones) counted.shard_count)) (pend.elsewhere p j within from to);
  };
}

pub pending_keeps : PendingKeeps
pending_keeps layout ps requests epoch m shards copies dones parts counted serial pend = record {
  counted = counted;
  primaries = λ p within. shard_has (λ r. r.stable) refl m shards serial.partitions serial.stable layout.partitions p counted.shard_count;
  others = pend.stable;
}
