use Rattle.std.proofs.Common.{◌≡◌, ◌+◌, List, ◌∷◌, None, drop, sym, ap, subst, ◌∙◌, arith}
use Rattle.std.specs.Option.{option_or}
use Rattle.std.proofs.lemmas.List.{drop_all, drop_more}
use Rattle.coco_types.specs.RowKey.{RowKey}
use Rattle.coco_types.specs.declared.call.Piece.{Piece}
use Rattle.coco_bytes.specs.Lists.{FitInTurn}
use Rattle.coco_entry.specs.Rows.{RowRises}
use Rattle.coco_append.specs.LastWrites.{AreLastWrites, held_pieces, last_stamp, row_stamp}
use Rattle.coco_append.specs.Stamps.{stamp_at}
use Rattle.coco_append.specs.declared.rows.Stamp.{Stamp as Kept}
use Rattle.coco_append.proofs.LastWriteLemmas.{entries_rise, entries_stamps, ok_both, or_none, piece_kept}
use Rattle.coco_append.proofs.rows.prepared_rows.Goals as goal

pub loop-piece-init : goal.loop-piece-init
loop-piece-init c k = ap (λ (es : List (RowKey × Kept)). option_or (last_stamp k (held_pieces c.args.held.now c.args.pieces.now)) (stamp_at k es)) c.new-last.ensures.empty ∙ or_none (last_stamp k (held_pieces c.args.held.now c.args.pieces.now))

pub loop-piece-preserved : goal.loop-piece-preserved
loop-piece-preserved c k =
    let p : Piece = c.piece-item.result in
    let next : drop c.loop-piece.piece-index c.args.pieces.now ≡ p ∷ drop (c.loop-piece.piece-index + 1) c.args.pieces.now =
    drop_more c.args.pieces.now c.loop-piece.piece-index p (omega arith) ∙ ap (λ (x : Piece). x ∷ drop (c.loop-piece.piece-index + 1) c.args.pieces.now) (sym c.piece-item.is) in
    piece_kept k c.args.held.now p (drop (c.loop-piece.piece-index + 1) c.args.pieces.now) (stamp_at k c.loop-piece.last.entries) (stamp_at k c.keep_piece.new.last.entries) (c.in_ok-keep_piece.ensures k)
    ∙ ap (λ (ps : List Piece). option_or (last_stamp k (held_pieces c.args.held.now ps)) (stamp_at k c.loop-piece.last.entries)) (sym next)
    ∙ c.loop-piece.invariant k

pub returns-clause-rows : goal.returns-clause-rows
returns-clause-rows c = ok_both c.rows_of.result _ (λ rows. AreLastWrites c.args.held.now c.args.pieces.now rows.items) _ (λ rows are rising.
    record {
      rising = subst (FitInTurn RowRises None) (sym are) (entries_rise c.loop-piece.last.entries rising);
      each = λ k. ap (row_stamp k) are ∙ entries_stamps k c.loop-piece.last.entries rising ∙ done k;
    }) c.rows_of.ensures.rows c.rows_of.ensures.rising
  where
    done : (k : RowKey) → stamp_at k c.loop-piece.last.entries ≡ last_stamp k (held_pieces c.args.held.now c.args.pieces.now)
    done k = sym (ap (λ (ps : List Piece). option_or (last_stamp k (held_pieces c.args.held.now ps)) (stamp_at k c.loop-piece.last.entries)) (drop_all c.loop-piece.piece-index c.args.pieces.now c.loop-piece-test.false)) ∙ c.loop-piece.invariant k
