use Rattle.std.proofs.Common.{◌≡◌, ◌+◌, List, ◌∷◌, Some, cond, drop, sym, ap, ◌∙◌, arith}
use Rattle.std.specs.BTreeMap.{is_at}
use Rattle.std.specs.Map.{lookup}
use Rattle.std.specs.Option.{option_or}
use Rattle.std.proofs.lemmas.List.{drop_more}
use Rattle.coco_types.specs.RowKey.{RowKey, key_cmp}
use Rattle.coco_types.specs.declared.call.Write.{Write}
use Rattle.coco_append.specs.LastWrites.{last_value}
use Rattle.coco_append.specs.Stamps.{stamp_at}
use Rattle.coco_append.specs.declared.rows.Stamp.{Stamp as Kept}
use Rattle.coco_append.proofs.LastWriteLemmas.{stamped, write_kept}
use Rattle.coco_append.proofs.rows.keep_last.Goals as goal

pub loop-write-preserved : goal.loop-write-preserved
loop-write-preserved c k =
    let w : Write = c.write-item.result in
    let next : drop c.loop-write.write-index c.args.writes.now ≡ w ∷ drop (c.loop-write.write-index + 1) c.args.writes.now =
    drop_more c.args.writes.now c.loop-write.write-index w (omega arith) ∙ ap (λ (x : Write). x ∷ drop (c.loop-write.write-index + 1) c.args.writes.now) (sym c.write-item.is) in
    let es : List (RowKey × Kept) = c.loop-write.last.entries in
    let kept : Kept = record { time = c.args.time; value = c.in_ok-value.value } in
    write_kept k c.args.time w _ (drop (c.loop-write.write-index + 1) c.args.writes.now) es c.insert.new.self.entries (c.in_ok-value.ensures ∙ c.value.ensures)
    (c.in_ok-insert.ensures.updates.0 k ∙ ap (λ (q : RowKey). cond (is_at (key_cmp q) k) (Some kept) (lookup (is_at (key_cmp k)) es)) c.key.ensures)
    ∙ ap (λ (ws : List Write). option_or (stamped c.args.time (last_value k ws)) (stamp_at k c.loop-write.last.entries)) (sym next)
    ∙ c.loop-write.invariant k
