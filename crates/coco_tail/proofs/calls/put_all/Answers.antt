use Rattle.std.proofs.Common.{◌≡◌, ◌+◌, ◌<◌, List, ◌∷◌, drop, length, refl, sym, ap, subst, ◌∙◌, arith}
use Rattle.std.proofs.lemmas.List.{drop_more}
use Rattle.coco_types.specs.declared.call.Write.{Write}
use Rattle.coco_ast.specs.Keyed.{put_over, write_at}
use Rattle.coco_shard.specs.RowState.{RowState, ShardState}
use Rattle.coco_shard.specs.Table.{installed}
use Rattle.coco_tail.specs.Shards.{AreQuietAfter, HaveNewest, KeepStable, row_in}
use Rattle.coco_tail.proofs.ShardLemmas.{at_most_itself, keeps_on, kept_set, newest_set, quiet_set}
use Rattle.coco_tail.proofs.calls.put_all.Goals as goal

pub loop-write-preserved : goal.loop-write-preserved
loop-write-preserved c =
    let before = c.loop-write.invariant in
    let w : Write = c.write-item.result in
    let row : RowState = installed c.args.time w.value (row_in c.loop-write.shards w.key) in
    let some : 0 < length c.loop-write.shards = omega (arith, c.requires.some, c.loop-write.invariant.kept.count) in
    let put = c.in_ok-put_key.ensures.ok in
    let next : drop c.loop-write.write-index c.args.writes.now ≡ w ∷ drop (c.loop-write.write-index + 1) c.args.writes.now =
    drop_more c.args.writes.now c.loop-write.write-index w (omega arith) ∙ ap (λ (x : Write). x ∷ drop (c.loop-write.write-index + 1) c.args.writes.now) (sym c.write-item.is) in
    record {
      newest = λ m newest.
          let old = before.newest m newest in (
            write_at old.0 w.key w.value,
            subst (λ (z : List ShardState). HaveNewest (write_at old.0 w.key w.value) z) (sym put) (newest_set c.loop-write.shards w.key row some old.0 old.1),
            ap (put_over old.0) (sym next) ∙ old.2,
          );
      quiet = subst (AreQuietAfter c.args.time) (sym put) (quiet_set c.loop-write.shards w.key row some c.args.time refl (at_most_itself c.args.time) before.quiet);
      kept = keeps_on c.args.shards.now c.loop-write.shards c.put_key.new.shards before.kept
          (subst (KeepStable c.loop-write.shards) (sym put) (kept_set c.loop-write.shards w.key row some refl before.kept.partitions));
    }
