use Rattle.std.proofs.Common.{ℕ, get_or, sym, subst, ◌≡◌, ◌∙◌}
use Rattle.coco_audit.proofs.DumpLemmas.{none_found, one_found}
use Rattle.coco_audit.proofs.pieces.stable_in.Goals as goal

pub returns-then-is_empty : goal.returns-then-is_empty
returns-then-is_empty c = none_found c.args.shards.now c.args.key (sym c.is_empty.ensures ∙ c.if-is_empty.true)

pub returns : goal.returns
returns c =
    let shards = c.args.shards.now in
    let shard = c.index-shards-partition.result in
    let at = subst (λ (n : ℕ). shard ≡ get_or shards n shard) c.partition.ensures.is c.index-shards-partition.is in
    c.stable.ensures ∙ one_found shards c.args.key shard (sym c.is_empty.ensures ∙ c.if-is_empty.false) at
