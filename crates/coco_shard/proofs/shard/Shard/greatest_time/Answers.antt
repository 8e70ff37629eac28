use Rattle.std.proofs.Common.{ℕ, ap, ◌∙◌, sym, subst, vec_capacity}
use Rattle.coco_shard.specs.RowState.{ShardState, IsGreatestTime}
use Rattle.coco_shard.specs.Kept.{most_rts, view_of}
use Rattle.coco_shard.proofs.ValueLemmas.{most_is_greatest}
use Rattle.coco_shard.proofs.shard.Shard.greatest_time.Goals as goal

pub returns : goal.returns
returns c =
    let es = c.self.inside.rows.entries in
    let Time : ℕ → Type 0 = λ time. IsGreatestTime (view_of es) time in
    subst (λ (s : ShardState). IsGreatestTime s c.greatest.result) c.self.view_is
    (subst Time (sym (c.greatest.ensures ∙ ap (most_rts es) c.deref.ensures.value)) (most_is_greatest es c.self.inside.touched.items (vec_capacity c.self.inside.touched) c.self.invariant))
