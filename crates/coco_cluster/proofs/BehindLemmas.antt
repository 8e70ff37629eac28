-- Epochs behind all that stand in the files.
use Rattle.std.proofs.Common.{ℕ, ◌+◌, ◌<◌, ◌≤◌, [], ◌∷◌, arith}
use Rattle.coco_ast.proofs.Lists.{all_append, all_weaker}
use Rattle.coco_entry.specs.declared.commit.Commit.{Commit}
use Rattle.coco_entry.specs.declared.prepared.Prepared.{Prepared}
use Rattle.coco_store.specs.Contents.{Contents}
use Rattle.coco_store.specs.Laws.{with_commit}
use Rattle.coco_cluster.specs.Standing.{IsBehindAll}

pub behind_later : (c : Contents) (epoch later : ℕ) → epoch ≤ later → IsBehindAll c epoch → IsBehindAll c later
behind_later c epoch later le behind = record {
  base = (let b = behind.base in omega (arith, b, le));
  commits = all_weaker (λ (x : Commit). x.epoch < epoch) (λ (x : Commit). x.epoch < later) (λ x less. omega (arith, less, le)) c.commits behind.commits;
  prepared = λ n node. all_weaker (λ (x : Prepared). x.epoch < epoch) (λ (x : Prepared). x.epoch < later) (λ x less. omega (arith, less, le)) (c.prepared n) (behind.prepared n node);
}

-- with an epoch's commit entry
pub behind_commit : (c : Contents) (commit : Commit) → IsBehindAll c (commit.epoch + 1) → IsBehindAll (with_commit commit c) (commit.epoch + 1)
behind_commit c commit behind = record {
  base = behind.base;
  commits = all_append (λ (x : Commit). x.epoch < commit.epoch + 1) c.commits (commit ∷ []) behind.commits (omega arith, tt);
  prepared = behind.prepared;
}
