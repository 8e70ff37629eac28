-- An epoch that all voted for, and the contents on which its commit entry becomes durable.
use Rattle.std.proofs.Common.{ℕ, List, Result, sym, subst}
use Rattle.coco_append.specs.Gaining.{RestsOn}
use Rattle.coco_entry.specs.Commits.{IsCommit}
use Rattle.coco_finish.specs.declared.tables.NodeTables.{NodeTables}
use Rattle.coco_host.specs.declared.host.Host.{Ghosts as HostGhosts}
use Rattle.coco_parallel.specs.Traces.{Traced}
use Rattle.coco_store.specs.Contents.{Contents}
use Rattle.coco_store.specs.Laws.{MayCommit}
use Rattle.coco_types.specs.declared.call.Done.{Done}
use Rattle.coco_types.specs.declared.call.Request.{Request}
use Rattle.coco_cluster.specs.Ending.{Commits}
use Rattle.coco_cluster.specs.Standing.{BelongsTo}
use Rattle.coco_cluster.specs.Trying.{commit_of, MayCommitOn, StaysInPlace}
use Rattle.coco_cluster.specs.declared.cluster.Cluster.{Cluster}
use Rattle.coco_cluster.proofs.AttemptLemmas.{belongs_still}

-- the coordinator commits it on those on which it may be committed
pub commits_so : {T E H : Type 0} (frame : HostGhosts H) (r : Result T E) (requests : List Request) (workers attempts : ℕ) (c : Contents) (first old : Cluster) (dones : List Done) (trace : Traced) (tables : NodeTables) (host host_new : H) → StaysInPlace first old
    → (may : MayCommitOn c requests workers attempts first.next_epoch dones trace tables (frame.reads host) (frame.may_leave host)) → BelongsTo c first
    → ((d : Contents) → RestsOn d (frame.reads host) (frame.may_leave host) → BelongsTo d old → (IsCommit (commit_of old.next_epoch dones) → MayCommit d (commit_of old.next_epoch dones)) → Commits frame r d (commit_of old.next_epoch dones) host host_new)
    → Commits frame r may.d (commit_of first.next_epoch dones) host host_new
commits_so frame r requests workers attempts c first old dones trace tables host host_new stays may belongs files = subst (λ n. Commits frame r may.d (commit_of n dones) host host_new) stays.next
    (files may.d may.rests (belongs_still c may.d first old may.only stays.procs stays.base stays.kept stays.members belongs) (subst (λ n. IsCommit (commit_of n dones) → MayCommit may.d (commit_of n dones)) (sym stays.next) may.commit))
