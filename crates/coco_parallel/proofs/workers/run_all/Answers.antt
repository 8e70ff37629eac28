use denote.Exit.{no}
use denote.Param.Send.{AllSync, sendable, param_sync, arg_sync}
use denote.Struct.Declared.{shape}
use denote.Struct.Tuple.{type_at}
use mir.Syntax.{named}
use Rattle.std.proofs.Crossing.{crosses}
use Rattle.coco_claim.proofs.claims.Claims.TheSendSync.{the_sync as claims_sync}
use Rattle.coco_copy.proofs.ops.CopyAnswer.TheSendSync.{the_send as copy_answer_send}
use Rattle.coco_copy.proofs.packed.PackedPut.TheSendSync.{the_send as packed_put_send}
use Rattle.coco_copy.proofs.table.CopyTable.TheSendSync.{the_send as copy_table_send}
use Rattle.coco_journaled.proofs.journaled.Journaled.TheSendSync.{the_sync as journaled_sync}
use Rattle.coco_shard.proofs.packed.PackedAnswer.TheSendSync.{the_send as packed_answer_send}
use Rattle.coco_shard.proofs.packed.PackedAsk.TheSendSync.{the_send as packed_ask_send}
use Rattle.coco_shard.proofs.shard.Shard.TheSendSync.{the_send as shard_send}
use Rattle.coco_types.proofs.call.Request.TheSendSync.{the_sync as request_sync}
use Rattle.coco_worker.proofs.slot.EpochConfig.TheSendSync.{the_sync as config_sync}
use Rattle.coco_parallel.proofs.Sharing.{checked_sync, tuple_sync}
use Rattle.coco_parallel.proofs.workers.run_all.Goals as goal
use Rattle.coco_parallel.proofs.workers.run_all.Lts as lts

-- The closure is the tuple of what it lends, from the runtime to the net; each of these may be shared.
pub for_each_mut-requires-sync-F : goal.for_each_mut-requires-sync-F
for_each_mut-requires-sync-F g c κs within =
    let lent = lts.of-6 g.row.R g.row.G g.row.N g.R.laws g.G.laws g.N.laws g.R.Threads-dict g.R.Wait-dict g.G.Gate-dict g.N.Net-dict
    (record { mir = named 6; lft = κs.1.1.1.1.1.1.0 }) (record { mir = named 7; lft = κs.1.1.1.1.1.1.1.0 })
    (record { mir = named 8; lft = κs.1.1.1.1.1.1.1.1.0 }) (record { mir = named 9; lft = κs.1.1.1.1.1.1.1.1.1.0 })
    (record { mir = named 10; lft = κs.1.1.1.1.1.1.1.1.1.1.0 }) (record { mir = named 11; lft = κs.1.1.1.1.1.1.1.1.1.1.1.0 })
    (record { mir = named 12; lft = κs.1.1.1.1.1.1.1.1.1.1.1.1.0 }) (record { mir = named 13; lft = κs.1.1.1.1.1.1.1.1.1.1.1.1.1.0 })
    (record { mir = named 14; lft = κs.1.1.1.1.1.1.1.1.1.1.1.1.1.1.0 }) (record { mir = named 15; lft = κs.1.1.1.1.1.1.1.1.1.1.1.1.1.1.1.0 }) in
    let name = lts.name-15 g.row.R g.row.G g.row.N g.R.laws g.G.laws g.N.laws g.R.Threads-dict g.R.Wait-dict g.G.Gate-dict g.N.Net-dict in
    let all : AllSync (shape (type_at name lent)).fields = (
      search (sendable, c.type_bounds.sync-R) depth 20,
      (
        search (sendable, crosses) depth 20,
        (
          search (sendable, journaled_sync, crosses, packed_answer_send, packed_ask_send, shard_send) depth 40 fits 4000,
          (
            search (sendable, journaled_sync, crosses, copy_answer_send, packed_put_send, copy_table_send) depth 40 fits 4000,
            (
              search (sendable, claims_sync) depth 20,
              (
                search (sendable, checked_sync) depth 20,
                (
                  search (sendable, request_sync) depth 20,
                  (
                    search (sendable, config_sync) depth 20,
                    (
                      search (sendable, c.type_bounds.sync-G) depth 20,
                      (
                        search (sendable, c.type_bounds.sync-N) depth 20,
                        tt,
                      ),
                    ),
                  ),
                ),
              ),
            ),
          ),
        ),
      ),
    ) in
    param_sync 2 (lts.arg-1-2 g.row.R g.row.G g.row.N g.R.laws g.G.laws g.N.laws g.R.Threads-dict g.R.Wait-dict g.G.Gate-dict g.N.Net-dict κs)
    (arg_sync _ no _ (tuple_sync name lent all))
