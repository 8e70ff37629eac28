use Rattle.std.proofs.Common.{[], ◌∷◌}
use Rattle.coco_log.proofs.Changing.{changes_none}
use Rattle.coco_ckpt.proofs.base.add_entry.Goals as goal

pub returns-then-body-gt-MOST_BYTES-clause-changes : goal.returns-then-body-gt-MOST_BYTES-clause-changes
returns-then-body-gt-MOST_BYTES-clause-changes g c = changes_none g.H.Host g.met.H.Host.only_now (c.args.draft.now.file ∷ []) c.args.host.now
