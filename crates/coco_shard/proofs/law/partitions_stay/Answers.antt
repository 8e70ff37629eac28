use Rattle.coco_shard.proofs.Partitions.{none_of, asked_of, put_of, loaded_of, promoted_of, reverted_of}
use Rattle.coco_shard.proofs.law.partitions_stay.Goals as goal

pub returns-clause-none : goal.returns-clause-none
returns-clause-none c = none_of

pub returns-clause-asked : goal.returns-clause-asked
returns-clause-asked c = asked_of

pub returns-clause-put : goal.returns-clause-put
returns-clause-put c = put_of

pub returns-clause-loaded : goal.returns-clause-loaded
returns-clause-loaded c = loaded_of

pub returns-clause-promoted : goal.returns-clause-promoted
returns-clause-promoted c = promoted_of

pub returns-clause-reverted : goal.returns-clause-reverted
returns-clause-reverted c = reverted_of
