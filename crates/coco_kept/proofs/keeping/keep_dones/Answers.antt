use Rattle.coco_kept.proofs.Adding.{hold_in_room, may_in_room}
use Rattle.coco_kept.proofs.keeping.keep_dones.Goals as goal

pub add_dones-requires-clause-follow : goal.add_dones-requires-clause-follow
add_dones-requires-clause-follow c = may_in_room c.args.kept.now c.make_room.new.kept _ c.args.dones c.make_room.ensures.same c.requires

pub returns-clause-kept : goal.returns-clause-kept
returns-clause-kept c before added holds rising = c.add_dones.ensures.kept before added (hold_in_room c.args.kept.now c.make_room.new.kept _ before added c.make_room.ensures.same holds) rising
