-- Nodes that finish what was committed last, before an epoch is begun.
use Rattle.std.specs.Prelude.{◌≡◌, length}
use Rattle.coco_members.specs.declared.members.Members.{Members}

-- But for cores and tables all stays: the logs, what else is in hand of each node, and how many nodes there are.
pub record KeepsLogs (k after : Members) : Type 0 where
  pub log : after.log ≡ k.log
  pub voters : after.voters ≡ k.voters
  pub cores : length after.cores.items ≡ length k.cores.items
  pub marks : length after.tables.behind.items ≡ length k.tables.behind.items
