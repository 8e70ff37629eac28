-- What the parts of the phase leave in which nodes finish a committed epoch.
use Rattle.std.specs.Prelude.{◌≡◌, ℕ, ◌<◌, ◌≤◌, List, length}
use Rattle.coco_ast.specs.Keyed.{Rows}
use Rattle.coco_chief.specs.Chief.{Chief}
use Rattle.coco_letters.specs.Telling.{Adds, IsOfFinish}
use Rattle.coco_letters.specs.Worlds.{GoesOn}
use Rattle.coco_net.specs.declared.net.Net.{Ghosts as NetGhosts}
use Rattle.coco_node.specs.Node.{Node}
use Rattle.coco_finish.specs.declared.tables.NodeTables.{NodeTables}
use Rattle.coco_finish.specs.Exchanges.{AreInStep, HearsGiven}
use Rattle.coco_finish.specs.Finishing.{AllCanFinish, AreBehind, AreTold, AreWhole, Finish, HaveMap}

-- nodes and tables with which a committed epoch can be finished
pub record MayFinish (epoch : ℕ) (cores : List Node) (tables : NodeTables) : Type 0 where
  pub few : length cores ≤ 8
  pub some : 0 < epoch
  pub whole : AreWhole tables
  pub behind : length tables.behind.items ≡ length cores
  pub can : AllCanFinish epoch cores

-- whatever was answered, tables have the maps that they had, and are as many
pub record KeepTables (old new : NodeTables) : Type 0 where
  pub whole : AreWhole new
  pub map : (m : Rows) → HaveMap m old → HaveMap m new
  pub behind : length new.behind.items ≡ length old.behind.items

-- Nodes took letters: those that were told have finished. A node that is still behind has heard nothing, and said nothing.
pub record HaveTaken {N : Type 0} (nets : NetGhosts N) (epoch : ℕ) (cores cores_new : List Node) (tables tables_new : NodeTables) (net net_new : N) : Type 0 where
  pub finish : Finish epoch cores cores_new tables tables_new
  pub can : AllCanFinish epoch cores_new
  pub are_behind : AreBehind epoch cores tables.behind.items → AreBehind epoch cores_new tables_new.behind.items
  pub told : AreBehind epoch cores tables.behind.items → AreTold epoch (nets.sent net) tables.behind.items → AreTold epoch (nets.sent net_new) tables_new.behind.items
  pub said : Adds (IsOfFinish epoch) (nets.sent net) (nets.sent net_new)
  pub world : (chief : Chief) → GoesOn (record { cores = cores; chief = chief; sent = nets.sent net }) (record { cores = cores_new; chief = chief; sent = nets.sent net_new })

-- Nodes that were told have finished, and the coordinator heard what they said of it; all are in step where they were, and no letter
-- of another phase was sent.
pub record HasFinished {N : Type 0} (nets : NetGhosts N) (epoch : ℕ) (cores cores_new : List Node) (chief chief_new : Chief) (tables tables_new : NodeTables) (net net_new : N) : Type 0 where
  pub finish : Finish epoch cores cores_new tables tables_new
  pub can : AllCanFinish epoch cores_new
  pub in_step : AreInStep epoch cores chief (nets.sent net) tables.behind.items → AreInStep epoch cores_new chief_new (nets.sent net_new) tables_new.behind.items
  pub hears : HearsGiven chief (nets.given net) chief_new (nets.given net_new)
  pub said : Adds (IsOfFinish epoch) (nets.sent net) (nets.sent net_new)
  pub world : GoesOn (record { cores = cores; chief = chief; sent = nets.sent net }) (record { cores = cores_new; chief = chief_new; sent = nets.sent net_new })
