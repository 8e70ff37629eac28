use Rattle.std.proofs.Common.{◌≡◌, ◌<◌, ℕ, false, Some}
use Rattle.std.specs.List.{slice_get}
use Rattle.coco_host.specs.Files.{Files}
use Rattle.coco_letters.specs.declared.voter.Voter.{Voter}
use Rattle.coco_log.specs.LogState.{IsOnlyRead}
use Rattle.coco_recover.specs.Lost.{AreKnown}
use Rattle.coco_store.specs.Contents.{Contents, IsGoodStore}
use Rattle.coco_lost.specs.Reading.{AllStand, AreOf, ReadsLost}
use Rattle.coco_lost.proofs.reading.read_each.Given as goal

-- the first nodes have their tables
abbrev pub invariant-loop-node : goal.invariant-loop-node
invariant-loop-node g l = record {
  reads : ReadsLost l.initial.voters l.initial.tables l.voters l.tables;
  none : (n : ℕ) (voter : Voter) → n < l.node → slice_get l.voters n ≡ Some voter → voter.is_lost ≡ false;
  files : (files : Files) (c : Contents) → g.H.Host.reads l.initial.host ≡ Some files → IsGoodStore files c → AreKnown c l.initial.tables.layout l.procs l.epochs l.base
      → AreOf c l.initial.voters l.initial.tables → AreOf c l.voters l.tables;
  stand : AllStand l.initial.voters (g.H.Host.reads l.initial.host) (g.H.Host.may_leave l.initial.host) → AllStand l.voters (g.H.Host.reads l.host) (g.H.Host.may_leave l.host);
  read : IsOnlyRead g.H.Host l.initial.host l.host;
  counts : g.H.Host.disk_faults l.host ≡ g.H.Host.disk_faults l.initial.host;
}
