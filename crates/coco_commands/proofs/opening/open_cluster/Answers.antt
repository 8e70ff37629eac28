use Rattle.std.proofs.Common.{sym, subst}
use Rattle.coco_load.specs.Epochs.{IsNextOf}
use Rattle.coco_cluster.proofs.OpenLemmas.{all_stand}
use Rattle.coco_commands.proofs.opening.open_cluster.Goals as goal

pub returns-in-Ok-cluster_of-clause-stands : goal.returns-in-Ok-cluster_of-clause-stands
returns-in-Ok-cluster_of-clause-stands g c = λ files d are good. (c.in-Ok.ensures.rests files d are good, c.in-Ok-cluster_of.ensures.stands files d (c.in-Ok.ensures.ok files are) good)

pub returns-in-Ok-cluster_of-clause-holds : goal.returns-in-Ok-cluster_of-clause-holds
returns-in-Ok-cluster_of-clause-holds g c = λ files are. (let opening = c.in-Ok.ensures.ok files are in (opening.contents, opening.holds))

pub returns-in-Ok-cluster_of-clause-next : goal.returns-in-Ok-cluster_of-clause-next
returns-in-Ok-cluster_of-clause-next g c = λ files d are holds. subst (IsNextOf d) (sym c.in-Ok-cluster_of.ensures.next) ((c.in-Ok.ensures.ok files are).has d holds).next

pub returns-in-Ok-cluster_of-clause-logs : goal.returns-in-Ok-cluster_of-clause-logs
returns-in-Ok-cluster_of-clause-logs g c = all_stand c.in-Ok.store c.in-Ok.ensures.sound c.in-Ok-cluster_of.cluster c.in-Ok-cluster_of.ensures.members (g.H.Host.reads c.recover.new.host) (g.H.Host.may_leave c.recover.new.host) c.in-Ok.ensures.stand

pub returns-in-Ok-cluster_of-clause-entries : goal.returns-in-Ok-cluster_of-clause-entries
returns-in-Ok-cluster_of-clause-entries g c = λ files d are holds. c.in-Ok-cluster_of.ensures.entries files d (c.in-Ok.ensures.ok files are) holds
