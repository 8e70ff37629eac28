use Rattle.coco_log.proofs.OnlyRead.{read_first, read_on}
use Rattle.coco_init.proofs.making.expect_no_store.Goals as goal

pub returns-in-Ok-eq0-clause-read : goal.returns-in-Ok-eq0-clause-read
returns-in-Ok-eq0-clause-read g c =
    read_on g.H.Host g.met.H.Host.only_now _ _ _ (read_first g.H.Host g.met.H.Host.only_now _) c.len.ensures.same c.len.ensures.said c.len.ensures.crash c.len.ensures.time c.len.ensures.others

pub returns-in-Ok-clause-read : goal.returns-in-Ok-clause-read
returns-in-Ok-clause-read g c =
    read_on g.H.Host g.met.H.Host.only_now _ _ _ (read_first g.H.Host g.met.H.Host.only_now _) c.len.ensures.same c.len.ensures.said c.len.ensures.crash c.len.ensures.time c.len.ensures.others

pub returns-in-Err-clause-read : goal.returns-in-Err-clause-read
returns-in-Err-clause-read g c =
    read_on g.H.Host g.met.H.Host.only_now _ _ _ (read_first g.H.Host g.met.H.Host.only_now _) c.len.ensures.same c.len.ensures.said c.len.ensures.crash c.len.ensures.time c.len.ensures.others
