use Rattle.coco_log.proofs.OnlyRead.{read_first, read_on}
use Rattle.coco_log.proofs.window.Window.reach.Goals as goal

pub returns-in_err-self-clause-read : goal.returns-in_err-self-clause-read
returns-in_err-self-clause-read g c =
    let call = c.read_at.ensures in
    read_on g.H.Host g.met.H.Host.only_now _ _ _ (read_first g.H.Host g.met.H.Host.only_now _) call.same call.said call.crash call.time call.others

pub returns-clause-read : goal.returns-clause-read
returns-clause-read g c =
    let call = c.read_at.ensures in
    read_on g.H.Host g.met.H.Host.only_now _ _ _ (read_first g.H.Host g.met.H.Host.only_now _) call.same call.said call.crash call.time call.others
