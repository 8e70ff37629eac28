use denote.RattleType.{RattleType}
use denote.Param.Send.{IsSync, part_keyless}
use Rattle.coco_eval.specs.contracts.noted.Noted.{the_row}
use Rattle.coco_eval.proofs.noted.Noted.TheSendSync.Send.{send}

pub sync : (V : RattleType) → IsSync (the_row V)
sync V = record { shared = λ d b o κ q. part_keyless (the_row V) (send V) q d b o }
