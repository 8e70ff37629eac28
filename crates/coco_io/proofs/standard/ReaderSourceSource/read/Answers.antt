use Rattle.coco_io.proofs.KnownLemmas.{Consumes-known, Keeps-known}
use Rattle.coco_io.proofs.standard.ReaderSourceSource.read.Goals as goal

pub returns-in-Some-clause-bytes : goal.returns-in-Some-clause-bytes
returns-in-Some-clause-bytes g c = Consumes-known _ _ _ (g.met.R.SteadyRead.steady _ _) c.in-Some.ensures.bytes

pub returns-in-None-clause-err : goal.returns-in-None-clause-err
returns-in-None-clause-err g c = Keeps-known _ _ (g.met.R.SteadyRead.steady _ _) c.in-None.ensures.none
