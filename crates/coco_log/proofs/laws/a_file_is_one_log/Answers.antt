use Rattle.coco_log.proofs.OneLog.{one_log, fits_or_not, one_place}
use Rattle.coco_log.proofs.laws.a_file_is_one_log.Goals as goal

pub returns-clause-one : goal.returns-clause-one
returns-clause-one c = one_log

pub returns-clause-fits : goal.returns-clause-fits
returns-clause-fits c = fits_or_not

pub returns-clause-place : goal.returns-clause-place
returns-clause-place c = one_place
