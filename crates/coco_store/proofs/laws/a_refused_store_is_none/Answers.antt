use Rattle.coco_store.proofs.Refusing.{one_refusal, refused_is_none}
use Rattle.coco_store.proofs.laws.a_refused_store_is_none.Goals as goal

pub returns : goal.returns
returns c = record { none = refused_is_none; one = one_refusal }
