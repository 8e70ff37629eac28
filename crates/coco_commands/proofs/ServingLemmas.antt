-- Lemmas of serving that those who call the commands use.
pub use Rattle.coco_cluster.proofs.AroundLemmas.{all_later, all_spare, spare_then}
pub use Rattle.coco_serve.proofs.NumberLemmas.{added_by, none_spare}
pub use Rattle.coco_serve.proofs.RunLemmas.{few_new, joined-more}
pub use Rattle.coco_try.proofs.NumberLemmas.{few_have_numbers}
