use Rattle.std.proofs.Common.{◌≡◌, [], map, drop}
use Rattle.coco_check.specs.Search.{with_names}
use Rattle.coco_check.proofs.checker.names_of.Given as goal

-- what is left to add comes to what all names come to
abbrev pub invariant-loop-proc : goal.invariant-loop-proc
invariant-loop-proc l = with_names l.names.keys (map (λ p. p.name) (drop l.proc-index l.procs)) ≡ with_names [] (map (λ p. p.name) l.procs)
