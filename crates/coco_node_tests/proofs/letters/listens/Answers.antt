use Rattle.std.proofs.Common.{List, Option, subst}
use Rattle.std.specs.Prelude.{IfSome}
use Rattle.std.specs.List.{Contains}
use Rattle.coco_net.specs.declared.letter.Letter.{Letter}
use Rattle.coco_node_tests.proofs.letters.listens.Goals as goal

pub chief_hears-requires-clause-sent : goal.chief_hears-requires-clause-sent
chief_hears-requires-clause-sent g c =
    subst (λ (o : Option Letter). IfSome o (λ l. Contains (g.N.Net.sent c.given.new.net) (record { to = 8; letter = l }))) c.in-Some.is c.in_ok-letter.ensures
