use Rattle.std.proofs.Common.{◌≡◌, true, false, not, sym, ap, ◌∙◌, arith}
use Rattle.std.proofs.lemmas.Bool.Decides.{nat_tests}
use Rattle.coco_rules.proofs.ReadyingLemmas.{prepared_all}
use Rattle.coco_rules.proofs.prepared.NodeRules.have_prepared.Goals as goal

pub returns-then-not-self : goal.returns-then-not-self
returns-then-not-self c = λ s committed before behind.
    let both = prepared_all s before committed c.args.self.now behind in
    (λ none. both.0 c.if-not-self.true (grind (arith, nat_tests, none, c.is_empty.ensures)), λ have. let none = (both.1 have).1 in grind (arith, nat_tests, none, c.is_empty.ensures))

pub returns-else-not-self : goal.returns-else-not-self
returns-else-not-self c = λ s committed before behind.
    let both = prepared_all s before committed c.args.self.now behind in
    (λ full. absurd (let w : true ≡ false = sym full ∙ ap not c.if-not-self.false in cc), λ have. ap not (both.1 have).0)
