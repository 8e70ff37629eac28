use Rattle.std.proofs.Common.{◌≡◌, List, ap, ◌∙◌, subst, sym, IfSome, ℕ, Some, None, Option, false}
use Rattle.std.specs.BTreeMap.{BTreeMap, get}
use Rattle.std.specs.Cmp.Lexicographic.{slice_cmp}
use Rattle.std.specs.Ordering.{nat_cmp}
use Rattle.coco_ast.specs.Numbering.{IsIndexOf, IsNamed, IsNumberOf}
use Rattle.coco_ast.specs.Tree.{Procedures}
use Rattle.coco_ast.specs.Words.{is_word}
use Rattle.coco_ast.specs.declared.tree.Proc.{Proc}
use Rattle.coco_ast.proofs.Accepted.{number_found, number_only, number_of_no_word}
use Rattle.coco_ast.proofs.checked.Checked.proc_no.Goals as goal

-- the index has the number of the name
looked_up : (ps : List Proc) (numbers : BTreeMap (List ℕ) ℕ) (x y : List ℕ) (r : Option ℕ) → IsIndexOf ps numbers → r ≡ get (slice_cmp nat_cmp) numbers y → y ≡ x → IsNumberOf ps x r
looked_up ps numbers x y r index read same = subst (IsNumberOf ps x) (sym (read ∙ ap (get (slice_cmp nat_cmp) numbers) same)) (index.numbered x)

pub returns-in-None-clause-only : goal.returns-in-None-clause-only
returns-in-None-clause-only c =
    let other : is_word c.args.name.now ≡ false = ap is_word (sym c.as_bytes.ensures.value) ∙ c.in-None.ensures in
    subst (λ (u : Procedures). (n : ℕ) → IsNamed u n c.args.name.now → None ≡ Some n) c.self.view_is
    (number_only c.self.inside.procs c.args.name.now c.self.invariant.0 None (number_of_no_word c.self.inside.procs.procs c.args.name.now c.self.invariant.1.words other))

pub returns-in-Some-clause-found : goal.returns-in-Some-clause-found
returns-in-Some-clause-found c =
    subst (λ (u : Procedures). IfSome c.copied.result (λ n. IsNamed u n c.args.name.now)) c.self.view_is (number_found c.self.inside.procs c.args.name.now c.copied.result (looked_up c.self.inside.procs.procs c.self.inside.numbers c.args.name.now c.in-Some.name c.copied.result c.self.invariant.1 (c.copied.ensures ∙ c.get.ensures.value) (c.in-Some.ensures ∙ c.as_bytes.ensures.value)))

pub returns-in-Some-clause-only : goal.returns-in-Some-clause-only
returns-in-Some-clause-only c =
    subst (λ (u : Procedures). (n : ℕ) → IsNamed u n c.args.name.now → c.copied.result ≡ Some n) c.self.view_is
    (number_only c.self.inside.procs c.args.name.now c.self.invariant.0 c.copied.result (looked_up c.self.inside.procs.procs c.self.inside.numbers c.args.name.now c.in-Some.name c.copied.result c.self.invariant.1 (c.copied.ensures ∙ c.get.ensures.value) (c.in-Some.ensures ∙ c.as_bytes.ensures.value)))
