use Rattle.std.proofs.Common.{◌≡◌, ℕ, List, Contains, ap, sym, subst, ◌∙◌}
use Rattle.coco_host.specs.FileCalls.{FolderState, IsPlaceOf}
use Rattle.coco_host.specs.declared.opened.FileCall.{FileCall}
use Rattle.coco_host.specs.declared.opened.FileCall.TheVariants.{Entered}
use Rattle.coco_host.specs.declared.opened.Opened.{Opened}
use Rattle.coco_host.proofs.Entering.{entered_set, last_call}
use Rattle.coco_host.proofs.files.Folder.sync.Goals as goal

pub invariant_of-self-then-not-index-2 : goal.invariant_of-self-then-not-index-2
invariant_of-self-then-not-index-2 c =
    let n = c.args.number in
    let now = c.self-then-not-index.inside in
    let found = (rw c.in-Some.is at c.in_ok-place.ensures).0 in
    let files : now.files.items ≡ c.find.new.self.files =
    ap (λ (s : FolderState). s.files) c.self-then-not-index.view_is ∙ c.in_ok-enter.ensures.files ∙ ap (λ (s : FolderState). s.files) c.self.view_is in
    let calls = ap (λ (s : FolderState). s.calls) c.self-then-not-index.view_is ∙ c.in_ok-enter.ensures.noted in
    let there : Contains now.calls.items (Entered n) = subst (λ (l : List FileCall). Contains l (Entered n)) (sym calls) (last_call _ (Entered n)) in
    let number : c.index_mut.result.now.number ≡ n =
    ap (λ (f : Opened). f.number) c.index_mut.ensures.value ∙ (subst (IsPlaceOf n c.in-Some.place) (sym files) found).1 c.index_mut.result.now in
    entered_set now.calls.items now.files.items c.in-Some.place _ (subst (λ (m : ℕ). Contains now.calls.items (Entered m)) (sym number) there) c.self-then-not-index.invariant
