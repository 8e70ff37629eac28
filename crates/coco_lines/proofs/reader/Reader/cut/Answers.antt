use Rattle.std.proofs.Common.{◌+◌, ◌++◌, ◌∷◌, ◌∙◌, ap, sym, take, drop, length, subst}
use Rattle.std.proofs.Math.Seq.{drop-length}
use Rattle.coco_lines.specs.Reads.{HasNoFeed}
use Rattle.coco_lines.specs.Gathering.{Extends}
use Rattle.coco_lines.proofs.CutLemmas.{no_feed_before, no_feed, cut_at_feed}
use Rattle.coco_lines.proofs.reader.Reader.cut.Goals as goal

pub returns-in_ok-longer-in-Some-clause-ok : goal.returns-in_ok-longer-in-Some-clause-ok
returns-in_ok-longer-in-Some-clause-ok c =
    let r = c.as_slice-held.result.now in
    let at = c.in-Some.at in
    let left = ap (λ xs. drop (at + 1) xs) c.as_slice-held.ensures ∙ sym c.skip.ensures in
    let whole = sym (ap (λ s. s.pending) c.self.view_is) ∙ sym c.as_slice-held.ensures ∙ cut_at_feed r at c.in-Some.ensures ∙ ap (λ ys. take at r ++ 10 ∷ ys) left in
    (take at r, whole, no_feed_before r at c.in-Some.ensures, c.in_ok-longer-in-Some.ensures)

pub returns-in_ok-longer-in-None-clause-ok : goal.returns-in_ok-longer-in-None-clause-ok
returns-in_ok-longer-in-None-clause-ok c =
    let r = c.as_slice-held.result.now in
    let same = c.as_slice-held.ensures ∙ ap (λ s. s.pending) c.self.view_is in
    let all = c.skip-in-None.ensures ∙ ap (λ xs. drop (length r) xs) (sym c.as_slice-held.ensures) ∙ drop-length r in
    let extends : Extends c.args.body c.in_ok-longer-in-None.longer r = c.in_ok-longer-in-None.ensures in
    (all, subst HasNoFeed same (no_feed r c.in-None.ensures), subst (λ xs. Extends c.args.body c.in_ok-longer-in-None.longer xs) same extends)
