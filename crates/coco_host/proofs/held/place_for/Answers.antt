use Rattle.std.proofs.Common.{refl, sym, ap, subst, length, not, arith}
use Rattle.std.proofs.lemmas.List.Sums.{prefix_len-le-length}
use Rattle.coco_host.specs.Recorded.{Same}
use Rattle.coco_host.proofs.Places.{is_of, same_push}
use Rattle.coco_host.proofs.held.place_for.Goals as goal

pub returns-in_ok-push-clause-same : goal.returns-in_ok-push-clause-same
returns-in_ok-push-clause-same c = subst (Same c.args.files.now.items) (sym c.in_ok-push.ensures.items) (same_push c.args.files.now.items _ c.new.ensures.items refl)

pub returns-else-place-len-clause-within : goal.returns-else-place-len-clause-within
returns-else-place-len-clause-within c =
    let top = prefix_len-le-length (λ x. not (is_of c.args.number x)) c.deref.result.now in
    omega (arith, top, c.place_of-place.ensures, c.if-place-len.false, c.len.ensures, ap length c.deref.ensures.value)
