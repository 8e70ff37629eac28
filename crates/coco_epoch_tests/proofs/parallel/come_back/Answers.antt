use Rattle.std.proofs.Common.{◌≡◌, List, [], ◌∷◌, All, length, refl, sym, ap, ◌∙◌, subst, arith}
use Rattle.std.specs.Global.{Vec}
use Rattle.std.proofs.lemmas.List.Elements.{All-map}
use Rattle.coco_desks.specs.Locking.{AreBack, AreStarted, IsBack, IsStarted}
use Rattle.coco_journaled.specs.Passes.{Passing, new_pass}
use Rattle.coco_seen.specs.Notes.{Lock}
use Rattle.coco_seen.specs.Rules.{numbers}
use Rattle.coco_epoch_tests.proofs.StartedLemmas.{as_many_locks}
use Rattle.coco_epoch_tests.proofs.parallel.come_back.Goals as goal

module _ {M Q A : Type 0} where
  -- a lock of three passes that were handed back as they came
  one_back : (machine : M) (lock : Lock) (tray : Vec (Passing M Q A)) → IsStarted 3 machine lock tray → IsBack lock tray
  one_back machine lock tray is = record {
    locks = subst (All (λ (p : Passing M Q A). p.lock ≡ lock.id)) (sym is.passes) (All-map (λ (p : Passing M Q A). p.lock ≡ lock.id) (new_pass lock.id machine) (numbers 0 3) (λ k d lt. refl));
    all = tray.ok.0 ∙ ap length is.passes ∙ sym is.notes;
  }

  all_back : (machines : List M) (locks : List Lock) (trays : List (Vec (Passing M Q A))) → AreStarted 3 machines locks trays → AreBack locks trays
  all_back [] [] [] are = tt
  all_back [] [] (t ∷ ts) are = absurd are
  all_back [] (l ∷ ls) ts are = absurd are
  all_back (m ∷ ms) [] ts are = absurd are
  all_back (m ∷ ms) (l ∷ ls) [] are = absurd are
  all_back (m ∷ ms) (l ∷ ls) (t ∷ ts) are = (one_back m l t are.0, all_back ms ls ts are.1)

pub close_all-requires-clause-back : goal.close_all-requires-clause-back
close_all-requires-clause-back c = all_back _ c.in-Ok.started.locks.items c.in-Ok.started.trays.items c.in-Ok.ensures.started

pub close_all-requires-clause-machines : goal.close_all-requires-clause-machines
close_all-requires-clause-machines c =
    let room = c.in_ok-ended.ensures.machines in
    let none = c.in_ok-ended.ended.machines.ok.0 ∙ ap length room.0 in
    let two = c.in-Ok.started.locks.ok.0 ∙ as_many_locks 3 c.args.shards.items _ c.in-Ok.started.trays.items c.in-Ok.ensures.started ∙ sym c.args.shards.ok.0 ∙ c.requires in
    omega (arith, none, two, room.1)

pub close_all-requires-clause-journals : goal.close_all-requires-clause-journals
close_all-requires-clause-journals c =
    let room = c.in_ok-ended.ensures.journals in
    let none = c.in_ok-ended.ended.journals.ok.0 ∙ ap length room.0 in
    let two = c.in-Ok.started.locks.ok.0 ∙ as_many_locks 3 c.args.shards.items _ c.in-Ok.started.trays.items c.in-Ok.ensures.started ∙ sym c.args.shards.ok.0 ∙ c.requires in
    omega (arith, none, two, room.1)
