use Rattle.std.proofs.Common.{◌≡◌, ◌∙◌, ◌++◌, ◌∷◌, [], List, suc, refl, ap, append_assoc, arith, subst, sym}
use Rattle.coco_net.specs.declared.letter.Posted.{Posted}
use Rattle.coco_ship.specs.Letters.{AreInside}
use Rattle.coco_ship.proofs.mail.send_all.Goals as goal

rest_inside : (s : Posted) (rest : List Posted) → AreInside (s ∷ rest) → AreInside rest
rest_inside s rest all k d h = all (suc k) d (omega (arith, h))

pub loop-posted-preserved : goal.loop-posted-preserved
loop-posted-preserved g c =
    let s = c.in-Some.posted in
    let rest = c.pop_front.new.self.items in
    let before = c.loop-posted.invariant in
    let items : c.loop-posted.letters.items ≡ s ∷ rest = rw (c.pop_front.ensures.items, c.in-Some.is) refl in
    let sent : g.N.Net.sent c.send.new.self ≡ g.N.Net.sent c.loop-posted.net ++ s ∷ [] = rw (c.in_ok-send.ensures.ok, c.into_vec.ensures) refl in
    let fresh : g.N.Net.fresh c.send.new.self ≡ g.N.Net.fresh c.loop-posted.net ++ s ∷ [] = rw (c.in_ok-send.ensures.fresh, c.into_vec.ensures) refl in
    record {
      inside = rest_inside s rest (subst AreInside items before.inside);
      some = (before.some.0 ++ s ∷ [], rw (sent, before.some.1, append_assoc) refl, append_assoc before.some.0 (s ∷ []) rest ∙ ap (λ ps. before.some.0 ++ ps) (sym items) ∙ before.some.2);
      given = c.send.ensures.given ∙ before.given;
      fresh = ap (λ ps. ps ++ rest) fresh ∙ append_assoc (g.N.Net.fresh c.loop-posted.net) (s ∷ []) rest ∙ ap (λ ps. g.N.Net.fresh c.loop-posted.net ++ ps) (sym items) ∙ before.fresh;
      faults = c.send.ensures.faults ∙ before.faults;
      seed = c.send.ensures.seed ∙ before.seed;
    }
