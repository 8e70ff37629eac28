use Rattle.std.proofs.Common.{rules, ◌≡◌, List, [], ◌∷◌, ◌++◌, map, All, false, ap, sym, subst, ◌∙◌, append_assoc}
use Rattle.std.proofs.lemmas.List.Elements.{All-cons, All-nil}
use Rattle.coco_seen.proofs.Closing.{stands_first, stands_more, joins_note, nothing_held, holds_of}
use Rattle.coco_seen.proofs.seen.Seen.gather.Goals as goal

-- what holds of all holders holds of the one that was popped
of_one : {A : Type 0} (P : A → Type 0) (all xs : List A) (x : A) (rest : List A) → all ≡ xs ++ x ∷ rest → All P all → P x
of_one P all xs x rest e h = holds_of P xs x rest (subst (All P) e h)

popped : {A : Type 0} (all xs ys : List A) (x : A) (rest : List A) → all ≡ ys ++ rest → ys ≡ xs ++ x ∷ [] → all ≡ xs ++ x ∷ rest
popped all xs ys x rest e f = e ∙ (ap (λ l. l ++ rest) f ∙ append_assoc xs (x ∷ []) rest)

pub loop-holder-init : goal.loop-holder-init
loop-holder-init g c =
    let parts = c.in-Some.ensures.items in
    let lock = of_one (λ h. (g.H.HoldsNote.note h).lock ≡ c.args.self.now.id) c.args.holders.items c.pop.new.self.items c.in-Some.first [] parts c.requires.lock in
    let free = of_one (λ h. (g.H.HoldsNote.note h).holds ≡ false) c.args.holders.items c.pop.new.self.items c.in-Some.first [] parts c.requires.free in
    let into = c.into_seat-seat.ensures in
    record {
      lock = into.lock ∙ (ap (λ n. n.lock) c.into_note.ensures.note ∙ lock);
      gone = c.in-Some.first ∷ [];
      parts = parts;
      stands = stands_first _ _ _ (g.H.HoldsNote.note c.in-Some.first) into.seat (into.known ∙ c.into_note.ensures.note) free;
      facts = All-cons g.H.HoldsNote.fact c.in-Some.first [] c.into_note.ensures.fact (All-nil g.H.HoldsNote.fact);
    }

pub join_seat-requires : goal.join_seat-requires
join_seat-requires g c =
    let i = c.loop-holder.invariant in
    let into = c.into_seat-other.ensures in
    let is = c.into_note-in-Some-pop.ensures.note in
    let parts = popped c.args.holders.items c.pop-in-loop-holder.new.self.items c.loop-holder.holders.items c.in-Some-pop.holder i.gone i.parts c.in-Some-pop.ensures.items in
    let lock = of_one (λ h. (g.H.HoldsNote.note h).lock ≡ c.args.self.now.id) c.args.holders.items c.pop-in-loop-holder.new.self.items c.in-Some-pop.holder i.gone parts c.requires.lock in
    let free = of_one (λ h. (g.H.HoldsNote.note h).holds ≡ false) c.args.holders.items c.pop-in-loop-holder.new.self.items c.in-Some-pop.holder i.gone parts c.requires.free in
    let seat_free = ap (λ n. n.holds) into.known ∙ (ap (λ n. n.holds) is ∙ free) in
    let same = ap (λ s. s.id) c.self.view_is in (
      i.lock ∙ sym same,
      into.lock ∙ (ap (λ n. n.lock) is ∙ (lock ∙ sym same)),
      nothing_held _ c.into_seat-other.result.me into.seat seat_free,
      search rules,
      joins_note g.S.Stores.entries g.S.Stores.comes_from _ _ _ _ c.loop-holder.seat.me.0 c.into_seat-other.result.me (map g.H.HoldsNote.note i.gone) i.stands into.seat seat_free,
    )

pub loop-holder-preserved : goal.loop-holder-preserved
loop-holder-preserved g c =
    let i = c.loop-holder.invariant in
    let into = c.into_seat-other.ensures in
    let is = c.into_note-in-Some-pop.ensures.note in
    let parts = popped c.args.holders.items c.pop-in-loop-holder.new.self.items c.loop-holder.holders.items c.in-Some-pop.holder i.gone i.parts c.in-Some-pop.ensures.items in
    let more = stands_more _ _ c.loop-holder.seat.me.0 c.into_seat-other.result.me (g.H.HoldsNote.note c.in-Some-pop.holder) (map g.H.HoldsNote.note i.gone) i.stands into.seat (into.known ∙ is) in
    record {
      lock = c.join_seat.ensures.0 ∙ i.lock;
      gone = c.in-Some-pop.holder ∷ i.gone;
      parts = parts;
      stands = rw c.join_seat.ensures.2 more;
      facts = All-cons g.H.HoldsNote.fact c.in-Some-pop.holder i.gone c.into_note-in-Some-pop.ensures.fact i.facts;
    }
