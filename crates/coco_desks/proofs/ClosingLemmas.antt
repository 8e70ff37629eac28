-- Locks that are closed one after another, each with its passes.
use Rattle.std.proofs.Common.{◌≡◌, ℕ, suc, ◌+◌, ◌++◌, List, [], ◌∷◌, length, vec_len, vec_capacity, refl, sym, ap, ◌∙◌, subst, arith, append_assoc, length-append}
use Rattle.std.specs.Global.{Vec}
use Rattle.std.proofs.lemmas.List.{append-nil}
use Rattle.coco_journaled.specs.Passes.{Passing}
use Rattle.coco_journaled.specs.declared.entry.Entry.{Entry}
use Rattle.coco_seen.specs.Notes.{Lock}
use Rattle.coco_desks.specs.Desks.{HasRoom}
use Rattle.coco_desks.specs.Locking.{AreBack, AreEnded, IsBack, IsEnded}
use Rattle.coco_desks.specs.Rows.{GainsOne}

module _ {M Q A : Type 0} where
  -- the passes of the first lock stand first
  pub first_back : (lock : Lock) (tray : Vec (Passing M Q A)) (locks rest : List Lock) (trays left : List (Vec (Passing M Q A))) → rest ≡ lock ∷ locks → left ≡ tray ∷ trays → AreBack rest left → IsBack lock tray × AreBack locks trays
  first_back lock tray locks rest trays left are there back = subst (λ (ts : List (Vec (Passing M Q A))). AreBack (lock ∷ locks) ts) there (subst (λ (ls : List Lock). AreBack ls left) are back)

  pub as_many_back : (locks : List Lock) (trays : List (Vec (Passing M Q A))) → AreBack locks trays → length locks ≡ length trays
  as_many_back [] [] back = refl
  as_many_back [] (t ∷ ts) back = absurd back
  as_many_back (l ∷ ls) [] back = absurd back
  as_many_back (l ∷ ls) (t ∷ ts) back = ap suc (as_many_back ls ts back.1)

pub nothing : {X : Type 0} (xs : List X) → length xs ≡ 0 → xs ≡ []
nothing [] none = refl
nothing (x ∷ xs) none = absurd (omega (arith, none))

module _ {X : Type 0} where
  pub none_yet : (room : ℕ) (list : Vec X) → HasRoom room list → vec_len list ≡ 0
  none_yet room list has = let n = ap length has.0 in let ok = list.ok in omega (arith, n, ok.0)

  -- an item more is one more in the same room
  pub one_longer : (x : X) (before after : Vec X) → GainsOne x before after → (vec_len after ≡ vec_len before + 1) × (vec_capacity after ≡ vec_capacity before)
  one_longer x before after gains =
      let n = ap length gains.items in
      let more = length-append before.items (x ∷ []) in
      let was = before.ok in
      let is = after.ok in
      (omega (arith, n, more, was.0, is.0), gains.room)

  pub one_fewer : (rest left : List X) (x : X) → rest ≡ x ∷ left → length rest ≡ suc (length left)
  one_fewer rest left x is = ap length is

  -- an item moves from what is left to what was taken
  pub one_moved : (was now rest left all : List X) (x : X) → now ≡ was ++ x ∷ [] → rest ≡ x ∷ left → was ++ rest ≡ all → now ++ left ≡ all
  one_moved was now rest left all x is first same = ap (λ (xs : List X). xs ++ left) is ∙ append_assoc was (x ∷ []) left ∙ ap (λ (ys : List X). was ++ ys) (sym first) ∙ same

  -- what was taken, once nothing is left, is what the locks left, one item, and the rest
  pub all_moved : (taken end with_one closed before firsts rest : List X) (x : X) → end ≡ [] → taken ++ end ≡ with_one ++ rest → with_one ≡ closed ++ x ∷ [] → closed ≡ before ++ firsts → before ≡ [] → taken ≡ firsts ++ x ∷ rest
  all_moved taken end with_one closed before firsts rest x empty all one same none =
      sym (append-nil taken) ∙ ap (λ (ys : List X). taken ++ ys) (sym empty) ∙ all
      ∙ ap (λ (xs : List X). xs ++ rest) (one ∙ ap (λ (xs : List X). xs ++ x ∷ []) (same ∙ ap (λ (xs : List X). xs ++ firsts) none)) ∙ append_assoc firsts (x ∷ []) rest

module _ {M Q A : Type 0} (answer_to : M → Q → A) (state_after : M → Q → M) where
  pub ended_first : (tray : Vec (Passing M Q A)) (trays left : List (Vec (Passing M Q A))) (machine : M) (journal : List (Entry Q A)) (ms ns ms' : List M) (js ks js' : List (List (Entry Q A))) → left ≡ tray ∷ trays
      → IsEnded answer_to state_after tray machine journal → ns ≡ ms ++ machine ∷ [] → ks ≡ js ++ journal ∷ [] → AreEnded answer_to state_after trays ns ks ms' js' → AreEnded answer_to state_after left ms js ms' js'
  ended_first tray trays left machine journal ms ns ms' js ks js' there is machines journals are =
      subst (λ (ts : List (Vec (Passing M Q A))). AreEnded answer_to state_after ts ms js ms' js') (sym there)
      (machine, journal, is, subst (λ (xs : List M). AreEnded answer_to state_after trays xs (js ++ journal ∷ []) ms' js') machines (subst (λ (ys : List (List (Entry Q A))). AreEnded answer_to state_after trays ns ys ms' js') journals are))

  pub ended_none : (left : List (Vec (Passing M Q A))) (ms : List M) (js : List (List (Entry Q A))) → length left ≡ 0 → AreEnded answer_to state_after left ms js ms js
  ended_none left ms js none = subst (λ (ts : List (Vec (Passing M Q A))). AreEnded answer_to state_after ts ms js ms js) (sym (nothing left none)) (refl, refl)
