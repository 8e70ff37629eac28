-- Puts of a piece's writes, one after another.
use Rattle.std.proofs.Common.{◌≡◌, ℕ, ◌+◌, ◌<◌, ◌≤◌, ◌&&◌, nat_le, Bool, true, false, cond, List, [], ◌∷◌, ◌++◌, length, take, get_or, Option, None, Some, refl, sym, ap, ◌∙◌, subst, arith, inl, inr, ◌⊎◌}
use Rattle.std.specs.List.{Contains}
use Rattle.std.specs.FinMap.{get, insert}
use Rattle.std.proofs.lemmas.Bool.{eq-eqb, leb-true, le-leb, leb-false, and_from}
use Rattle.std.proofs.lemmas.List.{take_more}
use Rattle.std.proofs.lemmas.List.Elements.{Contains-append_left, Contains-append_right}
use Rattle.std.proofs.lemmas.List.Folds.{list_all-append}
use Rattle.coco_types.specs.RowKey.{RowKey}
use Rattle.coco_types.specs.declared.value.Value.{Value}
use Rattle.coco_types.specs.declared.call.Write.{Write}
use Rattle.coco_types.proofs.Keys.{is_key, one_key, key_itself}
use Rattle.coco_types.proofs.KeyMaps.{get_put}
use Rattle.coco_copy.specs.CopyState.{CopyState}
use Rattle.coco_copy.specs.declared.ops.CopyAsk.TheVariants.{Put}
use Rattle.coco_copy.specs.declared.ops.CopyAnswer.TheVariants.{Applied, Older, OtherEpoch}
use Rattle.coco_copy.specs.Puts.{after_ask, by_time, left_by}
use Rattle.coco_ship.specs.Pieces.{covers, covers_at}
use Rattle.coco_ship.specs.Taking.{Grows, Puts}

both_are : (a b : Bool) → (a && b) ≡ true → (a ≡ true) × (b ≡ true)
both_are true b h = (refl, h)
both_are false b h = cc

pub covers_grows : (old new : CopyState) → Grows old new → (time : ℕ) (ws : List Write) → covers old time ws ≡ true → covers new time ws ≡ true
covers_grows old new grows time [] h = refl
covers_grows old new grows time (w ∷ ws) h =
    let parts = both_are (covers_at (get old.pending w.key) time) (covers old time ws) h in
    and_from (covers_at (get new.pending w.key) time) (covers new time ws) (grows w.key time parts.0) (covers_grows old new grows time ws parts.1)

pub puts_none : (time : ℕ) (s : CopyState) → Puts time [] s s
puts_none time s = record { epoch_stays = refl; stable_stays = refl; pending = λ k. inl refl; grows = λ k t h. h }

pub puts_wider : (time : ℕ) (ws vs : List Write) (s t : CopyState) → ((w : Write) → Contains ws w → Contains vs w) → Puts time ws s t → Puts time vs s t
puts_wider time ws vs s t wider puts = record {
  epoch_stays = puts.epoch_stays;
  stable_stays = puts.stable_stays;
  pending = λ k. elim (puts.pending k) [ inl same ↦ inl same | inr by ↦ inr (by.0, wider by.0 by.1, by.2, by.3) ];
  grows = puts.grows;
}

pub puts_then : (time : ℕ) (ws vs : List Write) (s m t : CopyState) → Puts time ws s m → Puts time vs m t → Puts time (ws ++ vs) s t
puts_then time ws vs s m t first second = record {
  epoch_stays = second.epoch_stays ∙ first.epoch_stays;
  stable_stays = second.stable_stays ∙ first.stable_stays;
  pending = λ k. elim (second.pending k) [
    | inl same ↦ elim (first.pending k) [
      | inl before ↦ inl (same ∙ before)
      | inr by ↦ inr (by.0, Contains-append_left ws vs by.0 by.1, by.2, same ∙ by.3)
    ]
    | inr by ↦ inr (by.0, Contains-append_right ws vs by.0 by.1, by.2, by.3)
  ];
  grows = λ k time h. second.grows k time (first.grows k time h);
}

-- a put that is applied
applied : (s : CopyState) (time : ℕ) (w : Write) → ((t : ℕ) → covers_at (get s.pending w.key) t ≡ true → t ≤ time)
    → Puts time (w ∷ []) s (record s { pending = insert s.pending w.key (time, w.value) })
applied s time w greater = record { epoch_stays = refl; stable_stays = refl; pending = λ k. pending k (is_key w.key k) refl; grows = λ k t h. grows k t (is_key w.key k) refl h }
  where
    pending : (k : RowKey) (b : Bool) → is_key w.key k ≡ b → (get (insert s.pending w.key (time, w.value)) k ≡ get s.pending k) ⊎ ((v : Write) × Contains (w ∷ []) v × (v.key ≡ k) × (get (insert s.pending w.key (time, w.value)) k ≡ Some (time, v.value)))
    pending k true is = inr (w, (0, omega arith, refl), one_key w.key k is, get_put s.pending w.key (time, w.value) k ∙ ap (λ b. cond b (Some (time, w.value)) (get s.pending k)) is)
    pending k false is = inl (get_put s.pending w.key (time, w.value) k ∙ ap (λ b. cond b (Some (time, w.value)) (get s.pending k)) is)

    grows : (k : RowKey) (t : ℕ) (b : Bool) → is_key w.key k ≡ b → covers_at (get s.pending k) t ≡ true → covers_at (get (insert s.pending w.key (time, w.value)) k) t ≡ true
    grows k t true is h =
        ap (λ o. covers_at o t) (get_put s.pending w.key (time, w.value) k ∙ ap (λ b. cond b (Some (time, w.value)) (get s.pending k)) is)
        ∙ le-leb t time (greater t (ap (λ k. covers_at (get s.pending k) t) (one_key w.key k is) ∙ h))
    grows k t false is h = ap (λ o. covers_at o t) (get_put s.pending w.key (time, w.value) k ∙ ap (λ b. cond b (Some (time, w.value)) (get s.pending k)) is) ∙ h

pends : (s : CopyState) (time : ℕ) (w : Write) → covers_at (get (insert s.pending w.key (time, w.value)) w.key) time ≡ true
pends s time w =
    ap (λ o. covers_at o time) (get_put s.pending w.key (time, w.value) w.key ∙ ap (λ b. cond b (Some (time, w.value)) (get s.pending w.key)) (key_itself w.key)) ∙ le-leb time time (omega arith)

pub one_put : (s : CopyState) (epoch time : ℕ) (w : Write) → s.epoch ≡ epoch → Puts time (w ∷ []) s (after_ask s (Put epoch time w)) × (covers_at (get (after_ask s (Put epoch time w)).pending w.key) time ≡ true)
one_put s epoch time w current =
    subst (λ b. Fine (left_by (cond b (by_time (get s.pending w.key) time) (OtherEpoch s.epoch)) (Put epoch time w) s)) (sym (eq-eqb epoch s.epoch (sym current))) (by_pending (get s.pending w.key) refl)
  where
    Fine : CopyState → Type 0
    Fine t = Puts time (w ∷ []) s t × (covers_at (get t.pending w.key) time ≡ true)

    by_pending : (o : Option (ℕ × Option Value)) → get s.pending w.key ≡ o → Puts time (w ∷ []) s (left_by (by_time o time) (Put epoch time w) s) × (covers_at (get (left_by (by_time o time) (Put epoch time w) s).pending w.key) time ≡ true)
    by_pending None is = (applied s time w (λ t h. absurd (nothing (sym h ∙ ap (λ o. covers_at o t) is))), pends s time w)
      where
        nothing : true ≡ false → ⊥
        nothing e = cc
    by_pending (Some p) is = by_age (nat_le time p.0) refl
      where
        by_age : (b : Bool) → nat_le time p.0 ≡ b → Puts time (w ∷ []) s (left_by (cond b (Older p.0) Applied) (Put epoch time w) s) × (covers_at (get (left_by (cond b (Older p.0) Applied) (Put epoch time w) s).pending w.key) time ≡ true)
        by_age true older = (puts_wider time [] (w ∷ []) s s (λ v none. absurd (omega (arith, none.1))) (puts_none time s), ap (λ o. covers_at o time) is ∙ older)
        by_age false newer = (applied s time w (λ t h. let least : t ≤ p.0 = leb-true t p.0 (sym (ap (λ o. covers_at o t) is) ∙ h) in let later : p.0 < time = leb-false time p.0 newer in omega arith), pends s time w)

-- one write more
pub puts_more : (ws : List Write) (i time : ℕ) (w : Write) (s m t : CopyState) → i < length ws → w ≡ get_or ws i w → Puts time (take i ws) s m → Puts time (w ∷ []) m t → Puts time (take (i + 1) ws) s t
puts_more ws i time w s m t h is first second =
    subst (λ vs. Puts time vs s t) (sym (take_more ws i w h ∙ ap (λ v. take i ws ++ v ∷ []) (sym is))) (puts_then time (take i ws) (w ∷ []) s m t first second)

pub covers_more : (ws : List Write) (i time : ℕ) (w : Write) (m t : CopyState) → i < length ws → w ≡ get_or ws i w → covers m time (take i ws) ≡ true → Grows m t → covers_at (get t.pending w.key) time ≡ true → covers t time (take (i + 1) ws) ≡ true
covers_more ws i time w m t h is before grows here =
    ap (covers t time) (take_more ws i w h ∙ ap (λ v. take i ws ++ v ∷ []) (sym is)) ∙ list_all-append (λ w. covers_at (get t.pending w.key) time) (take i ws) (w ∷ [])
    ∙ and_from (covers t time (take i ws)) (covers_at (get t.pending w.key) time && true) (covers_grows m t grows time (take i ws) before) (and_from (covers_at (get t.pending w.key) time) true here refl)
