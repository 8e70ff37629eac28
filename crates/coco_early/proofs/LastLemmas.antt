-- What the greatest time leaves in a copy is the last write of each key.
use Rattle.std.proofs.Common.{◌≡◌, inl, inr, ℕ, ◌≤◌, ◌%◌, ◌==◌, ◌&&◌, Bool, true, false, cond, List, [], ◌∷◌, Option, None, Some, refl, sym, ap, ◌∙◌, subst, arith}
use Rattle.std.specs.List.{AllByRecursion, Contains, filter, find}
use Rattle.std.specs.FinMap.{get}
use Rattle.std.specs.Option.{option_or}
use Rattle.std.proofs.lemmas.Bool.{eq-eqb, eqb-false, eqb-true}
use Rattle.coco_types.proofs.Keys.{is_key, key_itself, one_key}
use Rattle.coco_types.specs.RowKey.{RowKey}
use Rattle.coco_types.specs.declared.call.Piece.{Piece}
use Rattle.coco_types.specs.declared.call.Write.{Write}
use Rattle.coco_types.specs.declared.value.Value.{Value}
use Rattle.coco_ast.specs.Meaning.{Datum}
use Rattle.coco_copy.specs.CopyState.{CopyState}
use Rattle.coco_copy.specs.Greatest.{greatest_put, greatest_time, put_on, puts_on}
use Rattle.coco_copy.specs.declared.ops.CopyAsk.TheVariants.{Put}
use Rattle.coco_order.specs.OneKey.{Among}
use Rattle.coco_append.proofs.LastWriteLemmas.{or_none, stamped}
use Rattle.coco_append.specs.LastWrites.{Stamp, held_pieces, holds, last_stamp, last_value}
use Rattle.coco_ship.specs.Pieces.{AreShippable, HasPieces, asks_of, puts_of}
use Rattle.coco_ship.specs.declared.ring.Ring.{Ring}
use Rattle.coco_early.proofs.Members.{by_bool, in_flat, kept, mapped, none_some, of_all, of_filter, of_flat, of_kept, of_map, same_some, to_contains}
use Rattle.coco_early.proofs.PieceLemmas.{RiseInTime}

abbrev Pair : Type 0
Pair = ℕ × Option Value

-- ---- the first of the greatest

below : (ps : List Pair) (t : ℕ) → ((q : Pair) → Among ps q → q.0 ≤ t) → greatest_time ps ≤ t
below [] t each = omega arith
below (p ∷ ps) t each = let rest : greatest_time ps ≤ t = below ps t (λ q among. each q (inr among)) in let here : p.0 ≤ t = each p (inl refl) in omega (arith, rest, here)

attained : (ps : List Pair) (b : Pair) → Among ps b → b.0 ≤ greatest_time ps
attained [] b h = absurd h
attained (p ∷ ps) b (inl same) = let here : p.0 ≡ b.0 = ap (λ (q : Pair). q.0) same in omega (arith, here)
attained (p ∷ ps) b (inr more) = let rest : b.0 ≤ greatest_time ps = attained ps b more in omega (arith, rest)

found : (ps : List Pair) (b : Pair) → Among ps b → ((q : Pair) → Among ps q → q.0 ≡ b.0 → q ≡ b) → find (λ (q : Pair). q.0 == b.0) ps ≡ Some b
found [] b h one = absurd h
found (p ∷ ps) b h one =
    by_bool (λ v. (p.0 == b.0) ≡ v → cond v (Some p) (find (λ (q : Pair). q.0 == b.0) ps) ≡ Some b) (p.0 == b.0)
    (λ _ t. ap Some (one p (inl refl) (eqb-true p.0 b.0 t)))
    (λ _ f. elim h [
      | inl same ↦ absurd (eqb-false p.0 b.0 f (ap (λ (q : Pair). q.0) same))
      | inr more ↦ found ps b more (λ q among. one q (inr among))
    ]) refl

greatest_is : (ps : List Pair) (b : Pair) → Among ps b → ((q : Pair) → Among ps q → q.0 ≤ b.0) → ((q : Pair) → Among ps q → q.0 ≡ b.0 → q ≡ b) → greatest_put ps ≡ Some b
greatest_is ps b among least one =
    let up : greatest_time ps ≤ b.0 = below ps b.0 least in
    let down : b.0 ≤ greatest_time ps = attained ps b among in
    let same : greatest_time ps ≡ b.0 = omega (arith, up, down) in
    ap (λ (t : ℕ). find (λ (q : Pair). q.0 == t) ps) same ∙ found ps b among one

none_put : (ps : List Pair) → ((q : Pair) → Among ps q → ⊥) → greatest_put ps ≡ None
none_put [] none = refl
none_put (p ∷ ps) none = absurd (none p (inl refl))

-- ---- the last write of a key

module _ (k : RowKey) where
  -- a write of the key in one of these pieces
  record Writes (xs : List Piece) (time : ℕ) (value : Datum) : Type 0 where
    pub x : Piece
    pub among : Among xs x
    pub time_is : x.time ≡ time
    pub w : Write
    pub in_x : Among x.writes w
    pub key_is : w.key ≡ k
    pub value_is : w.value ≡ value

  pub no_value : (ws : List Write) → last_value k ws ≡ None → (w : Write) → Among ws w → w.key ≡ k → ⊥
  no_value [] none w h key = h
  no_value (v ∷ ws) none w h key = from (λ is more. no_value ws is w more key) (last_value k ws) refl none h
    where
      from : (last_value k ws ≡ None → Among ws w → ⊥) → (o : Option Datum) → last_value k ws ≡ o → option_or o (cond (is_key k v.key) (Some v.value) None) ≡ None → Among (v ∷ ws) w → ⊥
      from rest (Some u) is n g = none_some (sym n)
      from rest None is n (inr more) = rest is more
      from rest None is n (inl same) = none_some (sym n ∙ ap (λ (b : Bool). cond b (Some v.value) None) (ap (is_key k) (ap (λ (z : Write). z.key) same ∙ key) ∙ key_itself k))

  the_value : (ws : List Write) (value : Datum) → last_value k ws ≡ Some value → (w : Write) × Among ws w × (w.key ≡ k) × (w.value ≡ value)
  the_value [] value is = absurd (none_some is)
  the_value (v ∷ ws) value is = from (λ last. the_value ws value last) (last_value k ws) refl is
    where
      from : (last_value k ws ≡ Some value → (w : Write) × Among ws w × (w.key ≡ k) × (w.value ≡ value)) → (o : Option Datum) → last_value k ws ≡ o → option_or o (cond (is_key k v.key) (Some v.value) None) ≡ Some value
          → (w : Write) × Among (v ∷ ws) w × (w.key ≡ k) × (w.value ≡ value)
      from rest (Some u) last h = let found = rest (last ∙ h) in (found.0, inr found.1, found.2, found.3)
      from rest None last h =
          by_bool (λ b. is_key k v.key ≡ b → cond b (Some v.value) None ≡ Some value → (w : Write) × Among (v ∷ ws) w × (w.key ≡ k) × (w.value ≡ value)) (is_key k v.key)
          (λ _ t g. (v, inl refl, sym (one_key k v.key t), same_some g))
          (λ _ _ g. absurd (none_some g)) refl h

  no_stamp : (xs : List Piece) → last_stamp k xs ≡ None → (x : Piece) → Among xs x → (w : Write) → Among x.writes w → w.key ≡ k → ⊥
  no_stamp [] none x h w in_x key = h
  no_stamp (y ∷ xs) none x h w in_x key = from (λ is more. no_stamp xs is x more w in_x key) (last_stamp k xs) refl none h
    where
      unstamped : (o : Option Datum) → stamped y.time o ≡ None → o ≡ None
      unstamped None e = refl
      unstamped (Some v) e = absurd (none_some (sym e))

      from : (last_stamp k xs ≡ None → Among xs x → ⊥) → (o : Option Stamp) → last_stamp k xs ≡ o → option_or o (stamped y.time (last_value k y.writes)) ≡ None → Among (y ∷ xs) x → ⊥
      from rest (Some s) is n g = none_some (sym n)
      from rest None is n (inr more) = rest is more
      from rest None is n (inl same) = no_value y.writes (unstamped (last_value k y.writes) n) w (subst (λ (z : Piece). Among z.writes w) (sym same) in_x) key

  -- of pieces that rise in time, the last one that writes the key is the latest
  record IsLatest (xs : List Piece) (s : Stamp) : Type 0 where
    pub source : Writes xs s.0 s.1
    pub latest : (x : Piece) → Among xs x → (w : Write) → Among x.writes w → w.key ≡ k → x.time ≤ s.0

  latest : (xs : List Piece) → RiseInTime xs → (s : Stamp) → last_stamp k xs ≡ Some s → IsLatest xs s
  latest [] rise s is = absurd (none_some is)
  latest (y ∷ xs) rise s is = from (λ last. latest xs rise.1 s last) (last_stamp k xs) refl is
    where
      more : IsLatest xs s → IsLatest (y ∷ xs) s
      more l = record {
        source = record { x = l.source.x; among = inr l.source.among; time_is = l.source.time_is; w = l.source.w; in_x = l.source.in_x; key_is = l.source.key_is; value_is = l.source.value_is };
        latest = λ x among w in_x key. elim among [
          | inl same ↦ (
              let le : y.time ≤ l.source.x.time = of_all (λ (z : Piece). y.time ≤ z.time) xs l.source.x rise.0 l.source.among in
              let at : l.source.x.time ≡ s.0 = l.source.time_is in
              let here : y.time ≡ x.time = ap (λ (z : Piece). z.time) same in
              omega (arith, le, at, here))
          | inr later ↦ l.latest x later w in_x key
        ];
      }

      first : last_stamp k xs ≡ None → (o : Option Datum) → last_value k y.writes ≡ o → stamped y.time o ≡ Some s → IsLatest (y ∷ xs) s
      first none None value h = absurd (none_some h)
      first none (Some v) value h =
          let w = the_value y.writes v value in
          let stamp : (y.time, v) ≡ s = same_some h in
          record {
            source = record { x = y; among = inl refl; time_is = ap (λ (z : Stamp). z.0) stamp; w = w.0; in_x = w.1; key_is = w.2; value_is = w.3 ∙ ap (λ (z : Stamp). z.1) stamp };
            latest = λ x among u in_x key. elim among [
              | inl same ↦ (let at : y.time ≡ s.0 = ap (λ (z : Stamp). z.0) stamp in let here : y.time ≡ x.time = ap (λ (z : Piece). z.time) same in omega (arith, at, here))
              | inr later ↦ absurd (no_stamp xs none x later u in_x key)
            ];
          }

      from : (last_stamp k xs ≡ Some s → IsLatest xs s) → (o : Option Stamp) → last_stamp k xs ≡ o → option_or o (stamped y.time (last_value k y.writes)) ≡ Some s → IsLatest (y ∷ xs) s
      from rest (Some t) last h = more (rest (last ∙ h))
      from rest None last h = first last (last_value k y.writes) refl h

-- ---- the puts of a partition's pieces

module _ (epoch : ℕ) (k : RowKey) (p : ℕ) (pieces : List Piece) where
  abbrev pairs : List Pair
  pairs = puts_on epoch k (puts_of epoch pieces p)

  abbrev here : List Piece
  here = filter (λ (x : Piece). x.partition == p) pieces

  taken : (time : ℕ) (w : Write) → w.key ≡ k → put_on epoch k (Put epoch time w) ≡ Some (time, w.value)
  taken time w key =
      ap (λ (b : Bool). cond (b && is_key k w.key) (Some (time, w.value)) None) (eq-eqb epoch epoch refl)
      ∙ ap (λ (b : Bool). cond b (Some (time, w.value)) None) (ap (is_key k) key ∙ key_itself k)

  in_pairs : (time : ℕ) (value : Datum) → Writes k here time value → Among pairs (time, value)
  in_pairs time value s =
      subst (λ (q : Pair). Among pairs q) (λ i. (s.time_is i, s.value_is i))
      (kept (put_on epoch k) (puts_of epoch pieces p) (Put epoch s.x.time s.w) (s.x.time, s.w.value)
      (in_flat (asks_of epoch) here s.x (Put epoch s.x.time s.w) s.among (mapped (λ (v : Write). Put epoch s.x.time v) s.x.writes s.w s.in_x))
      (taken s.x.time s.w s.key_is))

  put_is : (time : ℕ) (w : Write) (q : Pair) → put_on epoch k (Put epoch time w) ≡ Some q → (w.key ≡ k) × ((time, w.value) ≡ q)
  put_is time w q is =
      by_bool (λ b. is_key k w.key ≡ b → cond ((epoch == epoch) && b) (Some (time, w.value)) None ≡ Some q → (w.key ≡ k) × ((time, w.value) ≡ q)) (is_key k w.key)
      (λ _ t h. (sym (one_key k w.key t), same_some (sym (ap (λ (b : Bool). cond (b && true) (Some (time, w.value)) None) (eq-eqb epoch epoch refl)) ∙ h)))
      (λ _ _ h. absurd (none_some (sym (ap (λ (b : Bool). cond (b && false) (Some (time, w.value)) None) (eq-eqb epoch epoch refl)) ∙ h))) refl is

  of_pairs : (q : Pair) → Among pairs q → Writes k here q.0 q.1
  of_pairs q among =
      let ask = of_kept (put_on epoch k) (puts_of epoch pieces p) q among in
      let piece = of_flat (asks_of epoch) here ask.0 ask.1 in
      let write = of_map (λ (v : Write). Put epoch piece.0.time v) piece.0.writes ask.0 piece.2 in
      let is = put_is piece.0.time write.0 q (ap (put_on epoch k) write.2 ∙ ask.2) in
      record { x = piece.0; among = piece.1; time_is = ap (λ (z : Pair). z.0) is.1; w = write.0; in_x = write.1; key_is = is.0; value_is = ap (λ (z : Pair). z.1) is.1 }

  rise_filtered : (t : Piece → Bool) (xs : List Piece) → RiseInTime xs → RiseInTime (filter t xs)
  rise_filtered t [] rise = tt
  rise_filtered t (x ∷ xs) rise = by_bool (λ b. RiseInTime (cond b (x ∷ filter t xs) (filter t xs))) (t x) (λ _. (kept_all xs rise.0, rise_filtered t xs rise.1)) (λ _. rise_filtered t xs rise.1)
    where
      kept_all : (ys : List Piece) → AllByRecursion (λ y. x.time ≤ y.time) ys → AllByRecursion (λ y. x.time ≤ y.time) (filter t ys)
      kept_all [] all = tt
      kept_all (y ∷ ys) all = by_bool (λ b. AllByRecursion (λ z. x.time ≤ z.time) (cond b (y ∷ filter t ys) (filter t ys))) (t y) (λ _. (all.0, kept_all ys all.1)) (λ _. kept_all ys all.1)

  pub last_pends : (ring : Ring) → AreShippable ring pieces → RiseInTime pieces → greatest_put pairs ≡ last_stamp k here
  last_pends ring fit rise = from (last_stamp k here) refl
    where
      from : (o : Option Stamp) → last_stamp k here ≡ o → greatest_put pairs ≡ o
      from None is = none_put pairs (λ q among. (let s = of_pairs q among in no_stamp k here is s.x s.among s.w s.in_x s.key_is))
      from (Some b) is =
          let l : IsLatest k here b = latest k here (rise_filtered (λ (x : Piece). x.partition == p) pieces rise) b is in
          greatest_is pairs b (in_pairs b.0 b.1 l.source)
          (λ q among. (
          let s = of_pairs q among in
          let le : s.x.time ≤ b.0 = l.latest s.x s.among s.w s.in_x s.key_is in
          let at : s.x.time ≡ q.0 = s.time_is in
          omega (arith, le, at)))
          (λ q among same. (
          let s = of_pairs q among in
          let t = l.source in
          let in_s = of_filter (λ (x : Piece). x.partition == p) pieces s.x s.among in
          let in_t = of_filter (λ (x : Piece). x.partition == p) pieces t.x t.among in
          let one : s.w ≡ t.w =
          fit.one_write p s.x t.x (record { among = to_contains pieces s.x in_s.0; partition = eqb-true s.x.partition p in_s.1 }) (record { among = to_contains pieces t.x in_t.0; partition = eqb-true t.x.partition p in_t.1 })
          (s.time_is ∙ same ∙ sym t.time_is) s.w t.w (to_contains s.x.writes s.w s.in_x) (to_contains t.x.writes t.w t.in_x) (s.key_is ∙ sym t.key_is) in
          let values : q.1 ≡ b.1 = sym s.value_is ∙ ap (λ (w : Write). w.value) one ∙ t.value_is in
          λ i. (same i, values i)))

-- ---- pieces that don't write the key may be left out

module _ (k : RowKey) (t : Piece → Bool) where
  pub left_out : (xs : List Piece) → ((x : Piece) → Among xs x → t x ≡ false → last_value k x.writes ≡ None) → last_stamp k (filter t xs) ≡ last_stamp k xs
  left_out [] none = refl
  left_out (x ∷ xs) none =
      let rest : last_stamp k (filter t xs) ≡ last_stamp k xs = left_out xs (λ y among. none y (inr among)) in
      by_bool (λ b. t x ≡ b → last_stamp k (cond b (x ∷ filter t xs) (filter t xs)) ≡ last_stamp k (x ∷ xs)) (t x)
      (λ _ _. ap (λ o. option_or o (stamped x.time (last_value k x.writes))) rest)
      (λ _ f. rest ∙ sym (ap (λ o. option_or (last_stamp k xs) (stamped x.time o)) (none x (inl refl) f) ∙ or_none (last_stamp k xs))) refl

unwritten : (k : RowKey) (ws : List Write) → ((w : Write) → Among ws w → w.key ≡ k → ⊥) → last_value k ws ≡ None
unwritten k [] none = refl
unwritten k (w ∷ ws) none =
    by_bool (λ b. is_key k w.key ≡ b → option_or (last_value k ws) (cond b (Some w.value) None) ≡ None) (is_key k w.key)
    (λ _ t. absurd (none w (inl refl) (sym (one_key k w.key t))))
    (λ _ _. ap (λ (o : Option Datum). option_or o None) (unwritten k ws (λ v among. none v (inr among)))) refl

-- ---- of pieces whose writes are on their partitions

module _ (ring : Ring) (epoch count : ℕ) (pieces : List Piece) (fit : AreShippable ring pieces) (rise : RiseInTime pieces)
    (at_home : (x : Piece) → Contains pieces x → (w : Write) → Among x.writes w → w.key.row % count ≡ x.partition)
    (p : ℕ) (table : CopyState) (has : HasPieces epoch pieces p table) where
  pends : (k : RowKey) → get table.pending k ≡ last_stamp k (filter (λ (x : Piece). x.partition == p) pieces)
  pends k = has k ∙ last_pends epoch k p pieces ring fit rise

  -- a piece of another partition doesn't write a key of this one
  away : (k : RowKey) → k.row % count ≡ p → (x : Piece) → Among pieces x → (x.partition ≡ p → ⊥) → last_value k x.writes ≡ None
  away k on x among other = unwritten k x.writes (λ w in_x key. other (sym (at_home x (to_contains pieces x among) w in_x) ∙ ap (λ (q : RowKey). q.row % count) key ∙ on))

  pub last_of_all : (k : RowKey) → k.row % count ≡ p → get table.pending k ≡ last_stamp k pieces
  last_of_all k on = pends k ∙ left_out k (λ (x : Piece). x.partition == p) pieces (λ x among not_p. away k on x among (eqb-false x.partition p not_p))

  pub last_of_held : (held : List Bool) → holds held p ≡ true → (k : RowKey) → k.row % count ≡ p → get table.pending k ≡ last_stamp k (held_pieces held pieces)
  last_of_held held is k on =
      last_of_all k on
      ∙ sym (left_out k (λ (x : Piece). holds held x.partition) pieces (λ x among not_held. away k on x among (λ same. (let h : true ≡ false = sym (ap (holds held) same ∙ is) ∙ not_held in cc))))

  pub none_elsewhere : (k : RowKey) → (k.row % count ≡ p → ⊥) → get table.pending k ≡ None
  none_elsewhere k other = pends k ∙ none_here (filter (λ (x : Piece). x.partition == p) pieces) (λ x among. of_filter (λ (x : Piece). x.partition == p) pieces x among)
    where
      none_here : (xs : List Piece) → ((x : Piece) → Among xs x → Among pieces x × ((x.partition == p) ≡ true)) → last_stamp k xs ≡ None
      none_here [] each = refl
      none_here (x ∷ xs) each =
          ap (λ (o : Option Stamp). option_or o (stamped x.time (last_value k x.writes))) (none_here xs (λ y among. each y (inr among)))
          ∙ ap (stamped x.time) (unwritten k x.writes (λ w in_x key. other (
          sym (ap (λ (q : RowKey). q.row % count) key) ∙ at_home x (to_contains pieces x (each x (inl refl)).0) w in_x ∙ eqb-true x.partition p (each x (inl refl)).1)))
