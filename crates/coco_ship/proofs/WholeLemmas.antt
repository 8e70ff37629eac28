-- A table that has what each piece wrote, and nothing else, has for each key the write of the greatest time.
use Rattle.std.proofs.Common.{◌≡◌, ℕ, ◌≤◌, ◌==◌, ◌&&◌, Bool, true, false, cond, List, [], ◌∷◌, ◌++◌, map, Option, None, Some, refl, sym, ap, ◌∙◌, subst, arith, inl, inr}
use Rattle.std.specs.List.{filter, filter_map, find, flat_map, cons_option, AllByRecursion, Contains}
use Rattle.std.specs.FinMap.{get}
use Rattle.std.proofs.lemmas.Bool.{eq-eqb, eqb-true, eqb-false, leb-true}
use Rattle.std.proofs.lemmas.List.Elements.{Contains-append_cases, Contains-append_left, Contains-append_right, Contains-push_cases}
use Rattle.coco_types.specs.RowKey.{RowKey}
use Rattle.coco_types.specs.declared.value.Value.{Value}
use Rattle.coco_types.specs.declared.call.Piece.{Piece}
use Rattle.coco_types.specs.declared.call.Write.{Write}
use Rattle.coco_types.proofs.Keys.{is_key, one_key, key_itself}
use Rattle.coco_copy.specs.CopyState.{CopyState}
use Rattle.coco_copy.specs.Greatest.{greatest_put, greatest_time, put_on, puts_on}
use Rattle.coco_copy.specs.declared.ops.CopyAsk.{CopyAsk}
use Rattle.coco_copy.specs.declared.ops.CopyAsk.TheVariants.{Put}
use Rattle.coco_ship.specs.declared.ring.Ring.{Ring}
use Rattle.coco_ship.specs.Pieces.{asks_of, covers, covers_at, puts_of, AreShippable, HasPieces, IsOf, IsWritten}

abbrev Pair : Type 0
Pair = ℕ × Option Value

pub only_one : {X : Type 0} (y x : X) → Contains (y ∷ []) x → y ≡ x
only_one y x h = elim (Contains-push_cases [] y x h) [ inl none ↦ absurd (omega (arith, none.1)) | inr same ↦ same ]

two_sides : true ≡ false → ⊥
two_sides h = cc

-- ---- the first of the greatest

below : (ps : List Pair) (t : ℕ) → AllByRecursion (λ q. q.0 ≤ t) ps → greatest_time ps ≤ t
below [] t all = omega arith
below (p ∷ ps) t all = let rest : greatest_time ps ≤ t = below ps t all.1 in let here : p.0 ≤ t = all.0 in omega arith

attained : (ps : List Pair) (b : Pair) → Contains ps b → b.0 ≤ greatest_time ps
attained [] b h = absurd (omega (arith, h.1))
attained (p ∷ ps) b h = elim (Contains-append_cases (p ∷ []) ps b h) [
  | inl first ↦ let same : p.0 ≡ b.0 = ap (λ (q : Pair). q.0) (only_one p b first) in omega arith
  | inr later ↦ let rest : b.0 ≤ greatest_time ps = attained ps b later in omega arith
]

found : (ps : List Pair) (t : ℕ) (b : Pair) → AllByRecursion (λ q. q.0 ≡ t → q ≡ b) ps → b.0 ≡ t → Contains ps b → find (λ q. q.0 == t) ps ≡ Some b
found [] t b all same h = absurd (omega (arith, h.1))
found (q ∷ qs) t b all same h =
    elim (q.0 == t) as (λ v. (q.0 == t) ≡ v → cond v (Some q) (find (λ q. q.0 == t) qs) ≡ Some b) [
      | true ↦ λ e. ap Some (all.0 (eqb-true q.0 t e))
      | false ↦ λ e. found qs t b all.1 same (elim (Contains-append_cases (q ∷ []) qs b h) [
        | inl first ↦ absurd (eqb-false q.0 t e (ap (λ (q : Pair). q.0) (only_one q b first) ∙ same))
        | inr later ↦ later
      ])
    ] refl

greatest_is : (ps : List Pair) (b : Pair) → Contains ps b → AllByRecursion (λ q. q.0 ≤ b.0) ps → AllByRecursion (λ q. q.0 ≡ b.0 → q ≡ b) ps → greatest_put ps ≡ Some b
greatest_is ps b has least one =
    let up : greatest_time ps ≤ b.0 = below ps b.0 least in
    let down : b.0 ≤ greatest_time ps = attained ps b has in
    let same : greatest_time ps ≡ b.0 = omega arith in
    ap (λ t. find (λ q. q.0 == t) ps) same ∙ found ps b.0 b one refl has

-- ---- the puts of the pieces

cons_joined : (o : Option Pair) (xs ys : List Pair) → cons_option o (xs ++ ys) ≡ cons_option o xs ++ ys
cons_joined None xs ys = refl
cons_joined (Some x) xs ys = refl

puts_joined : (epoch : ℕ) (k : RowKey) (asks more : List CopyAsk) → puts_on epoch k (asks ++ more) ≡ puts_on epoch k asks ++ puts_on epoch k more
puts_joined epoch k [] more = refl
puts_joined epoch k (a ∷ asks) more = ap (cons_option (put_on epoch k a)) (puts_joined epoch k asks more) ∙ cons_joined (put_on epoch k a) (puts_on epoch k asks) (puts_on epoch k more)

module _ (epoch : ℕ) (k : RowKey) (p : ℕ) where
  -- those of one piece on the key
  abbrev of_writes : ℕ → List Write → List Pair
  of_writes time ws = filter_map (put_on epoch k) (map (λ w. Put epoch time w) ws)

  abbrev of_pieces : List Piece → List Pair
  of_pieces xs = puts_on epoch k (puts_of epoch xs p)

  all_joined : (Q : Pair → Type 0) (xs ys : List Pair) → AllByRecursion Q xs → AllByRecursion Q ys → AllByRecursion Q (xs ++ ys)
  all_joined Q [] ys a b = b
  all_joined Q (x ∷ xs) ys a b = (a.0, all_joined Q xs ys a.1 b)

  all_writes : (Q : Pair → Type 0) (time : ℕ) (ws : List Write) → ((w : Write) → Contains ws w → w.key ≡ k → Q (time, w.value)) → AllByRecursion Q (of_writes time ws)
  all_writes Q time [] each = tt
  all_writes Q time (w ∷ ws) each =
      let rest = all_writes Q time ws (λ v h. each v (Contains-append_right (w ∷ []) ws v h)) in
      elim (is_key k w.key) as (λ b. is_key k w.key ≡ b → AllByRecursion Q (cons_option (cond ((epoch == epoch) && b) (Some (time, w.value)) None) (of_writes time ws))) [
        | true ↦ λ e. subst (λ b. AllByRecursion Q (cons_option (cond (b && true) (Some (time, w.value)) None) (of_writes time ws))) (sym (eq-eqb epoch epoch refl))
            (each w (0, omega arith, refl) (sym (one_key k w.key e)), rest)
        | false ↦ λ e. subst (λ b. AllByRecursion Q (cons_option (cond (b && false) (Some (time, w.value)) None) (of_writes time ws))) (sym (eq-eqb epoch epoch refl)) rest
      ] refl

  all_pieces : (Q : Pair → Type 0) (xs : List Piece) → ((x : Piece) → Contains xs x → x.partition ≡ p → (w : Write) → Contains x.writes w → w.key ≡ k → Q (x.time, w.value)) → AllByRecursion Q (of_pieces xs)
  all_pieces Q [] each = tt
  all_pieces Q (x ∷ xs) each =
      let rest = all_pieces Q xs (λ y h. each y (Contains-append_right (x ∷ []) xs y h)) in
      elim (x.partition == p) as (λ b. (x.partition == p) ≡ b → AllByRecursion Q (puts_on epoch k (flat_map (asks_of epoch) (cond b (x ∷ filter (λ x. x.partition == p) xs) (filter (λ x. x.partition == p) xs))))) [
        | true ↦ λ e. subst (AllByRecursion Q) (sym (puts_joined epoch k (asks_of epoch x) (puts_of epoch xs p)))
            (all_joined Q (of_writes x.time x.writes) (of_pieces xs) (all_writes Q x.time x.writes (each x (0, omega arith, refl) (eqb-true x.partition p e))) rest)
        | false ↦ λ e. rest
      ] refl

  has_write : (time : ℕ) (ws : List Write) (w : Write) → Contains ws w → w.key ≡ k → Contains (of_writes time ws) (time, w.value)
  has_write time [] w h is = absurd (omega (arith, h.1))
  has_write time (v ∷ ws) w h is = elim (Contains-append_cases (v ∷ []) ws w h) [
    | inl first ↦ subst (λ o. Contains (cons_option o (of_writes time ws)) (time, w.value)) (sym (taken v w (only_one v w first) is)) (0, omega arith, refl)
    | inr later ↦ behind (put_on epoch k (Put epoch time v)) (of_writes time ws) (has_write time ws w later is)
  ]
    where
      taken : (v w : Write) → v ≡ w → w.key ≡ k → put_on epoch k (Put epoch time v) ≡ Some (time, w.value)
      taken v w same key =
          let here : is_key k v.key ≡ true = ap (is_key k) (ap (λ (w : Write). w.key) same ∙ key) ∙ key_itself k in
          ap (λ b. cond (b && is_key k v.key) (Some (time, v.value)) None) (eq-eqb epoch epoch refl) ∙ ap (λ b. cond b (Some (time, v.value)) None) here ∙ ap (λ (w : Write). Some (time, w.value)) same

      behind : (o : Option Pair) (ps : List Pair) → Contains ps (time, w.value) → Contains (cons_option o ps) (time, w.value)
      behind None ps h = h
      behind (Some q) ps h = Contains-append_right (q ∷ []) ps (time, w.value) h

  has_piece : (xs : List Piece) (x : Piece) → Contains xs x → x.partition ≡ p → (w : Write) → Contains x.writes w → w.key ≡ k → Contains (of_pieces xs) (x.time, w.value)
  has_piece [] x h of w has is = absurd (omega (arith, h.1))
  has_piece (y ∷ xs) x h of w has is =
      elim (y.partition == p) as (λ b. (y.partition == p) ≡ b → Contains (puts_on epoch k (flat_map (asks_of epoch) (cond b (y ∷ filter (λ x. x.partition == p) xs) (filter (λ x. x.partition == p) xs)))) (x.time, w.value)) [
        | true ↦ λ e. subst (λ ps. Contains ps (x.time, w.value)) (sym (puts_joined epoch k (asks_of epoch y) (puts_of epoch xs p))) (elim (Contains-append_cases (y ∷ []) xs x h) [
          | inl first ↦ Contains-append_left (of_writes y.time y.writes) (of_pieces xs) (x.time, w.value) (subst (λ (z : Piece). Contains (of_writes z.time z.writes) (x.time, w.value)) (sym (only_one y x first)) (has_write x.time x.writes w has is))
          | inr later ↦ Contains-append_right (of_writes y.time y.writes) (of_pieces xs) (x.time, w.value) (has_piece xs x later of w has is)
        ])
        | false ↦ λ e. elim (Contains-append_cases (y ∷ []) xs x h) [
          | inl first ↦ absurd (eqb-false y.partition p e (ap (λ (z : Piece). z.partition) (only_one y x first) ∙ of))
          | inr later ↦ has_piece xs x later of w has is
        ]
      ] refl

both_are : (a b : Bool) → (a && b) ≡ true → (a ≡ true) × (b ≡ true)
both_are true b h = (refl, h)
both_are false b h = cc

pub covers_one : (s : CopyState) (time : ℕ) (ws : List Write) (w : Write) → covers s time ws ≡ true → Contains ws w → covers_at (get s.pending w.key) time ≡ true
covers_one s time [] w h has = absurd (omega (arith, has.1))
covers_one s time (v ∷ ws) w h has =
    let parts = both_are (covers_at (get s.pending v.key) time) (covers s time ws) h in
    elim (Contains-append_cases (v ∷ []) ws w has) [
      | inl first ↦ subst (λ (z : Write). covers_at (get s.pending z.key) time ≡ true) (only_one v w first) parts.0
      | inr later ↦ covers_one s time ws w parts.1 later
    ]

no_pairs : (ps : List Pair) → AllByRecursion (λ _. ⊥) ps → ps ≡ []
no_pairs [] all = refl
no_pairs (p ∷ ps) all = absurd all.0

-- each piece's writes pend, and nothing else does: so what pends is the write of the greatest time
pub whole : (ring : Ring) (epoch : ℕ) (pieces : List Piece) (p : ℕ) (table : CopyState) → AreShippable ring pieces → IsWritten pieces p table
    → ((x : Piece) → IsOf pieces p x → covers table x.time x.writes ≡ true) → HasPieces epoch pieces p table
whole ring epoch pieces p table fit written covered k = by (get table.pending k) refl
  where
    covered_at : (x : Piece) → Contains pieces x → x.partition ≡ p → (w : Write) → Contains x.writes w → w.key ≡ k → covers_at (get table.pending k) x.time ≡ true
    covered_at x has of w writes is = subst (λ k. covers_at (get table.pending k) x.time ≡ true) is (covers_one table x.time x.writes w (covered x (record { among = has; partition = of })) writes)

    by : (o : Option Pair) → get table.pending k ≡ o → get table.pending k ≡ greatest_put (of_pieces epoch k p pieces)
    by None is =
        let none : of_pieces epoch k p pieces ≡ [] = no_pairs (of_pieces epoch k p pieces) (all_pieces epoch k p (λ _. ⊥) pieces (λ x has of w writes key. two_sides (sym (covered_at x has of w writes key) ∙ ap (λ o. covers_at o x.time) is))) in
        is ∙ ap greatest_put (sym none)
    by (Some b) is =
        let from = written k b.0 b.1 is in
        let y : Piece = from.0 in
        let row : Write = record { key = k; value = b.1 } in
        is ∙ sym (greatest_is (of_pieces epoch k p pieces) b
        (subst (λ t. Contains (of_pieces epoch k p pieces) (t, b.1)) from.2 (has_piece epoch k p pieces y from.1.among from.1.partition row from.3 refl))
        (all_pieces epoch k p (λ q. q.0 ≤ b.0) pieces (λ x has of w writes key. leb-true x.time b.0 (sym (ap (λ o. covers_at o x.time) is) ∙ covered_at x has of w writes key)))
        (all_pieces epoch k p (λ q. q.0 ≡ b.0 → q ≡ b) pieces (λ x has of w writes key same.
        let one : w ≡ row = fit.one_write p x y (record { among = has; partition = of }) from.1 (same ∙ sym from.2) w row writes from.3 key in
        λ i. (same i, (one i).value))))
