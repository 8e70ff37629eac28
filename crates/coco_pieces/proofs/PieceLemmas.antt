-- The pieces of a request, from one written partition to the next.
use Rattle.std.proofs.Common.{◌≡◌, ℕ, zero, suc, ◌+◌, ◌-◌, ◌<◌, ◌≤◌, ◌%◌, Bool, true, false, cond, nat_eq, List, [], ◌∷◌, ◌++◌, length, get_or, refl, sym, ap, ◌∙◌, arith, append_assoc}
use Rattle.std.proofs.lemmas.Bool.{eqb-true, eq-eqb}
use Rattle.coco_types.specs.declared.call.Piece.{Piece}
use Rattle.coco_types.specs.declared.call.Write.{Write}
use Rattle.coco_pieces.specs.Pieces.{piece_of, pieces_from, request_pieces, writes_on}

two_sides : true ≡ false → ⊥
two_sides h = cc

abbrev on : ℕ → ℕ → Write → Bool
on count p w = nat_eq (w.key.row % count) p

-- a write elsewhere isn't on the partition
pub writes_elsewhere : (count p : ℕ) (w : Write) (ws : List Write) → (w.key.row % count ≡ p → ⊥) → writes_on count p (w ∷ ws) ≡ writes_on count p ws
writes_elsewhere count p w ws away = elim (on count p w) as (λ b. on count p w ≡ b → cond b (w ∷ writes_on count p ws) (writes_on count p ws) ≡ writes_on count p ws) [
  | true ↦ λ t. absurd (away (eqb-true (w.key.row % count) p t))
  | false ↦ λ _. refl
] refl

pub writes_here : (count p : ℕ) (w : Write) (ws : List Write) → w.key.row % count ≡ p → writes_on count p (w ∷ ws) ≡ w ∷ writes_on count p ws
writes_here count p w ws is = ap (λ b. cond b (w ∷ writes_on count p ws) (writes_on count p ws)) (eq-eqb (w.key.row % count) p is)

cons_nil : {X : Type 0} (x : X) (xs : List X) → x ∷ xs ≡ [] → ⊥
cons_nil x xs h = cc

-- a write among them is on its partition
pub is_written : (count i : ℕ) (ws : List Write) (d : Write) → i < length ws → writes_on count ((get_or ws i d).key.row % count) ws ≡ [] → ⊥
is_written count i [] d lt none = absurd (omega arith)
is_written count zero (w ∷ ws) d lt none = cons_nil w _ (sym (writes_here count (w.key.row % count) w ws refl) ∙ none)
is_written count (suc i) (w ∷ ws) d lt none =
    let p : ℕ = (get_or ws i d).key.row % count in
    elim (on count p w) as (λ b. on count p w ≡ b → ⊥) [
      | true ↦ λ t. cons_nil w _ (sym (writes_here count p w ws (eqb-true (w.key.row % count) p t)) ∙ none)
      | false ↦ λ f. is_written count i ws d (omega arith) (sym (writes_elsewhere count p w ws (λ e. two_sides (sym (eq-eqb (w.key.row % count) p e) ∙ f))) ∙ none)
    ] refl

-- partitions that aren't written have no pieces
pub pieces_skip : (count place time : ℕ) (ws : List Write) (p n m : ℕ) → ((q : ℕ) → p ≤ q → q < p + n → writes_on count q ws ≡ []) → pieces_from count place time ws p (n + m) ≡ pieces_from count place time ws (p + n) m
pieces_skip count place time ws p zero m none = at (0 + m) m (p + 0) (omega arith) (omega arith)
  where
    at : (k j q : ℕ) → k ≡ j → q ≡ p → pieces_from count place time ws p k ≡ pieces_from count place time ws q j
    at k j q e f = ap (pieces_from count place time ws p) e ∙ ap (λ (z : ℕ). pieces_from count place time ws z j) (sym f)
pieces_skip count place time ws p (suc n) m none =
    ap (pieces_from count place time ws p) (let e : suc n + m ≡ suc (n + m) = omega arith in e)
    ∙ ap (λ (vs : List Write). piece_of place time p vs ++ pieces_from count place time ws (suc p) (n + m)) (none p (omega arith) (omega arith))
    ∙ pieces_skip count place time ws (suc p) n m (λ q le lt. none q (omega arith) (omega arith))
    ∙ ap (λ (z : ℕ). pieces_from count place time ws z m) (let e : suc p + n ≡ p + suc n = omega arith in e)

-- from one partition that may be written to the next
pub pieces_next : (count place time : ℕ) (ws : List Write) (p next : ℕ) → p ≤ next → next ≤ count → ((q : ℕ) → p ≤ q → q < next → writes_on count q ws ≡ [])
    → pieces_from count place time ws p (count - p) ≡ pieces_from count place time ws next (count - next)
pieces_next count place time ws p next le most none =
    ap (pieces_from count place time ws p) (let e : count - p ≡ (next - p) + (count - next) = omega arith in e)
    ∙ pieces_skip count place time ws p (next - p) (count - next) (λ q a b. none q a (omega arith))
    ∙ ap (λ (z : ℕ). pieces_from count place time ws z (count - next)) (let e : p + (next - p) ≡ next = omega arith in e)

-- the piece of a partition that is written
pub piece_first : (count place time : ℕ) (ws : List Write) (p : ℕ) → p < count → (writes_on count p ws ≡ [] → ⊥)
    → pieces_from count place time ws p (count - p) ≡ record { place = place; partition = p; time = time; writes = writes_on count p ws } ∷ pieces_from count place time ws (p + 1) (count - (p + 1))
piece_first count place time ws p lt there =
    ap (pieces_from count place time ws p) (let e : count - p ≡ suc (count - (p + 1)) = omega arith in e)
    ∙ ap (λ (ps : List Piece). ps ++ pieces_from count place time ws (suc p) (count - (p + 1))) (one (writes_on count p ws) there)
    ∙ ap (λ (z : ℕ). record { place = place; partition = p; time = time; writes = writes_on count p ws } ∷ pieces_from count place time ws z (count - (p + 1))) (let e : suc p ≡ p + 1 = omega arith in e)
  where
    one : (vs : List Write) → (vs ≡ [] → ⊥) → piece_of place time p vs ≡ record { place = place; partition = p; time = time; writes = vs } ∷ []
    one [] there = absurd (there refl)
    one (v ∷ vs) there = refl

-- before the first partition that is written, all pieces are to come
pub pieces_begin : (count place time : ℕ) (ws : List Write) (next : ℕ) → next ≤ count → ((q : ℕ) → 0 ≤ q → q < next → writes_on count q ws ≡ []) → pieces_from count place time ws next (count - next) ≡ request_pieces count place time ws
pieces_begin count place time ws next most none =
    sym (pieces_next count place time ws 0 next (omega arith) most none) ∙ ap (pieces_from count place time ws 0) (let e : count - 0 ≡ count = omega arith in e)

-- one piece more, up to the next partition that is written
pub pieces_grow : (count place time : ℕ) (ws : List Write) (p next : ℕ) (items : List Piece) (found : List Write) → p < count → (writes_on count p ws ≡ [] → ⊥) → found ≡ writes_on count p ws
    → p + 1 ≤ next → next ≤ count → ((q : ℕ) → p + 1 ≤ q → q < next → writes_on count q ws ≡ [])
    → (items ++ record { place = place; partition = p; time = time; writes = found } ∷ []) ++ pieces_from count place time ws next (count - next) ≡ items ++ pieces_from count place time ws p (count - p)
pieces_grow count place time ws p next items found lt there is le most none =
    append_assoc items (record { place = place; partition = p; time = time; writes = found } ∷ []) (pieces_from count place time ws next (count - next))
    ∙ ap (λ (vs : List Write). items ++ (record { place = place; partition = p; time = time; writes = vs } ∷ pieces_from count place time ws next (count - next))) is
    ∙ ap (λ (ps : List Piece). items ++ (record { place = place; partition = p; time = time; writes = writes_on count p ws } ∷ ps)) (sym (pieces_next count place time ws (p + 1) next le most none))
    ∙ ap (λ (ps : List Piece). items ++ ps) (sym (piece_first count place time ws p lt there))
