-- The order of pieces: what is sorted is in order, and there is one order in which pieces rise.
use Rattle.std.proofs.Common.{◌≡◌, ◌⊎◌, inl, inr, ℕ, zero, suc, ◌+◌, ◌<◌, ◌≤◌, ◌==◌, Bool, true, false, ◌&&◌, cond, nat_eq, List, [], ◌∷◌, ◌++◌, length, get_or, refl, sym, ap, ◌∙◌, subst, arith}
use Rattle.std.specs.Cmp.{IsTotalOrder}
use Rattle.std.specs.List.{AllByRecursion, Contains, flat_map, sum_by}
use Rattle.std.specs.List.Sorted.{IsPermutation, IsSortedByKey}
use Rattle.std.specs.Ordering.{nat_cmp, ordering_then, is_lt}
use Rattle.std.specs.declared.cmp.Ordering.{Ordering}
use Rattle.std.specs.declared.cmp.Ordering.TheVariants.{Less, Equal, Greater}
use Rattle.std.proofs.lemmas.Bool.{and_from, and_parts, both_ways, cases_Bool, eq-eqb, eqb-true, lt-ltb}
use Rattle.std.proofs.lemmas.Cmp.{on_total, then_total, nat_cmp_total, tied_itself}
use Rattle.std.proofs.lemmas.List.Sorted.{Contains-permutation, ranks_by, sorted_far}
use Rattle.std.proofs.lemmas.List.Sums.{sum_by-append, sum_by-cons}
use Rattle.coco_types.specs.declared.call.Done.{Done}
use Rattle.coco_types.specs.declared.call.Piece.{Piece}
use Rattle.coco_types.specs.declared.call.Request.{Request}
use Rattle.coco_types.specs.declared.call.Write.{Write}
use Rattle.coco_ast.specs.History.{IsBefore, IsRising}
use Rattle.coco_ast.proofs.Lists.{all_append, all_weaker}
use Rattle.coco_order.specs.OneKey.{Among}
use Rattle.coco_pieces.specs.Pieces.{piece_of, pieces_from, writes_on}
use Rattle.coco_parallel.specs.PieceOrder.{ArePiecesInOrder, IsEarlier, id_at}

-- ---- members

module _ {X : Type 0} where
  pub among_all : (P : X → Type 0) (xs : List X) (x : X) → AllByRecursion P xs → Among xs x → P x
  among_all P [] x all h = absurd h
  among_all P (y ∷ xs) x all (inl same) = subst P same all.0
  among_all P (y ∷ xs) x all (inr more) = among_all P xs x all.1 more

  pub all_among : (P : X → Type 0) (xs : List X) → ((x : X) → Among xs x → P x) → AllByRecursion P xs
  all_among P [] each = tt
  all_among P (x ∷ xs) each = (each x (inl refl), all_among P xs (λ y among. each y (inr among)))

  pub among_left : (xs ys : List X) (x : X) → Among xs x → Among (xs ++ ys) x
  among_left [] ys x h = absurd h
  among_left (y ∷ xs) ys x (inl same) = inl same
  among_left (y ∷ xs) ys x (inr more) = inr (among_left xs ys x more)

  pub among_right : (xs ys : List X) (x : X) → Among ys x → Among (xs ++ ys) x
  among_right [] ys x h = h
  among_right (y ∷ xs) ys x h = inr (among_right xs ys x h)

  among_either : (xs ys : List X) (x : X) → Among (xs ++ ys) x → Among xs x ⊎ Among ys x
  among_either [] ys x h = inr h
  among_either (y ∷ xs) ys x (inl same) = inl (inl same)
  among_either (y ∷ xs) ys x (inr more) = elim (among_either xs ys x more) [ inl here ↦ inl (inr here) | inr there ↦ inr there ]

  among_contains : (xs : List X) (x : X) → Among xs x → Contains xs x
  among_contains [] x h = absurd h
  among_contains (y ∷ xs) x (inl same) = (0, omega arith, same)
  among_contains (y ∷ xs) x (inr more) = let rest = among_contains xs x more in (suc rest.0, omega (arith, rest.1), rest.2)

  contains_among : (xs : List X) (x : X) → Contains xs x → Among xs x
  contains_among [] x h = absurd (omega (arith, h.1))
  contains_among (y ∷ xs) x (zero, lt, same) = inl same
  contains_among (y ∷ xs) x (suc n, lt, same) = inr (contains_among xs x (n, omega arith, same))

  pub among_moved : (xs ys : List X) → IsPermutation xs ys → (x : X) → Among xs x → Among ys x
  among_moved xs ys moved x h = contains_among ys x (Contains-permutation xs ys x moved (among_contains xs x h))

module _ {X Y : Type 0} (g : X → List Y) where
  pub in_flat : (xs : List X) (x : X) (y : Y) → Among xs x → Among (g x) y → Among (flat_map g xs) y
  in_flat [] x y h at = absurd h
  in_flat (z ∷ xs) x y (inl same) at = among_left (g z) (flat_map g xs) y (subst (λ (w : X). Among (g w) y) (sym same) at)
  in_flat (z ∷ xs) x y (inr more) at = among_right (g z) (flat_map g xs) y (in_flat xs x y more at)

  pub of_flat : (xs : List X) (y : Y) → Among (flat_map g xs) y → (x : X) × Among xs x × Among (g x) y
  of_flat [] y h = absurd h
  of_flat (z ∷ xs) y h = elim (among_either (g z) (flat_map g xs) y h) [
    | inl here ↦ (z, inl refl, here)
    | inr more ↦ (let rest = of_flat xs y more in (rest.0, inr rest.1, rest.2))
  ]

  pub sum_flat : (f : Y → ℕ) (xs : List X) → sum_by f (flat_map g xs) ≡ sum_by (λ x. sum_by f (g x)) xs
  sum_flat f [] = refl
  sum_flat f (x ∷ xs) = sum_by-append f (g x) (flat_map g xs) ∙ ap (λ (n : ℕ). sum_by f (g x) + n) (sum_flat f xs) ∙ sym (sum_by-cons (λ (z : X). sum_by f (g z)) x xs)

-- ---- how many pass a test

module _ {X : Type 0} (p : X → Bool) where
  abbrev pub weight : X → ℕ
  weight x = cond (p x) 1 0

  counted : (x : X) (xs : List X) → sum_by weight (x ∷ xs) ≡ weight x + sum_by weight xs
  counted x xs = sum_by-cons weight x xs

  weighs : (x : X) (b : Bool) → p x ≡ b → weight x ≡ cond b 1 0
  weighs x b is = ap (λ (c : Bool). (let n : ℕ = cond c 1 0 in n)) is

  one_passes : (xs : List X) (x : X) → Among xs x → p x ≡ true → 1 ≤ sum_by weight xs
  one_passes [] x h t = absurd h
  one_passes (y ∷ xs) x (inl same) t = omega (arith, counted y xs, weighs y true (ap p same ∙ t))
  one_passes (y ∷ xs) x (inr more) t = omega (arith, counted y xs, one_passes xs x more t)

  that_passes : (xs : List X) → 1 ≤ sum_by weight xs → (x : X) × Among xs x × (p x ≡ true)
  that_passes [] some = absurd (omega (arith, some))
  that_passes (x ∷ xs) some = elim (cases_Bool (p x)) [
    | inl t ↦ (x, inl refl, t)
    | inr f ↦ (let rest = that_passes xs (omega (arith, some, counted x xs, weighs x false f)) in (rest.0, inr rest.1, rest.2))
  ]

module _ (requests : List Request) where
  -- ---- sorted

  abbrev pub Rank : Type 0
  Rank = ℕ × ℕ × ℕ

  abbrev pub rank : Piece → Rank
  rank p = (p.time, id_at requests p.place, p.partition)

  abbrev pub rank_cmp : Rank → Rank → Ordering
  rank_cmp x y = ordering_then (ordering_then (nat_cmp x.0 y.0) (nat_cmp x.1 y.1)) (nat_cmp x.2 y.2)

  ranks_total : IsTotalOrder rank_cmp
  ranks_total = then_total (then_total (on_total (λ (x : Rank). x.0) nat_cmp_total) (on_total (λ (x : Rank). x.1) nat_cmp_total)) (on_total (λ (x : Rank). x.2) nat_cmp_total)

  less : (x y : ℕ) → x < y → nat_cmp x y ≡ Less
  less x y h = ap (λ b. cond b Less (cond (x == y) Equal Greater)) (lt-ltb x y h)

  tied : (x y : ℕ) → x ≡ y → nat_cmp x y ≡ Equal
  tied x y e = subst (λ (z : ℕ). nat_cmp x z ≡ Equal) e (tied_itself nat_cmp_total x)

  ranked : (q p : Piece) → IsEarlier requests q p → is_lt (rank_cmp (rank q) (rank p)) ≡ true
  ranked q p (inl time) = ap (λ o. is_lt (ordering_then (ordering_then o (nat_cmp (rank q).1 (rank p).1)) (nat_cmp q.partition p.partition))) (less q.time p.time time)
  ranked q p (inr (time, inl id)) =
      ap (λ o. is_lt (ordering_then (ordering_then o (nat_cmp (rank q).1 (rank p).1)) (nat_cmp q.partition p.partition))) (tied q.time p.time time)
      ∙ ap (λ o. is_lt (ordering_then o (nat_cmp q.partition p.partition))) (less (rank q).1 (rank p).1 id)
  ranked q p (inr (time, inr (id, partition))) =
      ap (λ o. is_lt (ordering_then (ordering_then o (nat_cmp (rank q).1 (rank p).1)) (nat_cmp q.partition p.partition))) (tied q.time p.time time)
      ∙ ap (λ o. is_lt (ordering_then o (nat_cmp q.partition p.partition))) (tied (rank q).1 (rank p).1 id)
      ∙ ap is_lt (less q.partition p.partition partition)

  not_earlier : (q p : Piece) → is_lt (rank_cmp (rank q) (rank p)) ≡ false → IsEarlier requests q p → ⊥
  not_earlier q p f h = both_ways (is_lt (rank_cmp (rank q) (rank p))) f (ranked q p h)

  none_earlier : (x : Piece) (ys : List Piece) → ((j : ℕ) (d : Piece) → j < length ys → is_lt (rank_cmp (rank (get_or ys j d)) (rank x)) ≡ false) → AllByRecursion (λ q. IsEarlier requests q x → ⊥) ys
  none_earlier x [] h = tt
  none_earlier x (y ∷ ys) h = (not_earlier y x (h 0 y (omega arith)), none_earlier x ys (λ j d lt. h (suc j) d (omega arith)))

  in_order : (xs : List Piece) → ((i j : ℕ) (d : Piece) → i ≤ j → j < length xs → is_lt (rank_cmp (rank (get_or xs j d)) (rank (get_or xs i d))) ≡ false) → ArePiecesInOrder requests xs
  in_order [] h = tt
  in_order (x ∷ xs) h = (none_earlier x xs (λ j d lt. h 0 (suc j) d (omega arith) (omega arith)), in_order xs (λ i j d le lt. h (suc i) (suc j) d (omega arith) (omega arith)))

  pub sorted_in_order : (xs : List Piece) → IsSortedByKey rank rank_cmp xs → ArePiecesInOrder requests xs
  sorted_in_order xs sorted = in_order xs (sorted_far (λ (x y : Piece). is_lt (rank_cmp (rank x) (rank y))) (ranks_by ranks_total rank) xs sorted)

  -- ---- of one time, id and partition

  pub record AreLevel (p q : Piece) : Type 0 where
    pub time : p.time ≡ q.time
    pub id : id_at requests p.place ≡ id_at requests q.place
    pub partition : p.partition ≡ q.partition

  abbrev level : Piece → Piece → Bool
  level p q = nat_eq p.time q.time && (nat_eq (id_at requests p.place) (id_at requests q.place) && nat_eq p.partition q.partition)

  are_level : (p q : Piece) → level p q ≡ true → AreLevel p q
  are_level p q t =
      let first = and_parts (nat_eq p.time q.time) (nat_eq (id_at requests p.place) (id_at requests q.place) && nat_eq p.partition q.partition) t in
      let then = and_parts (nat_eq (id_at requests p.place) (id_at requests q.place)) (nat_eq p.partition q.partition) first.1 in
      record { time = eqb-true p.time q.time first.0; id = eqb-true (id_at requests p.place) (id_at requests q.place) then.0; partition = eqb-true p.partition q.partition then.1 }

  level_itself : (p : Piece) → level p p ≡ true
  level_itself p =
      and_from (nat_eq p.time p.time) (nat_eq (id_at requests p.place) (id_at requests p.place) && nat_eq p.partition p.partition) (eq-eqb p.time p.time refl)
      (and_from (nat_eq (id_at requests p.place) (id_at requests p.place)) (nat_eq p.partition p.partition) (eq-eqb (id_at requests p.place) (id_at requests p.place) refl) (eq-eqb p.partition p.partition refl))

  apart : (p q : Piece) → AreLevel p q → (IsEarlier requests p q → ⊥) × (IsEarlier requests q p → ⊥)
  apart p q same = (λ before. ahead before, λ behind. back behind)
    where
      ahead : IsEarlier requests p q → ⊥
      ahead (inl lt) = omega (arith, lt, same.time)
      ahead (inr (time, inl lt)) = omega (arith, lt, same.id)
      ahead (inr (time, inr (id, lt))) = omega (arith, lt, same.partition)

      back : IsEarlier requests q p → ⊥
      back (inl lt) = omega (arith, lt, same.time)
      back (inr (time, inl lt)) = omega (arith, lt, same.id)
      back (inr (time, inr (id, lt))) = omega (arith, lt, same.partition)

  -- ---- rising

  abbrev pub Rise : List Piece → Type 0
  Rise [] = Unit {0}
  Rise (p ∷ ps) = AllByRecursion (IsEarlier requests p) ps × Rise ps

  rise_append : (xs ys : List Piece) → Rise xs → Rise ys → AllByRecursion (λ p. AllByRecursion (IsEarlier requests p) ys) xs → Rise (xs ++ ys)
  rise_append [] ys here there before = there
  rise_append (x ∷ xs) ys here there before = (all_append (IsEarlier requests x) xs ys here.0 before.0, rise_append xs ys here.1 there before.1)

  -- no two pieces that rise are level
  pub one_level : (xs : List Piece) → Rise xs → (p q : Piece) → Among xs p → Among xs q → AreLevel p q → p ≡ q
  one_level [] rise p q in_p in_q same = absurd in_p
  one_level (x ∷ xs) rise p q (inl is_p) (inl is_q) same = sym is_p ∙ is_q
  one_level (x ∷ xs) rise p q (inl is_p) (inr in_q) same = absurd ((apart p q same).0 (subst (λ (z : Piece). IsEarlier requests z q) is_p (among_all (IsEarlier requests x) xs q rise.0 in_q)))
  one_level (x ∷ xs) rise p q (inr in_p) (inl is_q) same = absurd ((apart p q same).1 (subst (λ (z : Piece). IsEarlier requests z p) is_q (among_all (IsEarlier requests x) xs p rise.0 in_p)))
  one_level (x ∷ xs) rise p q (inr in_p) (inr in_q) same = one_level xs rise.1 p q in_p in_q same

  -- pieces in order that are as many of each sort as pieces that rise are these
  pub same_order : (xs ys : List Piece) → Rise xs → ArePiecesInOrder requests ys → ((t : Piece → Bool) → sum_by (weight t) ys ≡ sum_by (weight t) xs) → ((p q : Piece) → Among xs p → Among ys q → AreLevel p q → p ≡ q) → ys ≡ xs
  same_order [] [] rise order counts one = refl
  same_order [] (y ∷ ys) rise order counts one = absurd (omega (arith, counts (λ _. true), counted (λ _. true) y ys))
  same_order (x ∷ xs) [] rise order counts one = absurd (omega (arith, counts (λ _. true), counted (λ _. true) x xs))
  same_order (x ∷ xs) (y ∷ ys) rise order counts one =
      ap (λ (z : Piece). z ∷ ys) first ∙ ap (λ (zs : List Piece). x ∷ zs) (same_order xs ys rise.1 order.1 rest (λ p q in_p in_q. one p q (inr in_p) (inr in_q)))
    where
      in_ys : Among (y ∷ ys) x
      in_ys =
          let found = that_passes (level x) (y ∷ ys) (omega (arith, counts (level x), one_passes (level x) (x ∷ xs) x (inl refl) (level_itself x))) in
          subst (λ (z : Piece). Among (y ∷ ys) z) (sym (one x found.0 (inl refl) found.1 (are_level x found.0 found.2))) found.1

      in_xs : Among (x ∷ xs) y
      in_xs =
          let found = that_passes (λ z. level z y) (x ∷ xs) (omega (arith, counts (λ z. level z y), one_passes (λ z. level z y) (y ∷ ys) y (inl refl) (level_itself y))) in
          subst (λ (z : Piece). Among (x ∷ xs) z) (one found.0 y found.1 (inl refl) (are_level found.0 y found.2)) found.1

      from : Among (y ∷ ys) x → Among (x ∷ xs) y → y ≡ x
      from (inl same) in_x = same
      from (inr later) (inl same) = sym same
      from (inr later) (inr behind) = absurd (among_all (λ q. IsEarlier requests q y → ⊥) ys x order.0 later (among_all (IsEarlier requests x) xs y rise.0 behind))

      first : y ≡ x
      first = from in_ys in_xs

      rest : (t : Piece → Bool) → sum_by (weight t) ys ≡ sum_by (weight t) xs
      rest t = omega (arith, counts t, counted t y ys, counted t x xs, ap (weight t) first)

  -- ---- the pieces of a request

  module _ (count place time : ℕ) (ws : List Write) where
    abbrev written : ℕ → List Write → Piece
    written p vs = record { place = place; partition = p; time = time; writes = vs }

    pub all_from : (P : Piece → Type 0) (p n : ℕ) → ((q : ℕ) (vs : List Write) → p ≤ q → P (written q vs)) → AllByRecursion P (pieces_from count place time ws p n)
    all_from P p zero each = tt
    all_from P p (suc n) each = joined (writes_on count p ws) (all_from P (suc p) n (λ q us le. each q us (omega arith)))
      where
        joined : (vs : List Write) → AllByRecursion P (pieces_from count place time ws (suc p) n) → AllByRecursion P (piece_of place time p vs ++ pieces_from count place time ws (suc p) n)
        joined [] rest = rest
        joined (v ∷ vs) rest = (each p (v ∷ vs) (omega arith), rest)

    pub rise_from : (p n : ℕ) → Rise (pieces_from count place time ws p n)
    rise_from p zero = tt
    rise_from p (suc n) = joined (writes_on count p ws) (rise_from (suc p) n)
      where
        joined : (vs : List Write) → Rise (pieces_from count place time ws (suc p) n) → Rise (piece_of place time p vs ++ pieces_from count place time ws (suc p) n)
        joined [] rest = rest
        joined (v ∷ vs) rest = (all_from (IsEarlier requests (written p (v ∷ vs))) (suc p) n (λ q us le. inr (refl, inr (refl, (let lt : p < q = omega arith in lt)))), rest)

  -- ---- the pieces of Dones

  -- a piece of the request of this Done
  pub record IsOfDone (d : Done) (p : Piece) : Type 0 where
    pub time : p.time ≡ d.time
    pub id : id_at requests p.place ≡ d.id

  earlier : (d e : Done) → d.epoch ≡ e.epoch → IsBefore d e → (p q : Piece) → IsOfDone d p → IsOfDone e q → IsEarlier requests p q
  earlier d e same (inl lt) p q of_d of_e = absurd (omega (arith, same, lt))
  earlier d e same (inr (epoch, inl lt)) p q of_d of_e = inl (omega (arith, lt, of_d.time, of_e.time))
  earlier d e same (inr (epoch, inr (time, lt))) p q of_d of_e = inr (of_d.time ∙ time ∙ sym of_e.time, inl (omega (arith, lt, of_d.id, of_e.id)))

  module _ (g : Done → List Piece) (epoch : ℕ) where
    pub dones_rise : (ds : List Done) → ((d : Done) → Among ds d → Rise (g d) × AllByRecursion (IsOfDone d) (g d)) → AllByRecursion (λ d. d.epoch ≡ epoch) ds → IsRising ds → Rise (flat_map g ds)
    dones_rise [] each numbered rising = tt
    dones_rise (d ∷ ds) each numbered rising =
        rise_append (g d) (flat_map g ds) (each d (inl refl)).0 (dones_rise ds (λ e in_e. each e (inr in_e)) numbered.1 rising.1)
        (all_weaker (IsOfDone d) (λ p. AllByRecursion (IsEarlier requests p) (flat_map g ds)) behind (g d) (each d (inl refl)).1)
      where
        behind : (p : Piece) → IsOfDone d p → AllByRecursion (IsEarlier requests p) (flat_map g ds)
        behind p of_d = all_among (IsEarlier requests p) (flat_map g ds) (λ q in_q. (
            let found = of_flat g ds q in_q in
            let same : found.0.epoch ≡ epoch = among_all (λ (e : Done). e.epoch ≡ epoch) ds found.0 numbered.1 found.1 in
            earlier d found.0 (numbered.0 ∙ sym same) (among_all (λ (e : Done). IsBefore d e) ds found.0 rising.0 found.1) p q of_d (among_all (IsOfDone found.0) (g found.0) q (each found.0 (inr found.1)).1 found.2)
            ))
