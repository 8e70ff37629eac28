-- What copies are asked by a commit: from one copy of a partition to the next, and from one write to the next.
use Rattle.std.proofs.Common.{◌≡◌, ℕ, ◌+◌, ◌*◌, ◌<◌, Bool, true, false, cond, nat_eq, nat_lt, List, [], ◌∷◌, ◌++◌, map, length, refl, sym, ap, ◌∙◌, subst, arith, take, slice_index_or, slice_set}
use Prim.Native.Nat.{◌%◌}
use Rattle.std.proofs.lemmas.Bool.{eqb-true, eq-eqb, ne_eqb, ltb-true, ltb-false, lt-ltb, le-ltb}
use Rattle.std.proofs.lemmas.List.{append-nil, map-append, take_more}
use Rattle.std.proofs.lemmas.List.Elements.{filter-append}
use Rattle.std.proofs.lemmas.Nat.{div-add-mod', div-mul-add, mod-mul-add, mul-add-lt}
use Rattle.coco_types.specs.declared.call.Write.{Write}
use Rattle.coco_copy.specs.CopyState.{CopyState}
use Rattle.coco_copy.specs.Puts.{after_ask, answer_in}
use Rattle.coco_copy.specs.declared.ops.CopyAsk.{CopyAsk}
use Rattle.coco_copy.specs.declared.ops.CopyAnswer.{CopyAnswer}
use Rattle.coco_desks.specs.Gains.{AreSame, Gain}
use Rattle.coco_desks.proofs.GainLemmas.{gain_as, gain_none, gain_set, gain_then, stepped_calls}
use Rattle.coco_journaled.specs.Passes.{Passing, Steps}
use Rattle.coco_worker.specs.Copying.{asked, node_of, partition_of_table, put, put_at, puts_at}
use Rattle.coco_pieces.specs.Pieces.{writes_on}
use Rattle.coco_worker.specs.declared.copies.WorkerCommit.{WorkerCommit}

abbrev pub Carries : Type 0
Carries = ℕ → ℕ → ℕ → ℕ → Bool

-- ---- from one write to the next

pub puts_none : (carries : Carries) (c : WorkerCommit) (table : ℕ) → puts_at carries c table [] ≡ []
puts_none carries c table = elim (carries c.config.epoch c.worker c.place (node_of c.config table)) as (λ b. cond {A = List CopyAsk} b [] [] ≡ []) [ true ↦ refl | false ↦ refl ]

pub puts_append : (carries : Carries) (c : WorkerCommit) (table : ℕ) (xs ys : List Write) → puts_at carries c table (xs ++ ys) ≡ puts_at carries c table xs ++ puts_at carries c table ys
puts_append carries c table xs ys = by_net (carries c.config.epoch c.worker c.place (node_of c.config table))
  where
    on : List Write → List CopyAsk
    on ws = map (put c) (writes_on c.partitions (partition_of_table c.config table) ws)

    by_net : (b : Bool) → cond b (map (put c) (writes_on c.partitions (partition_of_table c.config table) (xs ++ ys))) [] ≡ cond b (map (put c) (writes_on c.partitions (partition_of_table c.config table) xs)) [] ++ cond b (map (put c) (writes_on c.partitions (partition_of_table c.config table) ys)) []
    by_net true =
        ap (map (put c)) (filter-append (λ (w : Write). nat_eq (w.key.row % c.partitions) (partition_of_table c.config table)) xs ys)
        ∙ map-append (put c) (writes_on c.partitions (partition_of_table c.config table) xs) (writes_on c.partitions (partition_of_table c.config table) ys)
    by_net false = refl

-- ---- one write, from one copy to the next

-- what the first n copies of each partition are asked
abbrev pub puts_below : ℕ → Carries → WorkerCommit → ℕ → List Write → List CopyAsk
puts_below n carries c table ws = cond (nat_lt (table % c.config.copies) n) (puts_at carries c table ws) []

pub below_none : (carries : Carries) (c : WorkerCommit) (table : ℕ) (ws : List Write) → puts_below 0 carries c table ws ≡ []
below_none carries c table ws = ap (λ b. cond b (puts_at carries c table ws) []) (le-ltb (table % c.config.copies) 0 (omega arith))

-- a write elsewhere isn't put there
elsewhere : (carries : Carries) (c : WorkerCommit) (table : ℕ) (w : Write) → (w.key.row % c.partitions ≡ partition_of_table c.config table → ⊥) → puts_at carries c table (w ∷ []) ≡ []
elsewhere carries c table w away =
    elim (nat_eq (w.key.row % c.partitions) (partition_of_table c.config table)) as (λ b. nat_eq (w.key.row % c.partitions) (partition_of_table c.config table) ≡ b → cond (carries c.config.epoch c.worker c.place (node_of c.config table)) (map (put c) (cond {A = List Write} b (w ∷ []) [])) [] ≡ []) [
      | true ↦ λ is. absurd (away (eqb-true (w.key.row % c.partitions) (partition_of_table c.config table) is))
      | false ↦ λ _. elim (carries c.config.epoch c.worker c.place (node_of c.config table)) as (λ b. cond {A = List CopyAsk} b [] [] ≡ []) [ true ↦ refl | false ↦ refl ]
    ] refl

-- a write is put where the net carries it
here : (carries : Carries) (c : WorkerCommit) (table : ℕ) (w : Write) → w.key.row % c.partitions ≡ partition_of_table c.config table → puts_at carries c table (w ∷ []) ≡ cond {A = List CopyAsk} (carries c.config.epoch c.worker c.place (node_of c.config table)) (put c w ∷ []) []
here carries c table w is =
    ap (λ b. cond (carries c.config.epoch c.worker c.place (node_of c.config table)) (map (put c) (cond {A = List Write} b (w ∷ []) [])) []) (eq-eqb (w.key.row % c.partitions) (partition_of_table c.config table) is)

-- the table of a copy, and what stands at it
pub at_table : (c : WorkerCommit) (p k : ℕ) → k < c.config.copies → partition_of_table c.config (p * c.config.copies + k) ≡ p
at_table c p k lt = div-mul-add p c.config.copies k lt

pub at_copy : (c : WorkerCommit) (p k : ℕ) → k < c.config.copies → (p * c.config.copies + k) % c.config.copies ≡ k
at_copy c p k lt = mod-mul-add p c.config.copies k lt

pub at_node : (c : WorkerCommit) (p k : ℕ) → k < c.config.copies → node_of c.config (p * c.config.copies + k) ≡ (p + k + 1) % c.config.nodes
at_node c p k lt = ap (λ q. (q + (p * c.config.copies + k) % c.config.copies + 1) % c.config.nodes) (at_table c p k lt) ∙ ap (λ q. (p + q + 1) % c.config.nodes) (at_copy c p k lt)

is_table : (c : WorkerCommit) (table p k : ℕ) → partition_of_table c.config table ≡ p → table % c.config.copies ≡ k → table ≡ p * c.config.copies + k
is_table c table p k is at = sym (div-add-mod' table c.config.copies) ∙ ap (λ q. q * c.config.copies + table % c.config.copies) is ∙ ap (λ q. p * c.config.copies + q) at

-- what the next copy of the write's partition is asked
pub below_step : (carries : Carries) (c : WorkerCommit) (w : Write) (k table : ℕ) → k < c.config.copies
    → puts_below k carries c table (w ∷ []) ++ put_at carries c (w.key.row % c.partitions) k w table ≡ puts_below (k + 1) carries c table (w ∷ [])
below_step carries c w k table lt = by_table (nat_eq at table) refl
  where
    p : ℕ
    p = w.key.row % c.partitions

    at : ℕ
    at = w.key.row % c.partitions * c.config.copies + k

    all : List CopyAsk
    all = puts_at carries c table (w ∷ [])

    one : List CopyAsk
    one = cond (carries c.config.epoch c.worker c.place ((w.key.row % c.partitions + k + 1) % c.config.nodes)) (put c w ∷ []) []

    at_it : at ≡ table → all ≡ one
    at_it e = here carries c table w (sym (at_table c p k lt) ∙ ap (partition_of_table c.config) e)
        ∙ ap (λ node. cond {A = List CopyAsk} (carries c.config.epoch c.worker c.place node) (put c w ∷ []) []) (ap (node_of c.config) (sym e) ∙ at_node c p k lt)

    away : (at ≡ table → ⊥) → table % c.config.copies ≡ k → all ≡ []
    away other e = elsewhere carries c table w (λ is. other (sym (is_table c table p k (sym is) e)))

    by_copy : (at ≡ table → ⊥) → (low high : Bool) → nat_lt (table % c.config.copies) k ≡ low → nat_lt (table % c.config.copies) (k + 1) ≡ high → cond low all [] ++ [] ≡ cond high all []
    by_copy other true true a b = append-nil all
    by_copy other true false a b = absurd (let lo = ltb-true (table % c.config.copies) k a in let hi = ltb-false (table % c.config.copies) (k + 1) b in omega arith)
    by_copy other false true a b = sym (away other (let lo = ltb-false (table % c.config.copies) k a in let hi = ltb-true (table % c.config.copies) (k + 1) b in omega arith))
    by_copy other false false a b = refl

    by_table : (b : Bool) → nat_eq at table ≡ b → cond (nat_lt (table % c.config.copies) k) all [] ++ cond b one [] ≡ cond (nat_lt (table % c.config.copies) (k + 1)) all []
    by_table true is =
        let e : at ≡ table = eqb-true at table is in
        let copy : table % c.config.copies ≡ k = ap (λ t. t % c.config.copies) (sym e) ∙ at_copy c p k lt in
        ap (λ b. cond b all [] ++ one) (le-ltb (table % c.config.copies) k (omega arith))
        ∙ sym (at_it e) ∙ ap (λ b. cond b all []) (sym (lt-ltb (table % c.config.copies) (k + 1) (omega arith)))
    by_table false is = by_copy (λ e. (let h : true ≡ false = sym (eq-eqb at table e) ∙ is in cc)) (nat_lt (table % c.config.copies) k) (nat_lt (table % c.config.copies) (k + 1)) refl refl

-- ---- the passes of copies

abbrev pub CopyPass : Type 0
CopyPass = Passing CopyState CopyAsk CopyAnswer

pub table_within : (parts count n p k len : ℕ) → len ≡ parts * count → n ≡ count → p < parts → k < count → p * n + k < len
table_within parts count n p k len many is lp lk = subst (λ (m : ℕ). p * m + k < len) (sym is) (let h = mul-add-lt p count k parts lp lk in omega arith)

-- what the net says of the node that a copy stands on
pub carried_to : (carries : Carries) (c : WorkerCommit) (p k nodes : ℕ) (carried : Bool) → carried ≡ carries c.config.epoch c.worker c.place ((p + k + 1) % nodes) → nodes ≡ c.config.nodes → carried ≡ carries c.config.epoch c.worker c.place ((p + k + 1) % c.config.nodes)
carried_to carries c p k nodes carried net same = net ∙ ap (λ n. carries c.config.epoch c.worker c.place ((p + k + 1) % n)) same

module _ (carries : Carries) (c : WorkerCommit) (w : Write) where
  -- one copy more is asked
  pub copied_more : (k p n : ℕ) (a b d : List CopyPass) → k < c.config.copies → p ≡ w.key.row % n → n ≡ c.partitions → AreSame a b → Gain asked a b (λ table. puts_below k carries c table (w ∷ [])) → Gain asked b d (put_at carries c p k w)
      → Gain asked a d (λ table. puts_below (k + 1) carries c table (w ∷ []))
  copied_more k p n a b d lt at count same so next =
      let here : Gain asked b d (put_at carries c (w.key.row % c.partitions) k w) = subst (λ (q : ℕ). Gain asked b d (put_at carries c q k w)) (at ∙ ap (λ (m : ℕ). w.key.row % m) count) next in
      gain_as asked a d (λ table. puts_below k carries c table (w ∷ []) ++ put_at carries c (w.key.row % c.partitions) k w table) (λ table. puts_below (k + 1) carries c table (w ∷ []))
      (gain_then asked a b d (λ table. puts_below k carries c table (w ∷ [])) (put_at carries c (w.key.row % c.partitions) k w) same so here) (λ table _. below_step carries c w k table lt)

  -- ---- one write, at one copy

  module _ (p k : ℕ) (carried : Bool) (net : carried ≡ carries c.config.epoch c.worker c.place ((p + k + 1) % c.config.nodes)) (passes : List CopyPass) where
    at_copy_is : (table : ℕ) → cond (nat_eq (p * c.config.copies + k) table) (cond carried (put c w ∷ []) []) [] ≡ put_at carries c p k w table
    at_copy_is table = ap (λ b. cond (nat_eq (p * c.config.copies + k) table) (cond {A = List CopyAsk} b (put c w ∷ []) []) []) net

    -- the net doesn't carry the write to the copy
    pub put_skip : carried ≡ false → Gain asked passes passes (put_at carries c p k w)
    put_skip not = gain_as asked passes passes (λ _. []) (put_at carries c p k w) (gain_none asked passes)
        (λ table _. nothing (nat_eq (p * c.config.copies + k) table) ∙ ap (λ b. cond (nat_eq (p * c.config.copies + k) table) (cond {A = List CopyAsk} b (put c w ∷ []) []) []) (sym not) ∙ at_copy_is table)
      where
        nothing : (b : Bool) → [] ≡ cond {A = List CopyAsk} b [] []
        nothing true = refl
        nothing false = refl

    -- the copy is asked
    pub put_step : carried ≡ true → (i : ℕ) (q d : CopyPass) (answer : CopyAnswer) → i ≡ p * c.config.copies + k → i < length passes → Steps answer_in after_ask (slice_index_or passes i d) (put c w) answer q → Gain asked passes (slice_set passes i q) (put_at carries c p k w)
    put_step is i q d answer at within steps = gain_set asked passes i q d (put c w) (put_at carries c p k w) within (stepped_calls answer_in after_ask asked (slice_index_or passes i d) q (put c w) answer (put c w) steps (λ _. refl))
        (sym (at_copy_is i) ∙ ap (λ b. cond {A = List CopyAsk} b (cond carried (put c w ∷ []) []) []) (eq-eqb (p * c.config.copies + k) i (sym at)) ∙ ap (λ b. cond {A = List CopyAsk} b (put c w ∷ []) []) is)
        (λ j away. sym (at_copy_is j) ∙ ap (λ b. cond {A = List CopyAsk} b (cond carried (put c w ∷ []) []) []) (ne_eqb (p * c.config.copies + k) j (λ e. away (at ∙ e))))

-- one write more is delivered
pub delivered_more : (carries : Carries) (c : WorkerCommit) (ws : List Write) (i : ℕ) (w : Write) (a b d : List CopyPass) → i < length ws → w ≡ slice_index_or ws i w → AreSame a b → Gain asked a b (λ table. puts_at carries c table (take i ws))
    → Gain asked b d (λ table. puts_at carries c table (w ∷ [])) → Gain asked a d (λ table. puts_at carries c table (take (i + 1) ws))
delivered_more carries c ws i w a b d lt is same so next =
    gain_as asked a d (λ table. puts_at carries c table (take i ws) ++ puts_at carries c table (w ∷ [])) (λ table. puts_at carries c table (take (i + 1) ws))
    (gain_then asked a b d (λ table. puts_at carries c table (take i ws)) (λ table. puts_at carries c table (w ∷ [])) same so next)
    (λ table _. sym (ap (puts_at carries c table) (take_more ws i w lt ∙ ap (λ (x : Write). take i ws ++ x ∷ []) (sym is)) ∙ puts_append carries c table (take i ws) (w ∷ [])))
