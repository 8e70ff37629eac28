-- The last writes of an epoch's pieces, and the map that they give.
use Rattle.std.proofs.Common.{◌≡◌, ℕ, zero, suc, ◌+◌, ◌<◌, ◌≤◌, ◌%◌, Bool, true, false, cond, nat_eq, nat_lt, List, [], ◌∷◌, ◌++◌, Option, None, Some, Result, Ok, Err, IfOk, OnOk, refl, sym, ap, ◌∙◌, arith}
use Rattle.std.specs.List.Sorted.{IsStrictlySortedBy}
use Rattle.std.specs.Map.{keys_of, lookup}
use Rattle.std.specs.BTreeMap.{is_at}
use Rattle.std.specs.Option.{option_map, option_or, unwrap_or}
use Rattle.std.proofs.lemmas.Bool.{eqb-true, eq-eqb, ltb-true, ltb-false}
use Rattle.std.proofs.lemmas.Cmp.{eq_by_cmp_equiv}
use Rattle.std.proofs.lemmas.Map.{lookup-none}
use Rattle.std.proofs.lemmas.Map.Entries.{none_past_head}
use Rattle.std.proofs.lemmas.Map.Keys.{IsDistinct-from_sorted, sorted_head, sorted_tail}
use Rattle.coco_types.specs.RowKey.{RowKey, key_cmp}
use Rattle.coco_types.specs.declared.call.Done.{Done}
use Rattle.coco_types.specs.declared.call.Piece.{Piece}
use Rattle.coco_types.specs.declared.call.Request.{Request}
use Rattle.coco_types.specs.declared.call.Write.{Write}
use Rattle.coco_types.proofs.Keys.{is_key, key_swap, keys_total, one_key}
use Rattle.coco_types.proofs.KeyMaps.{same_keyed}
use Rattle.coco_ast.specs.History.{rows_after}
use Rattle.coco_ast.specs.Keyed.{Rows, put_over, value_at, write_at}
use Rattle.coco_ast.specs.Meaning.{Datum, run}
use Rattle.coco_ast.specs.Tree.{Procedures}
use Rattle.coco_ast.proofs.KeyedLemmas.{value_on_partition}
use Rattle.coco_ast.proofs.RunsPutWrites.{run_puts_writes}
use Rattle.coco_ast.proofs.Writing.{value_written}
use Rattle.coco_bytes.specs.Lists.{FitInTurn}
use Rattle.coco_entry.specs.Rows.{RowRises}
use Rattle.coco_entry.specs.declared.prepared.Row.{Row}
use Rattle.coco_tail.specs.Pieces.{pieces_of, place_of}
use Rattle.coco_pieces.specs.Pieces.{piece_of, pieces_from, request_pieces, writes_on}
use Rattle.coco_append.specs.LastWrites.{LeaveTheMap, Stamp, held_pieces, holds, last_stamp, last_value, row_stamp, writes_of}
use Rattle.coco_append.specs.Stamps.{row_of, rows_in, stamp_at}
use Rattle.coco_append.specs.declared.rows.Stamp.{Stamp as Kept}

two_sides : true ≡ false → ⊥
two_sides h = cc

-- ---- one or the other

pub or_none : {X : Type 0} (o : Option X) → option_or o None ≡ o
or_none None = refl
or_none (Some x) = refl

pub or_or : {X : Type 0} (a b c : Option X) → option_or (option_or a b) c ≡ option_or a (option_or b c)
or_or None b c = refl
or_or (Some x) b c = refl

abbrev pub stamped : ℕ → Option Datum → Option Stamp
stamped time = option_map (λ (v : Datum). (time, v))

abbrev value_in : Option Stamp → Option Datum
value_in = option_map (λ (s : Stamp). s.1)

value_stamped : (time : ℕ) (o : Option Datum) → value_in (stamped time o) ≡ o
value_stamped time None = refl
value_stamped time (Some v) = refl

value_or : (a b : Option Stamp) (d : Datum) → unwrap_or (value_in (option_or a b)) d ≡ unwrap_or (value_in a) (unwrap_or (value_in b) d)
value_or None b d = refl
value_or (Some s) b d = refl

-- ---- writes over a map

later : (o : Option Datum) (b : Bool) (v old : Datum) → unwrap_or o (cond b v old) ≡ unwrap_or (option_or o (cond b (Some v) None)) old
later (Some x) b v old = refl
later None true v old = refl
later None false v old = refl

value_over : (m : Rows) (ws : List Write) (k : RowKey) → value_at (put_over m ws) k ≡ unwrap_or (last_value k ws) (value_at m k)
value_over m [] k = refl
value_over m (w ∷ ws) k = value_over (write_at m w.key w.value) ws k ∙ ap (unwrap_or (last_value k ws)) (value_written m w.key w.value k) ∙ later (last_value k ws) (is_key k w.key) w.value (value_at m k)

-- ---- the pieces of a request

module _ (count : ℕ) (k : RowKey) where
  abbrev home : ℕ
  home = k.row % count

  -- a write elsewhere is of another key
  elsewhere : (w : Write) (q : ℕ) → w.key.row % count ≡ q → (home ≡ q → ⊥) → is_key k w.key ≡ false
  elsewhere w q at away = elim (is_key k w.key) as (λ b. is_key k w.key ≡ b → b ≡ false) [
    | true ↦ λ t. absurd (away (ap (λ (z : RowKey). z.row % count) (one_key k w.key t) ∙ at))
    | false ↦ λ _. refl
  ] refl

  on_home : (ws : List Write) → last_value k (writes_on count home ws) ≡ last_value k ws
  on_home [] = refl
  on_home (w ∷ ws) = elim (nat_eq (w.key.row % count) home) as (λ b. nat_eq (w.key.row % count) home ≡ b → last_value k (cond b (w ∷ writes_on count home ws) (writes_on count home ws)) ≡ last_value k (w ∷ ws)) [
    | true ↦ λ _. ap (λ o. option_or o (cond (is_key k w.key) (Some w.value) None)) (on_home ws)
    | false ↦ λ f. on_home ws ∙ sym (ap (λ b. option_or (last_value k ws) (cond b (Some w.value) None)) (elsewhere w (w.key.row % count) refl (λ e. two_sides (sym (eq-eqb (w.key.row % count) home (sym e)) ∙ f))) ∙ or_none (last_value k ws))
  ] refl

  on_other : (q : ℕ) (ws : List Write) → (home ≡ q → ⊥) → last_value k (writes_on count q ws) ≡ None
  on_other q [] away = refl
  on_other q (w ∷ ws) away = elim (nat_eq (w.key.row % count) q) as (λ b. nat_eq (w.key.row % count) q ≡ b → last_value k (cond b (w ∷ writes_on count q ws) (writes_on count q ws)) ≡ None) [
    | true ↦ λ t. ap (λ b. option_or (last_value k (writes_on count q ws)) (cond b (Some w.value) None)) (elsewhere w q (eqb-true (w.key.row % count) q t) away) ∙ or_none (last_value k (writes_on count q ws)) ∙ on_other q ws away
    | false ↦ λ _. on_other q ws away
  ] refl

  pub last_append : (ps qs : List Piece) → last_stamp k (ps ++ qs) ≡ option_or (last_stamp k qs) (last_stamp k ps)
  last_append [] qs = sym (or_none (last_stamp k qs))
  last_append (p ∷ ps) qs = ap (λ o. option_or o (stamped p.time (last_value k p.writes))) (last_append ps qs) ∙ or_or (last_stamp k qs) (last_stamp k ps) (stamped p.time (last_value k p.writes))

  module _ (held : List Bool) where
    held_append : (ps qs : List Piece) → held_pieces held (ps ++ qs) ≡ held_pieces held ps ++ held_pieces held qs
    held_append [] qs = refl
    held_append (p ∷ ps) qs = elim (holds held p.partition) as (λ b. cond b (p ∷ held_pieces held (ps ++ qs)) (held_pieces held (ps ++ qs)) ≡ cond b (p ∷ held_pieces held ps) (held_pieces held ps) ++ held_pieces held qs) [
      | true ↦ ap (λ xs. p ∷ xs) (held_append ps qs)
      | false ↦ held_append ps qs
    ]

    pub stamp_append : (ps qs : List Piece) → last_stamp k (held_pieces held (ps ++ qs)) ≡ option_or (last_stamp k (held_pieces held qs)) (last_stamp k (held_pieces held ps))
    stamp_append ps qs = ap (last_stamp k) (held_append ps qs) ∙ last_append (held_pieces held ps) (held_pieces held qs)

    piece_held : (place time q : ℕ) (ws : List Write) → holds held q ≡ true → last_stamp k (held_pieces held (piece_of place time q ws)) ≡ stamped time (last_value k ws)
    piece_held place time q [] is = refl
    piece_held place time q (w ∷ ws) is = ap (λ b. last_stamp k (cond b (record { place = place; partition = q; time = time; writes = w ∷ ws } ∷ []) [])) is

    piece_other : (place time q : ℕ) (ws : List Write) → last_value k ws ≡ None → last_stamp k (held_pieces held (piece_of place time q ws)) ≡ None
    piece_other place time q [] none = refl
    piece_other place time q (w ∷ ws) none = elim (holds held q) as (λ b. last_stamp k (cond b (record { place = place; partition = q; time = time; writes = w ∷ ws } ∷ []) []) ≡ None) [
      | true ↦ ap (stamped time) none
      | false ↦ refl
    ]

    from_other : (place time : ℕ) (ws : List Write) (p n : ℕ) → ((q : ℕ) → p ≤ q → q < p + n → home ≡ q → ⊥) → last_stamp k (held_pieces held (pieces_from count place time ws p n)) ≡ None
    from_other place time ws p zero away = refl
    from_other place time ws p (suc n) away =
        stamp_append (piece_of place time p (writes_on count p ws)) (pieces_from count place time ws (suc p) n)
        ∙ ap (λ o. option_or o (last_stamp k (held_pieces held (piece_of place time p (writes_on count p ws))))) (from_other place time ws (suc p) n (λ q le lt. away q (omega arith) (omega arith)))
        ∙ piece_other place time p (writes_on count p ws) (on_other p ws (away p (omega arith) (omega arith)))

    from_held : (place time : ℕ) (ws : List Write) (p n : ℕ) → p ≤ home → home < p + n → holds held home ≡ true → last_stamp k (held_pieces held (pieces_from count place time ws p n)) ≡ stamped time (last_value k ws)
    from_held place time ws p zero le lt is = absurd (omega arith)
    from_held place time ws p (suc n) le lt is =
        stamp_append (piece_of place time p (writes_on count p ws)) (pieces_from count place time ws (suc p) n)
        ∙ elim (nat_eq p home) as (λ b. nat_eq p home ≡ b → option_or (last_stamp k (held_pieces held (pieces_from count place time ws (suc p) n))) (last_stamp k (held_pieces held (piece_of place time p (writes_on count p ws)))) ≡ stamped time (last_value k ws)) [
          | true ↦ λ t. here (eqb-true p home t)
          | false ↦ λ f. there (λ a b h. from_held place time ws (suc p) n a b h) (λ e. two_sides (sym (eq-eqb p home e) ∙ f))
        ] refl
      where
        here : p ≡ home → option_or (last_stamp k (held_pieces held (pieces_from count place time ws (suc p) n))) (last_stamp k (held_pieces held (piece_of place time p (writes_on count p ws)))) ≡ stamped time (last_value k ws)
        here e =
            ap (λ o. option_or o (last_stamp k (held_pieces held (piece_of place time p (writes_on count p ws))))) (from_other place time ws (suc p) n (λ q over under same. (let f : p ≡ q = e ∙ same in omega arith)))
            ∙ piece_held place time p (writes_on count p ws) (ap (holds held) e ∙ is)
            ∙ ap (λ (q : ℕ). stamped time (last_value k (writes_on count q ws))) e
            ∙ ap (stamped time) (on_home ws)

        above : p ≤ home → (p ≡ home → ⊥) → suc p ≤ home
        above under other = elim (nat_lt p home) as (λ b. nat_lt p home ≡ b → suc p ≤ home) [
          | true ↦ λ t. (let lt : p < home = ltb-true p home t in omega arith)
          | false ↦ λ f. absurd (other (let over : home ≤ p = ltb-false p home f in omega arith))
        ] refl

        there : (suc p ≤ home → home < suc p + n → holds held home ≡ true → last_stamp k (held_pieces held (pieces_from count place time ws (suc p) n)) ≡ stamped time (last_value k ws))
            → (p ≡ home → ⊥) → option_or (last_stamp k (held_pieces held (pieces_from count place time ws (suc p) n))) (last_stamp k (held_pieces held (piece_of place time p (writes_on count p ws)))) ≡ stamped time (last_value k ws)
        there further other =
            ap (option_or (last_stamp k (held_pieces held (pieces_from count place time ws (suc p) n)))) (piece_other place time p (writes_on count p ws) (on_other p ws (λ e. other (sym e))))
            ∙ or_none (last_stamp k (held_pieces held (pieces_from count place time ws (suc p) n)))
            ∙ further (above le other) (omega arith) is

    -- ---- the pieces of Dones

    module _ (some : 0 < count) (is : holds held home ≡ true) (ps : Procedures) (requests : List Request) where
      pub value_after : (m : Rows) (ds : List Done) → value_at (rows_after ps m ds) k ≡ unwrap_or (value_in (last_stamp k (held_pieces held (pieces_of ps count requests m ds)))) (value_at m k)
      value_after m [] = refl
      value_after m (d ∷ ds) =
          let ws : List Write = (run ps d.call m).writes in
          let next : Rows = (run ps d.call m).rows in
          let place : ℕ = place_of requests d.id in
          let parts : List Piece = request_pieces count place d.time ws in
          let rest : List Piece = pieces_of ps count requests next ds in
          let one : last_stamp k (held_pieces held parts) ≡ stamped d.time (last_value k ws) = from_held place d.time ws 0 count (omega arith) (omega arith) is in
          value_after next ds
          ∙ ap (unwrap_or (value_in (last_stamp k (held_pieces held rest))))
          (ap (λ (n : Rows). value_at n k) (run_puts_writes ps d.call m) ∙ value_over m ws k
          ∙ ap (λ o. unwrap_or o (value_at m k)) (sym (ap value_in one ∙ value_stamped d.time (last_value k ws))))
          ∙ sym (value_or (last_stamp k (held_pieces held rest)) (last_stamp k (held_pieces held parts)) (value_at m k))
          ∙ ap (λ o. unwrap_or (value_in o) (value_at m k)) (sym (stamp_append parts rest))

-- ---- rows

value_of_or : (a b : Option Stamp) → value_in (option_or a b) ≡ option_or (value_in a) (value_in b)
value_of_or None b = refl
value_of_or (Some s) b = refl

value_of_one : (b : Bool) (s : Stamp) → value_in (cond b (Some s) None) ≡ cond b (Some s.1) None
value_of_one true s = refl
value_of_one false s = refl

rows_wrote : (k : RowKey) (rows : List Row) → last_value k (writes_of rows) ≡ value_in (row_stamp k rows)
rows_wrote k [] = refl
rows_wrote k (r ∷ rows) =
    ap (λ o. option_or o (cond (is_key k r.key) (Some r.value) None)) (rows_wrote k rows)
    ∙ ap (option_or (value_in (row_stamp k rows))) (sym (value_of_one (is_key k r.key) (r.time, r.value)))
    ∙ sym (value_of_or (row_stamp k rows) (cond (is_key k r.key) (Some (r.time, r.value)) None))

pub rows_leave_the_map : (ps : Procedures) (count : ℕ) (requests : List Request) (m : Rows) (dones : List Done) → LeaveTheMap ps count requests m dones
rows_leave_the_map ps count requests m dones held rows are p lt is = same_keyed _ _ (λ k.
    value_on_partition count p (put_over m (writes_of rows)) k
    ∙ elim (nat_eq (k.row % count) p) as (λ b. nat_eq (k.row % count) p ≡ b → cond b (value_at (put_over m (writes_of rows)) k) None ≡ cond b (value_at (rows_after ps m dones) k) None) [
      | true ↦ λ t. value_over m (writes_of rows) k
          ∙ ap (λ o. unwrap_or o (value_at m k)) (rows_wrote k rows ∙ ap value_in (are.each k))
          ∙ sym (value_after count k held (omega arith) (ap (holds held) (eqb-true (k.row % count) p t) ∙ is) ps requests m dones)
      | false ↦ λ _. refl
    ] refl
    ∙ sym (value_on_partition count p (rows_after ps m dones) k))

-- ---- entries

abbrev IsRising : List (RowKey × Kept) → Type 0
IsRising es = IsStrictlySortedBy key_cmp (keys_of es)

pub entries_rise : (es : List (RowKey × Kept)) → IsRising es → FitInTurn RowRises None (rows_in es)
entries_rise [] rising = tt
entries_rise (e ∷ es) rising = (tt, behind e es rising)
  where
    behind : (d : RowKey × Kept) (ds : List (RowKey × Kept)) → IsRising (d ∷ ds) → FitInTurn RowRises (Some (row_of d)) (rows_in ds)
    behind d [] up = tt
    behind d (c ∷ ds) up = ((sorted_head key_cmp d.0 (keys_of (c ∷ ds)) up).0, behind c ds (sorted_tail key_cmp d.0 (keys_of (c ∷ ds)) up))

pub entries_stamps : (k : RowKey) (es : List (RowKey × Kept)) → IsRising es → row_stamp k (rows_in es) ≡ stamp_at k es
entries_stamps k [] rising = refl
entries_stamps k (e ∷ es) rising =
    ap (λ o. option_or o (cond (is_key k e.0) (Some (e.1.time, e.1.value)) None)) (entries_stamps k es (sorted_tail key_cmp e.0 (keys_of es) rising))
    ∙ elim (is_key k e.0) as (λ b. is_key k e.0 ≡ b → option_or (stamp_at k es) (cond b (Some (e.1.time, e.1.value)) None) ≡ option_map (λ (s : Kept). (s.time, s.value)) (cond b (Some e.1) (lookup (is_at (key_cmp k)) es))) [
      | true ↦ λ t. ap (λ o. option_or (option_map (λ (s : Kept). (s.time, s.value)) o) (Some (e.1.time, e.1.value)))
          (lookup-none (is_at (key_cmp k)) es (none_past_head (eq_by_cmp_equiv keys_total) k e es (IsDistinct-from_sorted key_cmp (keys_of (e ∷ es)) rising) t))
      | false ↦ λ _. or_none (stamp_at k es)
    ] refl

-- ---- one piece or write more

-- a piece of a partition that isn't held
pub not_held : (k : RowKey) (held : List Bool) (p : Piece) (before : Option Stamp) → holds held p.partition ≡ false → before ≡ option_or (last_stamp k (held_pieces held (p ∷ []))) before
not_held k held p before is = sym (ap (λ b. option_or (last_stamp k (cond b (p ∷ []) [])) before) is)

pub is_held : (k : RowKey) (held : List Bool) (p : Piece) (before : Option Stamp) → holds held p.partition ≡ true → option_or (stamped p.time (last_value k p.writes)) before ≡ option_or (last_stamp k (held_pieces held (p ∷ []))) before
is_held k held p before is = sym (ap (λ b. option_or (last_stamp k (cond b (p ∷ []) [])) before) is)

put_last : (o : Option Datum) (b : Bool) (time : ℕ) (v : Datum) (e : Option Stamp) → option_or (stamped time o) (cond b (Some (time, v)) e) ≡ option_or (stamped time (option_or o (cond b (Some v) None))) e
put_last (Some x) b time v e = refl
put_last None true time v e = refl
put_last None false time v e = refl

pub write_kept : (k : RowKey) (time : ℕ) (w : Write) (v : Datum) (ws : List Write) (es fs : List (RowKey × Kept)) → v ≡ w.value
    → lookup (is_at (key_cmp k)) fs ≡ cond (is_key w.key k) (Some (record { time = time; value = v })) (lookup (is_at (key_cmp k)) es)
    → option_or (stamped time (last_value k ws)) (stamp_at k fs) ≡ option_or (stamped time (last_value k (w ∷ ws))) (stamp_at k es)
write_kept k time w v ws es fs is put =
    ap (λ o. option_or (stamped time (last_value k ws)) (option_map (λ (s : Kept). (s.time, s.value)) o)) (put ∙ ap (λ b. cond b (Some (record { time = time; value = v })) (lookup (is_at (key_cmp k)) es)) (key_swap w.key k))
    ∙ ap (option_or (stamped time (last_value k ws))) (apart (is_key k w.key))
    ∙ put_last (last_value k ws) (is_key k w.key) time v (stamp_at k es)
    ∙ ap (λ (x : Datum). option_or (stamped time (option_or (last_value k ws) (cond (is_key k w.key) (Some x) None))) (stamp_at k es)) is
  where
    apart : (b : Bool) → option_map (λ (s : Kept). (s.time, s.value)) (cond b (Some (record { time = time; value = v })) (lookup (is_at (key_cmp k)) es)) ≡ cond b (Some (time, v)) (stamp_at k es)
    apart true = refl
    apart false = refl

-- the pieces to come, after one of them is kept
pub piece_kept : (k : RowKey) (held : List Bool) (p : Piece) (rest : List Piece) (before after : Option Stamp) → after ≡ option_or (last_stamp k (held_pieces held (p ∷ []))) before
    → option_or (last_stamp k (held_pieces held rest)) after ≡ option_or (last_stamp k (held_pieces held (p ∷ rest))) before
piece_kept k held p rest before after is =
    ap (option_or (last_stamp k (held_pieces held rest))) is
    ∙ sym (or_or (last_stamp k (held_pieces held rest)) (last_stamp k (held_pieces held (p ∷ []))) before)
    ∙ ap (λ o. option_or o before) (sym (stamp_append 1 k held (p ∷ []) rest))

-- ---- answers

pub ok_both : {T E : Type 0} (r : Result T E) (P R : T → Type 0) (Q : Type 0) → ((x : T) → P x → Q → R x) → IfOk r P → OnOk r Q → IfOk r R
ok_both (Ok x) P R Q f p q = f x p q
ok_both (Err e) P R Q f p q = tt

pub ok_map : {T E : Type 0} (r : Result T E) (P Q : Type 0) → (P → Q) → OnOk r P → OnOk r Q
ok_map (Ok x) P Q f p = f p
ok_map (Err e) P Q f p = tt
