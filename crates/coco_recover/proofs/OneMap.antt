-- One map of which each partition is one of many.
use Rattle.std.proofs.Common.{◌≡◌, ◌≢◌, ℕ, zero, suc, ◌+◌, ◌%◌, ◌<◌, ◌≤◌, Bool, true, false, cond, nat_eq, List, [], ◌∷◌, filter, map, refl, sym, ap, ◌∙◌, arith}
use Rattle.std.specs.List.{AllByRecursion, flat_map, range_with_len}
use Rattle.std.specs.Set.{is_member}
use Rattle.std.proofs.lemmas.Bool.{eq-eqb, eqb-false, eqb-true, ne_eqb}
use Rattle.coco_types.specs.RowKey.{partition_of}
use Rattle.coco_types.specs.declared.call.Write.{Write}
use Rattle.coco_ast.specs.Keyed.{Rows, on_partition, put_over, write_at}
use Rattle.coco_ast.proofs.Lists.{all_append}
use Rattle.coco_entry.specs.declared.prepared.Prepared.{Prepared}
use Rattle.coco_entry.specs.declared.prepared.Row.{Row}
use Rattle.coco_load.specs.Reading.{maps_read}
use Rattle.coco_load.proofs.Writes.{on_written, put_over-append}
use Rattle.coco_store.specs.Contents.{committed_writes, on, writes_on}
use Rattle.coco_store.specs.Rules.{Setting}

module _ (count p : ℕ) where
  -- writes of this partition, or of another one
  abbrev pub AreOn : ℕ → List Write → Type 0
  AreOn q = AllByRecursion (λ w. w.key.row % count ≡ q)

  put_on : (m : Rows) (ws : List Write) → AreOn p ws → on_partition count p (put_over m ws) ≡ put_over (on_partition count p m) ws
  put_on m [] are = refl
  put_on m (w ∷ ws) are =
      let here : nat_eq p (w.key.row % count) ≡ true = eq-eqb p (w.key.row % count) (sym are.0) in
      put_on (write_at m w.key w.value) ws are.1
      ∙ ap (λ (n : Rows). put_over n ws)
      (on_written count m w.key w.value p ∙ ap (λ (b : Bool). cond b (write_at (on_partition count p m) w.key w.value) (on_partition count p m)) here)

  put_off : (q : ℕ) → p ≢ q → (m : Rows) (ws : List Write) → AreOn q ws → on_partition count p (put_over m ws) ≡ on_partition count p m
  put_off q other m [] are = refl
  put_off q other m (w ∷ ws) are =
      let there : nat_eq p (w.key.row % count) ≡ false = ne_eqb p (w.key.row % count) (λ e. other (e ∙ are.0)) in
      put_off q other (write_at m w.key w.value) ws are.1
      ∙ on_written count m w.key w.value p ∙ ap (λ (b : Bool). cond b (write_at (on_partition count p m) w.key w.value) (on_partition count p m)) there

  module _ (writes : ℕ → List Write) (each : (q : ℕ) → AreOn q (writes q)) where
    off_all : (m : Rows) (from n : ℕ) → p < from → on_partition count p (put_over m (flat_map writes (range_with_len from n))) ≡ on_partition count p m
    off_all m from zero less = refl
    off_all m from (suc n) less =
        let rest = flat_map writes (range_with_len (from + 1) n) in
        ap (on_partition count p) (put_over-append m (writes from) rest)
        ∙ off_all (put_over m (writes from)) (from + 1) n (omega (arith, less))
        ∙ put_off from (λ e. omega (arith, less, e)) m (writes from) (each from)

    on_one : (m : Rows) (from n : ℕ) → from ≤ p → p < from + n → on_partition count p (put_over m (flat_map writes (range_with_len from n))) ≡ put_over (on_partition count p m) (writes p)
    on_one m from zero le less = absurd (omega (arith, le, less))
    on_one m from (suc n) le less =
        let rest = flat_map writes (range_with_len (from + 1) n) in
        ap (on_partition count p) (put_over-append m (writes from) rest)
        ∙ elim (nat_eq from p) as (λ b. nat_eq from p ≡ b → on_partition count p (put_over (put_over m (writes from)) rest) ≡ put_over (on_partition count p m) (writes p)) [
          | true ↦ λ t. (let here : from ≡ p = eqb-true from p t in
              off_all (put_over m (writes from)) (from + 1) n (omega (arith, here))
              ∙ ap (λ (q : ℕ). on_partition count p (put_over m (writes q))) here
              ∙ put_on m (writes p) (each p))
          | false ↦ λ f. (let other : from ≢ p = eqb-false from p f in
              on_one (put_over m (writes from)) (from + 1) n (omega (arith, le, other)) (omega (arith, less))
              ∙ ap (λ (l : Rows). put_over l (writes p)) (put_off from (λ e. other (sym e)) m (writes from) (each from)))
        ] refl

-- ---- what nodes have for their partitions

module _ (s : Setting) (p : ℕ) where
  rows_on : (rows : List Row) → AreOn s.entry.layout.partitions p p (writes_on s p rows)
  rows_on [] = tt
  rows_on (r ∷ rows) = elim (nat_eq (partition_of s.entry.layout.partitions r.key) p) as (λ b. nat_eq (partition_of s.entry.layout.partitions r.key) p ≡ b
      → AreOn s.entry.layout.partitions p p (map (λ (x : Row). record { key = x.key; value = x.value }) (cond b (r ∷ filter (λ x. nat_eq (partition_of s.entry.layout.partitions x.key) p) rows) (filter (λ x. nat_eq (partition_of s.entry.layout.partitions x.key) p) rows)))) [
        | true ↦ λ t. (eqb-true (partition_of s.entry.layout.partitions r.key) p t, rows_on rows)
        | false ↦ λ _. rows_on rows
      ] refl

  entries_on : (entries : List Prepared) → AreOn s.entry.layout.partitions p p (flat_map (λ e. writes_on s p e.rows) entries)
  entries_on [] = tt
  entries_on (e ∷ entries) = all_append (λ (w : Write). w.key.row % s.entry.layout.partitions ≡ p) (writes_on s p e.rows) (flat_map (λ (x : Prepared). writes_on s p x.rows) entries) (rows_on e.rows) (entries_on entries)

-- the base with what each partition's primary has
module _ (s : Setting) (base : Rows) (epochs : List ℕ) (entries : ℕ → List Prepared) where
  abbrev primary_writes : ℕ → List Write
  primary_writes p = committed_writes s p epochs (entries ((p + 0) % s.entry.layout.nodes))

  abbrev pub one_map : Rows
  one_map = put_over base (flat_map primary_writes (range_with_len 0 s.entry.layout.partitions))

  pub one_map-on : (p : ℕ) → p < s.entry.layout.partitions → on s p one_map ≡ maps_read s base epochs entries p 0
  one_map-on p below =
      on_one s.entry.layout.partitions p primary_writes (λ q. entries_on s q (filter (λ e. is_member nat_eq epochs e.epoch) (entries ((q + 0) % s.entry.layout.nodes)))) base 0 s.entry.layout.partitions (omega arith) (omega (arith, below))
