-- The entries of a base file read back.
use Rattle.std.proofs.Common.{◌≡◌, inl, inr, ℕ, ◌^◌, ◌<◌, ◌⊎◌, Bool, true, false, cond, ltb, leb, eqb, ◌||◌, ◌&&◌, List, ◌++◌, Option, Some, None, Ok, refl, sym, ap, append_assoc, arith}
use Rattle.std.specs.Option.{option_map}
use Rattle.std.proofs.lemmas.Bool.{ltb-true, lt-ltb, leb-true, le-leb, eqb-true, eq-eqb, or_left, or_right, and_from}
use Rattle.coco_types.specs.declared.call.Done.{Done}
use Rattle.coco_types.specs.declared.call.Reply.{Reply}
use Rattle.coco_types.specs.declared.value.Value.{Value}
use Rattle.coco_types.specs.RowKey.{RowKey}
use Rattle.coco_bytes.specs.declared.fault.FieldFault.{FieldFault}
use Rattle.coco_bytes.specs.Fields.{Stands, flag_bytes, u32_bytes, u64_bytes}
use Rattle.coco_bytes.specs.Reads.{Agree, flag_at, u32_at, u64_at}
use Rattle.coco_bytes.specs.Lists.{counted}
use Rattle.coco_bytes.specs.Values.{value_bytes, IsValue, value_at}
use Rattle.coco_bytes.proofs.FieldLemmas.{bind_then, ok_then}
use Rattle.coco_bytes.proofs.NumberLemmas.{flag_agrees, u32_agrees, u64_agrees}
use Rattle.coco_bytes.proofs.ValueLemmas.{value_agrees}
use Rattle.coco_entry.specs.declared.base.BaseHead.{BaseHead}
use Rattle.coco_entry.specs.declared.base.Stamp.{Stamp}
use Rattle.coco_entry.specs.declared.base.TheConstants.{MOST_ITEMS}
use Rattle.coco_entry.specs.declared.calls.Timed.{Timed}
use Rattle.coco_entry.specs.Grammar.{then_by, ◌▸◌}
use Rattle.coco_entry.specs.Calls.{IsReply, reply_bytes, done_of, timed_at, reply_at}
use Rattle.coco_entry.specs.Bases.{floor_bytes, IsFloor, floor_number_at, floor_at, IsHead, head_at, AreItems, items_count_at, StampRises, stamp_rises, stamp_of, stamped, stamped_at, DoneRises, base_done_bytes, IsBaseDone, base_done_at, AreBaseDones, base_dones_at, present, present_at, BaseRowRises, base_row_bytes, IsBaseRow, base_row_at, AreBaseRows, base_rows_at}
use Rattle.coco_entry.proofs.GrammarLemmas.{both_true, agree_so, then_agrees, pair_agrees, made_agrees, tested_agrees, listed_agrees}
use Rattle.coco_entry.proofs.CallLemmas.{IsTimed, bytes_of_timed, timed_agrees, timed_of, reply_agrees}
use Rattle.coco_entry.proofs.EntryLemmas.{rising_key_agrees}

-- ---- the head

floor_parts : Option ℕ → Bool × ℕ
floor_parts None = (false, 0)
floor_parts (Some floor) = (true, floor)

floor_made : Bool × ℕ → Option ℕ
floor_made f = cond f.0 (Some f.1) None

IsFloorPair : Bool × ℕ → Type 0
IsFloorPair f = Unit {0} × ((f.1 < 2 ^ 64) × ((f.0 || eqb f.1 0) ≡ true))

floor_there : (floor : Option ℕ) → floor_made (floor_parts floor) ≡ floor
unfolding floor_made floor_parts
floor_there None = refl
floor_there (Some floor) = refl

floor_back : (f : Bool × ℕ) → IsFloorPair f → floor_parts (floor_made f) ≡ f
unfolding floor_made floor_parts IsFloorPair
floor_back (true, n) fits = refl
floor_back (false, n) fits = ap (λ (k : ℕ). (false, k)) (sym (eqb-true n 0 fits.1.1))

floor_spelled : (floor : Option ℕ) → flag_bytes (floor_parts floor).0 ++ u64_bytes (floor_parts floor).1 ≡ floor_bytes floor
unfolding floor_parts
floor_spelled None = refl
floor_spelled (Some floor) = refl

floor_fits : (floor : Option ℕ) → IsFloorPair (floor_parts floor) → IsFloor floor
unfolding floor_parts IsFloorPair
floor_fits None f = tt
floor_fits (Some floor) f = f.1.0

fits_floor : (floor : Option ℕ) → IsFloor floor → IsFloorPair (floor_parts floor)
unfolding floor_parts IsFloorPair
fits_floor None f = (tt, (omega arith, refl))
fits_floor (Some floor) f = (tt, (f, refl))

floor_agrees : Agree floor_at floor_bytes IsFloor
unfolding floor_at floor_number_at floor_made IsFloorPair
floor_agrees =
    agree_so (made_agrees floor_made floor_parts (then_by flag_at floor_number_at) (λ f. flag_bytes f.0 ++ u64_bytes f.1) IsFloorPair
    (then_agrees flag_at floor_number_at flag_bytes (λ _. u64_bytes) (λ _. Unit {0}) (λ is n. (n < 2 ^ 64) × ((is || eqb n 0) ≡ true)) flag_agrees
    (λ is _. tested_agrees (λ n. is || eqb n 0) (λ n. (is || eqb n 0) ≡ true) u64_at u64_bytes (λ n. n < 2 ^ 64) u64_agrees (λ n e. e) (λ n e. e)))
    (λ floor _. floor_there floor) floor_back)
    floor_spelled floor_fits fits_floor

pub head_agrees : Agree head_at (λ h. u64_bytes h.epoch ++ (floor_bytes h.floor ++ (u64_bytes h.dones ++ u64_bytes h.rows))) IsHead
unfolding head_at
head_agrees =
    let parts : BaseHead → ℕ × (Option ℕ × (ℕ × ℕ)) = λ h. (h.epoch, (h.floor, (h.dones, h.rows))) in
    let make : ℕ × (Option ℕ × (ℕ × ℕ)) → BaseHead = λ h. record { epoch = h.0; floor = h.1.0; dones = h.1.1.0; rows = h.1.1.1 } in
    agree_so (made_agrees make parts (u64_at ▸ floor_at ▸ u64_at ▸ u64_at) (λ h. u64_bytes h.0 ++ (floor_bytes h.1.0 ++ (u64_bytes h.1.1.0 ++ u64_bytes h.1.1.1))) (λ h. (h.0 < 2 ^ 64) × (IsFloor h.1.0 × ((h.1.1.0 < 2 ^ 64) × (h.1.1.1 < 2 ^ 64))))
    (pair_agrees u64_agrees (pair_agrees floor_agrees (pair_agrees u64_agrees u64_agrees)))
    (λ h _. refl) (λ h _. refl))
    (λ _. refl) (λ h f. record { epoch = f.0; floor = f.1.0; dones = f.1.1.0; rows = f.1.1.1 }) (λ h f. (f.epoch, (f.floor, (f.dones, f.rows))))

-- ---- the number of items

count_is : (n : ℕ) → (leb 1 n && leb n MOST_ITEMS) ≡ true → AreItems n
count_is n e = let p = both_true (leb 1 n) (leb n MOST_ITEMS) e in (leb-true 1 n p.0, leb-true n MOST_ITEMS p.1)

is_count : (n : ℕ) → AreItems n → (leb 1 n && leb n MOST_ITEMS) ≡ true
is_count n f = and_from (leb 1 n) (leb n MOST_ITEMS) (le-leb 1 n f.0) (le-leb n MOST_ITEMS f.1)

items_count_agrees : Agree items_count_at u32_bytes AreItems
unfolding items_count_at
items_count_agrees =
    agree_so (tested_agrees (λ n. leb 1 n && leb n MOST_ITEMS) AreItems u32_at u32_bytes (λ n. n < 2 ^ 32) u32_agrees count_is is_count)
    (λ _. refl) (λ n f. f.1) (λ n f. (omega (arith, f.1), f))

-- ---- Dones

either_true : (a b : Bool) → (a || b) ≡ true → (a ≡ true) ⊎ (b ≡ true)
either_true true b e = inl refl
either_true false b e = inr e

stamp_is : (before : Option Stamp) (t : Stamp) → stamp_rises before t ≡ true → StampRises before t
stamp_is None t e = tt
stamp_is (Some s) t e =
    elim (either_true (ltb s.epoch t.epoch) _ e) [
      | inl p ↦ inl (ltb-true s.epoch t.epoch p)
      | inr p ↦
          let q = both_true (eqb s.epoch t.epoch) _ p in
          inr (
            eqb-true s.epoch t.epoch q.0,
            elim (either_true (ltb s.time t.time) _ q.1) [
              | inl r ↦ inl (ltb-true s.time t.time r)
              | inr r ↦
                  let u = both_true (eqb s.time t.time) _ r in
                  inr (eqb-true s.time t.time u.0, ltb-true s.id t.id u.1)
            ],
          )
    ]

is_stamp : (before : Option Stamp) (t : Stamp) → StampRises before t → stamp_rises before t ≡ true
is_stamp None t h = refl
is_stamp (Some s) t h =
    elim h [
      | inl p ↦ or_left (ltb s.epoch t.epoch) _ (lt-ltb s.epoch t.epoch p)
      | inr p ↦ or_right (ltb s.epoch t.epoch) _ (and_from (eqb s.epoch t.epoch) _ (eq-eqb s.epoch t.epoch p.0) (elim p.1 [
        | inl q ↦ or_left (ltb s.time t.time) _ (lt-ltb s.time t.time q)
        | inr q ↦ or_right (ltb s.time t.time) _ (and_from (eqb s.time t.time) _ (eq-eqb s.time t.time q.0) (lt-ltb s.id t.id q.1))
      ]))
    ]

stamped_agrees : (before : Option Stamp) → Agree (stamped_at before) (λ s. u64_bytes s.0 ++ bytes_of_timed s.1) (λ s. ((s.0 < 2 ^ 64) × IsTimed s.1) × StampRises before (stamped s))
unfolding stamped_at
stamped_agrees before =
    tested_agrees (λ s. stamp_rises before (stamped s)) (λ s. StampRises before (stamped s)) (u64_at ▸ timed_at) (λ s. u64_bytes s.0 ++ bytes_of_timed s.1) (λ s. (s.0 < 2 ^ 64) × IsTimed s.1)
    (pair_agrees u64_agrees timed_agrees) (λ s e. stamp_is before (stamped s) e) (λ s h. is_stamp before (stamped s) h)

base_done_agrees : (before : Option Done) → Agree (base_done_at (option_map stamp_of before)) base_done_bytes (λ done. DoneRises before done × IsBaseDone done)
unfolding base_done_at
base_done_agrees before =
    let above : Option Stamp = option_map stamp_of before in
    let parts : Done → (ℕ × Timed) × Reply = λ d. ((d.epoch, timed_of d), d.reply) in
    let make : (ℕ × Timed) × Reply → Done = λ d. done_of d.0.0 d.0.1 d.1 in
    agree_so (made_agrees make parts (stamped_at above ▸ reply_at) (λ d. (u64_bytes d.0.0 ++ bytes_of_timed d.0.1) ++ reply_bytes d.1) (λ d. (((d.0.0 < 2 ^ 64) × IsTimed d.0.1) × StampRises above (stamped d.0)) × IsReply d.1)
    (pair_agrees (stamped_agrees above) reply_agrees)
    (λ d _. refl) (λ d _. refl))
    (λ d. append_assoc (u64_bytes d.epoch) (bytes_of_timed (timed_of d)) (reply_bytes d.reply))
    (λ d f. (f.0.1, record { epoch = f.0.0.0; fields = record { id = f.0.0.1.id; call = f.0.0.1.call; time = f.0.0.1.time; reply = f.1 } }))
    (λ d f. let g = f.1 in let h = g.fields in (((g.epoch, record { id = h.id; call = h.call; time = h.time }), f.0), h.reply))

pub base_dones_agree : Agree base_dones_at (counted base_done_bytes) AreBaseDones
unfolding base_dones_at
base_dones_agree =
    listed_agrees items_count_at u32_bytes AreItems (λ before. base_done_at (option_map stamp_of before)) base_done_bytes (λ before done. DoneRises before done × IsBaseDone done) items_count_agrees base_done_agrees

-- ---- rows

present_found : (from : List ℕ) (at : ℕ) (v : Option Value × ℕ) (p : Value × ℕ) → IsValue v.0 × Stands from at (value_bytes v.0) v.1 → present at v ≡ Ok p → IsValue (Some p.0) × Stands from at (value_bytes (Some p.0)) p.1
unfolding present
present_found from at (None, end) p known e = absurd cc
present_found from at (Some x, end) p known e = ok_then FieldFault (λ (q : Value × ℕ). IsValue (Some q.0) × Stands from at (value_bytes (Some q.0)) q.1) (x, end) p e known

present_agrees : Agree present_at (λ v. value_bytes (Some v)) (λ v. IsValue (Some v))
unfolding present_at present
present_agrees = record {
  found = λ from at x end fits e.
      bind_then (value_at from at) (λ (v : Option Value × ℕ). present at v) (x, end) e (λ v read next.
      present_found from at v (x, end) (value_agrees.found from at v.0 v.1 fits read) next);
  again = λ from at x end fits p. rw (value_agrees.again from at (Some x) end fits p) refl;
}

base_row_agrees : (before : Option (RowKey × Value)) → Agree (base_row_at (option_map (λ r. r.0) before)) base_row_bytes (λ row. BaseRowRises before row × IsBaseRow row)
unfolding base_row_at
base_row_agrees before =
    let above : Option RowKey = option_map (λ r. r.0) before in
    agree_so (pair_agrees (rising_key_agrees above) present_agrees)
    (λ _. refl) (λ r f. (f.0.1, record { key = f.0.0; value = f.1 })) (λ r f. ((f.1.key, f.0), f.1.value))

pub base_rows_agree : Agree base_rows_at (counted base_row_bytes) AreBaseRows
unfolding base_rows_at
base_rows_agree =
    listed_agrees items_count_at u32_bytes AreItems (λ before. base_row_at (option_map (λ r. r.0) before)) base_row_bytes (λ before row. BaseRowRises before row × IsBaseRow row) items_count_agrees base_row_agrees
