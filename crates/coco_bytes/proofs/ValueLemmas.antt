-- Keys and values read back.
use Rattle.std.proofs.Common.{◌≡◌, ℕ, ℤ, zero, suc, ◌+◌, ◌^◌, ◌≤◌, Bool, true, false, cond, ltb, List, length, Option, Some, None, Ok, Err, refl, arith}
use Rattle.std.specs.Prelude.{IsUtf8, slice_range}
use Rattle.std.specs.Str.{is_utf8}
use Rattle.std.proofs.lemmas.Str.{IsUtf8-from_is_utf8, is_utf8-from_IsUtf8}
use Rattle.std.proofs.lemmas.Bool.{ltb-true, lt-ltb}
use Rattle.coco_types.specs.Limits.{most_text_bytes}
use Rattle.coco_types.specs.declared.value.Value.{Value}
use Rattle.coco_types.specs.declared.value.Value.TheVariants.{Int, Text}
use Rattle.coco_types.specs.RowKey.{RowKey}
use Rattle.coco_bytes.specs.declared.fault.FieldFault.{FieldFault}
use Rattle.coco_bytes.specs.declared.fault.FieldFault.TheVariants.{Bad}
use Rattle.coco_bytes.specs.Fields.{Stands, AreBytes, u8_bytes, u16_bytes, u64_bytes, i64_bytes, bytes16}
use Rattle.coco_bytes.specs.Reads.{◌>>=◌, Agree, u8_at, u16_at, u64_at, i64_at, bytes16_at, text16_at}
use Rattle.coco_bytes.specs.Values.{key_bytes, IsKey, key_at, value_bytes, IsValue, text_at, value_of_kind, value_at}
use Rattle.coco_bytes.proofs.FieldLemmas.{bind_then, if_then, ok_then, Stands-then, Stands-first, Stands-second}
use Rattle.coco_bytes.proofs.NumberLemmas.{u8_agrees, u16_agrees, u64_agrees, i64_agrees, text16_agrees}

key_found : (from : List ℕ) (at : ℕ) (key : RowKey) (end : ℕ) → AreBytes from → key_at from at ≡ Ok (key, end) → IsKey key × Stands from at (key_bytes key) end
unfolding key_at
key_found from at key end fits e =
    let made : ℕ × ℕ → ℕ × ℕ → RowKey × ℕ = λ table row. (record { table = table.0; row = row.0 }, row.1) in
    bind_then (u16_at from at) (λ (table : ℕ × ℕ). u64_at from table.1 >>= λ (row : ℕ × ℕ). cond (ltb row.0 (2 ^ 63)) (Ok (made table row)) (Err (Bad table.1))) (key, end) e (λ table one next.
    bind_then (u64_at from table.1) (λ (row : ℕ × ℕ). cond (ltb row.0 (2 ^ 63)) (Ok (made table row)) (Err (Bad table.1))) (key, end) next (λ row two test.
    if_then (ltb row.0 (2 ^ 63)) (Bad table.1) (Ok (made table row)) (key, end) test (λ below ok.
    let a = u16_agrees.found from at table.0 table.1 fits one in
    let b = u64_agrees.found from table.1 row.0 row.1 fits two in
    ok_then FieldFault (λ (p : RowKey × ℕ). IsKey p.0 × Stands from at (key_bytes p.0) p.1) (made table row) (key, end) ok
    (record { table = a.0; row = ltb-true _ _ below }, Stands-then from at (u16_bytes table.0) table.1 (u64_bytes row.0) row.1 a.1 b.1))))

key_again : (from : List ℕ) (at : ℕ) (key : RowKey) (end : ℕ) → IsKey key → Stands from at (key_bytes key) end → key_at from at ≡ Ok (key, end)
unfolding key_at
key_again from at key end fits p =
    let one = u16_agrees.again from at key.table (at + 2) fits.table (Stands-first from at (u16_bytes key.table) (u64_bytes key.row) end p) in
    let two = u64_agrees.again from (at + 2) key.row end (omega (arith, fits.row)) (Stands-second from at (u16_bytes key.table) (u64_bytes key.row) end p) in
    let below : ltb key.row (2 ^ 63) ≡ true = lt-ltb _ _ fits.row in
    rw (one, two, below) refl

pub key_agrees : Agree key_at key_bytes IsKey
key_agrees = record { found = key_found; again = key_again }

-- bytes that are no text, and bytes that are one
pub text_refused : (from : List ℕ) (at : ℕ) (r : ℕ × ℕ) → bytes16_at most_text_bytes from at ≡ Ok r → ¬ (IsUtf8 (slice_range from r.0 r.1)) → text_at from at ≡ Err (Bad at)
unfolding text_at text16_at
text_refused from at r e none =
    let no : is_utf8 (slice_range from r.0 r.1) ≡ false = false_unless (is_utf8 (slice_range from r.0 r.1)) (λ yes. none (IsUtf8-from_is_utf8 _ yes)) in
    rw (e, no) refl
  where
    false_unless : (b : Bool) → (b ≡ true → ⊥) → b ≡ false
    false_unless true h = absurd (h refl)
    false_unless false h = refl

pub text_taken : (from : List ℕ) (at : ℕ) (r : ℕ × ℕ) → bytes16_at most_text_bytes from at ≡ Ok r → IsUtf8 (slice_range from r.0 r.1) → text_at from at ≡ Ok (slice_range from r.0 r.1, r.1)
unfolding text_at text16_at
text_taken from at r e good = rw (e, is_utf8-from_IsUtf8 _ good) refl

text_found : (from : List ℕ) (at : ℕ) (p : List ℕ × ℕ) → AreBytes from → text_at from at ≡ Ok p → ((length p.0 ≤ most_text_bytes) × IsUtf8 p.0) × Stands from at (bytes16 p.0) p.1
unfolding text_at
text_found from at p fits e =
    bind_then (text16_at most_text_bytes from at) (λ (text : List ℕ × ℕ). cond (is_utf8 text.0) (Ok text) (Err (Bad at))) p e (λ text read test.
    if_then (is_utf8 text.0) (Bad at) (Ok text) p test (λ good ok.
    let a = (text16_agrees most_text_bytes (omega arith)).found from at text.0 text.1 fits read in
    ok_then FieldFault (λ (q : List ℕ × ℕ). ((length q.0 ≤ most_text_bytes) × IsUtf8 q.0) × Stands from at (bytes16 q.0) q.1) text p ok ((a.0, IsUtf8-from_is_utf8 text.0 good), a.1)))

-- what stands at the kind's place is the kind and then the rest
found_of_kind : (kind : ℕ) (from : List ℕ) (at next : ℕ) (p : Option Value × ℕ) → AreBytes from → Stands from at (u8_bytes kind) next → value_of_kind kind from at next ≡ Ok p → IsValue p.0 × Stands from at (value_bytes p.0) p.1
unfolding value_of_kind
found_of_kind zero from at next p fits first e =
    ok_then FieldFault (λ (q : Option Value × ℕ). IsValue q.0 × Stands from at (value_bytes q.0) q.1) (None, next) p e (tt, first)
found_of_kind (suc zero) from at next p fits first e =
    bind_then (i64_at from next) (λ (n : ℤ × ℕ). Ok (Some (Int n.0), n.1)) p e (λ n read ok.
    let a = i64_agrees.found from next n.0 n.1 fits read in
    ok_then FieldFault (λ (q : Option Value × ℕ). IsValue q.0 × Stands from at (value_bytes q.0) q.1) (Some (Int n.0), n.1) p ok
    (a.0, Stands-then from at (u8_bytes 1) next (i64_bytes n.0) n.1 first a.1))
found_of_kind (suc (suc zero)) from at next p fits first e =
    bind_then (text_at from next) (λ (text : List ℕ × ℕ). Ok (Some (Text text.0), text.1)) p e (λ text read ok.
    let a = text_found from next text fits read in
    ok_then FieldFault (λ (q : Option Value × ℕ). IsValue q.0 × Stands from at (value_bytes q.0) q.1) (Some (Text text.0), text.1) p ok
    (a.0, Stands-then from at (u8_bytes 2) next (bytes16 text.0) text.1 first a.1))
found_of_kind (suc (suc (suc kind))) from at next p fits first e = absurd cc

value_found : (from : List ℕ) (at : ℕ) (value : Option Value) (end : ℕ) → AreBytes from → value_at from at ≡ Ok (value, end) → IsValue value × Stands from at (value_bytes value) end
unfolding value_at
value_found from at value end fits e =
    bind_then (u8_at from at) (λ (kind : ℕ × ℕ). value_of_kind kind.0 from at kind.1) (value, end) e (λ kind read next.
    found_of_kind kind.0 from at kind.1 (value, end) fits (u8_agrees.found from at kind.0 kind.1 fits read).1 next)

value_again : (from : List ℕ) (at : ℕ) (value : Option Value) (end : ℕ) → IsValue value → Stands from at (value_bytes value) end → value_at from at ≡ Ok (value, end)
unfolding value_at value_of_kind text_at
value_again from at None end fits p =
    rw (u8_agrees.again from at 0 end (omega arith) p) refl
value_again from at (Some (Int n)) end fits p =
    let one = u8_agrees.again from at 1 (at + 1) (omega arith) (Stands-first from at (u8_bytes 1) (i64_bytes n) end p) in
    let two = i64_agrees.again from (at + 1) n end fits (Stands-second from at (u8_bytes 1) (i64_bytes n) end p) in
    rw (one, two) refl
value_again from at (Some (Text bytes)) end fits p =
    let one = u8_agrees.again from at 2 (at + 1) (omega arith) (Stands-first from at (u8_bytes 2) (bytes16 bytes) end p) in
    let two = (text16_agrees most_text_bytes (omega arith)).again from (at + 1) bytes end fits.0 (Stands-second from at (u8_bytes 2) (bytes16 bytes) end p) in
    rw (one, two, is_utf8-from_IsUtf8 bytes fits.1) refl

pub value_agrees : Agree value_at value_bytes IsValue
value_agrees = record { found = value_found; again = value_again }
