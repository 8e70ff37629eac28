-- Commit and prepared entries read back.
use Rattle.std.proofs.Common.{◌≡◌, ℕ, ◌^◌, ◌<◌, true, List, ◌++◌, length, Option, Some, None, refl}
use Rattle.std.specs.Option.{option_map}
use Rattle.std.specs.Ordering.{is_lt}
use Rattle.std.specs.declared.cmp.Ordering.{Ordering}
use Rattle.std.specs.declared.cmp.Ordering.TheVariants.{Less, Equal, Greater}
use Rattle.coco_types.specs.declared.call.Done.{Done}
use Rattle.coco_types.specs.declared.value.Value.{Value}
use Rattle.coco_types.specs.RowKey.{RowKey, key_cmp}
use Rattle.coco_bytes.specs.Fields.{u64_bytes, u32_bytes}
use Rattle.coco_bytes.specs.Reads.{Agree, u32_at, u64_at}
use Rattle.coco_bytes.specs.Lists.{counted, FitInTurn}
use Rattle.coco_bytes.specs.Values.{key_bytes, IsKey, key_at, value_bytes, IsValue, value_at}
use Rattle.coco_bytes.proofs.NumberLemmas.{u32_agrees, u64_agrees}
use Rattle.coco_bytes.proofs.ValueLemmas.{key_agrees, value_agrees}
use Rattle.coco_entry.specs.declared.commit.Commit.{Commit}
use Rattle.coco_entry.specs.declared.prepared.Row.{Row}
use Rattle.coco_entry.specs.declared.prepared.Prepared.{Prepared}
use Rattle.coco_entry.specs.Grammar.{Reader, then_by, ◌▸◌, listed}
use Rattle.coco_entry.specs.Calls.{done_bytes, done_at}
use Rattle.coco_entry.specs.Commits.{IsDoneOf, IsCommit, commit_at}
use Rattle.coco_entry.specs.Rows.{KeyRises, key_rises, rising_key_at, row_bytes, RowRises, IsRow, row_at, IsPrepared, prepared_at}
use Rattle.coco_entry.proofs.GrammarLemmas.{agree_so, then_agrees, pair_agrees, made_agrees, tested_agrees, listed_agrees}
use Rattle.coco_entry.proofs.CallLemmas.{done_agrees}

-- ---- commits

pub commit_agrees : Agree commit_at (λ c. u64_bytes c.epoch ++ counted done_bytes c.dones) IsCommit
unfolding commit_at
commit_agrees =
    let parts : Commit → ℕ × List Done = λ c. (c.epoch, c.dones) in
    let make : ℕ × List Done → Commit = λ c. record { epoch = c.0; dones = c.1 } in
    let Fits : ℕ → List Done → Type 0 = λ epoch dones. (length dones < 2 ^ 32) × FitInTurn (λ _. IsDoneOf epoch) None dones in
    agree_so (made_agrees make parts (then_by u64_at (λ epoch. listed u32_at (λ _. done_at epoch))) (λ c. u64_bytes c.0 ++ counted done_bytes c.1) (λ c. (c.0 < 2 ^ 64) × Fits c.0 c.1)
    (then_agrees u64_at (λ epoch. listed u32_at (λ _. done_at epoch)) u64_bytes (λ _. counted done_bytes) (λ n. n < 2 ^ 64) Fits u64_agrees
    (λ epoch _. listed_agrees u32_at u32_bytes (λ n. n < 2 ^ 32) (λ _. done_at epoch) done_bytes (λ _. IsDoneOf epoch) u32_agrees (λ _. done_agrees epoch)))
    (λ c _. refl) (λ c _. refl))
    (λ _. refl) (λ c f. record { epoch = f.0; count = f.1.0; dones = f.1.1 }) (λ c f. (f.epoch, (f.count, f.dones)))

-- ---- rows

lt_less : (o : Ordering) → is_lt o ≡ true → o ≡ Less
lt_less Less e = refl
lt_less Equal e = cc
lt_less Greater e = cc

less_lt : (o : Ordering) → o ≡ Less → is_lt o ≡ true
less_lt Less e = refl
less_lt Equal e = cc
less_lt Greater e = cc

rises_is : (before : Option RowKey) (key : RowKey) → key_rises before key ≡ true → KeyRises before key
rises_is None key e = tt
rises_is (Some b) key e = lt_less (key_cmp b key) e

is_rises : (before : Option RowKey) (key : RowKey) → KeyRises before key → key_rises before key ≡ true
is_rises None key h = refl
is_rises (Some b) key h = less_lt (key_cmp b key) h

pub rising_key_agrees : (before : Option RowKey) → Agree (rising_key_at before) key_bytes (λ key. IsKey key × KeyRises before key)
unfolding rising_key_at
rising_key_agrees before = tested_agrees (key_rises before) (KeyRises before) key_at key_bytes IsKey key_agrees (rises_is before) (is_rises before)

row_agrees : (before : Option Row) → Agree (row_at (option_map (λ r. r.key) before)) row_bytes (λ row. RowRises before row × IsRow row)
unfolding row_at
row_agrees before =
    let parts : Row → RowKey × (ℕ × Option Value) = λ r. (r.key, (r.time, r.value)) in
    let make : RowKey × (ℕ × Option Value) → Row = λ r. record { key = r.0; time = r.1.0; value = r.1.1 } in
    let above : Option RowKey = option_map (λ r. r.key) before in
    agree_so (made_agrees make parts (rising_key_at above ▸ u64_at ▸ value_at) (λ r. key_bytes r.0 ++ (u64_bytes r.1.0 ++ value_bytes r.1.1)) (λ r. (IsKey r.0 × KeyRises above r.0) × ((r.1.0 < 2 ^ 64) × IsValue r.1.1))
    (pair_agrees (rising_key_agrees above) (pair_agrees u64_agrees value_agrees))
    (λ r _. refl) (λ r _. refl))
    (λ _. refl) (λ r f. (f.0.1, record { key = f.0.0; time = f.1.0; value = f.1.1 })) (λ r f. ((f.1.key, f.0), (f.1.time, f.1.value)))

pub prepared_agrees : Agree prepared_at (λ p. u64_bytes p.epoch ++ counted row_bytes p.rows) IsPrepared
unfolding prepared_at
prepared_agrees =
    let parts : Prepared → ℕ × List Row = λ p. (p.epoch, p.rows) in
    let make : ℕ × List Row → Prepared = λ p. record { epoch = p.0; rows = p.1 } in
    let AreRows : Option Row → Row → Type 0 = λ before row. RowRises before row × IsRow row in
    let item : Option Row → Reader Row = λ before. row_at (option_map (λ r. r.key) before) in
    agree_so (made_agrees make parts (u64_at ▸ listed u32_at item) (λ p. u64_bytes p.0 ++ counted row_bytes p.1) (λ p. (p.0 < 2 ^ 64) × ((length p.1 < 2 ^ 32) × FitInTurn AreRows None p.1))
    (pair_agrees u64_agrees (listed_agrees u32_at u32_bytes (λ n. n < 2 ^ 32) item row_bytes AreRows u32_agrees row_agrees))
    (λ p _. refl) (λ p _. refl))
    (λ _. refl) (λ p f. record { epoch = f.0; count = f.1.0; rows = f.1.1 }) (λ p f. (f.epoch, (f.count, f.rows)))
