-- What the lock of a shard closes with: the steps of each worker's scripts there, and answers that are lawful from the opening map.
use Rattle.std.proofs.Common.{◌≡◌, ℕ, zero, suc, ◌+◌, ◌<◌, ◌%◌, Bool, cond, nat_eq, List, [], ◌∷◌, map, length, Option, slice_index_or, refl, sym, ap, ◌∙◌, subst, arith}
use Rattle.std.specs.List.{AllByRecursion, cons_option, filter}
use Rattle.std.proofs.lemmas.Bool.{eqb-true, eq-eqb}
use Rattle.coco_types.specs.declared.call.AttemptId.{AttemptId}
use Rattle.coco_ast.proofs.Lists.{all_append}
use Rattle.coco_journaled.specs.declared.entry.Entry.{Entry as Logged}
use Rattle.coco_journaled.specs.declared.entry.Placed.{Placed}
use Rattle.coco_journaled.specs.Passes.{entries_of, entry_of}
use Rattle.coco_occ.specs.Exchange.{Exchange, step_of}
use Rattle.coco_occ.specs.Steps.{at_shard, taken}
use Rattle.coco_occ.specs.declared.script.Step.{Step}
use Rattle.coco_order.specs.Execution.{Beginning, IsTried, Journal, Transcript, all_at_shard, logged, of_pass, steps_of}
use Rattle.coco_seen.specs.Rules.{numbers}
use Rattle.coco_shard.specs.Law.{Entry}
use Rattle.coco_shard.specs.Table.{key_of}
use Rattle.coco_shard.specs.declared.ops.Answer.{Answer}
use Rattle.coco_shard.specs.declared.ops.Ask.{Ask}
use Rattle.coco_worker.specs.Gains.{ShardPass, entered}
use Rattle.coco_worker.specs.declared.slot.Slot.{Slot}
use Rattle.coco_parallel.specs.Ending.{HasWorked, Start, passes_at}
use Rattle.coco_parallel.proofs.SlotLemmas.{HasPass, by_bool, has_pass}

-- ---- by worker

-- what is said of each slot by its worker's number, where the workers are numbered in their order
pub at_worker : (Q : ℕ → Transcript → Type 0) (slots : List Slot) (first count : ℕ) → map (λ (slot : Slot). slot.worker) slots ≡ numbers first count → AllByRecursion (λ slot. Q slot.worker slot.transcript) slots
    → (n : ℕ) → n < count → Q (first + n) (slice_index_or (map (λ (slot : Slot). slot.transcript) slots) n [])
at_worker Q slots first zero are all n lt = absurd (omega arith)
at_worker Q [] first (suc count) are all n lt = absurd cc
at_worker Q (slot ∷ slots) first (suc count) are all zero lt = subst (λ w. Q w slot.transcript) (let h : slot.worker ≡ first = cc in omega (arith, h)) all.0
at_worker Q (slot ∷ slots) first (suc count) are all (suc n) lt =
    subst (λ w. Q w (slice_index_or (map (λ (t : Slot). t.transcript) slots) n [])) (omega arith)
    (at_worker Q slots (suc first) count (let h : map (λ (t : Slot). t.worker) slots ≡ numbers (suc first) count = cc in h) all.1 n (omega arith))

-- ---- the entries of a pass

logged_calls : (number : ℕ) (calls : List (Placed Ask Answer)) → map logged (map (entry_of number) calls) ≡ map entered calls
logged_calls number [] = refl
logged_calls number (c ∷ calls) = ap (λ (es : List Entry). entered c ∷ es) (logged_calls number calls)

module _ (s : Start) (shard : ℕ) (within : shard < length s.shards) (journal : Journal) where
  abbrev pub Keeps : ShardPass → Type 0
  Keeps p = entries_of p.number journal ≡ map (entry_of p.number) p.calls

  entries_are : (slot : Slot) (has : HasPass s shard slot) → Keeps has.pass → of_pass slot.worker journal ≡ all_at_shard shard slot.transcript
  entries_are slot has keeps = ap (λ (n : ℕ). of_pass n journal) (sym has.number) ∙ ap steps_of keeps ∙ logged_calls has.pass.number has.pass.calls ∙ has.made

  -- each worker's entries are its scripts' steps at the shard
  pub each_pass : (slots : List Slot) → AllByRecursion (HasWorked s) slots → AllByRecursion Keeps (passes_at shard slots) → AllByRecursion (λ slot. of_pass slot.worker journal ≡ all_at_shard shard slot.transcript) slots
  each_pass [] all keeps = tt
  each_pass (slot ∷ slots) all keeps =
      let has : HasPass s shard slot = has_pass s slot all.0 shard within in
      let these : AllByRecursion Keeps (has.pass ∷ passes_at shard slots) = subst (λ (o : Option ShardPass). AllByRecursion Keeps (cons_option o (passes_at shard slots))) has.there keeps in
      (entries_are slot has these.0, each_pass slots all.1 these.1)

  pub as_many_passes : (slots : List Slot) → AllByRecursion (HasWorked s) slots → length (passes_at shard slots) ≡ length slots
  as_many_passes [] all = refl
  as_many_passes (slot ∷ slots) all =
      let has : HasPass s shard slot = has_pass s slot all.0 shard within in
      ap (λ (o : Option ShardPass). length (cons_option o (passes_at shard slots))) has.there ∙ ap suc (as_many_passes slots all.1)

-- ---- all entries, by their passes

module _ (K : Entry → Type 0) where
  pass_head : (e : Logged Ask Answer) (rest : Journal) → AllByRecursion K (of_pass e.pass (e ∷ rest)) → K (logged e)
  pass_head e rest all =
      let t : AllByRecursion K (steps_of (e ∷ filter (λ d. nat_eq d.pass e.pass) rest)) =
      subst (λ (b : Bool). AllByRecursion K (steps_of (cond b (e ∷ filter (λ d. nat_eq d.pass e.pass) rest) (filter (λ d. nat_eq d.pass e.pass) rest)))) (eq-eqb e.pass e.pass refl) all in
      t.0

  pass_tail : (pass : ℕ) (e : Logged Ask Answer) (rest : Journal) → AllByRecursion K (of_pass pass (e ∷ rest)) → AllByRecursion K (of_pass pass rest)
  pass_tail pass e rest all =
      by_bool (λ b. AllByRecursion K (steps_of (cond b (e ∷ filter (λ d. nat_eq d.pass pass) rest) (filter (λ d. nat_eq d.pass pass) rest))) → AllByRecursion K (of_pass pass rest)) (nat_eq e.pass pass) (λ _ t. t.1) (λ _ t. t) all

  pub by_passes : (passes : ℕ) (journal : Journal) → ((pass : ℕ) → pass < passes → AllByRecursion K (of_pass pass journal)) → AllByRecursion (λ e. e.pass < passes) journal → AllByRecursion K (steps_of journal)
  by_passes passes [] each below = tt
  by_passes passes (e ∷ rest) each below = (pass_head e rest (each e.pass below.0), by_passes passes rest (λ pass lt. pass_tail pass e rest (each pass lt)) below.1)

-- ---- each ask is sent to its key's shard

abbrev pub IsOn : ℕ → ℕ → Entry → Type 0
IsOn partitions shard e = (key_of e.ask.op).row % partitions ≡ shard

sent_here : (partitions shard : ℕ) (by : AttemptId) (asked : List Exchange) → AllByRecursion (IsOn partitions shard) (at_shard shard (map (step_of by partitions) asked))
sent_here partitions shard by [] = tt
sent_here partitions shard by (x ∷ asked) =
    let here : Step = step_of by partitions x in
    let rest : List Step = filter (λ (t : Step). nat_eq t.shard shard) (map (step_of by partitions) asked) in
    by_bool (λ b. AllByRecursion (IsOn partitions shard) (map taken (cond b (here ∷ rest) rest))) (nat_eq here.shard shard)
    (λ t. (eqb-true here.shard shard t, sent_here partitions shard by asked))
    (λ _. sent_here partitions shard by asked)

pub all_sent_here : (b : Beginning) (shard : ℕ) (ts : Transcript) → AllByRecursion (IsTried b) ts → AllByRecursion (IsOn b.partitions shard) (all_at_shard shard ts)
all_sent_here b shard [] all = tt
all_sent_here b shard (t ∷ ts) all =
    all_append (IsOn b.partitions shard) (at_shard shard t.script) (all_at_shard shard ts)
    (subst (λ (steps : List Step). AllByRecursion (IsOn b.partitions shard) (at_shard shard steps)) (sym all.0.script.steps) (sent_here b.partitions shard t.by all.0.script.asked))
    (all_sent_here b shard ts all.1)
