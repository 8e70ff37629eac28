-- The keys that a run needs stand apart, so there is a map with whatever was given for them, and the writes of a run ascend.
use Rattle.std.proofs.Common.{◌≡◌, ◌||◌, Bool, true, false, cond, List, [], ◌∷◌, ◌++◌, refl, ap, ◌∙◌}
use Rattle.std.specs.Bool.{⊤}
use Rattle.std.specs.List.{list_any, AllByRecursion}
use Rattle.coco_types.specs.RowKey.{RowKey}
use Rattle.coco_types.specs.declared.call.Call.{Call}
use Rattle.coco_types.specs.declared.call.Write.{Write}
use Rattle.coco_types.proofs.Keys.{key_itself, key_swap}
use Rattle.coco_ast.specs.Keyed.{Rows, value_at, write_at}
use Rattle.coco_ast.specs.Meaning.{Datum, Access, Reads, Writes, Flow, Goes, Ends, Refuses, run, run_of, flow_of, procedure_at, needs_after, put_write, writes_after, is_key}
use Rattle.coco_ast.specs.Tree.{Procedures}
use Rattle.coco_ast.proofs.Lists.{all_append, all_right, all_weaker}
use Rattle.coco_ast.proofs.Writing.{value_written, Ascend, ascend_put}
use Rattle.coco_eval.specs.Standing.{HasGiven, keys_of}
use Rattle.coco_eval.specs.declared.machine.Given.{Given}
use Rattle.std.proofs.lemmas.Bool.{or_parts}

-- ---- what is needed behind the keys seen

abbrev AreUnseen : List RowKey → List RowKey → Type 0
AreUnseen seen ks = AllByRecursion (λ k. list_any (is_key k) seen ≡ false) ks

abbrev pub AreApart : List RowKey → Type 0
AreApart [] = ⊤
AreApart (k ∷ ks) = AllByRecursion (λ q. is_key q k ≡ false) ks × AreApart ks

unseen_before : (k : RowKey) (seen ks : List RowKey) → AreUnseen (k ∷ seen) ks → AreUnseen seen ks
unseen_before k seen ks all = all_weaker (λ q. list_any (is_key q) (k ∷ seen) ≡ false) (λ q. list_any (is_key q) seen ≡ false) (λ q h. (or_parts (is_key q k) (list_any (is_key q) seen) h).1) ks all

unseen_first : (k : RowKey) (seen ks : List RowKey) → AreUnseen (k ∷ seen) ks → AllByRecursion (λ q. is_key q k ≡ false) ks
unseen_first k seen ks all = all_weaker (λ q. list_any (is_key q) (k ∷ seen) ≡ false) (λ q. is_key q k ≡ false) (λ q h. (or_parts (is_key q k) (list_any (is_key q) seen) h).0) ks all

needs_unseen : (seen : List RowKey) (xs : List Access) → AreUnseen seen (needs_after seen xs)
needs_unseen seen [] = tt
needs_unseen seen (Reads k ∷ xs) =
    elim (list_any (is_key k) seen) as (λ b. list_any (is_key k) seen ≡ b → AreUnseen seen (cond b (needs_after seen xs) (k ∷ needs_after (k ∷ seen) xs))) [
      | true ↦ λ is. needs_unseen seen xs
      | false ↦ λ is. (is, unseen_before k seen (needs_after (k ∷ seen) xs) (needs_unseen (k ∷ seen) xs))
    ] refl
needs_unseen seen (Writes k v ∷ xs) = unseen_before k seen (needs_after (k ∷ seen) xs) (needs_unseen (k ∷ seen) xs)

needs_apart : (seen : List RowKey) (xs : List Access) → AreApart (needs_after seen xs)
needs_apart seen [] = tt
needs_apart seen (Reads k ∷ xs) =
    elim (list_any (is_key k) seen) as (λ b. AreApart (cond b (needs_after seen xs) (k ∷ needs_after (k ∷ seen) xs))) [
      | true ↦ needs_apart seen xs
      | false ↦ (unseen_first k seen (needs_after (k ∷ seen) xs) (needs_unseen (k ∷ seen) xs), needs_apart (k ∷ seen) xs)
    ]
needs_apart seen (Writes k v ∷ xs) = needs_apart (k ∷ seen) xs

pub apart_before : (ks : List RowKey) (k : RowKey) (more : List RowKey) → AreApart (ks ++ k ∷ more) → AllByRecursion (λ q. is_key k q ≡ false) ks
apart_before [] k more apart = tt
apart_before (q ∷ ks) k more apart = ((all_right (λ p. is_key p q ≡ false) ks (k ∷ more) apart.0).0, apart_before ks k more apart.1)

run_of_apart : (m : Rows) (f : Flow) → AreApart (run_of m f).needs
run_of_apart m (Goes s) = needs_apart [] s.accesses
run_of_apart m (Ends s v) = needs_apart [] s.accesses
run_of_apart m (Refuses s c) = needs_apart [] s.accesses

-- the keys that a run needs are each another one
pub run_apart : (ps : Procedures) (call : Call) (m : Rows) → AreApart (run ps call m).needs
unfolding run
run_apart ps call m = run_of_apart m (flow_of ps m (procedure_at ps.procs call.proc_no) call.args)

-- ---- maps with what was given

pub others_stay : (given : List Given) (m : Rows) (k : RowKey) (v : Datum) → AllByRecursion (λ q. is_key k q ≡ false) (keys_of given) → HasGiven given m → HasGiven given (write_at m k v)
others_stay [] m k v apart has = tt
others_stay (g ∷ given) m k v apart has =
    (value_written m k v g.key ∙ ap (λ b. cond b v (value_at m g.key)) (key_swap g.key k ∙ apart.0) ∙ has.0, others_stay given m k v apart.1 has.1)

-- a map that has one more value
pub has_given_more : (given : List Given) (m : Rows) (k : RowKey) (v : Datum) → AllByRecursion (λ q. is_key k q ≡ false) (keys_of given) → HasGiven given m
    → HasGiven (given ++ record { key = k; value = v } ∷ []) (write_at m k v)
has_given_more given m k v apart has =
    all_append (λ g. value_at (write_at m k v) g.key ≡ g.value) given (record { key = k; value = v } ∷ []) (others_stay given m k v apart has)
    (value_written m k v k ∙ ap (λ b. cond b v (value_at m k)) (key_itself k), tt)

-- ---- writes ascend

writes_ascend : (ws : List Write) (xs : List Access) → Ascend ws → Ascend (writes_after ws xs)
writes_ascend ws [] rises = rises
writes_ascend ws (Reads k ∷ xs) rises = writes_ascend ws xs rises
writes_ascend ws (Writes k v ∷ xs) rises = writes_ascend (put_write k v ws) xs (ascend_put k v ws rises)

run_of_ascends : (m : Rows) (f : Flow) → Ascend (run_of m f).writes
run_of_ascends m (Goes s) = writes_ascend [] s.accesses tt
run_of_ascends m (Ends s v) = writes_ascend [] s.accesses tt
run_of_ascends m (Refuses s c) = tt

pub run_ascends : (ps : Procedures) (call : Call) (m : Rows) → Ascend (run ps call m).writes
unfolding run
run_ascends ps call m = run_of_ascends m (flow_of ps m (procedure_at ps.procs call.proc_no) call.args)
