-- The keys that a run needs, and those that it writes, are each there once.
use Rattle.std.proofs.Common.{◌≡◌, ◌⊎◌, inl, inr, ℕ, Bool, true, false, ◌||◌, cond, List, [], ◌∷◌, ◌++◌, map, Option, None, Some, refl, sym, ap, ◌∙◌, subst, Ordering, Less, Equal, Greater, is_eq}
use Rattle.std.specs.List.{filter, list_any, AllByRecursion}
use Rattle.coco_types.proofs.Keys.{is_key, key_swap, key_itself, one_key}
use Rattle.coco_types.specs.RowKey.{RowKey, key_cmp}
use Rattle.coco_types.specs.declared.call.Call.{Call}
use Rattle.coco_types.specs.declared.call.Write.{Write}
use Rattle.coco_ast.specs.Keyed.{Rows}
use Rattle.coco_ast.specs.Meaning.{Access, Reads, Writes, Flow, Goes, Ends, Refuses, needs_after, put_write, writes_after, run, run_of, flow_of, procedure_at}
use Rattle.coco_ast.specs.Tree.{Procedures}
use Rattle.coco_ast.proofs.Writing.{Ascend, IsBelowAll, ascend_put}
use Rattle.coco_order.proofs.Attempts.{by_bool, not_both}

-- no key is there twice
abbrev pub Apart : List RowKey → Type 0
Apart [] = Unit {0}
Apart (k ∷ ks) = AllByRecursion (λ q. is_key k q ≡ false) ks × Apart ks

or_split : (b c : Bool) → b || c ≡ false → (b ≡ false) × (c ≡ false)
or_split true c e = let h : true ≡ false = e in cc
or_split false c e = (refl, e)

abbrev Unseen : List RowKey → RowKey → Type 0
Unseen seen q = list_any (is_key q) seen ≡ false

unseen_rest : (k : RowKey) (seen keys : List RowKey) → AllByRecursion (Unseen (k ∷ seen)) keys → AllByRecursion (Unseen seen) keys
unseen_rest k seen [] all = tt
unseen_rest k seen (q ∷ keys) all = ((or_split (is_key q k) (list_any (is_key q) seen) all.0).1, unseen_rest k seen keys all.1)

unseen_head : (k : RowKey) (seen keys : List RowKey) → AllByRecursion (Unseen (k ∷ seen)) keys → AllByRecursion (λ q. is_key k q ≡ false) keys
unseen_head k seen [] all = tt
unseen_head k seen (q ∷ keys) all = (key_swap k q ∙ (or_split (is_key q k) (list_any (is_key q) seen) all.0).0, unseen_head k seen keys all.1)

needs_once : (seen : List RowKey) (xs : List Access) → Apart (needs_after seen xs) × AllByRecursion (Unseen seen) (needs_after seen xs)
needs_once seen [] = (tt, tt)
needs_once seen (Reads k ∷ xs) =
    by_bool (λ b. list_any (is_key k) seen ≡ b → Apart (cond b (needs_after seen xs) (k ∷ needs_after (k ∷ seen) xs)) × AllByRecursion (Unseen seen) (cond b (needs_after seen xs) (k ∷ needs_after (k ∷ seen) xs)))
    (list_any (is_key k) seen)
    (λ _ _. needs_once seen xs)
    (λ _ new. let rest = needs_once (k ∷ seen) xs in ((unseen_head k seen (needs_after (k ∷ seen) xs) rest.1, rest.0), (new, unseen_rest k seen (needs_after (k ∷ seen) xs) rest.1)))
    refl
needs_once seen (Writes k v ∷ xs) = let rest = needs_once (k ∷ seen) xs in (rest.0, unseen_rest k seen (needs_after (k ∷ seen) xs) rest.1)

writes_rise : (xs : List Access) (ws : List Write) → Ascend ws → Ascend (writes_after ws xs)
writes_rise [] ws rise = rise
writes_rise (Reads k ∷ xs) ws rise = writes_rise xs ws rise
writes_rise (Writes k v ∷ xs) ws rise = writes_rise xs (put_write k v ws) (ascend_put k v ws rise)

less_apart : (o : Ordering) → o ≡ Less → is_eq o ≡ false
less_apart Less e = refl
less_apart Equal e = let h : Equal ≡ Less = e in cc
less_apart Greater e = refl

below_apart : (k : RowKey) (ws : List Write) → IsBelowAll k ws → AllByRecursion (λ q. is_key k q ≡ false) (map (λ w. w.key) ws)
below_apart k [] all = tt
below_apart k (w ∷ ws) all = (less_apart (key_cmp k w.key) all.0, below_apart k ws all.1)

pub ascend_apart : (ws : List Write) → Ascend ws → Apart (map (λ w. w.key) ws)
ascend_apart [] rise = tt
ascend_apart (w ∷ ws) rise = (below_apart w.key ws rise.0, ascend_apart ws rise.1)

flow_needs : (m : Rows) (f : Flow) → Apart (run_of m f).needs
flow_needs m (Goes s) = (needs_once [] s.accesses).0
flow_needs m (Ends s v) = (needs_once [] s.accesses).0
flow_needs m (Refuses s c) = (needs_once [] s.accesses).0

flow_writes : (m : Rows) (f : Flow) → Apart (map (λ w. w.key) (run_of m f).writes)
flow_writes m (Goes s) = ascend_apart (writes_after [] s.accesses) (writes_rise s.accesses [] tt)
flow_writes m (Ends s v) = ascend_apart (writes_after [] s.accesses) (writes_rise s.accesses [] tt)
flow_writes m (Refuses s c) = tt

pub needs_apart : (ps : Procedures) (call : Call) (m : Rows) → Apart (run ps call m).needs
unfolding run
needs_apart ps call m = flow_needs m (flow_of ps m (procedure_at ps.procs call.proc_no) call.args)

pub writes_apart : (ps : Procedures) (call : Call) (m : Rows) → Apart (map (λ w. w.key) (run ps call m).writes)
unfolding run
writes_apart ps call m = flow_writes m (flow_of ps m (procedure_at ps.procs call.proc_no) call.args)

-- ---- those that are a key

alone : (k q : RowKey) (ks : List RowKey) → is_key k q ≡ true → AllByRecursion (λ j. is_key q j ≡ false) ks → AllByRecursion (λ j. is_key k j ≡ false) ks
alone k q ks same all = subst (λ (x : RowKey). AllByRecursion (λ j. is_key x j ≡ false) ks) (sym (one_key k q same)) all

none_kept : {X : Type 0} (key : X → RowKey) (k : RowKey) (xs : List X) → AllByRecursion (λ j. is_key k j ≡ false) (map key xs) → filter (λ x. is_key k (key x)) xs ≡ []
none_kept key k [] all = refl
none_kept key k (x ∷ xs) all = ap (λ (b : Bool). cond b (x ∷ filter (λ y. is_key k (key y)) xs) (filter (λ y. is_key k (key y)) xs)) all.0 ∙ none_kept key k xs all.1

-- at most one of them
pub at_most_one : {X : Type 0} (key : X → RowKey) (k : RowKey) (xs : List X) → Apart (map key xs) → (filter (λ x. is_key k (key x)) xs ≡ []) ⊎ ((x : X) × (filter (λ y. is_key k (key y)) xs ≡ x ∷ []) × (k ≡ key x))
at_most_one key k [] apart = inl refl
at_most_one key k (x ∷ xs) apart =
    by_bool (λ b. is_key k (key x) ≡ b → (cond b (x ∷ filter (λ y. is_key k (key y)) xs) (filter (λ y. is_key k (key y)) xs) ≡ []) ⊎ ((z : _) × (cond b (x ∷ filter (λ y. is_key k (key y)) xs) (filter (λ y. is_key k (key y)) xs) ≡ z ∷ []) × (k ≡ key z)))
    (is_key k (key x))
    (λ _ t. inr (x, ap (λ ys. x ∷ ys) (none_kept key k xs (alone k (key x) (map key xs) t apart.0)), one_key k (key x) t))
    (λ _ _. at_most_one key k xs apart.1)
    refl
