-- Locks that are started, and those by whose passes nothing was done.
use Rattle.std.proofs.Common.{◌≡◌, ℕ, zero, suc, ◌<◌, ◌++◌, List, [], ◌∷◌, All, map, length, Some, refl, sym, ap, ◌∙◌, subst, arith, append_assoc}
use Rattle.std.specs.Prelude.{sum_by}
use Rattle.std.specs.Global.{Vec}
use Rattle.std.proofs.lemmas.List.{append-nil, length-map}
use Rattle.std.proofs.lemmas.List.Elements.{All-head, All-map}
use Rattle.std.proofs.lemmas.List.Sums.{sum_by-cons}
use Rattle.std.proofs.lemmas.Option.{same_Some}
use Rattle.coco_journaled.specs.declared.entry.Entry.{Entry}
use Rattle.coco_journaled.specs.Passes.{Passing, new_pass}
use Rattle.coco_journaled.specs.Replay.{Replays, after}
use Rattle.coco_seen.specs.Notes.{Lock, TableId}
use Rattle.coco_seen.specs.Rules.{numbers}
use Rattle.coco_desks.specs.Locking.{AreBack, AreEnded, AreStarted, IsBack, IsEnded, IsStarted}
use Rattle.coco_desks.proofs.ClosingLemmas.{nothing}

pub numbers_count : (first count : ℕ) → length (numbers first count) ≡ count
numbers_count first zero = refl
numbers_count first (suc count) = ap suc (numbers_count (suc first) count)

module _ {M Q A : Type 0} where
  started_back : (workers : ℕ) (machine : M) (lock : Lock) (tray : Vec (Passing M Q A)) → IsStarted workers machine lock tray → IsBack lock tray
  started_back workers machine lock tray is = record {
    locks = subst (All (λ (p : Passing M Q A). p.lock ≡ lock.id)) (sym is.passes) (All-map (λ (p : Passing M Q A). p.lock ≡ lock.id) (new_pass lock.id machine) (numbers 0 workers) (λ k d lt. refl));
    all = tray.ok.0 ∙ ap length is.passes ∙ length-map (numbers 0 workers) (new_pass lock.id machine) ∙ numbers_count 0 workers ∙ sym is.notes;
  }

  pub all_back : (workers : ℕ) (machines : List M) (locks : List Lock) (trays : List (Vec (Passing M Q A))) → AreStarted workers machines locks trays → AreBack locks trays
  all_back workers [] [] [] are = tt
  all_back workers [] [] (t ∷ ts) are = absurd are
  all_back workers [] (l ∷ ls) ts are = absurd are
  all_back workers (m ∷ ms) [] ts are = absurd are
  all_back workers (m ∷ ms) (l ∷ ls) [] are = absurd are
  all_back workers (m ∷ ms) (l ∷ ls) (t ∷ ts) are = (started_back workers m l t are.0, all_back workers ms ls ts are.1)

  pub started_push : (workers : ℕ) (machines : List M) (locks : List Lock) (trays : List (Vec (Passing M Q A))) (machine : M) (lock : Lock) (tray : Vec (Passing M Q A)) → AreStarted workers machines locks trays
      → IsStarted workers machine lock tray → AreStarted workers (machines ++ machine ∷ []) (locks ++ lock ∷ []) (trays ++ tray ∷ [])
  started_push workers [] [] [] machine lock tray are is = (is, tt)
  started_push workers [] [] (t ∷ ts) machine lock tray are is = absurd are
  started_push workers [] (l ∷ ls) ts machine lock tray are is = absurd are
  started_push workers (m ∷ ms) [] ts machine lock tray are is = absurd are
  started_push workers (m ∷ ms) (l ∷ ls) [] machine lock tray are is = absurd are
  started_push workers (m ∷ ms) (l ∷ ls) (t ∷ ts) machine lock tray are is = (are.0, started_push workers ms ls ts machine lock tray are.1 is)

no_calls : {M : Type 0} (Q A : Type 0) (lock : TableId) (machine : M) (ks : List ℕ) → sum_by (λ (p : Passing M Q A). length p.calls) (map (new_pass lock machine) ks) ≡ 0
no_calls Q A lock machine [] = refl
no_calls Q A lock machine (k ∷ ks) = omega (arith, sum_by-cons (λ (p : Passing _ Q A). length p.calls) (new_pass lock machine k) (map (new_pass lock machine) ks), no_calls Q A lock machine ks)

module _ {M Q A : Type 0} (answer_to : M → Q → A) (state_after : M → Q → M) where
  abbrev CameFrom : List (Entry Q A) → M → Passing M Q A → Type 0
  CameFrom journal machine p = (root : M) × (p.root ≡ Some root) × Replays answer_to state_after root journal machine

  first_pass : (workers : ℕ) (lock : TableId) (root machine : M) (journal : List (Entry Q A)) → 0 < workers → All (CameFrom journal machine) (map (new_pass lock root) (numbers 0 workers)) → journal ≡ [] → machine ≡ root
  first_pass zero lock root machine journal some all none = absurd (omega arith)
  first_pass (suc n) lock root machine journal some all none =
      let first = All-head (CameFrom journal machine) (new_pass lock root 0) (map (new_pass lock root) (numbers 1 n)) all in
      first.2.machine_is ∙ ap (after state_after first.0) none ∙ sym (same_Some root first.0 first.1)

  -- a lock by which nothing was done leaves its machine
  machine_same : (workers : ℕ) (root : M) (lock : Lock) (tray : Vec (Passing M Q A)) (machine : M) (journal : List (Entry Q A)) → 0 < workers → IsStarted workers root lock tray → IsEnded answer_to state_after tray machine journal → machine ≡ root
  machine_same workers root lock tray machine journal some started ended =
      first_pass workers lock.id root machine journal some (subst (All (CameFrom journal machine)) started.passes ended.replays)
      (nothing journal (ended.sized ∙ ap (sum_by (λ (p : Passing M Q A). length p.calls)) started.passes ∙ no_calls Q A lock.id root (numbers 0 workers)))

  pub machines_same : (workers : ℕ) → 0 < workers → (machines : List M) (locks : List Lock) (trays : List (Vec (Passing M Q A))) → AreStarted workers machines locks trays → (ms : List M) (js : List (List (Entry Q A))) (ms' : List M) (js' : List (List (Entry Q A)))
      → AreEnded answer_to state_after trays ms js ms' js' → ms' ≡ ms ++ machines
  machines_same workers some [] [] [] are ms js ms' js' ended = ended.0 ∙ sym (append-nil ms)
  machines_same workers some [] [] (t ∷ ts) are ms js ms' js' ended = absurd are
  machines_same workers some [] (l ∷ ls) ts are ms js ms' js' ended = absurd are
  machines_same workers some (m ∷ machines) [] ts are ms js ms' js' ended = absurd are
  machines_same workers some (m ∷ machines) (l ∷ ls) [] are ms js ms' js' ended = absurd are
  machines_same workers some (m ∷ machines) (l ∷ ls) (t ∷ ts) are ms js ms' js' ended =
      machines_same workers some machines ls ts are.1 (ms ++ ended.0 ∷ []) (js ++ ended.1 ∷ []) ms' js' ended.3 ∙ append_assoc ms (ended.0 ∷ []) machines
      ∙ ap (λ (x : M). ms ++ x ∷ machines) (machine_same workers m l t ended.0 ended.1 some are.0 ended.2)

-- the first machines are behind these locks, and the rest is left
pub record HasStarted {M Q A : Type 0} (workers : ℕ) (machines rest : List M) (locks : List Lock) (trays : List (Vec (Passing M Q A))) : Type 0 where
  pub firsts : List M
  pub parts : machines ≡ firsts ++ rest
  pub are : AreStarted workers firsts locks trays

module _ {M Q A : Type 0} (workers : ℕ) (machines rest : List M) (locks : List Lock) (trays : List (Vec (Passing M Q A))) where
  pub started_none : rest ≡ machines → locks ≡ [] → trays ≡ [] → HasStarted workers machines rest locks trays
  started_none all none empty = record {
    firsts = [];
    parts = sym all;
    are = subst (λ (ls : List Lock). AreStarted workers [] ls trays) (sym none) (subst (λ (ts : List (Vec (Passing M Q A))). AreStarted workers [] [] ts) (sym empty) tt);
  }

  pub started_more : (has : HasStarted workers machines rest locks trays) (machine : M) (left : List M) (lock : Lock) (tray : Vec (Passing M Q A)) (ls : List Lock) (ts : List (Vec (Passing M Q A))) → rest ≡ machine ∷ left → IsStarted workers machine lock tray
      → ls ≡ locks ++ lock ∷ [] → ts ≡ trays ++ tray ∷ [] → HasStarted workers machines left ls ts
  started_more has machine left lock tray ls ts first is more_locks more_trays = record {
    firsts = has.firsts ++ machine ∷ [];
    parts = has.parts ∙ ap (λ (ms : List M). has.firsts ++ ms) first ∙ sym (append_assoc has.firsts (machine ∷ []) left);
    are = subst (λ (xs : List Lock). AreStarted workers (has.firsts ++ machine ∷ []) xs ts) (sym more_locks)
        (subst (λ (xs : List (Vec (Passing M Q A))). AreStarted workers (has.firsts ++ machine ∷ []) (locks ++ lock ∷ []) xs) (sym more_trays) (started_push workers has.firsts locks trays machine lock tray has.are is));
  }

  pub started_all : HasStarted workers machines rest locks trays → length rest ≡ 0 → AreStarted workers machines locks trays
  started_all has none = subst (λ (ms : List M). AreStarted workers ms locks trays) (sym (has.parts ∙ ap (λ (ms : List M). has.firsts ++ ms) (nothing rest none) ∙ append-nil has.firsts)) has.are

  pub all_again : (has : HasStarted workers machines rest locks trays) (machine same : M) (left back : List M) → rest ≡ machine ∷ left → same ≡ machine → back ≡ has.firsts ++ same ∷ left → back ≡ machines
  all_again has machine same left back first is all = all ∙ ap (λ (m : M). has.firsts ++ m ∷ left) is ∙ ap (λ (ms : List M). has.firsts ++ ms) (sym first) ∙ sym has.parts
