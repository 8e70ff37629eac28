-- Scripts that a slot gains: from one stretch to the next, and the attempts at one request.
use Rattle.std.proofs.Common.{◌≡◌, ℕ, suc, ◌+◌, ◌<◌, true, List, [], ◌∷◌, ◌++◌, length, Option, None, Some, refl, sym, ap, ◌∙◌, subst, arith, append_assoc}
use Rattle.std.specs.Global.{Vec}
use Rattle.std.specs.List.{AllByRecursion, filter_map, flat_map}
use Rattle.std.proofs.lemmas.List.{append-nil, length-append}
use Rattle.std.proofs.lemmas.List.Concat.{flat_map-append}
use Rattle.std.proofs.lemmas.List.Elements.{filter_map-append}
use Rattle.std.proofs.lemmas.Option.{same_Some}
use Rattle.coco_types.specs.declared.call.AttemptId.{AttemptId}
use Rattle.coco_types.specs.declared.call.Request.{Request}
use Rattle.coco_types.specs.declared.call.Write.{Write}
use Rattle.coco_ast.proofs.Lists.{all_append, all_weaker}
use Rattle.coco_ast.specs.Tree.{Procedures}
use Rattle.coco_desks.specs.Gains.{AreSame}
use Rattle.coco_desks.proofs.GainLemmas.{gain_as, gain_none, gain_then}
use Rattle.coco_gate.specs.declared.passes.Passage.{Passage}
use Rattle.coco_occ.specs.Script.{IsScript}
use Rattle.coco_occ.specs.Steps.{at_shard}
use Rattle.coco_occ.specs.Trying.{Trying, has_ended}
use Rattle.coco_occ.specs.declared.outcome.Ended.{Ended as Unmade}
use Rattle.coco_occ.specs.declared.outcome.Outcome.{Outcome}
use Rattle.coco_occ.specs.declared.outcome.Tried.{Tried}
use Rattle.coco_occ.specs.declared.script.Step.{Step}
use Rattle.coco_order.specs.Execution.{all_at_shard, is_conflict}
use Rattle.coco_worker.specs.Gains.{Make, ShardPass, entered}
use Rattle.coco_worker.specs.Trying.{Adds, AddsScript, AreNumbered, HasEnded, IsAt, IsGated, IsOver, IsTriedAt, Runs, TriesOnce, TriesOnly, TriesOut, at_start, ends_of, point, points_behind, points_of, time_of, unmade_of}
use Rattle.coco_worker.specs.declared.slot.Slot.{Slot}
use Rattle.coco_worker.proofs.ScriptLemmas.{all_at_shard_append}

-- ---- the scripts that a slot gains

numbered_append : (n m : ℕ) (ts us : List Tried) → m ≡ n + length ts → AreNumbered n ts → AreNumbered m us → AreNumbered n (ts ++ us)
numbered_append n m [] us is here there = subst (λ (k : ℕ). AreNumbered k us) (let e : m ≡ n = omega arith in e) there
numbered_append n m (t ∷ ts) us is here there = (here.0, numbered_append (suc n) m ts us (omega arith) here.1 there)

module _ (P : Tried → Type 0) where
  pub adds_none : (s : Slot) → Adds P s s []
  adds_none s = record {
    transcript = sym (append-nil s.transcript);
    made = gain_none entered s.passes.items;
    whole = tt;
    numbered = tt;
  }

  pub adds_then : (a b c : Slot) (ts us : List Tried) → AreSame a.passes.items b.passes.items → Adds P a b ts → Adds P b c us → Adds P a c (ts ++ us)
  adds_then a b c ts us same first next = record {
    transcript = next.transcript ∙ ap (λ (xs : List Tried). xs ++ us) first.transcript ∙ append_assoc a.transcript ts us;
    made = gain_as entered a.passes.items c.passes.items (λ shard. all_at_shard shard ts ++ all_at_shard shard us) (λ shard. all_at_shard shard (ts ++ us))
        (gain_then entered a.passes.items b.passes.items c.passes.items (λ shard. all_at_shard shard ts) (λ shard. all_at_shard shard us) same first.made next.made)
        (λ shard _. sym (all_at_shard_append shard ts us));
    whole = all_append P ts us first.whole next.whole;
    numbered = numbered_append (length a.transcript) (length b.transcript) ts us (ap length first.transcript ∙ length-append a.transcript ts) first.numbered next.numbered;
  }

pub adds_weaker : (P Q : Tried → Type 0) (a b : Slot) (ts : List Tried) → ((t : Tried) → P t → Q t) → Adds P a b ts → Adds Q a b ts
adds_weaker P Q a b ts weaker adds = record {
  transcript = adds.transcript;
  made = adds.made;
  whole = all_weaker P Q weaker ts adds.whole;
  numbered = adds.numbered;
}

-- ---- the points that it passes

gated_more : (gate worker : ℕ) (ts us : List Tried) (ps qs : List Passage) (t : Tried) (outcome : Outcome) → t.outcome ≡ outcome → us ≡ ts ++ t ∷ []
    → qs ≡ (ps ++ point gate worker 1 ∷ []) ++ points_behind gate worker outcome → ps ≡ flat_map (points_of gate worker) ts → qs ≡ flat_map (points_of gate worker) us
gated_more gate worker ts us ps qs t outcome is more passed was =
    passed ∙ append_assoc ps (point gate worker 1 ∷ []) (points_behind gate worker outcome)
    ∙ ap (λ (o : Outcome). ps ++ point gate worker 1 ∷ points_behind gate worker o) (sym is)
    ∙ ap (λ (xs : List Passage). xs ++ points_of gate worker t) was
    ∙ ap (λ (xs : List Passage). flat_map (points_of gate worker) ts ++ xs) (sym (append-nil (points_of gate worker t)))
    ∙ sym (flat_map-append (points_of gate worker) ts (t ∷ []))
    ∙ ap (flat_map (points_of gate worker)) (sym more)

-- ---- one attempt at a request

-- what it ran from
pub runs_from : (old room : Option Trying) (t first : Trying) (passes a b : List ShardPass) → old ≡ Some t → old ≡ Some first → passes ≡ a → Runs t room passes b → Runs first room a b
runs_from old room t first passes a b at ready same runs = subst (λ (ps : List ShardPass). Runs first room ps b) same (subst (λ (u : Trying). Runs u room passes b) (same_Some t first (sym at ∙ ready)) runs)

-- what is in the room of an attempt that ran
pub ran_so : (first t : Trying) (room : Option Trying) (a b : List ShardPass) (runs : Runs first room a b) → room ≡ Some t → t ≡ record first { script = runs.script; standing = runs.standing }
ran_so first t room a b runs at = same_Some t (record first { script = runs.script; standing = runs.standing }) (sym at ∙ runs.left)

module _ {gate place : ℕ} {by : AttemptId} {t : Trying} {b d : Slot} {outcome : Outcome} (adds : AddsScript gate place by t b d outcome) (a : Slot) (transcript : b.transcript ≡ a.transcript) where
  abbrev tried : Tried
  tried = record { place = place; by = by; script = t.script; outcome = outcome }

  added : d.transcript ≡ a.transcript ++ tried ∷ []
  added = adds.added ∙ ap (λ (ts : List Tried). ts ++ tried ∷ []) transcript

  -- an attempt that ran has ended, and its script is added
  pub tries_once : (procs : Procedures) (request : Request) (partitions : ℕ) (room : Option Trying) → room ≡ Some t → by.number ≡ length a.transcript → by.worker ≡ a.worker
      → Runs (at_start procs request.call by partitions) room a.passes.items b.passes.items → d.passes ≡ b.passes → TriesOnce procs request place partitions a d room outcome
  tries_once procs request partitions room at number worker runs kept =
      let is : t ≡ record (at_start procs request.call by partitions) { script = runs.script; standing = runs.standing } = ran_so (at_start procs request.call by partitions) t room a.passes.items b.passes.items runs at in
      let same : t.script ≡ runs.script = ap (λ (u : Trying). u.script) is in
      let whole : IsAt procs request a.worker place partitions tried adds.writes = record {
        at = refl;
        by_worker = worker;
        script = subst (λ (xs : List Step). IsScript procs request.call by partitions xs outcome adds.writes) (sym same) (runs.whole outcome adds.writes (sym (ap (λ (u : Trying). u.standing) is) ∙ adds.ended));
      } in
      record {
        tried = tried;
        writes = adds.writes;
        adds = record {
          transcript = added;
          made = gain_as entered a.passes.items d.passes.items (λ shard. at_shard shard runs.script) (λ shard. all_at_shard shard (tried ∷ []))
              (subst (λ (ps : List ShardPass). Make a.passes.items ps (λ shard. at_shard shard runs.script)) (sym (ap (λ (v : Vec ShardPass). v.items) kept)) runs.made)
              (λ shard _. ap (at_shard shard) (sym same) ∙ sym (append-nil (at_shard shard t.script)));
          whole = ((adds.writes, whole), tt);
          numbered = (number, tt);
        };
        is = whole;
        outcome_is = refl;
        ended = subst (HasEnded outcome adds.writes) (sym at) adds.ended;
      }

  -- and its points are passed
  pub gated_once : b.passed ≡ a.passed ++ point gate a.worker 1 ∷ [] → b.worker ≡ a.worker → d.worker ≡ a.worker → IsGated gate a → IsGated gate d
  gated_once passed same worker was = subst (λ (w : ℕ). d.passed ≡ flat_map (points_of gate w) d.transcript) (sym worker)
      (gated_more gate a.worker a.transcript d.transcript a.passed d.passed tried outcome refl added
      (adds.passed ∙ ap (λ (ps : List Passage). ps ++ points_behind gate b.worker outcome) passed ∙ ap (λ (w : ℕ). (a.passed ++ point gate a.worker 1 ∷ []) ++ points_behind gate w outcome) same) was)

-- ---- the attempts at a request

-- those so far, which all conflicted, and how many are left
pub record SoFar (procs : Procedures) (request : Request) (place partitions attempts left : ℕ) (before after : Slot) (ends : List Unmade) : Type 0 where
  pub tried : List Tried
  pub adds : Adds (IsTriedAt procs request before.worker place partitions) before after tried
  pub conflicts : AllByRecursion (λ t. is_conflict t.outcome ≡ true) tried
  pub ends_are : ends ≡ ends_of tried
  pub count : length tried + left ≡ attempts

at_place : (procs : Procedures) (request : Request) (worker place partitions : ℕ) (t : Tried) → IsTriedAt procs request worker place partitions t → t.place ≡ place
at_place procs request worker place partitions t is = is.1.at

-- the end of one that didn't commit, none of a commit
abbrev pub ends_in : Outcome → List Unmade
ends_in outcome = filter_map unmade_of (outcome ∷ [])

ends_more : (ts : List Tried) (t : Tried) (outcome : Outcome) → t.outcome ≡ outcome → ends_of (ts ++ t ∷ []) ≡ ends_of ts ++ ends_in outcome
ends_more ts t outcome is = filter_map-append (λ (u : Tried). unmade_of u.outcome) ts (t ∷ []) ∙ ap (λ (o : Outcome). ends_of ts ++ ends_in o) is

pub same_worker : (a b : Slot) → TriesOnly a b → b.worker ≡ a.worker
same_worker a b tries = ap (λ (s : Slot). s.worker) tries

pub only_then : (a b c : Slot) → TriesOnly a b → TriesOnly b c → TriesOnly a c
only_then a b c first next = next ∙ ap (λ (s : Slot). record s { passes = c.passes; transcript = c.transcript; passed = c.passed }) first

-- one that conflicted more
pub so_far_more : (procs : Procedures) (request : Request) (place partitions attempts left fewer : ℕ) (a b c : Slot) (ends more : List Unmade) (room : Option Trying) (outcome : Outcome) → AreSame a.passes.items b.passes.items → b.worker ≡ a.worker
    → SoFar procs request place partitions attempts left a b ends → TriesOnce procs request place partitions b c room outcome → is_conflict outcome ≡ true → more ≡ ends ++ ends_in outcome → left ≡ suc fewer
    → SoFar procs request place partitions attempts fewer a c more
so_far_more procs request place partitions attempts left fewer a b c ends more room outcome same worker so once conflicts is less = record {
  tried = so.tried ++ once.tried ∷ [];
  adds = adds_then P a b c so.tried (once.tried ∷ []) same so.adds (subst (λ (w : ℕ). Adds (IsTriedAt procs request w place partitions) b c (once.tried ∷ [])) worker once.adds);
  conflicts = all_append (λ (t : Tried). is_conflict t.outcome ≡ true) so.tried (once.tried ∷ []) so.conflicts (ap is_conflict once.outcome_is ∙ conflicts, tt);
  ends_are = is ∙ ap (λ (es : List Unmade). es ++ ends_in outcome) so.ends_are ∙ sym (ends_more so.tried once.tried outcome once.outcome_is);
  count = (let len = length-append so.tried (once.tried ∷ []) in let was = so.count in omega arith);
}
  where
    P : Tried → Type 0
    P t = IsTriedAt procs request a.worker place partitions t

-- the last one
pub tries_out : (procs : Procedures) (request : Request) (place partitions attempts left : ℕ) (a b c : Slot) (ends more : List Unmade) (room : Option Trying) (outcome : Outcome) → AreSame a.passes.items b.passes.items → b.worker ≡ a.worker
    → SoFar procs request place partitions attempts left a b ends → TriesOnce procs request place partitions b c room outcome → more ≡ ends ++ ends_in outcome → 0 < left → (is_conflict outcome ≡ true → left ≡ 1)
    → TriesOut procs request place partitions attempts a c more room (time_of outcome)
tries_out procs request place partitions attempts left a b c ends more room outcome same worker so once is some used =
    let all : List Tried = so.tried ++ once.tried ∷ [] in
    let len : length all ≡ length so.tried + 1 = length-append so.tried (once.tried ∷ []) in
    let was = so.count in
    let adds : Adds P a c all = adds_then P a b c so.tried (once.tried ∷ []) same so.adds (subst (λ (w : ℕ). Adds (IsTriedAt procs request w place partitions) b c (once.tried ∷ [])) worker once.adds) in
    record {
      tries = record { place = place; conflicts = so.tried; last = once.tried };
      writes = once.writes;
      are = record {
        placed = all_weaker P (λ (t : Tried). t.place ≡ place) (at_place procs request a.worker place partitions) all adds.whole;
        conflicts = so.conflicts;
        allowed = omega arith;
        used_up = λ conflicts. (let one : left ≡ 1 = used (sym (ap is_conflict once.outcome_is) ∙ conflicts) in omega arith);
      };
      at = refl;
      adds = adds;
      ends_are = is ∙ ap (λ (es : List Unmade). es ++ ends_in outcome) so.ends_are ∙ sym (ends_more so.tried once.tried outcome once.outcome_is);
      time_is = ap time_of (sym once.outcome_is);
      ended = subst (λ (o : Outcome). HasEnded o once.writes room) (sym once.outcome_is) once.ended;
      last = subst (λ (w : ℕ). IsAt procs request w place partitions once.tried once.writes) worker once.is;
    }
  where
    P : Tried → Type 0
    P t = IsTriedAt procs request a.worker place partitions t

-- the room of an attempt that has ended may be used again
pub over_once_ended : (room : Option Trying) (outcome : Outcome) (writes : List Write) → HasEnded outcome writes room → IsOver room
over_once_ended None outcome writes ended = absurd ended
over_once_ended (Some a) outcome writes ended = ap has_ended ended

-- before the first one
pub so_far_none : (procs : Procedures) (request : Request) (place partitions attempts : ℕ) (s : Slot) (ends : List Unmade) → ends ≡ [] → SoFar procs request place partitions attempts attempts s s ends
so_far_none procs request place partitions attempts s ends empty = record {
  tried = [];
  adds = adds_none (IsTriedAt procs request s.worker place partitions) s;
  conflicts = tt;
  ends_are = empty;
  count = omega arith;
}
