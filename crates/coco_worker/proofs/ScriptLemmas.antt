-- Scripts: their steps at a shard, and what a step leaves of the attempt.
use Rattle.std.proofs.Common.{◌≡◌, ℕ, ◌<◌, cond, List, [], ◌∷◌, ◌++◌, map, length, Result, Ok, Err, OnOk, refl, sym, ap, ◌∙◌, subst, arith, append_assoc, nat_eq, slice_index_or, slice_set}
use Rattle.std.specs.List.{filter}
use Rattle.std.proofs.lemmas.List.{map-append}
use Rattle.std.proofs.lemmas.List.Elements.{filter-append}
use Rattle.std.proofs.lemmas.Bool.{eq-eqb, ne_eqb}
use Rattle.coco_types.specs.declared.call.Write.{Write}
use Rattle.coco_desks.specs.Gains.{AreSame}
use Rattle.coco_desks.proofs.GainLemmas.{gain_as, gain_set, gain_then, stepped_calls}
use Rattle.coco_journaled.specs.Passes.{Steps}
use Rattle.coco_shard.specs.declared.ops.Ask.{Ask}
use Rattle.coco_shard.specs.declared.ops.Answer.{Answer}
use Rattle.coco_shard.specs.Table.{after_ask, answer_in, key_of}
use Rattle.coco_shard.specs.Law.{Entry}
use Rattle.coco_occ.proofs.OneTurn.{asks_partition}
use Rattle.coco_types.specs.RowKey.{partition_of}
use Rattle.coco_occ.specs.Script.{IsScript}
use Rattle.coco_occ.specs.Steps.{at_shard, taken}
use Rattle.coco_occ.specs.Trying.{Trying, Ready, Waits, Ended, IsSound, IsSoundAt}
use Rattle.coco_occ.specs.declared.outcome.Outcome.{Outcome}
use Rattle.coco_occ.specs.declared.script.Step.{Step}
use Rattle.coco_occ.specs.declared.outcome.Tried.{Tried}
use Rattle.coco_order.specs.Execution.{all_at_shard}
use Rattle.coco_worker.specs.Gains.{Make, ShardPass, entered}

pub at_shard_append : (shard : ℕ) (xs ys : List Step) → at_shard shard (xs ++ ys) ≡ at_shard shard xs ++ at_shard shard ys
at_shard_append shard xs ys =
    ap (map taken) (filter-append (λ (s : Step). nat_eq s.shard shard) xs ys) ∙ map-append taken (filter (λ (s : Step). nat_eq s.shard shard) xs) (filter (λ (s : Step). nat_eq s.shard shard) ys)

pub all_at_shard_append : (shard : ℕ) (ts us : List Tried) → all_at_shard shard (ts ++ us) ≡ all_at_shard shard ts ++ all_at_shard shard us
all_at_shard_append shard [] us = refl
all_at_shard_append shard (t ∷ ts) us =
    ap (λ (es : List Entry). at_shard shard t.script ++ es) (all_at_shard_append shard ts us) ∙ sym (append_assoc (at_shard shard t.script) (all_at_shard shard ts) (all_at_shard shard us))

-- what a step that may fail says, by what it ensures where it didn't
pub by_ok : {X E A B : Type 0} (r : Result X E) → OnOk r A → (A → B) → OnOk r B
by_ok (Ok x) a then = then a
by_ok (Err e) a then = tt

-- ---- one ask

-- an attempt asks one of the shards
pub below_shards : (a b : Trying) (count shard : ℕ) (ask : Ask) → a.partitions ≡ count → 0 < count → b ≡ record a { standing = b.standing } → IsSound b → b.standing ≡ Waits shard ask → shard < count
below_shards a b count shard ask many some others sound waits =
    let is : shard ≡ partition_of b.partitions (key_of ask.op) = asks_partition b shard ask sound waits in
    let same : b.partitions ≡ count = ap (λ (t : Trying). t.partitions) others ∙ many in
    let at : shard ≡ partition_of count (key_of ask.op) = is ∙ ap (λ (n : ℕ). partition_of n (key_of ask.op)) same in
    omega arith

at_own : (step : Step) (place : ℕ) → step.shard ≡ place → at_shard place (step ∷ []) ≡ taken step ∷ []
at_own step place is = ap (λ b. map taken (cond {A = List Step} b (step ∷ []) [])) (eq-eqb step.shard place is)

at_other : (step : Step) (place : ℕ) → (step.shard ≡ place → ⊥) → at_shard place (step ∷ []) ≡ []
at_other step place away = ap (λ b. map taken (cond {A = List Step} b (step ∷ []) [])) (ne_eqb step.shard place away)

-- the pass of the shard that is asked has the step, and no other pass has one
pub made_step : (passes : List ShardPass) (i : ℕ) (q d : ShardPass) (shard : ℕ) (ask : Ask) (answer : Answer) → i ≡ shard → i < length passes → Steps answer_in after_ask (slice_index_or passes i d) ask answer q
    → Make passes (slice_set passes i q) (λ place. at_shard place (record { shard = shard; ask = ask; answer = answer } ∷ []))
made_step passes i q d shard ask answer is lt steps =
    let step : Step = record { shard = shard; ask = ask; answer = answer } in
    gain_set entered passes i q d (taken step) (λ place. at_shard place (step ∷ [])) lt (stepped_calls answer_in after_ask entered (slice_index_or passes i d) q ask answer (taken step) steps (λ _. refl))
    (at_own step i (sym is)) (λ k away. at_other step k (λ e. away (is ∙ e)))

-- ---- one attempt

-- a stretch of its steps more
pub made_on : (a b c : List ShardPass) (xs ys zs : List Step) → AreSame a b → Make a b (λ shard. at_shard shard xs) → Make b c (λ shard. at_shard shard ys) → zs ≡ xs ++ ys → Make a c (λ shard. at_shard shard zs)
made_on a b c xs ys zs same first next is =
    gain_as entered a c (λ shard. at_shard shard xs ++ at_shard shard ys) (λ shard. at_shard shard zs)
    (gain_then entered a b c (λ shard. at_shard shard xs) (λ shard. at_shard shard ys) same first next) (λ shard _. sym (ap (at_shard shard) is ∙ at_shard_append shard xs ys))

-- what a move leaves of the attempt, but for where it stands
pub moved_on : (a b t : Trying) (script : List Step) → b ≡ record a { script = script; standing = Ready } → t ≡ record b { standing = t.standing } → t ≡ record a { script = script; standing = t.standing }
moved_on a b t script left others = others ∙ ap (λ (u : Trying). record u { standing = t.standing }) left

-- a move leaves the script
pub same_script : (b t : Trying) → t ≡ record b { standing = t.standing } → t.script ≡ b.script
same_script b t others = ap (λ (u : Trying). u.script) others

pub moved_left : (a b t : Trying) → b ≡ record a { script = b.script; standing = Ready } → t ≡ record b { standing = t.standing } → t ≡ record a { script = t.script; standing = t.standing }
moved_left a b t left others = moved_on a b t b.script left others ∙ ap (λ (xs : List Step). record a { script = xs; standing = t.standing }) (sym (same_script b t others))

-- what a taken answer leaves of the attempt
pub took_left : (a b t u : Trying) (script : List Step) → b ≡ record a { script = b.script; standing = Ready } → t ≡ record b { standing = t.standing } → u ≡ record t { script = script; standing = Ready } → u ≡ record a { script = u.script; standing = Ready }
took_left a b t u script left others took =
    let moved : u ≡ record a { script = script; standing = Ready } = took ∙ ap (λ (v : Trying). record v { script = script; standing = Ready }) (moved_on a b t b.script left others) in
    moved ∙ ap (λ (xs : List Step). record a { script = xs; standing = Ready }) (sym (ap (λ (v : Trying). v.script) took))

-- and of its script
pub took_script : (b t u : Trying) (step : Step) → t ≡ record b { standing = t.standing } → u ≡ record t { script = t.script ++ step ∷ []; standing = Ready } → u.script ≡ b.script ++ step ∷ []
took_script b t u step others took = ap (λ (v : Trying). v.script) took ∙ ap (λ (xs : List Step). xs ++ step ∷ []) (same_script b t others)

-- the script of an attempt that has ended is whole
pub ended_script : (a t : Trying) (script : List Step) (outcome : Outcome) (writes : List Write) → t ≡ record a { script = script; standing = t.standing } → IsSound t → t.standing ≡ Ended outcome writes
    → IsScript a.procs a.call a.by a.partitions script outcome writes
ended_script a t script outcome writes is sound ended =
    let s : IsSoundAt t (Ended outcome writes) = subst (IsSoundAt t) ended sound in
    let P : Trying → Type 0 = λ u. IsScript u.procs u.call u.by u.partitions u.script outcome writes in
    subst P is s
