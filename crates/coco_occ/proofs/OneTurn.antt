-- One turn of an attempt.
use Rattle.std.proofs.Common.{◌≡◌, ℕ, ◌<◌, ◌≤◌, inr, true, false, List, [], ◌∷◌, ◌++◌, map, length, Some, Result, Ok, Err, IfOk, OnOk, OnErr, refl, sym, ap, ◌∙◌, subst, arith, slice_index_or, slice_set}
use Rattle.std.specs.List.{AllByRecursion, slice_get}
use Rattle.std.proofs.lemmas.List.{append-nil}
use Rattle.std.proofs.lemmas.Option.{slice_get-get_or}
use Rattle.coco_types.specs.RowKey.{partition_of}
use Rattle.coco_types.specs.declared.call.AttemptId.{AttemptId}
use Rattle.coco_types.specs.declared.call.Write.{Write}
use Rattle.coco_ast.specs.Tree.{Procedures}
use Rattle.coco_ast.proofs.Lists.{all_left, all_right}
use Rattle.coco_shard.specs.RowState.{ShardState}
use Rattle.coco_shard.specs.Table.{after_ask, answer_in, key_of}
use Rattle.coco_shard.specs.declared.ops.Ask.{Ask}
use Rattle.coco_shard.specs.declared.ops.Answer.{Answer}
use Rattle.coco_occ.specs.Exchange.{Exchange, step_of}
use Rattle.coco_occ.specs.Interleaving.{Act, Steps, Ends, Rests, end_move, move_in, standing_behind, standing_after, Plays, IsBrought, MayBeAsked, TakesTurn, WaitsForNone, MayPlay}
use Rattle.coco_occ.specs.Trying.{Standing, Ready, Waits, Ended, Trying, IsSound, IsSoundAt, IsMoveOf, answered, has_ended}
use Rattle.coco_occ.specs.declared.outcome.Move.{Move}
use Rattle.coco_occ.specs.declared.outcome.Move.TheVariants as move
use Rattle.coco_occ.specs.declared.outcome.Outcome.{Outcome}
use Rattle.coco_occ.specs.declared.outcome.Outcome.TheVariants.{Committed, Conflict, OverTime}
use Rattle.coco_occ.specs.declared.script.Step.{Step}

-- ---- which shard is asked

abbrev IsSentTo : ℕ → Step → Type 0
IsSentTo partitions s = s.shard ≡ partition_of partitions (key_of s.ask.op)

all_sent : (by : AttemptId) (partitions : ℕ) (asked : List Exchange) → AllByRecursion (IsSentTo partitions) (map (step_of by partitions) asked)
all_sent by partitions [] = tt
all_sent by partitions (e ∷ asked) = (refl, all_sent by partitions asked)

-- an attempt asks the shard of its key's partition
pub asks_partition : (t : Trying) (shard : ℕ) (ask : Ask) → IsSound t → t.standing ≡ Waits shard ask → shard ≡ partition_of t.partitions (key_of ask.op)
asks_partition t shard ask sound waits =
    let s : IsSoundAt t (Waits shard ask) = subst (IsSoundAt t) waits sound in
    let begun = s.2 in
    let step : Step = record { shard = shard; ask = ask; answer = s.0 } in
    let all : AllByRecursion (IsSentTo t.partitions) ((t.script ++ step ∷ []) ++ begun.rest) = subst (AllByRecursion (IsSentTo t.partitions)) (sym begun.whole.steps) (all_sent t.by t.partitions begun.whole.asked) in
    (all_right (IsSentTo t.partitions) t.script (step ∷ []) (all_left (IsSentTo t.partitions) (t.script ++ step ∷ []) begun.rest all)).0

pub asks_below : (procs : Procedures) (count : ℕ) (a b : Trying) (shard : ℕ) (ask : Ask) → MayPlay procs count a → b ≡ record a { standing = b.standing } → IsSound b → b.standing ≡ Waits shard ask → shard < count
asks_below procs count a b shard ask may others sound waits =
    let is : shard ≡ partition_of b.partitions (key_of ask.op) = asks_partition b shard ask sound waits in
    let same : b.partitions ≡ count = ap (λ (t : Trying). t.partitions) others ∙ may.partitions_are in
    let some : 1 ≤ count = may.some_shards in
    let at : shard ≡ partition_of count (key_of ask.op) = is ∙ ap (λ (n : ℕ). partition_of n (key_of ask.op)) same in
    omega arith

-- what lends the shard and what lends the ask say the same
pub one_ask : (s : Standing) (shard : ℕ) (ask : Ask) → ((a : Ask) × (s ≡ Waits shard a)) → ((n : ℕ) × (s ≡ Waits n ask)) → s ≡ Waits shard ask
one_ask s shard ask p q =
    let same : p.0 ≡ ask = (let g : Waits shard p.0 ≡ Waits q.0 ask = sym p.1 ∙ q.1 in cc) in
    p.1 ∙ ap (λ (a : Ask). Waits shard a) same

-- the last move tells the end
pub end_told : (outcome : Outcome) (writes : List Write) → IsMoveOf (Ended outcome writes) (end_move outcome)
end_told (Committed time reply) writes = (writes, refl)
end_told (Conflict why) writes = (writes, refl)
end_told OverTime writes = (writes, refl)

-- and it is no ask
pub end_asks_not : (s : Standing) (made : Move) → has_ended s ≡ true → IsMoveOf s made → (shard : ℕ) (ask : Ask) → made ≡ move.Ask shard ask → ⊥
end_asks_not s made ended told shard ask is =
    let waits : s ≡ Waits shard ask = subst (IsMoveOf s) is told in
    let g : false ≡ true = sym (ap has_ended waits) ∙ ended in cc

-- ---- the three kinds of turn

pub ready_to_move : (s : Standing) → WaitsForNone s → has_ended s ≡ false → s ≡ Ready
ready_to_move Ready free is = refl
ready_to_move (Waits shard ask) free is = absurd free
ready_to_move (Ended outcome writes) free is = absurd (let h : true ≡ false = is in cc)

pub step_turn : (shards served : List ShardState) (a b c : Trying) (shard : ℕ) (ask : Ask) → a.standing ≡ Ready → b ≡ record a { standing = b.standing } → (brought : IsBrought shards served b c shard ask) →
    TakesTurn shards served a c (Steps (record { shard = shard; ask = ask; answer = brought.answer }))
step_turn shards served a b c shard ask ready others brought = record {
  plays = record {
    turns = (ap has_ended (sym ready), tt);
    left = brought.took ∙ ap (λ (t : Trying). record t { script = answered t shard ask brought.answer; standing = Ready }) others;
    sound = λ _. brought.sound;
  };
  is_served = brought.is_served;
}

pub end_turn : (shards : List ShardState) (a b : Trying) (outcome : Outcome) (writes : List Write) → a.standing ≡ Ready → b ≡ record a { standing = b.standing } → IsSound b → b.standing ≡ Ended outcome writes →
    TakesTurn shards shards a b (Ends outcome writes)
end_turn shards a b outcome writes ready others sound ends = record {
  plays = record {
    turns = (ap has_ended (sym ready), tt);
    left = others ∙ ap (λ (s : Standing). record a { standing = s }) ends ∙ ap (λ (x : List Step). record a { script = x; standing = Ended outcome writes }) (sym (append-nil a.script));
    sound = λ _. sound;
  };
  is_served = refl;
}

-- ---- it may take its next turn

free_behind : (s : Standing) (a : Act) → WaitsForNone s → WaitsForNone (standing_behind s a)
free_behind s (Steps step) free = tt
free_behind s (Ends outcome writes) free = tt
free_behind s Rests free = free

free_after : (s : Standing) (acts : List Act) → WaitsForNone s → WaitsForNone (standing_after s acts)
free_after s [] free = free
free_after s (a ∷ acts) free = free_after (standing_behind s a) acts (free_behind s a free)

pub plays_on : (procs : Procedures) (count : ℕ) (a b : Trying) (acts : List Act) → MayPlay procs count a → Plays a b acts → MayPlay procs count b
plays_on procs count a b acts may plays = record {
  some_shards = may.some_shards;
  procs_are = ap (λ (t : Trying). t.procs) plays.left ∙ may.procs_are;
  partitions_are = ap (λ (t : Trying). t.partitions) plays.left ∙ may.partitions_are;
  free = subst WaitsForNone (sym (ap (λ (t : Trying). t.standing) plays.left)) (free_after a.standing acts may.free);
}

-- ---- an answer that is brought

pub if_ok_at : {E X : Type 0} (P : X → Type 0) (r : Result X E) (x : X) → r ≡ Ok x → IfOk r P → P x
if_ok_at P r x is holds = subst (λ s. IfOk s P) is holds

pub on_ok_both : {E X A B C : Type 0} (r : Result X E) → (A → B → C) → OnOk r A → OnOk r B → OnOk r C
on_ok_both (Ok x) f a b = f a b
on_ok_both (Err e) f a b = tt

pub on_err_any : {E X A : Type 0} (r : Result X E) → A → OnErr r A
on_err_any (Ok x) a = tt
on_err_any (Err e) a = a

-- the place n of a list of shards, where the asked one stands
pub asked_at : (shards : List ShardState) (n shard : ℕ) (ask : Ask) (t d : ShardState) → n ≡ shard → shard < length shards → t ≡ after_ask (slice_index_or shards n d) ask →
    (s : ShardState) × (slice_get shards shard ≡ Some s) × (slice_set shards n t ≡ slice_set shards shard (after_ask s ask)) × (slice_index_or shards n d ≡ s)
asked_at shards n shard ask t d same below is =
    (slice_index_or shards shard d, slice-get-some, ap (slice_set shards n) is ∙ ap (λ (k : ℕ). slice_set shards k (after_ask (slice_index_or shards k d) ask)) same, ap (λ (k : ℕ). slice_index_or shards k d) same)
  where
    slice-get-some : slice_get shards shard ≡ Some (slice_index_or shards shard d)
    slice-get-some = slice_get-get_or shards shard d below

pub brought : (shards : List ShardState) (a b : Trying) (n shard : ℕ) (ask : Ask) (answer : Answer) (t d : ShardState) → n ≡ shard → shard < length shards → answer ≡ answer_in (slice_index_or shards n d) ask → t ≡ after_ask (slice_index_or shards n d) ask →
    b ≡ record a { script = answered a shard ask answer; standing = Ready } → IsSound b → IsBrought shards (slice_set shards n t) a b shard ask
brought shards a b n shard ask answer t d same below told is took sound =
    let at = asked_at shards n shard ask t d same below is in
    record {
      answer = answer;
      took = took;
      sound = sound;
      is_served = (at.0, at.1, told ∙ ap (λ (s : ShardState). answer_in s ask) at.3, at.2);
    }

pub may_be_asked : (shards : List ShardState) (n shard : ℕ) (ask : Ask) (t d : ShardState) → n ≡ shard → shard < length shards → t ≡ after_ask (slice_index_or shards n d) ask → MayBeAsked shards (slice_set shards n t) shard ask
may_be_asked shards n shard ask t d same below is = let at = asked_at shards n shard ask t d same below is in inr (at.0, at.1, at.2)

-- ---- the act of a move

abbrev pub ActOf : Move → List ShardState → List ShardState → Trying → Trying → Type 0
ActOf made shards served a b = (act : Act) × (Some made ≡ move_in act) × TakesTurn shards served a b act

pub asked_act : (shards served : List ShardState) (a b c : Trying) (made : Move) (shard : ℕ) (ask : Ask) → made ≡ move.Ask shard ask → a.standing ≡ Ready → b ≡ record a { standing = b.standing } → IsBrought shards served b c shard ask → ActOf made shards served a c
asked_act shards served a b c made shard ask is ready others brought =
    (Steps (record { shard = shard; ask = ask; answer = brought.answer }), ap (λ (m : Move). Some m) is, step_turn shards served a b c shard ask ready others brought)

pub ended_act : (shards : List ShardState) (a b : Trying) (made : Move) → ((shard : ℕ) (ask : Ask) → made ≡ move.Ask shard ask → ⊥) → IsMoveOf b.standing made → a.standing ≡ Ready → b ≡ record a { standing = b.standing } → IsSound b → ActOf made shards shards a b
ended_act shards a b (move.Ask shard ask) none told ready others sound = absurd (none shard ask refl)
ended_act shards a b (move.Committed time reply) none told ready others sound = (Ends (Committed time reply) told.0, refl, end_turn shards a b (Committed time reply) told.0 ready others sound told.1)
ended_act shards a b (move.Conflict why) none told ready others sound = (Ends (Conflict why) told.0, refl, end_turn shards a b (Conflict why) told.0 ready others sound told.1)
ended_act shards a b move.OverTime none told ready others sound = (Ends OverTime told.0, refl, end_turn shards a b OverTime told.0 ready others sound told.1)
