-- What is read of tables, from one key to the next.
use Rattle.std.proofs.Common.{◌≡◌, ℕ, ◌%◌, ◌<◌, Bool, cond, nat_eq, List, [], ◌∷◌, ◌++◌, length, Option, None, Some, OnErr, OnOk, Result, Ok, Err, slice_index_or, slice_set, refl, sym, ap, ◌∙◌, subst}
use Rattle.std.specs.List.{slice_get}
use Rattle.std.specs.Option.{option_map}
use Rattle.std.proofs.lemmas.Bool.{eq-eqb, ne_eqb}
use Rattle.std.proofs.lemmas.List.Elements.{filter-append}
use Rattle.std.proofs.lemmas.Option.{slice_get-get_or, slice_get-map}
use Rattle.coco_types.specs.RowKey.{RowKey}
use Rattle.coco_types.specs.declared.call.Call.{Call}
use Rattle.coco_types.specs.declared.call.Reply.{Reply}
use Rattle.coco_types.specs.declared.call.Write.{Write}
use Rattle.coco_types.specs.declared.value.Value.{Value}
use Rattle.coco_ast.specs.Meaning.{Run, run}
use Rattle.coco_ast.specs.Tree.{Procedures}
use Rattle.coco_ast.proofs.Lists.{all_append, all_weaker}
use Rattle.coco_desks.specs.Gains.{AreSame, undone}
use Rattle.coco_desks.proofs.GainLemmas.{gain_as, gain_none, gain_set, gain_then, stepped_calls}
use Rattle.coco_eval.specs.Standing.{Ended, Evaluation, HasGiven, IsSound, Ready, keys_of}
use Rattle.coco_eval.specs.declared.machine.Given.{Given}
use Rattle.coco_journaled.specs.Passes.{Steps}
use Rattle.coco_journaled.specs.Replay.{after}
use Rattle.coco_journaled.specs.declared.entry.Entry.{Entry}
use Rattle.coco_query.specs.Frozen.{after_ask, answer_in, had}
use Rattle.coco_serial.proofs.RunningLemmas.{run_ended}
use Rattle.coco_query.specs.Reading.{EndsOn, FrozenPass, IsAnswered, Reads, gets_at, given_by, got, root_of}
use Rattle.coco_query.specs.declared.frozen.Frozen.{Frozen}
use Rattle.coco_query.specs.declared.frozen.FrozenAnswer.{FrozenAnswer}
use Rattle.coco_query.specs.declared.frozen.FrozenAnswer.TheVariants.{Had}
use Rattle.coco_query.specs.declared.frozen.FrozenAsk.{FrozenAsk}
use Rattle.coco_query.specs.declared.frozen.FrozenAsk.TheVariants.{Get}

-- what a step that may fail says, by what it ensures where it didn't
pub by_ok : {X E A B : Type 0} (r : Result X E) → OnOk r A → (A → B) → OnOk r B
by_ok (Ok x) a then = then a
by_ok (Err e) a then = tt

-- and what holds in either case
pub by_outcome : {X E A B C : Type 0} (r : Result X E) → (A → C) → (B → C) → OnOk r A → OnErr r B → C
by_outcome (Ok x) first second a b = first a
by_outcome (Err e) first second a b = second b

-- ---- the same passes found the same tables

undone_root : (o : Option FrozenPass) → root_of (option_map undone o) ≡ root_of o
undone_root None = refl
undone_root (Some p) = refl

pub root_same : (before after : List FrozenPass) → AreSame before after → (p : ℕ) → root_of (slice_get after p) ≡ root_of (slice_get before p)
root_same before after same p =
    sym (undone_root (slice_get after p)) ∙ ap root_of (sym (slice_get-map undone after p) ∙ ap (λ (ps : List FrozenPass). slice_get ps p) same ∙ slice_get-map undone before p) ∙ undone_root (slice_get before p)

-- ---- a stretch of reads behind another

pub reads_none : (count : ℕ) (passes : List FrozenPass) → Reads count passes passes []
reads_none count passes = record { gets = gain_none got passes; answered = tt }

pub reads_then : (count : ℕ) (a b c : List FrozenPass) (xs ys : List Given) → AreSame a b → Reads count a b xs → Reads count b c ys → Reads count a c (xs ++ ys)
reads_then count a b c xs ys same first next = record {
  gets = gain_as got a c (λ p. gets_at count p xs ++ gets_at count p ys) (λ p. gets_at count p (xs ++ ys))
      (gain_then got a b c (λ p. gets_at count p xs) (λ p. gets_at count p ys) same first.gets next.gets)
      (λ p _. sym (filter-append (λ (g : Given). nat_eq (g.key.row % count) p) xs ys));
  answered = all_append (IsAnswered count a) xs ys first.answered
      (all_weaker (IsAnswered count b) (IsAnswered count a) (λ g is. (is.0, sym (root_same a b same (g.key.row % count)) ∙ is.1, is.2)) ys next.answered);
}

-- ---- one read

-- no ask changes a table
pub never_changed : (table : Frozen) (entries : List (Entry FrozenAsk FrozenAnswer)) → after after_ask table entries ≡ table
never_changed table [] = refl
never_changed table (e ∷ entries) = never_changed table entries

module _ (count : ℕ) (passes : List FrozenPass) (i : ℕ) (q d : FrozenPass) (key : RowKey) (answer : FrozenAnswer) (at : i ≡ key.row % count) (lt : i < length passes) (steps : Steps answer_in after_ask (slice_index_or passes i d) (Get key) answer q) where
  abbrev one : Given
  one = given_by key answer

  abbrev table : Frozen
  table = steps.0

  answer_is : answer ≡ Had (had table key)
  answer_is = steps.3 ∙ ap (λ (t : Frozen). answer_in t (Get key)) (never_changed table ((slice_index_or passes i d).list ++ steps.1))

  key_same : one.key ≡ key
  key_same = ap (λ (a : FrozenAnswer). (given_by key a).key) answer_is

  at_own : gets_at count i (one ∷ []) ≡ one ∷ []
  at_own = ap (λ (b : Bool). cond {A = List Given} b (one ∷ []) []) (eq-eqb (one.key.row % count) i (ap (λ (k : RowKey). k.row % count) key_same ∙ sym at))

  at_other : (p : ℕ) → (i ≡ p → ⊥) → gets_at count p (one ∷ []) ≡ []
  at_other p away = ap (λ (b : Bool). cond {A = List Given} b (one ∷ []) []) (ne_eqb (one.key.row % count) p (λ e. away (at ∙ ap (λ (k : RowKey). k.row % count) (sym key_same) ∙ e)))

  pub reads_one : Reads count passes (slice_set passes i q) (one ∷ [])
  reads_one = record {
    gets = gain_set got passes i q d one (λ p. gets_at count p (one ∷ [])) lt (stepped_calls answer_in after_ask got (slice_index_or passes i d) q (Get key) answer one steps (λ _. refl)) at_own at_other;
    answered = (
      (
        table,
        ap (λ (k : RowKey). root_of (slice_get passes (k.row % count))) key_same ∙ ap (λ (p : ℕ). root_of (slice_get passes p)) (sym at) ∙ ap root_of (slice_get-get_or passes i d lt) ∙ steps.2,
        ap (λ (a : FrozenAnswer). (given_by key a).value) answer_is ∙ ap (had table) (sym key_same),
      ),
      tt,
    );
  }

-- ---- a run

-- a step that asked, and what was given then
pub record IsGivenMore (old new : Evaluation) (now : List Given) : Type 0 where
  pub procs : new.procs ≡ old.procs
  pub call_same : new.call ≡ old.call
  pub ready : new.standing ≡ Ready
  pub given : new.given ≡ now

pub given_more : (old mid new : Evaluation) (k : RowKey) (v : Option Value) (had now : List Given) (g : Given) → mid ≡ record old { standing = mid.standing } → new ≡ record mid { given = mid.given ++ record { key = k; value = v } ∷ []; standing = Ready }
    → old.given ≡ had → now ≡ had ++ g ∷ [] → g ≡ record { key = k; value = v } → IsGivenMore old new now
given_more old mid new k v had now g others next was is same = record {
  procs = ap (λ (e : Evaluation). e.procs) next ∙ ap (λ (e : Evaluation). e.procs) others;
  call_same = ap (λ (e : Evaluation). e.call) next ∙ ap (λ (e : Evaluation). e.call) others;
  ready = ap (λ (e : Evaluation). e.standing) next;
  given = ap (λ (e : Evaluation). e.given) next ∙ ap (λ (e : Evaluation). e.given ++ record { key = k; value = v } ∷ []) others ∙ ap (λ (gs : List Given). gs ++ record { key = k; value = v } ∷ []) was
      ∙ ap (λ (x : Given). had ++ x ∷ []) (sym same) ∙ sym is;
}

-- a run that was given what was read, and has ended
pub ends_on : (first old new : Evaluation) (had : List Given) (reply : Reply) (ws : List Write) → old.procs ≡ first.procs → old.call ≡ first.call → old.given ≡ had → new ≡ record old { standing = new.standing } → new.standing ≡ Ended reply ws → IsSound new
    → EndsOn first.procs first.call had reply
ends_on first old new had reply ws procs call given others is sound m has =
    let ran = sym (ap (λ (ps : Procedures). run ps old.call m) procs ∙ ap (λ (c : Call). run first.procs c m) call)
    ∙ run_ended m old new reply ws others is sound (subst (λ (gs : List Given). HasGiven gs m) (sym given) has) in
    (ap (λ (r : Run). r.reply) ran, ap (λ (r : Run). r.needs) ran ∙ ap keys_of given)
