-- The commits of an execution, each with what it read: what they write is what was installed.
use Rattle.std.proofs.Common.{◌≡◌, ◌⊎◌, inl, inr, ℕ, zero, suc, ◌<◌, ◌≤◌, ◌%◌, Bool, true, false, cond, List, [], ◌∷◌, ◌++◌, map, length, get_or, Option, None, Some, refl, sym, ap, ◌∙◌, subst, arith}
use Rattle.std.specs.Option.{option_or}
use Rattle.std.specs.List.{filter, filter_map, cons_option, slice_get, AllByRecursion}
use Rattle.coco_types.proofs.Keys.{is_key, one_key}
use Rattle.coco_types.specs.RowKey.{RowKey}
use Rattle.coco_types.specs.declared.value.Value.{Value}
use Rattle.coco_types.specs.declared.call.AttemptId.{AttemptId}
use Rattle.coco_types.specs.declared.call.Request.{Request}
use Rattle.coco_types.specs.declared.call.Reply.{Reply}
use Rattle.coco_types.specs.declared.call.Write.{Write}
use Rattle.coco_types.specs.declared.call.Done.{Done}
use Rattle.coco_ast.specs.Keyed.{Rows, value_at}
use Rattle.coco_ast.specs.Meaning.{Datum, Run, run}
use Rattle.coco_occ.specs.declared.outcome.Outcome.{Outcome}
use Rattle.coco_occ.specs.declared.outcome.Outcome.TheVariants.{Committed, Conflict, OverTime}
use Rattle.coco_order.specs.OneKey.{Among}
use Rattle.coco_occ.specs.declared.outcome.Tried.{Tried}
use Rattle.coco_order.specs.Execution.{Beginning, Execution, IsTried, IsExecution, transcript_of, concat}
use Rattle.coco_order.specs.Outcome.{done_of, commit_of}
use Rattle.coco_order.proofs.Attempts.{by_bool, none_some, same_some, Among-append, Among-left, Among-right}
use Rattle.coco_order.proofs.Passes.{all_append}
use Rattle.coco_order.proofs.Serial.{Act, dones, written}

-- ---- transcripts in one list

index_all : {X : Type 0} (P : X → Type 0) (xss : List (List X)) → ((n : ℕ) → n < length xss → AllByRecursion P (get_or xss n [])) → AllByRecursion P (concat xss)
index_all P [] each = tt
index_all P (xs ∷ xss) each = all_append P xs (concat xss) (each 0 (omega arith)) (index_all P xss (λ n lt. each (suc n) (omega arith)))

pub in_one : {X : Type 0} (xss : List (List X)) (x : X) → Among (concat xss) x → (n : ℕ) × (n < length xss) × Among (get_or xss n []) x
in_one [] x h = absurd h
in_one (xs ∷ xss) x h = elim (Among-append xs (concat xss) x h) [
  | inl here ↦ (0, omega arith, here)
  | inr more ↦ (let rest = in_one xss x more in (suc rest.0, omega (arith, rest.1), rest.2))
]

pub all_tried : (b : Beginning) (x : Execution) → IsExecution b x → AllByRecursion (IsTried b) (concat x.transcripts)
all_tried b x is = index_all (IsTried b) x.transcripts (λ n lt. is.scripts n (let count : length x.transcripts ≡ b.workers = is.workers in omega arith))

pub in_transcript : (b : Beginning) (x : Execution) → IsExecution b x → (t : Tried) → Among (concat x.transcripts) t → (worker : ℕ) × (worker < b.workers) × Among (transcript_of x worker) t
in_transcript b x is t among = let found = in_one x.transcripts t among in (found.0, let count : length x.transcripts ≡ b.workers = is.workers in omega (arith, found.1), found.2)

-- ---- acts

module _ (b : Beginning) (epoch : ℕ) where
  abbrev pub act : (t : Tried) → IsTried b t → ℕ → Reply → Act
  act t tried time reply = record { by = t.by; done = record { id = tried.request.id; call = tried.request.call; epoch = epoch; time = time; reply = reply }; seen = tried.script.rows }

  abbrev pub act_of : (t : Tried) → IsTried b t → Outcome → Option Act
  act_of t tried (Committed time reply) = Some (act t tried time reply)
  act_of t tried (Conflict why) = None
  act_of t tried OverTime = None

  abbrev pub acts : (ts : List Tried) → AllByRecursion (IsTried b) ts → List Act
  acts [] all = []
  acts (t ∷ ts) all = cons_option (act_of t all.0 t.outcome) (acts ts all.1)

  pub acts_dones : (ts : List Tried) (all : AllByRecursion (IsTried b) ts) → dones (acts ts all) ≡ filter_map (commit_of b epoch) ts
  acts_dones [] all = refl
  acts_dones (t ∷ ts) all =
      by_outcome t.outcome (dones (acts ts all.1)) (acts ts all.1) refl
      ∙ ap (λ (o : Option Request). cons_option (done_of epoch o t.outcome) (dones (acts ts all.1))) (sym all.0.placed)
      ∙ ap (λ (ds : List Done). cons_option (commit_of b epoch t) ds) (acts_dones ts all.1)
    where
      by_outcome : (o : Outcome) (ds : List Done) (rest : List Act) → dones rest ≡ ds → dones (cons_option (act_of t all.0 o) rest) ≡ cons_option (done_of epoch (Some all.0.request) o) ds
      by_outcome (Committed time reply) ds rest e = ap (λ (es : List Done). record { id = all.0.request.id; call = all.0.request.call; epoch = epoch; time = time; reply = reply } ∷ es) e
      by_outcome (Conflict why) ds rest e = e
      by_outcome OverTime ds rest e = e

  -- an act is that of a script that committed
  pub record Committing (ts : List Tried) (a : Act) : Type 0 where
    pub t : Tried
    pub among : Among ts t
    pub tried : IsTried b t
    pub time : ℕ
    pub reply : Reply
    pub outcome_is : t.outcome ≡ Committed time reply
    pub act_is : a ≡ act t tried time reply

  pub act_from : (ts : List Tried) (all : AllByRecursion (IsTried b) ts) (a : Act) → Among (acts ts all) a → Committing ts a
  act_from [] all a h = absurd h
  act_from (t ∷ ts) all a h = from (λ g. act_from ts all.1 a g) t.outcome refl h
    where
      later : Committing ts a → Committing (t ∷ ts) a
      later c = record { t = c.t; among = inr c.among; tried = c.tried; time = c.time; reply = c.reply; outcome_is = c.outcome_is; act_is = c.act_is }

      from : (Among (acts ts all.1) a → Committing ts a) → (o : Outcome) → t.outcome ≡ o → Among (cons_option (act_of t all.0 o) (acts ts all.1)) a → Committing (t ∷ ts) a
      from rest (Committed time reply) is (inl same) = record { t = t; among = inl refl; tried = all.0; time = time; reply = reply; outcome_is = is; act_is = sym same }
      from rest (Committed time reply) is (inr more) = later (rest more)
      from rest (Conflict why) is g = later (rest g)
      from rest OverTime is g = later (rest g)

  -- and each script that committed has one
  pub act_to : (ts : List Tried) (all : AllByRecursion (IsTried b) ts) (t : Tried) (time : ℕ) (reply : Reply) → Among ts t → t.outcome ≡ Committed time reply → (tried : IsTried b t) × Among (acts ts all) (act t tried time reply)
  act_to [] all t time reply h is = absurd h
  act_to (u ∷ ts) all t time reply (inl same) is =
      subst (λ (v : Tried). (tried : IsTried b v) × Among (acts (u ∷ ts) all) (act v tried time reply)) same
      (all.0, subst (λ (o : Outcome). Among (cons_option (act_of u all.0 o) (acts ts all.1)) (act u all.0 time reply)) (sym (ap (λ (v : Tried). v.outcome) same ∙ is)) (inl refl))
  act_to (u ∷ ts) all t time reply (inr more) is =
      let rest = act_to ts all.1 t time reply more is in
      (rest.0, behind u.outcome (act t rest.0 time reply) rest.1)
    where
      behind : (o : Outcome) (a : Act) → Among (acts ts all.1) a → Among (cons_option (act_of u all.0 o) (acts ts all.1)) a
      behind (Committed n r) a g = inr g
      behind (Conflict why) a g = g
      behind OverTime a g = g

-- ---- what is written, by the writes on a key

pub written_none : (k : RowKey) (ws : List Write) → filter (λ w. is_key k w.key) ws ≡ [] → written k ws ≡ None
written_none k [] h = refl
written_none k (w ∷ ws) h =
    by_bool (λ b. cond b (w ∷ filter (λ v. is_key k v.key) ws) (filter (λ v. is_key k v.key) ws) ≡ [] → option_or (written k ws) (cond b (Some w.value) None) ≡ None) (is_key k w.key)
    (λ _ g. absurd (apart g))
    (λ _ g. ap (λ o. option_or o None) (written_none k ws g)) h
  where
    apart : w ∷ filter (λ v. is_key k v.key) ws ≡ [] → ⊥
    apart g = cc

pub written_one : (k : RowKey) (ws : List Write) (w : Write) → filter (λ v. is_key k v.key) ws ≡ w ∷ [] → written k ws ≡ Some w.value
written_one k [] w h = absurd (apart h)
  where
    apart : [] ≡ w ∷ [] → ⊥
    apart g = cc
written_one k (v ∷ ws) w h =
    by_bool (λ b. cond b (v ∷ filter (λ u. is_key k u.key) ws) (filter (λ u. is_key k u.key) ws) ≡ w ∷ [] → option_or (written k ws) (cond b (Some v.value) None) ≡ Some w.value) (is_key k v.key)
    (λ _ g. (let first : v ≡ w = cc in let rest : filter (λ u. is_key k u.key) ws ≡ [] = cc in ap (λ o. option_or o (Some v.value)) (written_none k ws rest) ∙ ap (λ (u : Write). Some u.value) first))
    (λ _ g. ap (λ o. option_or o None) (written_one k ws w g)) h
