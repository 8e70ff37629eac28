-- What the commits of an execution read and wrote, as its journals have it.
use Rattle.std.proofs.Common.{◌≡◌, ◌⊎◌, inl, inr, ℕ, zero, suc, ◌<◌, ◌≤◌, ◌%◌, Bool, true, false, cond, leb, List, [], ◌∷◌, ◌++◌, map, length, Option, None, Some, refl, sym, ap, ◌∙◌, subst, arith}
use Rattle.std.specs.List.{filter, slice_get, AllByRecursion}
use Rattle.coco_types.proofs.Keys.{is_key, one_key, key_itself}
use Rattle.coco_types.specs.RowKey.{RowKey}
use Rattle.coco_types.specs.declared.value.Value.{Value}
use Rattle.coco_types.specs.declared.call.AttemptId.{AttemptId}
use Rattle.coco_types.specs.declared.call.Reply.{Reply}
use Rattle.coco_types.specs.declared.call.Request.{Request}
use Rattle.coco_types.specs.declared.call.Write.{Write}
use Rattle.coco_ast.specs.Fitting.{Fits}
use Rattle.coco_ast.specs.Keyed.{Rows, value_at}
use Rattle.coco_ast.specs.Meaning.{Datum, Run, run}
use Rattle.coco_eval.specs.declared.machine.Given.{Given}
use Rattle.coco_shard.specs.declared.ops.Op.{Op}
use Rattle.coco_shard.specs.declared.ops.Op.TheVariants.{Read, Lock, Extend, Install, Release, Past}
use Rattle.coco_shard.specs.declared.ops.Answer.{Answer}
use Rattle.coco_shard.specs.declared.ops.Answer.TheVariants.{Installed, Stood}
use Rattle.coco_shard.specs.RowState.{RowState, resting}
use Rattle.coco_shard.specs.Table.{key_of, answer_at}
use Rattle.coco_shard.specs.Law.{Entry}
use Rattle.coco_occ.specs.Exchange.{Exchange, Found, MayAnswer}
use Rattle.coco_occ.specs.Script.{IsTry, IsSnapshot, IsAsked, past}
use Rattle.coco_occ.specs.declared.outcome.Outcome.{Outcome}
use Rattle.coco_occ.specs.declared.outcome.Outcome.TheVariants.{Committed, Conflict, OverTime}
use Rattle.coco_order.specs.OneKey.{Among, is_attempt, own, on, left, walk, AreTold, Installs, IsMine, ReadsTheLast, Validates, MarksAreOwn}
use Rattle.coco_occ.specs.declared.outcome.Tried.{Tried}
use Rattle.coco_occ.specs.Steps.{taken}
use Rattle.coco_order.specs.Execution.{Beginning, Execution, IsTried, IsExecution, journal_on, transcript_of, concat}
use Rattle.coco_order.proofs.Attempts.{by_bool, not_both, attempt_itself, one_attempt, none_some, same_some, Among-append, Among-left, Among-right}
use Rattle.coco_order.proofs.Walking.{Holds, Step, Wrote, Kept}
use Rattle.coco_order.proofs.Chains.{Good, good_at, good_step, good_next, next_holds, walk_holds, installs_above}
use Rattle.coco_order.proofs.OneKey.{nobody, good_start, marks_own}
use Rattle.coco_order.proofs.Reading.{reads_are_last, reads_reach}
use Rattle.coco_order.proofs.Needs.{Apart, needs_apart, writes_apart}
use Rattle.coco_order.proofs.Passes.{key_steps, script_steps, all_among}
use Rattle.coco_order.proofs.Shapes.{keyed, exchange, all_kept, time, finds, written as written_at, find_cases, write_cases}
use Rattle.coco_order.proofs.Tidying.{entry_by, entries, Commits, Gives_up, InstallsWrite, ends_cases, read_validated, install_is, install_there}
use Rattle.coco_order.proofs.Orderly.{sent, orderly, tried_entries, tried_answered}
use Rattle.coco_order.proofs.Acts.{in_transcript, written_none, written_one}
use Rattle.coco_order.proofs.Serial.{written}
use Rattle.coco_order.proofs.Snapshots.{snapshot_writes}

-- ---- lists

among_own : (a : AttemptId) (es : List Entry) (e : Entry) → Among (own a es) e → Among es e × (e.ask.by ≡ a)
among_own a [] e h = absurd h
among_own a (d ∷ es) e h =
    by_bool (λ b. is_attempt d.ask.by a ≡ b → Among (cond b (d ∷ own a es) (own a es)) e → Among (d ∷ es) e × (e.ask.by ≡ a)) (is_attempt d.ask.by a)
    (λ _ mine g. elim g [ inl same ↦ (inl same, sym (ap (λ (x : Entry). x.ask.by) same) ∙ one_attempt d.ask.by a mine) | inr more ↦ (let rest = among_own a es e more in (inr rest.0, rest.1)) ])
    (λ _ _ g. (let rest = among_own a es e g in (inr rest.0, rest.1)))
    refl h

pub own_among : (es : List Entry) (e : Entry) → Among es e → Among (own e.ask.by es) e
own_among [] e h = absurd h
own_among (d ∷ es) e (inl same) =
    subst (λ (x : Entry). Among (own x.ask.by (d ∷ es)) x) same (subst (λ (b : Bool). Among (cond b (d ∷ own d.ask.by es) (own d.ask.by es)) d) (sym (attempt_itself d.ask.by)) (inl refl))
own_among (d ∷ es) e (inr more) = by_bool (λ b. Among (cond b (d ∷ own e.ask.by es) (own e.ask.by es)) e) (is_attempt d.ask.by e.ask.by) (λ _. inr (own_among es e more)) (λ _. own_among es e more)

pub among_map : {X Y : Type 0} (f : X → Y) (xs : List X) (x : X) → Among xs x → Among (map f xs) (f x)
among_map f [] x h = absurd h
among_map f (y ∷ xs) x (inl same) = inl (ap f same)
among_map f (y ∷ xs) x (inr more) = inr (among_map f xs x more)

pub map_among : {X Y : Type 0} (f : X → Y) (xs : List X) (y : Y) → Among (map f xs) y → (x : X) × Among xs x × (f x ≡ y)
map_among f [] y h = absurd h
map_among f (x ∷ xs) y (inl same) = (x, inl refl, same)
map_among f (x ∷ xs) y (inr more) = let rest = map_among f xs y more in (rest.0, inr rest.1, rest.2)

pub among_filter : {X : Type 0} (p : X → Bool) (xs : List X) (x : X) → Among (filter p xs) x → Among xs x × (p x ≡ true)
among_filter p [] x h = absurd h
among_filter p (y ∷ xs) x h =
    by_bool (λ b. p y ≡ b → Among (cond b (y ∷ filter p xs) (filter p xs)) x → Among (y ∷ xs) x × (p x ≡ true)) (p y)
    (λ _ t g. elim g [ inl same ↦ (inl same, sym (ap p same) ∙ t) | inr more ↦ (let rest = among_filter p xs x more in (inr rest.0, rest.1)) ])
    (λ _ _ g. (let rest = among_filter p xs x g in (inr rest.0, rest.1))) refl h

pub filter_among : {X : Type 0} (p : X → Bool) (xs : List X) (x : X) → Among xs x → p x ≡ true → Among (filter p xs) x
filter_among p [] x h t = absurd h
filter_among p (y ∷ xs) x (inl same) t = subst (λ (z : _). Among (filter p (y ∷ xs)) z) same (subst (λ (b : Bool). Among (cond b (y ∷ filter p xs) (filter p xs)) y) (sym (ap p same ∙ t)) (inl refl))
filter_among p (y ∷ xs) x (inr more) t = by_bool (λ b. Among (cond b (y ∷ filter p xs) (filter p xs)) x) (p y) (λ _. inr (filter_among p xs x more t)) (λ _. filter_among p xs x more t)

-- ---- the stable version

stable_next : (row next : RowState) (op : Op) (answer : Answer) → (Wrote row next op answer ⊎ Kept row next op answer) → next.stable ≡ row.stable
stable_next row next op answer (inl w) = ap (λ (r : RowState). r.stable) w.is
stable_next row next op answer (inr k) = k.stable

past_is : (row : RowState) (h : Holds) (es : List Entry) → Good row h es → (e : Entry) (key : RowKey) (value : Option Value) → Among es e → e.ask.op ≡ Past key → e.answer ≡ Stood value → value ≡ row.stable
past_is row h [] good e key value among op answer = absurd among
past_is row h (d ∷ es) good e key value (inl same) op answer =
    told d.ask.op (ap (λ (x : Entry). x.ask.op) same ∙ op) good.told.0
  where
    told : (o : Op) → o ≡ Past key → d.answer ≡ answer_at row d.ask.by o → value ≡ row.stable
    told o is t =
        let past : d.answer ≡ Stood row.stable = t ∙ ap (λ (p : Op). answer_at row d.ask.by p) is in
        let both : Stood value ≡ Stood row.stable = sym (ap (λ (x : Entry). x.answer) same ∙ answer) ∙ past in cc
past_is row h (d ∷ es) good e key value (inr more) op answer =
    past_is (left d row) (next_holds d h) es (good_next row h d es good) e key value more op answer ∙ stable_next row (left d row) d.ask.op d.answer (good_step row h d es good).is

-- ---- the scripts that commit

fitting : (b : Beginning) (rs : List Request) (place : ℕ) (request : Request) → AllByRecursion (λ q. Fits b.procs q.call) rs → slice_get rs place ≡ Some request → Fits b.procs request.call
fitting b [] place request all h = absurd (none_some h)
fitting b (q ∷ rs) zero request all h = subst (λ (z : Request). Fits b.procs z.call) (same_some h) all.0
fitting b (q ∷ rs) (suc place) request all h = fitting b rs place request all.1 h

module _ (b : Beginning) (x : Execution) (is : IsExecution b x) where
  abbrev pub ran : (t : Tried) → IsTried b t → Run
  ran t tried = run b.procs tried.request.call tried.script.rows

  -- the steps of a script on a key stand in its journal
  pub script_among : (t : Tried) (tried : IsTried b t) (k : RowKey) → Among (concat x.transcripts) t → (e : Exchange) → Among (keyed k tried.script.asked) e → Among (on k (journal_on b x k)) (entry_by t.by e)
  script_among t tried k among e in_asked =
      let place = in_transcript b x is t among in
      let steps = script_steps b x is (sent b x is) k place.0 t place.1 place.2 ∙ tried_entries b t tried k in
      (among_own t.by (on k (journal_on b x k)) (entry_by t.by e) (subst (λ (es : List Entry). Among es (entry_by t.by e)) (sym steps) (among_map (entry_by t.by) (keyed k tried.script.asked) e in_asked))).0

  past_installs : (given : List Given) (k : RowKey) (e : Exchange) (key : RowKey) (n : ℕ) (v : Option Value) → Among (keyed k (map past given)) e → e.op ≡ Install key n v → ⊥
  past_installs given k e key n v among op =
      let found = map_among past given e (among_filter _ (map past given) e among).0 in
      apart found.0 (ap (λ (y : Exchange). y.op) found.2 ∙ op)
    where
      apart : (g : Given) → Past g.key ≡ Install key n v → ⊥
      apart g h = cc

  -- an install of a script is a write of it, at its time
  pub record Writes (t : Tried) (tried : IsTried b t) (k : RowKey) (n : ℕ) (v : Option Value) : Type 0 where
    pub reply : Reply
    pub outcome_is : t.outcome ≡ Committed n reply
    pub write_is : written k (run b.procs tried.request.call tried.script.rows).writes ≡ Some v

  installs_write : (t : Tried) (tried : IsTried b t) (k : RowKey) (e : Exchange) (key : RowKey) (n : ℕ) (v : Option Value) → Among (keyed k tried.script.asked) e → e.op ≡ Install key n v → Writes t tried k n v
  installs_write t tried k e key n v among op = from tried.request.call.snapshot tried.script.course
    where
      from : (snapshot : Bool) → IsAsked snapshot (ran t tried) tried.script.rows tried.script.asked t.outcome → Writes t tried k n v
      from true s = absurd (past_installs s.given k e key n v (subst (λ (ys : List Exchange). Among (keyed k ys) e) s.parts among) op)
      from false s =
          let found = install_is (ran t tried) tried.script.rows tried.script.asked t.outcome s (needs_apart b.procs tried.request.call tried.script.rows) (writes_apart b.procs tried.request.call tried.script.rows) k t.by (tried_answered b t tried) e key n v among op in
          record {
            reply = (ran t tried).reply;
            outcome_is = found.commits.outcome_is ∙ ap (λ (m : ℕ). Committed m (ran t tried).reply) (sym found.time_is);
            write_is = written_one k (ran t tried).writes found.write found.one ∙ ap Some (sym found.value_is);
          }

  -- and a write of a script that commits is installed
  pub write_installed : (t : Tried) (tried : IsTried b t) (k : RowKey) (n : ℕ) (reply : Reply) (v : Option Value) → Among (concat x.transcripts) t → t.outcome ≡ Committed n reply → written k (run b.procs tried.request.call tried.script.rows).writes ≡ Some v
      → (e : Entry) × Among (on k (journal_on b x k)) e × Installs e n v × (e.ask.by ≡ t.by)
  write_installed t tried k n reply v among out wrote = from tried.request.call.snapshot refl tried.script.course
    where
      fits : Fits b.procs tried.request.call
      fits = fitting b b.requests t.place tried.request is.fitting tried.placed

      from : (snapshot : Bool) → tried.request.call.snapshot ≡ snapshot → IsAsked snapshot (ran t tried) tried.script.rows tried.script.asked t.outcome → (e : Entry) × Among (on k (journal_on b x k)) e × Installs e n v × (e.ask.by ≡ t.by)
      from true snap s =
          absurd (none_some (sym (written_none k (ran t tried).writes (ap (filter (λ w. is_key k w.key)) (snapshot_writes b.procs tried.request.call tried.script.rows fits snap))) ∙ wrote))
      from false snap s = by_ends (ends_cases (ran t tried) tried.script.rows tried.script.asked t.outcome s needs writes k t.by answered)
        where
          needs : Apart (ran t tried).needs
          needs = needs_apart b.procs tried.request.call tried.script.rows

          writes : Apart (map (λ w. w.key) (ran t tried).writes)
          writes = writes_apart b.procs tried.request.call tried.script.rows

          answered : AllByRecursion (λ e. MayAnswer (record { by = t.by; op = e.op }) e.answer) tried.script.asked
          answered = tried_answered b t tried

          by_ends : Commits (ran t tried) tried.script.rows tried.script.asked t.outcome s needs writes k t.by answered ⊎ Gives_up (ran t tried) tried.script.rows tried.script.asked t.outcome s needs writes k t.by answered
              → (e : Entry) × Among (on k (journal_on b x k)) e × Installs e n v × (e.ask.by ≡ t.by)
          by_ends (inr g) = absurd (g.outcome_isn't n reply out)
          by_ends (inl c) = elim (write_cases (ran t tried) tried.script.rows tried.script.asked t.outcome s needs writes k) [
            | inl none ↦ absurd (none_some (sym (written_none k (ran t tried).writes none) ∙ wrote))
            | inr some ↦
                let there = install_there (ran t tried) tried.script.rows tried.script.asked t.outcome s needs writes k t.by answered c some.0 some.1 in
                let e : Entry = entry_by t.by (exchange (Install some.0.key (time (ran t tried) tried.script.rows tried.script.asked t.outcome s needs writes k) some.0.value) there.0) in
                let among_it : Among (on k (journal_on b x k)) e = script_among t tried k among _ there.1 in
                let both : Committed (time (ran t tried) tried.script.rows tried.script.asked t.outcome s needs writes k) (ran t tried).reply ≡ Committed n reply = sym c.outcome_is ∙ out in
                let times : time (ran t tried) tried.script.rows tried.script.asked t.outcome s needs writes k ≡ n = cc in
                let values : some.0.value ≡ v = same_some (sym (written_one k (ran t tried).writes some.0 some.1) ∙ wrote) in
                let mine : there.0 ≡ Installed = (marks_own (value_at b.opening) k (journal_on b x k) (orderly b x is k)).mine e among_it in
                (e, among_it, (some.0.key, ap (λ (m : ℕ). Install some.0.key m some.0.value) times ∙ ap (λ (u : Option Value). Install some.0.key n u) values, mine), refl)
          ]

  -- an installed entry is of a script that commits and writes it
  pub installed_by : (k : RowKey) (e : Entry) (n : ℕ) (v : Option Value) → Among (on k (journal_on b x k)) e → Installs e n v
      → (t : Tried) × (worker : ℕ) × (worker < b.workers) × Among (transcript_of x worker) t × (t.by ≡ e.ask.by) × ((tried : IsTried b t) → Writes t tried k n v)
  installed_by k e n v among i = from (key_steps b x is (sent b x is) k e.ask.by) (own_among (on k (journal_on b x k)) e among)
    where
      from : (own e.ask.by (on k (journal_on b x k)) ≡ []) ⊎ ((t : Tried) × (e.ask.by.worker < b.workers) × Among (transcript_of x e.ask.by.worker) t × (t.by ≡ e.ask.by) × (own e.ask.by (on k (journal_on b x k)) ≡ on k (map taken t.script)))
          → Among (own e.ask.by (on k (journal_on b x k))) e → (t : Tried) × (worker : ℕ) × (worker < b.workers) × Among (transcript_of x worker) t × (t.by ≡ e.ask.by) × ((tried : IsTried b t) → Writes t tried k n v)
      from (inl none) h = absurd (subst (λ (es : List Entry). Among es e) none h)
      from (inr some) h = (
        some.0,
        e.ask.by.worker,
        some.1,
        some.2,
        some.3,
        λ tried. (
            let steps = some.4 ∙ tried_entries b some.0 tried k in
            let found = map_among (entry_by some.0.by) (keyed k tried.script.asked) e (subst (λ (es : List Entry). Among es e) steps h) in
            installs_write some.0 tried k found.0 i.0 n v found.1 (ap (λ (y : Entry). y.ask.op) found.2 ∙ i.1)),
      )

  -- ---- reads

  pub record ReadsWell (k : RowKey) (by : AttemptId) (n : ℕ) (v : Option Value) : Type 0 where
    pub last : ReadsTheLast (value_at b.opening k) by n v (on k (journal_on b x k))
    pub reach : n ≤ (walk (resting (value_at b.opening k)) (on k (journal_on b x k))).rts

  pub reads_right : (t : Tried) (tried : IsTried b t) (n : ℕ) (reply : Reply) → Among (concat x.transcripts) t → t.outcome ≡ Committed n reply → (k : RowKey) → Among (run b.procs tried.request.call tried.script.rows).needs k
      → ReadsWell k t.by n (value_at tried.script.rows k)
  reads_right t tried n reply among out k needed = from tried.request.call.snapshot tried.script.course
    where
      needs : Apart (ran t tried).needs
      needs = needs_apart b.procs tried.request.call tried.script.rows

      writes : Apart (map (λ w. w.key) (ran t tried).writes)
      writes = writes_apart b.procs tried.request.call tried.script.rows

      answered : AllByRecursion (λ e. MayAnswer (record { by = t.by; op = e.op }) e.answer) tried.script.asked
      answered = tried_answered b t tried

      good : Good (resting (value_at b.opening k)) nobody (on k (journal_on b x k))
      good = good_start (value_at b.opening) k (journal_on b x k) (orderly b x is k)

      from : (snapshot : Bool) → IsAsked snapshot (ran t tried) tried.script.rows tried.script.asked t.outcome → ReadsWell k t.by n (value_at tried.script.rows k)
      from true s =
          let both : Committed 0 (ran t tried).reply ≡ Committed n reply = sym s.outcome_is ∙ out in
          let now : 0 ≡ n = cc in
          let found = map_among (λ (g : Given). g.key) s.given k (subst (λ (ks : List RowKey). Among ks k) (sym s.keys) needed) in
          let g : Given = found.0 in
          let asked_it : Among (keyed k tried.script.asked) (past g) =
          subst (λ (ys : List Exchange). Among (keyed k ys) (past g)) (sym s.parts) (filter_among (λ e. is_key k (key_of e.op)) (map past s.given) (past g) (among_map past s.given g found.1) (subst (λ (q : RowKey). is_key k q ≡ true) (sym found.2) (key_itself k))) in
          let in_journal : Among (on k (journal_on b x k)) (entry_by t.by (past g)) = script_among t tried k among (past g) asked_it in
          let stood : g.value ≡ value_at b.opening k = past_is (resting (value_at b.opening k)) nobody (on k (journal_on b x k)) good (entry_by t.by (past g)) g.key g.value in_journal refl refl in
          let value : value_at tried.script.rows k ≡ value_at b.opening k = ap (value_at tried.script.rows) (sym found.2) ∙ all_among (λ (h : Given). value_at tried.script.rows h.key ≡ h.value) s.given g s.values found.1 ∙ stood in
          subst (λ (m : ℕ). ReadsWell k t.by m (value_at tried.script.rows k)) now (record {
            reach = omega arith;
            last = record {
              last = inl (value, λ e m v in_it i lt. absurd (omega (arith, lt)));
              alone = λ e v in_it i. absurd (let above : 0 < 0 = installs_above (resting (value_at b.opening k)) nobody (on k (journal_on b x k)) good e 0 v in_it i in omega arith);
            };
          })
      from false s =
          let key_found = map_among (λ (f : Found). f.key) s.reads k (subst (λ (ks : List RowKey). Among ks k) (sym s.reading.keys) needed) in
          let kept : Among (finds (ran t tried) tried.script.rows tried.script.asked t.outcome s needs writes k) key_found.0 =
          filter_among (λ f. is_key k f.key) s.reads key_found.0 key_found.1 (subst (λ (q : RowKey). is_key k q ≡ true) (sym key_found.2) (key_itself k)) in
          by_find key_found.0 kept (find_cases (ran t tried) tried.script.rows tried.script.asked t.outcome s needs writes k) (ends_cases (ran t tried) tried.script.rows tried.script.asked t.outcome s needs writes k t.by answered)
        where
          by_find : (g : Found) → Among (finds (ran t tried) tried.script.rows tried.script.asked t.outcome s needs writes k) g
              → (finds (ran t tried) tried.script.rows tried.script.asked t.outcome s needs writes k ≡ []) ⊎ ((f : Found) × (finds (ran t tried) tried.script.rows tried.script.asked t.outcome s needs writes k ≡ f ∷ []) × (k ≡ f.key))
              → Commits (ran t tried) tried.script.rows tried.script.asked t.outcome s needs writes k t.by answered ⊎ Gives_up (ran t tried) tried.script.rows tried.script.asked t.outcome s needs writes k t.by answered
              → ReadsWell k t.by n (value_at tried.script.rows k)
          by_find h kept (inl none) ends = absurd (subst (λ (fs : List Found). Among fs h) none kept)
          by_find h kept (inr some) (inr g) = absurd (g.outcome_isn't n reply out)
          by_find h kept (inr some) (inl c) =
              let f : Found = some.0 in
              let both : Committed (time (ran t tried) tried.script.rows tried.script.asked t.outcome s needs writes k) (ran t tried).reply ≡ Committed n reply = sym c.outcome_is ∙ out in
              let times : time (ran t tried) tried.script.rows tried.script.asked t.outcome s needs writes k ≡ n = cc in
              let values : AllByRecursion (λ (g : Found). value_at tried.script.rows g.key ≡ g.value) (f ∷ []) = subst (AllByRecursion (λ (g : Found). value_at tried.script.rows g.key ≡ g.value)) some.1 (all_kept _ (λ g. is_key k g.key) s.reads s.reading.values) in
              let value : f.value ≡ value_at tried.script.rows k = sym (ap (value_at tried.script.rows) some.2 ∙ values.0) in
              let place = in_transcript b x is t among in
              let steps = script_steps b x is (sent b x is) k place.0 t place.1 place.2 ∙ tried_entries b t tried k in
              let how : Validates t.by n (value_at tried.script.rows k) (own t.by (on k (journal_on b x k))) =
              subst (Validates t.by n (value_at tried.script.rows k)) (sym steps)
              (subst (λ (m : ℕ). Validates t.by m (value_at tried.script.rows k) (entries t.by (keyed k tried.script.asked))) times
              (subst (λ (v : Option Value). Validates t.by (time (ran t tried) tried.script.rows tried.script.asked t.outcome s needs writes k) v (entries t.by (keyed k tried.script.asked))) value
              (read_validated (ran t tried) tried.script.rows tried.script.asked t.outcome s needs writes k t.by answered c f some.1 some.2))) in
              record {
                last = reads_are_last (value_at b.opening) k (journal_on b x k) (orderly b x is k) t.by n (value_at tried.script.rows k) how;
                reach = reads_reach (value_at b.opening) k (journal_on b x k) (orderly b x is k) t.by n (value_at tried.script.rows k) how;
              }
