-- In the outcome of an execution two writes of one key at one time are one.
use Rattle.std.proofs.Common.{◌≡◌, ◌⊎◌, inl, inr, ℕ, zero, suc, ◌+◌, ◌<◌, ◌≤◌, Bool, true, false, List, [], ◌∷◌, ◌++◌, map, length, Option, Some, refl, sym, ap, ◌∙◌, subst, arith, nat_eq}
use Rattle.std.specs.List.{AllByRecursion, IsDistinct, slice_get}
use Rattle.std.proofs.lemmas.List.Sorted.{IsPermutation-sym}
use Rattle.coco_types.specs.RowKey.{RowKey}
use Rattle.coco_types.specs.declared.call.Done.{Done}
use Rattle.coco_types.specs.declared.call.Reply.{Reply}
use Rattle.coco_types.specs.declared.call.Request.{Request}
use Rattle.coco_types.specs.declared.call.Write.{Write}
use Rattle.coco_types.specs.declared.value.Value.{Value}
use Rattle.coco_ast.specs.Fitting.{Fits}
use Rattle.coco_ast.specs.History.{rows_after}
use Rattle.coco_ast.specs.Keyed.{Rows, put_over}
use Rattle.coco_ast.specs.Meaning.{run}
use Rattle.coco_ast.specs.Tree.{Procedures}
use Rattle.coco_occ.specs.declared.outcome.Outcome.{Outcome}
use Rattle.coco_occ.specs.declared.outcome.Outcome.TheVariants.{Committed, Conflict, OverTime}
use Rattle.coco_occ.specs.declared.outcome.Tried.{Tried}
use Rattle.coco_order.specs.Execution.{Beginning, Execution, InEachExecution, IsExecution, IsTried, concat, journal_on}
use Rattle.coco_order.specs.Laws.{ApartInTime, OnEachKeyOfEach, StepsAreMine, TailWritesAreRuns, WritesAreRuns}
use Rattle.coco_order.specs.OneKey.{Among, Installs, WriteTimesRise, on}
use Rattle.coco_order.specs.Outcome.{IsOutcome, commit_of, commits, done_of, tail_dones, tail_requests, tail_rows}
use Rattle.coco_shard.specs.Law.{Entry, read_time}
use Rattle.coco_shard.specs.declared.ops.Op.TheVariants.{Install}
use Rattle.coco_early.proofs.InstallLemmas.{installed, tried_at, within_reads}
use Rattle.coco_early.proofs.Members.{either, moved, none_some, of_kept, right, same_some}
use Rattle.coco_early.proofs.RunLemmas.{writes_once}
use Rattle.coco_order.proofs.Snapshots.{snapshot_writes}

-- ---- where a Done comes from

-- it is a script's that committed
pub record OfScript (b : Beginning) (epoch : ℕ) (x : Execution) (d : Done) : Type 0 where
  pub t : Tried
  pub among : Among (concat x.transcripts) t
  pub is : commit_of b epoch t ≡ Some d

-- such a script has a time
record HasTime (t : Tried) (time : ℕ) : Type 0 where
  pub reply : Reply
  pub outcome_is : t.outcome ≡ Committed time reply

timed : (epoch : ℕ) (t : Tried) (r : Request) (d : Done) → done_of epoch (Some r) t.outcome ≡ Some d → HasTime t d.time × (r.call ≡ d.call)
timed epoch t r d is = from t.outcome refl is
  where
    from : (o : Outcome) → t.outcome ≡ o → done_of epoch (Some r) o ≡ Some d → HasTime t d.time × (r.call ≡ d.call)
    from (Committed time reply) out h =
        let made : Done = record { id = r.id; call = r.call; epoch = epoch; time = time; reply = reply } in
        let same : made ≡ d = same_some h in
        (record { reply = reply; outcome_is = out ∙ ap (λ (n : ℕ). Committed n reply) (ap (λ (e : Done). e.time) same) }, ap (λ (e : Done). e.call) same)
    from (Conflict why) out h = absurd (none_some h)
    from OverTime out h = absurd (none_some h)

-- it is that of a request of the tail, with these before it
pub record OfTail (time : ℕ) (requests : List Request) (d : Done) : Type 0 where
  pub first : List Request
  pub last : List Request
  pub r : Request
  pub split : requests ≡ first ++ r ∷ last
  pub id_is : d.id ≡ r.id
  pub time_is : d.time ≡ suc (time + length first)

of_tail : (ps : Procedures) (epoch : ℕ) (rows : Rows) (time : ℕ) (rs : List Request) (d : Done) → Among (tail_dones ps epoch rows time rs) d → OfTail time rs d
of_tail ps epoch rows time [] d h = absurd h
of_tail ps epoch rows time (r ∷ rs) d (inl same) =
    record { first = []; last = rs; r = r; split = refl; id_is = ap (λ (e : Done). e.id) (sym same); time_is = ap (λ (e : Done). e.time) (sym same) ∙ (let h : suc time ≡ suc (time + 0) = omega arith in h) }
of_tail ps epoch rows time (r ∷ rs) d (inr more) =
    let rest : OfTail (suc time) rs d = of_tail ps epoch (put_over rows (run ps r.call rows).writes) (suc time) rs d more in
    record { first = r ∷ rest.first; last = rest.last; r = rest.r; split = ap (λ (qs : List Request). r ∷ qs) rest.split; id_is = rest.id_is; time_is = rest.time_is ∙ (let h : suc (suc time + length rest.first) ≡ suc (time + suc (length rest.first)) = omega arith in h) }

-- two installs of one entry are of one value
same_value : (e f : Entry) (time at : ℕ) (v u : Option Value) → e ≡ f → Installs e time v → Installs f at u → v ≡ u
same_value e f time at v u one i j = let ops : Install i.0 time v ≡ Install j.0 at u = sym i.1 ∙ ap (λ (z : Entry). z.ask.op) one ∙ j.1 in cc

-- requests of the tail with as many before them are one
same_standing : {X : Type 0} (xs first last front behind : List X) (r q : X) → xs ≡ first ++ r ∷ last → xs ≡ front ++ q ∷ behind → length first ≡ length front → (first ≡ front) × (r ≡ q)
same_standing xs [] last [] behind r q s t e = (refl, (let h : r ∷ last ≡ q ∷ behind = sym s ∙ t in cc))
same_standing xs [] last (y ∷ front) behind r q s t e = absurd (omega (arith, e))
same_standing xs (y ∷ first) last [] behind r q s t e = absurd (omega (arith, e))
same_standing [] (y ∷ first) last (z ∷ front) behind r q s t e = absurd (apart s)
  where
    apart : [] ≡ y ∷ (first ++ r ∷ last) → ⊥
    apart h = cc
same_standing {X} (x ∷ xs) (y ∷ first) last (z ∷ front) behind r q s t e =
    let here : x ≡ y = cc in
    let there : x ≡ z = cc in
    let rest = same_standing xs first last front behind r q (let h : xs ≡ first ++ r ∷ last = cc in h) (let h : xs ≡ front ++ q ∷ behind = cc in h) (omega (arith, e)) in
    (ap (λ (v : X). v ∷ first) (sym here ∙ there) ∙ ap (λ (vs : List X). z ∷ vs) rest.0, rest.1)

module _ (mine : InEachExecution StepsAreMine) (apart : OnEachKeyOfEach (λ opening k journal. ApartInTime k journal)) (rise : OnEachKeyOfEach (λ opening k journal. WriteTimesRise k journal))
    (runs : InEachExecution WritesAreRuns) (tail_runs : InEachExecution TailWritesAreRuns)
    (b : Beginning) (x : Execution) (is : IsExecution b x) (epoch : ℕ) (dones : List Done) (o : IsOutcome b epoch x dones) (distinct : IsDistinct nat_eq (map (λ (r : Request). r.id) b.requests)) where
  of_script : (d : Done) → Among (commits b epoch x) d → OfScript b epoch x d
  of_script d among = let found = of_kept (commit_of b epoch) (concat x.transcripts) d among in record { t = found.0; among = found.1; is = found.2 }

  abbrev tail : List Done
  tail = tail_dones b.procs epoch o.rows o.most (tail_requests b x)

  sources : (d : Done) → Among dones d → OfScript b epoch x d ⊎ OfTail o.most (tail_requests b x) d
  sources d among = elim (either (commits b epoch x) tail d (moved dones (commits b epoch x ++ tail) (IsPermutation-sym (commits b epoch x ++ tail) dones o.same) d among)) [
    | inl here ↦ inl (of_script d here)
    | inr there ↦ inr (of_tail b.procs epoch o.rows o.most (tail_requests b x) d there)
  ]

  -- a Done at its place, and what it wrote there
  module _ (before behind : List Done) (d : Done) (split : dones ≡ before ++ d ∷ behind) where
    abbrev wrote : List Write
    wrote = (run b.procs d.call (rows_after b.procs b.opening before)).writes

    among_dones : Among dones d
    among_dones = subst (λ (ds : List Done). Among ds d) (sym split) (right before (d ∷ behind) d (inl refl))

    -- what a script that committed wrote is installed at its time
    installs : OfScript b epoch x d → (w : Write) → Among wrote w → (e : Entry) × Among (on w.key (journal_on b x w.key)) e × Installs e d.time w.value
    installs s w in_wrote = by_snapshot tried.request.call.snapshot refl
      where
        tried : IsTried b s.t
        tried = tried_at b x is s.t s.among

        found : HasTime s.t d.time × (tried.request.call ≡ d.call)
        found = timed epoch s.t tried.request d (ap (λ (r : Option Request). done_of epoch r s.t.outcome) (sym tried.placed) ∙ s.is)

        same : tried.writes ≡ wrote
        same = runs b x is epoch dones o distinct before behind d split s.t s.among s.is tried.request tried.writes tried.placed tried.script

        among : Among tried.writes w
        among = subst (λ (ws : List Write). Among ws w) (sym same) in_wrote

        fitting : (rs : List Request) (place : ℕ) (r : Request) → AllByRecursion (λ (q : Request). Fits b.procs q.call) rs → slice_get rs place ≡ Some r → Fits b.procs r.call
        fitting [] place r all at = absurd (none_some at)
        fitting (q ∷ rs) zero r all at = subst (λ (z : Request). Fits b.procs z.call) (same_some at) all.0
        fitting (q ∷ rs) (suc place) r all at = fitting rs place r all.1 at

        by_snapshot : (snapshot : Bool) → tried.request.call.snapshot ≡ snapshot → (e : Entry) × Among (on w.key (journal_on b x w.key)) e × Installs e d.time w.value
        by_snapshot true snap =
            let none : tried.writes ≡ [] = tried.script.writes_are ∙ snapshot_writes b.procs tried.request.call tried.script.rows (fitting b.requests s.t.place tried.request is.fitting tried.placed) snap in
            absurd (subst (λ (ws : List Write). Among ws w) none among)
        by_snapshot false plain =
            let i = installed b x is (mine b x is) s.t s.among tried d.time found.0.reply found.0.outcome_is w plain among in
            (i.entry, i.stands, i.installs)

    -- so it isn't later than the greatest read time
    early : OfScript b epoch x d → (w : Write) → Among wrote w → d.time ≤ o.most
    early s w in_wrote =
        let e = installs s w in_wrote in
        let reach : d.time ≤ read_time w.key (journal_on b x w.key) = within_reads w.key (journal_on b x w.key) (rise b x is w.key) e.0 d.time w.value e.1 e.2 in
        let most : read_time w.key (journal_on b x w.key) ≤ o.most = o.greatest.bounds w.key in
        omega (arith, reach, most)

    late : OfTail o.most (tail_requests b x) d → o.most < d.time
    late s = let time : d.time ≡ suc (o.most + length s.first) = s.time_is in omega (arith, time)

  pub record Wrote (time : ℕ) (w : Write) : Type 0 where
    pub before : List Done
    pub behind : List Done
    pub d : Done
    pub split : dones ≡ before ++ d ∷ behind
    pub time_is : d.time ≡ time
    pub among : Among (run b.procs d.call (rows_after b.procs b.opening before)).writes w

  pub one_write : (time : ℕ) (w v : Write) → Wrote time w → Wrote time v → w.key ≡ v.key → w ≡ v
  one_write time w v p q key = from (sources p.d (among_dones p.before p.behind p.d p.split)) (sources q.d (among_dones q.before q.behind q.d q.split))
    where
      times : p.d.time ≡ q.d.time
      times = p.time_is ∙ sym q.time_is

      by_value : w.value ≡ v.value → w ≡ v
      by_value value = λ i. record { key = key i; value = value i }

      both_installed : OfScript b epoch x p.d → OfScript b epoch x q.d → w ≡ v
      both_installed s t =
          let e = installs p.before p.behind p.d p.split s w p.among in
          let f = installs q.before q.behind q.d q.split t v q.among in
          let one : e.0 ≡ f.0 = apart b x is w.key e.0 f.0 p.d.time w.value v.value e.1 (subst (λ (k : RowKey). Among (on k (journal_on b x k)) f.0) (sym key) f.1) e.2 (subst (λ (n : ℕ). Installs f.0 n v.value) (sym times) f.2) in
          by_value (same_value e.0 f.0 p.d.time q.d.time w.value v.value one e.2 f.2)

      both_tail : OfTail o.most (tail_requests b x) p.d → OfTail o.most (tail_requests b x) q.d → w ≡ v
      both_tail s t =
          let many : length s.first ≡ length t.first = let a : p.d.time ≡ suc (o.most + length s.first) = s.time_is in let c : q.d.time ≡ suc (o.most + length t.first) = t.time_is in omega (arith, a, c, times) in
          let same = same_standing (tail_requests b x) s.first s.last t.first t.last s.r t.r s.split t.split many in
          let here = tail_runs b x is epoch dones o distinct p.before p.behind p.d p.split s.first s.last s.r s.split s.id_is s.time_is in
          let there = tail_runs b x is epoch dones o distinct q.before q.behind q.d q.split t.first t.last t.r t.split t.id_is t.time_is in
          let one : (run b.procs t.r.call (tail_rows b.procs o.rows t.first)).writes ≡ (run b.procs s.r.call (tail_rows b.procs o.rows s.first)).writes =
          λ i. (run b.procs (sym same.1 i).call (tail_rows b.procs o.rows (sym same.0 i))).writes in
          writes_once b.procs s.r.call (tail_rows b.procs o.rows s.first) w v
          (subst (λ (ws : List Write). Among ws w) (sym here) p.among) (subst (λ (ws : List Write). Among ws v) (sym there ∙ one) q.among) key

      from : OfScript b epoch x p.d ⊎ OfTail o.most (tail_requests b x) p.d → OfScript b epoch x q.d ⊎ OfTail o.most (tail_requests b x) q.d → w ≡ v
      from (inl s) (inl t) = both_installed s t
      from (inl s) (inr t) = absurd (let le : p.d.time ≤ o.most = early p.before p.behind p.d p.split s w p.among in let lt : o.most < q.d.time = late q.before q.behind q.d q.split t in omega (arith, le, lt, times))
      from (inr s) (inl t) = absurd (let le : q.d.time ≤ o.most = early q.before q.behind q.d q.split t v q.among in let lt : o.most < p.d.time = late p.before p.behind p.d p.split s in omega (arith, le, lt, times))
      from (inr s) (inr t) = both_tail s t
