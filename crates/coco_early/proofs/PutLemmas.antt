-- A put of a worker's commit at a copy is a write of a piece.
use Rattle.std.proofs.Common.{◌≡◌, inl, inr, ℕ, ◌<◌, ◌==◌, ◌&&◌, Bool, cond, List, [], ◌∷◌, ◌++◌, map, length, Option, None, Some, refl, sym, ap, ◌∙◌, subst}
use Rattle.std.specs.List.{AllByRecursion, find, flat_map}
use Rattle.std.specs.FinMap.{empty, get}
use Rattle.std.proofs.lemmas.Bool.{eqb-true}
use Rattle.coco_types.proofs.Keys.{is_key, one_key}
use Rattle.coco_types.specs.RowKey.{RowKey}
use Rattle.coco_types.specs.declared.call.Done.{Done}
use Rattle.coco_types.specs.declared.call.Piece.{Piece}
use Rattle.coco_types.specs.declared.call.Reply.{Reply}
use Rattle.coco_types.specs.declared.call.Request.{Request}
use Rattle.coco_types.specs.declared.call.Write.{Write}
use Rattle.coco_types.specs.declared.value.Value.{Value}
use Rattle.coco_ast.specs.History.{rows_after}
use Rattle.coco_ast.specs.Meaning.{run}
use Rattle.coco_copy.specs.CopyState.{CopyState}
use Rattle.coco_copy.specs.Greatest.{greatest_time, put_on, puts_on}
use Rattle.coco_copy.specs.Puts.{after_asks}
use Rattle.coco_copy.specs.declared.ops.CopyAsk.{CopyAsk}
use Rattle.coco_copy.specs.declared.ops.CopyAsk.TheVariants.{Put}
use Rattle.coco_copy.proofs.Greatest.{greatest_pends}
use Rattle.coco_tail.specs.Pieces.{place_of}
use Rattle.coco_occ.specs.declared.outcome.Outcome.{Outcome}
use Rattle.coco_occ.specs.declared.outcome.Outcome.TheVariants.{Committed, Conflict, OverTime}
use Rattle.coco_occ.specs.declared.outcome.Tried.{Tried}
use Rattle.coco_order.specs.Execution.{Beginning, Execution, InEachExecution, all_tries, concat, transcript_of}
use Rattle.coco_order.specs.Laws.{WritesAreRuns}
use Rattle.coco_order.specs.OneKey.{Among}
use Rattle.coco_order.specs.Outcome.{commit_of, commits, done_of, tail_dones, tail_requests}
use Rattle.coco_pieces.specs.Pieces.{writes_on}
use Rattle.coco_worker.specs.Copying.{node_of, partition_of_table, put}
use Rattle.coco_worker.specs.Trying.{time_of}
use Rattle.coco_worker.specs.Working.{IsWorkedOff, Job, Worked, commit_at, copied, copies_at, scripts_of}
use Rattle.coco_worker.specs.declared.copies.WorkerCommit.{WorkerCommit}
use Rattle.coco_worker.specs.declared.slot.EpochConfig.{EpochConfig}
use Rattle.coco_early.proofs.Members.{Standing, by_bool, in_all, kept, left, moved, none_some, of_all, of_flat, of_kept, of_map, right, same_some, standing}
use Rattle.coco_early.proofs.PieceLemmas.{in_pieces, part}
use Rattle.coco_early.proofs.ShipLemmas.{HasOutcome}

-- ---- what pends was put

abbrev Pair : Type 0
Pair = ℕ × Option Value

found_among : (t : Pair → Bool) (ps : List Pair) (b : Pair) → find t ps ≡ Some b → Among ps b
found_among t [] b h = absurd (none_some h)
found_among t (p ∷ ps) b h = by_bool (λ v. cond v (Some p) (find t ps) ≡ Some b → Among (p ∷ ps) b) (t p) (λ _ g. inl (same_some g)) (λ _ g. inr (found_among t ps b g)) h

-- a put of the epoch on the key, with this time and value
pub record IsPut (epoch : ℕ) (k : RowKey) (time : ℕ) (value : Option Value) (ask : CopyAsk) : Type 0 where
  pub w : Write
  pub ask_is : ask ≡ Put epoch time w
  pub key_is : w.key ≡ k
  pub value_is : w.value ≡ value

is_put : (epoch : ℕ) (k : RowKey) (time : ℕ) (value : Option Value) (ask : CopyAsk) → put_on epoch k ask ≡ Some (time, value) → IsPut epoch k time value ask
is_put epoch k time value (Put of at w) h =
    by_bool (λ b. (of == epoch) ≡ b → cond {A = Option Pair} (b && is_key k w.key) (Some (at, w.value)) None ≡ Some (time, value) → IsPut epoch k time value (Put of at w)) (of == epoch)
    (λ _ e. by_bool (λ b. is_key k w.key ≡ b → cond {A = Option Pair} b (Some (at, w.value)) None ≡ Some (time, value) → IsPut epoch k time value (Put of at w)) (is_key k w.key)
    (λ _ t g. (
    let put : Pair = (at, w.value) in
    let pair : put ≡ (time, value) = same_some g in
    let epochs : of ≡ epoch = eqb-true of epoch e in
    record { w = w; ask_is = (λ i. Put (epochs i) (pair i).0 w); key_is = sym (one_key k w.key t); value_is = ap (λ (q : Pair). q.1) pair }))
    (λ _ _ g. absurd (none_some g)) refl)
    (λ _ _ g. absurd (none_some g)) refl h

pub pending_was_put : (s : CopyState) (asks : List CopyAsk) (k : RowKey) (time : ℕ) (value : Option Value) → s.pending ≡ empty → get (after_asks s asks).pending k ≡ Some (time, value)
    → (ask : CopyAsk) × Among asks ask × IsPut s.epoch k time value ask
pending_was_put s asks k time value none pends =
    let ps : List Pair = puts_on s.epoch k asks in
    let in_ps : Among ps (time, value) = found_among (λ (p : Pair). p.0 == greatest_time ps) ps (time, value) (sym (greatest_pends s asks k none) ∙ pends) in
    let found = of_kept (put_on s.epoch k) asks (time, value) in_ps in
    (found.0, found.1, is_put s.epoch k time value found.0 found.2)

-- ---- what a commit puts

-- a put of a commit, by one of the requests that were worked off
record IsOfCommit (j : Job) (table : ℕ) (ask : CopyAsk) (w : Worked) : Type 0 where
  pub time : ℕ
  pub reply : Reply
  pub outcome_is : w.tries.last.outcome ≡ Committed time reply
  pub write : Write
  pub in_writes : Among (writes_on j.partitions (partition_of_table j.config table) w.writes) write
  pub is : ask ≡ Put j.config.epoch time write

of_copied : (j : Job) (table : ℕ) (ask : CopyAsk) (w : Worked) → Among (copied j table w) ask → IsOfCommit j table ask w
of_copied j table ask w h = from w.tries.last.outcome refl h
  where
    from : (o : Outcome) → w.tries.last.outcome ≡ o → Among (copies_at j table w.tries.place w.writes (time_of o)) ask → IsOfCommit j table ask w
    from (Conflict why) out g = absurd g
    from OverTime out g = absurd g
    from (Committed time reply) out g =
        let c : WorkerCommit = commit_at j w.tries.place time in
        by_bool (λ b. Among (cond b (map (put c) (writes_on j.partitions (partition_of_table j.config table) w.writes)) []) ask → IsOfCommit j table ask w) (j.carries j.config.epoch j.worker w.tries.place (node_of j.config table))
        (λ _ among. (let found = of_map (put c) (writes_on j.partitions (partition_of_table j.config table) w.writes) ask among in record { time = time; reply = reply; outcome_is = out; write = found.0; in_writes = found.1; is = sym found.2 }))
        (λ _ none. absurd none) g

last_script : (ws : List Worked) (w : Worked) → Among ws w → Among (scripts_of ws) w.tries.last
last_script [] w h = absurd h
last_script (v ∷ ws) w (inl same) =
    left (all_tries v.tries) (scripts_of ws) w.tries.last
    (right v.tries.conflicts (v.tries.last ∷ []) w.tries.last (inl (ap (λ (z : Worked). z.tries.last) same)))
last_script (v ∷ ws) w (inr more) = right (all_tries v.tries) (scripts_of ws) w.tries.last (last_script ws w more)

-- a put of the epoch is a write that a piece of this partition has, at the piece's time
pub record IsOfPiece (pieces : List Piece) (epoch p : ℕ) (ask : CopyAsk) : Type 0 where
  pub time : ℕ
  pub w : Write
  pub ask_is : ask ≡ Put epoch time w
  pub x : Piece
  pub among : Among pieces x
  pub partition : x.partition ≡ p
  pub time_is : x.time ≡ time
  pub in_x : Among x.writes w

module _ (runs : InEachExecution WritesAreRuns) (b : Beginning) (x : Execution) (config : EpochConfig) (dones : List Done) (pieces : List Piece) (has : HasOutcome b config.epoch x dones pieces) (carries : ℕ → ℕ → ℕ → ℕ → Bool) where
  abbrev pub job : ℕ → Job
  job worker = record { procs = b.procs; requests = b.requests; partitions = b.partitions; worker = worker; config = config; carries = carries }

  abbrev made : List Done
  made = commits b config.epoch x

  abbrev tail : List Done
  tail = tail_dones b.procs config.epoch has.outcome.rows has.outcome.most (tail_requests b x)

  -- the piece of a write of the Done of this request and time, where it is one of the Dones
  piece_of_done : (r : Request) (time : ℕ) (reply : Reply) (stands : Standing dones (record { id = r.id; call = r.call; epoch = config.epoch; time = time; reply = reply })) (p : ℕ) → p < b.partitions
      → (w : Write) → Among (writes_on b.partitions p (run b.procs r.call (rows_after b.procs b.opening stands.before)).writes) w → (ask : CopyAsk) → ask ≡ Put config.epoch time w → IsOfPiece pieces config.epoch p ask
  piece_of_done r time reply stands p within w in_run ask is =
      let d : Done = record { id = r.id; call = r.call; epoch = config.epoch; time = time; reply = reply } in
      let y : Piece = part b.partitions (place_of b.requests r.id) time (run b.procs r.call (rows_after b.procs b.opening stands.before)).writes p in
      record {
        time = time;
        w = w;
        ask_is = is;
        x = y;
        among = subst (λ (ys : List Piece). Among ys y) (sym has.pieces_are) (in_pieces b.procs b.partitions b.requests b.opening dones stands.before stands.behind d stands.split p within w in_run);
        partition = refl;
        time_is = refl;
        in_x = in_run;
      }

  module _ (worker : ℕ) (lt : worker < length x.transcripts) (worked : List Worked) (each : AllByRecursion (IsWorkedOff (job worker)) worked) (scripts : transcript_of x worker ≡ scripts_of worked) where
    of_commit : (table : ℕ) → partition_of_table config table < b.partitions → (ask : CopyAsk) (w : Worked) → Among worked w → IsOfCommit (job worker) table ask w → IsOfPiece pieces config.epoch (partition_of_table config table) ask
    of_commit table within ask w in_worked c =
        let t : Tried = w.tries.last in
        let is : IsWorkedOff (job worker) w = of_all (IsWorkedOff (job worker)) worked w each in_worked in
        let r : Request = is.last.request in
        let d : Done = record { id = r.id; call = r.call; epoch = config.epoch; time = c.time; reply = c.reply } in
        let in_x : Among (concat x.transcripts) t = in_all x.transcripts worker t lt (subst (λ (ts : List Tried). Among ts t) (sym scripts) (last_script worked w in_worked)) in
        let commits_it : commit_of b config.epoch t ≡ Some d = ap (λ (o : Option Request). done_of config.epoch o t.outcome) is.last.placed ∙ ap (done_of config.epoch (Some r)) c.outcome_is in
        let in_dones : Among dones d = moved (made ++ tail) dones has.outcome.same d (left made tail d (kept (commit_of b config.epoch) (concat x.transcripts) t d in_x commits_it)) in
        let stands : Standing dones d = standing dones d in_dones in
        piece_of_done r c.time c.reply stands (partition_of_table config table) within c.write
        (subst (λ (ws : List Write). Among (writes_on b.partitions (partition_of_table config table) ws) c.write)
        (runs b x has.execution config.epoch dones has.outcome has.distinct stands.before stands.behind d stands.split t in_x commits_it r w.writes is.last.placed is.last.script) c.in_writes)
        ask c.is

    pub put_is_of_piece : (table : ℕ) → partition_of_table config table < b.partitions → (ask : CopyAsk) → Among (flat_map (copied (job worker) table) worked) ask → IsOfPiece pieces config.epoch (partition_of_table config table) ask
    put_is_of_piece table within ask among =
        let at = of_flat (copied (job worker) table) worked ask among in
        of_commit table within ask at.0 at.1 (of_copied (job worker) table ask at.0 at.2)
