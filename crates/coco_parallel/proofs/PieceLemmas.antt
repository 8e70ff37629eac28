-- The pieces of an epoch's workers and of its tail, in order, are those of its Dones.
use Rattle.std.proofs.Common.{◌≡◌, inl, inr, ℕ, zero, suc, ◌+◌, Bool, true, false, cond, nat_eq, List, [], ◌∷◌, ◌++◌, map, length, Option, None, Some, refl, sym, ap, ◌∙◌, subst, arith}
use Rattle.std.specs.Cmp.{nat_eq_equiv}
use Rattle.std.specs.List.{AllByRecursion, IsDistinct, cons_option, filter_map, flat_map, slice_get, sum_by}
use Rattle.std.specs.List.Sorted.{IsPermutation}
use Rattle.std.proofs.lemmas.Bool.{eq-eqb}
use Rattle.std.proofs.lemmas.List.{append-nil}
use Rattle.std.proofs.lemmas.List.Concat.{flat_map-append}
use Rattle.std.proofs.lemmas.List.Elements.{filter_map-append}
use Rattle.std.proofs.lemmas.List.Sorted.{IsPermutation-map, IsPermutation-sym, sum_by-IsPermutation}
use Rattle.std.proofs.lemmas.Map.Keys.{IsDistinct-IsPermutation}
use Rattle.std.proofs.lemmas.Option.{same_Some}
use Rattle.std.proofs.lemmas.Simd.{map-map}
use Rattle.coco_types.specs.declared.call.Done.{Done}
use Rattle.coco_types.specs.declared.call.Piece.{Piece}
use Rattle.coco_types.specs.declared.call.Request.{Request}
use Rattle.coco_types.specs.declared.call.Write.{Write}
use Rattle.coco_ast.proofs.Lists.{all_right}
use Rattle.coco_ast.proofs.RunsPutWrites.{run_puts_writes}
use Rattle.coco_ast.specs.Growth.{IsEpochOf}
use Rattle.coco_ast.specs.History.{request_of, rows_after}
use Rattle.coco_ast.specs.Keyed.{Rows, put_over}
use Rattle.coco_ast.specs.Meaning.{run}
use Rattle.coco_ast.specs.Tree.{Procedures}
use Rattle.coco_tail.specs.Pieces.{pieces_of, place_of}
use Rattle.coco_occ.specs.Script.{IsScript}
use Rattle.coco_occ.specs.declared.outcome.Outcome.{Outcome}
use Rattle.coco_occ.specs.declared.outcome.Outcome.TheVariants.{Committed, Conflict, OverTime}
use Rattle.coco_occ.specs.declared.outcome.Tried.{Tried}
use Rattle.coco_order.specs.Execution.{Execution, InEachExecution, IsExecution, Journal, Tries, AreTries, all_tries, concat, is_conflict}
use Rattle.coco_order.specs.Laws.{ClosedIsLawful, CommitsAreSerial, OutcomesAreEpochs, TailWritesAreRuns, WritesAreRuns}
use Rattle.coco_order.specs.OneKey.{Among}
use Rattle.coco_order.specs.Outcome.{IsOutcome, commit_of, commits, done_of, tail_dones, tail_requests, tail_rows}
use Rattle.coco_pieces.specs.Pieces.{request_pieces}
use Rattle.coco_shard.specs.RowState.{ShardState}
use Rattle.coco_worker.specs.Trying.{time_of}
use Rattle.coco_worker.specs.Working.{IsWorkedOff, Worked, pieces_at, scripts_of, pieces_of as pieces_worked}
use Rattle.coco_worker.specs.declared.slot.Slot.{Slot}
use Rattle.coco_parallel.specs.Ending.{HasEnded, HasWorked, Start, beginning_of, execution_of, job_of}
use Rattle.coco_parallel.specs.Laws.{AreAllDones, AtEachEnd, IsStart}
use Rattle.coco_parallel.specs.PieceOrder.{ArePiecesInOrder, PiecesAreOfDones, id_at, id_of}
use Rattle.coco_parallel.proofs.EndLemmas.{are_an_execution}
use Rattle.coco_parallel.proofs.OutcomeLemmas.{outcome}
use Rattle.coco_parallel.proofs.PieceOrderLemmas.{IsOfDone, Rise, all_from, among_all, among_left, among_moved, among_right, dones_rise, in_flat, of_flat, one_level, rise_from, same_order, sum_flat, weight}
use Rattle.coco_parallel.proofs.SlotLemmas.{transcript_is}

two_sides : true ≡ false → ⊥
two_sides h = cc

none_some : {X : Type 0} (x : X) → None ≡ Some x → ⊥
none_some x h = cc

-- ---- places of requests

at_place : (P : ℕ → Type 0) (rs : List Request) (k : ℕ) (r : Request) → slice_get rs k ≡ Some r → AllByRecursion P (map (λ (q : Request). q.id) rs) → P r.id
at_place P [] k r at all = absurd (none_some r at)
at_place P (q ∷ rs) zero r at all = subst (λ (z : Request). P z.id) (same_Some q r at) all.0
at_place P (q ∷ rs) (suc k) r at all = at_place P rs k r at all.1

-- where each has an id of its own
place_is : (rs : List Request) → IsDistinct nat_eq (map (λ (q : Request). q.id) rs) → (k : ℕ) (r : Request) → slice_get rs k ≡ Some r → place_of rs r.id ≡ k
unfolding IsDistinct
place_is [] distinct k r at = absurd (none_some r at)
place_is (q ∷ rs) distinct zero r at = ap (λ (b : Bool). (let n : ℕ = cond b 0 (suc (place_of rs r.id)) in n)) (eq-eqb r.id q.id (ap (λ (z : Request). z.id) (sym (same_Some q r at))))
place_is (q ∷ rs) distinct (suc k) r at =
    ap (λ (b : Bool). (let n : ℕ = cond b 0 (suc (place_of rs r.id)) in n)) (nat_eq_equiv.symm r.id q.id ∙ at_place (λ id. nat_eq q.id id ≡ false) rs k r at distinct.0)
    ∙ ap suc (place_is rs distinct.1 k r at)

get_among : {X : Type 0} (xs : List X) (x : X) → Among xs x → (k : ℕ) × (slice_get xs k ≡ Some x)
get_among [] x h = absurd h
get_among (y ∷ xs) x (inl same) = (0, ap Some same)
get_among (y ∷ xs) x (inr more) = let rest = get_among xs x more in (suc rest.0, rest.1)

map_among : {X Y : Type 0} (f : X → Y) (xs : List X) (x : X) → Among xs x → Among (map f xs) (f x)
map_among f [] x h = absurd h
map_among f (y ∷ xs) x (inl same) = inl (ap f same)
map_among f (y ∷ xs) x (inr more) = inr (map_among f xs x more)

kept_among : {X Y : Type 0} (f : X → Option Y) (xs : List X) (x : X) (y : Y) → Among xs x → f x ≡ Some y → Among (filter_map f xs) y
kept_among f [] x y h is = absurd h
kept_among f (z ∷ xs) x y (inl same) is = subst (λ (o : Option _). Among (cons_option o (filter_map f xs)) y) (sym (ap f same ∙ is)) (inl refl)
kept_among {X} {Y} f (z ∷ xs) x y (inr more) is = behind (f z) (kept_among f xs x y more is)
  where
    behind : (o : Option Y) → Among (filter_map f xs) y → Among (cons_option o (filter_map f xs)) y
    behind None rest = rest
    behind (Some w) rest = inr rest

flat_alike : {X Y : Type 0} (g h : X → List Y) (xs : List X) → ((x : X) → Among xs x → g x ≡ h x) → flat_map g xs ≡ flat_map h xs
flat_alike g h [] each = refl
flat_alike g h (x ∷ xs) each = ap (λ ys. ys ++ flat_map g xs) (each x (inl refl)) ∙ ap (λ ys. h x ++ ys) (flat_alike g h xs (λ y among. each y (inr among)))

-- ---- what the Done of an id wrote, of Dones that are run one after another

module _ (ps : Procedures) where
  abbrev wrote : Rows → List Done → ℕ → List Write
  wrote m [] id = []
  wrote m (d ∷ ds) id = cond (nat_eq id d.id) (run ps d.call m).writes (wrote (run ps d.call m).rows ds id)

  first_wrote : (m : Rows) (d : Done) (ds : List Done) → wrote m (d ∷ ds) d.id ≡ (run ps d.call m).writes
  first_wrote m d ds = ap (λ (b : Bool). cond b (run ps d.call m).writes (wrote (run ps d.call m).rows ds d.id)) (eq-eqb d.id d.id refl)

  other_wrote : (m : Rows) (d : Done) (ds : List Done) → AllByRecursion (λ id. nat_eq d.id id ≡ false) (map (λ (e : Done). e.id) ds) → (e : Done) → Among ds e → wrote m (d ∷ ds) e.id ≡ wrote (run ps d.call m).rows ds e.id
  other_wrote m d ds apart e among =
      ap (λ (b : Bool). cond b (run ps d.call m).writes (wrote (run ps d.call m).rows ds e.id))
      (nat_eq_equiv.symm e.id d.id ∙ among_all (λ id. nat_eq d.id id ≡ false) (map (λ (f : Done). f.id) ds) e.id apart (map_among (λ (f : Done). f.id) ds e among))

  -- a Done at its place among them
  record Found (m : Rows) (ds : List Done) (d : Done) : Type 0 where
    pub before : List Done
    pub behind : List Done
    pub split : ds ≡ before ++ d ∷ behind
    pub is : wrote m ds d.id ≡ (run ps d.call (rows_after ps m before)).writes

  found : (m : Rows) (ds : List Done) → IsDistinct nat_eq (map (λ (e : Done). e.id) ds) → (d : Done) → Among ds d → Found m ds d
  unfolding IsDistinct
  found m [] distinct d h = absurd h
  found m (e ∷ ds) distinct d (inl same) = subst (Found m (e ∷ ds)) same (record { before = []; behind = ds; split = refl; is = first_wrote m e ds })
  found m (e ∷ ds) distinct d (inr more) =
      let rest : Found (run ps e.call m).rows ds d = found (run ps e.call m).rows ds distinct.1 d more in
      record { before = e ∷ rest.before; behind = rest.behind; split = ap (λ (fs : List Done). e ∷ fs) rest.split; is = other_wrote m e ds distinct.0 d more ∙ rest.is }

  module _ (count : ℕ) (requests : List Request) where
    -- the pieces of a Done that wrote what the one of its id did
    abbrev pieces_with : (ℕ → List Write) → Done → List Piece
    pieces_with writes d = request_pieces count (place_of requests d.id) d.time (writes d.id)

    dones_flat : (m : Rows) (ds : List Done) → IsDistinct nat_eq (map (λ (e : Done). e.id) ds) → pieces_of ps count requests m ds ≡ flat_map (pieces_with (wrote m ds)) ds
    unfolding IsDistinct
    dones_flat m [] distinct = refl
    dones_flat m (d ∷ ds) distinct =
        ap (λ (qs : List Piece). request_pieces count (place_of requests d.id) d.time (run ps d.call m).writes ++ qs)
        (dones_flat (run ps d.call m).rows ds distinct.1
        ∙ flat_alike (pieces_with (wrote (run ps d.call m).rows ds)) (pieces_with (wrote m (d ∷ ds))) ds (λ e among. ap (request_pieces count (place_of requests e.id) e.time) (sym (other_wrote m d ds distinct.0 e among))))
        ∙ ap (λ (ws : List Write). request_pieces count (place_of requests d.id) d.time ws ++ flat_map (pieces_with (wrote m (d ∷ ds))) ds) (sym (first_wrote m d ds))

    -- the tail's, one request after another
    tail_flat : (epoch : ℕ) (writes : ℕ → List Write) (rows : Rows) (time : ℕ) (rs : List Request)
        → ((first last : List Request) (r : Request) → rs ≡ first ++ r ∷ last → (run ps r.call (tail_rows ps rows first)).writes ≡ writes r.id)
        → pieces_of ps count requests rows (tail_dones ps epoch rows time rs) ≡ flat_map (pieces_with writes) (tail_dones ps epoch rows time rs)
    tail_flat epoch writes rows time [] each = refl
    tail_flat epoch writes rows time (r ∷ rs) each =
        ap (λ (ws : List Write). request_pieces count (place_of requests r.id) (suc time) ws ++ pieces_of ps count requests (run ps r.call rows).rows rest) (each [] rs r refl)
        ∙ ap (λ (m : Rows). pieces_with writes first ++ pieces_of ps count requests m rest) (run_puts_writes ps r.call rows)
        ∙ ap (λ (qs : List Piece). pieces_with writes first ++ qs) (tail_flat epoch writes next (suc time) rs (λ front last q split. each (r ∷ front) last q (ap (λ (l : List Request). r ∷ l) split)))
      where
        next : Rows
        next = put_over rows (run ps r.call rows).writes

        rest : List Done
        rest = tail_dones ps epoch next (suc time) rs

        first : Done
        first = record { id = r.id; call = r.call; epoch = epoch; time = suc time; reply = (run ps r.call rows).reply }

-- the Done of a request of the tail
abbrev tail_done : Procedures → ℕ → Rows → ℕ → List Request → Request → Done
tail_done ps epoch rows time first r = record { id = r.id; call = r.call; epoch = epoch; time = suc (time + length first); reply = (run ps r.call (tail_rows ps rows first)).reply }

tail_among : (ps : Procedures) (epoch : ℕ) (rows : Rows) (time : ℕ) (first last : List Request) (r : Request) → Among (tail_dones ps epoch rows time (first ++ r ∷ last)) (tail_done ps epoch rows time first r)
tail_among ps epoch rows time [] last r = inl (ap (λ (n : ℕ). (let d : Done = record { id = r.id; call = r.call; epoch = epoch; time = suc n; reply = (run ps r.call rows).reply } in d)) (let h : time ≡ time + 0 = omega arith in h))
tail_among ps epoch rows time (q ∷ first) last r =
    inr (subst (λ (n : ℕ). Among (tail_dones ps epoch (put_over rows (run ps q.call rows).writes) (suc time) (first ++ r ∷ last)) (record { id = r.id; call = r.call; epoch = epoch; time = suc n; reply = (run ps r.call (tail_rows ps rows (q ∷ first))).reply }))
    (let h : suc time + length first ≡ time + suc (length first) = omega arith in h)
    (tail_among ps epoch (put_over rows (run ps q.call rows).writes) (suc time) first last r))

-- ---- the workers

no_done : (epoch : ℕ) (o : Option Request) (outcome : Outcome) → is_conflict outcome ≡ true → done_of epoch o outcome ≡ None
no_done epoch (Some r) (Committed time reply) h = absurd (two_sides (sym h))
no_done epoch (Some r) (Conflict why) h = refl
no_done epoch (Some r) OverTime h = absurd (two_sides (sym h))
no_done epoch None outcome h = refl

module _ (s : Start) (distinct : IsDistinct nat_eq (map (λ (q : Request). q.id) s.requests)) (writes : ℕ → List Write) (Inside : Tried → Type 0)
    (known : (t : Tried) → Inside t → (d : Done) → commit_of (beginning_of s) s.config.epoch t ≡ Some d → (request : Request) (ws : List Write) → slice_get s.requests t.place ≡ Some request
    → IsScript s.procs request.call t.by (length s.shards) t.script t.outcome ws → ws ≡ writes d.id) where
  abbrev commit : Tried → Option Done
  commit = commit_of (beginning_of s) s.config.epoch

  abbrev of_done : Done → List Piece
  of_done = pieces_with s.procs (length s.shards) s.requests writes

  no_commits : (ts : List Tried) → AllByRecursion (λ t. is_conflict t.outcome ≡ true) ts → filter_map commit ts ≡ []
  no_commits [] all = refl
  no_commits (t ∷ ts) all = ap (λ (o : Option Done). cons_option o (filter_map commit ts)) (no_done s.config.epoch (slice_get s.requests t.place) t.outcome all.0) ∙ no_commits ts all.1

  one_commit : (r : Tries) → AreTries s.config.attempts r → filter_map commit (all_tries r) ≡ cons_option (commit r.last) []
  one_commit r are = filter_map-append commit r.conflicts (r.last ∷ []) ∙ ap (λ (ds : List Done). ds ++ filter_map commit (r.last ∷ [])) (no_commits r.conflicts are.conflicts)

  module _ (worker : ℕ) where
    worked_flat : (w : Worked) → IsWorkedOff (job_of s worker) w → Inside w.tries.last → pieces_worked (job_of s worker) w ≡ flat_map of_done (filter_map commit (all_tries w.tries))
    worked_flat w is inside =
        from w.tries.last.outcome refl
        ∙ ap (λ (o : Option Request). flat_map of_done (cons_option (done_of s.config.epoch o w.tries.last.outcome) [])) (sym last_placed)
        ∙ ap (flat_map of_done) (sym (one_commit w.tries is.tries))
      where
        last_placed : slice_get s.requests w.tries.last.place ≡ Some w.request
        last_placed = ap (slice_get s.requests) (all_right (λ (t : Tried). t.place ≡ w.tries.place) w.tries.conflicts (w.tries.last ∷ []) is.tries.placed).0 ∙ is.placed

        same_request : is.last.request ≡ w.request
        same_request = same_Some is.last.request w.request (sym is.last.placed ∙ last_placed)

        from : (o : Outcome) → w.tries.last.outcome ≡ o → pieces_at (length s.shards) w.tries.place w.writes (time_of o) ≡ flat_map of_done (cons_option (done_of s.config.epoch (Some w.request) o) [])
        from (Committed time reply) out =
            ap (λ (k : ℕ). request_pieces (length s.shards) k time w.writes) (sym (place_is s.requests distinct w.tries.place w.request is.placed))
            ∙ ap (request_pieces (length s.shards) (place_of s.requests w.request.id) time)
            (known w.tries.last inside (record { id = w.request.id; call = w.request.call; epoch = s.config.epoch; time = time; reply = reply })
            (ap (λ (o : Option Request). done_of s.config.epoch o w.tries.last.outcome) last_placed ∙ ap (done_of s.config.epoch (Some w.request)) out)
            is.last.request w.writes is.last.placed is.last.script)
            ∙ sym (append-nil (request_pieces (length s.shards) (place_of s.requests w.request.id) time (writes w.request.id)))
        from (Conflict why) out = refl
        from OverTime out = refl

    works_flat : (ws : List Worked) → AllByRecursion (IsWorkedOff (job_of s worker)) ws → ((t : Tried) → Among (scripts_of ws) t → Inside t) → flat_map (pieces_worked (job_of s worker)) ws ≡ flat_map of_done (filter_map commit (scripts_of ws))
    works_flat [] each inside = refl
    works_flat (w ∷ ws) each inside =
        ap (λ (qs : List Piece). qs ++ flat_map (pieces_worked (job_of s worker)) ws)
        (worked_flat w each.0 (inside w.tries.last (among_left (all_tries w.tries) (scripts_of ws) w.tries.last (among_right w.tries.conflicts (w.tries.last ∷ []) w.tries.last (inl refl)))))
        ∙ ap (λ (qs : List Piece). flat_map of_done (filter_map commit (all_tries w.tries)) ++ qs) (works_flat ws each.1 (λ t among. inside t (among_right (all_tries w.tries) (scripts_of ws) t among)))
        ∙ sym (flat_map-append of_done (filter_map commit (all_tries w.tries)) (filter_map commit (scripts_of ws)))
        ∙ ap (flat_map of_done) (sym (filter_map-append commit (all_tries w.tries) (scripts_of ws)))

  abbrev transcripts_of : List Slot → List (List Tried)
  transcripts_of slots = map (λ (slot : Slot). slot.transcript) slots

  slot_flat : (slot : Slot) → HasWorked s slot → ((t : Tried) → Among slot.transcript t → Inside t) → slot.pieces ≡ flat_map of_done (filter_map commit slot.transcript)
  slot_flat slot has inside =
      has.works.pieces ∙ ap (λ (qs : List Piece). qs ++ flat_map (pieces_worked (job_of s has.before.worker)) has.worked) has.begun.pieces
      ∙ works_flat has.before.worker has.worked has.works.each (λ t among. inside t (subst (λ (ts : List Tried). Among ts t) (sym (transcript_is s slot has)) among))
      ∙ ap (λ (ts : List Tried). flat_map of_done (filter_map commit ts)) (sym (transcript_is s slot has))

  slots_flat : (slots : List Slot) → AllByRecursion (HasWorked s) slots → ((t : Tried) → Among (concat (transcripts_of slots)) t → Inside t)
      → concat (map (λ (slot : Slot). slot.pieces) slots) ≡ flat_map of_done (filter_map commit (concat (transcripts_of slots)))
  slots_flat [] each inside = refl
  slots_flat (slot ∷ slots) each inside =
      ap (λ (qs : List Piece). qs ++ concat (map (λ (slot : Slot). slot.pieces) slots)) (slot_flat slot each.0 (λ t among. inside t (among_left slot.transcript (concat (transcripts_of slots)) t among)))
      ∙ ap (λ (qs : List Piece). flat_map of_done (filter_map commit slot.transcript) ++ qs) (slots_flat slots each.1 (λ t among. inside t (among_right slot.transcript (concat (transcripts_of slots)) t among)))
      ∙ sym (flat_map-append of_done (filter_map commit slot.transcript) (filter_map commit (concat (transcripts_of slots))))
      ∙ ap (flat_map of_done) (sym (filter_map-append commit slot.transcript (concat (transcripts_of slots))))

-- ---- Dones of an epoch

module _ (requests : List Request) (dones : List Done) (each : IsPermutation requests (map request_of dones)) (distinct : IsDistinct nat_eq (map (λ (q : Request). q.id) requests)) where
  own_ids : IsDistinct nat_eq (map (λ (d : Done). d.id) dones)
  own_ids =
      subst (IsDistinct nat_eq) (map-map (λ (q : Request). q.id) request_of dones)
      (IsDistinct-IsPermutation nat_eq nat_eq_equiv.symm (map (λ (q : Request). q.id) requests) (map (λ (q : Request). q.id) (map request_of dones)) (IsPermutation-map (λ (q : Request). q.id) requests (map request_of dones) each) distinct)

  -- the id at a Done's place is its own
  own_place : (d : Done) → Among dones d → id_at requests (place_of requests d.id) ≡ d.id
  own_place d among =
      let at = get_among requests (request_of d) (among_moved (map request_of dones) requests (IsPermutation-sym requests (map request_of dones) each) (request_of d) (map_among request_of dones d among)) in
      ap (id_at requests) (place_is requests distinct at.0 (request_of d) at.1) ∙ ap id_of at.1

-- ---- all of it

module _ (law : ClosedIsLawful) (serial : InEachExecution CommitsAreSerial) (epochs : InEachExecution OutcomesAreEpochs) (runs : InEachExecution WritesAreRuns) (tail_runs : InEachExecution TailWritesAreRuns)
    (s : Start) (slots : List Slot) (journals : List Journal) (machines : List ShardState) (start : IsStart s) (ended : HasEnded s slots journals machines)
    (dones : List Done) (all : AreAllDones s slots journals machines dones) (distinct : IsDistinct nat_eq (map (λ (q : Request). q.id) s.requests)) where
  abbrev x : Execution
  x = execution_of slots journals

  is : IsExecution (beginning_of s) x
  is = are_an_execution law s slots journals machines start ended

  abbrev o : IsOutcome (beginning_of s) s.config.epoch x dones
  o = outcome law s slots journals machines start ended serial dones all

  made : IsEpochOf s.requests (record { number = s.config.epoch; dones = dones })
  made = epochs (beginning_of s) x is s.config.epoch dones o distinct

  ids : IsDistinct nat_eq (map (λ (d : Done). d.id) dones)
  ids = own_ids s.requests dones made.each distinct

  abbrev writes : ℕ → List Write
  writes = wrote s.procs s.opening dones

  abbrev each_of : Done → List Piece
  each_of = pieces_with s.procs (length s.shards) s.requests writes

  abbrev made_by_commits : List Done
  made_by_commits = commits (beginning_of s) s.config.epoch x

  abbrev left : Rows
  left = rows_after s.procs s.opening all.commits

  abbrev made_by_tail : List Done
  made_by_tail = tail_dones s.procs s.config.epoch left all.most (tail_requests (beginning_of s) x)

  known : (t : Tried) → Among (concat x.transcripts) t → (d : Done) → commit_of (beginning_of s) s.config.epoch t ≡ Some d → (request : Request) (ws : List Write) → slice_get s.requests t.place ≡ Some request
      → IsScript s.procs request.call t.by (length s.shards) t.script t.outcome ws → ws ≡ writes d.id
  known t among d commits request ws placed script =
      let in_commits : Among made_by_commits d = kept_among (commit_of (beginning_of s) s.config.epoch) (concat x.transcripts) t d among commits in
      let f : Found s.procs s.opening dones d = found s.procs s.opening dones ids d (among_moved (made_by_commits ++ made_by_tail) dones o.same d (among_left made_by_commits made_by_tail d in_commits)) in
      runs (beginning_of s) x is s.config.epoch dones o distinct f.before f.behind d f.split t among commits request ws placed script ∙ sym f.is

  of_workers : concat (map (λ (slot : Slot). slot.pieces) slots) ≡ flat_map each_of made_by_commits
  of_workers = slots_flat s distinct writes (λ t. Among (concat x.transcripts) t) known slots ended.worked (λ t among. among)

  tail_known : (first last : List Request) (r : Request) → tail_requests (beginning_of s) x ≡ first ++ r ∷ last → (run s.procs r.call (tail_rows s.procs left first)).writes ≡ writes r.id
  tail_known first last r split =
      let d : Done = tail_done s.procs s.config.epoch left all.most first r in
      let in_tail : Among made_by_tail d = subst (λ (rs : List Request). Among (tail_dones s.procs s.config.epoch left all.most rs) d) (sym split) (tail_among s.procs s.config.epoch left all.most first last r) in
      let f : Found s.procs s.opening dones d = found s.procs s.opening dones ids d (among_moved (made_by_commits ++ made_by_tail) dones o.same d (among_right made_by_commits made_by_tail d in_tail)) in
      tail_runs (beginning_of s) x is s.config.epoch dones o distinct f.before f.behind d f.split first last r split refl refl ∙ sym f.is

  of_tail : pieces_of s.procs (length s.shards) s.requests left made_by_tail ≡ flat_map each_of made_by_tail
  of_tail = tail_flat s.procs (length s.shards) s.requests s.config.epoch writes left all.most (tail_requests (beginning_of s) x) tail_known

  rise : Rise s.requests (flat_map each_of dones)
  rise = dones_rise s.requests each_of s.config.epoch dones (λ d among. (
    rise_from s.requests (length s.shards) (place_of s.requests d.id) d.time (writes d.id) 0 (length s.shards),
    all_from s.requests (length s.shards) (place_of s.requests d.id) d.time (writes d.id) (IsOfDone s.requests d) 0 (length s.shards) (λ p vs le. record { time = refl; id = own_place s.requests dones made.each distinct d among }),
  )) made.numbered made.rising

  module _ (parts : List Piece) (given : IsPermutation (concat (map (λ (slot : Slot). slot.pieces) slots) ++ pieces_of s.procs (length s.shards) s.requests left made_by_tail) parts) where
    moved : IsPermutation (flat_map each_of (made_by_commits ++ made_by_tail)) parts
    moved = subst (λ (qs : List Piece). IsPermutation qs parts)
        (ap (λ (qs : List Piece). qs ++ pieces_of s.procs (length s.shards) s.requests left made_by_tail) of_workers
        ∙ ap (λ (qs : List Piece). flat_map each_of made_by_commits ++ qs) of_tail
        ∙ sym (flat_map-append each_of made_by_commits made_by_tail))
        given

    counts : (t : Piece → Bool) → sum_by (weight t) parts ≡ sum_by (weight t) (flat_map each_of dones)
    counts t =
        sum_by-IsPermutation (weight t) (flat_map each_of (made_by_commits ++ made_by_tail)) parts moved
        ∙ sum_flat each_of (weight t) (made_by_commits ++ made_by_tail)
        ∙ sym (sum_by-IsPermutation (λ d. sum_by (weight t) (each_of d)) (made_by_commits ++ made_by_tail) dones o.same)
        ∙ sym (sum_flat each_of (weight t) dones)

    in_dones : (p : Piece) → Among parts p → Among (flat_map each_of dones) p
    in_dones p among =
        let of = of_flat each_of (made_by_commits ++ made_by_tail) p (among_moved parts (flat_map each_of (made_by_commits ++ made_by_tail)) (IsPermutation-sym (flat_map each_of (made_by_commits ++ made_by_tail)) parts moved) p among) in
        in_flat each_of dones of.0 p (among_moved (made_by_commits ++ made_by_tail) dones o.same of.0 of.1) of.2

    are_of_dones : ArePiecesInOrder s.requests parts → parts ≡ pieces_of s.procs (length s.shards) s.requests s.opening dones
    are_of_dones order =
        same_order s.requests (flat_map each_of dones) parts rise order counts (λ p q in_p in_q same. one_level s.requests (flat_map each_of dones) rise p q in_p (in_dones q in_q) same)
        ∙ sym (dones_flat s.procs (length s.shards) s.requests s.opening dones ids)

pub pieces_are_of_dones : ClosedIsLawful → InEachExecution CommitsAreSerial → InEachExecution OutcomesAreEpochs → InEachExecution WritesAreRuns → InEachExecution TailWritesAreRuns → AtEachEnd PiecesAreOfDones
pieces_are_of_dones law serial epochs runs tail_runs s slots journals machines start ended dones all distinct parts given order =
    are_of_dones law serial epochs runs tail_runs s slots journals machines start ended dones all distinct parts given order
