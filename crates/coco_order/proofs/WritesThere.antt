-- What a script that committed wrote is what its call's run writes at the place of its Done.
use Rattle.std.proofs.Common.{◌≡◌, inl, inr, ℕ, zero, suc, ◌+◌, ◌<◌, true, false, cond, eqb, List, [], ◌∷◌, ◌++◌, map, length, Option, Some, refl, sym, ap, ◌∙◌, subst, arith}
use Rattle.std.proofs.lemmas.Bool.{eq-eqb}
use Rattle.std.specs.List.{filter, slice_get, AllByRecursion, IsDistinct}
use Rattle.coco_types.specs.declared.call.Reply.{Reply}
use Rattle.coco_types.specs.declared.call.Request.{Request}
use Rattle.coco_types.specs.declared.call.Done.{Done}
use Rattle.coco_ast.specs.Tree.{Procedures}
use Rattle.coco_ast.specs.Keyed.{Rows}
use Rattle.coco_ast.specs.Meaning.{run}
use Rattle.coco_ast.specs.History.{rows_after}
use Rattle.coco_occ.specs.declared.outcome.Outcome.{Outcome}
use Rattle.coco_occ.specs.declared.outcome.Outcome.TheVariants.{Committed, Conflict, OverTime}
use Rattle.coco_occ.specs.declared.outcome.Tried.{Tried}
use Rattle.coco_order.specs.OneKey.{Among}
use Rattle.coco_order.specs.Execution.{Beginning, Execution, IsTried, Tries, AreTries, all_tries, concat_tries, how_many_at, is_conflict, IsExecution, concat}
use Rattle.coco_order.specs.Outcome.{IsOutcome, done_of, commit_of, is_commit, is_committed, uncommitted, tail_requests, tail_rows}
use Rattle.coco_order.specs.Laws.{TailWritesAreRuns, WritesAreRuns}
use Rattle.coco_order.proofs.Attempts.{by_bool, not_both, none_some, same_some, Among-append, Among-left, Among-right}
use Rattle.coco_order.proofs.Passes.{all_among}
use Rattle.coco_order.proofs.Acts.{act, Committing, act_from, all_tried}
use Rattle.coco_order.proofs.CommitReads.{filter_among}
use Rattle.coco_order.proofs.Serial.{Act, dones, seeing, IsRight, WriteThere}
use Rattle.coco_order.proofs.Tail.{right_again, tail_act, tail_acts, tail_one, after_request, all_of_tries, committed_at, get_short, commits_of, tail_of, whole, whole_right, commit_right, InOrder, in_order}

-- ---- the act of a Done

module _ (ps : Procedures) (opening : Rows) where
  pub record Placed (all : List Act) (m : Rows) (acts : List Act) (before : List Done) (d : Done) : Type 0 where
    pub a : Act
    pub among : Among acts a
    pub done_is : a.done ≡ d
    pub writes : (seen : Rows) → IsRight ps opening all (seeing a seen) → (run ps d.call seen).writes ≡ (run ps d.call (rows_after ps m before)).writes

  placed : (all : List Act) (m : Rows) (acts : List Act) → WriteThere ps opening all m acts → (before behind : List Done) (d : Done) → dones acts ≡ before ++ d ∷ behind → Placed all m acts before d
  placed all m [] there [] behind d split = absurd (empty split)
    where
      empty : [] ≡ d ∷ behind → ⊥
      empty h = cc
  placed all m [] there (e ∷ before) behind d split = absurd (empty split)
    where
      empty : [] ≡ e ∷ (before ++ d ∷ behind) → ⊥
      empty h = cc
  placed all m (a ∷ acts) there [] behind d split =
      let here : a.done ≡ d = cc in
      record {
        a = a;
        among = inl refl;
        done_is = here;
        writes = λ seen right. subst (λ (e : Done). (run ps e.call seen).writes ≡ (run ps e.call m).writes) here (there.0 seen right);
      }
  placed all m (a ∷ acts) there (e ∷ before) behind d split =
      let first : a.done ≡ e = cc in
      let more : dones acts ≡ before ++ d ∷ behind = cc in
      let rest : Placed all (run ps a.done.call m).rows acts before d = placed all (run ps a.done.call m).rows acts there.1 before behind d more in
      record {
        a = rest.a;
        among = inr rest.among;
        done_is = rest.done_is;
        writes = λ seen right. rest.writes seen right ∙ ap (λ (f : Done). (run ps d.call (rows_after ps (run ps f.call m).rows before)).writes) first;
      }

-- ---- one request of an id, and one script of a request that committed

other_ids : (n : ℕ) (rs : List Request) → AllByRecursion (λ i. eqb n i ≡ false) (map (λ (r : Request). r.id) rs) → (j : ℕ) (r : Request) → slice_get rs j ≡ Some r → n ≡ r.id → ⊥
other_ids n [] others j r at same = none_some at
other_ids n (q ∷ rs) others zero r at same = not_both (eqb n q.id) (eq-eqb n q.id (same ∙ sym (ap (λ (z : Request). z.id) (same_some at)))) others.0
other_ids n (q ∷ rs) others (suc j) r at same = other_ids n rs others.1 j r at same

one_place : (rs : List Request) → IsDistinct eqb (map (λ (r : Request). r.id) rs) → (i j : ℕ) (r q : Request) → slice_get rs i ≡ Some r → slice_get rs j ≡ Some q → r.id ≡ q.id → i ≡ j
unfolding IsDistinct
one_place [] distinct i j r q at_i at_j same = absurd (none_some at_i)
one_place (s ∷ rs) distinct zero zero r q at_i at_j same = refl
one_place (s ∷ rs) distinct zero (suc j) r q at_i at_j same = absurd (other_ids s.id rs distinct.0 j q at_j (ap (λ (z : Request). z.id) (same_some at_i) ∙ same))
one_place (s ∷ rs) distinct (suc i) zero r q at_i at_j same = absurd (other_ids s.id rs distinct.0 i r at_i (ap (λ (z : Request). z.id) (same_some at_j) ∙ sym same))
one_place (s ∷ rs) distinct (suc i) (suc j) r q at_i at_j same = ap suc (one_place rs distinct.1 i j r q at_i at_j same)

one_of : {X : Type 0} (xs : List X) (x y : X) → length xs ≡ 1 → Among xs x → Among xs y → x ≡ y
one_of [] x y one in_x in_y = absurd in_x
one_of (z ∷ []) x y one (inl p) (inl q) = sym p ∙ q
one_of (z ∷ []) x y one (inl p) (inr q) = absurd q
one_of (z ∷ []) x y one (inr p) in_y = absurd p
one_of (z ∷ w ∷ xs) x y one in_x in_y = absurd (omega arith)

one_at : (place : ℕ) (rs : List Tries) (r q : Tries) → how_many_at place rs ≡ 1 → Among rs r → Among rs q → r.place ≡ place → q.place ≡ place → r ≡ q
one_at place rs r q one in_r in_q at_r at_q =
    let kept = λ (s : Tries) (among : Among rs s) (at : s.place ≡ place). filter_among (λ (z : Tries). eqb z.place place) rs s among (eq-eqb s.place place at) in
    one_of (filter (λ (z : Tries). eqb z.place place) rs) r q one (kept r in_r at_r) (kept q in_q at_q)

tries_of : (rs : List Tries) (t : Tried) → Among (concat_tries rs) t → (r : Tries) × Among rs r × Among (all_tries r) t
tries_of [] t h = absurd h
tries_of (r ∷ rs) t h = elim (Among-append (all_tries r) (concat_tries rs) t h) [
  | inl here ↦ (r, inl refl, here)
  | inr more ↦ (let rest = tries_of rs t more in (rest.0, inr rest.1, rest.2))
]

all_tries_of : (rss : List (List Tries)) (t : Tried) → Among (concat (map concat_tries rss)) t → (r : Tries) × Among (concat rss) r × Among (all_tries r) t
all_tries_of [] t h = absurd h
all_tries_of (rs ∷ rss) t h = elim (Among-append (concat_tries rs) (concat (map concat_tries rss)) t h) [
  | inl here ↦ (let found = tries_of rs t here in (found.0, Among-left rs (concat rss) found.0 found.1, found.2))
  | inr more ↦ (let found = all_tries_of rss t more in (found.0, Among-right rs (concat rss) found.0 found.1, found.2))
]

is_last : (attempts : ℕ) (r : Tries) (t : Tried) → AreTries attempts r → Among (all_tries r) t → is_conflict t.outcome ≡ false → t ≡ r.last
is_last attempts r t are among ended = elim (Among-append r.conflicts (r.last ∷ []) t among) [
  | inl early ↦ absurd (not_both (is_conflict t.outcome) (all_among (λ (u : Tried). is_conflict u.outcome ≡ true) r.conflicts t are.conflicts early) ended)
  | inr (inl same) ↦ sym same
  | inr (inr more) ↦ absurd more
]

-- ---- requests of the tail

module _ (b : Beginning) (epoch : ℕ) where
  request_of : (rows : Rows) (time : ℕ) (rs : List Request) (c : Act) → Among (tail_acts b epoch rows time rs) c → (r : Request) × Among rs r × (r.id ≡ c.done.id)
  request_of rows time [] c h = absurd h
  request_of rows time (r ∷ rs) c (inl same) = (r, inl refl, ap (λ (z : Act). z.done.id) same)
  request_of rows time (r ∷ rs) c (inr more) = let rest = request_of (after_request b epoch rows r) (suc time) rs c more in (rest.0, inr rest.1, rest.2)

pub uncommitted_at : (x : Execution) (place : ℕ) (rs : List Request) (r : Request) → Among (uncommitted x place rs) r → (i : ℕ) × (slice_get rs i ≡ Some r) × (is_committed x (i + place) ≡ false)
uncommitted_at x place [] r h = absurd h
uncommitted_at x place (q ∷ rs) r h =
    by_bool (λ z. is_committed x place ≡ z → Among (cond z (uncommitted x (suc place) rs) (q ∷ uncommitted x (suc place) rs)) r → (i : ℕ) × (slice_get (q ∷ rs) i ≡ Some r) × (is_committed x (i + place) ≡ false)) (is_committed x place)
    (λ _ _ g. next (uncommitted_at x (suc place) rs r g))
    (λ _ none g. elim g [
      | inl same ↦ (0, ap Some same, ap (is_committed x) zero_on ∙ none)
      | inr more ↦ next (uncommitted_at x (suc place) rs r more)
    ]) refl h
  where
    zero_on : 0 + place ≡ place
    zero_on = omega arith

    shift : (i : ℕ) → suc i + place ≡ i + suc place
    shift i = omega arith

    next : (i : ℕ) × (slice_get rs i ≡ Some r) × (is_committed x (i + suc place) ≡ false) → (i : ℕ) × (slice_get (q ∷ rs) i ≡ Some r) × (is_committed x (i + place) ≡ false)
    next found = (suc found.0, found.1, ap (is_committed x) (shift found.0) ∙ found.2)

-- ---- commits

-- the Done of a script that committed
record Commits (b : Beginning) (epoch : ℕ) (t : Tried) (tried : IsTried b t) (d : Done) : Type 0 where
  pub time : ℕ
  pub reply : Reply
  pub outcome_is : t.outcome ≡ Committed time reply
  pub done_is : (act b epoch t tried time reply).done ≡ d

commits_with : (b : Beginning) (epoch : ℕ) (t : Tried) (tried : IsTried b t) (d : Done) → commit_of b epoch t ≡ Some d → Commits b epoch t tried d
commits_with b epoch t tried d is = from t.outcome refl (ap (λ (o : Option Request). done_of epoch o t.outcome) (sym tried.placed) ∙ is)
  where
    from : (o : Outcome) → t.outcome ≡ o → done_of epoch (Some tried.request) o ≡ Some d → Commits b epoch t tried d
    from (Committed time reply) out h = record { time = time; reply = reply; outcome_is = out; done_is = same_some h }
    from (Conflict why) out h = absurd (none_some h)
    from OverTime out h = absurd (none_some h)

module _ (b : Beginning) (x : Execution) (is : IsExecution b x) where
  tries_at : (t : Tried) → Among (concat x.transcripts) t → is_conflict t.outcome ≡ false → (r : Tries) × Among (concat is.worked_off.tries) r × (r.place ≡ t.place) × (t ≡ r.last)
  tries_at t among ended =
      let w = is.worked_off in
      let found = all_tries_of w.tries t (subst (λ (tss : List (List Tried)). Among (concat tss) t) w.transcripts_are among) in
      let are : AreTries b.attempts found.0 = all_of_tries b.attempts w.tries found.0 w.each found.1 in
      (found.0, found.1, sym (all_among (λ (u : Tried). u.place ≡ found.0.place) (all_tries found.0) t are.placed found.2), is_last b.attempts found.0 t are found.2 ended)

  -- two scripts of one request that ended without a conflict are one
  one_script : (t u : Tried) → Among (concat x.transcripts) t → Among (concat x.transcripts) u → t.place ≡ u.place → t.place < length b.requests → is_conflict t.outcome ≡ false → is_conflict u.outcome ≡ false → t ≡ u
  one_script t u in_t in_u same short ended_t ended_u =
      let of_t = tries_at t in_t ended_t in
      let of_u = tries_at u in_u ended_u in
      let one : of_t.0 ≡ of_u.0 = one_at t.place (concat is.worked_off.tries) of_t.0 of_u.0 (is.worked_off.once t.place short) of_t.1 of_u.1 of_t.2 (of_u.2 ∙ sym same) in
      of_t.3 ∙ ap (λ (r : Tries). r.last) one ∙ sym of_u.3

  module _ (distinct : IsDistinct eqb (map (λ (r : Request). r.id) b.requests)) (epoch : ℕ) (ds : List Done) (o : IsOutcome b epoch x ds)
      (t : Tried) (among : Among (concat x.transcripts) t) (tried : IsTried b t) (time : ℕ) (reply : Reply) (outcome_is : t.outcome ≡ Committed time reply) where
    -- an act with its Done is of its attempt
    by_is : (a : Act) → Among (whole b x is epoch ds o) a → a.done.id ≡ tried.request.id → a.by ≡ t.by
    by_is a in_whole same = elim (Among-append (commits_of b x is epoch ds o) (tail_of b x is epoch ds o) a in_whole) [ inl here ↦ committed (act_from b epoch (concat x.transcripts) (all_tried b x is) a here) | inr behind ↦ absurd (tail behind) ]
      where
        committed : Committing b epoch (concat x.transcripts) a → a.by ≡ t.by
        committed c =
            let place : c.t.place ≡ t.place = one_place b.requests distinct c.t.place t.place c.tried.request tried.request c.tried.placed tried.placed (sym (ap (λ (z : Act). z.done.id) c.act_is) ∙ same) in
            let one : c.t ≡ t = one_script c.t t c.among among place (get_short b.requests c.t.place c.tried.request c.tried.placed) (ap is_conflict c.outcome_is) (ap is_conflict outcome_is) in
            ap (λ (z : Act). z.by) c.act_is ∙ ap (λ (u : Tried). u.by) one

        tail : Among (tail_of b x is epoch ds o) a → ⊥
        tail behind =
            let asked = request_of b epoch o.rows o.most (tail_requests b x) a behind in
            let found = uncommitted_at x 0 b.requests asked.0 asked.1 in
            let place : t.place ≡ found.0 + 0 = one_place b.requests distinct t.place found.0 tried.request asked.0 tried.placed found.1 (sym same ∙ sym asked.2) ∙ more found.0 in
            not_both (is_committed x (found.0 + 0)) (committed_at (found.0 + 0) (concat x.transcripts) t among place (ap is_commit outcome_is)) found.2
          where
            more : (i : ℕ) → i ≡ i + 0
            more i = omega arith

    written_there : (before behind : List Done) (d : Done) → ds ≡ before ++ d ∷ behind → (act b epoch t tried time reply).done ≡ d
        → (run b.procs d.call tried.script.rows).writes ≡ (run b.procs d.call (rows_after b.procs b.opening before)).writes
    written_there before behind d split done_is =
        let l : InOrder b x is epoch ds o = in_order b x is epoch ds o in
        let p : Placed b.procs b.opening l.items b.opening l.items before d = placed b.procs b.opening l.items b.opening l.items l.serial.writes before behind d (l.are ∙ split) in
        let done : p.a.done ≡ (act b epoch t tried time reply).done = p.done_is ∙ sym done_is in
        let by : p.a.by ≡ t.by = by_is p.a (l.to p.a p.among) (ap (λ (e : Done). e.id) done) in
        let same : act b epoch t tried time reply ≡ seeing p.a tried.script.rows = λ i. record { by = sym by i; done = sym done i; seen = tried.script.rows } in
        let right : IsRight b.procs b.opening l.items (act b epoch t tried time reply) =
        right_again b.procs b.opening (whole b x is epoch ds o) l.items l.back l.to (act b epoch t tried time reply)
        (commit_right b x is epoch ds o (act b epoch t tried time reply) (record { t = t; among = among; tried = tried; time = time; reply = reply; outcome_is = outcome_is; act_is = refl })) in
        p.writes tried.script.rows (subst (IsRight b.procs b.opening l.items) same right)

pub writes_are_runs : (b : Beginning) (x : Execution) → IsExecution b x → WritesAreRuns b x
writes_are_runs b x is epoch ds o distinct before behind d split t among commits request writes placed_at script =
    let tried : IsTried b t = record { request = request; writes = writes; placed = placed_at; script = script } in
    let c : Commits b epoch t tried d = commits_with b epoch t tried d commits in
    script.writes_are
    ∙ ap (λ (e : Done). (run b.procs e.call script.rows).writes) c.done_is
    ∙ written_there b x is distinct epoch ds o t among tried c.time c.reply c.outcome_is before behind d split c.done_is

-- ---- the tail

module _ (b : Beginning) (epoch : ℕ) where
  tail_act_among : (rows : Rows) (time : ℕ) (first last : List Request) (r : Request) → Among (tail_acts b epoch rows time (first ++ r ∷ last)) (tail_act b epoch (tail_rows b.procs rows first) (time + length first) r)
  tail_act_among rows time [] last r = inl (ap (λ (n : ℕ). tail_act b epoch rows n r) (let h : time ≡ time + 0 = omega arith in h))
  tail_act_among rows time (q ∷ first) last r =
      inr (subst (λ (n : ℕ). Among (tail_acts b epoch (after_request b epoch rows q) (suc time) (first ++ r ∷ last)) (tail_act b epoch (tail_rows b.procs rows (q ∷ first)) n r)) (let h : suc time + length first ≡ time + suc (length first) = omega arith in h)
      (tail_act_among (after_request b epoch rows q) (suc time) first last r))

request_among : (first last : List Request) (r : Request) → Among (first ++ r ∷ last) r
request_among first last r = Among-right first (r ∷ last) r (inl refl)

module _ (b : Beginning) (x : Execution) (is : IsExecution b x) (distinct : IsDistinct eqb (map (λ (r : Request). r.id) b.requests)) (epoch : ℕ) (ds : List Done) (o : IsOutcome b epoch x ds)
    (first last : List Request) (r : Request) (split : tail_requests b x ≡ first ++ r ∷ last) where
  abbrev asked : Act
  asked = tail_act b epoch (tail_rows b.procs o.rows first) (o.most + length first) r

  asked_among : Among (tail_of b x is epoch ds o) asked
  asked_among = subst (λ (rs : List Request). Among (tail_acts b epoch o.rows o.most rs) asked) (sym split) (tail_act_among b epoch o.rows o.most first last r)

  -- no commit has the id of a request of the tail
  not_committed : (a : Act) → Committing b epoch (concat x.transcripts) a → a.done.id ≡ r.id → ⊥
  not_committed a c same =
      let found = uncommitted_at x 0 b.requests r (subst (λ (rs : List Request). Among rs r) (sym split) (request_among first last r)) in
      let place : c.t.place ≡ found.0 + 0 = one_place b.requests distinct c.t.place found.0 c.tried.request r c.tried.placed found.1 (sym (ap (λ (z : Act). z.done.id) c.act_is) ∙ same) ∙ more found.0 in
      not_both (is_committed x (found.0 + 0)) (committed_at (found.0 + 0) (concat x.transcripts) c.t c.among place (ap is_commit c.outcome_is)) found.2
    where
      more : (i : ℕ) → i ≡ i + 0
      more i = omega arith

  is_asked : (a : Act) → Among (whole b x is epoch ds o) a → a.done.id ≡ r.id → a.done.time ≡ suc (o.most + length first) → a ≡ asked
  is_asked a in_whole id time = elim (Among-append (commits_of b x is epoch ds o) (tail_of b x is epoch ds o) a in_whole) [
    | inl here ↦ absurd (not_committed a (act_from b epoch (concat x.transcripts) (all_tried b x is) a here) id)
    | inr behind ↦ tail_one b epoch o.rows o.most (tail_requests b x) a asked behind asked_among time
  ]

  tail_written : (before behind : List Done) (d : Done) → ds ≡ before ++ d ∷ behind → d.id ≡ r.id → d.time ≡ suc (o.most + length first)
      → (run b.procs r.call (tail_rows b.procs o.rows first)).writes ≡ (run b.procs d.call (rows_after b.procs b.opening before)).writes
  tail_written before behind d at id time =
      let l : InOrder b x is epoch ds o = in_order b x is epoch ds o in
      let p : Placed b.procs b.opening l.items b.opening l.items before d = placed b.procs b.opening l.items b.opening l.items l.serial.writes before behind d (l.are ∙ at) in
      let one : p.a ≡ asked = is_asked p.a (l.to p.a p.among) (ap (λ (e : Done). e.id) p.done_is ∙ id) (ap (λ (e : Done). e.time) p.done_is ∙ time) in
      let done : asked.done ≡ d = sym (ap (λ (a : Act). a.done) one) ∙ p.done_is in
      let right : IsRight b.procs b.opening l.items asked =
      right_again b.procs b.opening (whole b x is epoch ds o) l.items l.back l.to asked (whole_right b x is epoch ds o asked (Among-right (commits_of b x is epoch ds o) (tail_of b x is epoch ds o) asked asked_among)) in
      ap (λ (e : Done). (run b.procs e.call (tail_rows b.procs o.rows first)).writes) done
      ∙ p.writes (tail_rows b.procs o.rows first) (subst (λ (a : Act). IsRight b.procs b.opening l.items (seeing a (tail_rows b.procs o.rows first))) (sym one) right)

pub tail_writes_are_runs : (b : Beginning) (x : Execution) → IsExecution b x → TailWritesAreRuns b x
tail_writes_are_runs b x is epoch ds o distinct before behind d at first last r split id time = tail_written b x is distinct epoch ds o first last r split before behind d at id time
