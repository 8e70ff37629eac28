-- A script that ended in a conflict has the step that shows why, and so has the journal of the key's shard.
use Rattle.std.proofs.Common.{◌≡◌, ◌⊎◌, inl, inr, ℕ, Bool, true, false, cond, eqb, leb, List, [], ◌∷◌, ◌++◌, map, Option, None, Some, refl, sym, ap, ◌∙◌, subst}
use Rattle.std.specs.Prelude.{◌≢◌}
use Rattle.std.proofs.lemmas.Bool.{eq-eqb}
use Rattle.std.specs.Option.{option_or}
use Rattle.std.specs.List.{filter, find}
use Rattle.coco_types.proofs.Keys.{is_key, one_key, key_itself}
use Rattle.coco_types.specs.Limits.{most_time}
use Rattle.coco_types.specs.RowKey.{RowKey}
use Rattle.coco_types.specs.declared.call.AttemptId.{AttemptId}
use Rattle.coco_types.specs.declared.call.Reply.{Reply}
use Rattle.coco_types.specs.declared.call.Write.{Write}
use Rattle.coco_ast.specs.Meaning.{run}
use Rattle.coco_shard.specs.declared.ops.Op.{Op}
use Rattle.coco_shard.specs.declared.ops.Op.TheVariants.{Lock, Extend}
use Rattle.coco_shard.specs.declared.ops.Answer.{Answer}
use Rattle.coco_shard.specs.declared.ops.Answer.TheVariants.{Got, Locked, Marked, Changed, Extended, Installed, Released, NotMine, Stood}
use Rattle.coco_shard.specs.Table.{key_of, unless_marked, is_mark_of}
use Rattle.coco_shard.specs.Law.{Entry}
use Rattle.coco_occ.specs.Exchange.{Exchange, Found, ops_of, read, read_of, conflict_of, changed_since, MayAnswer}
use Rattle.coco_occ.specs.Script.{AskedUpTo, IsAsked, IsTry, time_of, needs_extension, extension, extensions_due, outcome_of}
use Rattle.coco_occ.specs.declared.outcome.Outcome.{Outcome}
use Rattle.coco_occ.specs.declared.outcome.Outcome.TheVariants.{Committed, Conflict, OverTime}
use Rattle.coco_occ.specs.declared.outcome.Tried.{Tried}
use Rattle.coco_occ.specs.declared.outcome.Why.{Why}
use Rattle.coco_occ.specs.declared.outcome.Why.TheVariants as why
use Rattle.coco_order.specs.OneKey.{Among, is_attempt, own, on}
use Rattle.coco_order.specs.Execution.{Beginning, Execution, IsTried, IsExecution, concat, is_conflict, journal_on}
use Rattle.coco_order.specs.Conflicts.{InOrder, Finds, ShowsMark, ShowsChange, ShowsWhy, ShowsConflict}
use Rattle.coco_order.proofs.Attempts.{by_bool, not_both, attempt_itself, none_some, same_some, Among-left, Among-right}
use Rattle.coco_order.proofs.Acts.{in_transcript}
use Rattle.coco_order.proofs.CommitReads.{among_map, map_among, among_filter, filter_among, script_among}
use Rattle.coco_order.proofs.Orderly.{sent, tried_answered, tried_entries}
use Rattle.coco_order.proofs.Passes.{all_among, script_steps}
use Rattle.coco_order.proofs.Shapes.{keyed, exchange}
use Rattle.coco_order.proofs.Tidying.{entry_by}

-- ---- items in order

order_across : {X : Type 0} (xs ys : List X) (x y : X) → Among xs x → Among ys y → InOrder (xs ++ ys) x y
order_across [] ys x y h g = absurd h
order_across (z ∷ xs) ys x y (inl same) g = inl (same, Among-right xs ys y g)
order_across (z ∷ xs) ys x y (inr more) g = inr (order_across xs ys x y more g)

order_map : {X Y : Type 0} (f : X → Y) (xs : List X) (x y : X) → InOrder xs x y → InOrder (map f xs) (f x) (f y)
order_map f [] x y h = absurd h
order_map f (z ∷ xs) x y (inl here) = inl (ap f here.0, among_map f xs y here.1)
order_map f (z ∷ xs) x y (inr more) = inr (order_map f xs x y more)

order_kept : {X : Type 0} (p : X → Bool) (xs : List X) (x y : X) → InOrder xs x y → p x ≡ true → p y ≡ true → InOrder (filter p xs) x y
order_kept p [] x y h t u = absurd h
order_kept p (z ∷ xs) x y (inl here) t u = subst (λ (b : Bool). InOrder (cond b (z ∷ filter p xs) (filter p xs)) x y) (sym (ap p here.0 ∙ t)) (inl (here.0, filter_among p xs y here.1 u))
order_kept p (z ∷ xs) x y (inr more) t u = by_bool (λ b. InOrder (cond b (z ∷ filter p xs) (filter p xs)) x y) (p z) (λ _. inr (order_kept p xs x y more t u)) (λ _. order_kept p xs x y more t u)

kept_order : {X : Type 0} (p : X → Bool) (xs : List X) (x y : X) → InOrder (filter p xs) x y → InOrder xs x y
kept_order p [] x y h = absurd h
kept_order p (z ∷ xs) x y h =
    by_bool (λ b. InOrder (cond b (z ∷ filter p xs) (filter p xs)) x y → InOrder (z ∷ xs) x y) (p z)
    (λ _ g. elim g [ inl here ↦ inl (here.0, (among_filter p xs y here.1).0) | inr more ↦ inr (kept_order p xs x y more) ])
    (λ _ g. inr (kept_order p xs x y g)) h

find_among : {X : Type 0} (p : X → Bool) (xs : List X) (x : X) → find p xs ≡ Some x → Among xs x × (p x ≡ true)
find_among p [] x h = absurd (none_some h)
find_among p (y ∷ xs) x h =
    by_bool (λ b. p y ≡ b → cond b (Some y) (find p xs) ≡ Some x → Among (y ∷ xs) x × (p x ≡ true)) (p y)
    (λ _ t g. (inl (same_some g), sym (ap p (same_some g)) ∙ t))
    (λ _ _ g. (let rest = find_among p xs x g in (inr rest.0, rest.1))) refl h

-- ---- an answer that conflicts

-- of a lock: another's mark, or another write time than that of the read
abbrev LockConflicts : List Found → RowKey → Answer → Why → Type 0
LockConflicts reads key answer reason =
    ((holder : AttemptId) × (answer ≡ Marked holder) × (reason ≡ why.Marked key holder))
    ⊎ ((f : Found) × (found : ℕ) × (rts : ℕ) × Among reads f × (key ≡ f.key) × (answer ≡ Locked found rts) × (found ≢ f.wts) × (reason ≡ why.Changed key f.wts found))

lock_conflicts : (reads : List Found) (key : RowKey) (answer : Answer) (reason : Why) → conflict_of reads (exchange (Lock key) answer) ≡ Some reason → LockConflicts reads key answer reason
lock_conflicts reads key (Marked holder) reason h = inl (holder, refl, sym (same_some h))
lock_conflicts reads key (Locked wts rts) reason h = from (read_of reads key) refl h
  where
    from : (o : Option Found) → read_of reads key ≡ o → changed_since o key wts ≡ Some reason → LockConflicts reads key (Locked wts rts) reason
    from None is g = absurd (none_some g)
    from (Some f) is g =
        let there = find_among (λ (d : Found). is_key key d.key) reads f is in
        by_bool (λ b. eqb wts f.wts ≡ b → cond b None (Some (why.Changed key f.wts wts)) ≡ Some reason → LockConflicts reads key (Locked wts rts) reason) (eqb wts f.wts)
        (λ _ _ u. absurd (none_some u))
        (λ _ other u. inr (f, wts, rts, there.0, one_key key f.key there.1, refl, (λ same. not_both (eqb wts f.wts) (eq-eqb wts f.wts same) other), sym (same_some u))) refl g
lock_conflicts reads key (Got wts rts value) reason h = absurd (none_some h)
lock_conflicts reads key (Changed wts) reason h = absurd (none_some h)
lock_conflicts reads key Extended reason h = absurd (none_some h)
lock_conflicts reads key Installed reason h = absurd (none_some h)
lock_conflicts reads key Released reason h = absurd (none_some h)
lock_conflicts reads key (NotMine mark) reason h = absurd (none_some h)
lock_conflicts reads key (Stood value) reason h = absurd (none_some h)

-- of an extension: another's mark, or another write time than that of the version
abbrev ExtensionConflicts : RowKey → ℕ → Answer → Why → Type 0
ExtensionConflicts key wts answer reason =
    ((holder : AttemptId) × (answer ≡ Marked holder) × (reason ≡ why.Marked key holder))
    ⊎ ((found : ℕ) × (answer ≡ Changed found) × (reason ≡ why.Changed key wts found))

extension_conflicts : (reads : List Found) (key : RowKey) (wts time : ℕ) (answer : Answer) (reason : Why) → conflict_of reads (exchange (Extend key wts time) answer) ≡ Some reason → ExtensionConflicts key wts answer reason
extension_conflicts reads key wts time (Marked holder) reason h = inl (holder, refl, sym (same_some h))
extension_conflicts reads key wts time (Changed found) reason h = inr (found, refl, sym (same_some h))
extension_conflicts reads key wts time (Got n m value) reason h = absurd (none_some h)
extension_conflicts reads key wts time (Locked n m) reason h = absurd (none_some h)
extension_conflicts reads key wts time Extended reason h = absurd (none_some h)
extension_conflicts reads key wts time Installed reason h = absurd (none_some h)
extension_conflicts reads key wts time Released reason h = absurd (none_some h)
extension_conflicts reads key wts time (NotMine mark) reason h = absurd (none_some h)
extension_conflicts reads key wts time (Stood value) reason h = absurd (none_some h)

another_holder : (by : AttemptId) (mark : Option AttemptId) (answer : Answer) (holder : AttemptId) → (Marked holder ≡ answer → ⊥) → Marked holder ≡ unless_marked mark by answer → holder ≢ by
another_holder by None answer holder isn't h same = isn't h
another_holder by (Some a) answer holder isn't h same =
    by_bool (λ b. is_mark_of by (Some a) ≡ b → Marked holder ≡ cond b answer (Marked a) → ⊥) (is_mark_of by (Some a))
    (λ _ _ g. isn't g)
    (λ _ other g. (let one : holder ≡ a = cc in not_both (is_attempt a by) (subst (λ (c : AttemptId). is_attempt c by ≡ true) (sym same ∙ one) (attempt_itself by)) other)) refl h

lock_marked : (by : AttemptId) (key : RowKey) (holder : AttemptId) → MayAnswer (record { by = by; op = Lock key }) (Marked holder) → holder ≢ by
lock_marked by key holder may = another_holder by may.0.mark (Locked may.0.wts may.0.rts) holder apart may.1
  where
    apart : Marked holder ≡ Locked may.0.wts may.0.rts → ⊥
    apart h = cc

extension_marked : (by : AttemptId) (key : RowKey) (wts time : ℕ) (holder : AttemptId) → MayAnswer (record { by = by; op = Extend key wts time }) (Marked holder) → holder ≢ by
extension_marked by key wts time holder may =
    by_bool (λ b. Marked holder ≡ cond b (unless_marked may.0.mark by Extended) (Changed may.0.wts) → holder ≢ by) (eqb may.0.wts wts)
    (λ _ g. another_holder by may.0.mark Extended holder apart g)
    (λ _ g. absurd (unlike g)) may.1
  where
    apart : Marked holder ≡ Extended → ⊥
    apart h = cc

    unlike : Marked holder ≡ Changed may.0.wts → ⊥
    unlike h = cc

extension_changed : (by : AttemptId) (key : RowKey) (wts time found : ℕ) → MayAnswer (record { by = by; op = Extend key wts time }) (Changed found) → found ≢ wts
extension_changed by key wts time found may same =
    by_bool (λ b. eqb may.0.wts wts ≡ b → Changed found ≡ cond b (unless_marked may.0.mark by Extended) (Changed may.0.wts) → ⊥) (eqb may.0.wts wts)
    (λ _ _ g. never may.0.mark g)
    (λ _ other g. (let one : found ≡ may.0.wts = cc in not_both (eqb may.0.wts wts) (eq-eqb may.0.wts wts (sym one ∙ same)) other)) refl may.1
  where
    never : (mark : Option AttemptId) → Changed found ≡ unless_marked mark by Extended → ⊥
    never None h = cc
    never (Some a) h = by_bool (λ b. Changed found ≡ cond b Extended (Marked a) → ⊥) (is_mark_of by (Some a)) (λ _ g. cc) (λ _ g. cc) h

-- ---- a try that conflicted

last_asked : (conflict_of : Exchange → Option Why) (ops : List Op) (asked : List Exchange) (reason : Why) → AskedUpTo conflict_of ops asked (Some reason) → (e : Exchange) × Among asked e × Among ops e.op × (conflict_of e ≡ Some reason)
last_asked c ops asked reason to =
    let there : Among asked to.last = subst (λ (es : List Exchange). Among es to.last) (sym to.asked_is) (Among-right to.before (to.last ∷ []) to.last (inl refl)) in (
      to.last,
      there,
      subst (λ (os : List Op). Among os to.last.op) (sym to.first) (Among-left (ops_of asked) to.unasked to.last.op (among_map (λ (e : Exchange). e.op) asked to.last there)),
      to.conflicts,
    )

due_read : (locked : Option Why) (time : ℕ) (writes : List Write) (reads : List Found) (op : Op) → Among (extensions_due locked time writes reads) op → (f : Found) × Among reads f × (extension time f ≡ op)
due_read (Some reason) time writes reads op h = absurd h
due_read None time writes reads op h =
    by_bool (λ b. Among (cond b (map (extension time) (filter (needs_extension time writes) reads)) []) op → (f : Found) × Among reads f × (extension time f ≡ op)) (leb time most_time)
    (λ _ g. (let found = map_among (extension time) (filter (needs_extension time writes) reads) op g in (found.0, (among_filter (needs_extension time writes) reads found.0 found.1).0, found.2)))
    (λ _ g. absurd g) h

which_conflict : (locking extending : Option Why) (time : ℕ) (reply : Reply) (reason : Why) → Conflict reason ≡ outcome_of (option_or locking extending) time reply → (locking ≡ Some reason) ⊎ (extending ≡ Some reason)
which_conflict (Some r) extending time reply reason h = inl (let same : reason ≡ r = cc in ap Some (sym same))
which_conflict None (Some r) time reply reason h = inr (let same : reason ≡ r = cc in ap Some (sym same))
which_conflict None None time reply reason h = absurd (by_bool (λ b. Conflict reason ≡ cond b (Committed time reply) OverTime → ⊥) (leb time most_time) (λ _ g. cc) (λ _ g. cc) h)

-- ---- of an execution

module _ (b : Beginning) (x : Execution) (is : IsExecution b x) (t : Tried) (tried : IsTried b t) (among : Among (concat x.transcripts) t) where
  abbrev asked : List Exchange
  asked = tried.script.asked

  may : (e : Exchange) → Among asked e → MayAnswer (record { by = t.by; op = e.op }) e.answer
  may e in_asked = all_among (λ (d : Exchange). MayAnswer (record { by = t.by; op = d.op }) d.answer) asked e (tried_answered b t tried) in_asked

  step_stands : (key : RowKey) (e : Exchange) → Among asked e → key_of e.op ≡ key → Among (journal_on b x key) (entry_by t.by e)
  step_stands key e in_asked on_key =
      let here : is_key key (key_of e.op) ≡ true = ap (is_key key) on_key ∙ key_itself key in
      (among_filter (λ (d : Entry). is_key key (key_of d.ask.op)) (journal_on b x key) (entry_by t.by e)
      (script_among b x is t tried key among e (filter_among (λ (d : Exchange). is_key key (key_of d.op)) asked e in_asked here))).0

  steps_stand : (key : RowKey) (first other : Exchange) → InOrder asked first other → key_of first.op ≡ key → key_of other.op ≡ key → InOrder (journal_on b x key) (entry_by t.by first) (entry_by t.by other)
  steps_stand key first other order on_key also =
      let place = in_transcript b x is t among in
      let steps = script_steps b x is (sent b x is) key place.0 t place.1 place.2 ∙ tried_entries b t tried key in
      let in_keyed : InOrder (keyed key asked) first other =
      order_kept (λ (e : Exchange). is_key key (key_of e.op)) asked first other order (ap (is_key key) on_key ∙ key_itself key) (ap (is_key key) also ∙ key_itself key) in
      let in_own : InOrder (own t.by (on key (journal_on b x key))) (entry_by t.by first) (entry_by t.by other) =
      subst (λ (es : List Entry). InOrder es (entry_by t.by first) (entry_by t.by other)) (sym steps) (order_map (entry_by t.by) (keyed key asked) first other in_keyed) in
      kept_order (λ (e : Entry). is_key key (key_of e.ask.op)) (journal_on b x key) (entry_by t.by first) (entry_by t.by other)
      (kept_order (λ (e : Entry). is_attempt e.ask.by t.by) (on key (journal_on b x key)) (entry_by t.by first) (entry_by t.by other) in_own)

  -- what a try read, locked and extended stands so among what it asked
  read_first : (outcome : Outcome) (s : IsTry (run b.procs tried.request.call tried.script.rows) tried.script.rows asked outcome) (f : Found) (e : Exchange) → Among s.reads f → (Among s.locks e ⊎ Among s.extensions e) → InOrder asked (read f) e
  read_first outcome s f e in_reads in_it =
      subst (λ (es : List Exchange). InOrder es (read f) e) (sym s.parts)
      (order_left ((map read s.reads ++ s.locks) ++ s.extensions) s.ends (read f) e (elim in_it [
        | inl lock ↦ order_left (map read s.reads ++ s.locks) s.extensions (read f) e (order_across (map read s.reads) s.locks (read f) e (among_map read s.reads f in_reads) lock)
        | inr extended ↦ order_across (map read s.reads ++ s.locks) s.extensions (read f) e (Among-left (map read s.reads) s.locks (read f) (among_map read s.reads f in_reads)) extended
      ]))
    where
      order_left : (xs ys : List Exchange) (d e : Exchange) → InOrder xs d e → InOrder (xs ++ ys) d e
      order_left [] ys d e h = absurd h
      order_left (z ∷ xs) ys d e (inl here) = inl (here.0, Among-left xs ys e here.1)
      order_left (z ∷ xs) ys d e (inr more) = inr (order_left xs ys d e more)

  lock_asked : (outcome : Outcome) (s : IsTry (run b.procs tried.request.call tried.script.rows) tried.script.rows asked outcome) (e : Exchange) → Among s.locks e → Among asked e
  lock_asked outcome s e h =
      subst (λ (es : List Exchange). Among es e) (sym s.parts)
      (Among-left ((map read s.reads ++ s.locks) ++ s.extensions) s.ends e (Among-left (map read s.reads ++ s.locks) s.extensions e (Among-right (map read s.reads) s.locks e h)))

  extension_asked : (outcome : Outcome) (s : IsTry (run b.procs tried.request.call tried.script.rows) tried.script.rows asked outcome) (e : Exchange) → Among s.extensions e → Among asked e
  extension_asked outcome s e h =
      subst (λ (es : List Exchange). Among es e) (sym s.parts)
      (Among-left ((map read s.reads ++ s.locks) ++ s.extensions) s.ends e (Among-right (map read s.reads ++ s.locks) s.extensions e h))

  mark_shown : (key : RowKey) (holder : AttemptId) (op : Op) → (op ≡ Lock key) ⊎ ((wts : ℕ) × (time : ℕ) × (op ≡ Extend key wts time)) → key_of op ≡ key → Among asked (exchange op (Marked holder)) → holder ≢ t.by → ShowsMark b x t.by key holder
  mark_shown key holder op kind on_key in_asked another = record { op = op; asked = kind; stands = step_stands key (exchange op (Marked holder)) in_asked on_key; another = another }

  change_shown : (f : Found) (found : ℕ) (op : Op) (answer : Answer) → Finds f.key f.wts found op answer → key_of op ≡ f.key → InOrder asked (read f) (exchange op answer) → found ≢ f.wts → ShowsChange b x t.by f.key f.wts found
  change_shown f found op answer finds on_key order another =
      record { rts = f.rts; value = f.value; op = op; answer = answer; finds = finds; stand = steps_stand f.key (read f) (exchange op answer) order refl on_key; another = another }

  module _ (outcome : Outcome) (s : IsTry (run b.procs tried.request.call tried.script.rows) tried.script.rows asked outcome) (reason : Why) where
    -- the lock that conflicted
    by_lock : (key : RowKey) (answer : Answer) → Among s.locks (exchange (Lock key) answer) → conflict_of s.reads (exchange (Lock key) answer) ≡ Some reason → ShowsWhy b x t.by reason
    by_lock key answer in_locks conflicts = elim (lock_conflicts s.reads key answer reason conflicts) [
      | inl marked ↦
          let there : Among s.locks (exchange (Lock key) (Marked marked.0)) = subst (λ (a : Answer). Among s.locks (exchange (Lock key) a)) marked.1 in_locks in
          let there_asked = lock_asked outcome s (exchange (Lock key) (Marked marked.0)) there in
          subst (ShowsWhy b x t.by) (sym marked.2) (mark_shown key marked.0 (Lock key) (inl refl) refl there_asked (lock_marked t.by key marked.0 (may (exchange (Lock key) (Marked marked.0)) there_asked)))
      | inr changed ↦
          let f : Found = changed.0 in
          let there : Among s.locks (exchange (Lock f.key) (Locked changed.1 changed.2)) =
          subst (λ (k : RowKey). Among s.locks (exchange (Lock k) (Locked changed.1 changed.2))) changed.4 (subst (λ (a : Answer). Among s.locks (exchange (Lock key) a)) changed.5 in_locks) in
          subst (ShowsWhy b x t.by) (sym (changed.7 ∙ ap (λ (k : RowKey). why.Changed k f.wts changed.1) changed.4))
          (change_shown f changed.1 (Lock f.key) (Locked changed.1 changed.2) (inl (changed.2, refl, refl)) refl (read_first outcome s f (exchange (Lock f.key) (Locked changed.1 changed.2)) changed.3 (inl there)) changed.6)
    ]

    -- the extension that conflicted
    by_extension : (f : Found) (time : ℕ) (answer : Answer) → Among s.reads f → Among s.extensions (exchange (extension time f) answer) → conflict_of s.reads (exchange (extension time f) answer) ≡ Some reason → ShowsWhy b x t.by reason
    by_extension f time answer in_reads in_extensions conflicts = elim (extension_conflicts s.reads f.key f.wts time answer reason conflicts) [
      | inl marked ↦
          let there : Among s.extensions (exchange (extension time f) (Marked marked.0)) = subst (λ (a : Answer). Among s.extensions (exchange (extension time f) a)) marked.1 in_extensions in
          let there_asked = extension_asked outcome s (exchange (extension time f) (Marked marked.0)) there in
          subst (ShowsWhy b x t.by) (sym marked.2)
          (mark_shown f.key marked.0 (extension time f) (inr (f.wts, time, refl)) refl there_asked (extension_marked t.by f.key f.wts time marked.0 (may (exchange (extension time f) (Marked marked.0)) there_asked)))
      | inr changed ↦
          let there : Among s.extensions (exchange (extension time f) (Changed changed.0)) = subst (λ (a : Answer). Among s.extensions (exchange (extension time f) a)) changed.1 in_extensions in
          let there_asked = extension_asked outcome s (exchange (extension time f) (Changed changed.0)) there in
          subst (ShowsWhy b x t.by) (sym changed.2)
          (change_shown f changed.0 (extension time f) (Changed changed.0) (inr (time, refl, refl)) refl (read_first outcome s f (exchange (extension time f) (Changed changed.0)) in_reads (inr there))
          (extension_changed t.by f.key f.wts time changed.0 (may (exchange (extension time f) (Changed changed.0)) there_asked)))
    ]

    try_shows : Conflict reason ≡ outcome → ShowsWhy b x t.by reason
    try_shows is = elim (which_conflict s.locking_conflict s.extending_conflict (time_of s.reads s.locks) (run b.procs tried.request.call tried.script.rows).reply reason (is ∙ s.outcome_is)) [
      | inl locking ↦
          let ops : List Op = map (λ (w : Write). Lock w.key) (run b.procs tried.request.call tried.script.rows).writes in
          let last = last_asked (conflict_of s.reads) ops s.locks reason (subst (AskedUpTo (conflict_of s.reads) ops s.locks) locking s.locking) in
          let w = map_among (λ (w : Write). Lock w.key) (run b.procs tried.request.call tried.script.rows).writes last.0.op last.2 in
          by_lock w.0.key last.0.answer
          (subst (λ (o : Op). Among s.locks (exchange o last.0.answer)) (sym w.2) last.1)
          (subst (λ (o : Op). conflict_of s.reads (exchange o last.0.answer) ≡ Some reason) (sym w.2) last.3)
      | inr extending ↦
          let time : ℕ = time_of s.reads s.locks in
          let ops : List Op = extensions_due s.locking_conflict time (run b.procs tried.request.call tried.script.rows).writes s.reads in
          let last = last_asked (conflict_of s.reads) ops s.extensions reason (subst (AskedUpTo (conflict_of s.reads) ops s.extensions) extending s.extending) in
          let f = due_read s.locking_conflict time (run b.procs tried.request.call tried.script.rows).writes s.reads last.0.op last.2 in
          by_extension f.0 time last.0.answer f.1
          (subst (λ (o : Op). Among s.extensions (exchange o last.0.answer)) (sym f.2) last.1)
          (subst (λ (o : Op). conflict_of s.reads (exchange o last.0.answer) ≡ Some reason) (sym f.2) last.3)
    ]

  -- a conflict is shown
  pub conflict_shown : is_conflict t.outcome ≡ true → ShowsConflict b x t
  conflict_shown conflict = from t.outcome refl conflict
    where
      course : (snapshot : Bool) (outcome : Outcome) (reason : Why) → Conflict reason ≡ outcome → IsAsked snapshot (run b.procs tried.request.call tried.script.rows) tried.script.rows asked outcome → ShowsWhy b x t.by reason
      course true outcome reason is s = absurd (apart (is ∙ s.outcome_is))
        where
          apart : Conflict reason ≡ Committed 0 (run b.procs tried.request.call tried.script.rows).reply → ⊥
          apart h = cc
      course false outcome reason is s = try_shows outcome s reason is

      from : (outcome : Outcome) → t.outcome ≡ outcome → is_conflict outcome ≡ true → ShowsConflict b x t
      from (Conflict reason) is c = record { reason = reason; outcome_is = is; shown = course tried.request.call.snapshot t.outcome reason (sym is) tried.script.course }
      from (Committed time reply) is c = absurd (let h : false ≡ true = c in cc)
      from OverTime is c = absurd (let h : false ≡ true = c in cc)
