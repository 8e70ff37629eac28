-- On each key a script is tidy; where it commits, what it read is validated, and what it installs are its writes.
use Rattle.std.proofs.Common.{◌≡◌, ◌⊎◌, inl, inr, ℕ, suc, ◌<◌, ◌≤◌, ◌==◌, Bool, true, false, not, ◌&&◌, ◌||◌, cond, eqb, ltb, leb, List, [], ◌∷◌, ◌++◌, map, Option, None, Some, refl, sym, ap, ◌∙◌, subst, arith, append_assoc}
use Rattle.std.proofs.lemmas.Bool.{eqb-true, ltb-true, ltb-false, leb-true}
use Rattle.std.specs.Option.{option_or}
use Rattle.std.specs.List.{filter, filter_map, find, list_any, AllByRecursion}
use Rattle.coco_types.proofs.Keys.{is_key, one_key, key_itself}
use Rattle.coco_types.specs.Limits.{most_time}
use Rattle.coco_types.specs.RowKey.{RowKey}
use Rattle.coco_types.specs.declared.value.Value.{Value}
use Rattle.coco_types.specs.declared.call.AttemptId.{AttemptId}
use Rattle.coco_types.specs.declared.call.Write.{Write}
use Rattle.coco_ast.specs.Keyed.{Rows}
use Rattle.coco_ast.specs.Meaning.{Run}
use Rattle.coco_shard.specs.declared.ops.Op.{Op}
use Rattle.coco_shard.specs.declared.ops.Op.TheVariants.{Read, Lock, Extend, Install, Release, Past}
use Rattle.coco_shard.specs.declared.ops.Answer.{Answer}
use Rattle.coco_shard.specs.declared.ops.Answer.TheVariants.{Got, Locked, Marked, Changed, Extended, Installed, Released, NotMine, Stood}
use Rattle.coco_shard.specs.Table.{key_of, unless_marked, is_mark_of}
use Rattle.coco_shard.specs.Law.{Entry}
use Rattle.coco_occ.specs.Exchange.{Exchange, Found, ops_of, read, read_of, conflict_of, changed_since, shown_by, locked_by, MayAnswer}
use Rattle.coco_occ.specs.Script.{AskedAll, AskedUpTo, time_of, needs_extension, extension, extensions_due, outcome_of, ends_of, IsTry}
use Rattle.coco_occ.specs.declared.outcome.Why.{Why}
use Rattle.coco_occ.specs.declared.outcome.Why.TheVariants as why
use Rattle.coco_occ.specs.declared.outcome.Outcome.{Outcome}
use Rattle.coco_occ.specs.declared.outcome.Outcome.TheVariants.{Committed, Conflict, OverTime}
use Rattle.coco_order.specs.OneKey.{Among, IsTidy, Validates}
use Rattle.coco_order.proofs.Attempts.{by_bool, not_both, none_some, same_some, Among-append, Among-right}
use Rattle.coco_order.proofs.Needs.{Apart}
use Rattle.coco_order.proofs.Shapes.{keyed, exchange, filter_append, map_filter, all_kept, ops_keyed, nothing_asked, one_asked, find_kept, lock_answers, locked_keyed, time, finds, written, whole, find_cases, write_cases, locks_first, no_lock, a_lock, the_lock, shown_at, read_at, due_keyed, no_extension}

abbrev pub entry_by : AttemptId → Exchange → Entry
entry_by by e = record { ask = record { by = by; op = e.op }; answer = e.answer }

abbrev pub entries : AttemptId → List Exchange → List Entry
entries by = map (entry_by by)

abbrev first_answer : List Exchange → Answer
first_answer [] = Extended
first_answer (x ∷ xs) = x.answer

option_none : {X : Type 0} (a b : Option X) → option_or a b ≡ None → (a ≡ None) × (b ≡ None)
option_none None b h = (refl, h)
option_none (Some x) b h = absurd (none_some (sym h))

any_kept : {X : Type 0} (p : X → Bool) (xs : List X) (x : X) (ys : List X) → filter p xs ≡ x ∷ ys → list_any p xs ≡ true
any_kept p [] x ys h = absurd (apart h)
  where
    apart : {X : Type 0} {x : X} {ys : List X} → [] ≡ x ∷ ys → ⊥
    apart g = cc
any_kept p (z ∷ xs) x ys h = by_bool (λ b. cond b (z ∷ filter p xs) (filter p xs) ≡ x ∷ ys → b || list_any p xs ≡ true) (p z) (λ _ _. refl) (λ _ g. any_kept p xs x ys g) h

none_any : {X : Type 0} (p : X → Bool) (xs : List X) → filter p xs ≡ [] → list_any p xs ≡ false
none_any p [] h = refl
none_any p (z ∷ xs) h = by_bool (λ b. cond b (z ∷ filter p xs) (filter p xs) ≡ [] → b || list_any p xs ≡ false) (p z) (λ _ g. absurd (apart g)) (λ _ g. none_any p xs g) h
  where
    apart : z ∷ filter p xs ≡ [] → ⊥
    apart g = cc

tidy_reads : (by : AttemptId) (fs : List Found) (xs : List Exchange) → IsTidy (entries by xs) → IsTidy (entries by (map read fs ++ xs))
tidy_reads by [] xs tidy = tidy
tidy_reads by (f ∷ fs) xs tidy = let rest = tidy_reads by fs xs tidy in record { steps = (tt, rest.steps); ends = rest.ends }

some_none : (reads : List Found) (key : RowKey) (holder : AttemptId) → conflict_of reads (exchange (Lock key) (Marked holder)) ≡ None → ⊥
some_none reads key holder h = cc

extension_clear : (reads : List Found) (by : AttemptId) (key : RowKey) (wts at : ℕ) (answer : Answer) → MayAnswer (record { by = by; op = Extend key wts at }) answer → conflict_of reads (exchange (Extend key wts at) answer) ≡ None → answer ≡ Extended
extension_clear reads by key wts at answer may clear =
    by_bool (λ b. answer ≡ cond b (unless_marked may.0.mark by Extended) (Changed may.0.wts) → answer ≡ Extended) (may.0.wts == wts)
    (λ _ h. free may.0.mark h)
    (λ _ h. absurd (changed may.0.wts (subst (λ (a : Answer). conflict_of reads (exchange (Extend key wts at) a) ≡ None) h clear)))
    may.1
  where
    changed : (n : ℕ) → conflict_of reads (exchange (Extend key wts at) (Changed n)) ≡ None → ⊥
    changed n h = cc

    marked : (holder : AttemptId) → conflict_of reads (exchange (Extend key wts at) (Marked holder)) ≡ None → ⊥
    marked holder h = cc

    free : (mark : Option AttemptId) → answer ≡ unless_marked mark by Extended → answer ≡ Extended
    free None h = h
    free (Some holder) h = by_bool (λ b. answer ≡ cond b Extended (Marked holder) → answer ≡ Extended) (is_mark_of by (Some holder)) (λ _ g. g)
        (λ _ g. absurd (marked holder (subst (λ (a : Answer). conflict_of reads (exchange (Extend key wts at) a) ≡ None) g clear))) h

same_wts : (f : Found) (key : RowKey) (found : ℕ) → changed_since (Some f) key found ≡ None → found ≡ f.wts
same_wts f key found h = by_bool (λ b. eqb found f.wts ≡ b → found ≡ f.wts) (eqb found f.wts) (λ _ t. eqb-true found f.wts t)
    (λ _ g. absurd (none_some (sym h ∙ ap (λ (b : Bool). cond b None (Some (why.Changed key f.wts found))) g))) refl

module _ (r : Run) (m : Rows) (asked : List Exchange) (outcome : Outcome) (t : IsTry r m asked outcome) (needs : Apart r.needs) (writes : Apart (map (λ w. w.key) r.writes)) (k : RowKey)
    (by : AttemptId) (answered : AllByRecursion (λ e. MayAnswer (record { by = by; op = e.op }) e.answer) asked) where
  abbrev at : ℕ
  at = time r m asked outcome t needs writes k

  abbrev fs : List Found
  fs = finds r m asked outcome t needs writes k

  abbrev ws : List Write
  ws = written r m asked outcome t needs writes k

  abbrev ls : List Exchange
  ls = keyed k t.locks

  abbrev xs : List Exchange
  xs = keyed k t.extensions

  abbrev es : List Exchange
  es = keyed k t.ends

  parts : keyed k asked ≡ map read fs ++ (ls ++ (xs ++ es))
  parts = whole r m asked outcome t needs writes k

  -- ---- ends

  pub record Commits : Type 0 where
    pub outcome_is : outcome ≡ Committed at r.reply
    pub locking : t.locking_conflict ≡ None
    pub extending : t.extending_conflict ≡ None
    pub small : leb at most_time ≡ true
    pub ops : ops_of es ≡ map (λ w. Install w.key at w.value) ws

  pub record Gives_up : Type 0 where
    pub outcome_isn't : (n : ℕ) (reply : _) → outcome ≡ Committed n reply → ⊥
    pub ops : ops_of es ≡ map (λ q. Release q) (filter_map locked_by ls)

  release_ops : ops_of t.ends ≡ map (λ q. Release q) (filter_map locked_by t.locks) → ops_of es ≡ map (λ q. Release q) (filter_map locked_by ls)
  release_ops is =
      ops_keyed k t.ends ∙ ap (filter (λ o. is_key k (key_of o))) is ∙ sym (map_filter (λ (q : RowKey). Release q) (λ o. is_key k (key_of o)) (filter_map locked_by t.locks))
      ∙ ap (map (λ (q : RowKey). Release q)) (locked_keyed k t.locks)

  install_ops : ops_of t.ends ≡ map (λ w. Install w.key at w.value) r.writes → ops_of es ≡ map (λ w. Install w.key at w.value) ws
  install_ops is = ops_keyed k t.ends ∙ ap (filter (λ o. is_key k (key_of o))) is ∙ sym (map_filter (λ (w : Write). Install w.key at w.value) (λ o. is_key k (key_of o)) r.writes)

  pub ends_cases : Commits ⊎ Gives_up
  ends_cases = from (option_or t.locking_conflict t.extending_conflict) refl t.outcome_is
    where
      from : (c : Option Why) → option_or t.locking_conflict t.extending_conflict ≡ c → outcome ≡ outcome_of c at r.reply → Commits ⊎ Gives_up
      from (Some why) is out = inr (record {
        outcome_isn't = λ n reply h. conflict_commits why n reply (sym out ∙ h);
        ops = release_ops (t.ending ∙ ap (λ (o : Outcome). ends_of o r.writes t.locks) out);
      })
        where
          conflict_commits : (w : Why) (n : ℕ) (reply : _) → Conflict w ≡ Committed n reply → ⊥
          conflict_commits w n reply h = cc
      from None is out =
          by_bool (λ b. leb at most_time ≡ b → outcome ≡ cond b (Committed at r.reply) OverTime → Commits ⊎ Gives_up) (leb at most_time)
          (λ _ small o. (let none = option_none t.locking_conflict t.extending_conflict is in inl (record {
            outcome_is = o;
            locking = none.0;
            extending = none.1;
            small = small;
            ops = install_ops (t.ending ∙ ap (λ (x : Outcome). ends_of x r.writes t.locks) o);
          })))
          (λ _ _ o. inr (record {
            outcome_isn't = λ n reply h. over_commits n reply (sym o ∙ h);
            ops = release_ops (t.ending ∙ ap (λ (x : Outcome). ends_of x r.writes t.locks) o);
          }))
          refl out
        where
          over_commits : (n : ℕ) (reply : _) → OverTime ≡ Committed n reply → ⊥
          over_commits n reply h = cc

  -- ---- extensions

  not_needed : (w : Write) → ws ≡ w ∷ [] → k ≡ w.key → filter (needs_extension at r.writes) fs ≡ []
  not_needed w one same = from (find_cases r m asked outcome t needs writes k)
    where
      from : (fs ≡ []) ⊎ ((f : Found) × (fs ≡ f ∷ []) × (k ≡ f.key)) → filter (needs_extension at r.writes) fs ≡ []
      from (inl none) = ap (filter (needs_extension at r.writes)) none
      from (inr some) =
          let any : list_any (λ v. is_key some.0.key v.key) r.writes ≡ true = subst (λ (q : RowKey). list_any (λ v. is_key q v.key) r.writes ≡ true) some.2 (any_kept (λ v. is_key k v.key) r.writes w [] one) in
          ap (filter (needs_extension at r.writes)) some.1 ∙ ap (λ (b : Bool). cond (not b && ltb some.0.rts at) (some.0 ∷ []) []) any

  extension_ops : (rest : List Op) × (filter (λ o. is_key k (key_of o)) (extensions_due t.locking_conflict at r.writes t.reads) ≡ ops_of xs ++ rest)
  extension_ops =
      let first = first_of_them (extensions_due t.locking_conflict at r.writes t.reads) t.extensions t.extending_conflict t.extending in (
        filter (λ o. is_key k (key_of o)) first.0,
        ap (filter (λ o. is_key k (key_of o))) first.1 ∙ filter_append _ (ops_of t.extensions) first.0
            ∙ ap (λ (os : List Op). os ++ filter (λ o. is_key k (key_of o)) first.0) (sym (ops_keyed k t.extensions)),
      )
    where
      first_of_them : (ops : List Op) (ys : List Exchange) (why : Option Why) → AskedUpTo (conflict_of t.reads) ops ys why → (rest : List Op) × (ops ≡ ops_of ys ++ rest)
      first_of_them ops ys None h = ([], sym h.all ∙ sym (append_nil (ops_of ys)))
        where
          append_nil : (zs : List Op) → zs ++ [] ≡ zs
          append_nil [] = refl
          append_nil (z ∷ zs) = ap (λ (us : List Op). z ∷ us) (append_nil zs)
      first_of_them ops ys (Some why) h = (h.unasked, h.first)

  all_extend : (c : Option Why) → AllByRecursion (λ o. (f : Found) × (o ≡ extension at f)) (filter (λ o. is_key k (key_of o)) (extensions_due c at r.writes t.reads))
  all_extend (Some why) = tt
  all_extend None = by_bool (λ b. AllByRecursion (λ o. (f : Found) × (o ≡ extension at f)) (filter (λ o. is_key k (key_of o)) (cond b (map (extension at) (filter (needs_extension at r.writes) t.reads)) []))) (leb at most_time)
      (λ _. all_kept _ (λ o. is_key k (key_of o)) (map (extension at) (filter (needs_extension at r.writes) t.reads)) (each (filter (needs_extension at r.writes) t.reads)))
      (λ _. tt)
    where
      each : (gs : List Found) → AllByRecursion (λ o. (f : Found) × (o ≡ extension at f)) (map (extension at) gs)
      each [] = tt
      each (g ∷ gs) = ((g, refl), each gs)

  -- extensions alone are tidy
  tidy_extensions : (ys : List Exchange) (ops rest : List Op) → AllByRecursion (λ o. (f : Found) × (o ≡ extension at f)) ops → ops ≡ ops_of ys ++ rest → IsTidy (entries by ys)
  tidy_extensions [] ops rest all h = record { steps = tt; ends = refl }
  tidy_extensions (y ∷ ys) [] rest all h = absurd (apart h)
    where
      apart : [] ≡ y.op ∷ (ops_of ys ++ rest) → ⊥
      apart g = cc
  tidy_extensions (y ∷ ys) (o ∷ ops) rest all h =
      let same : o ≡ y.op = cc in
      let more : ops ≡ ops_of ys ++ rest = cc in
      let after : IsTidy (entries by ys) = tidy_extensions ys ops rest all.1 more in
      let ext : IsTidy (entries by (exchange (extension at all.0.0) y.answer ∷ ys)) = record { steps = (refl, after.steps); ends = after.ends } in
      subst (λ (p : Op). IsTidy (entries by (exchange p y.answer ∷ ys))) (sym all.0.1 ∙ same) ext

  -- ---- tidy

  nil_right : (zs : List Exchange) → zs ++ [] ≡ zs
  nil_right [] = refl
  nil_right (z ∷ zs) = ap (λ (us : List Exchange). z ∷ us) (nil_right zs)

  locked_answered : (w : Write) (answer : Answer) → ls ≡ exchange (Lock w.key) answer ∷ [] → ((wts : ℕ) × (rts : ℕ) × (answer ≡ Locked wts rts)) ⊎ ((holder : AttemptId) × (answer ≡ Marked holder))
  locked_answered w answer is =
      let all : AllByRecursion (λ e. MayAnswer (record { by = by; op = e.op }) e.answer) (keyed k asked) = all_kept _ (λ e. is_key k (key_of e.op)) asked answered in
      let here : AllByRecursion (λ e. MayAnswer (record { by = by; op = e.op }) e.answer) (map read fs ++ (ls ++ (xs ++ es))) = subst (AllByRecursion (λ e. MayAnswer (record { by = by; op = e.op }) e.answer)) parts all in
      let behind : AllByRecursion (λ e. MayAnswer (record { by = by; op = e.op }) e.answer) (ls ++ (xs ++ es)) = drop_all (map read fs) (ls ++ (xs ++ es)) here in
      lock_answers w.key by answer (subst (λ (ys : List Exchange). AllByRecursion (λ e. MayAnswer (record { by = by; op = e.op }) e.answer) (ys ++ (xs ++ es))) is behind).0
    where
      drop_all : (ys zs : List Exchange) → AllByRecursion (λ e. MayAnswer (record { by = by; op = e.op }) e.answer) (ys ++ zs) → AllByRecursion (λ e. MayAnswer (record { by = by; op = e.op }) e.answer) zs
      drop_all [] zs all = all
      drop_all (y ∷ ys) zs all = drop_all ys zs all.1

  tidy_unlocked : ls ≡ [] → es ≡ [] → IsTidy (entries by (ls ++ (xs ++ es)))
  tidy_unlocked none ended =
      subst (λ (zs : List Exchange). IsTidy (entries by zs)) (sym (ap (λ (ys : List Exchange). ys ++ (xs ++ es)) none ∙ ap (λ (ys : List Exchange). xs ++ ys) ended ∙ nil_right xs))
      (tidy_extensions xs _ extension_ops.0 (all_extend t.locking_conflict) extension_ops.1)

  no_ends : ls ≡ [] → ws ≡ [] → es ≡ []
  no_ends none unwritten = from ends_cases
    where
      from : Commits ⊎ Gives_up → es ≡ []
      from (inl c) = nothing_asked es (c.ops ∙ ap (map (λ (w : Write). Install w.key at w.value)) unwritten)
      from (inr g) = nothing_asked es (g.ops ∙ ap (λ (ys : List Exchange). map (λ (q : RowKey). Release q) (filter_map locked_by ys)) none)

  explicit : (ys zs us : List Exchange) → ls ≡ ys → xs ≡ zs → es ≡ us → IsTidy (entries by (ys ++ (zs ++ us))) → IsTidy (entries by (ls ++ (xs ++ es)))
  explicit ys zs us l x e tidy = subst (λ (vs : List Exchange). IsTidy (entries by vs)) (sym (ap (λ (vs : List Exchange). vs ++ (xs ++ es)) l ∙ ap (λ (vs : List Exchange). ys ++ (vs ++ es)) x ∙ ap (λ (vs : List Exchange). ys ++ (zs ++ vs)) e)) tidy

  tidy_written : (w : Write) → ws ≡ w ∷ [] → k ≡ w.key → IsTidy (entries by (ls ++ (xs ++ es)))
  tidy_written w one same = from (a_lock r m asked outcome t needs writes k w one) ends_cases
    where
      unextended : xs ≡ []
      unextended = no_extension r m asked outcome t needs writes k (not_needed w one same)

      from : ((ls ≡ []) ⊎ ((answer : Answer) × (ls ≡ exchange (Lock w.key) answer ∷ []))) → Commits ⊎ Gives_up → IsTidy (entries by (ls ++ (xs ++ es)))
      from (inl none) (inl c) =
          let there = the_lock r m asked outcome t needs writes k c.locking w one in absurd (apart (sym none ∙ there.1))
        where
          apart : {a : Answer} → [] ≡ exchange (Lock w.key) a ∷ [] → ⊥
          apart g = cc
      from (inl none) (inr g) = explicit [] [] [] none unextended (nothing_asked es (g.ops ∙ ap (λ (ys : List Exchange). map (λ (q : RowKey). Release q) (filter_map locked_by ys)) none)) (record { steps = tt; ends = refl })
      from (inr (answer, is)) ended = elim (locked_answered w answer is) [
        | inl locked ↦ locked_ends locked.0 locked.1 (is ∙ ap (λ (a : Answer). exchange (Lock w.key) a ∷ []) locked.2) ended
        | inr marked ↦ marked_ends marked.0 (is ∙ ap (λ (a : Answer). exchange (Lock w.key) a ∷ []) marked.1) ended
      ]
        where
          locked_ends : (wts rts : ℕ) → ls ≡ exchange (Lock w.key) (Locked wts rts) ∷ [] → Commits ⊎ Gives_up → IsTidy (entries by (ls ++ (xs ++ es)))
          locked_ends wts rts l (inl c) =
              let end = one_asked es (Install w.key at w.value) (c.ops ∙ ap (map (λ (v : Write). Install v.key at v.value)) one) in
              explicit (exchange (Lock w.key) (Locked wts rts) ∷ []) [] (exchange (Install w.key at w.value) end.0 ∷ []) l unextended end.1
              (record { steps = (refl, (((wts, rts), refl, shown_at r m asked outcome t needs writes k (Lock w.key) (Locked wts rts) l rts refl), tt)); ends = refl })
          locked_ends wts rts l (inr g) =
              let end = one_asked es (Release w.key) (g.ops ∙ ap (λ (ys : List Exchange). map (λ (q : RowKey). Release q) (filter_map locked_by ys)) l) in
              explicit (exchange (Lock w.key) (Locked wts rts) ∷ []) [] (exchange (Release w.key) end.0 ∷ []) l unextended end.1
              (record { steps = (refl, (((wts, rts), refl), tt)); ends = refl })

          marked_ends : (holder : AttemptId) → ls ≡ exchange (Lock w.key) (Marked holder) ∷ [] → Commits ⊎ Gives_up → IsTidy (entries by (ls ++ (xs ++ es)))
          marked_ends holder l (inl c) =
              let there = the_lock r m asked outcome t needs writes k c.locking w one in
              let same_answer : there.0 ≡ Marked holder = ap first_answer (sym there.1 ∙ l) in
              absurd (some_none t.reads w.key holder (subst (λ (a : Answer). conflict_of t.reads (exchange (Lock w.key) a) ≡ None) same_answer there.2))
          marked_ends holder l (inr g) =
              explicit (exchange (Lock w.key) (Marked holder) ∷ []) [] [] l unextended (nothing_asked es (g.ops ∙ ap (λ (ys : List Exchange). map (λ (q : RowKey). Release q) (filter_map locked_by ys)) l))
              (record { steps = (tt, tt); ends = refl })

  pub try_tidy : IsTidy (entries by (keyed k asked))
  try_tidy = subst (λ (zs : List Exchange). IsTidy (entries by zs)) (sym parts) (tidy_reads by fs (ls ++ (xs ++ es)) (from (write_cases r m asked outcome t needs writes k)))
    where
      from : (ws ≡ []) ⊎ ((w : Write) × (ws ≡ w ∷ []) × (k ≡ w.key)) → IsTidy (entries by (ls ++ (xs ++ es)))
      from (inl none) = let unlocked : ls ≡ [] = no_lock r m asked outcome t needs writes k none in tidy_unlocked unlocked (no_ends unlocked none)
      from (inr some) = tidy_written some.0 some.1 some.2

  -- ---- what was read by a script that commits

  due_all : Commits → AskedAll (conflict_of t.reads) (map (extension at) (filter (needs_extension at r.writes) t.reads)) t.extensions
  due_all c =
      let named : AskedUpTo (conflict_of t.reads) (extensions_due t.locking_conflict at r.writes t.reads) t.extensions None = subst (λ (w : Option Why). AskedUpTo (conflict_of t.reads) (extensions_due t.locking_conflict at r.writes t.reads) t.extensions w) c.extending t.extending in
      let free : AskedUpTo (conflict_of t.reads) (extensions_due None at r.writes t.reads) t.extensions None = subst (λ (w : Option Why). AskedUpTo (conflict_of t.reads) (extensions_due w at r.writes t.reads) t.extensions None) c.locking named in
      subst (λ (b : Bool). AskedUpTo (conflict_of t.reads) (cond b (map (extension at) (filter (needs_extension at r.writes) t.reads)) []) t.extensions None) c.small free

  extended_ops : Commits → ops_of xs ≡ map (extension at) (filter (needs_extension at r.writes) fs)
  extended_ops c = ops_keyed k t.extensions ∙ ap (filter (λ o. is_key k (key_of o))) (due_all c).all ∙ due_keyed r m asked outcome t needs writes k

  answered_at : AllByRecursion (λ e. MayAnswer (record { by = by; op = e.op }) e.answer) (map read fs ++ (ls ++ (xs ++ es)))
  answered_at = subst (AllByRecursion (λ e. MayAnswer (record { by = by; op = e.op }) e.answer)) parts (all_kept _ (λ e. is_key k (key_of e.op)) asked answered)

  together : (gs : List Found) (ys zs us : List Exchange) → fs ≡ gs → ls ≡ ys → xs ≡ zs → es ≡ us → keyed k asked ≡ map read gs ++ (ys ++ (zs ++ us))
  together gs ys zs us f l x e =
      parts ∙ ap (λ (hs : List Found). map read hs ++ (ls ++ (xs ++ es))) f ∙ ap (λ (vs : List Exchange). map read gs ++ (vs ++ (xs ++ es))) l
      ∙ ap (λ (vs : List Exchange). map read gs ++ (ys ++ (vs ++ es))) x ∙ ap (λ (vs : List Exchange). map read gs ++ (ys ++ (zs ++ vs))) e

  extended_read : Commits → (f : Found) → fs ≡ f ∷ [] → ls ≡ [] → es ≡ [] → filter (needs_extension at r.writes) fs ≡ f ∷ [] → keyed k asked ≡ read f ∷ exchange (extension at f) Extended ∷ []
  extended_read c f one unlocked unended needed =
      let found = one_asked xs (extension at f) (extended_ops c ∙ ap (map (extension at)) needed) in
      let clear : AllByRecursion (λ e. conflict_of t.reads e ≡ None) (exchange (extension at f) found.0 ∷ []) =
      subst (λ (ys : List Exchange). AllByRecursion (λ e. conflict_of t.reads e ≡ None) ys) found.1 (all_kept _ (λ e. is_key k (key_of e.op)) t.extensions (due_all c).clear) in
      let shape : keyed k asked ≡ read f ∷ exchange (extension at f) found.0 ∷ [] = together (f ∷ []) [] (exchange (extension at f) found.0 ∷ []) [] one unlocked found.1 unended in
      let all : AllByRecursion (λ e. MayAnswer (record { by = by; op = e.op }) e.answer) (read f ∷ exchange (extension at f) found.0 ∷ []) =
      subst (AllByRecursion (λ e. MayAnswer (record { by = by; op = e.op }) e.answer)) shape (all_kept _ (λ e. is_key k (key_of e.op)) asked answered) in
      let is : found.0 ≡ Extended = extension_clear t.reads by f.key f.wts at found.0 all.1.0 clear.0 in
      shape ∙ ap (λ (a : Answer). read f ∷ exchange (extension at f) a ∷ []) is

  pub read_validated : Commits → (f : Found) → fs ≡ f ∷ [] → k ≡ f.key → Validates by at f.value (entries by (keyed k asked))
  read_validated c f one same = from (write_cases r m asked outcome t needs writes k)
    where
      below : f.wts < at
      below = read_at r m asked outcome t needs writes k f one

      from : (ws ≡ []) ⊎ ((w : Write) × (ws ≡ w ∷ []) × (k ≡ w.key)) → Validates by at f.value (entries by (keyed k asked))
      from (inl none) =
          let unlocked : ls ≡ [] = no_lock r m asked outcome t needs writes k none in
          let unended : es ≡ [] = no_ends unlocked none in
          let unwritten : list_any (λ w. is_key f.key w.key) r.writes ≡ false = none_any (λ w. is_key f.key w.key) r.writes (subst (λ (q : RowKey). filter (λ w. is_key q w.key) r.writes ≡ []) same none) in
          let due : filter (needs_extension at r.writes) fs ≡ cond (ltb f.rts at) (f ∷ []) [] =
          ap (filter (needs_extension at r.writes)) one ∙ ap (λ (b : Bool). cond (not b && ltb f.rts at) (f ∷ []) []) unwritten in
          by_bool (λ b. ltb f.rts at ≡ b → filter (needs_extension at r.writes) fs ≡ cond b (f ∷ []) [] → Validates by at f.value (entries by (keyed k asked))) (ltb f.rts at)
          (λ _ _ needed. inr (inl (f.key, f.wts, f.rts, below, ap (entries by) (extended_read c f one unlocked unended needed))))
          (λ _ late needless.
          let reach : at ≤ f.rts = ltb-false f.rts at late in
          let unextended : xs ≡ [] = no_extension r m asked outcome t needs writes k needless in
          inl (f.key, f.wts, f.rts, below, reach, ap (entries by) (together (f ∷ []) [] [] [] one unlocked unextended unended)))
          refl due
      from (inr (w, written_is, at_w)) =
          let lock = the_lock r m asked outcome t needs writes k c.locking w written_is in
          let end = one_asked es (Install w.key at w.value) (c.ops ∙ ap (map (λ (v : Write). Install v.key at v.value)) written_is) in
          let unextended : xs ≡ [] = no_extension r m asked outcome t needs writes k (not_needed w written_is at_w) in
          let shape : keyed k asked ≡ read f ∷ exchange (Lock w.key) lock.0 ∷ exchange (Install w.key at w.value) end.0 ∷ [] =
          together (f ∷ []) (exchange (Lock w.key) lock.0 ∷ []) [] (exchange (Install w.key at w.value) end.0 ∷ []) one lock.1 unextended end.1 in
          elim (locked_answered w lock.0 lock.1) [
            | inl locked ↦
                let clear : conflict_of t.reads (exchange (Lock w.key) (Locked locked.0 locked.1)) ≡ None = subst (λ (a : Answer). conflict_of t.reads (exchange (Lock w.key) a) ≡ None) locked.2 lock.2 in
                let found : read_of t.reads w.key ≡ Some f = find_kept (λ g. is_key w.key g.key) t.reads f (subst (λ (q : RowKey). filter (λ g. is_key q g.key) t.reads ≡ f ∷ []) at_w one) in
                let seen : locked.0 ≡ f.wts = same_wts f w.key locked.0 (sym (ap (λ (o : Option Found). changed_since o w.key locked.0) found) ∙ clear) in
                let keys : w.key ≡ f.key = sym at_w ∙ same in
                inr (inr (
                  f.key,
                  f.wts,
                  f.rts,
                  locked.1,
                  w.value,
                  end.0,
                  below,
                  ap (entries by) (shape ∙ ap (λ (a : Answer). read f ∷ exchange (Lock w.key) a ∷ exchange (Install w.key at w.value) end.0 ∷ []) (locked.2 ∙ ap (λ (n : ℕ). Locked n locked.1) seen)
                      ∙ ap (λ (q : RowKey). read f ∷ exchange (Lock q) (Locked f.wts locked.1) ∷ exchange (Install q at w.value) end.0 ∷ []) keys),
                ))
            | inr marked ↦ absurd (some_none t.reads w.key marked.0 (subst (λ (a : Answer). conflict_of t.reads (exchange (Lock w.key) a) ≡ None) marked.1 lock.2))
          ]

  -- ---- what is installed

  pub record InstallsWrite (e : Entry) (n : ℕ) (v : Option Value) : Type 0 where
    pub commits : Commits
    pub write : Write
    pub one : ws ≡ write ∷ []
    pub time_is : n ≡ at
    pub value_is : v ≡ write.value

  not_first : (os : List Op) (ys : List Exchange) (rest : List Op) (P : Op → Type 0) → os ≡ ops_of ys ++ rest → AllByRecursion P os → (x : Exchange) → Among ys x → P x.op
  not_first os [] rest P is all x h = absurd h
  not_first [] (y ∷ ys) rest P is all x h = absurd (apart is)
    where
      apart : [] ≡ y.op ∷ (ops_of ys ++ rest) → ⊥
      apart g = cc
  not_first (o ∷ os) (y ∷ ys) rest P is all x (inl same) = let first : o ≡ y.op = cc in subst P (first ∙ ap (λ (z : Exchange). z.op) same) all.0
  not_first (o ∷ os) (y ∷ ys) rest P is all x (inr more) = let tail : os ≡ ops_of ys ++ rest = cc in not_first os ys rest P tail all.1 x more

  abbrev IsNoInstall : Op → Type 0
  IsNoInstall op = (key : RowKey) (n : ℕ) (v : Option Value) → op ≡ Install key n v → ⊥

  no_read : (gs : List Found) (x : Exchange) → Among (map read gs) x → IsNoInstall x.op
  no_read [] x h key n v is = absurd h
  no_read (g ∷ gs) x (inl same) key n v is = apart (ap (λ (z : Exchange). z.op) same ∙ is)
    where
      apart : Read g.key ≡ Install key n v → ⊥
      apart h = cc
  no_read (g ∷ gs) x (inr more) key n v is = no_read gs x more key n v is

  no_lock_installs : (vs : List Write) → AllByRecursion IsNoInstall (map (λ w. Lock w.key) vs)
  no_lock_installs [] = tt
  no_lock_installs (w ∷ vs) = ((λ key n v h. apart key n v h), no_lock_installs vs)
    where
      apart : (key : RowKey) (n : ℕ) (v : Option Value) → Lock w.key ≡ Install key n v → ⊥
      apart key n v h = cc

  no_release_installs : (qs : List RowKey) → AllByRecursion IsNoInstall (map (λ q. Release q) qs)
  no_release_installs [] = tt
  no_release_installs (q ∷ qs) = ((λ key n v h. apart key n v h), no_release_installs qs)
    where
      apart : (key : RowKey) (n : ℕ) (v : Option Value) → Release q ≡ Install key n v → ⊥
      apart key n v h = cc

  no_extension_installs : (os : List Op) → AllByRecursion (λ o. (f : Found) × (o ≡ extension at f)) os → AllByRecursion IsNoInstall os
  no_extension_installs [] all = tt
  no_extension_installs (o ∷ os) all = ((λ key n v h. apart all.0.0 key n v (sym all.0.1 ∙ h)), no_extension_installs os all.1)
    where
      apart : (f : Found) (key : RowKey) (n : ℕ) (v : Option Value) → extension at f ≡ Install key n v → ⊥
      apart f key n v h = cc

  among_parts : (x : Exchange) → Among (map read fs ++ (ls ++ (xs ++ es))) x → Among (map read fs) x ⊎ (Among ls x ⊎ (Among xs x ⊎ Among es x))
  among_parts x h = elim (Among-append (map read fs) (ls ++ (xs ++ es)) x h) [
    | inl a ↦ inl a
    | inr more ↦ elim (Among-append ls (xs ++ es) x more) [
      | inl a ↦ inr (inl a)
      | inr last ↦ elim (Among-append xs es x last) [ inl a ↦ inr (inr (inl a)) | inr a ↦ inr (inr (inr a)) ]
    ]
  ]

  ends_install : (x : Exchange) (key : RowKey) (n : ℕ) (v : Option Value) → Among es x → x.op ≡ Install key n v → InstallsWrite (entry_by by x) n v
  ends_install x key n v among is = from ends_cases
    where
      nil_ops : (os : List Op) → os ++ [] ≡ os
      nil_ops [] = refl
      nil_ops (o ∷ os) = ap (λ (us : List Op). o ∷ us) (nil_ops os)

      from : Commits ⊎ Gives_up → InstallsWrite (entry_by by x) n v
      from (inr g) = absurd (not_first (map (λ q. Release q) (filter_map locked_by ls)) es [] IsNoInstall (sym g.ops ∙ sym (nil_ops (ops_of es))) (no_release_installs (filter_map locked_by ls)) x among key n v is)
      from (inl c) = elim (write_cases r m asked outcome t needs writes k) [
        | inl none ↦ absurd (not_first [] es [] IsNoInstall (sym (ap (map (λ (w : Write). Install w.key at w.value)) none) ∙ sym c.ops ∙ sym (nil_ops (ops_of es))) tt x among key n v is)
        | inr some ↦
            let ops : ops_of es ≡ Install some.0.key at some.0.value ∷ [] = c.ops ∙ ap (map (λ (w : Write). Install w.key at w.value)) some.1 in
            let op : Install some.0.key at some.0.value ≡ Install key n v = sym (not_first (Install some.0.key at some.0.value ∷ []) es [] (λ o. o ≡ Install some.0.key at some.0.value) (sym ops ∙ sym (nil_ops (ops_of es))) (refl, tt) x among) ∙ is in
            let times : at ≡ n = cc in
            let values : some.0.value ≡ v = cc in
            record { commits = c; write = some.0; one = some.1; time_is = sym times; value_is = sym values }
      ]

  pub install_is : (x : Exchange) (key : RowKey) (n : ℕ) (v : Option Value) → Among (keyed k asked) x → x.op ≡ Install key n v → InstallsWrite (entry_by by x) n v
  install_is x key n v among is = elim (among_parts x (subst (λ (ys : List Exchange). Among ys x) parts among)) [
    | inl in_reads ↦ absurd (no_read fs x in_reads key n v is)
    | inr (inl in_locks) ↦ absurd (not_first (map (λ w. Lock w.key) ws) ls (locks_first r m asked outcome t needs writes k).0 IsNoInstall (locks_first r m asked outcome t needs writes k).1 (no_lock_installs ws) x in_locks key n v is)
    | inr (inr (inl in_extensions)) ↦ absurd (not_first _ xs extension_ops.0 IsNoInstall extension_ops.1 (no_extension_installs _ (all_extend t.locking_conflict)) x in_extensions key n v is)
    | inr (inr (inr in_ends)) ↦ ends_install x key n v in_ends is
  ]

  pub install_there : Commits → (w : Write) → ws ≡ w ∷ [] → (answer : Answer) × Among (keyed k asked) (exchange (Install w.key at w.value) answer)
  install_there c w one =
      let end = one_asked es (Install w.key at w.value) (c.ops ∙ ap (map (λ (v : Write). Install v.key at v.value)) one) in
      let x : Exchange = exchange (Install w.key at w.value) end.0 in
      let in_ends : Among es x = subst (λ (ys : List Exchange). Among ys x) (sym end.1) (inl refl) in
      (end.0, subst (λ (ys : List Exchange). Among ys x) (sym parts) (Among-right (map read fs) (ls ++ (xs ++ es)) x (Among-right ls (xs ++ es) x (Among-right xs es x in_ends))))

  no_extend_reads : (gs : List Found) (x : Exchange) (key : RowKey) (wts n : ℕ) → Among (map read gs) x → x.op ≡ Extend key wts n → ⊥
  no_extend_reads [] x key wts n h is = absurd h
  no_extend_reads (g ∷ gs) x key wts n (inl same) is = apart (ap (λ (z : Exchange). z.op) same ∙ is)
    where
      apart : Read g.key ≡ Extend key wts n → ⊥
      apart h = cc
  no_extend_reads (g ∷ gs) x key wts n (inr more) is = no_extend_reads gs x key wts n more is

  -- an extension is at the time of the attempt
  pub extend_is : (x : Exchange) (key : RowKey) (wts n : ℕ) → Among (keyed k asked) x → x.op ≡ Extend key wts n → n ≡ at
  extend_is x key wts n among is = elim (among_parts x (subst (λ (ys : List Exchange). Among ys x) parts among)) [
    | inl in_reads ↦ absurd (no_extend_reads fs x key wts n in_reads is)
    | inr (inl in_locks) ↦ absurd (not_first (map (λ w. Lock w.key) ws) ls (locks_first r m asked outcome t needs writes k).0 (λ o. o ≡ Extend key wts n → ⊥) (locks_first r m asked outcome t needs writes k).1 (locks_extend ws) x in_locks is)
    | inr (inr (inl in_extensions)) ↦
        let found = not_first _ xs extension_ops.0 (λ o. (f : Found) × (o ≡ extension at f)) extension_ops.1 (all_extend t.locking_conflict) x in_extensions in
        let op : Extend key wts n ≡ Extend found.0.key found.0.wts at = sym is ∙ found.1 in
        let same : n ≡ at = cc in same
    | inr (inr (inr in_ends)) ↦ absurd (by_ends ends_cases in_ends)
  ]
    where
      locks_extend : (vs : List Write) → AllByRecursion (λ o. o ≡ Extend key wts n → ⊥) (map (λ w. Lock w.key) vs)
      locks_extend [] = tt
      locks_extend (v ∷ vs) = ((λ h. apart h), locks_extend vs)
        where
          apart : Lock v.key ≡ Extend key wts n → ⊥
          apart h = cc

      installs_extend : (vs : List Write) → AllByRecursion (λ o. o ≡ Extend key wts n → ⊥) (map (λ w. Install w.key at w.value) vs)
      installs_extend [] = tt
      installs_extend (v ∷ vs) = ((λ h. apart h), installs_extend vs)
        where
          apart : Install v.key at v.value ≡ Extend key wts n → ⊥
          apart h = cc

      releases_extend : (qs : List RowKey) → AllByRecursion (λ o. o ≡ Extend key wts n → ⊥) (map (λ q. Release q) qs)
      releases_extend [] = tt
      releases_extend (q ∷ qs) = ((λ h. apart h), releases_extend qs)
        where
          apart : Release q ≡ Extend key wts n → ⊥
          apart h = cc

      nil_ops : (os : List Op) → os ++ [] ≡ os
      nil_ops [] = refl
      nil_ops (o ∷ os) = ap (λ (us : List Op). o ∷ us) (nil_ops os)

      by_ends : Commits ⊎ Gives_up → Among es x → ⊥
      by_ends (inl c) among_es = not_first (map (λ w. Install w.key at w.value) ws) es [] (λ o. o ≡ Extend key wts n → ⊥) (sym c.ops ∙ sym (nil_ops (ops_of es))) (installs_extend ws) x among_es is
      by_ends (inr g) among_es = not_first (map (λ q. Release q) (filter_map locked_by ls)) es [] (λ o. o ≡ Extend key wts n → ⊥) (sym g.ops ∙ sym (nil_ops (ops_of es))) (releases_extend (filter_map locked_by ls)) x among_es is
