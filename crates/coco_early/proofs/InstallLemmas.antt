-- What a script that commits writes is installed, in the journal of the key's shard; and what is installed is at most
-- the read time at the journal's end.
use Rattle.std.proofs.Common.{◌≡◌, inl, inr, ℕ, ◌<◌, ◌≤◌, ◌%◌, Bool, true, false, cond, List, [], ◌∷◌, ◌++◌, map, length, Option, None, Some, refl, sym, ap, ◌∙◌, subst, arith, append_assoc, append-nil, nat_eq}
use Rattle.std.specs.List.{filter}
use Rattle.std.specs.Option.{option_map, option_or, unwrap_or}
use Rattle.std.specs.BTreeMap.{is_at}
use Rattle.std.proofs.lemmas.Bool.{eq-eqb}
use Rattle.std.proofs.lemmas.Nat.{mod_below}
use Rattle.coco_types.proofs.Keys.{key_itself}
use Rattle.coco_types.specs.RowKey.{RowKey, key_cmp}
use Rattle.coco_types.specs.declared.call.Reply.{Reply}
use Rattle.coco_types.specs.declared.call.Write.{Write}
use Rattle.coco_types.specs.declared.value.Value.{Value}
use Rattle.coco_ast.specs.Meaning.{Run, run}
use Rattle.coco_journaled.specs.declared.entry.Entry.{Entry as Logged}
use Rattle.coco_occ.specs.Exchange.{Exchange, ops_of, read, step_of}
use Rattle.coco_occ.specs.Script.{IsAsked, IsTry, ends_of}
use Rattle.coco_occ.specs.Steps.{at_shard, taken}
use Rattle.coco_occ.specs.declared.outcome.Outcome.{Outcome}
use Rattle.coco_occ.specs.declared.outcome.Outcome.TheVariants.{Committed}
use Rattle.coco_occ.specs.declared.outcome.Tried.{Tried}
use Rattle.coco_occ.specs.declared.script.Step.{Step}
use Rattle.coco_order.specs.Execution.{Beginning, Execution, IsExecution, IsTried, Journal, Transcript, all_at_shard, concat, journal_of, journal_on, logged, of_pass, steps_of, transcript_of}
use Rattle.coco_order.specs.Laws.{StepsAreMine}
use Rattle.coco_order.specs.OneKey.{Among, Installs, IsMine, WriteTimesRise, on}
use Rattle.coco_shard.specs.Law.{Entry, extensions_since, greatest, install_of, installed_by, last_found, read_time, write_time}
use Rattle.coco_shard.specs.Table.{key_of}
use Rattle.coco_shard.specs.declared.ops.Answer.{Answer}
use Rattle.coco_shard.specs.declared.ops.Answer.TheVariants.{Changed, Extended, Got, Installed, Locked, Marked, NotMine, Released, Stood}
use Rattle.coco_shard.specs.declared.ops.Ask.{Ask}
use Rattle.coco_shard.specs.declared.ops.Op.{Op}
use Rattle.coco_shard.specs.declared.ops.Op.TheVariants.{Extend, Install, Lock, Past, Read, Release}
use Rattle.coco_early.proofs.Members.{by_bool, either, filtered, in_one, left, mapped, none_some, of_all, of_filter, of_map, right, same_some}

-- ---- scripts in journals

shard_steps : (shard : ℕ) (ts : Transcript) (t : Tried) (e : Entry) → Among ts t → Among (at_shard shard t.script) e → Among (all_at_shard shard ts) e
shard_steps shard [] t e h at = absurd h
shard_steps shard (u ∷ ts) t e (inl same) at = left (at_shard shard u.script) (all_at_shard shard ts) e (subst (λ (z : Tried). Among (at_shard shard z.script) e) (sym same) at)
shard_steps shard (u ∷ ts) t e (inr more) at = right (at_shard shard u.script) (all_at_shard shard ts) e (shard_steps shard ts t e more at)

in_journal : (pass : ℕ) (journal : Journal) (e : Entry) → Among (of_pass pass journal) e → Among (steps_of journal) e
in_journal pass journal e h =
    let found = of_map logged (filter (λ (l : Logged Ask Answer). nat_eq l.pass pass) journal) e h in
    subst (λ (z : Entry). Among (steps_of journal) z) found.2 (mapped logged journal found.0 (of_filter (λ (l : Logged Ask Answer). nat_eq l.pass pass) journal found.0 found.1).0)

module _ (b : Beginning) (x : Execution) (is : IsExecution b x) where
  in_transcript : (t : Tried) → Among (concat x.transcripts) t → (worker : ℕ) × (worker < b.workers) × Among (transcript_of x worker) t
  in_transcript t among = let found = in_one x.transcripts t among in (found.0, let count : length x.transcripts ≡ b.workers = is.workers in omega (arith, found.1, count), found.2)

  pub tried_at : (t : Tried) → Among (concat x.transcripts) t → IsTried b t
  tried_at t among = let place = in_transcript t among in of_all (IsTried b) (transcript_of x place.0) t (is.scripts place.0 place.1) place.2

  -- a step of a script stands in the journal of its shard
  step_there : (t : Tried) → Among (concat x.transcripts) t → (s : Step) → Among t.script s → s.shard < b.partitions → Among (steps_of (journal_of x s.shard)) (taken s)
  step_there t among s in_script lt =
      let place = in_transcript t among in
      let here : Among (at_shard s.shard t.script) (taken s) = mapped taken (filter (λ (z : Step). nat_eq z.shard s.shard) t.script) s (filtered (λ (z : Step). nat_eq z.shard s.shard) t.script s in_script (eq-eqb s.shard s.shard refl)) in
      in_journal place.0 (journal_of x s.shard) (taken s)
      (subst (λ (es : List Entry). Among es (taken s)) (sym (is.passes s.shard place.0 lt place.1)) (shard_steps s.shard (transcript_of x place.0) t (taken s) place.2 here))

  module _ (mine : StepsAreMine b x) (t : Tried) (among : Among (concat x.transcripts) t) (tried : IsTried b t) (time : ℕ) (reply : Reply) (outcome_is : t.outcome ≡ Committed time reply) (w : Write) where
    abbrev ran : Run
    ran = run b.procs tried.request.call tried.script.rows

    -- the exchange of a script that installed the write
    record Installing : Type 0 where
      pub exchange : Exchange
      pub was_asked : Among tried.script.asked exchange
      pub op_is : exchange.op ≡ Install w.key time w.value

    installing : IsTry ran tried.script.rows tried.script.asked t.outcome → Among ran.writes w → Installing
    installing attempt wrote =
        let ends : ops_of attempt.ends ≡ ends_of (Committed time reply) ran.writes attempt.locks = attempt.ending ∙ ap (λ (o : Outcome). ends_of o ran.writes attempt.locks) outcome_is in
        let found = of_map (λ (e : Exchange). e.op) attempt.ends (Install w.key time w.value) (subst (λ (os : List Op). Among os (Install w.key time w.value)) (sym ends) (mapped (λ (v : Write). Install v.key time v.value) ran.writes w wrote)) in
        record {
          exchange = found.0;
          was_asked = subst (λ (es : List Exchange). Among es found.0) (sym attempt.parts)
              (right (map read attempt.reads ++ attempt.locks ++ attempt.extensions) attempt.ends found.0 found.1);
          op_is = found.2;
        }

    -- its entry in the journal
    pub record IsInstalled : Type 0 where
      pub entry : Entry
      pub stands : Among (on w.key (journal_on b x w.key)) entry
      pub installs : Installs entry time w.value

    installed_at : Installing → IsInstalled
    installed_at i =
        let e : Entry = taken (step_of t.by b.partitions i.exchange) in
        let key : key_of i.exchange.op ≡ w.key = ap key_of i.op_is in
        let there : Among (journal_on b x w.key) e =
        subst (λ (k : RowKey). Among (steps_of (journal_of x (k.row % b.partitions))) e) key
        (step_there t among (step_of t.by b.partitions i.exchange) (subst (λ (ss : List Step). Among ss (step_of t.by b.partitions i.exchange)) (sym tried.script.steps) (mapped (step_of t.by b.partitions) tried.script.asked i.exchange i.was_asked))
        (mod_below (key_of i.exchange.op).row b.partitions is.some_partitions)) in
        record {
          entry = e;
          stands = filtered (λ (z : Entry). is_at (key_cmp w.key) (key_of z.ask.op)) (journal_on b x w.key) e there (ap (λ (k : RowKey). is_at (key_cmp w.key) k) key ∙ key_itself w.key);
          installs = (w.key, i.op_is, subst (λ (o : Op). IsMine o i.exchange.answer) i.op_is (mine (w.key.row % b.partitions) (mod_below w.key.row b.partitions is.some_partitions) e there));
        }

    pub installed : tried.request.call.snapshot ≡ false → Among tried.writes w → IsInstalled
    installed plain wrote =
        installed_at (installing (subst (λ (s : Bool). IsAsked s ran tried.script.rows tried.script.asked t.outcome) plain tried.script.course) (subst (λ (ws : List Write). Among ws w) tried.script.writes_are wrote))

-- ---- read times

module _ (k : RowKey) where
  -- an install on the key, as the law finds it
  abbrev IsOne : Entry → ℕ → Option Value → Type 0
  IsOne e time value = Among (on k (e ∷ [])) e × Installs e time value

  of_one : (op : Op) (answer : Answer) (time : ℕ) (value : Option Value) → install_of op answer ≡ Some (time, value) → (key : RowKey) × (op ≡ Install key time value) × (answer ≡ Installed)
  of_one (Read key) answer time value h = absurd (none_some h)
  of_one (Lock key) answer time value h = absurd (none_some h)
  of_one (Extend key wts at) answer time value h = absurd (none_some h)
  of_one (Release key) answer time value h = absurd (none_some h)
  of_one (Past key) answer time value h = absurd (none_some h)
  of_one (Install key at new) Installed time value h = (key, ap (λ (p : ℕ × Option Value). Install key p.0 p.1) (same_some h), refl)
  of_one (Install key at new) (Got wts rts found) time value h = absurd (none_some h)
  of_one (Install key at new) (Locked wts rts) time value h = absurd (none_some h)
  of_one (Install key at new) (Marked holder) time value h = absurd (none_some h)
  of_one (Install key at new) (Changed wts) time value h = absurd (none_some h)
  of_one (Install key at new) Extended time value h = absurd (none_some h)
  of_one (Install key at new) Released time value h = absurd (none_some h)
  of_one (Install key at new) (NotMine mark) time value h = absurd (none_some h)
  of_one (Install key at new) (Stood found) time value h = absurd (none_some h)

  is_one : (e : Entry) (time : ℕ) (value : Option Value) → installed_by k e ≡ Some (time, value) → IsOne e time value
  is_one e time value h =
      by_bool (λ b. is_at (key_cmp k) (key_of e.ask.op) ≡ b → cond b (install_of e.ask.op e.answer) None ≡ Some (time, value) → IsOne e time value) (is_at (key_cmp k) (key_of e.ask.op))
      (λ _ t g. (filtered (λ (z : Entry). is_at (key_cmp k) (key_of z.ask.op)) (e ∷ []) e (inl refl) t, of_one e.ask.op e.answer time value g))
      (λ _ f g. absurd (none_some g)) refl h

  found_by : (e : Entry) (time : ℕ) (value : Option Value) → is_at (key_cmp k) (key_of e.ask.op) ≡ true → Installs e time value → installed_by k e ≡ Some (time, value)
  found_by e time value at i =
      ap (λ (b : Bool). cond b (install_of e.ask.op e.answer) None) at
      ∙ ap (λ (o : Op). install_of o e.answer) i.1 ∙ ap (install_of (Install i.0 time value)) i.2

  last_more : {X : Type 0} (f : Entry → Option X) (es : List Entry) (d : Entry) → last_found f (es ++ d ∷ []) ≡ option_or (f d) (last_found f es)
  last_more {X} f [] d = none_first (f d)
    where
      none_first : (o : Option X) → option_or None o ≡ option_or o None
      none_first None = refl
      none_first (Some y) = refl
  last_more {X} f (e ∷ es) d = ap (λ o. option_or o (f e)) (last_more f es d) ∙ joined (f d) (last_found f es) (f e)
    where
      joined : (a c g : Option X) → option_or (option_or a c) g ≡ option_or a (option_or c g)
      joined None c g = refl
      joined (Some y) c g = refl

  most : (n : ℕ) (ts : List ℕ) → n ≤ greatest n ts
  most n [] = omega arith
  most n (t ∷ ts) = let rest : n ≤ greatest n ts = most n ts in omega (arith, rest)

  -- each install among these entries is at most the last one
  abbrev AreWithin : List Entry → Type 0
  AreWithin es = (e : Entry) (time : ℕ) (value : Option Value) → Among (on k es) e → Installs e time value → time ≤ write_time k es

  module _ (journal : List Entry) (rise : WriteTimesRise k journal) where
    one_more : (es : List Entry) (d : Entry) (rest : List Entry) → journal ≡ es ++ d ∷ rest → AreWithin es → AreWithin (es ++ d ∷ [])
    one_more es d rest split so e time value among i = from (installed_by k d) refl (of_filter (λ (z : Entry). is_at (key_cmp k) (key_of z.ask.op)) (es ++ d ∷ []) e among)
      where
        now : (o : Option (ℕ × Option Value)) → installed_by k d ≡ o → write_time k (es ++ d ∷ []) ≡ unwrap_or (option_map (λ (p : ℕ × Option Value). p.0) (option_or o (last_found (installed_by k) es))) 0
        now o is = ap (λ (q : Option (ℕ × Option Value)). unwrap_or (option_map (λ (p : ℕ × Option Value). p.0) q) 0) (last_more (installed_by k) es d ∙ ap (λ q. option_or q (last_found (installed_by k) es)) is)

        earlier : Among es e → is_at (key_cmp k) (key_of e.ask.op) ≡ true → time ≤ write_time k es
        earlier in_es at = so e time value (filtered (λ (z : Entry). is_at (key_cmp k) (key_of z.ask.op)) es e in_es at) i

        from : (o : Option (ℕ × Option Value)) → installed_by k d ≡ o → Among (es ++ d ∷ []) e × (is_at (key_cmp k) (key_of e.ask.op) ≡ true) → time ≤ write_time k (es ++ d ∷ [])
        from None is (among, at) = elim (either es (d ∷ []) e among) [
          | inl before ↦ (let same : write_time k (es ++ d ∷ []) ≡ write_time k es = now None is in omega (arith, same, earlier before at))
          | inr (inl last) ↦ absurd (none_some (sym is ∙ ap (installed_by k) last ∙ found_by e time value at i))
          | inr (inr none) ↦ absurd none
        ]
        from (Some p) is (among, at) =
            let same : write_time k (es ++ d ∷ []) ≡ p.0 = now (Some p) is in
            let one : IsOne d p.0 p.1 = is_one d p.0 p.1 is in
            let above : read_time k es < p.0 = rise es rest d p.0 p.1 split one.0 one.1 in
            let reach : write_time k es ≤ read_time k es = most (write_time k es) (extensions_since k es) in
            elim (either es (d ∷ []) e among) [
              | inl before ↦ omega (arith, same, above, reach, earlier before at)
              | inr (inl last) ↦ (let here : p.0 ≡ time = ap (λ (q : ℕ × Option Value). q.0) (same_some (sym is ∙ ap (installed_by k) last ∙ found_by e time value at i)) in omega (arith, same, here))
              | inr (inr none) ↦ absurd none
            ]

    all_within : (es rest : List Entry) → journal ≡ es ++ rest → AreWithin es → AreWithin journal
    all_within es [] split so = subst AreWithin (sym (split ∙ append-nil es)) so
    all_within es (d ∷ rest) split so = all_within (es ++ d ∷ []) rest (split ∙ sym (append_assoc es (d ∷ []) rest)) (one_more es d rest split so)

    pub within_reads : (e : Entry) (time : ℕ) (value : Option Value) → Among (on k journal) e → Installs e time value → time ≤ read_time k journal
    within_reads e time value among i =
        let least : time ≤ write_time k journal = all_within [] journal refl (λ d n v none _. absurd none) e time value among i in
        let reach : write_time k journal ≤ read_time k journal = most (write_time k journal) (extensions_since k journal) in
        omega (arith, least, reach)
