-- What a validated read saw.
use Rattle.std.proofs.Common.{◌≡◌, ◌⊎◌, inl, inr, ℕ, ◌<◌, ◌≤◌, ◌==◌, max, Bool, true, false, cond, eqb, List, [], ◌∷◌, ◌++◌, Option, None, Some, refl, sym, ap, ◌∙◌, subst, arith, append_assoc}
use Rattle.std.proofs.lemmas.Bool.{eqb-true}
use Rattle.coco_types.specs.RowKey.{RowKey}
use Rattle.coco_types.specs.declared.value.Value.{Value}
use Rattle.coco_types.specs.declared.call.AttemptId.{AttemptId}
use Rattle.coco_shard.specs.declared.ops.Op.{Op}
use Rattle.coco_shard.specs.declared.ops.Op.TheVariants.{Read, Lock, Extend, Install, Release, Past}
use Rattle.coco_shard.specs.declared.ops.Answer.{Answer}
use Rattle.coco_shard.specs.declared.ops.Answer.TheVariants.{Got, Locked, Marked, Changed, Extended, Installed, Released, NotMine, Stood}
use Rattle.coco_shard.specs.RowState.{RowState, resting}
use Rattle.coco_shard.specs.Table.{answer_at, left_by, unless_marked, installed}
use Rattle.coco_shard.specs.Law.{Entry}
use Rattle.coco_order.specs.OneKey.{Among, is_attempt, own, on, left, walk, AreTold, Shown, holds_at, Installs, IsLastBelow, IsOrderly, Validates, ReadsTheLast, ValidatedReadsAreLast, OnEachKey, step}
use Rattle.coco_order.proofs.Attempts.{attempt_itself, by_bool, not_both, none_some, Among-append, Among-left, Among-right}
use Rattle.coco_order.proofs.Walking.{Holds, Stands, held_some, Wrote, Kept}
use Rattle.coco_order.proofs.Chains.{Good, good_at, good_front, good_next, good_step, walk_holds, walk_holds_own, walk_append, own_append, rts_rise, next_holds, version, last_written, installs_within, installs_above, above_step}
use Rattle.coco_order.proofs.OneKey.{nobody, good_start}

-- ---- where a step of an attempt stands

pub record Split (a : AttemptId) (es front : List Entry) (e : Entry) (back : List Entry) : Type 0 where
  pub pre : List Entry
  pub post : List Entry
  pub is : es ≡ pre ++ e ∷ post
  pub front_is : own a pre ≡ front
  pub back_is : own a post ≡ back

nil_cons : {X : Type 0} (x : X) (xs : List X) → [] ≡ x ∷ xs → ⊥
nil_cons x xs h = cc

heads : {X : Type 0} (x y : X) (xs ys : List X) → x ∷ xs ≡ y ∷ ys → x ≡ y
heads x y xs ys h = cc

tails : {X : Type 0} (x y : X) (xs ys : List X) → x ∷ xs ≡ y ∷ ys → xs ≡ ys
tails x y xs ys h = cc

split_mine : (a : AttemptId) (x : Entry) (es front : List Entry) (e : Entry) (back : List Entry) → is_attempt x.ask.by a ≡ true → x ∷ own a es ≡ front ++ e ∷ back
    → ((front : List Entry) → own a es ≡ front ++ e ∷ back → Split a es front e back) → Split a (x ∷ es) front e back
split_mine a x es [] e back mine h rest =
    record { pre = []; post = es; is = ap (λ (y : Entry). y ∷ es) (heads x e (own a es) back h); front_is = refl; back_is = tails x e (own a es) back h }
split_mine a x es (f ∷ front) e back mine h rest =
    let s : Split a es front e back = rest front (tails x f (own a es) (front ++ e ∷ back) h) in
    let same : x ≡ f = heads x f (own a es) (front ++ e ∷ back) h in
    record {
      pre = x ∷ s.pre;
      post = s.post;
      is = ap (λ (ys : List Entry). x ∷ ys) s.is;
      front_is = ap (λ (b : Bool). cond b (x ∷ own a s.pre) (own a s.pre)) mine ∙ ap (λ (y : Entry). y ∷ own a s.pre) same ∙ ap (λ (ys : List Entry). f ∷ ys) s.front_is;
      back_is = s.back_is;
    }

split_other : (a : AttemptId) (x : Entry) (es front : List Entry) (e : Entry) (back : List Entry) → is_attempt x.ask.by a ≡ false → Split a es front e back → Split a (x ∷ es) front e back
split_other a x es front e back other s = record {
  pre = x ∷ s.pre;
  post = s.post;
  is = ap (λ (ys : List Entry). x ∷ ys) s.is;
  front_is = ap (λ (b : Bool). cond b (x ∷ own a s.pre) (own a s.pre)) other ∙ s.front_is;
  back_is = s.back_is;
}

no_front : (front : List Entry) (e : Entry) (back : List Entry) → [] ≡ front ++ e ∷ back → ⊥
no_front [] e back h = nil_cons e back h
no_front (f ∷ front) e back h = nil_cons f (front ++ e ∷ back) h

pub split : (a : AttemptId) (es front : List Entry) (e : Entry) (back : List Entry) → own a es ≡ front ++ e ∷ back → Split a es front e back
split a [] front e back h = absurd (no_front front e back h)
split a (x ∷ es) front e back h =
    by_bool (λ b. cond b (x ∷ own a es) (own a es) ≡ front ++ e ∷ back → Split a (x ∷ es) front e back) (is_attempt x.ask.by a)
    (λ mine is. split_mine a x es front e back mine is (λ f g. split a es f e back g))
    (λ other is. split_other a x es front e back other (split a es front e back is))
    h

-- ---- the last below a time

last_below : (row : RowState) (h : Holds) (pre post : List Entry) (time : ℕ) → Good row h (pre ++ post) → (walk row pre).wts < time
    → ((e : Entry) (t : ℕ) (v : Option Value) → Among post e → Installs e t v → time ≤ t) → IsLastBelow row.newest (pre ++ post) time (walk row pre).newest
last_below row h pre post time good below above =
    let front : Good row h pre = good_front row h pre post good in
    elim (last_written row h pre front) [
      | inl none ↦ inl (none.1, λ e t v among i lt. elim (Among-append pre post e among) [ inl early ↦ none.0 e t v early i | inr late ↦ (let le : time ≤ t = above e t v late i in absurd (omega arith)) ])
      | inr found ↦ inr (
        found.0,
        (walk row pre).wts,
        Among-left pre post found.0 found.1,
        found.2,
        below,
        λ e t v among i lt. elim (Among-append pre post e among) [ inl early ↦ installs_within row h pre front e t v early i | inr late ↦ (let le : time ≤ t = above e t v late i in absurd (omega arith)) ],
      )
    ]

pub reads_last : (row : RowState) (h : Holds) (pre post : List Entry) (a : AttemptId) (time : ℕ) (value : Option Value) → Good row h (pre ++ post) → (walk row pre).wts < time → (walk row pre).newest ≡ value
    → ((e : Entry) (t : ℕ) (v : Option Value) → Among post e → Installs e t v → (time < t) ⊎ ((t ≡ time) × (e.ask.by ≡ a))) → ReadsTheLast row.newest a time value (pre ++ post)
reads_last row h pre post a time value good below is above = record {
  last = subst (λ (x : Option Value). IsLastBelow row.newest (pre ++ post) time x) is (last_below row h pre post time good below (λ e t v among i. elim (above e t v among i) [ inl lt ↦ omega (arith, lt) | inr same ↦ omega (arith, same) ]));
  alone = λ e v among i. elim (Among-append pre post e among) [
    | inl early ↦ (let le : time ≤ (walk row pre).wts = installs_within row h pre (good_front row h pre post good) e time v early i in absurd (omega arith))
    | inr late ↦ elim (above e time v late i) [ inl lt ↦ absurd (omega (arith, lt)) | inr same ↦ same.1 ]
  ];
}

-- where the write time is the same, the value is
same_version : (row : RowState) (h : Holds) (pre mid : List Entry) → Good row h (pre ++ mid) → (walk row (pre ++ mid)).wts ≡ (walk row pre).wts → (walk row (pre ++ mid)).newest ≡ (walk row pre).newest
same_version row h pre mid good wts =
    let here : Good (walk row pre) (walk_holds h pre) mid = good_at row h pre mid good in
    let joined : walk row (pre ++ mid) ≡ walk (walk row pre) mid = walk_append row pre mid in
    elim (version (walk row pre) (walk_holds h pre) mid here) [
      | inl kept ↦ ap (λ (r : RowState). r.newest) joined ∙ kept.1
      | inr later ↦
          let at : (walk (walk row pre) mid).wts ≡ (walk row pre).wts = ap (λ (r : RowState). r.wts) (sym joined) ∙ wts in
          let le : (walk row pre).wts ≤ (walk row pre).rts = here.times in
          absurd (omega (arith, later))
    ]

-- ---- the three ways

extended_at : (n w : ℕ) (x : Answer) → Extended ≡ cond (n == w) x (Changed n) → n ≡ w
extended_at n w x h = by_bool (λ b. Extended ≡ cond b x (Changed n) → (n == w) ≡ b → n ≡ w) (n == w) (λ _ _ t. eqb-true n w t) (λ _ g _. absurd (apart g)) h refl
  where
    apart : Extended ≡ Changed n → ⊥
    apart g = cc

got_is : (w r w' r' : ℕ) (v v' : Option Value) → Got w r v ≡ Got w' r' v' → (w ≡ w') × (r ≡ r') × (v ≡ v')
got_is w r w' r' v v' h = (let e : w ≡ w' = cc in e, let e : r ≡ r' = cc in e, let e : v ≡ v' = cc in e)

not_install : (op : Op) (answer : Answer) (e : Entry) (t : ℕ) (v : Option Value) → ((key : RowKey) → op ≡ Install key t v → ⊥) → e.ask.op ≡ op → Installs e t v → ⊥
not_install op answer e t v never is i = never i.0 (sym is ∙ i.1)

module _ (row : RowState) (es : List Entry) (good : Good row nobody es) (a : AttemptId) (time : ℕ) (value : Option Value) where
  by_reach : (key : RowKey) (wts rts : ℕ) → wts < time → time ≤ rts → own a es ≡ step a (Read key) (Got wts rts value) ∷ [] → ReadsTheLast row.newest a time value es
  by_reach key wts rts below reach steps =
      let read : Entry = step a (Read key) (Got wts rts value) in
      let s : Split a es [] read [] = split a es [] read [] steps in
      let whole : Good row nobody (s.pre ++ read ∷ s.post) = subst (λ (xs : List Entry). Good row nobody xs) s.is good in
      let here : Good (walk row s.pre) (walk_holds nobody s.pre) (read ∷ s.post) = good_at row nobody s.pre (read ∷ s.post) whole in
      let is = got_is wts rts (walk row s.pre).wts (walk row s.pre).rts value (walk row s.pre).newest here.told.0 in
      let reached : time ≤ (walk row s.pre).rts = subst (λ (n : ℕ). time ≤ n) is.1 reach in
      subst (λ (xs : List Entry). ReadsTheLast row.newest a time value xs) (sym s.is)
      (reads_last row nobody s.pre (read ∷ s.post) a time value whole (subst (λ (n : ℕ). n < time) is.0 below) (sym is.2)
      (λ e t v among i. (let above : (walk row s.pre).rts < t = installs_above (walk row s.pre) (walk_holds nobody s.pre) (read ∷ s.post) here e t v among i in inl (omega arith))))

  -- the read, and the state before a later step of the attempt, in one list
  pub record Later (wts : ℕ) (pre mid post : List Entry) (e : Entry) : Type 0 where
    pub is : es ≡ (pre ++ mid) ++ e ∷ post
    pub wts_is : (walk row pre).wts ≡ wts
    pub value_is : (walk row pre).newest ≡ value

  later : (key : RowKey) (wts rts : ℕ) (front : List Entry) (e : Entry) (back : List Entry) → own a es ≡ step a (Read key) (Got wts rts value) ∷ (front ++ e ∷ back)
      → (pre : List Entry) × (mid : List Entry) × (post : List Entry) × Later wts pre mid post e × (own a (pre ++ mid) ≡ step a (Read key) (Got wts rts value) ∷ front)
  later key wts rts front e back steps =
      let read : Entry = step a (Read key) (Got wts rts value) in
      let s : Split a es [] read (front ++ e ∷ back) = split a es [] read (front ++ e ∷ back) steps in
      let u : Split a s.post front e back = split a s.post front e back s.back_is in
      let whole : Good row nobody (s.pre ++ read ∷ s.post) = subst (λ (xs : List Entry). Good row nobody xs) s.is good in
      let is = got_is wts rts (walk row s.pre).wts (walk row s.pre).rts value (walk row s.pre).newest (good_at row nobody s.pre (read ∷ s.post) whole).told.0 in (
        s.pre,
        read ∷ u.pre,
        u.post,
        record {
          is = s.is ∙ ap (λ (xs : List Entry). s.pre ++ read ∷ xs) u.is ∙ sym (append_assoc s.pre (read ∷ u.pre) (e ∷ u.post));
          wts_is = sym is.0;
          value_is = sym is.2;
        },
        own_append a s.pre (read ∷ u.pre) ∙ ap (λ (xs : List Entry). xs ++ own a (read ∷ u.pre)) s.front_is
            ∙ ap (λ (b : Bool). cond b (read ∷ own a u.pre) (own a u.pre)) (attempt_itself a) ∙ ap (λ (xs : List Entry). read ∷ xs) u.front_is,
      )

  by_later : (wts : ℕ) (pre mid post : List Entry) (e : Entry) → Later wts pre mid post e → wts < time → (walk row (pre ++ mid)).wts ≡ wts
      → ((d : Entry) (t : ℕ) (v : Option Value) → Among (e ∷ post) d → Installs d t v → (time < t) ⊎ ((t ≡ time) × (d.ask.by ≡ a))) → ReadsTheLast row.newest a time value es
  by_later wts pre mid post e lt below at above =
      let whole : Good row nobody ((pre ++ mid) ++ e ∷ post) = subst (λ (xs : List Entry). Good row nobody xs) lt.is good in
      let same : (walk row (pre ++ mid)).newest ≡ (walk row pre).newest = same_version row nobody pre mid (good_front row nobody (pre ++ mid) (e ∷ post) whole) (at ∙ sym lt.wts_is) in
      subst (λ (xs : List Entry). ReadsTheLast row.newest a time value xs) (sym lt.is)
      (reads_last row nobody (pre ++ mid) (e ∷ post) a time value whole (subst (λ (n : ℕ). n < time) (sym at) below) (same ∙ lt.value_is) above)

  by_extension : (key : RowKey) (wts rts : ℕ) → wts < time → own a es ≡ step a (Read key) (Got wts rts value) ∷ step a (Extend key wts time) Extended ∷ [] → ReadsTheLast row.newest a time value es
  by_extension key wts rts below steps =
      let found = later key wts rts [] (step a (Extend key wts time) Extended) [] steps in
      let pre : List Entry = found.0 in
      let mid : List Entry = found.1 in
      let post : List Entry = found.2 in
      let e : Entry = step a (Extend key wts time) Extended in
      let lt : Later wts pre mid post e = found.3 in
      let whole : Good row nobody ((pre ++ mid) ++ e ∷ post) = subst (λ (xs : List Entry). Good row nobody xs) lt.is good in
      let here : Good (walk row (pre ++ mid)) (walk_holds nobody (pre ++ mid)) (e ∷ post) = good_at row nobody (pre ++ mid) (e ∷ post) whole in
      let at : (walk row (pre ++ mid)).wts ≡ wts = extended_at (walk row (pre ++ mid)).wts wts (unless_marked (walk row (pre ++ mid)).mark a Extended) here.told.0 in
      by_later wts pre mid post e lt below at (λ d t v among i. elim among [
        | inl same ↦ absurd (not_install (Extend key wts time) Extended d t v (λ k g. (let f : Extend key wts time ≡ Install k t v = g in cc)) (ap (λ (x : Entry). x.ask.op) (sym same)) i)
        | inr more ↦
            let above : max (walk row (pre ++ mid)).rts time < t = installs_above (left e (walk row (pre ++ mid))) _ post (good_next (walk row (pre ++ mid)) (walk_holds nobody (pre ++ mid)) e post here) d t v more i in
            inl (omega arith)
      ])

  by_install : (key : RowKey) (wts rts shown : ℕ) (new : Option Value) (answer : Answer) → wts < time
      → own a es ≡ step a (Read key) (Got wts rts value) ∷ step a (Lock key) (Locked wts shown) ∷ step a (Install key time new) answer ∷ [] → ReadsTheLast row.newest a time value es
  by_install key wts rts shown new answer below steps =
      let e : Entry = step a (Install key time new) answer in
      let locks : Entry = step a (Lock key) (Locked wts shown) in
      let found = later key wts rts (locks ∷ []) e [] steps in
      let pre : List Entry = found.0 in
      let mid : List Entry = found.1 in
      let post : List Entry = found.2 in
      let lt : Later wts pre mid post e = found.3 in
      let whole : Good row nobody ((pre ++ mid) ++ e ∷ post) = subst (λ (xs : List Entry). Good row nobody xs) lt.is good in
      let here : Good (walk row (pre ++ mid)) (walk_holds nobody (pre ++ mid)) (e ∷ post) = good_at row nobody (pre ++ mid) (e ∷ post) whole in
      let held : walk_holds nobody (pre ++ mid) a ≡ Some (wts, shown) = walk_holds_own nobody (pre ++ mid) a ∙ ap (holds_at None) found.4 in
      let at : (walk row (pre ++ mid)).wts ≡ wts = (held_some (walk row (pre ++ mid)) a (walk_holds nobody (pre ++ mid) a) (wts, shown) held (here.stands a)).1 in
      let mine = (good_step (walk row (pre ++ mid)) (walk_holds nobody (pre ++ mid)) e post here) in
      let wrote = above_step (walk row (pre ++ mid)) (left e (walk row (pre ++ mid))) (Install key time new) answer time new (key, refl, mine.mine) mine.is in
      by_later wts pre mid post e lt below at (λ d t v among i. elim among [
        | inl same ↦
            let ops : Install key time new ≡ Install i.0 t v = ap (λ (x : Entry). x.ask.op) same ∙ i.1 in
            let times : time ≡ t = cc in
            inr (sym times, ap (λ (x : Entry). x.ask.by) (sym same))
        | inr more ↦
            let rts : (left e (walk row (pre ++ mid))).rts ≡ time = ap (λ (r : RowState). r.rts) wrote.1 in
            let above : (left e (walk row (pre ++ mid))).rts < t = installs_above (left e (walk row (pre ++ mid))) _ post (good_next (walk row (pre ++ mid)) (walk_holds nobody (pre ++ mid)) e post here) d t v more i in
            inl (omega arith)
      ])

  pub validated : Validates a time value (own a es) → ReadsTheLast row.newest a time value es
  validated (inl x) = by_reach x.0 x.1 x.2 x.3 x.4 x.5
  validated (inr (inl x)) = by_extension x.0 x.1 x.2 x.3 x.4
  validated (inr (inr x)) = by_install x.0 x.1 x.2 x.3 x.4 x.5 x.6 x.7

  -- a validated read lifts the key's read time to the attempt's
  reach_at : (pre post : List Entry) (e : Entry) → es ≡ pre ++ e ∷ post → time ≤ (left e (walk row pre)).rts → time ≤ (walk row es).rts
  reach_at pre post e is le =
      let whole : Good row nobody (pre ++ e ∷ post) = subst (λ (xs : List Entry). Good row nobody xs) is good in
      let here : Good (walk row pre) (walk_holds nobody pre) (e ∷ post) = good_at row nobody pre (e ∷ post) whole in
      let on : (left e (walk row pre)).rts ≤ (walk (left e (walk row pre)) post).rts = rts_rise (left e (walk row pre)) (next_holds e (walk_holds nobody pre)) post (good_next (walk row pre) (walk_holds nobody pre) e post here) in
      let same : walk row es ≡ walk (left e (walk row pre)) post = ap (walk row) is ∙ walk_append row pre (e ∷ post) in
      subst (λ (r : RowState). time ≤ r.rts) (sym same) (omega arith)

  pub reaches : Validates a time value (own a es) → time ≤ (walk row es).rts
  reaches (inl (key, wts, rts, below, reach, steps)) =
      let read : Entry = step a (Read key) (Got wts rts value) in
      let s : Split a es [] read [] = split a es [] read [] steps in
      let whole : Good row nobody (s.pre ++ read ∷ s.post) = subst (λ (xs : List Entry). Good row nobody xs) s.is good in
      let is = got_is wts rts (walk row s.pre).wts (walk row s.pre).rts value (walk row s.pre).newest (good_at row nobody s.pre (read ∷ s.post) whole).told.0 in
      reach_at s.pre s.post read s.is (subst (λ (n : ℕ). time ≤ n) is.1 reach)
  reaches (inr (inl (key, wts, rts, below, steps))) =
      let e : Entry = step a (Extend key wts time) Extended in
      let s : Split a es (step a (Read key) (Got wts rts value) ∷ []) e [] = split a es (step a (Read key) (Got wts rts value) ∷ []) e [] steps in
      reach_at s.pre s.post e s.is (omega arith)
  reaches (inr (inr (key, wts, rts, shown, new, answer, below, steps))) =
      let e : Entry = step a (Install key time new) answer in
      let front : List Entry = step a (Read key) (Got wts rts value) ∷ step a (Lock key) (Locked wts shown) ∷ [] in
      let s : Split a es front e [] = split a es front e [] steps in
      let whole : Good row nobody (s.pre ++ e ∷ s.post) = subst (λ (xs : List Entry). Good row nobody xs) s.is good in
      let here : Good (walk row s.pre) (walk_holds nobody s.pre) (e ∷ s.post) = good_at row nobody s.pre (e ∷ s.post) whole in
      let mine = good_step (walk row s.pre) (walk_holds nobody s.pre) e s.post here in
      let wrote = above_step (walk row s.pre) (left e (walk row s.pre)) (Install key time new) answer time new (key, refl, mine.mine) mine.is in
      let rts_is : (left e (walk row s.pre)).rts ≡ time = ap (λ (r : RowState). r.rts) wrote.1 in
      reach_at s.pre s.post e s.is (omega arith)

pub reads_are_last : OnEachKey ValidatedReadsAreLast
reads_are_last opening k journal orderly a time value how = validated (resting (opening k)) (on k journal) (good_start opening k journal orderly) a time value how

pub reads_reach : (opening : RowKey → Option Value) (k : RowKey) (journal : List Entry) → IsOrderly opening k journal → (a : AttemptId) (time : ℕ) (value : Option Value) → Validates a time value (own a (on k journal)) → time ≤ (walk (resting (opening k)) (on k journal)).rts
reads_reach opening k journal orderly a time value how = reaches (resting (opening k)) (on k journal) (good_start opening k journal orderly) a time value how
