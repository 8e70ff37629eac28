-- Many steps on one key: marks, write times, and what a validated read saw.
use Rattle.std.proofs.Common.{◌≡◌, ◌⊎◌, inl, inr, ℕ, ◌<◌, ◌≤◌, ◌==◌, max, Bool, true, false, cond, eqb, List, [], ◌∷◌, ◌++◌, Option, None, Some, refl, sym, ap, ◌∙◌, subst, arith}
use Rattle.std.proofs.lemmas.Bool.{eqb-true}
use Rattle.coco_types.specs.RowKey.{RowKey}
use Rattle.coco_types.specs.declared.value.Value.{Value}
use Rattle.coco_types.specs.declared.call.AttemptId.{AttemptId}
use Rattle.coco_shard.specs.declared.ops.Op.{Op}
use Rattle.coco_shard.specs.declared.ops.Op.TheVariants.{Read, Lock, Extend, Install, Release, Past}
use Rattle.coco_shard.specs.declared.ops.Answer.{Answer}
use Rattle.coco_shard.specs.declared.ops.Answer.TheVariants.{Got, Locked, Marked, Changed, Extended, Installed, Released, NotMine, Stood}
use Rattle.coco_shard.specs.RowState.{RowState}
use Rattle.coco_shard.specs.Table.{answer_at, left_by, is_mark_of, unless_marked, extended, installed}
use Rattle.coco_shard.specs.Law.{Entry}
use Rattle.coco_order.specs.OneKey.{Among, is_attempt, own, left, walk, AreTold, Shown, holds_after, holds_at, May, MayAll, Installs, IsLastBelow, IsMine, on}
use Rattle.coco_order.proofs.Attempts.{one_attempt, attempt_itself, by_bool, not_both, none_some, same_some, Among-append, Among-left, Among-right}
use Rattle.coco_order.proofs.Walking.{Holds, Stands, holds_next, InstallsBy, Wrote, Kept, Step, step_is, held_some}

pub record Good (row : RowState) (h : Holds) (es : List Entry) : Type 0 where
  pub times : row.wts ≤ row.rts
  pub stands : (a : AttemptId) → Stands row a (h a)
  pub told : AreTold row es
  pub may : (a : AttemptId) → MayAll (h a) (own a es)

abbrev pub next_holds : Entry → Holds → Holds
next_holds e h = holds_next e.ask.by e.ask.op e.answer h

abbrev pub walk_holds : Holds → List Entry → Holds
walk_holds h [] = h
walk_holds h (e ∷ es) = walk_holds (next_holds e h) es

head_may : (h : Holds) (e : Entry) (es : List Entry) → ((a : AttemptId) → MayAll (h a) (own a (e ∷ es))) → May (h e.ask.by) e.ask.op e.answer
head_may h e es may =
    let t : MayAll (h e.ask.by) (cond (is_attempt e.ask.by e.ask.by) (e ∷ own e.ask.by es) (own e.ask.by es)) = may e.ask.by in
    (subst (λ (b : Bool). MayAll (h e.ask.by) (cond b (e ∷ own e.ask.by es) (own e.ask.by es))) (attempt_itself e.ask.by) t).0

tail_may : (h : Holds) (e : Entry) (es : List Entry) → ((a : AttemptId) → MayAll (h a) (own a (e ∷ es))) → (a : AttemptId) → MayAll (next_holds e h a) (own a es)
tail_may h e es may a = from (is_attempt e.ask.by a) (may a)
  where
    from : (b : Bool) → MayAll (h a) (cond b (e ∷ own a es) (own a es)) → MayAll (cond b (holds_after (h a) e.ask.op e.answer) (h a)) (own a es)
    from true t = t.1
    from false t = t

pub good_step : (row : RowState) (h : Holds) (e : Entry) (es : List Entry) → Good row h (e ∷ es) → Step row h e.ask.by e.ask.op e.answer
good_step row h e es good = step_is row h e.ask.by good.stands e.ask.op e.answer good.told.0 (head_may h e es good.may)

times_next : (row next : RowState) (op : Op) (answer : Answer) → row.wts ≤ row.rts → (Wrote row next op answer ⊎ Kept row next op answer) → next.wts ≤ next.rts
times_next row next op answer le (inl w) = subst (λ (r : RowState). r.wts ≤ r.rts) (sym w.is) (omega arith)
times_next row next op answer le (inr k) = omega (arith, k.wts, k.rts)

pub good_next : (row : RowState) (h : Holds) (e : Entry) (es : List Entry) → Good row h (e ∷ es) → Good (left e row) (next_holds e h) es
good_next row h e es good =
    let s : Step row h e.ask.by e.ask.op e.answer = good_step row h e es good in
    record {
      times = times_next row (left e row) e.ask.op e.answer good.times s.is;
      stands = s.stands;
      told = good.told.1;
      may = tail_may h e es good.may;
    }

-- ---- along the list

rts_next : (row next : RowState) (op : Op) (answer : Answer) → (Wrote row next op answer ⊎ Kept row next op answer) → row.rts ≤ next.rts
rts_next row next op answer (inl w) = subst (λ (r : RowState). row.rts ≤ r.rts) (sym w.is) (let lt : row.rts < w.time = w.above in omega arith)
rts_next row next op answer (inr k) = k.rts

pub rts_rise : (row : RowState) (h : Holds) (es : List Entry) → Good row h es → row.rts ≤ (walk row es).rts
rts_rise row h [] good = omega arith
rts_rise row h (e ∷ es) good =
    let first : row.rts ≤ (left e row).rts = rts_next row (left e row) e.ask.op e.answer (good_step row h e es good).is in
    let rest : (left e row).rts ≤ (walk (left e row) es).rts = rts_rise (left e row) (next_holds e h) es (good_next row h e es good) in
    omega arith

pub all_mine : (row : RowState) (h : Holds) (es : List Entry) → Good row h es → (e : Entry) → Among es e → IsMine e.ask.op e.answer
all_mine row h [] good e among = absurd among
all_mine row h (d ∷ es) good e (inl same) = subst (λ (x : Entry). IsMine x.ask.op x.answer) same (good_step row h d es good).mine
all_mine row h (d ∷ es) good e (inr more) = all_mine (left d row) (next_holds d h) es (good_next row h d es good) e more

pub above_step : (row next : RowState) (op : Op) (answer : Answer) (t : ℕ) (v : Option Value) → InstallsBy op answer t v → (Wrote row next op answer ⊎ Kept row next op answer) → (row.rts < t) × (next ≡ installed t v row)
above_step row next op answer t v i (inl w) =
    let ops : Install w.installs.0 w.time w.value ≡ Install i.0 t v = sym w.installs.1 ∙ i.1 in
    let times : w.time ≡ t = cc in
    let values : w.value ≡ v = cc in
    (subst (λ (n : ℕ). row.rts < n) times w.above, w.is ∙ ap (λ n. installed n w.value row) times ∙ ap (λ u. installed t u row) values)
above_step row next op answer t v i (inr k) = absurd (k.no t v i)

-- what is installed is above the read time before
pub installs_above : (row : RowState) (h : Holds) (es : List Entry) → Good row h es → (e : Entry) (t : ℕ) (v : Option Value) → Among es e → Installs e t v → row.rts < t
installs_above row h [] good e t v among i = absurd among
installs_above row h (d ∷ es) good e t v (inl same) i =
    let j : Installs d t v = subst (λ (x : Entry). Installs x t v) (sym same) i in
    (above_step row (left d row) d.ask.op d.answer t v j (good_step row h d es good).is).0
installs_above row h (d ∷ es) good e t v (inr more) i =
    let first : row.rts ≤ (left d row).rts = rts_next row (left d row) d.ask.op d.answer (good_step row h d es good).is in
    let rest : (left d row).rts < t = installs_above (left d row) (next_holds d h) es (good_next row h d es good) e t v more i in
    omega arith

-- of two entries that install at one time each is the other
pub one_install : (row : RowState) (h : Holds) (es : List Entry) → Good row h es → (e d : Entry) (t : ℕ) (v u : Option Value) → Among es e → Among es d → Installs e t v → Installs d t u → e ≡ d
one_install row h [] good e d t v u in_e in_d i j = absurd in_e
one_install row h (x ∷ es) good e d t v u (inl same_e) (inl same_d) i j = sym same_e ∙ same_d
one_install row h (x ∷ es) good e d t v u (inl same_e) (inr more_d) i j =
    let first : Installs x t v = subst (λ (y : Entry). Installs y t v) (sym same_e) i in
    let is = (above_step row (left x row) x.ask.op x.answer t v first (good_step row h x es good).is).1 in
    let rts : (left x row).rts ≡ t = ap (λ (r : RowState). r.rts) is in
    let lt : (left x row).rts < t = installs_above (left x row) (next_holds x h) es (good_next row h x es good) d t u more_d j in
    absurd (omega arith)
one_install row h (x ∷ es) good e d t v u (inr more_e) (inl same_d) i j =
    let first : Installs x t u = subst (λ (y : Entry). Installs y t u) (sym same_d) j in
    let is = (above_step row (left x row) x.ask.op x.answer t u first (good_step row h x es good).is).1 in
    let rts : (left x row).rts ≡ t = ap (λ (r : RowState). r.rts) is in
    let lt : (left x row).rts < t = installs_above (left x row) (next_holds x h) es (good_next row h x es good) e t v more_e i in
    absurd (omega arith)
one_install row h (x ∷ es) good e d t v u (inr more_e) (inr more_d) i j = one_install (left x row) (next_holds x h) es (good_next row h x es good) e d t v u more_e more_d i j

-- the version stays, or a later one stands
pub version : (row : RowState) (h : Holds) (es : List Entry) → Good row h es → (((walk row es).wts ≡ row.wts) × ((walk row es).newest ≡ row.newest)) ⊎ (row.rts < (walk row es).wts)
version row h [] good = inl (refl, refl)
version row h (e ∷ es) good = from (good_step row h e es good).is (version (left e row) (next_holds e h) es (good_next row h e es good))
  where
    from : (Wrote row (left e row) e.ask.op e.answer ⊎ Kept row (left e row) e.ask.op e.answer)
        → ((((walk (left e row) es).wts ≡ (left e row).wts) × ((walk (left e row) es).newest ≡ (left e row).newest)) ⊎ ((left e row).rts < (walk (left e row) es).wts))
        → (((walk (left e row) es).wts ≡ row.wts) × ((walk (left e row) es).newest ≡ row.newest)) ⊎ (row.rts < (walk (left e row) es).wts)
    from (inl w) (inl same) =
        let wts : (left e row).wts ≡ w.time = ap (λ (r : RowState). r.wts) w.is in
        let is : (walk (left e row) es).wts ≡ (left e row).wts = same.0 in
        let above : row.rts < w.time = w.above in inr (omega arith)
    from (inl w) (inr later) =
        let rts : (left e row).rts ≡ w.time = ap (λ (r : RowState). r.rts) w.is in
        let above : row.rts < w.time = w.above in inr (omega arith)
    from (inr k) (inl same) = inl (same.0 ∙ k.wts, same.1 ∙ k.newest)
    from (inr k) (inr later) = let rts : row.rts ≤ (left e row).rts = k.rts in inr (omega arith)

-- the write time is that of the last install
pub installs_within : (row : RowState) (h : Holds) (es : List Entry) → Good row h es → (e : Entry) (t : ℕ) (v : Option Value) → Among es e → Installs e t v → t ≤ (walk row es).wts
installs_within row h [] good e t v among i = absurd among
installs_within row h (d ∷ es) good e t v (inl same) i =
    let j : Installs d t v = subst (λ (x : Entry). Installs x t v) (sym same) i in
    let is = (above_step row (left d row) d.ask.op d.answer t v j (good_step row h d es good).is).1 in
    let wts : (left d row).wts ≡ t = ap (λ (r : RowState). r.wts) is in
    let rts : (left d row).rts ≡ t = ap (λ (r : RowState). r.rts) is in
    elim (version (left d row) (next_holds d h) es (good_next row h d es good)) [ inl kept ↦ (let e : (walk (left d row) es).wts ≡ (left d row).wts = kept.0 in omega arith) | inr later ↦ omega (arith, later) ]
installs_within row h (d ∷ es) good e t v (inr more) i = installs_within (left d row) (next_holds d h) es (good_next row h d es good) e t v more i

abbrev pub Installed-nothing : List Entry → Type 0
Installed-nothing es = (e : Entry) (t : ℕ) (v : Option Value) → Among es e → Installs e t v → ⊥

-- nothing was installed, or the newest version is the last one that was
pub last_written : (row : RowState) (h : Holds) (es : List Entry) → Good row h es
    → (Installed-nothing es × ((walk row es).newest ≡ row.newest)) ⊎ ((last : Entry) × Among es last × Installs last (walk row es).wts (walk row es).newest)
last_written row h [] good = inl (λ e t v among i. absurd among, refl)
last_written row h (d ∷ es) good =
    from (good_step row h d es good).is (version (left d row) (next_holds d h) es (good_next row h d es good)) (last_written (left d row) (next_holds d h) es (good_next row h d es good))
  where
    from : (Wrote row (left d row) d.ask.op d.answer ⊎ Kept row (left d row) d.ask.op d.answer)
        → ((((walk (left d row) es).wts ≡ (left d row).wts) × ((walk (left d row) es).newest ≡ (left d row).newest)) ⊎ ((left d row).rts < (walk (left d row) es).wts))
        → ((Installed-nothing es × ((walk (left d row) es).newest ≡ (left d row).newest)) ⊎ ((last : Entry) × Among es last × Installs last (walk (left d row) es).wts (walk (left d row) es).newest))
        → (Installed-nothing (d ∷ es) × ((walk (left d row) es).newest ≡ row.newest)) ⊎ ((last : Entry) × Among (d ∷ es) last × Installs last (walk (left d row) es).wts (walk (left d row) es).newest)
    from which ver (inr found) = inr (found.0, inr found.1, found.2)
    from (inr k) ver (inl none) = inl (λ e t v among i. elim among [ inl same ↦ k.no t v (subst (λ (x : Entry). Installs x t v) (sym same) i) | inr more ↦ none.0 e t v more i ], none.1 ∙ k.newest)
    from (inl w) (inl kept) (inl none) =
        let wts : w.time ≡ (walk (left d row) es).wts = sym (kept.0 ∙ ap (λ (r : RowState). r.wts) w.is) in
        let newest : w.value ≡ (walk (left d row) es).newest = sym (kept.1 ∙ ap (λ (r : RowState). r.newest) w.is) in
        inr (d, inl refl, (w.installs.0, w.installs.1 ∙ ap (λ t. Install w.installs.0 t w.value) wts ∙ ap (Install w.installs.0 (walk (left d row) es).wts) newest, w.installs.2))
    from (inl w) (inr later) (inl none) = absurd (elsewhere (last_version es (left d row) (next_holds d h) (good_next row h d es good) none.0) later)
      where
        last_version : (xs : List Entry) (r : RowState) (g : Holds) → Good r g xs → Installed-nothing xs → (walk r xs).wts ≡ r.wts
        last_version [] r g fine none = refl
        last_version (x ∷ xs) r g fine none =
            last_version xs (left x r) (next_holds x g) (good_next r g x xs fine) (λ e t v among i. none e t v (inr among) i)
            ∙ elim (good_step r g x xs fine).is [ inl wr ↦ absurd (none x wr.time wr.value (inl refl) wr.installs) | inr k ↦ k.wts ]

        elsewhere : (walk (left d row) es).wts ≡ (left d row).wts → (left d row).rts < (walk (left d row) es).wts → ⊥
        elsewhere same lt = let le : (left d row).wts ≤ (left d row).rts = (good_next row h d es good).times in omega arith

-- ---- at a place

pub walk_append : (row : RowState) (pre post : List Entry) → walk row (pre ++ post) ≡ walk (walk row pre) post
walk_append row [] post = refl
walk_append row (e ∷ pre) post = walk_append (left e row) pre post

pub good_at : (row : RowState) (h : Holds) (pre post : List Entry) → Good row h (pre ++ post) → Good (walk row pre) (walk_holds h pre) post
good_at row h [] post good = good
good_at row h (e ∷ pre) post good = good_at (left e row) (next_holds e h) pre post (good_next row h e (pre ++ post) good)

told_front : (row : RowState) (pre post : List Entry) → AreTold row (pre ++ post) → AreTold row pre
told_front row [] post told = tt
told_front row (e ∷ pre) post told = (told.0, told_front (left e row) pre post told.1)

pub own_append : (a : AttemptId) (pre post : List Entry) → own a (pre ++ post) ≡ own a pre ++ own a post
own_append a [] post = refl
own_append a (e ∷ pre) post =
    by_bool (λ b. cond b (e ∷ own a (pre ++ post)) (own a (pre ++ post)) ≡ cond b (e ∷ own a pre) (own a pre) ++ own a post) (is_attempt e.ask.by a)
    (λ _. ap (λ (es : List Entry). e ∷ es) (own_append a pre post)) (λ _. own_append a pre post)

may_front : (h : Shown) (pre post : List Entry) → MayAll h (pre ++ post) → MayAll h pre
may_front h [] post may = tt
may_front h (e ∷ pre) post may = (may.0, may_front (holds_after h e.ask.op e.answer) pre post may.1)

pub good_front : (row : RowState) (h : Holds) (pre post : List Entry) → Good row h (pre ++ post) → Good row h pre
good_front row h pre post good = record {
  times = good.times;
  stands = good.stands;
  told = told_front row pre post good.told;
  may = λ a. may_front (h a) (own a pre) (own a post) (subst (λ (es : List Entry). MayAll (h a) es) (own_append a pre post) (good.may a));
}

pub walk_holds_own : (h : Holds) (es : List Entry) (a : AttemptId) → walk_holds h es a ≡ holds_at (h a) (own a es)
walk_holds_own h [] a = refl
walk_holds_own h (e ∷ es) a =
    walk_holds_own (next_holds e h) es a
    ∙ by_bool (λ b. holds_at (cond b (holds_after (h a) e.ask.op e.answer) (h a)) (own a es) ≡ holds_at (h a) (cond b (e ∷ own a es) (own a es))) (is_attempt e.ask.by a) (λ _. refl) (λ _. refl)

clear_mark : (mark : Option AttemptId) → ((a : AttemptId) → is_mark_of a mark ≡ false) → mark ≡ None
clear_mark None none = refl
clear_mark (Some holder) none = absurd (not_both (is_attempt holder holder) (attempt_itself holder) (none holder))

stands_clear : (row : RowState) (a : AttemptId) (x : Shown) → x ≡ None → Stands row a x → is_mark_of a row.mark ≡ false
stands_clear row a None e s = s
stands_clear row a (Some p) e s = absurd (none_some (sym e))

-- where each attempt holds nothing at its end, no mark stands
pub end_clear : (row : RowState) (h : Holds) (es : List Entry) → Good row h es → ((a : AttemptId) → holds_at (h a) (own a es) ≡ None) → (walk row es).mark ≡ None
end_clear row h es good ends =
    let last : Good row h (es ++ []) = subst (λ (xs : List Entry). Good row h xs) (sym (nil es)) good in
    clear_mark (walk row es).mark (λ a. stands_clear (walk row es) a (walk_holds h es a) (walk_holds_own h es a ∙ ends a) ((good_at row h es [] last).stands a))
  where
    nil : (xs : List Entry) → xs ++ [] ≡ xs
    nil [] = refl
    nil (x ∷ xs) = ap (λ (ys : List Entry). x ∷ ys) (nil xs)
