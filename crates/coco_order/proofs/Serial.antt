-- Acts by rising times, each of which read the last writes below its time, are a serial run.
use Rattle.std.proofs.Common.{◌≡◌, ◌⊎◌, inl, inr, ℕ, ◌<◌, ◌≤◌, Bool, true, false, cond, List, [], ◌∷◌, ◌++◌, Option, None, Some, refl, sym, ap, ◌∙◌, subst, arith, append_assoc}
use Rattle.std.proofs.lemmas.List.{append-nil}
use Rattle.std.specs.Option.{option_or, unwrap_or}
use Rattle.std.specs.List.{AllByRecursion}
use Rattle.coco_types.specs.RowKey.{RowKey}
use Rattle.coco_types.specs.declared.call.AttemptId.{AttemptId}
use Rattle.coco_types.specs.declared.call.Write.{Write}
use Rattle.coco_types.specs.declared.call.Done.{Done}
use Rattle.coco_ast.specs.Tree.{Procedures}
use Rattle.coco_ast.specs.Keyed.{Rows, value_at, write_at, put_over, AgreeOn}
use Rattle.coco_ast.specs.Meaning.{Datum, Run, run, is_key}
use Rattle.coco_ast.specs.History.{rows_after, RepliesAreRuns}
use Rattle.coco_ast.specs.RunLaws.{RunAlike}
use Rattle.coco_ast.proofs.Writing.{value_written}
use Rattle.coco_ast.proofs.RunsPutWrites.{run_puts_writes}
use Rattle.coco_ast.proofs.Depending.{run_depends}
use Rattle.coco_order.specs.OneKey.{Among}
use Rattle.coco_order.proofs.Attempts.{Among-append, Among-left, Among-right, none_some, same_some}

-- ---- what a list of writes says of a key

abbrev pub written : RowKey → List Write → Option Datum
written k [] = None
written k (w ∷ ws) = option_or (written k ws) (cond (is_key k w.key) (Some w.value) None)

later_write : (o : Option Datum) (b : Bool) (v x : Datum) → unwrap_or o (cond b v x) ≡ unwrap_or (option_or o (cond b (Some v) None)) x
later_write (Some w) b v x = refl
later_write None true v x = refl
later_write None false v x = refl

pub value_over : (m : Rows) (ws : List Write) (k : RowKey) → value_at (put_over m ws) k ≡ unwrap_or (written k ws) (value_at m k)
value_over m [] k = refl
value_over m (w ∷ ws) k =
    value_over (write_at m w.key w.value) ws k ∙ ap (unwrap_or (written k ws)) (value_written m w.key w.value k) ∙ later_write (written k ws) (is_key k w.key) w.value (value_at m k)

-- ---- acts

-- an attempt's Done, with a map that has what it read
pub record Act : Type 0 where
  pub by : AttemptId
  pub done : Done
  pub seen : Rows

abbrev pub dones : List Act → List Done
dones [] = []
dones (a ∷ acts) = a.done ∷ dones acts

-- with another map seen
abbrev pub seeing : Act → Rows → Act
seeing a seen = record a { seen = seen }

-- by rising times, no attempt twice
abbrev pub RiseInTime : List Act → Type 0
RiseInTime [] = Unit {0}
RiseInTime (a ∷ acts) = ((b : Act) → Among acts b → (a.done.time ≤ b.done.time) × (b.by ≡ a.by → ⊥)) × RiseInTime acts

module _ (ps : Procedures) (opening : Rows) where
  abbrev pub ran : Act → Run
  ran a = run ps a.done.call a.seen

  abbrev pub writes_at : Act → RowKey → Option Datum
  writes_at a k = written k (ran a).writes

  -- the value is that of the last write below the time, or the opening one
  abbrev pub LastBelow : List Act → RowKey → ℕ → Datum → Type 0
  LastBelow acts k time value =
      ((value ≡ value_at opening k) × ((a : Act) → Among acts a → a.done.time < time → writes_at a k ≡ None))
      ⊎ ((last : Act) × Among acts last × (writes_at last k ≡ Some value) × (last.done.time < time) × ((a : Act) (v : Datum) → Among acts a → a.done.time < time → writes_at a k ≡ Some v → a.done.time ≤ last.done.time))

  pub record IsRight (acts : List Act) (a : Act) : Type 0 where
    pub reply : a.done.reply ≡ (ran a).reply
    pub last : AllByRecursion (λ k. LastBelow acts k a.done.time (value_at a.seen k)) (ran a).needs
    pub alone : AllByRecursion (λ k. (b : Act) (v : Datum) → Among acts b → b.done.time ≡ a.done.time → writes_at b k ≡ Some v → b.by ≡ a.by) (ran a).needs

  -- two acts of one time don't write two values of one key
  abbrev pub ApartInTime : List Act → Type 0
  ApartInTime acts = (a b : Act) (k : RowKey) (v w : Datum) → Among acts a → Among acts b → a.done.time ≡ b.done.time → writes_at a k ≡ Some v → writes_at b k ≡ Some w → v ≡ w

  -- ---- the map so far

  -- a key's value is that of the last write before, and that one has the greatest time
  abbrev pub Latest : List Act → Rows → Type 0
  Latest before m = (k : RowKey) →
      ((value_at m k ≡ value_at opening k) × ((a : Act) → Among before a → writes_at a k ≡ None))
      ⊎ ((last : Act) × Among before last × (writes_at last k ≡ Some (value_at m k)) × ((a : Act) (v : Datum) → Among before a → writes_at a k ≡ Some v → a.done.time ≤ last.done.time))

  module _ (before : List Act) (a : Act) (rest : List Act) (m : Rows)
      (latest : Latest before m) (right : IsRight (before ++ a ∷ rest) a) (apart : ApartInTime (before ++ a ∷ rest))
      (earlier : (b : Act) → Among before b → (b.done.time ≤ a.done.time) × (a.by ≡ b.by → ⊥)) (after : (b : Act) → Among rest b → a.done.time ≤ b.done.time) where
    all_of : List Act
    all_of = before ++ a ∷ rest

    -- a write before this act is below its time
    below : (k : RowKey) → ((b : Act) (v : Datum) → Among (before ++ a ∷ rest) b → b.done.time ≡ a.done.time → writes_at b k ≡ Some v → b.by ≡ a.by)
        → (b : Act) (v : Datum) → Among before b → writes_at b k ≡ Some v → b.done.time < a.done.time
    below k alone b v in_b w =
        elim (cases b.done.time a.done.time (earlier b in_b).0) [
          | inl lt ↦ lt
          | inr same ↦ absurd ((earlier b in_b).1 (sym (alone b v (Among-left before (a ∷ rest) b in_b) same w)))
        ]
      where
        cases : (x y : ℕ) → x ≤ y → (x < y) ⊎ (x ≡ y)
        cases x y le = grind arith

    -- what is below its time stands before it
    before_it : (b : Act) → Among (before ++ a ∷ rest) b → b.done.time < a.done.time → Among before b
    before_it b among lt =
        elim (Among-append before (a ∷ rest) b among) [
          | inl early ↦ early
          | inr (inl same) ↦ absurd (let e : a.done.time ≡ b.done.time = ap (λ (x : Act). x.done.time) same in omega arith)
          | inr (inr late) ↦ absurd (let le : a.done.time ≤ b.done.time = after b late in omega arith)
        ]

    agrees_at : (seen : Rows) (k : RowKey) → LastBelow (before ++ a ∷ rest) k a.done.time (value_at seen k)
        → ((b : Act) (v : Datum) → Among (before ++ a ∷ rest) b → b.done.time ≡ a.done.time → writes_at b k ≡ Some v → b.by ≡ a.by)
        → value_at seen k ≡ value_at m k
    agrees_at seen k found alone = from found (latest k)
      where
        from : LastBelow (before ++ a ∷ rest) k a.done.time (value_at seen k)
            → (((value_at m k ≡ value_at opening k) × ((b : Act) → Among before b → writes_at b k ≡ None))
            ⊎ ((last : Act) × Among before last × (writes_at last k ≡ Some (value_at m k)) × ((b : Act) (v : Datum) → Among before b → writes_at b k ≡ Some v → b.done.time ≤ last.done.time)))
            → value_at seen k ≡ value_at m k
        from (inl none) (inl nothing) = none.0 ∙ sym nothing.0
        from (inl none) (inr some) =
            let lt : some.0.done.time < a.done.time = below k alone some.0 (value_at m k) some.1 some.2 in
            absurd (none_some (sym (none.1 some.0 (Among-left before (a ∷ rest) some.0 some.1) lt) ∙ some.2))
        from (inr last) (inl nothing) = absurd (none_some (sym (nothing.1 last.0 (before_it last.0 last.1 last.3)) ∙ last.2))
        from (inr last) (inr some) =
            let lt : some.0.done.time < a.done.time = below k alone some.0 (value_at m k) some.1 some.2 in
            let in_last : Among before last.0 = before_it last.0 last.1 last.3 in
            let le : last.0.done.time ≤ some.0.done.time = some.3 last.0 (value_at seen k) in_last last.2 in
            let ge : some.0.done.time ≤ last.0.done.time = last.4 some.0 (value_at m k) (Among-left before (a ∷ rest) some.0 some.1) lt some.2 in
            apart last.0 some.0 k (value_at seen k) (value_at m k) last.1 (Among-left before (a ∷ rest) some.0 some.1) (omega arith) last.2 some.2

    agree_on : (seen : Rows) (keys : List RowKey) → AllByRecursion (λ k. LastBelow (before ++ a ∷ rest) k a.done.time (value_at seen k)) keys
        → AllByRecursion (λ k. (b : Act) (v : Datum) → Among (before ++ a ∷ rest) b → b.done.time ≡ a.done.time → writes_at b k ≡ Some v → b.by ≡ a.by) keys
        → AgreeOn keys seen m
    agree_on seen [] last alone = tt
    agree_on seen (k ∷ keys) last alone = (agrees_at seen k last.0 alone.0, agree_on seen keys last.1 alone.1)

    -- on any map on which this act is right
    pub alike_on : (seen : Rows) → IsRight (before ++ a ∷ rest) (seeing a seen) → RunAlike (run ps a.done.call seen) (run ps a.done.call m)
    alike_on seen there = run_depends ps a.done.call seen m (agree_on seen (run ps a.done.call seen).needs there.last there.alone)

    pub alike : RunAlike (run ps a.done.call a.seen) (run ps a.done.call m)
    alike = alike_on a.seen right

    over : (k : RowKey) → value_at (run ps a.done.call m).rows k ≡ unwrap_or (writes_at a k) (value_at m k)
    over k =
        ap (λ (n : Rows). value_at n k) (run_puts_writes ps a.done.call m) ∙ value_over m (run ps a.done.call m).writes k
        ∙ ap (λ (ws : List Write). unwrap_or (written k ws) (value_at m k)) (sym alike.writes)

    pub latest_next : Latest (before ++ a ∷ []) (run ps a.done.call m).rows
    latest_next k = from (writes_at a k) refl (latest k)
      where
        from : (o : Option Datum) → writes_at a k ≡ o
            → (((value_at m k ≡ value_at opening k) × ((b : Act) → Among before b → writes_at b k ≡ None))
            ⊎ ((last : Act) × Among before last × (writes_at last k ≡ Some (value_at m k)) × ((b : Act) (v : Datum) → Among before b → writes_at b k ≡ Some v → b.done.time ≤ last.done.time)))
            → (((value_at (run ps a.done.call m).rows k ≡ value_at opening k) × ((b : Act) → Among (before ++ a ∷ []) b → writes_at b k ≡ None))
            ⊎ ((last : Act) × Among (before ++ a ∷ []) last × (writes_at last k ≡ Some (value_at (run ps a.done.call m).rows k)) × ((b : Act) (v : Datum) → Among (before ++ a ∷ []) b → writes_at b k ≡ Some v → b.done.time ≤ last.done.time)))
        from (Some v) is old =
            let now : value_at (run ps a.done.call m).rows k ≡ v = over k ∙ ap (λ (o : Option Datum). unwrap_or o (value_at m k)) is in
            inr (
              a,
              Among-right before (a ∷ []) a (inl refl),
              is ∙ ap Some (sym now),
              λ b w among wr. elim (Among-append before (a ∷ []) b among) [
                | inl early ↦ (earlier b early).0
                | inr (inl same) ↦ (let e : a.done.time ≡ b.done.time = ap (λ (x : Act). x.done.time) same in omega arith)
                | inr (inr late) ↦ absurd late
              ],
            )
        from None is (inl nothing) =
            let now : value_at (run ps a.done.call m).rows k ≡ value_at m k = over k ∙ ap (λ (o : Option Datum). unwrap_or o (value_at m k)) is in
            inl (
              now ∙ nothing.0,
              λ b among. elim (Among-append before (a ∷ []) b among) [
                | inl early ↦ nothing.1 b early
                | inr (inl same) ↦ subst (λ (x : Act). writes_at x k ≡ None) same is
                | inr (inr late) ↦ absurd late
              ],
            )
        from None is (inr some) =
            let now : value_at (run ps a.done.call m).rows k ≡ value_at m k = over k ∙ ap (λ (o : Option Datum). unwrap_or o (value_at m k)) is in
            inr (
              some.0,
              Among-left before (a ∷ []) some.0 some.1,
              some.2 ∙ ap Some (sym now),
              λ b w among wr. elim (Among-append before (a ∷ []) b among) [
                | inl early ↦ some.3 b w early wr
                | inr (inl same) ↦ absurd (none_some (sym (subst (λ (x : Act). writes_at x k ≡ None) same is) ∙ wr))
                | inr (inr late) ↦ absurd late
              ],
            )

  -- ---- all of them

  rise_split : (before : List Act) (a : Act) (rest : List Act) → RiseInTime (before ++ a ∷ rest)
      → ((b : Act) → Among before b → (b.done.time ≤ a.done.time) × (a.by ≡ b.by → ⊥)) × ((b : Act) → Among rest b → a.done.time ≤ b.done.time)
  rise_split [] a rest rise = (λ b among. absurd among, λ b among. (rise.0 b among).0)
  rise_split (x ∷ before) a rest rise =
      let more = rise_split before a rest rise.1 in (
        λ b among. elim among [
          | inl same ↦ subst (λ (y : Act). (y.done.time ≤ a.done.time) × (a.by ≡ y.by → ⊥)) same (rise.0 a (Among-right before (a ∷ rest) a (inl refl)))
          | inr late ↦ more.0 b late
        ],
        more.1,
      )

  -- each act writes what its call's run writes on the map so far, also with any other map seen on which it is right
  abbrev pub WriteThere : List Act → Rows → List Act → Type 0
  WriteThere all m [] = Unit {0}
  WriteThere all m (a ∷ acts) = ((seen : Rows) → IsRight all (seeing a seen) → (run ps a.done.call seen).writes ≡ (run ps a.done.call m).writes) × WriteThere all (run ps a.done.call m).rows acts

  pub record Serial (m : Rows) (before rest : List Act) : Type 0 where
    pub replies : RepliesAreRuns ps m (dones rest)
    pub writes : WriteThere (before ++ rest) m rest
    pub latest : Latest (before ++ rest) (rows_after ps m (dones rest))

  serial_from : (before rest : List Act) (m : Rows) → Latest before m → ((a : Act) → Among (before ++ rest) a → IsRight (before ++ rest) a) → ApartInTime (before ++ rest) → RiseInTime (before ++ rest) → Serial m before rest
  serial_from before [] m latest right apart rise = record { replies = tt; writes = tt; latest = subst (λ (xs : List Act). Latest xs m) (sym (append-nil before)) latest }
  serial_from before (a ∷ rest) m latest right apart rise =
      let sides = rise_split before a rest rise in
      let here : IsRight (before ++ a ∷ rest) a = right a (Among-right before (a ∷ rest) a (inl refl)) in
      let same : RunAlike (run ps a.done.call a.seen) (run ps a.done.call m) = alike before a rest m latest here apart sides.0 sides.1 in
      let joined : (before ++ a ∷ []) ++ rest ≡ before ++ a ∷ rest = append_assoc before (a ∷ []) rest in
      let next : Serial (run ps a.done.call m).rows (before ++ a ∷ []) rest =
      serial_from (before ++ a ∷ []) rest (run ps a.done.call m).rows (latest_next before a rest m latest here apart sides.0 sides.1)
      (subst (λ (xs : List Act). (b : Act) → Among xs b → IsRight xs b) (sym joined) right)
      (subst (λ (xs : List Act). ApartInTime xs) (sym joined) apart)
      (subst (λ (xs : List Act). RiseInTime xs) (sym joined) rise) in
      record {
        replies = (here.reply ∙ same.reply, next.replies);
        writes = (
          λ seen there. (alike_on before a rest m latest here apart sides.0 sides.1 seen there).writes,
          subst (λ (xs : List Act). WriteThere xs (run ps a.done.call m).rows rest) joined next.writes,
        );
        latest = subst (λ (xs : List Act). Latest xs (rows_after ps (run ps a.done.call m).rows (dones rest))) joined next.latest;
      }

  pub serial : (acts : List Act) → ((a : Act) → Among acts a → IsRight acts a) → ApartInTime acts → RiseInTime acts → Serial opening [] acts
  serial acts right apart rise = serial_from [] acts opening (λ k. inl (refl, λ a among. absurd among)) right apart rise
