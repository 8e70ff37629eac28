-- A crew of readers before and after it ran, and what its locks closed with.
use Rattle.std.proofs.Common.{◌≡◌, ℕ, zero, suc, ◌+◌, ◌%◌, ◌<◌, true, List, [], ◌∷◌, ◌++◌, All, Any, IsTrue, map, length, Some, slice_index_or, vec_len, refl, sym, ap, ◌∙◌, subst, arith}
use Rattle.std.specs.Prelude.{sum_by}
use Rattle.std.specs.FinMap.{empty}
use Rattle.std.specs.Global.{Vec}
use Rattle.std.specs.List.{AllByRecursion, flat_map, slice_get}
use Rattle.std.proofs.lemmas.List.{get_or-map, length-map, same_lists}
use Rattle.std.proofs.lemmas.List.Elements.{All-map, recursion_from_All}
use Rattle.std.proofs.lemmas.List.Sums.{sum_by-cons}
use Rattle.std.proofs.lemmas.Nat.{mod_below}
use Rattle.std.proofs.lemmas.Option.{same_Some, slice_get-get_or, slice_get_within}
use Rattle.coco_types.specs.declared.call.Request.{Request}
use Rattle.coco_ast.proofs.Lists.{all_weaker}
use Rattle.coco_ast.specs.Tree.{Procedures}
use Rattle.coco_claim.specs.Numbers.{times}
use Rattle.coco_claim.specs.Seats.{Drawer, Round, has_ended, new_seats, times_drawn}
use Rattle.coco_claim.proofs.Drawing.{fresh_seats, seats_count}
use Rattle.coco_desks.specs.Desks.{AreBackBy, AreDealt, HasRoom}
use Rattle.coco_desks.specs.Gains.{AreOf, AreSame, done_by}
use Rattle.coco_desks.specs.Rows.{column}
use Rattle.coco_desks.proofs.DeskLemmas.{ClosedBy, as_many_started, back_count, bears, closed_by, dealt_pass, journals_count, machines_count, notes_back, row_dealt, rows_back, same_pass}
use Rattle.coco_desks.proofs.RowLemmas.{any_default, in_column, some_at}
use Rattle.coco_eval.specs.declared.machine.Given.{Given}
use Rattle.coco_journaled.specs.declared.entry.Entry.{Entry}
use Rattle.coco_journaled.specs.declared.entry.Placed.{Placed}
use Rattle.coco_journaled.specs.Passes.{entries_of, entry_of, new_pass}
use Rattle.coco_seen.specs.Notes.{Lock, TableId}
use Rattle.coco_query.specs.Answers.{FrozenJournal, IsIn, entered, journal_at}
use Rattle.coco_query.specs.Crews.{HaveLeft, LeavesEach, reader_of, readers_of}
use Rattle.coco_query.specs.Frozen.{after_ask, answer_in, had, table_at}
use Rattle.coco_query.specs.Placing.{HasRun, HaveRun}
use Rattle.coco_query.specs.Reading.{FrozenPass, IsAnswered, gets_at, got, root_of}
use Rattle.coco_query.specs.Readers.{IsSeated, Leaves, had_by, places_of, points_of, reading_of}
use Rattle.coco_query.specs.declared.answering.ReadersEnd.{ReadersEnd}
use Rattle.coco_query.specs.declared.frozen.Frozen.{Frozen}
use Rattle.coco_query.specs.declared.frozen.Frozen.TheVariants.{Shard}
use Rattle.coco_query.specs.declared.frozen.FrozenAnswer.{FrozenAnswer}
use Rattle.coco_query.specs.declared.frozen.FrozenAsk.{FrozenAsk}
use Rattle.coco_query.specs.declared.readers.Reader.{Reader}
use Rattle.coco_query.specs.declared.readers.Reading.{Reading}
use Rattle.coco_query.specs.declared.readers.Replied.{Replied}
use Rattle.coco_query.specs.declared.readers.Transcript.{Transcript}
use Rattle.coco_query.proofs.ReadingLemmas.{never_changed}

-- ---- made

readers_count : (reader : ℕ) (rows : List (Vec FrozenPass)) (seats : List Drawer) → length rows ≡ length seats → length (readers_of reader rows seats) ≡ length seats
readers_count reader [] [] same = refl
readers_count reader [] (s ∷ ss) same = absurd (omega (arith, same))
readers_count reader (r ∷ rs) [] same = absurd (omega (arith, same))
readers_count reader (r ∷ rs) (s ∷ ss) same = ap suc (readers_count (suc reader) rs ss (omega (arith, same)))

reader_at : (reader : ℕ) (rows : List (Vec FrozenPass)) (seats : List Drawer) → length rows ≡ length seats → (n : ℕ) (d : Reader) (r : Vec FrozenPass) (s : Drawer) → n < length seats
    → slice_index_or (readers_of reader rows seats) n d ≡ reader_of (reader + n) (slice_index_or rows n r) (slice_index_or seats n s)
reader_at reader [] [] same n d r s lt = absurd (omega (arith, lt))
reader_at reader [] (s' ∷ ss) same n d r s lt = absurd (omega (arith, same))
reader_at reader (r' ∷ rs) [] same n d r s lt = absurd (omega (arith, lt))
reader_at reader (r' ∷ rs) (s' ∷ ss) same zero d r s lt = ap (λ (k : ℕ). reader_of k r' s') (let h : reader ≡ reader + 0 = omega arith in h)
reader_at reader (r' ∷ rs) (s' ∷ ss) same (suc n) d r s lt =
    reader_at (suc reader) rs ss (omega (arith, same)) n d r s (omega (arith, lt)) ∙ ap (λ (k : ℕ). reader_of k (slice_index_or rs n r) (slice_index_or ss n s)) (let h : suc reader + n ≡ reader + suc n = omega arith in h)

abbrev pub rows_of : List Reader → List (Vec FrozenPass)
rows_of rs = map (λ (r : Reader). r.passes) rs

pub as_many_seats : (claims : Round) (seats : Vec Drawer) → seats.items ≡ new_seats claims → vec_len seats ≡ claims.seats
as_many_seats claims seats is = seats.ok.0 ∙ ap length is ∙ seats_count claims

-- a list with room for as many as the claims have seats has room for the readers
pub room_for_all : {X : Type 0} (list : Vec X) (readers : Vec Reader) {count : ℕ} → length readers.items ≡ count → HasRoom count list → HasRoom (vec_len readers) list
room_for_all list readers is room = (let ok = readers.ok.0 in (room.0, omega (arith, is, ok, room.1)))

abbrev pub seats_of : List Reader → List Drawer
seats_of rs = map (λ (r : Reader). r.seat) rs

-- ---- sums

drawn_sums : (place : ℕ) (rs : List Reader) → AllByRecursion (λ (r : Reader). times place r.seat.drawn ≡ times place (places_of r.transcript.readings)) rs
    → sum_by (λ (t : Transcript). times place (places_of t.readings)) (map (λ (r : Reader). r.transcript) rs) ≡ times_drawn place (seats_of rs)
drawn_sums place [] all = refl
drawn_sums place (r ∷ rs) all =
    let readings = sum_by-cons (λ (t : Transcript). times place (places_of t.readings)) r.transcript (map (λ (x : Reader). x.transcript) rs) in
    let seats = sum_by-cons (λ (s : Drawer). times place s.drawn) r.seat (seats_of rs) in
    let here = all.0 in
    let rest = drawn_sums place rs all.1 in
    omega (arith, readings, seats, here, rest)

entered_calls : (number : ℕ) (calls : List (Placed FrozenAsk FrozenAnswer)) → map entered (map (entry_of number) calls) ≡ map got calls
entered_calls number [] = refl
entered_calls number (c ∷ calls) = ap (λ (gs : List Given). got c ∷ gs) (entered_calls number calls)

-- ---- left

-- the locks of tables, whose passes are dealt in rows, and claims with a seat for each
pub record Shift : Type 0 where
  pub tables : List Frozen
  pub locks : List Lock
  pub rows : List (Vec FrozenPass)
  pub claims : Round
  pub dealt : AreDealt claims.seats tables locks rows

module _ (shift : Shift) where
  abbrev crew : List Reader
  crew = readers_of 0 shift.rows (new_seats shift.claims)

  many : length shift.rows ≡ length (new_seats shift.claims)
  many = shift.dealt.count ∙ sym (seats_count shift.claims)

  crew_count : length crew ≡ shift.claims.seats
  crew_count = readers_count 0 shift.rows (new_seats shift.claims) many ∙ seats_count shift.claims

  crew_at : (n : ℕ) (d : Reader) → n < shift.claims.seats → slice_index_or crew n d ≡ reader_of n (slice_index_or shift.rows n d.passes) (slice_index_or (new_seats shift.claims) n d.seat)
  crew_at n d lt =
      reader_at 0 shift.rows (new_seats shift.claims) many n d d.passes d.seat (let c = seats_count shift.claims in omega (arith, c, lt))
      ∙ ap (λ (k : ℕ). reader_of k (slice_index_or shift.rows n d.passes) (slice_index_or (new_seats shift.claims) n d.seat)) (let h : 0 + n ≡ n = omega arith in h)

  -- ---- before

  module _ (seats : List Drawer) (before : List Reader) (seats_are : seats ≡ new_seats shift.claims) (made : before ≡ readers_of 0 shift.rows seats) where
    began : before ≡ crew
    began = made ∙ ap (readers_of 0 shift.rows) seats_are

    pub begun_count : length before ≡ shift.claims.seats
    begun_count = ap length began ∙ crew_count

    pub begun_seated : All (IsSeated shift.locks shift.claims) before
    begun_seated = subst (All (IsSeated shift.locks shift.claims)) (sym began) (λ n d lt. (
        let here : n < shift.claims.seats = omega (arith, crew_count, lt) in
        let c = seats_count shift.claims in
        subst (IsSeated shift.locks shift.claims) (sym (crew_at n d here)) (record { locks = row_dealt shift.claims.seats shift.tables shift.locks shift.rows shift.dealt n d.passes here; seat = (fresh_seats shift.claims n d.seat (omega (arith, c, here))).of })
        ))

    pub have_left : {procs : Procedures} {requests : List Request} {gate : ℕ} (new after : List Reader) → length new ≡ length before → LeavesEach procs requests (length shift.locks) gate before new → after ≡ new
        → HaveLeft procs requests (length shift.locks) gate shift.rows shift.claims after
    have_left {procs} {requests} {gate} new after count each back = record {
      as_many = ap length back ∙ count ∙ begun_count;
      each = λ n d lt. subst (λ (b : Reader). Leaves procs requests (length shift.locks) gate b (slice_index_or after n d)) (ap (λ (rs : List Reader). slice_index_or rs n d) began ∙ crew_at n d lt)
          (subst (λ (rs : List Reader). Leaves procs requests (length shift.locks) gate (slice_index_or before n d) (slice_index_or rs n d)) (sym back) (each n d (omega (arith, begun_count, lt))));
    }

  -- ---- after

  module _ {procs : Procedures} {requests : List Request} {gate : ℕ} {after : List Reader} (has : HaveLeft procs requests (length shift.locks) gate shift.rows shift.claims after) where
    as_many_locks : length shift.locks ≡ length shift.tables
    as_many_locks = (as_many_started shift.claims.seats shift.tables shift.locks shift.dealt.trays shift.dealt.started).0

    rows_count : length (rows_of after) ≡ length shift.rows
    rows_count = length-map after (λ (r : Reader). r.passes) ∙ has.as_many ∙ sym shift.dealt.count

    left_at : (n : ℕ) (d : Reader) → n < shift.claims.seats → Leaves procs requests (length shift.tables) gate (reader_of n (slice_index_or shift.rows n d.passes) (slice_index_or (new_seats shift.claims) n d.seat)) (slice_index_or after n d)
    left_at n d lt = subst (λ (k : ℕ). Leaves procs requests k gate (reader_of n (slice_index_or shift.rows n d.passes) (slice_index_or (new_seats shift.claims) n d.seat)) (slice_index_or after n d)) as_many_locks (has.each n d lt)

    row_same : (n : ℕ) (d : Vec FrozenPass) (x : Reader) → n < length shift.rows → n < shift.claims.seats → n < length after → AreSame (slice_index_or shift.rows n d).items (slice_index_or (rows_of after) n d).items
    row_same n d x lt here below =
        subst (λ (r : Vec FrozenPass). AreSame r.items (slice_index_or (rows_of after) n d).items) (any_default shift.rows n x.passes d lt)
        (subst (λ (r : Vec FrozenPass). AreSame (slice_index_or shift.rows n x.passes).items r.items) (sym (get_or-map (λ (r : Reader). r.passes) after n x d below)) (left_at n x here).same)

    rows_same : (n : ℕ) (d : Vec FrozenPass) → n < length shift.rows → AreSame (slice_index_or shift.rows n d).items (slice_index_or (rows_of after) n d).items
    rows_same n d lt =
        let here : n < shift.claims.seats = omega (arith, shift.dealt.count, lt) in
        let below : n < length after = omega (arith, has.as_many, here) in
        row_same n d (some_at after n below).0 lt here below

    -- ---- what is taken out of them

    module _ (to : Vec (Vec FrozenPass)) (is : to.items ≡ rows_of after) where
      pub many_back : vec_len to ≡ shift.claims.seats
      many_back = to.ok.0 ∙ ap length is ∙ rows_count ∙ shift.dealt.count

      pub rows_so : All (λ (row : Vec FrozenPass). AreOf shift.locks row.items) to.items
      rows_so = subst (All (λ (row : Vec FrozenPass). AreOf shift.locks row.items)) (sym is) (rows_back shift.claims.seats shift.tables shift.locks shift.rows (rows_of after) shift.dealt rows_count rows_same)

      pub notes_so : All (λ (lock : Lock). lock.notes ≡ vec_len to) shift.locks
      notes_so = subst (λ (n : ℕ). All (λ (lock : Lock). lock.notes ≡ n) shift.locks) (sym (to.ok.0 ∙ ap length is)) (notes_back shift.claims.seats shift.tables shift.locks shift.rows (rows_of after) shift.dealt rows_count rows_same)

      pub closed_so : (held : Vec Lock) → held.items ≡ shift.locks → (ms : List Frozen) (js : List FrozenJournal) → AreBackBy answer_in after_ask to.items (vec_len held) ms js → AreBackBy answer_in after_ask (rows_of after) (length shift.tables) ms js
      closed_so held same ms js closed =
          subst (λ (n : ℕ). AreBackBy answer_in after_ask (rows_of after) n ms js) (held.ok.0 ∙ ap length same ∙ as_many_locks)
          (subst (λ (rs : List (Vec FrozenPass)). AreBackBy answer_in after_ask rs (vec_len held) ms js) is closed)

    pub seats_drawn : shift.claims.n ≡ length requests → (seats : List Drawer) → seats ≡ seats_of after → ((x : ℕ) → x < shift.claims.n → times_drawn x seats ≡ 1) → (place : ℕ) → place < length requests → times_drawn place (seats_of after) ≡ 1
    seats_drawn numbers seats is drawn place within = ap (times_drawn place) (sym is) ∙ drawn place (omega (arith, numbers, within))

    -- ---- the seats of readers that are done

    module _ (done : All (λ (r : Reader). r.is_done ≡ true) after) where
      seats_same : All (λ (s : Drawer). s.claims ≡ shift.claims) (seats_of after)
      seats_same = All-map (λ (s : Drawer). s.claims ≡ shift.claims) (λ (r : Reader). r.seat) after (λ n d lt. (
          let here : n < shift.claims.seats = omega (arith, has.as_many, lt) in
          let c = seats_count shift.claims in
          ((left_at n d here).read (done n d lt)).2.claims ∙ (fresh_seats shift.claims n d.seat (omega (arith, c, here))).of
          ))

      seats_ended : 0 < shift.claims.seats → Any (λ (s : Drawer). IsTrue (has_ended s)) (seats_of after)
      seats_ended some =
          let lt : 0 < length after = omega (arith, has.as_many, some) in
          let d : Reader = (some_at after 0 lt).0 in
          let seat : Drawer = (slice_index_or after 0 d).seat in
          (0, seat, (let n = length-map after (λ (r : Reader). r.seat) in omega (arith, n, lt)), get_or-map (λ (r : Reader). r.seat) after 0 d seat lt, ((left_at 0 d some).read (done 0 d lt)).2.ended)

      module _ (to : Vec Drawer) (is : to.items ≡ seats_of after) where
        pub all_seats : (vec_len to ≡ shift.claims.seats) × All (λ (s : Drawer). s.claims ≡ shift.claims) to.items
        all_seats = (to.ok.0 ∙ ap length is ∙ length-map after (λ (r : Reader). r.seat) ∙ has.as_many, subst (All (λ (s : Drawer). s.claims ≡ shift.claims)) (sym is) seats_same)

        pub ended_seat : 0 < shift.claims.seats → Any (λ (s : Drawer). IsTrue (has_ended s)) to.items
        ended_seat some = subst (Any (λ (s : Drawer). IsTrue (has_ended s))) (sym is) (seats_ended some)

      drawn_read : (place : ℕ) → place < length requests → All (λ (r : Reader). times place r.seat.drawn ≡ times place (places_of r.transcript.readings)) after
      drawn_read place within n d lt =
          let here : n < shift.claims.seats = omega (arith, has.as_many, lt) in
          let c = seats_count shift.claims in
          let did = (left_at n d here).read (done n d lt) in
          let drawn = did.2.places place within in
          let none : times place (slice_index_or (new_seats shift.claims) n d.seat).drawn ≡ 0 = ap (times place) (fresh_seats shift.claims n d.seat (omega (arith, c, here))).drawn in
          let readings = ap (λ (rs : List Reading). times place (places_of rs)) did.1.readings in
          omega (arith, drawn, none, readings)

      once : ((place : ℕ) → place < length requests → times_drawn place (seats_of after) ≡ 1) → (place : ℕ) → place < length requests → sum_by (λ (t : Transcript). times place (places_of t.readings)) (map (λ (r : Reader). r.transcript) after) ≡ 1
      once drawn place within =
          drawn_sums place after (recursion_from_All (λ (r : Reader). times place r.seat.drawn ≡ times place (places_of r.transcript.readings)) after (drawn_read place within)) ∙ drawn place within

    -- ---- the locks

    module _ (some : 0 < shift.claims.seats) (ms : List Frozen) (js : List FrozenJournal) (closed : AreBackBy answer_in after_ask (rows_of after) (length shift.tables) ms js) where
      closed_at : (p : ℕ) → p < length shift.tables → ClosedBy answer_in after_ask p (table_at shift.tables p) (rows_of after) (table_at ms p) (journal_at js p)
      closed_at p lt = closed_by answer_in after_ask (rows_of after) (length shift.tables) ms js closed p (table_at shift.tables p) (Shard empty) lt (let n = shift.dealt.count in let m = rows_count in omega (arith, some, m, n))
          (bears shift.claims.seats shift.tables shift.locks shift.rows (rows_of after) shift.dealt rows_count rows_same p (table_at shift.tables p) (slice_get-get_or shift.tables p (Shard empty) lt))

      pub tables_back : ms ≡ shift.tables
      tables_back = same_lists ms shift.tables (machines_count answer_in after_ask (rows_of after) (length shift.tables) ms js closed) (λ p d lt. (
          let within : p < length shift.tables = (let n = machines_count answer_in after_ask (rows_of after) (length shift.tables) ms js closed in omega (arith, n, lt)) in
          any_default ms p d (Shard empty) lt ∙ (closed_at p within).replays.machine_is ∙ never_changed (table_at shift.tables p) (journal_at js p) ∙ any_default shift.tables p (Shard empty) d within
          ))

      no_others : (p : ℕ) → p < length shift.tables → All (λ (e : Entry FrozenAsk FrozenAnswer). e.pass < shift.claims.seats) (journal_at js p)
      no_others p lt = subst (λ (n : ℕ). All (λ (e : Entry FrozenAsk FrozenAnswer). e.pass < n) (journal_at js p))
          (back_count p (table_at shift.tables p) 0 (rows_of after) (bears shift.claims.seats shift.tables shift.locks shift.rows (rows_of after) shift.dealt rows_count rows_same p (table_at shift.tables p) (slice_get-get_or shift.tables p (Shard empty) lt)) ∙ rows_count ∙ shift.dealt.count)
          (closed_at p lt).passes_are.no_other

      module _ (full : 0 < length shift.tables) (n : ℕ) (lt : n < shift.claims.seats) (d : Reader) where
        abbrev row : List FrozenPass
        row = (slice_index_or shift.rows n d.passes).items

        abbrev left_by : Reader
        left_by = slice_index_or after n d

        below : n < length after
        below = omega (arith, has.as_many, lt)

        new_at : (p : ℕ) → p < length shift.tables → (lock : TableId) × (slice_get row p ≡ Some (new_pass lock (table_at shift.tables p) n))
        new_at p within =
            let new = dealt_pass shift.claims.seats n lt shift.tables shift.locks shift.dealt.trays shift.dealt.started p (table_at shift.tables p) (slice_get-get_or shift.tables p (Shard empty) within) in
            (new.0, ap (λ (ps : List FrozenPass). slice_get ps p) (shift.dealt.rows_are n d.passes lt) ∙ new.1)

        is_in : (g : Given) → IsAnswered (length shift.tables) row g → IsIn shift.tables g
        is_in g is =
            let p : ℕ = g.key.row % length shift.tables in
            let new = new_at p (mod_below g.key.row (length shift.tables) full) in
            is.2 ∙ ap (λ (t : Frozen). had t g.key) (same_Some is.0 (table_at shift.tables p) (sym is.1 ∙ ap root_of new.1))

        own_entries : (p : ℕ) → p < length shift.tables → (gs : List Given) → done_by got (slice_get left_by.passes.items p) ≡ done_by got (slice_get row p) ++ gets_at (length shift.tables) p gs → map entered (entries_of n (journal_at js p)) ≡ gets_at (length shift.tables) p gs
        own_entries p within gs gains =
            let new = new_at p within in
            let fresh : FrozenPass = new_pass new.0 (table_at shift.tables p) n in
            let found = same_pass row left_by.passes.items p fresh (left_at n d lt).same new.1 in
            let pass : FrozenPass = found.0 in
            let number : pass.number ≡ n = ap (λ (q : FrozenPass). q.number) found.2 in
            let there : slice_get (slice_index_or (rows_of after) n left_by.passes).items p ≡ Some pass = ap (λ (r : Vec FrozenPass). slice_get r.items p) (get_or-map (λ (r : Reader). r.passes) after n d left_by.passes below) ∙ found.1 in
            let own = in_column (λ (q : FrozenPass). entries_of q.number (journal_at js p) ≡ map (entry_of q.number) q.calls) p (rows_of after)
            (recursion_from_All (λ (q : FrozenPass). entries_of q.number (journal_at js p) ≡ map (entry_of q.number) q.calls) (column p (rows_of after)) (closed_at p within).passes_are.own)
            n left_by.passes (let m = length-map after (λ (r : Reader). r.passes) in omega (arith, m, below)) pass there in
            ap (λ (k : ℕ). map entered (entries_of k (journal_at js p))) (sym number) ∙ ap (map entered) own ∙ entered_calls pass.number pass.calls ∙ sym (ap (done_by got) found.1) ∙ gains ∙ ap (λ (xs : List Given). xs ++ gets_at (length shift.tables) p gs) (ap (done_by got) new.1)

        has_run : left_by.is_done ≡ true → (r : ReadersEnd) → r.journals.items ≡ js → HasRun procs requests gate shift.tables r n left_by.transcript left_by.replies
        has_run done r same =
            let did = (left_at n d lt).read done in
            let gs : List Given = had_by (map reading_of did.0) in
            let readings : left_by.transcript.readings ≡ map reading_of did.0 = did.1.readings in
            record {
              served = did.0;
              each = did.1.each;
              readings = readings;
              replies = did.1.replies;
              values = subst (λ (rs : List Reading). AllByRecursion (IsIn shift.tables) (had_by rs)) (sym readings) (all_weaker (IsAnswered (length shift.tables) row) (IsIn shift.tables) is_in gs did.1.reads.answered);
              entries = λ p within. ap (λ (ks : List FrozenJournal). map entered (entries_of n (journal_at ks p))) same
                  ∙ own_entries p within gs (did.1.reads.gets p (slice_get_within row p (new_pass (new_at p within).0 (table_at shift.tables p) n) (new_at p within).1))
                  ∙ ap (λ (rs : List Reading). gets_at (length shift.tables) p (had_by rs)) (sym readings);
              passed = did.1.passed ∙ ap (flat_map (points_of gate n)) (sym readings);
            }

      -- what they came to, once they are done
      pub have_run : (done : All (λ (r : Reader). r.is_done ≡ true) after) → 0 < length shift.tables → ((place : ℕ) → place < length requests → times_drawn place (seats_of after) ≡ 1) → (r : ReadersEnd) → r.journals.items ≡ js
          → r.transcripts.items ≡ map (λ (x : Reader). x.transcript) after → r.replies.items ≡ map (λ (x : Reader). x.replies) after → HaveRun procs requests gate shift.claims.seats shift.tables r
      have_run done full drawn r same transcripts replies = record {
        journals = ap length same ∙ journals_count answer_in after_ask (rows_of after) (length shift.tables) ms js closed;
        count = ap length transcripts ∙ length-map after (λ (x : Reader). x.transcript) ∙ has.as_many;
        as_many = ap length replies ∙ length-map after (λ (x : Reader). x.replies) ∙ has.as_many;
        run = λ n e none lt. (
            let there : n < length after = omega (arith, has.as_many, lt) in
            let x : Reader = (some_at after n there).0 in
            subst (λ (t : Transcript). HasRun procs requests gate shift.tables r n t (slice_index_or r.replies.items n none))
            (sym (ap (λ (ts : List Transcript). slice_index_or ts n e) transcripts ∙ get_or-map (λ (y : Reader). y.transcript) after n x e there))
            (subst (HasRun procs requests gate shift.tables r n (slice_index_or after n x).transcript)
            (sym (ap (λ (ls : List (List Replied)). slice_index_or ls n none) replies ∙ get_or-map (λ (y : Reader). y.replies) after n x none there))
            (has_run full n lt x (done n x there) r same))
            );
        once = λ place within. ap (sum_by (λ (t : Transcript). times place (places_of t.readings))) transcripts ∙ once done drawn place within;
        no_other = λ p within. subst (λ (ks : List FrozenJournal). All (λ (e : Entry FrozenAsk FrozenAnswer). e.pass < shift.claims.seats) (journal_at ks p)) (sym same) (no_others p within);
      }
