-- Passes that are dealt to workers by rows, and what the locks leave once the rows are back.
use Rattle.std.proofs.Common.{◌≡◌, ℕ, zero, suc, ◌+◌, ◌<◌, ◌≤◌, List, [], ◌∷◌, ◌++◌, All, map, length, take, Option, None, Some, slice_index_or, append_assoc, vec_len, vec_capacity, refl, sym, ap, ◌∙◌, subst, arith}
use Rattle.std.specs.Global.{Vec}
use Rattle.std.specs.List.{AllByRecursion, cons_option, slice_get}
use Rattle.std.specs.Option.{option_map}
use Rattle.std.proofs.lemmas.List.{append-nil, length-map}
use Rattle.std.proofs.lemmas.List.Elements.{All-from_recursion, All-head, All-push, recursion_from_All}
use Rattle.std.proofs.lemmas.Option.{same_Some, slice_get-get_or, slice_get-map}
use Rattle.coco_journaled.specs.declared.entry.Entry.{Entry}
use Rattle.coco_journaled.specs.Passes.{HasPasses, Passing, new_pass}
use Rattle.coco_journaled.specs.Replay.{Replays}
use Rattle.coco_seen.specs.Notes.{Lock, TableId}
use Rattle.coco_seen.specs.Rules.{numbers}
use Rattle.coco_desks.specs.Gains.{AreOf, AreSame, undone}
use Rattle.coco_desks.proofs.GainLemmas.{as_many, still_of}
use Rattle.coco_desks.specs.Desks.{AreBackBy, AreDealt, AreEmpty, HasRoom, IsOpen}
use Rattle.coco_desks.specs.Locking.{AreBack, AreEnded, AreStarted, IsBack, IsEnded, IsStarted}
use Rattle.coco_desks.specs.Rows.{column}
use Rattle.coco_desks.proofs.RowLemmas.{some_at}

abbrev id_of : Lock → TableId
id_of lock = lock.id

pub number_at : (first count n : ℕ) → n < count → slice_get (numbers first count) n ≡ Some (first + n)
number_at first zero n lt = absurd (omega arith)
number_at first (suc count) zero lt = ap Some (let h : first ≡ first + 0 = omega arith in h)
number_at first (suc count) (suc n) lt = number_at (suc first) count n (omega arith) ∙ ap Some (let h : suc first + n ≡ first + suc n = omega arith in h)

-- a row more that has no items and as much room
pub row_more : {X : Type 0} (room : ℕ) (rows after : List (Vec X)) (row : Vec X) → All (λ (r : Vec X). HasRoom room r) rows → after ≡ rows ++ row ∷ [] → HasRoom room row → All (λ (r : Vec X). HasRoom room r) after
row_more {X} room rows after row all is has = let P : Vec X → Type 0 = λ r. HasRoom room r in subst (All P) (sym is) (All-push P rows row all has)

take_front : {X : Type 0} (xs rest : List X) → take (length xs) (xs ++ rest) ≡ xs
take_front [] rest = refl
take_front (x ∷ xs) rest = ap (λ (ys : List _). x ∷ ys) (take_front xs rest)

-- a list that was written over as a whole
pub written_back : {X : Type 0} (n : ℕ) (xs rest : List X) → n ≡ length xs → take n (xs ++ rest) ≡ xs
written_back n xs rest same = ap (λ (k : ℕ). take k (xs ++ rest)) same ∙ take_front xs rest

-- what a list's item comes from, where each item was made of one
pub some_mapped : {X Y : Type 0} (f : X → Y) (o : Option X) (y : Y) → option_map f o ≡ Some y → (x : X) × (o ≡ Some x) × (f x ≡ y)
some_mapped f None y is = absurd cc
some_mapped f (Some x) y is = (x, refl, same_Some (f x) y is)

module _ {M Q A : Type 0} where
  abbrev lock_of : Passing M Q A → TableId
  lock_of p = p.lock

  abbrev number_of : Passing M Q A → ℕ
  number_of p = p.number

  -- ---- dealt

  pub pass_of : (workers worker : ℕ) (root : M) (lock : Lock) (tray : Vec (Passing M Q A)) → worker < workers → IsStarted workers root lock tray → slice_get tray.items worker ≡ Some (new_pass lock.id root worker)
  pass_of workers worker root lock tray lt is =
      ap (λ (ps : List (Passing M Q A)). slice_get ps worker) is.passes ∙ slice_get-map (new_pass lock.id root) (numbers 0 workers) worker
      ∙ ap (option_map (new_pass lock.id root)) (number_at 0 workers worker lt ∙ ap Some (let h : 0 + worker ≡ worker = omega arith in h))

  pub as_many_started : (workers : ℕ) (machines : List M) (locks : List Lock) (trays : List (Vec (Passing M Q A))) → AreStarted workers machines locks trays → (length locks ≡ length machines) × (length trays ≡ length machines)
  as_many_started workers [] [] [] are = (refl, refl)
  as_many_started workers [] [] (t ∷ ts) are = absurd are
  as_many_started workers [] (l ∷ ls) ts are = absurd are
  as_many_started workers (m ∷ ms) [] ts are = absurd are
  as_many_started workers (m ∷ ms) (l ∷ ls) [] are = absurd are
  as_many_started workers (m ∷ ms) (l ∷ ls) (t ∷ ts) are = let rest = as_many_started workers ms ls ts are.1 in (ap suc rest.0, ap suc rest.1)

  -- each tray has a pass for each worker, and each lock as many notes
  pub full_trays : (workers : ℕ) (machines : List M) (locks : List Lock) (trays : List (Vec (Passing M Q A))) → AreStarted workers machines locks trays → AllByRecursion (λ (t : Vec (Passing M Q A)). vec_len t ≡ workers) trays
  full_trays workers [] [] [] are = tt
  full_trays workers [] [] (t ∷ ts) are = absurd are
  full_trays workers [] (l ∷ ls) ts are = absurd are
  full_trays workers (m ∷ ms) [] ts are = absurd are
  full_trays workers (m ∷ ms) (l ∷ ls) [] are = absurd are
  full_trays workers (m ∷ ms) (l ∷ ls) (t ∷ ts) are = (
    t.ok.0 ∙ ap length are.0.passes ∙ length-map (numbers 0 workers) (new_pass l.id m) ∙ counted 0 workers,
    full_trays workers ms ls ts are.1,
  )
    where
      counted : (first count : ℕ) → length (numbers first count) ≡ count
      counted first zero = refl
      counted first (suc count) = ap suc (counted (suc first) count)

  pub noted_locks : (workers : ℕ) (machines : List M) (locks : List Lock) (trays : List (Vec (Passing M Q A))) → AreStarted workers machines locks trays → AllByRecursion (λ (l : Lock). l.notes ≡ workers) locks
  noted_locks workers [] [] [] are = tt
  noted_locks workers [] [] (t ∷ ts) are = absurd are
  noted_locks workers [] (l ∷ ls) ts are = absurd are
  noted_locks workers (m ∷ ms) [] ts are = absurd are
  noted_locks workers (m ∷ ms) (l ∷ ls) [] are = absurd are
  noted_locks workers (m ∷ ms) (l ∷ ls) (t ∷ ts) are = (are.0.notes, noted_locks workers ms ls ts are.1)

  module _ (workers worker : ℕ) (lt : worker < workers) where
    -- a worker's row has a pass of each lock
    pub row_of : (machines : List M) (locks : List Lock) (trays : List (Vec (Passing M Q A))) → AreStarted workers machines locks trays → AreOf locks (column worker trays)
    row_of [] [] [] are = refl
    row_of [] [] (t ∷ ts) are = absurd are
    row_of [] (l ∷ ls) ts are = absurd are
    row_of (m ∷ ms) [] ts are = absurd are
    row_of (m ∷ ms) (l ∷ ls) [] are = absurd are
    row_of (m ∷ ms) (l ∷ ls) (t ∷ ts) are =
        ap (λ (o : Option (Passing M Q A)). map lock_of (cons_option o (column worker ts))) (pass_of workers worker m l t lt are.0) ∙ ap (λ (ids : List TableId). l.id ∷ ids) (row_of ms ls ts are.1)

    -- the pass of a machine's lock is new
    pub dealt_pass : (machines : List M) (locks : List Lock) (trays : List (Vec (Passing M Q A))) → AreStarted workers machines locks trays → (place : ℕ) (machine : M) → slice_get machines place ≡ Some machine
        → (lock : TableId) × (slice_get (column worker trays) place ≡ Some (new_pass lock machine worker))
    dealt_pass [] locks trays are place machine at = absurd cc
    dealt_pass (m ∷ ms) [] trays are place machine at = absurd are
    dealt_pass (m ∷ ms) (l ∷ ls) [] are place machine at = absurd are
    dealt_pass (m ∷ ms) (l ∷ ls) (t ∷ ts) are zero machine at = (
      l.id,
      ap (λ (o : Option (Passing M Q A)). slice_get (cons_option o (column worker ts)) 0) (pass_of workers worker m l t lt are.0) ∙ ap (λ (x : M). Some (new_pass l.id x worker)) (same_Some m machine at),
    )
    dealt_pass (m ∷ ms) (l ∷ ls) (t ∷ ts) are (suc place) machine at =
        let rest = dealt_pass ms ls ts are.1 place machine at in
        (rest.0, ap (λ (o : Option (Passing M Q A)). slice_get (cons_option o (column worker ts)) (suc place)) (pass_of workers worker m l t lt are.0) ∙ rest.1)

  module _ (workers : ℕ) (machines : List M) (locks : Vec Lock) (trays : List (Vec (Passing M Q A))) (started : AreStarted workers machines locks.items trays) where
    -- the trays are turned into rows without passes
    pub opened : (rows columns dealt turned : List (Vec (Passing M Q A))) (emptied back : Vec (Vec (Passing M Q A))) (last : Vec M) (journals : Vec (List (Entry Q A))) → length rows ≡ workers → AreEmpty (length machines) rows
        → dealt ≡ columns → length columns ≡ length rows → ((place : ℕ) (d : Vec (Passing M Q A)) → place < length rows → (slice_index_or columns place d).items ≡ (slice_index_or rows place d).items ++ column place trays)
        → emptied.items ≡ turned → length turned ≡ length trays → ((place : ℕ) (d : Vec (Passing M Q A)) → place < length trays → (slice_index_or turned place d).items ≡ [])
        → ((place : ℕ) (d : Vec (Passing M Q A)) → place < length trays → vec_capacity (slice_index_or turned place d) ≡ vec_capacity (slice_index_or trays place d))
        → HasRoom workers back → HasRoom (length machines) last → HasRoom (length machines) journals → IsOpen workers machines locks emptied back last journals dealt
    opened rows columns dealt turned emptied back last journals count empty is same each are as_many none kept back_room last_room journals_room = record {
      dealt = subst (AreDealt workers machines locks.items) (sym is) (record {
        trays = trays;
        started = started;
        count = same ∙ count;
        rows_are = λ worker d lt. (
            let here : worker < length rows = omega (arith, count, lt) in
            each worker d here ∙ ap (λ (ps : List (Passing M Q A)). ps ++ column worker trays) (empty worker d here).0
            );
      });
      empty = subst (AreEmpty workers) (sym are) (λ place d lt. (
          let here : place < length trays = omega (arith, as_many, lt) in
          let full = All-from_recursion (λ (t : Vec (Passing M Q A)). vec_len t ≡ workers) trays (full_trays workers machines locks.items trays started) place d here in
          let ok = (slice_index_or trays place d).ok in
          let room = kept place d here in
          (none place d here, omega (arith, full, ok.1, room))
          ));
      trays_are = emptied.ok.0 ∙ ap length are ∙ as_many ∙ (as_many_started workers machines locks.items trays started).1;
      back_room = back_room;
      last_room = last_room;
      journals_room = journals_room;
    }

    -- there is room for a pass of each lock in each row
    pub rows_room : (rows : List (Vec (Passing M Q A))) → AreEmpty (length machines) rows → All (λ (row : Vec (Passing M Q A)). vec_len row + length trays ≤ vec_capacity row) rows
    rows_room rows empty place d lt =
        let here = empty place d lt in
        let row : Vec (Passing M Q A) = slice_index_or rows place d in
        let none = ap length here.0 in
        let ok = row.ok in
        let many = (as_many_started workers machines locks.items trays started).1 in
        let room = here.1 in
        omega (arith, none, ok.0, many, room)

  -- ---- back

  lock_there : (locks : List Lock) (row : List (Passing M Q A)) (place : ℕ) (p : Passing M Q A) (d : Lock) → AreOf locks row → place < length locks → slice_get row place ≡ Some p → p.lock ≡ (slice_index_or locks place d).id
  lock_there locks row place p d of lt at =
      same_Some p.lock (slice_index_or locks place d).id
      (sym (slice_get-map lock_of row place ∙ ap (option_map lock_of) at) ∙ ap (λ (ids : List TableId). slice_get ids place) of ∙ slice_get-map id_of locks place ∙ ap (option_map id_of) (slice_get-get_or locks place d lt))

  -- the passes that come back to a lock are all of it
  pub back_at : (locks : List Lock) (place : ℕ) (d : Lock) → place < length locks → (rows : List (Vec (Passing M Q A))) → AllByRecursion (λ (row : Vec (Passing M Q A)). AreOf locks row.items) rows
      → AllByRecursion (λ (p : Passing M Q A). p.lock ≡ (slice_index_or locks place d).id) (column place rows) × (length (column place rows) ≡ length rows)
  back_at locks place d lt [] all = (tt, refl)
  back_at locks place d lt (row ∷ rows) all =
      let many : length row.items ≡ length locks = as_many locks row.items all.0 in
      let here = some_at row.items place (omega (arith, many, lt)) in
      let rest = back_at locks place d lt rows all.1 in (
        subst (λ (o : Option (Passing M Q A)). AllByRecursion (λ (p : Passing M Q A). p.lock ≡ (slice_index_or locks place d).id) (cons_option o (column place rows))) (sym here.1)
            (lock_there locks row.items place here.0 d all.0 lt here.1, rest.0),
        ap (λ (o : Option (Passing M Q A)). length (cons_option o (column place rows))) here.1 ∙ ap suc rest.1,
      )

  back_from : (locks : List Lock) (trays : List (Vec (Passing M Q A))) → length trays ≡ length locks → ((place : ℕ) (d : Lock) (t : Vec (Passing M Q A)) → place < length locks → IsBack (slice_index_or locks place d) (slice_index_or trays place t)) → AreBack locks trays
  back_from [] [] same each = tt
  back_from [] (t ∷ ts) same each = absurd (omega (arith, same))
  back_from (l ∷ ls) [] same each = absurd (omega (arith, same))
  back_from (l ∷ ls) (t ∷ ts) same each = (each 0 l t (omega arith), back_from ls ts (omega (arith, same)) (λ place d e lt. each (suc place) d e (omega (arith, lt))))

  -- trays that the rows were turned into have all passes of their locks
  pub all_back_by : (locks : List Lock) (rows trays : List (Vec (Passing M Q A))) → All (λ (row : Vec (Passing M Q A)). AreOf locks row.items) rows → All (λ (lock : Lock). lock.notes ≡ length rows) locks → length trays ≡ length locks
      → ((place : ℕ) (d : Vec (Passing M Q A)) → place < length locks → (slice_index_or trays place d).items ≡ column place rows) → AreBack locks trays
  all_back_by locks rows trays of notes count are = back_from locks trays count (λ place d t lt. (
      let back = back_at locks place d lt rows (recursion_from_All (λ (row : Vec (Passing M Q A)). AreOf locks row.items) rows of) in
      let tray : Vec (Passing M Q A) = slice_index_or trays place t in
      record {
        locks = subst (All (λ (p : Passing M Q A). p.lock ≡ (slice_index_or locks place d).id)) (sym (are place t lt)) (All-from_recursion (λ (p : Passing M Q A). p.lock ≡ (slice_index_or locks place d).id) (column place rows) back.0);
        all = tray.ok.0 ∙ ap length (are place t lt) ∙ back.1 ∙ sym (notes place d lt);
      }
      ))

  -- what the rows bring to trays without passes
  pub come_back : (room : ℕ) (rows trays columns : List (Vec (Passing M Q A))) → AreEmpty room trays → ((place : ℕ) (d : Vec (Passing M Q A)) → place < length trays → (slice_index_or columns place d).items ≡ (slice_index_or trays place d).items ++ column place rows)
      → (place : ℕ) (d : Vec (Passing M Q A)) → place < length trays → (slice_index_or columns place d).items ≡ column place rows
  come_back room rows trays columns empty each place d lt = each place d lt ∙ ap (λ (ps : List (Passing M Q A)). ps ++ column place rows) (empty place d lt).0

  -- ---- the same passes

  pub same_pass : (before after : List (Passing M Q A)) (place : ℕ) (p : Passing M Q A) → AreSame before after → slice_get before place ≡ Some p → (q : Passing M Q A) × (slice_get after place ≡ Some q) × (undone q ≡ undone p)
  same_pass before after place p same at =
      some_mapped undone (slice_get after place) (undone p)
      (sym (slice_get-map undone after place) ∙ ap (λ (ps : List (Passing M Q A)). slice_get ps place) same ∙ slice_get-map undone before place ∙ ap (option_map undone) at)

  -- what is known of the pass at a place in each row
  pub record Bears (place : ℕ) (machine : M) (worker : ℕ) (row : Vec (Passing M Q A)) : Type 0 where
    pub pass : Passing M Q A
    pub there : slice_get row.items place ≡ Some pass
    pub number : pass.number ≡ worker
    pub root : pass.root ≡ Some machine

  bears_same : (place : ℕ) (machine : M) (n : ℕ) (lock : TableId) (row : Vec (Passing M Q A)) → (q : Passing M Q A) × (slice_get row.items place ≡ Some q) × (undone q ≡ undone (new_pass lock machine n)) → Bears place machine (0 + n) row
  bears_same place machine n lock row (q, there, same) = record {
    pass = q;
    there = there;
    number = ap number_of same ∙ (let h : n ≡ 0 + n = omega arith in h);
    root = ap (λ (p : Passing M Q A). p.root) same;
  }

  pub back_numbers : (place : ℕ) (machine : M) (first : ℕ) (rows : List (Vec (Passing M Q A))) → ((n : ℕ) (d : Vec (Passing M Q A)) → n < length rows → Bears place machine (first + n) (slice_index_or rows n d))
      → map number_of (column place rows) ≡ numbers first (length rows)
  back_numbers place machine first [] each = refl
  back_numbers place machine first (row ∷ rows) each =
      let here = each 0 row (omega arith) in
      ap (λ (o : Option (Passing M Q A)). map number_of (cons_option o (column place rows))) here.there
      ∙ ap (λ (n : ℕ). n ∷ map number_of (column place rows)) (here.number ∙ (let h : first + 0 ≡ first = omega arith in h))
      ∙ ap (λ (ns : List ℕ). first ∷ ns) (back_numbers place machine (suc first) rows (λ n d lt. (
      let at = each (suc n) d (omega (arith, lt)) in
      record { pass = at.pass; there = at.there; number = at.number ∙ (let h : first + suc n ≡ suc first + n = omega arith in h); root = at.root }
      )))

  pub back_count : (place : ℕ) (machine : M) (first : ℕ) (rows : List (Vec (Passing M Q A))) → ((n : ℕ) (d : Vec (Passing M Q A)) → n < length rows → Bears place machine (first + n) (slice_index_or rows n d)) → length (column place rows) ≡ length rows
  back_count place machine first rows each = sym (length-map (column place rows) number_of) ∙ ap length (back_numbers place machine first rows each) ∙ counted first (length rows)
    where
      counted : (from count : ℕ) → length (numbers from count) ≡ count
      counted from zero = refl
      counted from (suc count) = ap suc (counted (suc from) count)

  pub row_dealt : (workers : ℕ) (machines : List M) (locks : List Lock) (rows : List (Vec (Passing M Q A))) → AreDealt workers machines locks rows → (n : ℕ) (d : Vec (Passing M Q A)) → n < workers → AreOf locks (slice_index_or rows n d).items
  row_dealt workers machines locks rows dealt n d lt = subst (AreOf locks) (sym (dealt.rows_are n d lt)) (row_of workers n lt machines locks dealt.trays dealt.started)

  -- the rows of passes that were dealt, and are the same still
  module _ (workers : ℕ) (machines : List M) (locks : List Lock) (before after : List (Vec (Passing M Q A))) (dealt : AreDealt workers machines locks before) (count : length after ≡ length before)
      (same : (n : ℕ) (d : Vec (Passing M Q A)) → n < length before → AreSame (slice_index_or before n d).items (slice_index_or after n d).items) where
    pub rows_back : All (λ (row : Vec (Passing M Q A)). AreOf locks row.items) after
    rows_back n d lt =
        let below : n < length before = omega (arith, count, lt) in
        still_of locks (slice_index_or before n d).items (slice_index_or after n d).items (row_dealt workers machines locks before dealt n d (omega (arith, below, dealt.count))) (same n d below)

    pub notes_back : All (λ (lock : Lock). lock.notes ≡ length after) locks
    notes_back n d lt = All-from_recursion (λ (l : Lock). l.notes ≡ workers) locks (noted_locks workers machines locks dealt.trays dealt.started) n d lt ∙ sym (count ∙ dealt.count)

    pub bears : (place : ℕ) (machine : M) → slice_get machines place ≡ Some machine → (n : ℕ) (d : Vec (Passing M Q A)) → n < length after → Bears place machine (0 + n) (slice_index_or after n d)
    bears place machine at n d lt = at_row (omega (arith, count, lt)) (omega (arith, count, lt, dealt.count))
      where
        at_row : n < length before → n < workers → Bears place machine (0 + n) (slice_index_or after n d)
        at_row below here =
            let new = dealt_pass workers n here machines locks dealt.trays dealt.started place machine at in
            bears_same place machine n new.0 (slice_index_or after n d)
            (same_pass (slice_index_or before n d).items (slice_index_or after n d).items place (new_pass new.0 machine n) (same n d below)
            (ap (λ (ps : List (Passing M Q A)). slice_get ps place) (dealt.rows_are n d here) ∙ new.1))

-- ---- what each lock left

module _ {M Q A : Type 0} (answer_to : M → Q → A) (state_after : M → Q → M) where
  abbrev pub EachEnded : List (Vec (Passing M Q A)) → List M → List (List (Entry Q A)) → Type 0
  EachEnded [] [] [] = Unit {0}
  EachEnded (t ∷ ts) (m ∷ ms) (j ∷ js) = IsEnded answer_to state_after t m j × EachEnded ts ms js
  EachEnded ts ms js = ⊥

  -- behind what stood there before
  pub record LeftBehind (trays : List (Vec (Passing M Q A))) (ms : List M) (js : List (List (Entry Q A))) (ms' : List M) (js' : List (List (Entry Q A))) : Type 0 where
    pub machines : List M
    pub journals : List (List (Entry Q A))
    pub machines_are : ms' ≡ ms ++ machines
    pub journals_are : js' ≡ js ++ journals
    pub each : EachEnded trays machines journals

  pub left_behind : (trays : List (Vec (Passing M Q A))) (ms : List M) (js : List (List (Entry Q A))) (ms' : List M) (js' : List (List (Entry Q A))) → AreEnded answer_to state_after trays ms js ms' js' → LeftBehind trays ms js ms' js'
  left_behind [] ms js ms' js' are = record { machines = []; journals = []; machines_are = are.0 ∙ sym (append-nil ms); journals_are = are.1 ∙ sym (append-nil js); each = tt }
  left_behind (t ∷ ts) ms js ms' js' are =
      let rest = left_behind ts (ms ++ are.0 ∷ []) (js ++ are.1 ∷ []) ms' js' are.3 in
      record {
        machines = are.0 ∷ rest.machines;
        journals = are.1 ∷ rest.journals;
        machines_are = rest.machines_are ∙ append_assoc ms (are.0 ∷ []) rest.machines;
        journals_are = rest.journals_are ∙ append_assoc js (are.1 ∷ []) rest.journals;
        each = (are.2, rest.each);
      }

  pub each_at : (trays : List (Vec (Passing M Q A))) (ms : List M) (js : List (List (Entry Q A))) → EachEnded trays ms js → (n : ℕ) (d : Vec (Passing M Q A)) (e : M) → n < length trays
      → IsEnded answer_to state_after (slice_index_or trays n d) (slice_index_or ms n e) (slice_index_or js n [])
  each_at [] ms js each n d e lt = absurd (omega arith)
  each_at (t ∷ ts) [] js each n d e lt = absurd each
  each_at (t ∷ ts) (m ∷ ms) [] each n d e lt = absurd each
  each_at (t ∷ ts) (m ∷ ms) (j ∷ js) each zero d e lt = each.0
  each_at (t ∷ ts) (m ∷ ms) (j ∷ js) each (suc n) d e lt = each_at ts ms js each.1 n d e (omega arith)

  pub each_count : (trays : List (Vec (Passing M Q A))) (ms : List M) (js : List (List (Entry Q A))) → EachEnded trays ms js → (length ms ≡ length trays) × (length js ≡ length trays)
  each_count [] [] [] each = (refl, refl)
  each_count [] [] (j ∷ js) each = absurd each
  each_count [] (m ∷ ms) js each = absurd each
  each_count (t ∷ ts) [] js each = absurd each
  each_count (t ∷ ts) (m ∷ ms) [] each = absurd each
  each_count (t ∷ ts) (m ∷ ms) (j ∷ js) each = let rest = each_count ts ms js each.1 in (ap suc rest.0, ap suc rest.1)

  -- what the lock of a machine closed with, once its passes came back in these rows
  pub record ClosedBy (place : ℕ) (root : M) (rows : List (Vec (Passing M Q A))) (machine : M) (journal : List (Entry Q A)) : Type 0 where
    pub passes_are : HasPasses (column place rows) journal
    pub replays : Replays answer_to state_after root journal machine

  abbrev CameFrom : List (Entry Q A) → M → Passing M Q A → Type 0
  CameFrom journal machine p = (root : M) × (p.root ≡ Some root) × Replays answer_to state_after root journal machine

  replayed : (place : ℕ) (root machine : M) (journal : List (Entry Q A)) (rows : List (Vec (Passing M Q A))) → 0 < length rows → ((n : ℕ) (d : Vec (Passing M Q A)) → n < length rows → Bears place root (0 + n) (slice_index_or rows n d))
      → All (CameFrom journal machine) (column place rows) → Replays answer_to state_after root journal machine
  replayed place root machine journal [] some each came = absurd (omega arith)
  replayed place root machine journal (row ∷ rows) some each came =
      let here = each 0 row (omega arith) in
      let first = All-head (CameFrom journal machine) here.pass (column place rows) (subst (λ (o : Option (Passing M Q A)). All (CameFrom journal machine) (cons_option o (column place rows))) here.there came) in
      subst (λ (m : M). Replays answer_to state_after m journal machine) (same_Some first.0 root (sym first.1 ∙ here.root)) first.2

  module _ (rows : List (Vec (Passing M Q A))) (count : ℕ) (machines : List M) (journals : List (List (Entry Q A))) (back : AreBackBy answer_to state_after rows count machines journals) where
    abbrev left : LeftBehind back.trays [] [] machines journals
    left = left_behind back.trays [] [] machines journals back.ended

    pub machines_count : length machines ≡ count
    machines_count = ap length left.machines_are ∙ (each_count back.trays left.machines left.journals left.each).0 ∙ back.trays_are

    pub journals_count : length journals ≡ count
    journals_count = ap length left.journals_are ∙ (each_count back.trays left.machines left.journals left.each).1 ∙ back.trays_are

    ended_at : (place : ℕ) (d : Vec (Passing M Q A)) (e : M) → place < count → IsEnded answer_to state_after (slice_index_or back.trays place d) (slice_index_or machines place e) (slice_index_or journals place [])
    ended_at place d e lt =
        subst (λ (ms : List M). IsEnded answer_to state_after (slice_index_or back.trays place d) (slice_index_or ms place e) (slice_index_or journals place [])) (sym left.machines_are)
        (subst (λ (js : List (List (Entry Q A))). IsEnded answer_to state_after (slice_index_or back.trays place d) (slice_index_or left.machines place e) (slice_index_or js place [])) (sym left.journals_are)
        (each_at back.trays left.machines left.journals left.each place d e (omega (arith, lt, back.trays_are))))

    some_tray : (trays : List (Vec (Passing M Q A))) (n : ℕ) → n < length trays → Vec (Passing M Q A)
    some_tray [] n lt = absurd (omega arith)
    some_tray (t ∷ ts) n lt = t

    pub closed_by : (place : ℕ) (root e : M) → place < count → 0 < length rows → ((n : ℕ) (d : Vec (Passing M Q A)) → n < length rows → Bears place root (0 + n) (slice_index_or rows n d)) → ClosedBy place root rows (slice_index_or machines place e) (slice_index_or journals place [])
    closed_by place root e lt some each = at_tray (some_tray back.trays place (omega (arith, lt, back.trays_are)))
      where
        at_tray : Vec (Passing M Q A) → ClosedBy place root rows (slice_index_or machines place e) (slice_index_or journals place [])
        at_tray t =
            let ended = ended_at place t e lt in
            let are : (slice_index_or back.trays place t).items ≡ column place rows = back.passes place t lt in
            record {
              passes_are = subst (λ (ps : List (Passing M Q A)). HasPasses ps (slice_index_or journals place [])) are
                  (ended.passes (ap (map number_of) are ∙ back_numbers place root 0 rows each ∙ ap (numbers 0) (sym (ap length are ∙ back_count place root 0 rows each))));
              replays = replayed place root (slice_index_or machines place e) (slice_index_or journals place []) rows some each (subst (All (CameFrom (slice_index_or journals place []) (slice_index_or machines place e))) are ended.replays);
            }
