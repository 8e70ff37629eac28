-- What a crew that is done came to, and what is left of one that gave up.
use Rattle.std.proofs.Common.{◌≡◌, ℕ, ◌<◌, true, List, [], ◌++◌, All, map, length, Some, slice_index_or, refl, sym, ap, ◌∙◌, subst, arith}
use Rattle.std.specs.Global.{Vec}
use Rattle.std.specs.List.{slice_get}
use Rattle.std.specs.FinMap.{empty}
use Rattle.std.proofs.lemmas.List.{get_or-map, length-map}
use Rattle.std.proofs.lemmas.List.Elements.{recursion_from_All}
use Rattle.std.proofs.lemmas.Option.{slice_get-get_or}
use Rattle.coco_types.specs.declared.call.Piece.{Piece}
use Rattle.coco_ast.specs.Keyed.{Rows}
use Rattle.coco_claim.specs.Seats.{times_drawn}
use Rattle.coco_copy.specs.CopyState.{CopyState, begun}
use Rattle.coco_copy.specs.Puts as puts
use Rattle.coco_copy.specs.declared.ops.CopyAnswer.{CopyAnswer}
use Rattle.coco_copy.specs.declared.ops.CopyAsk.{CopyAsk}
use Rattle.coco_desks.specs.Desks.{AreBackBy}
use Rattle.coco_desks.specs.Gains.{AreSame}
use Rattle.coco_desks.specs.Rows.{column}
use Rattle.coco_desks.proofs.DeskLemmas.{ClosedBy, back_count, bears, closed_by, dealt_pass, journals_count, machines_count, same_pass}
use Rattle.coco_desks.proofs.RowLemmas.{in_column, some_at}
use Rattle.coco_journaled.specs.declared.entry.Entry.{Entry}
use Rattle.coco_journaled.specs.Passes.{HasPasses, entries_of, entry_of, new_pass}
use Rattle.coco_order.specs.Execution.{Journal, Transcript}
use Rattle.coco_shard.specs.RowState.{ShardState}
use Rattle.coco_shard.specs.Table.{after_ask, answer_in}
use Rattle.coco_worker.specs.Working.{Job, scripts_of}
use Rattle.coco_worker.specs.declared.slot.Slot.{Slot}
use Rattle.coco_parallel.specs.Copies.{CopyPass, HasEntries}
use Rattle.coco_parallel.specs.Ending.{Start}
use Rattle.coco_parallel.specs.Running.{IsDealt, IsRun, slots_of}
use Rattle.coco_parallel.specs.Worked.{CopyJournal, HaveCommits, HaveWorked, PutsItsCommits, IsCopied, copy_passes_at, start_of, table_at}
use Rattle.coco_parallel.specs.declared.workers.Station.{Station}
use Rattle.coco_parallel.proofs.CrewLemmas.{CrewRan, Shift, all_dealt, column_slots, column_tables, crew, crew_at, crew_count, map_slots, seats_of, shard_rows, table_rows, tables_still}
use Rattle.coco_parallel.proofs.CopyLemmas.{copies_are_of_commits, within_list}
use Rattle.coco_parallel.proofs.RunLemmas.{runs_end}

-- ---- done

module _ {p : Shift} {after : List Station} (ran : CrewRan p after) (some : 0 < p.config.started) where
  abbrev start_at : Rows → Start
  start_at opening = start_of p.procs opening p.requests p.machines p.config p.carries

  module _ {ms : List ShardState} {js : List Journal} {cs : List CopyState} {ks : List CopyJournal} (back : AreBackBy answer_in after_ask (shard_rows after) (length p.machines) ms js) (copy_back : AreBackBy puts.answer_in puts.after_ask (table_rows after) (length p.tables) cs ks)
      (done : All (λ (s : Station). s.is_done ≡ true) after) (drawn : (place : ℕ) → place < length p.requests → times_drawn place (seats_of after) ≡ 1) where
    is_run : (opening : Rows) → IsRun (start_at opening) p.locks p.dealt.trays back.trays (crew p) after js ms
    is_run opening = record {
      some = some;
      started = p.dealt.started;
      stations = crew_count p;
      still = ran.still;
      dealt = all_dealt p;
      left = ran.left;
      done = λ worker d lt. done worker d (omega (arith, ran.still, lt));
      drawn = λ place lt. ap (times_drawn place) (map_slots (λ (slot : Slot). slot.seat) after) ∙ drawn place lt;
      trays_are = back.trays_are;
      back_are = λ shard d lt. back.passes shard d lt ∙ column_slots shard after;
      ended = back.ended;
    }

    many_rows : length (table_rows after) ≡ length p.copy_rows
    many_rows = (tables_still ran).count

    same_tables : (n : ℕ) (d : Vec CopyPass) → n < length p.copy_rows → AreSame (slice_index_or p.copy_rows n d).items (slice_index_or (table_rows after) n d).items
    same_tables = (tables_still ran).same

    closed_table : (table : ℕ) → table < length p.tables → ClosedBy puts.answer_in puts.after_ask table (table_at p.tables table) (table_rows after) (table_at cs table) (slice_index_or ks table [])
    closed_table table lt = closed_by puts.answer_in puts.after_ask (table_rows after) (length p.tables) cs ks copy_back table (table_at p.tables table) (begun 0 empty) lt (let n = p.copy_dealt.count in omega (arith, some, many_rows, n))
        (bears p.config.started p.tables p.copy_locks p.copy_rows (table_rows after) p.copy_dealt many_rows same_tables table (table_at p.tables table) (slice_get-get_or p.tables table (begun 0 empty) lt))

    copied : (table : ℕ) → table < length p.tables → IsCopied (table_at p.tables table) (copy_passes_at table (slots_of after)) (slice_index_or ks table []) (table_at cs table)
    copied table lt = record { passes_are = subst (λ ps. HasPasses ps (slice_index_or ks table [])) (column_tables table after) (closed_table table lt).passes_are; replays = (closed_table table lt).replays }

    module _ (worker : ℕ) (lt : worker < p.config.started) where
      abbrev crew_here : List Station
      crew_here = crew p

      here : worker < length crew_here
      here = let n = crew_count p in omega (arith, lt, n)

      d : Station
      d = (some_at crew_here worker here).0

      abbrev before : Slot
      before = (slice_index_or crew_here worker d).slot

      abbrev now : Slot
      now = (slice_index_or after worker d).slot

      is_dealt : IsDealt p.dealt.trays worker before
      is_dealt = all_dealt p worker d here

      row_is : before.copy_passes.items ≡ column worker p.copy_dealt.trays
      row_is = ap (λ (s : Station). s.slot.copy_passes.items) (crew_at p worker d lt) ∙ p.copy_dealt.rows_are worker d.slot.copy_passes lt

      has_entries : (table : ℕ) → table < length p.tables → (has : HasEntries before now table (slice_index_or ks table [])) × (has.pass.number ≡ worker)
      has_entries table within =
          let root : CopyState = table_at p.tables table in
          let new = dealt_pass p.config.started worker lt p.tables p.copy_locks p.copy_dealt.trays p.copy_dealt.started table root (slice_get-get_or p.tables table (begun 0 empty) within) in
          let first : CopyPass = new_pass new.0 root worker in
          let first_is : slice_get before.copy_passes.items table ≡ Some first = ap (λ (ps : List CopyPass). slice_get ps table) row_is ∙ new.1 in
          let found = same_pass before.copy_passes.items now.copy_passes.items table first (ran.left worker d here).same_copies first_is in
          let below : worker < length after = omega (arith, ran.still, here) in
          let at : slice_get (slice_index_or (table_rows after) worker now.copy_passes).items table ≡ Some found.0 =
          ap (λ (r : Vec CopyPass). slice_get r.items table) (get_or-map (λ (s : Station). s.slot.copy_passes) after worker d now.copy_passes below) ∙ found.1 in
          let own = recursion_from_All (λ (p : CopyPass). entries_of p.number (slice_index_or ks table []) ≡ map (entry_of p.number) p.calls) (column table (table_rows after)) (closed_table table within).passes_are.own in (
            record {
              first = first;
              pass = found.0;
              within = within_list before.copy_passes.items table first first_is;
              first_is = first_is;
              undone = refl;
              pass_is = found.1;
              entries = in_column (λ (p : CopyPass). entries_of p.number (slice_index_or ks table []) ≡ map (entry_of p.number) p.calls) table (table_rows after) own worker now.copy_passes
                  (let n = length-map after (λ (s : Station). s.slot.copy_passes) in omega (arith, n, below)) found.0 at;
            },
            ap (λ (p : CopyPass). p.number) found.2,
          )

      puts_commits : PutsItsCommits (record { procs = p.procs; requests = p.requests; partitions = length p.machines; worker = worker; config = p.config; carries = p.carries }) (length p.tables) ks (slice_index_or (map (λ (s : Station). s.slot.transcript) after) worker [])
      puts_commits =
          let did = (ran.left worker d here).worked (done worker d (omega (arith, ran.still, here))) in
          let job : Job = record { procs = p.procs; requests = p.requests; partitions = length p.machines; worker = before.worker; config = p.config; carries = p.carries } in
          subst (λ (w : ℕ). PutsItsCommits (record { procs = p.procs; requests = p.requests; partitions = length p.machines; worker = w; config = p.config; carries = p.carries }) (length p.tables) ks (slice_index_or (map (λ (s : Station). s.slot.transcript) after) worker [])) is_dealt.worker_is (record {
            worked = did.0;
            each = did.1.each;
            scripts = get_or-map (λ (s : Station). s.slot.transcript) after worker d [] (omega (arith, ran.still, here)) ∙ did.1.adds.transcript ∙ ap (λ (ts : Transcript). ts ++ scripts_of did.0) is_dealt.transcript;
            puts = λ table within.
                let has = has_entries table within in
                ap (λ (n : ℕ). map (λ (e : Entry CopyAsk CopyAnswer). e.ask) (entries_of n (slice_index_or ks table []))) (is_dealt.worker_is ∙ sym has.1)
                ∙ copies_are_of_commits job before now did.0 table (slice_index_or ks table []) did.1 has.0;
          })

    commits : (opening : Rows) → HaveCommits (start_at opening) p.config.started (length p.tables) ks (map (λ (s : Station). s.slot.transcript) after)
    commits opening = record {
      count = journals_count puts.answer_in puts.after_ask (table_rows after) (length p.tables) cs ks copy_back;
      puts = puts_commits;
      no_other = λ table within. subst (λ (n : ℕ). All (λ (e : Entry CopyAsk CopyAnswer). e.pass < n) (slice_index_or ks table [])) (
          back_count table (table_at p.tables table) 0 (table_rows after) (bears p.config.started p.tables p.copy_locks p.copy_rows (table_rows after) p.copy_dealt many_rows same_tables table (table_at p.tables table) (slice_get-get_or p.tables table (begun 0 empty) within))
          ∙ many_rows ∙ p.copy_dealt.count) (closed_table table within).passes_are.no_other;
    }

    pub have_worked : (opening : Rows) (transcripts : List Transcript) (pieces : List (List Piece)) → transcripts ≡ map (λ (s : Station). s.slot.transcript) after → pieces ≡ map (λ (s : Station). s.slot.pieces) after
        → HaveWorked (start_at opening) p.tables ms js cs ks transcripts pieces
    have_worked opening transcripts pieces transcripts_are pieces_are = record {
      slots = slots_of after;
      ended = runs_end (start_at opening) p.locks p.dealt.trays back.trays (crew p) after js ms (is_run opening);
      copies_are = machines_count puts.answer_in puts.after_ask (table_rows after) (length p.tables) cs ks copy_back;
      commits = subst (λ (ts : List Transcript). HaveCommits (start_at opening) p.config.started (length p.tables) ks ts) (sym transcripts_are) (commits opening);
      copied = copied;
      transcripts_are = transcripts_are ∙ sym (map_slots (λ (slot : Slot). slot.transcript) after);
      pieces_are = pieces_are ∙ sym (map_slots (λ (slot : Slot). slot.pieces) after);
    }
