-- The small stores are such stores.
use Rattle.std.proofs.Common.{◌≡◌, inl, inr, refl, sym, ap, ◌∙◌, ℕ, zero, suc, ◌<◌, ◌≤◌, ◌%◌, cond, nat_eq, Bool, true, false, List, [], ◌∷◌, ◌++◌, length, take, Option, Some, None, slice_get, codes, arith}
use Rattle.std.specs.FinMap.{empty, insert}
use Rattle.std.specs.Prelude.{FitsSigned, pos, slice_index}
use Rattle.std.specs.Int.{w64}
use Rattle.std.specs.List.{All, IsDistinct}
use Rattle.std.proofs.lemmas.List.Elements.{All-cons, All-nil}
use Rattle.coco_types.proofs.KeyMaps.{same_keyed}
use Rattle.coco_host.specs.Files.{Files}
use Rattle.coco_types.specs.declared.value.Value.TheVariants.{Int}
use Rattle.coco_ast.specs.Builtins.{builtins}
use Rattle.coco_ast.specs.Checks.{HasNoError, is_among}
use Rattle.coco_ast.specs.History.{IsOrdered, IsSerial, compacted}
use Rattle.coco_ast.specs.HistoryExamples.{first_done, five_is_70, get_done, two_epochs}
use Rattle.coco_ast.specs.Keyed.{Rows, on_partition, value_at}
use Rattle.coco_ast.specs.Meaning.{run}
use Rattle.coco_ast.specs.Tree.{Procedure}
use Rattle.coco_ast.proofs.KeyedLemmas.{value_on_partition}
use Rattle.coco_entry.specs.declared.commit.Commit.{Commit}
use Rattle.coco_entry.specs.declared.prepared.Prepared.{Prepared}
use Rattle.coco_entry.specs.Bases.{AreBaseDones, AreBaseRows, base_dones_bytes, base_rows_bytes, head_bytes}
use Rattle.coco_entry.specs.Calls.{IsDone}
use Rattle.coco_entry.specs.Commits.{commit_bytes, IsCommit}
use Rattle.coco_entry.specs.Layouts.{layout_bytes, IsLayout}
use Rattle.coco_entry.specs.Rows.{prepared_bytes, IsPrepared}
use Rattle.coco_log.specs.Grammar.{IsShort}
use Rattle.coco_parse.specs.Grammar.{nothing}
use Rattle.coco_store.specs.Contents.{Holds, HoldsNode, IsGoodStore, history_of, map_in, on, rows_of}
use Rattle.coco_store.specs.Entries.{AreBase, AreLayouts, AreCommits, ArePrepared}
use Rattle.coco_store.specs.Placement.{IsHeldBy}
use Rattle.coco_store.specs.Rules.{IsBase, IsWithinLimits, IsNextCommit, IsNextPrepared}
use Rattle.coco_store.specs.StoreExamples.{one_setting, base_entries, compacted_base, compacted_files, compacted_layout, compacted_layouts, compacted_setting, compacted_store, StoreExamples, commit_file, first_commit, first_prepared, layout_file, new_files, new_store, no_entries, one_layout, prepared_file, prepared_files, prepared_store, put_files, put_store, reused_store, ring, unprepared_files, unprepared_store}
use Rattle.coco_store.specs.Texts.{IsAcceptedText}

-- ---- files

one_short : (body : List ℕ) → length body ≤ 67108864 → All IsShort (body ∷ [])
one_short body h = All-cons IsShort body [] h (All-nil IsShort)

shut : ◌≡◌ {A = ℕ} 0 1 → ⊥
shut e = omega (arith, e)

layout_is : IsLayout one_layout
layout_is = record {
  fields = record {
    nodes = omega arith;
    partitions = omega arith;
    copies = omega arith;
    chief = (omega arith, refl);
    count = refl;
    files = ((omega arith, refl), tt);
    base_epoch = omega arith;
    text = omega arith;
  };
  later = tt;
}

layouts : AreLayouts (one_layout ∷ []) layout_file
layouts = record {
  log = record { gate = 0; behind = []; short = one_short (layout_bytes one_layout) (omega arith); shut = shut; is = refl };
  are = (layout_is, tt);
}

small : (n : ℕ) → n < 100 → FitsSigned w64 (pos n)
small n h = record { sfits = omega arith }

done_is : IsDone first_done
done_is = record {
  id = omega arith;
  call = record { proc_no = omega arith; args = (omega arith, (small 5 (omega arith), (small 70 (omega arith), tt))) };
  time = omega arith;
  reply = small 70 (omega arith);
}

commit_is : IsCommit first_commit
commit_is = record { epoch = omega arith; count = omega arith; dones = ((refl, done_is), tt) }

commits : AreCommits (first_commit ∷ []) commit_file
commits = record {
  log = record { gate = 0; behind = []; short = one_short (commit_bytes first_commit) (omega arith); shut = shut; is = refl };
  are = (commit_is, tt);
}

no_commits : AreCommits [] (no_entries 1)
no_commits = record { log = record { gate = 0; behind = []; short = All-nil IsShort; shut = shut; is = refl }; are = tt }

prepared_is : IsPrepared first_prepared
prepared_is = record {
  epoch = omega arith;
  count = omega arith;
  rows = ((tt, record { key = record { table = omega arith; row = omega arith }; time = omega arith; value = small 70 (omega arith) }), tt);
}

prepared : ArePrepared (first_prepared ∷ []) prepared_file
prepared = record {
  log = record { gate = 0; behind = []; short = one_short (prepared_bytes first_prepared) (omega arith); shut = shut; is = refl };
  are = (prepared_is, tt);
}

prepared_more : ArePrepared (first_prepared ∷ []) (prepared_file ++ 3 ∷ 0 ∷ [])
prepared_more = record {
  log = record { gate = 0; behind = 3 ∷ 0 ∷ []; short = one_short (prepared_bytes first_prepared) (omega arith); shut = shut; is = refl };
  are = (prepared_is, tt);
}

no_prepared : ArePrepared [] (no_entries 2)
no_prepared = record { log = record { gate = 0; behind = []; short = All-nil IsShort; shut = shut; is = refl }; are = tt }

-- ---- the layout

limits : IsWithinLimits one_layout
limits = record {
  nodes = (omega arith, omega arith);
  partitions = (omega arith, omega arith);
  copies = omega arith;
  base_epoch = omega arith;
  keep = tt;
}

no_two_tables : (n : ℕ) (x : List ℕ) → slice_get (codes "main" ∷ []) n ≡ Some x → is_among (take n (codes "main" ∷ [])) x ≡ true → ⊥
no_two_tables zero x there among = let e : false ≡ true = among in cc
no_two_tables (suc n) x there among = let e : ◌≡◌ {A = Option (List ℕ)} None (Some x) = there in cc

no_error : HasNoError (record { tables = []; procs = [] })
no_error e (inl table) = no_two_tables e.item table.twice.0 table.twice.1 table.twice.2
no_error e (inr procedure) = let none : ◌≡◌ {A = Option Procedure} None (Some procedure.procedure) = procedure.there in cc

empty_text : IsAcceptedText [] builtins
empty_text = record {
  short = omega arith;
  tokens = [];
  lexed = record {
    utf8 = ([], (refl, refl));
    follow = record { ordered = omega arith; within = omega arith; separates = λ i from to. absurd (omega arith); ends = λ less sep. omega arith };
  };
  own = record { tables = []; procs = [] };
  parsed = record { text = nothing; limits = λ m less k passes. omega arith };
  sound = no_error;
  whole = refl;
}

-- ---- rows

whole_row : (k : ℕ) → nat_eq (k % 1) 0 ≡ true
whole_row k = let e : k % 1 ≡ 0 = omega arith in ap (λ n. nat_eq n 0) e

-- of one partition all rows are
whole : (m : Rows) → on_partition 1 0 m ≡ m
whole m = same_keyed (on_partition 1 0 m) m (λ q. value_on_partition 1 0 m q ∙ ap (λ (b : Bool). cond b (value_at m q) None) (whole_row q.row))

-- ---- stores

no_epochs : IsOrdered (history_of new_store)
unfolding IsDistinct
no_epochs = record { epochs_rise = tt; numbered = tt; rising = tt; once = tt; above_floor = tt }

no_runs : IsSerial builtins (history_of new_store)
no_runs = record { replies = tt; times = tt }

one_node : (files : Files) (commits : List Commit) (entries : List Prepared) → HoldsNode one_setting commits 0 entries (files 2)
    → (n : ℕ) → n < 1 → HoldsNode one_setting commits n entries (files (slice_index (2 ∷ []) n))
one_node files commits entries holds zero less = holds
one_node files commits entries holds (suc n) less = absurd (omega (arith, less))

new_holds : Holds new_files new_store
new_holds = record {
  history = record {
    layouts = record { are = layouts; each = tt; limits = limits; tree = empty_text };
    base = refl;
    commits = record { are = no_commits; each = tt };
  };
  nodes = λ n less. one_node new_files [] [] (record { are = no_prepared; each = tt; committed = tt }) n less;
}

new : IsGoodStore new_files new_store
new = record { holds = new_holds; ordered = no_epochs; serial = no_runs; rows = λ n p node partition held. refl }

may_prepare : IsNextPrepared one_setting 0 [] first_prepared
may_prepare = record {
  epoch = record { above_base = omega arith; rises = tt; below_end = omega arith };
  rows = (record { held = (0, omega arith, refl); table = omega arith }, tt);
}

prepared_holds : Holds prepared_files prepared_store
prepared_holds = record {
  history = record {
    layouts = record { are = layouts; each = tt; limits = limits; tree = empty_text };
    base = refl;
    commits = record { are = no_commits; each = tt };
  };
  nodes = λ n less. one_node prepared_files [] (first_prepared ∷ []) (record { are = prepared; each = (may_prepare, tt); committed = tt }) n less;
}

prepared_good : IsGoodStore prepared_files prepared_store
prepared_good = record { holds = prepared_holds; ordered = no_epochs; serial = no_runs; rows = λ n p node partition held. refl }

may_commit : IsNextCommit one_setting [] [] first_commit
may_commit = record {
  epoch = record { above_base = omega arith; rises = tt; below_end = omega arith };
  dones = (record { above = tt; next = record { fits = refl; time = (omega arith, omega arith); rises = tt; new = refl; few = omega arith; room = omega arith } }, tt);
}

put_holds : Holds put_files put_store
put_holds = record {
  history = record {
    layouts = record { are = layouts; each = tt; limits = limits; tree = empty_text };
    base = refl;
    commits = record { are = commits; each = (may_commit, tt) };
  };
  nodes = λ n less. one_node put_files (first_commit ∷ []) (first_prepared ∷ []) (record { are = prepared_more; each = (may_prepare, tt); committed = (refl, tt) }) n less;
}

one_epoch : IsOrdered (history_of put_store)
unfolding IsDistinct
one_epoch = record { epochs_rise = (omega arith, tt); numbered = ((refl, tt), tt); rising = (tt, tt); once = (tt, tt); above_floor = tt }

one_run : IsSerial builtins (history_of put_store)
unfolding run
one_run = record { replies = (refl, tt); times = (refl, tt) }

put_map : map_in put_store ≡ five_is_70
unfolding run
put_map = refl

put_rows : rows_of put_store 0 0 ≡ five_is_70
put_rows = ap (λ (m : Rows). insert m (record { table = 0; row = 5 }) (Int (pos 70))) (whole empty)

put_at : (n p : ℕ) → p < 1 → rows_of put_store n p ≡ on one_setting p (map_in put_store)
put_at n zero less = put_rows ∙ sym (whole (map_in put_store) ∙ put_map)
put_at n (suc p) less = absurd (omega (arith, less))

put : IsGoodStore put_files put_store
put = record { holds = put_holds; ordered = one_epoch; serial = one_run; rows = λ n p node partition held. put_at n p partition }

-- ---- the compacted store

compacted_is : IsLayout compacted_layout
compacted_is = record {
  fields = record {
    nodes = omega arith;
    partitions = omega arith;
    copies = omega arith;
    chief = (omega arith, refl);
    count = refl;
    files = ((omega arith, refl), tt);
    base_epoch = omega arith;
    text = omega arith;
  };
  later = (omega arith, refl, (omega arith, refl));
}

compacted_layouts_are : AreLayouts (one_layout ∷ compacted_layout ∷ []) compacted_layouts
compacted_layouts_are = record {
  log = record {
    gate = 0;
    behind = [];
    short = All-cons IsShort (layout_bytes one_layout) (layout_bytes compacted_layout ∷ []) (omega arith) (one_short (layout_bytes compacted_layout) (omega arith));
    shut = shut;
    is = refl;
  };
  are = (layout_is, (compacted_is, tt));
}

compacted_limits : IsWithinLimits compacted_layout
compacted_limits = record {
  nodes = (omega arith, omega arith);
  partitions = (omega arith, omega arith);
  copies = omega arith;
  base_epoch = omega arith;
  keep = tt;
}

get_done_is : IsDone (get_done 2 2)
get_done_is = record {
  id = omega arith;
  call = record { proc_no = omega arith; args = (omega arith, (small 5 (omega arith), tt)) };
  time = omega arith;
  reply = small 70 (omega arith);
}

dones_are : AreBaseDones (first_done ∷ get_done 2 2 ∷ [])
dones_are = (
  (omega arith, omega arith),
  ((tt, record { epoch = omega arith; fields = done_is }), ((inl (omega arith), record { epoch = omega arith; fields = get_done_is }), tt)),
)

values_are : AreBaseRows ((record { table = 0; row = 5 }, Int (pos 70)) ∷ [])
values_are = ((omega arith, omega arith), ((tt, record { key = record { table = omega arith; row = omega arith }; value = small 70 (omega arith) }), tt))

base_is : AreBase compacted_base base_entries
base_is = record {
  log = record {
    gate = 0;
    behind = [];
    short =
        All-cons IsShort (head_bytes (record { epoch = 2; floor = None; dones = 2; rows = 1 }))
        (base_dones_bytes (first_done ∷ get_done 2 2 ∷ []) ∷ base_rows_bytes ((record { table = 0; row = 5 }, Int (pos 70)) ∷ []) ∷ []) (omega arith)
        (All-cons IsShort (base_dones_bytes (first_done ∷ get_done 2 2 ∷ [])) (base_rows_bytes ((record { table = 0; row = 5 }, Int (pos 70)) ∷ []) ∷ []) (omega arith)
        (one_short (base_rows_bytes ((record { table = 0; row = 5 }, Int (pos 70)) ∷ [])) (omega arith)));
    shut = shut;
    is = refl;
  };
  are = (record { epoch = omega arith; floor = tt; dones = omega arith; rows = omega arith }, (dones_are, (values_are, tt)));
}

base_keeps : IsBase compacted_setting compacted_base
base_keeps = record {
  each = (
    record { order = refl; dones = tt; values = tt },
    (
      record {
        order = tt;
        dones = (
          record {
            epoch = (omega arith, omega arith);
            next = record { fits = refl; time = (omega arith, omega arith); rises = tt; new = refl; few = omega arith; room = omega arith };
          },
          (
            record {
              epoch = (omega arith, omega arith);
              next = record { fits = refl; time = (omega arith, omega arith); rises = (inl (omega arith), tt); new = refl; few = omega arith; room = omega arith };
            },
            tt,
          ),
        );
        values = tt;
      },
      (record { order = tt; dones = tt; values = (record { table = omega arith; rises = tt }, tt) }, tt),
    ),
  );
  whole = (refl, refl);
}

compacted_node : (n : ℕ) → n < 1 → HoldsNode compacted_setting [] n [] (compacted_files (slice_index (5 ∷ []) n))
compacted_node zero less = record { are = no_prepared; each = tt; committed = tt }
compacted_node (suc n) less = absurd (omega (arith, less))

compacted_holds : Holds compacted_files compacted_store
compacted_holds = record {
  history = record {
    layouts = record { are = compacted_layouts_are; each = (record { limits = limits; tree = builtins; accepted = empty_text }, tt); limits = compacted_limits; tree = empty_text };
    base = (base_is, base_keeps);
    commits = record { are = no_commits; each = tt };
  };
  nodes = compacted_node;
}

no_epoch_since : IsOrdered (history_of compacted_store)
unfolding IsDistinct
no_epoch_since = record { epochs_rise = tt; numbered = tt; rising = tt; once = ((refl, tt), (tt, tt)); above_floor = tt }

no_run_since : IsSerial builtins (history_of compacted_store)
no_run_since = record { replies = tt; times = tt }

compacted_good : IsGoodStore compacted_files compacted_store
compacted_good = record { holds = compacted_holds; ordered = no_epoch_since; serial = no_run_since; rows = λ n p node partition held. refl }

compacted_same : history_of compacted_store ≡ compacted builtins 2 two_epochs
unfolding run
compacted_same = refl

unprepared : Holds unprepared_files unprepared_store → ⊥
unprepared holds = let e : false ≡ true = (holds.nodes 0 (omega arith)).committed.0 in cc

reused : (files : Files) → Holds files reused_store → ⊥
reused files holds = let e : true ≡ false = holds.history.commits.each.1.0.dones.0.next.new in cc

elsewhere : IsHeldBy ring 3 2 → ⊥
elsewhere (zero, few, is) = omega (arith, is)
elsewhere (suc zero, few, is) = omega (arith, is)
elsewhere (suc (suc j), few, is) = omega (arith, few)

pub store_examples : StoreExamples
store_examples = record {
  lengths = refl;
  new = new;
  new_history = refl;
  new_rows = whole empty;
  put = put;
  put_history = refl;
  put_rows = put_rows;
  prepared = prepared_good;
  prepared_history = refl;
  prepared_rows = whole empty;
  compacted = compacted_good;
  compacted_history = compacted_same;
  compacted_rows = whole five_is_70;
  unprepared = unprepared;
  reused = reused;
  primary = (0, omega arith, refl);
  copy = (1, omega arith, refl);
  elsewhere = elsewhere;
}
