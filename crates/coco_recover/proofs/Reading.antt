-- From node to node.
use Rattle.std.proofs.Common.{◌≡◌, ℕ, ◌+◌, ◌<◌, List, [], ◌∷◌, ◌++◌, length, get_or, refl, sym, ap, subst, ◌∙◌, arith, below_more, length-append}
use Rattle.std.proofs.lemmas.List.{get_or_append_left, get_or_at}
use Rattle.coco_host.specs.Files.{Files, NoMore}
use Rattle.coco_entry.specs.declared.prepared.Prepared.{Prepared}
use Rattle.coco_log.specs.LogState.{IsFresh, IsOpened, LogState}
use Rattle.coco_rules.specs.Readying.{AreAmong}
use Rattle.coco_store.specs.Contents.{file_of}
use Rattle.coco_store.specs.Entries.{prepared_kind}
use Rattle.coco_store.specs.Rules.{EachBehind, IsNextPrepared, prepared_epochs}
use Rattle.coco_recover.specs.Layouts.{setting_of}
use Rattle.coco_recover.specs.Nodes.{IsLoaded, nodes_of}
use Rattle.coco_recover.specs.Steps.{AreHeld, AreRead, HoldsEntries, IsRead}
use Rattle.coco_recover.specs.declared.commits.Committed.{Committed}
use Rattle.coco_recover.specs.declared.layouts.LastLayout.{LastLayout}
use Rattle.coco_recover.specs.declared.nodes.Loaded.{Loaded}

pub one_more : {A : Type 0} (P : ℕ → A → Type 0) (xs : List A) (x other : A) (n : ℕ) → length xs ≡ n → ((m : ℕ) → m < n → P m (get_or xs m other)) → P n x
    → (m : ℕ) → m < n + 1 → P m (get_or (xs ++ x ∷ []) m other)
one_more P xs x other n long each here =
    below_more (λ (m : ℕ). P m (get_or (xs ++ x ∷ []) m other)) n
    (λ m less. subst (P m) (sym (get_or_append_left xs (x ∷ []) other m (omega (arith, less, long)))) (each m less))
    (subst (P n) (sym (get_or_at xs x [] other n long)) here)

pub one_longer : {A : Type 0} (xs all : List A) (x : A) (n : ℕ) → all ≡ xs ++ x ∷ [] → length xs ≡ n → length all ≡ n + 1
one_longer xs all x n are long = ap length are ∙ length-append xs (x ∷ []) ∙ ap (λ (k : ℕ). k + 1) long

-- what was opened before stays so
pub still_opened : (files : Files) (may_old may_new : Files → Type 0) (log : LogState) → NoMore may_old may_new → IsOpened log files may_old → IsOpened log files may_new
still_opened files may_old may_new log fewer opened = record { bodies = opened.bodies; rest = record { holds = opened.rest.holds; durable = λ image left. opened.rest.durable image (fewer image left) } }

module _ (last : LastLayout) (committed : Committed) where
  pub none_read : (loaded : Loaded) → IsLoaded (setting_of last) committed loaded → nodes_of loaded ≡ [] → AreRead last committed loaded [] 0
  none_read loaded are none = record {
    are = are;
    nodes = ap length none;
    each = λ n less. absurd (omega (arith, less));
    whole = λ n less. absurd (omega (arith, less));
    as_many = refl;
    fresh = λ other n less. absurd (omega (arith, less));
  }

  pub node_read : (old new : Loaded) (entries : List Prepared) (logs more : List LogState) (log : LogState) (n : ℕ) → AreRead last committed old logs n → IsRead last committed n old new entries
      → AreAmong (prepared_epochs entries) committed.epochs.items → IsFresh log (file_of (setting_of last) n) prepared_kind → more ≡ logs ++ log ∷ [] → AreRead last committed new more (n + 1)
  node_read old new entries logs more log n was read whole fresh are =
      let s = setting_of last in
      record {
        are = read.loaded;
        nodes = one_longer (nodes_of old) (nodes_of new) entries n read.more was.nodes;
        each = rw read.more (one_more (λ m es. EachBehind (IsNextPrepared s m) [] es) (nodes_of old) entries [] n was.nodes was.each read.each);
        whole = rw read.more (one_more (λ m es. AreAmong (prepared_epochs es) committed.epochs.items) (nodes_of old) entries [] n was.nodes was.whole whole);
        as_many = one_longer logs more log n are was.as_many;
        fresh = λ other. rw are (one_more (λ m l. IsFresh l (file_of s m) prepared_kind) logs log other n was.as_many (was.fresh other) fresh);
      }

  pub none_held : (files : Files) (may_leave : Files → Type 0) (nodes : List (List Prepared)) (logs : List LogState) → AreHeld files may_leave last committed nodes logs 0
  none_held files may_leave nodes logs = record { each = λ n less. absurd (omega (arith, less)); opened = λ other n less. absurd (omega (arith, less)) }

  pub node_held : (files : Files) (may_old may_new : Files → Type 0) (nodes all : List (List Prepared)) (entries : List Prepared) (logs more : List LogState) (log : LogState) (n : ℕ)
      → AreHeld files may_old last committed nodes logs n → NoMore may_old may_new → length nodes ≡ n → length logs ≡ n → HoldsEntries files last committed n entries → IsOpened log files may_new
      → all ≡ nodes ++ entries ∷ [] → more ≡ logs ++ log ∷ [] → AreHeld files may_new last committed all more (n + 1)
  node_held files may_old may_new nodes all entries logs more log n was fewer long as_many holds opened are longer = record {
    each = rw are (one_more (λ m es. HoldsEntries files last committed m es) nodes entries [] n long was.each holds);
    opened = λ other. rw longer (one_more (λ m l. IsOpened l files may_new) logs log other n as_many (λ m less. still_opened files may_old may_new (get_or logs m other) fewer (was.opened other m less)) opened);
  }
