-- What shows of a store from call to call, while its history stays.
use Rattle.std.proofs.Common.{◌≡◌, ℕ, ◌+◌, ◌<◌, ◌≤◌, Bool, true, false, List, [], ◌∷◌, ◌++◌, append-nil, append_assoc, Option, Some, refl, sym, ap, ◌∙◌, subst, arith}
use Rattle.std.specs.List.{AllByRecursion}
use Rattle.coco_ast.proofs.Lists.{all_append}
use Rattle.coco_append.specs.Gaining.{RestsOn}
use Rattle.coco_ast.specs.History.{map_of}
use Rattle.coco_entry.specs.declared.prepared.Prepared.{Prepared}
use Rattle.coco_host.specs.Files.{Files}
use Rattle.coco_host.specs.Moments.{Observation}
use Rattle.coco_host.proofs.Sees.{started}
use Rattle.coco_host.specs.declared.host.Host.{Ghosts as HostGhosts}
use Rattle.coco_log.proofs.OnlyRead.{sees_then, sees_weaker}
use Rattle.coco_log.specs.LogState.{IsAsBefore, IsOnlyRead}
use Rattle.coco_store.specs.Contents.{Contents, history_of, map_in}
use Rattle.coco_vote.specs.Preparing.{Ballot, HavePrepared, IsVotedStore, KeepsVoted, RestsVoted, ShowsVoted, prepared_of}
use Rattle.coco_cluster.specs.Standing.{IsBehindAll}
use Rattle.coco_cluster.specs.Trying.{Keeps}
use Rattle.coco_cluster.specs.Turning.{AddsOnlyPrepared, IsStoreOf, RestsWithout, ShowsHistory}
use Rattle.coco_cluster.specs.Writing.{WritesLogs}
use Rattle.coco_cluster.proofs.BehindLemmas.{behind_later}
use Rattle.coco_cluster.proofs.WriteLemmas.{writes_none, writes_then}
use Rattle.coco_store.specs.Rules.{Setting}
use Rattle.coco_entry.specs.declared.commit.Commit.{Commit}

-- ---- contents with prepared entries more

pub adds_none : (c : Contents) → AddsOnlyPrepared c c
adds_none c = record { earlier = refl; setting = refl; base = refl; commits = refl; prepared = λ n. ([], sym (append-nil (c.prepared n))) }

pub adds_then : (c d e : Contents) → AddsOnlyPrepared c d → AddsOnlyPrepared d e → AddsOnlyPrepared c e
adds_then c d e one two = record {
  earlier = two.earlier ∙ one.earlier;
  setting = two.setting ∙ one.setting;
  base = two.base ∙ one.base;
  commits = two.commits ∙ one.commits;
  prepared = λ n.
      let first = one.prepared n in
      let second = two.prepared n in
      (first.0 ++ second.0, second.1 ∙ ap (λ es. es ++ second.0) first.1 ∙ append_assoc (c.prepared n) first.0 second.0);
}

pub same_history : (c d : Contents) → AddsOnlyPrepared c d → history_of d ≡ history_of c
same_history c d only =
    ap (λ s. history_of (record d { setting = s })) only.setting
    ∙ ap (λ b. history_of (record d { setting = c.setting; base = b })) only.base
    ∙ ap (λ cs. history_of (record d { setting = c.setting; base = c.base; commits = cs })) only.commits

pub same_map : (c d : Contents) → AddsOnlyPrepared c d → map_in d ≡ map_in c
same_map c d only = ap (λ (s : Setting). map_of s.tree (history_of d)) only.setting ∙ ap (map_of c.setting.tree) (same_history c d only)

-- ---- a good store with the history, from the contents of before to those of after

pub as_before : (c d : Contents) (end : ℕ) (files : Files) → d.setting ≡ c.setting → history_of d ≡ history_of c → IsStoreOf d.setting (history_of d) end files → IsStoreOf c.setting (history_of c) end files
as_before c d end files setting history store = record {
  contents = store.contents;
  setting = store.setting ∙ setting;
  good = store.good;
  history = store.history ∙ history;
  below = store.below;
}

pub store_later : (c : Contents) (end later : ℕ) (files : Files) → end ≤ later → IsStoreOf c.setting (history_of c) end files → IsStoreOf c.setting (history_of c) later files
store_later c end later files le store = record {
  contents = store.contents;
  setting = store.setting;
  good = store.good;
  history = store.history;
  below = behind_later store.contents end later le store.below;
}

module _ {H : Type 0} (frame : HostGhosts H) where
  abbrev KeepsIt : Contents → ℕ → H → H → Type 0
  KeepsIt c end old new = Keeps frame c end old new

  abbrev pub OnlyNow : Type 0
  OnlyNow = (host : H) (seen : Observation) → frame.observed host (frame.moment host) seen → frame.may_leave host seen.image × (frame.said host ≡ Some seen.said)

  -- where the host wasn't touched
  pub keeps_same : OnlyNow → (c : Contents) (end : ℕ) (host : H) → RestsOn c (frame.reads host) (frame.may_leave host) → IsBehindAll c end → KeepsIt c end host host
  keeps_same only_now c end host rests below = record {
    moments = started frame.moment frame.observed host (ShowsHistory c.setting (history_of c) end (frame.said host)) (λ seen since.
        let now = only_now host seen since in
        (record { contents = c; setting = refl; good = rests.left seen.image now.0; history = refl; below = below }, now.1));
    left = λ bytes spoke image leaves. record { contents = c; setting = refl; good = rests.left image leaves; history = refl; below = below };
    others = writes_none c.setting (frame.reads host) (frame.reads host) (frame.may_leave host) (frame.may_leave host) refl (λ image leaves. leaves);
    quiet = refl;
  }

  pub keeps_then : (c : Contents) (end : ℕ) (first mid last : H) → KeepsIt c end first mid → KeepsIt c end mid last → KeepsIt c end first last
  keeps_then c end first mid last one two = record {
    moments = sees_then frame.moment frame.observed first mid last (ShowsHistory c.setting (history_of c) end (frame.said first)) (ShowsHistory c.setting (history_of c) end (frame.said mid)) one.moments two.moments
        (λ seen shows. (shows.0, sym one.quiet ∙ shows.1));
    left = λ bytes spoke image leaves. two.left bytes (one.quiet ∙ spoke) image leaves;
    others = writes_then c.setting (frame.reads first) (frame.reads mid) (frame.reads last) (frame.may_leave first) (frame.may_leave mid) (frame.may_leave last) one.others two.others;
    quiet = two.quiet ∙ one.quiet;
  }

  pub keeps_later : (c : Contents) (end later : ℕ) (old new : H) → end ≤ later → KeepsIt c end old new → KeepsIt c later old new
  keeps_later c end later old new le keeps = record {
    moments = sees_weaker frame.moment frame.observed old new (ShowsHistory c.setting (history_of c) end (frame.said old)) (ShowsHistory c.setting (history_of c) later (frame.said old))
        (λ seen shows. (store_later c end later seen.image le shows.0, shows.1)) keeps.moments;
    left = λ bytes spoke image leaves. store_later c end later image le (keeps.left bytes spoke image leaves);
    others = keeps.others;
    quiet = keeps.quiet;
  }

  -- of contents with the same history
  pub keeps_as : (c d : Contents) (end : ℕ) (old new : H) → d.setting ≡ c.setting → history_of d ≡ history_of c → KeepsIt d end old new → KeepsIt c end old new
  keeps_as c d end old new setting history keeps = record {
    moments = sees_weaker frame.moment frame.observed old new (ShowsHistory d.setting (history_of d) end (frame.said old)) (ShowsHistory c.setting (history_of c) end (frame.said old))
        (λ seen shows. (as_before c d end seen.image setting history shows.0, shows.1)) keeps.moments;
    left = λ bytes spoke image leaves. as_before c d end image setting history (keeps.left bytes spoke image leaves);
    others = subst (λ s. WritesLogs s (frame.reads old) (frame.reads new) (frame.may_leave old) (frame.may_leave new)) setting keeps.others;
    quiet = keeps.quiet;
  }

  -- where the host was only read
  pub keeps_read : (c : Contents) (end : ℕ) (old new : H) → RestsOn c (frame.reads old) (frame.may_leave old) → IsBehindAll c end → IsOnlyRead frame old new → KeepsIt c end old new
  keeps_read c end old new rests below read = record {
    moments = sees_weaker frame.moment frame.observed old new (IsAsBefore (frame.may_leave old) (frame.said old)) (ShowsHistory c.setting (history_of c) end (frame.said old))
        (λ seen before. (record { contents = c; setting = refl; good = rests.left seen.image before.image; history = refl; below = below }, before.said)) read.moments;
    left = λ bytes spoke image leaves. record { contents = c; setting = refl; good = rests.left image (read.crash image leaves); history = refl; below = below };
    others = writes_none c.setting (frame.reads old) (frame.reads new) (frame.may_leave old) (frame.may_leave new) read.same read.crash;
    quiet = read.quiet;
  }

  -- and then the host rests on what it rested on
  pub rests_read : (c : Contents) (old new : H) → IsOnlyRead frame old new → RestsOn c (frame.reads old) (frame.may_leave old) → RestsOn c (frame.reads new) (frame.may_leave new)
  rests_read c old new read rests = record {
    files = rests.files;
    are = read.same ∙ rests.are;
    good = rests.good;
    left = λ image leaves. rests.left image (read.crash image leaves);
  }

-- ---- a vote

module _ (c : Contents) (b : Ballot) (below : IsBehindAll c b.epoch) where
  one_adds : (n : ℕ) (has : ℕ → Bool) (d : Contents) (voted : HavePrepared c b has d) (x : Bool) → has n ≡ x → (more : List Prepared) × (d.prepared n ≡ c.prepared n ++ more)
  one_adds n has d voted true is = (let p = voted.prepared n is in (prepared_of b.epoch p.rows ∷ [], p.entry))
  one_adds n has d voted false is = ([], voted.others n is ∙ sym (append-nil (c.prepared n)))

  pub voted_adds : (has : ℕ → Bool) (d : Contents) → HavePrepared c b has d → AddsOnlyPrepared c d
  voted_adds has d voted = record {
    earlier = voted.earlier;
    setting = voted.setting;
    base = voted.base;
    commits = voted.commits;
    prepared = λ n. one_adds n has d voted (has n) refl;
  }

  one_below : (n : ℕ) (has : ℕ → Bool) (d : Contents) (voted : HavePrepared c b has d) → n < c.setting.entry.layout.nodes → (x : Bool) → has n ≡ x → AllByRecursion (λ (e : Prepared). e.epoch < b.epoch + 1) (d.prepared n)
  one_below n has d voted node true is = (let p = voted.prepared n is in
      subst (AllByRecursion (λ (e : Prepared). e.epoch < b.epoch + 1)) (sym p.entry)
      (all_append (λ (e : Prepared). e.epoch < b.epoch + 1) (c.prepared n) (prepared_of b.epoch p.rows ∷ []) ((behind_later c b.epoch (b.epoch + 1) (omega arith) below).prepared n node) (omega arith, tt)))
  one_below n has d voted node false is = subst (AllByRecursion (λ (e : Prepared). e.epoch < b.epoch + 1)) (sym (voted.others n is)) ((behind_later c b.epoch (b.epoch + 1) (omega arith) below).prepared n node)

  pub voted_below : (has : ℕ → Bool) (d : Contents) → HavePrepared c b has d → IsBehindAll d (b.epoch + 1)
  voted_below has d voted = record {
    base = subst (λ (s : Setting). s.entry.layout.base_epoch < b.epoch + 1) (sym voted.setting) (let l = below.base in omega (arith, l));
    commits = subst (AllByRecursion (λ (e : Commit). e.epoch < b.epoch + 1)) (sym voted.commits) (behind_later c b.epoch (b.epoch + 1) (omega arith) below).commits;
    prepared = λ n node. one_below n has d voted (subst (λ (s : Setting). n < s.entry.layout.nodes) voted.setting node) (has n) refl;
  }

  voted_store : (files : Files) → IsVotedStore c b files → IsStoreOf c.setting (history_of c) (b.epoch + 1) files
  voted_store files store = record {
    contents = store.contents;
    setting = store.voted.setting;
    good = store.good;
    history = same_history c store.contents (voted_adds store.has store.contents store.voted);
    below = voted_below store.has store.contents store.voted;
  }

  module _ {H : Type 0} (frame : HostGhosts H) where
    pub keeps_voted : (old new : H) → KeepsVoted frame c b old new → WritesLogs c.setting (frame.reads old) (frame.reads new) (frame.may_leave old) (frame.may_leave new)
        → Keeps frame c (b.epoch + 1) old new
    keeps_voted old new keeps writes = record {
      moments = sees_weaker frame.moment frame.observed old new (ShowsVoted c b (frame.said old)) (ShowsHistory c.setting (history_of c) (b.epoch + 1) (frame.said old)) (λ seen shows. (voted_store seen.image shows.store, shows.said)) keeps.moments;
      left = λ bytes spoke image leaves. voted_store image (keeps.left bytes spoke image leaves);
      others = writes;
      quiet = keeps.quiet;
    }

  pub rests_without : (has : ℕ → Bool) (now : Option Files) (leaves : Files → Type 0) → RestsVoted c b has now leaves → RestsWithout c (b.epoch + 1) now leaves
  rests_without has now leaves voted = (voted.contents, voted_adds has voted.contents voted.voted, voted_below has voted.contents voted.voted, voted.rests)
