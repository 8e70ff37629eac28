-- An epoch's entries, one node's behind another's, and what is seen of a store meanwhile.
use Rattle.std.proofs.Common.{◌≡◌, ◌⊎◌, ⊎_elim, ℕ, ◌<◌, Bool, true, false, eqb, List, [], ◌∷◌, ◌++◌, Option, Some, Result, Ok, Err, refl, sym, ap, subst, ◌∙◌}
use Rattle.std.specs.Prelude.{if◌then◌else◌, OnErr, OnOk}
use Rattle.std.specs.List.{AllByRecursion}
use Rattle.std.proofs.lemmas.Bool.{eqb-true}
use Rattle.coco_host.specs.Files.{Files}
use Rattle.coco_host.specs.Moments.{Observation}
use Rattle.coco_host.proofs.Sees.{started}
use Rattle.coco_host.specs.declared.host.Host.{Ghosts as HostGhosts}
use Rattle.coco_entry.specs.declared.commit.Commit.{Commit}
use Rattle.coco_entry.specs.declared.prepared.Prepared.{Prepared}
use Rattle.coco_entry.specs.declared.prepared.Row.{Row}
use Rattle.coco_log.specs.LogState.{LogState, with_entry}
use Rattle.coco_log.proofs.OnlyRead.{sees_then, sees_weaker}
use Rattle.coco_store.specs.Contents.{Contents, IsGoodStore, file_of}
use Rattle.coco_store.specs.Laws.{MayPrepare, with_prepared}
use Rattle.coco_store.specs.Rules.{IsNextPrepared, Setting}
use Rattle.coco_append.specs.LastWrites.{AreLastWrites}
use Rattle.coco_append.specs.Gaining.{Gains, IsNodeLog, RestsOn, ShowsEither}
use Rattle.coco_append.proofs.GainLemmas.{on_ok}
use Rattle.coco_world.specs.World.{put}
use Rattle.coco_vote.specs.Preparing.{prepared_of, Ballot, HasPrepared, HavePrepared, IsVotedStore, KeepsVoted, RestsVoted, ShowsVoted, Votes}

not_false : {X : Type 0} → true ≡ false → X
not_false h = absurd cc

-- ---- entries

module _ (c : Contents) (b : Ballot) (has : ℕ → Bool) (d : Contents) (voted : HavePrepared c b has d) where
  -- a node that hasn't prepared the epoch may do so still
  pub may_still : (n : ℕ) (entry : Prepared) → has n ≡ false → MayPrepare c n entry → MayPrepare d n entry
  may_still n entry not may = record {
    node = subst (λ (s : Setting). n < s.entry.layout.nodes) (sym voted.setting) may.node;
    is = may.is;
    next = subst (λ (s : Setting). IsNextPrepared s n (d.prepared n) entry) (sym voted.setting)
        (subst (λ (es : List Prepared). IsNextPrepared c.setting n es entry) (sym (voted.others n not)) may.next);
    above = subst (λ (cs : List Commit). AllByRecursion (λ (e : Commit). e.epoch < entry.epoch) cs) (sym voted.commits) may.above;
  }

  pub log_still : (n : ℕ) (log : LogState) → IsNodeLog c n log → IsNodeLog d n log
  log_still n log is = record { file = is.file ∙ ap (λ (s : Setting). file_of s n) (sym voted.setting); kind = is.kind }

  -- one more has prepared it
  module _ (n : ℕ) (rows : List Row) (not : has n ≡ false) (last : AreLastWrites (b.held n) b.pieces rows) where
    others_stay : (m : ℕ) (here : Bool) → (if here then true else has m) ≡ false → (if here then d.prepared m ++ prepared_of b.epoch rows ∷ [] else d.prepared m) ≡ c.prepared m
    others_stay m true other = not_false other
    others_stay m false other = voted.others m other

    one_more : (m : ℕ) (here : Bool) → eqb m n ≡ here → (if here then true else has m) ≡ true → HasPrepared b m (c.prepared m) (if here then d.prepared m ++ prepared_of b.epoch rows ∷ [] else d.prepared m)
    one_more m true is here =
        let same : m ≡ n = eqb-true m n is in
        record {
          rows = rows;
          last = subst (λ (k : ℕ). AreLastWrites (b.held k) b.pieces rows) (sym same) last;
          entry = ap (λ (es : List Prepared). es ++ prepared_of b.epoch rows ∷ []) (ap d.prepared same ∙ voted.others n not ∙ ap c.prepared (sym same));
        }
    one_more m false is here = voted.prepared m here

    pub voted_more : HavePrepared c b (put has n true) (with_prepared n (prepared_of b.epoch rows) d)
    voted_more = record {
      earlier = voted.earlier;
      setting = voted.setting;
      base = voted.base;
      commits = voted.commits;
      others = λ m other. others_stay m (eqb m n) other;
      prepared = λ m here. one_more m (eqb m n) refl here;
    }

-- ---- logs

-- a log stays in its file, whatever an append to it answered
pub stays_in_file : {T E : Type 0} (r : Result T E) (old new : LogState) (body : List ℕ) (P : Type 0) → OnOk r (new ≡ with_entry old body) → OnErr r ((P × (new ≡ old)) ⊎ (new ≡ record old { spent = true }))
    → (new.file ≡ old.file) × (new.kind ≡ old.kind)
stays_in_file (Ok x) old new body P ok err = (ap (λ (l : LogState). l.file) ok, ap (λ (l : LogState). l.kind) ok)
stays_in_file (Err e) old new body P ok err =
    ⊎_elim (λ same. (ap (λ (l : LogState). l.file) same.1, ap (λ (l : LogState). l.kind) same.1)) (λ spent. (ap (λ (l : LogState). l.file) spent, ap (λ (l : LogState). l.kind) spent)) err

-- ---- moments

pub none_ok : {T E : Type 0} (r : Result T E) (e : E) (P : Type 0) → r ≡ Err e → OnOk r P
none_ok r e P is = subst (λ (o : Result _ _). OnOk o P) (sym is) tt

any_ok : {T E : Type 0} (r : Result T E) (P : Type 0) → P → OnOk r P
any_ok (Ok x) P p = p
any_ok (Err e) P p = tt

pub rests_same : (c : Contents) (b : Ballot) (had has : ℕ → Bool) (reads : Option Files) (may_leave : Files → Type 0) → ((n : ℕ) → has n ≡ had n) → RestsVoted c b had reads may_leave → RestsVoted c b has reads may_leave
rests_same c b had has reads may_leave same rests = record {
  contents = rests.contents;
  voted = record {
    earlier = rests.voted.earlier;
    setting = rests.voted.setting;
    base = rests.voted.base;
    commits = rests.voted.commits;
    others = λ n other. rests.voted.others n (sym (same n) ∙ other);
    prepared = λ n here. rests.voted.prepared n (sym (same n) ∙ here);
  };
  rests = rests.rests;
}

module _ {H : Type 0} (frame : HostGhosts H) (c : Contents) (b : Ballot) where
  is_left : (has : ℕ → Bool) (host : H) → RestsVoted c b has (frame.reads host) (frame.may_leave host) → (image : Files) → frame.may_leave host image → IsVotedStore c b image
  is_left has host rests image leaves = record { has = has; contents = rests.contents; voted = rests.voted; good = rests.rests.left image leaves }

  pub keeps_same : ((host : H) (seen : Observation) → frame.observed host (frame.moment host) seen → frame.may_leave host seen.image × (frame.said host ≡ Some seen.said))
      → (has : ℕ → Bool) (host : H) → RestsVoted c b has (frame.reads host) (frame.may_leave host) → KeepsVoted frame c b host host
  keeps_same only_now has host rests = record {
    moments = started frame.moment frame.observed host (ShowsVoted c b (frame.said host)) (λ seen since. let now = only_now host seen since in record { store = is_left has host rests seen.image now.0; said = now.1 });
    left = λ bytes spoke image leaves. is_left has host rests image leaves;
    quiet = refl;
  }

  pub keeps_then : (old mid new : H) → KeepsVoted frame c b old mid → KeepsVoted frame c b mid new → KeepsVoted frame c b old new
  keeps_then old mid new one two = record {
    moments = sees_then frame.moment frame.observed old mid new (ShowsVoted c b (frame.said old)) (ShowsVoted c b (frame.said mid)) one.moments two.moments
        (λ seen shows. record { store = shows.store; said = sym one.quiet ∙ shows.said });
    left = λ bytes spoke image leaves. two.left bytes (one.quiet ∙ spoke) image leaves;
    quiet = two.quiet ∙ one.quiet;
  }

  -- a call that changed nothing, and failed
  pub votes_none : {T E : Type 0} (result : Result T E) (fault : E) → result ≡ Err fault
      → ((host : H) (seen : Observation) → frame.observed host (frame.moment host) seen → frame.may_leave host seen.image × (frame.said host ≡ Some seen.said))
      → (had has : ℕ → Bool) (host : H) → RestsVoted c b had (frame.reads host) (frame.may_leave host) → Votes frame result c b has host host
  votes_none result fault is only_now had has host rests = record {
    keeps = keeps_same only_now had host rests;
    ok = none_ok result fault (RestsVoted c b has (frame.reads host) (frame.may_leave host)) is;
  }

  -- a call that failed as the one within it did
  pub votes_failed : {T E F : Type 0} (within : Result T E) (result : Result T F) (fault : F) → result ≡ Err fault → (has : ℕ → Bool) (old new : H)
      → Votes frame within c b has old new → Votes frame result c b has old new
  votes_failed within result fault is has old new votes = record {
    keeps = votes.keeps;
    ok = none_ok result fault (RestsVoted c b has (frame.reads new) (frame.may_leave new)) is;
  }

  -- and one that succeeded so
  pub votes_succeeded : {T E F : Type 0} (within : Result T E) (result : Result T F) (x : T) → within ≡ Ok x → result ≡ Ok x → (has : ℕ → Bool) (old new : H)
      → Votes frame within c b has old new → Votes frame result c b has old new
  votes_succeeded within result x was is has old new votes = record {
    keeps = votes.keeps;
    ok = subst (λ (o : Result _ _). OnOk o (RestsVoted c b has (frame.reads new) (frame.may_leave new))) (sym is)
        (subst (λ (o : Result _ _). OnOk o (RestsVoted c b has (frame.reads new) (frame.may_leave new))) was votes.ok);
  }

  -- one that changed nothing of the files
  pub votes_same : {T E : Type 0} (result : Result T E)
      → ((host : H) (seen : Observation) → frame.observed host (frame.moment host) seen → frame.may_leave host seen.image × (frame.said host ≡ Some seen.said))
      → (had has : ℕ → Bool) (host : H) → ((n : ℕ) → has n ≡ had n) → RestsVoted c b had (frame.reads host) (frame.may_leave host) → Votes frame result c b has host host
  votes_same result only_now had has host same rests = record {
    keeps = keeps_same only_now had host rests;
    ok = any_ok result (RestsVoted c b has (frame.reads host) (frame.may_leave host)) (rests_same c b had has (frame.reads host) (frame.may_leave host) same rests);
  }

  -- an append of a node's entry
  module _ {T E : Type 0} (result : Result T E) (has : ℕ → Bool) (d : Contents) (voted : HavePrepared c b has d) (n : ℕ) (rows : List Row) (not : has n ≡ false) (last : AreLastWrites (b.held n) b.pieces rows) where
    abbrev grown : Contents
    grown = with_prepared n (prepared_of b.epoch rows) d

    either : (files : Files) → IsGoodStore files d → IsVotedStore c b files
    either files good = record { has = has; contents = d; voted = voted; good = good }

    or_more : (files : Files) → IsGoodStore files grown → IsVotedStore c b files
    or_more files good = record { has = put has n true; contents = grown; voted = voted_more c b has d voted n rows not last; good = good }

    pub votes_gained : (old new : H) → frame.said new ≡ frame.said old → Gains frame result d grown old new → Votes frame result c b (put has n true) old new
    votes_gained old new quiet gains = record {
      keeps = record {
        moments = sees_weaker frame.moment frame.observed old new (ShowsEither d grown (frame.said old)) (ShowsVoted c b (frame.said old))
            (λ seen shows. record { store = ⊎_elim (either seen.image) (or_more seen.image) shows.store; said = shows.said }) gains.moments;
        left = λ bytes spoke image leaves. ⊎_elim (either image) (or_more image) (gains.left bytes spoke image leaves);
        quiet = quiet;
      };
      ok = on_ok result (RestsOn grown (frame.reads new) (frame.may_leave new)) (RestsVoted c b (put has n true) (frame.reads new) (frame.may_leave new))
          (λ rests. record { contents = grown; voted = voted_more c b has d voted n rows not last; rests = rests }) gains.ok;
    }
