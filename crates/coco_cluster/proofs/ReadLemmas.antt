-- A cluster whose stopped nodes were read anew.
use Rattle.std.specs.Global.{Vec}
use Rattle.std.proofs.Common.{◌≡◌, ◌⊎◌, inl, inr, ⊎_elim, ℕ, ◌<◌, ◌≤◌, Bool, false, List, length, Option, Some, refl, sym, ap, ◌∙◌, subst, arith}
use Rattle.std.specs.Prelude.{slice_index}
use Rattle.std.specs.List.{slice_get}
use Rattle.std.proofs.lemmas.Option.{slice_get_within}
use Rattle.coco_append.specs.Gaining.{IsChiefLog, Stands}
use Rattle.coco_chief.specs.Shown.{chief_of}
use Rattle.coco_append.specs.EpochEntries.{HeldBy}
use Rattle.coco_entry.specs.declared.layout.Layout.{Layout}
use Rattle.coco_finish.specs.Finishing.{HaveMap}
use Rattle.coco_host.specs.Files.{Files}
use Rattle.coco_letters.specs.declared.voter.Voter.{Voter}
use Rattle.coco_load.specs.RowMaps.{joined}
use Rattle.coco_lost.specs.Reading as lost
use Rattle.coco_members.specs.AtRest.{AreAtRest, AreMembers, NoneLost}
use Rattle.coco_net.specs.declared.letter.Posted.{Posted}
use Rattle.coco_recover.specs.Lost.{AreKnown}
use Rattle.coco_store.specs.Contents.{Contents, map_in}
use Rattle.coco_store.specs.Rules.{commit_epochs}
use Rattle.coco_types.specs.Limits.{epochs_end, most_partitions}
use Rattle.coco_vote.specs.Taking.{HaveLogs}
use Rattle.coco_cluster.specs.Standing.{AllStand, BelongsTo, IsBehindAll, IsSound, KeepsBelow, MayStop, Rests, StandsAt}
use Rattle.coco_cluster.specs.declared.cluster.Cluster.{Cluster}
use Rattle.coco_log.specs.LogState.{LogState}
use Rattle.coco_chief.specs.declared.machine.ChiefCore.{ChiefCore}

module _ (old new : Cluster) (same : new ≡ record old { members = new.members }) (chief : new.members.chief ≡ old.members.chief) (log : new.members.log ≡ old.members.log)
    (reads : lost.ReadsLost old.members.voters.items old.members.tables new.members.voters.items new.members.tables) where
  abbrev voters : List Voter
  voters = old.members.voters.items

  abbrev voters_new : List Voter
  voters_new = new.members.voters.items

  abbrev layout : Layout
  layout = old.members.tables.layout

  -- a node is as it was, or was read anew
  pub record WasRead (n : ℕ) (now : Voter) : Type 0 where
    pub was : Voter
    pub there : slice_get voters n ≡ Some was
    pub held : now.held ≡ was.held
    pub log_is : (now.log ≡ was.log) ⊎ ((now.log.file ≡ slice_index layout.node_files n) × (now.log.spent ≡ false))

  was_read : (n : ℕ) (now : Voter) → slice_get voters_new n ≡ Some now → WasRead n now
  was_read n now there = ⊎_elim
      (λ stays. record { was = now; there = sym stays.voter ∙ there; held = refl; log_is = inl refl })
      (λ anew.
      let is : now ≡ record anew.voter { log = anew.log; is_lost = false } = same_some _ _ (sym there ∙ anew.voter_is) in
      record {
        was = anew.voter;
        there = anew.there;
        held = ap (λ (v : Voter). v.held) is;
        log_is = inr (ap (λ (v : Voter). v.log.file) is ∙ anew.in_file, ap (λ (v : Voter). v.log.spent) is ∙ anew.unspent);
      }) (reads.nodes n)
    where
      same_some : (x y : Voter) → Some x ≡ Some y → x ≡ y
      same_some x y e = cc

  pub in_files : lost.AreInFiles layout voters → lost.AreInFiles new.members.tables.layout voters_new
  in_files files n now there =
      let r = was_read n now there in
      let file : now.log.file ≡ slice_index layout.node_files n = ⊎_elim (λ stays. ap (λ (l : LogState). l.file) stays ∙ files n r.was r.there) (λ anew. anew.0) r.log_is in
      file ∙ ap (λ (l : Layout). slice_index l.node_files n) (sym reads.layout)

  stops_after : MayStop old.members → MayStop new.members
  stops_after stops = record {
    files = in_files stops.files;
    read = record {
      files = ap (λ (l : Layout). length l.node_files) reads.layout ∙ stops.read.files ∙ ap (λ (l : Layout). l.nodes) (sym reads.layout);
      above = λ e committed. subst (λ (l : Layout). l.base_epoch < e) (sym reads.layout) (stops.read.above e (ap (λ (k : ChiefCore). (chief_of k).committed e) (sym chief) ∙ committed));
    };
  }

  pub sound_after : (sent : List Posted) → NoneLost voters_new → ((next : ℕ) (posts : List Posted) → lost.AreInFiles layout voters → AreAtRest next posts old.members → AreAtRest next posts new.members) → Rests old sent → IsSound new sent
  sound_after sent whole rest rests = record {
    rests = record {
      keeps = subst (λ (k : Cluster). KeepsBelow k.kept k.next_epoch) (sym same) rests.keeps;
      first = subst (λ (k : Cluster). 0 < k.next_epoch) (sym same) rests.first;
      end = subst (λ (k : Cluster). k.next_epoch ≤ epochs_end) (sym same) rests.end;
      base = subst (λ (l : Layout). l.base_epoch < new.next_epoch) (sym reads.layout) (subst (λ (n : ℕ). layout.base_epoch < n) (sym (ap (λ (k : Cluster). k.next_epoch) same)) rests.base);
      partitions = subst (λ (l : Layout). l.partitions ≤ most_partitions) (sym reads.layout) rests.partitions;
      rest = subst (λ (n : ℕ). AreAtRest n sent new.members) (sym (ap (λ (k : Cluster). k.next_epoch) same)) (rest old.next_epoch sent rests.stops.files rests.rest);
      unspent = ap (λ (l : LogState). l.spent) log ∙ rests.unspent;
      stops = stops_after rests.stops;
    };
    whole = whole;
  }

  pub stand_after : (was now : Option Files) (might may : Files → Type 0) → (lost.AllStand voters was might → lost.AllStand voters_new now may) → (Stands old.members.log was might → Stands old.members.log now may)
      → AllStand old was might → AllStand new now may
  stand_after was now might may nodes chief_stands stand = record {
    chief = subst (λ (l : LogState). Stands l now may) (sym log) (chief_stands stand.chief);
    nodes = λ n voter there.
        let r = was_read n voter there in
        (⊎_elim (λ stays. ap (λ (l : LogState). l.spent) stays ∙ (stand.nodes n r.was r.there).0) (λ anew. anew.1) r.log_is, nodes (λ k v here. (stand.nodes k v here).1) n voter there);
  }

-- ---- where files are told

-- all that is known of contents without their files
pub known_at : (c : Contents) (k : Cluster) → BelongsTo c k → AreKnown c k.members.tables.layout k.procs (commit_epochs c.commits) k.base.items
known_at c k belongs = record { layout = sym belongs.layout; tree = sym belongs.procs; epochs = refl; base = belongs.base }

module _ (old new : Cluster) (same : new ≡ record old { members = new.members }) (chief : new.members.chief ≡ old.members.chief) (log : new.members.log ≡ old.members.log)
    (reads : lost.ReadsLost old.members.voters.items old.members.tables new.members.voters.items new.members.tables) (c : Contents) (stands : StandsAt c old) (are : AreMembers old.members) where
  -- each node was the contents' before it was read
  pub are_of : lost.AreOf c old.members.voters.items old.members.tables
  are_of n voter there kept = record {
    log = stands.belongs.logs n voter there;
    tables = stands.map.nodes n (in_layout n voter there);
  }
    where
      in_layout : (n : ℕ) (voter : Voter) → slice_get old.members.voters.items n ≡ Some voter → n < old.members.tables.layout.nodes
      in_layout n voter there = (
          let within = slice_get_within old.members.voters.items n voter there in
          let voters_are = are.voters in
          let layout_is = are.layout in
          omega (arith, within, voters_are, layout_is))

  pub stands_after : HaveMap (map_in c) new.members.tables → HaveLogs c new.members.voters.items → StandsAt c new
  stands_after map logs = record {
    belongs = record {
      procs = ap (λ (k : Cluster). k.procs) same ∙ stands.belongs.procs;
      dones = ap (λ (k : Cluster). k.kept.dones) same ∙ stands.belongs.dones;
      floor = ap (λ (k : Cluster). k.kept.floor) same ∙ stands.belongs.floor;
      keep = ap (λ (k : Cluster). k.kept.keep) same ∙ stands.belongs.keep;
      layout = reads.layout ∙ stands.belongs.layout;
      base = stands.belongs.base ∙ ap (λ (k : Cluster). joined k.base.items) (sym same);
      chief = subst (IsChiefLog c) (sym log) stands.belongs.chief;
      logs = logs;
      held = λ n now there. (let r = was_read old new same chief log reads n now there in
          subst (HeldBy c.setting.entry.layout n) (ap (λ (h : Vec Bool). h.items) (sym r.held)) (stands.belongs.held n r.was r.there));
      commits = λ e. ap (λ (k : ChiefCore). (chief_of k).committed e) chief ∙ stands.belongs.commits e;
    };
    map = map;
    next = subst (IsBehindAll c) (sym (ap (λ (k : Cluster). k.next_epoch) same)) stands.next;
  }
