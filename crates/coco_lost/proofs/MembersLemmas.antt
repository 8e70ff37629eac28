-- The members behind a reading of files.
use Rattle.std.proofs.Common.{◌≡◌, ℕ, zero, suc, ◌<◌, ◌||◌, Bool, true, false, List, [], ◌∷◌, length, Some, refl, sym, ap, subst, ◌∙◌, arith}
use Rattle.std.specs.List.{slice_get, list_any}
use Rattle.std.specs.List.Sorted.{IsStrictlyIncreasing}
use Rattle.std.proofs.lemmas.Option.{same_Some, slice_get_within}
use Rattle.std.proofs.lemmas.Bool.{or_parts}
use Rattle.coco_types.specs.RowKey.{RowKey}
use Rattle.coco_types.specs.declared.value.Value.{Value}
use Rattle.coco_ast.specs.Tree.{Procedures}
use Rattle.coco_ast.specs.History.{RisesAbove}
use Rattle.coco_chief.specs.Chief.{Chief, has}
use Rattle.coco_chief.specs.Shown.{chief_of}
use Rattle.coco_entry.specs.declared.layout.Layout.{Layout}
use Rattle.coco_finish.specs.Exchanges.{AreInStep}
use Rattle.coco_finish.specs.Finishing.{AllCanFinish, AreWhole, HaveMap}
use Rattle.coco_finish.specs.declared.tables.NodeTables.{NodeTables}
use Rattle.coco_host.specs.Files.{Files}
use Rattle.coco_letters.specs.declared.voter.Voter.{Voter}
use Rattle.coco_members.specs.AtRest.{AreAtRest, AreMembers, NoneLost}
use Rattle.coco_members.specs.declared.members.Members.{Members}
use Rattle.coco_log.specs.LogState.{LogState}
use Rattle.coco_node.specs.Node.{Node}
use Rattle.coco_net.specs.declared.letter.Posted.{Posted}
use Rattle.coco_recover.specs.Lost.{AreKnown}
use Rattle.coco_recover.proofs.Committing.{commits_rise}
use Rattle.coco_store.specs.Contents.{Contents, Holds, map_in}
use Rattle.coco_store.specs.Rules.{commit_epochs}
use Rattle.coco_vote.specs.Beginning.{AreNew}
use Rattle.coco_vote.specs.Taking.{HaveLogs}
use Rattle.coco_lost.specs.Reading.{AreInFiles, AreOf, CanBeRead, KnowsCommitted, KnowsEpochs, ReadsLost}
use Rattle.coco_lost.proofs.EpochLemmas.{rises_above, same_rising}
use Rattle.coco_lost.proofs.RestLemmas.{shards_have_after}
use Rattle.coco_lost.proofs.ReadingLemmas.{apart_after, file_apart_after, in_step_after}

-- ---- no node is lost

two_sides : {X : Type 0} → true ≡ false → X
two_sides h = absurd cc

pub none_lost : (voters : List Voter) → list_any (λ (v : Voter). v.is_lost) voters ≡ false → NoneLost voters
none_lost [] none n voter at = absurd (let less : n < 0 = slice_get_within [] n voter at in omega (arith, less))
none_lost (v ∷ vs) none zero voter at = ap (λ (x : Voter). x.is_lost) (sym (same_Some v voter at)) ∙ (or_parts v.is_lost (list_any (λ (x : Voter). x.is_lost) vs) none).0
none_lost (v ∷ vs) none (suc n) voter at = none_lost vs (or_parts v.is_lost (list_any (λ (x : Voter). x.is_lost) vs) none).1 n voter at

pub any_lost : (voters : List Voter) → list_any (λ (v : Voter). v.is_lost) voters ≡ true → NoneLost voters → ⊥
any_lost [] is none = two_sides (sym is)
any_lost (v ∷ vs) is none = any_lost vs (sym (ap (λ (b : Bool). b || list_any (λ (x : Voter). x.is_lost) vs) (none 0 v refl)) ∙ is) (λ n voter at. none (suc n) voter at)

voter_at : (voters : List Voter) (n : ℕ) → n < length voters → (v : Voter) × (slice_get voters n ≡ Some v)
voter_at [] n lt = absurd (omega (arith, lt))
voter_at (v ∷ vs) zero lt = (v, refl)
voter_at (v ∷ vs) (suc n) lt = voter_at vs n (omega (arith, lt))

pub all_have : (c : Contents) (voters : List Voter) (t : NodeTables) → length voters ≡ t.layout.nodes → AreWhole t → AreOf c voters t → NoneLost voters → HaveMap (map_in c) t × HaveLogs c voters
all_have c voters t count whole are none = (
  record {
    counted = whole;
    nodes = λ n lt. let v = voter_at voters n (omega (arith, lt, count)) in (are n v.0 v.1 (none n v.0 v.1)).tables;
  },
  λ n voter at. (are n voter at (none n voter at)).log,
)

-- ---- committed epochs

-- they rise above the base
pub epochs_rise : (k : Members) (epochs : List ℕ) → CanBeRead k → IsStrictlyIncreasing epochs → ((e : ℕ) → has epochs e ≡ (chief_of k.chief).committed e) → RisesAbove k.tables.layout.base_epoch epochs
epochs_rise k epochs can rising written = rises_above k.tables.layout.base_epoch epochs rising (λ e is. can.above e (sym (written e) ∙ is))

-- others that rise above it, and are those that the coordinator knows, are the same
pub same_epochs : (k : Members) (lent epochs others : List ℕ) → lent ≡ epochs → CanBeRead k → IsStrictlyIncreasing epochs → ((e : ℕ) → has epochs e ≡ (chief_of k.chief).committed e)
    → RisesAbove k.tables.layout.base_epoch others → KnowsEpochs others (chief_of k.chief) → others ≡ lent
same_epochs k lent epochs others same can rising written rises knows =
    sym (same ∙ same_rising k.tables.layout.base_epoch epochs others (epochs_rise k epochs can rising written) rises (λ e. written e ∙ knows e))

-- so contents are known by them
pub same_known : (k : Members) (c : Contents) (files : Files) (text : Procedures) (lent epochs : List ℕ) (base : List (List (RowKey × Value))) → lent ≡ epochs → CanBeRead k → IsStrictlyIncreasing epochs
    → ((e : ℕ) → has epochs e ≡ (chief_of k.chief).committed e) → Holds files c → AreKnown c k.tables.layout text (commit_epochs c.commits) base → KnowsCommitted c (chief_of k.chief) → AreKnown c k.tables.layout text lent base
same_known k c files text lent epochs base same can rising written holds known knows = record {
  layout = known.layout;
  tree = known.tree;
  epochs = same_epochs k lent epochs (commit_epochs c.commits) same can rising written
      (subst (λ (l : Layout). RisesAbove l.base_epoch (commit_epochs c.commits)) known.layout (commits_rise c.setting c.base c.commits holds.history.commits.each)) knows;
  base = known.base;
}

-- ---- at rest

module _ (k n : Members) (reads : ReadsLost k.voters.items k.tables n.voters.items n.tables) (cores : n.cores.items ≡ k.cores.items) (chief : chief_of n.chief ≡ chief_of k.chief) (log : n.log ≡ k.log)
    (files : AreInFiles k.tables.layout k.voters.items) where
  pub members_after : AreMembers k → AreMembers n
  members_after are =
      let count : length n.cores.items ≡ length k.cores.items = ap (λ (x : List Node). length x) cores in
      record {
        some = omega (arith, count, are.some);
        few = omega (arith, count, are.few);
        layout = ap (λ (l : Layout). l.nodes) reads.layout ∙ are.layout ∙ sym count;
        chief = ap (λ (x : Chief). x.nodes) chief ∙ are.chief ∙ sym count;
        voters = reads.voter_count ∙ are.voters ∙ sym count;
        behind = reads.mark_count ∙ are.behind ∙ sym count;
        whole = reads.whole are.whole;
        apart = apart_after k.voters.items n.voters.items k.tables n.tables reads files are.apart;
        chief_apart = λ i voter at same. file_apart_after k.voters.items n.voters.items k.tables n.tables reads k.log.file files are.chief_apart i voter at (same ∙ ap (λ (x : LogState). x.file) log);
      }

  pub rests_after : (next : ℕ) (sent : List Posted) → AreAtRest next sent k → AreAtRest next sent n
  rests_after next sent rest = record {
    are = members_after rest.are;
    phase = ap (λ (x : Chief). x.phase) chief ∙ rest.phase;
    begun = subst (λ (x : Chief). x.current < next) (sym chief) rest.begun;
    committed = subst (λ (x : Chief). x.last < next) (sym chief) rest.committed;
    new = subst (λ (x : List Node). AreNew next x) (sym cores) rest.new;
    can = subst (λ (x : Chief). AllCanFinish x.last n.cores.items) (sym chief) (subst (λ (x : List Node). AllCanFinish (chief_of k.chief).last x) (sym cores) rest.can);
    in_step = subst (λ (x : Chief). AreInStep x.last n.cores.items x sent n.tables.behind.items) (sym chief)
        (subst (λ (x : List Node). AreInStep (chief_of k.chief).last x (chief_of k.chief) sent n.tables.behind.items) (sym cores)
        (in_step_after k.voters.items n.voters.items k.tables n.tables reads (chief_of k.chief).last k.cores.items (chief_of k.chief) sent rest.in_step));
    map = shards_have_after k.voters.items n.voters.items k.tables n.tables reads rest.map.0 rest.map.1 (reads.whole rest.are.whole);
    letters = rest.letters;
  }
