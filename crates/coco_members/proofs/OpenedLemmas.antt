-- Nodes and coordinator of an opened store, between two epochs.
use Rattle.std.proofs.Common.{◌≡◌, ◌≢◌, inl, inr, ℕ, zero, suc, ◌<◌, ◌≤◌, max, Bool, true, false, ◌||◌, eqb, nat_eq, List, [], ◌∷◌, length, get_or, map, Option, Some, None, Global, refl, sym, ap, subst, ◌∙◌, arith}
use Rattle.std.specs.Prelude.{replicate, slice_index, slice_index_or}
use Rattle.std.specs.declared.vec.Vec.{Vec}
use Rattle.std.specs.List.{slice_get, AllByRecursion, range_with_len}
use Rattle.std.specs.Set.{is_member}
use Rattle.std.proofs.lemmas.Bool.{eqb-true, eqb-false, eq-eqb, ne_eqb, cases_lt}
use Rattle.std.proofs.lemmas.List.{get_or-replicate, get_or_past, length-replicate}
use Rattle.std.proofs.lemmas.List.FromFn.{get_or-map-range_with_len}
use Rattle.std.proofs.lemmas.Option.{get_or_from_slice_get, same_Some, slice_get-get_or, slice_get_within}
use Rattle.coco_append.specs.Gaining.{Stands}
use Rattle.coco_ast.specs.Keyed.{Rows, on_partition}
use Rattle.coco_chief.specs.Chief.{Chief, has, last_of}
use Rattle.coco_chief.specs.Shown.{chief_of}
use Rattle.coco_chief.specs.Table.{restarted as chief_restarted}
use Rattle.coco_chief.specs.declared.machine.ChiefCore.{ChiefCore}
use Rattle.coco_append.specs.EpochEntries.{HeldBy}
use Rattle.coco_copy.specs.CopyState.{CopyState}
use Rattle.coco_entry.specs.declared.layout.Layout.{Layout}
use Rattle.coco_entry.specs.declared.layout.LayoutEntry.{LayoutEntry}
use Rattle.coco_finish.specs.Finishing.{is_behind}
use Rattle.coco_finish.proofs.HearLemmas.{none_in}
use Rattle.coco_host.specs.Files.{Files}
use Rattle.coco_letters.specs.declared.voter.Voter.{Voter}
use Rattle.coco_load.specs.Tables.{IsShardOf, shard_at}
use Rattle.coco_log.specs.LogState.{LogState}
use Rattle.coco_node.specs.declared.machine.Decision.TheVariants.{Unknown, Aborted}
use Rattle.coco_node.specs.declared.machine.Decision.{Decision}
use Rattle.coco_node.specs.Node.{Node, greatest, restarted}
use Rattle.coco_recover.specs.Nodes.{greatest_of, greatest_prepared}
use Rattle.coco_recover.specs.Opening.{entry_in, node_log, AllStand, Has, HaveReadied, IsSoundStore, ShardsHold}
use Rattle.coco_recover.specs.declared.opening.Opened.{Opened}
use Rattle.coco_rules.specs.Readying.{AreAmong}
use Rattle.coco_shard.specs.RowState.{ShardState, IsSettled}
use Rattle.coco_standing.specs.Standing.{AreCounted, TablesStand, none_behind}
use Rattle.coco_standing.proofs.AtRest.{nodes_count}
use Rattle.coco_standing.proofs.Pending.{same_shard, shard_has}
use Rattle.coco_standing.proofs.Resting.{shard_reverted}
use Rattle.coco_store.specs.Contents.{Contents}
use Rattle.coco_store.specs.Rules.{prepared_epochs}
use Rattle.coco_store.proofs.Naming.{names_apart}
use Rattle.coco_vote.specs.Taking.{AreReady}
use Rattle.coco_world.specs.Laws.{EntriesBegin, GreatestDecides}
use Rattle.coco_world.specs.Steps.{AreGood, IsAbove}
use Rattle.coco_world.specs.World.{World, began_anew}
use Rattle.coco_members.specs.AtRest.{primaries_of, AreAtRest, AreMembers, NoneBehind, NoneLost, ShardsHaveMap}
use Rattle.coco_members.specs.Opened.{AreFirst, AreMembersOf, AreOf, BeginAnew, BeginsAnew, BeginsWorld, HasEntries}
use Rattle.coco_members.specs.declared.members.Members.{Members}
use Rattle.coco_members.proofs.LetterLemmas.{none_below}

-- ---- epochs

greatest_from : (n : ℕ) (xs : List ℕ) → greatest_of n xs ≡ max n (greatest xs)
greatest_from n [] = omega arith
greatest_from n (x ∷ xs) = let more : greatest_of (max n x) xs ≡ max (max n x) (greatest xs) = greatest_from (max n x) xs in omega (arith, more)

-- two words for the greatest of some epochs
pub one_greatest : (xs : List ℕ) → greatest_of 0 xs ≡ greatest xs
one_greatest xs = let more : greatest_of 0 xs ≡ max 0 (greatest xs) = greatest_from 0 xs in omega (arith, more)

flip : (a b : ℕ) → eqb a b ≡ eqb b a
flip a b = elim (eqb a b) as (λ v. eqb a b ≡ v → v ≡ eqb b a) [
  | true ↦ λ t. sym (eq-eqb b a (sym (eqb-true a b t)))
  | false ↦ λ f. sym (ne_eqb b a (λ e. eqb-false a b f (sym e)))
] refl

-- and for what is among them
pub has_is : (xs : List ℕ) (e : ℕ) → has xs e ≡ is_member nat_eq xs e
has_is [] e = refl
has_is (x ∷ xs) e = ap (λ (b : Bool). b || has xs e) (flip x e) ∙ ap (λ (b : Bool). eqb e x || b) (has_is xs e)

last_below : (next : ℕ) (xs : List ℕ) → 0 < next → AllByRecursion (λ e. e < next) xs → last_of xs < next
last_below next [] some all = some
last_below next (x ∷ xs) some all = let more : last_of xs < next = last_below next xs some all.1 in let here : x < next = all.0 in omega (arith, more, here)

or_either : (a b : Bool) (P : Type 0) → (a ≡ true → P) → (b ≡ true → P) → a || b ≡ true → P
or_either true b P here there is = here refl
or_either false b P here there is = there is

member_within : (ys : List ℕ) (e : ℕ) → is_member nat_eq ys e ≡ true → e ≤ greatest ys
member_within [] e is = absurd (let two : false ≡ true = is in cc)
member_within (y ∷ ys) e is = or_either (eqb e y) (is_member nat_eq ys e) (e ≤ max y (greatest ys))
    (λ t. let same : e ≡ y = eqb-true e y t in omega (arith, same)) (λ more. let within : e ≤ greatest ys = member_within ys e more in omega (arith, within)) is

-- the last of epochs that are all among others is none above the greatest of those
last_within : (ys xs : List ℕ) → AreAmong ys xs → last_of xs ≤ greatest ys
last_within ys [] among = omega arith
last_within ys (x ∷ xs) among = let here : x ≤ greatest ys = member_within ys x among.0 in let more : last_of xs ≤ greatest ys = last_within ys xs among.1 in omega (arith, here, more)

all_at : (P : ℕ → Type 0) (xs : List ℕ) (n x : ℕ) → AllByRecursion P xs → slice_get xs n ≡ Some x → P x
all_at P [] n x all there = absurd (let no : ◌≡◌ {A = Option ℕ} None (Some x) = there in cc)
all_at P (y ∷ ys) zero x all there = subst P (same_Some y x there) all.0
all_at P (y ∷ ys) (suc n) x all there = all_at P ys n x all.1 there

-- ---- shards

-- shards that hold a map together stand at it
module _ (layout : Layout) (m : Rows) (shards : List ShardState) (some : 0 < layout.partitions) (nodes : 0 < layout.nodes) (count : length shards ≡ layout.partitions) (held : ShardsHold m shards) where
  shard_stands : (p : ℕ) → IsShardOf layout.partitions p (on_partition layout.partitions p m) (shard_at shards p)
  shard_stands p = shard_reverted layout.partitions p (on_partition layout.partitions p m) (shard_at shards p) (shard_at shards p)
      (subst IsSettled (same_shard shards p) (held.settled p))
      (shard_has (λ r. r.stable) refl m shards held.partitions held.values layout.partitions p count)

  pub shards_stand : TablesStand (primaries_of layout) m none_behind shards []
  shards_stand = record {
    counted = record { ring = record { some = some; around = nodes }; shard_count = count; copy_count = omega arith };
    nodes = λ n below. record {
      primaries = λ p within here. shard_stands p;
      others = λ p j within from to here. absurd (omega (arith, from, to));
    };
  }

-- ---- marks

none_marked : (count n : ℕ) → slice_index_or (replicate count false) n false ≡ false
none_marked count n = elim (cases_lt n count) [
  | inl less ↦ get_or-replicate count n false false less
  | inr past ↦ get_or_past (replicate count false) n false (let long : length (replicate count false) ≡ count = length-replicate count false in omega (arith, long, past))
]

not_aborted : ◌≢◌ {A = Decision} Unknown Aborted
not_aborted is = cc

-- ---- what is had of an opened store

module _ (store : Opened) (sound : IsSoundStore store) (k : Members) (of : AreMembersOf store k) where
  pub as_many : length k.cores.items ≡ store.layout.nodes
  as_many = of.cores.count ∙ sound.each_node

  some_node : 0 < store.layout.nodes
  some_node = let some : 1 ≤ store.layout.nodes = sound.limits.nodes.0 in omega (arith, some)

  -- a node's log is the store's
  node_file : (n : ℕ) (voter : Voter) → slice_get k.voters.items n ≡ Some voter → (n < store.layout.nodes) × (voter.log ≡ node_log store.logs n)
  node_file n voter there =
      let log = of.voters.each n voter there in
      let within : n < length store.logs.nodes.items = slice_get_within store.logs.nodes.items n log.0 log.1 in
      let all : length store.logs.nodes.items ≡ store.layout.nodes = sound.logs.count in
      (omega (arith, within, all), log.2.log_is ∙ sym (get_or_from_slice_get store.logs.nodes.items n log.0 store.logs.root log.1))

  pub file_is : (n : ℕ) (voter : Voter) → slice_get k.voters.items n ≡ Some voter → voter.log.file ≡ slice_index store.layout.node_files n
  file_is n voter there = let log = node_file n voter there in ap (λ (l : LogState). l.file) log.1 ∙ (sound.logs.nodes n log.0).in_file

  chief_file : k.log.file ≡ store.layout.chief_file
  chief_file = ap (λ (l : LogState). l.file) of.log ∙ sound.logs.chief.in_file

  counted : AreCounted k.tables.layout k.tables.shards.items k.tables.copies.items
  counted =
      subst (λ (layout : Layout). AreCounted layout k.tables.shards.items k.tables.copies.items) (sym of.layout)
      (subst (λ (shards : List ShardState). AreCounted store.layout shards k.tables.copies.items) (sym of.shards)
      (subst (AreCounted store.layout store.shards.items) (sym of.copies)
      (record { ring = sound.tables.tables.ring; shard_count = sound.tables.tables.shard_count; copy_count = sound.tables.tables.copy_count })))

  pub are_members : AreMembers k
  are_members =
      let named = names_apart (entry_in store) sound.is in
      record {
        some = subst (λ (n : ℕ). 0 < n) (sym as_many) some_node;
        few = subst (λ (n : ℕ). n ≤ 8) (sym as_many) sound.limits.nodes.1;
        layout = ap (λ (l : Layout). l.nodes) of.layout ∙ sym as_many;
        chief = ap (λ (c : Chief). c.nodes) of.chief ∙ sym as_many;
        voters = of.voters.count ∙ sound.logs.count ∙ sym as_many;
        behind = ap (λ (l : List Bool). length l) of.behind ∙ length-replicate store.layout.nodes false ∙ sym as_many;
        whole = counted;
        apart = λ n m voter other here there not same. named.node-node n m (node_file n voter here).0 (node_file m other there).0 not (sym (file_is n voter here) ∙ same ∙ file_is m other there);
        chief_apart = λ n voter here same. named.node-chief n (node_file n voter here).0 (sym chief_file ∙ sym same ∙ file_is n voter here);
      }

  pub none_is_behind : NoneBehind k.tables
  none_is_behind n = ap (λ (marks : List Bool). slice_index_or marks n false) of.behind ∙ none_marked store.layout.nodes n

  pub none_is_lost : NoneLost k.voters.items
  none_is_lost n voter there = (of.voters.each n voter there).2.kept

  -- each log is ready where the opened one stands
  pub are_ready : (reads : Option Files) (may_leave : Files → Type 0) → AllStand store.logs reads may_leave → AreReady k.voters.items reads may_leave × Stands k.log reads may_leave
  are_ready reads may_leave stands = (
    λ n voter there. (let log = node_file n voter there in let within : n < length store.logs.nodes.items = subst (λ (i : ℕ). n < i) (sym sound.logs.count) log.0 in (
      ap (λ (l : LogState). l.spent) log.1 ∙ (sound.logs.nodes n log.0).unspent,
      subst (λ (l : LogState). Stands l reads may_leave) (sym log.1) (stands.nodes n within),
    )),
    subst (λ (l : LogState). Stands l reads may_leave) (sym of.log) stands.chief,
  )

  pub chief_unspent : k.log.spent ≡ false
  chief_unspent = ap (λ (l : LogState). l.spent) of.log ∙ sound.logs.chief.unspent

  -- the core of a node, by what the node prepared
  module _ (n : ℕ) (core : Node) (there : slice_get k.cores.items n ≡ Some core) where
    abbrev begun : BeginsAnew store.prepared.items n core
    begun = of.cores.each n core there

    pub core_within : n < store.layout.nodes
    core_within = let within : n < length k.cores.items = slice_get_within k.cores.items n core there in omega (arith, within, as_many)

    durable_is : core.durable ≡ max begun.0 0
    durable_is = ap (λ (c : Node). c.durable) begun.2

    pub number_is : (entries : ℕ → List ℕ) → store.prepared.items ≡ map (λ i. greatest_of 0 (entries i)) (range_with_len 0 store.layout.nodes) → begun.0 ≡ greatest (entries n)
    number_is entries are =
        sym (get_or_from_slice_get store.prepared.items n begun.0 0 begun.1)
        ∙ ap (λ (l : List ℕ). get_or l n 0) are
        ∙ get_or-map-range_with_len (λ i. greatest_of 0 (entries i)) 0 store.layout.nodes n n 0 core_within (omega arith)
        ∙ one_greatest (entries n)

    pub core_durable : (entries : ℕ → List ℕ) → store.prepared.items ≡ map (λ i. greatest_of 0 (entries i)) (range_with_len 0 store.layout.nodes) → core.durable ≡ greatest (entries n)
    core_durable entries are = let number : begun.0 ≡ greatest (entries n) = number_is entries are in omega (arith, durable_is, number)

    pub core_is : GreatestDecides → (entries : ℕ → List ℕ) → store.prepared.items ≡ map (λ i. greatest_of 0 (entries i)) (range_with_len 0 store.layout.nodes) → core ≡ restarted n (entries n) None
    core_is decides entries are = begun.2 ∙ ap (λ (e : ℕ). restarted n (e ∷ []) None) (number_is entries are) ∙ decides n (entries n) None

    core_below : core.durable < store.next_epoch
    core_below = let below : begun.0 < store.next_epoch = all_at (λ e. e < store.next_epoch) store.prepared.items n begun.0 sound.prepared_below begun.1 in omega (arith, below, durable_is)

    lost_is : core.lost ≡ 0
    lost_is = ap (λ (c : Node). c.lost) begun.2

    idle : core.forcing ≡ 0
    idle = ap (λ (c : Node). c.forcing) begun.2

    unknown : core.decision ≡ Unknown
    unknown = ap (λ (c : Node). c.decision) begun.2

    last_there : last_of store.epochs.items ≤ core.durable
    last_there =
        let within : last_of store.epochs.items ≤ greatest (sound.entries n) = last_within (sound.entries n) store.epochs.items (sound.readied.committed n core_within) in
        let here : core.durable ≡ greatest (sound.entries n) = core_durable sound.entries sound.readied.greatest in
        omega (arith, within, here)

  last_is : (chief_of k.chief).last ≡ last_of store.epochs.items
  last_is = ap (λ (c : Chief). c.last) of.chief

  pub have_map : ShardsHaveMap sound.map k.tables
  have_map =
      subst (λ (layout : Layout). TablesStand (primaries_of layout) sound.map (is_behind k.tables.behind.items) k.tables.shards.items []) (sym of.layout)
      (subst (λ (shards : List ShardState). TablesStand (primaries_of store.layout) sound.map (is_behind k.tables.behind.items) shards []) (sym of.shards)
      (nodes_count (primaries_of store.layout) sound.map none_behind (is_behind k.tables.behind.items) store.shards.items [] (λ n below. sym (none_is_behind n))
      (shards_stand store.layout sound.map store.shards.items sound.tables.tables.ring.some some_node sound.tables.tables.shard_count sound.primaries)))

  pub at_rest : AreAtRest store.next_epoch [] k
  at_rest = record {
    are = are_members;
    phase = ap (λ (c : Chief). c.phase) of.chief;
    begun = let none : (chief_of k.chief).current ≡ 0 = ap (λ (c : Chief). c.current) of.chief in let first : 0 < store.next_epoch = sound.first in omega (arith, none, first);
    committed = let below : last_of store.epochs.items < store.next_epoch = last_below store.next_epoch store.epochs.items sound.first sound.below in omega (arith, below, last_is);
    new = λ n core there. record {
      idle = idle n core there;
      kept = (let none : core.lost ≡ 0 = lost_is n core there in let first : 0 < store.next_epoch = sound.first in omega (arith, none, first));
      older = core_below n core there;
    };
    can = λ n core there. record {
      has = (let has : last_of store.epochs.items ≤ core.durable = last_there n core there in omega (arith, has, last_is));
      stands = λ newest aborted. not_aborted (sym (unknown n core there) ∙ aborted);
    };
    in_step = record {
      behind = λ n core there marked. absurd (let two : false ≡ true = sym (none_is_behind n) ∙ marked in cc);
      told = λ n there. none_is_behind n;
      up = λ n finished. none_is_behind n;
    };
    map = (sound.map, have_map);
    letters = none_below store.next_epoch;
  }

  -- ---- what files hold

  pub are_of : (keep : Option ℕ) (c : Contents) → Has keep c store → AreOf c k
  are_of keep c holds = record {
    layout = of.layout ∙ ap (λ (e : LayoutEntry). e.layout) holds.layout;
    chief_log = record {
      file = chief_file ∙ ap (λ (e : LayoutEntry). e.layout.chief_file) holds.layout;
      kind = ap (λ (l : LogState). l.kind) of.log ∙ sound.logs.chief.of_kind;
    };
    logs = λ n voter there. record {
      file = file_is n voter there ∙ ap (λ (e : LayoutEntry). slice_index e.layout.node_files n) holds.layout;
      kind = (let log = node_file n voter there in ap (λ (l : LogState). l.kind) log.1 ∙ (sound.logs.nodes n log.0).of_kind);
    };
    held = λ n voter there. subst (λ (e : LayoutEntry). HeldBy e.layout n voter.held.items) holds.layout (of.voters.each n voter there).2.held;
    commits = λ e. ap (λ (x : Chief). x.committed e) of.chief ∙ has_is store.epochs.items e ∙ ap (λ (l : List ℕ). is_member nat_eq l e) holds.epochs;
    greatest_is = λ n core there. core_durable n core there (λ i. prepared_epochs (c.prepared i))
        (holds.prepared ∙ ap (λ (i : ℕ). map (λ n. greatest_prepared (c.prepared n)) (range_with_len 0 i)) (sym (ap (λ (e : LayoutEntry). e.layout.nodes) holds.layout)));
  }

  pub stand : (m : Rows) → TablesStand store.layout m none_behind store.shards.items store.copies.items → TablesStand k.tables.layout m none_behind k.tables.shards.items k.tables.copies.items
  stand m stands =
      subst (λ (layout : Layout). TablesStand layout m none_behind k.tables.shards.items k.tables.copies.items) (sym of.layout)
      (subst (λ (shards : List ShardState). TablesStand store.layout m none_behind shards k.tables.copies.items) (sym of.shards)
      (subst (λ (copies : List CopyState). TablesStand store.layout m none_behind store.shards.items copies) (sym of.copies) stands))

  -- ---- the world

  module _ (begin : EntriesBegin) (decides : GreatestDecides) (entries : ℕ → List ℕ) (readied : HaveReadied entries store) where
    abbrev pub world : World
    world = began_anew store.layout.nodes entries store.epochs.items

    good : AreGood store.layout.nodes entries store.epochs.items × IsAbove world store.next_epoch
    good = begin store.layout.nodes store.next_epoch entries store.epochs.items readied.committed readied.below sound.below

    core_at : (n : ℕ) → n < store.layout.nodes → slice_get k.cores.items n ≡ Some (restarted n (entries n) None)
    core_at n less =
        let some = slice_get-get_or k.cores.items n (restarted n [] None) (omega (arith, less, as_many)) in
        some ∙ ap Some (core_is n (get_or k.cores.items n (restarted n [] None)) some decides entries readied.greatest)

    pub begins : BeginsWorld store.next_epoch k world
    begins = record {
      is = record {
        count = sym as_many;
        nodes = core_at;
        chief_is = sym of.chief;
        told = λ l said. none_in _ said.among;
        durable = λ n less. refl;
      };
      silent = refl;
      reached = record { count = store.layout.nodes; prepared = entries; commits = store.epochs.items; events = []; good = good.0; can = tt; is = refl };
      above = good.1;
    }

    pub has_entries : (keep : Option ℕ) (c : Contents) → Has keep c store → ((n : ℕ) → entries n ≡ prepared_epochs (c.prepared n)) → HasEntries c world
    has_entries keep c holds are = record {
      count = ap (λ (e : LayoutEntry). e.layout.nodes) holds.layout;
      commits = λ e. has_is store.epochs.items e ∙ ap (λ (l : List ℕ). is_member nat_eq l e) holds.epochs;
      prepared = λ n e less. has_is (entries n) e ∙ ap (λ (l : List ℕ). is_member nat_eq l e) (are n);
    }

-- ---- put together

-- the members of an opened store with these cores, nodes and marks
abbrev pub members_with : Opened → ChiefCore → Vec Node Global → Vec Voter Global → Vec Bool Global → Members
members_with store chief cores voters behind = record {
  chief = chief;
  log = store.logs.chief;
  cores = cores;
  voters = voters;
  tables = record { layout = store.layout; shards = store.shards; copies = store.copies; behind = behind };
}

pub members_are : (store : Opened) (chief : ChiefCore) (cores : Vec Node Global) (voters : Vec Voter Global) (behind : Vec Bool Global) (numbers : List ℕ)
    → chief_of chief ≡ chief_restarted store.layout.nodes store.epochs.items → numbers ≡ store.prepared.items → BeginAnew numbers cores.items
    → AreFirst store.layout store.logs.nodes.items voters.items → behind.items ≡ replicate store.layout.nodes false → AreMembersOf store (members_with store chief cores voters behind)
members_are store chief cores voters behind numbers is same begin first none = record {
  chief = is;
  log = refl;
  cores = subst (λ (l : List ℕ). BeginAnew l cores.items) same begin;
  voters = first;
  layout = refl;
  shards = refl;
  copies = refl;
  behind = none;
}
