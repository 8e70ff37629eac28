use Rattle.std.proofs.Common.{◌≡◌, ◌<◌, ◌≤◌, ◌^◌, ◌+◌, Bool, false, ℕ, List, Result, length, sym, ap, subst, ◌∙◌, arith}
use Rattle.std.proofs.lemmas.Result.{err_from_is_err_and}
use Rattle.std.specs.Prelude.{OnOk}
use Rattle.coco_append.specs.Gaining.{HasStore, RestsAs}
use Rattle.coco_chief.specs.Chief.{Chief}
use Rattle.coco_chief.specs.Shown.{chief_of}
use Rattle.coco_chief.specs.Table.{has_finished}
use Rattle.coco_letters.specs.Telling.{Adds, IsOfChief}
use Rattle.coco_letters.specs.Worlds.{Commits, SameEntries, Scene}
use Rattle.coco_letters.proofs.WorldLemmas.{between_on, between_then}
use Rattle.coco_log.specs.LogState.{LogState}
use Rattle.coco_log.specs.declared.fault.LogFault.{LogFault}
use Rattle.coco_members.specs.AtRest.{scene_of}
use Rattle.coco_members.specs.declared.members.Members.{Members}
use Rattle.coco_net.specs.declared.letter.Posted.{Posted}
use Rattle.coco_letters.proofs.TellingLemmas.{adds_finish, adds_then, finished_by_chief, forced_says, votes_by_chief, adds_settling}
use Rattle.coco_members.proofs.LetterLemmas.{ships_below_chief}
use Rattle.coco_store.specs.Laws.{with_commit}
use Rattle.coco_settle.proofs.MemberLemmas.{commits_then}
use Rattle.coco_settle.proofs.NodeLemmas.{ready_stopped}
use Rattle.coco_vote.proofs.LetterLemmas.{letters_sent, letters_then}
use Rattle.coco_settle.proofs.settling.settle.Goals as goal

pub finish_committed-requires-clause-members : goal.finish_committed-requires-clause-members
finish_committed-requires-clause-members g c =
    let k : Members = c.args.members.now in
    let voted = c.requires.voted.1 in
    let chief : Chief = chief_of c.args.members.now.chief in
    let new : Chief = chief_of c.commit.new.chief in
    let sent = g.N.Net.sent in
    let e : ℕ = c.args.epoch in
    let fits : c.args.epoch < 2 ^ 64 = omega (arith, c.ranges.epoch.fits) in
    let some : 0 < c.args.epoch = omega (arith, c.requires.voted.1.last) in
    let few : chief.nodes ≤ 8 = omega (arith, c.requires.voted.1.are.chief, c.requires.voted.1.are.few) in
    let turns = c.in_ok-commit.ensures.turns in
    let said : Adds IsOfChief (g.N.Net.sent c.args.net.now) (g.N.Net.sent c.commit.new.net) = forced_says chief new (sent c.args.net.now) (sent c.commit.new.net) few e fits turns in
    record {
      are = record {
        some = voted.are.some;
        few = voted.are.few;
        layout = voted.are.layout;
        chief = c.commit.ensures.nodes ∙ voted.are.chief;
        voters = voted.are.voters;
        behind = voted.are.behind;
        whole = voted.are.whole;
        apart = voted.are.apart;
        chief_apart = λ n voter at same. voted.are.chief_apart n voter at (same ∙ ap (λ (l : LogState). l.file) c.in_ok-commit.ensures.log);
      };
      phase = ap (λ (x : Chief). x.phase) turns.chief_is;
      current = ap (λ (x : Chief). x.current) turns.chief_is ∙ voted.current;
      last = ap (λ (x : Chief). x.last) turns.chief_is;
      none = λ n. subst (λ (x : Chief). has_finished n x ≡ false) (sym turns.chief_is) (c.unfinished_nodes_are_told.ensures.none e n chief some);
      voting = voted.voting;
      newest = voted.newest;
      ships = ships_below_chief (c.args.epoch + 1) (sent c.args.net.now) (sent c.commit.new.net) said voted.ships;
      votes = votes_by_chief (c.args.epoch + 1) (sent c.args.net.now) (sent c.commit.new.net) voted.votes said;
      finished = finished_by_chief e (sent c.args.net.now) (sent c.commit.new.net) voted.finished said;
    }

pub finish_committed-requires-clause-told : goal.finish_committed-requires-clause-told
finish_committed-requires-clause-told g c =
    c.unfinished_nodes_are_told.ensures.committed c.args.epoch (chief_of c.args.members.now.chief) (chief_of c.commit.new.chief) (g.N.Net.sent c.args.net.now) (g.N.Net.fresh c.args.net.now) (g.N.Net.sent c.commit.new.net) (g.N.Net.fresh c.commit.new.net)
    c.in_ok-commit.ensures.turns c.in_ok-commit.ensures.sends.fresh

pub returns-clause-rest : goal.returns-clause-rest
returns-clause-rest g c = c.in_ok-finish_committed.ensures.rest c.requires.voted.0 c.requires.voted.1.tables

pub returns-clause-shards : goal.returns-clause-shards
returns-clause-shards g c = λ m voted. c.in_ok-finish_committed.ensures.shards m voted.tables

pub returns-clause-committed : goal.returns-clause-committed
returns-clause-committed g c =
    let keeps = c.in_ok-finish_committed.ensures.chief in
    let turns = c.in_ok-commit.ensures.turns in
    record {
      nodes = keeps.nodes ∙ c.commit.ensures.nodes;
      current = keeps.current ∙ ap (λ (x : Chief). x.current) turns.chief_is ∙ c.requires.voted.1.current;
      last = keeps.last ∙ ap (λ (x : Chief). x.last) turns.chief_is;
      committed = λ e. ap (λ (f : ℕ → Bool). f e) (keeps.committed ∙ ap (λ (x : Chief). x.committed) turns.chief_is);
    }

pub returns-clause-ready : goal.returns-clause-ready
returns-clause-ready g c = λ ready.
    let voted = c.requires.voted.1 in
    let rest = c.in_ok-finish_committed.ensures.rest c.requires.voted.0 c.requires.voted.1.tables in
    let keeps = c.in_ok-finish_committed.ensures.chief in
    let many : length c.finish_committed.new.members.voters.items ≡ length c.args.members.now.voters.items =
    rest.are.voters ∙ sym rest.are.chief ∙ keeps.nodes ∙ c.commit.ensures.nodes ∙ voted.are.chief ∙ sym voted.are.voters in
    ready_stopped (g.P.Power.stopped c.args.power.now) (g.P.Power.stopped c.finish_committed.new.power) c.args.members.now.voters.items c.finish_committed.new.members.voters.items c.in_ok-finish_committed.ensures.stops many
    (g.H.Host.reads c.args.host.now) (g.H.Host.reads c.commit.new.host) (g.H.Host.may_leave c.args.host.now) (g.H.Host.may_leave c.commit.new.host)
    (λ n voter at stands. c.commit.ensures.others voter.log (voted.are.chief_apart n voter at) stands) ready

pub returns-clause-world : goal.returns-clause-world
returns-clause-world g c =
    let sent = g.N.Net.sent in
    let old : ℕ → ℕ = g.P.Power.stopped c.args.power.now in
    let now : ℕ → ℕ = g.P.Power.stopped c.finish_committed.new.power in
    let scene : Chief → List Posted → Scene = λ chief sent. record { cores = c.args.members.now.cores.items; chief = chief; sent = sent } in
    let first : Scene = scene (chief_of c.args.members.now.chief) (sent c.args.net.now) in
    let between : Scene = scene (chief_of c.commit.new.chief) (sent c.commit.new.net) in
    let last : Scene = scene_of c.finish_committed.new.members (sent c.finish_committed.new.net) in
    between_then (Commits c.args.epoch) SameEntries (Commits c.args.epoch) (commits_then c.args.epoch) old old now first between last
    (between_on (Commits c.args.epoch) (Commits c.args.epoch) old old first between (λ w v _ made. made) (λ n lt. omega arith) (c.in_ok-commit.ensures.world c.args.members.now.cores.items))
    c.in_ok-finish_committed.ensures.world

pub returns-clause-says : goal.returns-clause-says
returns-clause-says g c =
    let sent = g.N.Net.sent in
    let fits : c.args.epoch < 2 ^ 64 = omega (arith, c.ranges.epoch.fits) in
    let chief : Chief = chief_of c.args.members.now.chief in
    let few : chief.nodes ≤ 8 = omega (arith, c.requires.voted.1.are.chief, c.requires.voted.1.are.few) in
    adds_then (sent c.args.net.now) (sent c.commit.new.net) (sent c.finish_committed.new.net)
    (adds_settling c.args.epoch (sent c.args.net.now) (sent c.commit.new.net) (adds_finish c.args.epoch (sent c.args.net.now) (sent c.commit.new.net)
    (forced_says chief (chief_of c.commit.new.chief) (sent c.args.net.now) (sent c.commit.new.net) few c.args.epoch fits c.in_ok-commit.ensures.turns)))
    c.in_ok-finish_committed.ensures.says

pub returns-in_err-commit-clause-letters : goal.returns-in_err-commit-clause-letters
returns-in_err-commit-clause-letters g c =
    letters_sent c.commit.ensures.sends.fresh c.commit.ensures.sends.counts

-- what the commit left is there, though a later step failed
pub returns-in_err-finish_committed-clause-files : goal.returns-in_err-finish_committed-clause-files
returns-in_err-finish_committed-clause-files g c before rests of may =
    let gains = c.commit.ensures.files before rests of may in
    let p = err_from_is_err_and c.from_residual-in_err-finish_committed.result c.from_residual-in_err-finish_committed.ensures.1 in
    record {
      ok = subst (λ (r : Result (Unit {0}) LogFault). OnOk r (RestsAs (HasStore (with_commit (record { epoch = c.args.epoch; dones = c.args.dones.now }) before)) (g.H.Host.reads c.commit.new.host) (g.H.Host.may_leave c.commit.new.host))) (sym p.1) tt;
      moments = gains.moments;
      left = gains.left;
    }

pub returns-in_err-finish_committed-clause-letters : goal.returns-in_err-finish_committed-clause-letters
returns-in_err-finish_committed-clause-letters g c =
    letters_then (letters_sent c.commit.ensures.sends.fresh c.commit.ensures.sends.counts) c.finish_committed.ensures.letters

pub returns-clause-letters : goal.returns-clause-letters
returns-clause-letters g c =
    letters_then (letters_sent c.commit.ensures.sends.fresh c.commit.ensures.sends.counts) c.finish_committed.ensures.letters
