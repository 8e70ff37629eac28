-- The parts of the phase, one behind another.
use Rattle.std.proofs.Common.{◌≡◌, ℕ, List, length, refl, ◌∙◌}
use Rattle.coco_chief.specs.Chief.{Chief}
use Rattle.coco_letters.proofs.TellingLemmas.{adds_same, adds_then}
use Rattle.coco_letters.proofs.WorldLemmas.{goes_on_then, nothing_goes}
use Rattle.coco_net.specs.declared.net.Net.{Ghosts as NetGhosts}
use Rattle.coco_node.specs.Node.{Node}
use Rattle.coco_finish.specs.declared.tables.NodeTables.{NodeTables}
use Rattle.coco_finish.specs.Finishing.{AllCanFinish, AreWhole}
use Rattle.coco_finish.specs.Phase.{HasFinished, HaveTaken, KeepTables, MayFinish}
use Rattle.coco_finish.proofs.ExchangeLemmas.{hears_same, hears_then}
use Rattle.coco_finish.proofs.FinishLemmas.{finish_same, finish_then}

pub tables_same : (t : NodeTables) → AreWhole t → KeepTables t t
tables_same t whole = record { whole = whole; map = λ m has. has; behind = refl }

pub tables_then : {s t u : NodeTables} → KeepTables s t → KeepTables t u → KeepTables s u
tables_then one two = record { whole = two.whole; map = λ m has. two.map m (one.map m has); behind = two.behind ∙ one.behind }

pub may_still : {e : ℕ} {a b : List Node} {s t : NodeTables} → length b ≡ length a → MayFinish e a s → AllCanFinish e b → KeepTables s t → MayFinish e b t
may_still {a = a} {b = b} count may can keep = record {
  few = rw count may.few;
  some = may.some;
  whole = keep.whole;
  behind = rw count (keep.behind ∙ may.behind);
  can = can;
}

module _ {N : Type 0} {nets : NetGhosts N} where
  pub finished_same : (e : ℕ) (cores : List Node) (chief : Chief) (t : NodeTables) (net : N) → AllCanFinish e cores → HasFinished nets e cores cores chief chief t t net net
  finished_same e cores chief t net can = record {
    finish = finish_same e cores t;
    can = can;
    in_step = λ step. step;
    hears = hears_same chief (nets.given net);
    said = adds_same (nets.sent net);
    world = nothing_goes (record { cores = cores; chief = chief; sent = nets.sent net });
  }

  pub finished_then : {e : ℕ} {a b c : List Node} {f g h : Chief} {s t u : NodeTables} {l m n : N}
      → HasFinished nets e a b f g s t l m → HasFinished nets e b c g h t u m n → HasFinished nets e a c f h s u l n
  finished_then {e} {a} {b} {c} {f} {g} {h} {s} {t} {u} {l} {m} {n} one two = record {
    finish = finish_then e a b c s t u one.finish two.finish;
    can = two.can;
    in_step = λ step. two.in_step (one.in_step step);
    hears = hears_then f g h (nets.given l) (nets.given m) (nets.given n) one.hears two.hears;
    said = adds_then (nets.sent l) (nets.sent m) (nets.sent n) one.said two.said;
    world = goes_on_then (record { cores = a; chief = f; sent = nets.sent l }) (record { cores = b; chief = g; sent = nets.sent m }) (record { cores = c; chief = h; sent = nets.sent n }) one.world two.world;
  }

  pub taken_same : (e : ℕ) (cores : List Node) (t : NodeTables) (net : N) → AllCanFinish e cores → HaveTaken nets e cores cores t t net net
  taken_same e cores t net can = record {
    finish = finish_same e cores t;
    can = can;
    are_behind = λ are. are;
    told = λ are told. told;
    said = adds_same (nets.sent net);
    world = λ chief. nothing_goes (record { cores = cores; chief = chief; sent = nets.sent net });
  }

  pub taken_then : {e : ℕ} {a b c : List Node} {s t u : NodeTables} {l m n : N} → HaveTaken nets e a b s t l m → HaveTaken nets e b c t u m n → HaveTaken nets e a c s u l n
  taken_then {e} {a} {b} {c} {s} {t} {u} {l} {m} {n} one two = record {
    finish = finish_then e a b c s t u one.finish two.finish;
    can = two.can;
    are_behind = λ are. two.are_behind (one.are_behind are);
    told = λ are told. two.told (one.are_behind are) (one.told are told);
    said = adds_then (nets.sent l) (nets.sent m) (nets.sent n) one.said two.said;
    world = λ chief. goes_on_then (record { cores = a; chief = chief; sent = nets.sent l }) (record { cores = b; chief = chief; sent = nets.sent m }) (record { cores = c; chief = chief; sent = nets.sent n }) (one.world chief) (two.world chief);
  }
