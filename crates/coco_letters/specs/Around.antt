-- What is seen and changed around a store, by the net and the power; and how many numbers of epochs may be skipped for it.
use Rattle.std.specs.Prelude.{◌≡◌, ℕ, ◌+◌, ◌*◌, ◌-◌, ◌≤◌, Bool, List, ◌++◌, Option}
use Rattle.coco_net.specs.declared.letter.Posted.{Posted}
use Rattle.coco_net.specs.declared.net.Net.{Ghosts as NetGhosts}
use Rattle.coco_power.specs.declared.power.Power.{Ghosts as PowerGhosts}

-- what a net tells at a moment, and what a power does: the letters sent and given, the rounds that lost one and the seed of its disturbances; the stops and
-- those before an entry, each node's stops, the epochs begun, and what was asked in the last one
pub record Around : Type 0 where
  pub sent : List Posted
  pub given : List Posted
  pub faults : ℕ
  pub seed : Option ℕ
  pub stops : ℕ
  pub early : ℕ
  pub stopped : ℕ → ℕ
  pub begun : ℕ
  pub asked : ℕ → ℕ → Bool

-- what these tell of a net and of a power
abbrev pub around : {N P : Type 0} → NetGhosts N → PowerGhosts P → N → P → Around
around nets powers net power = record {
  sent = nets.sent net;
  given = nets.given net;
  faults = nets.faults net;
  seed = nets.last_seed net;
  stops = powers.stops_seen power;
  early = powers.early_stops power;
  stopped = powers.stopped power;
  begun = powers.begun power;
  asked = powers.asked power;
}

-- later in a call: no letter was forgotten, no count fell, and the net was asked for no disturbances
pub record IsLater (a b : Around) : Type 0 where
  pub sent : (more : List Posted) × (b.sent ≡ a.sent ++ more)
  pub given : (more : List Posted) × (b.given ≡ a.given ++ more)
  pub faults : a.faults ≤ b.faults
  pub early : a.early ≤ b.early
  pub seed : b.seed ≡ a.seed

-- ---- numbers of epochs

-- how many numbers may be skipped meanwhile, in sixteenths of a number: sixteen for each stop before an entry, and one for each fault of the net
abbrev pub spare : Around → Around → ℕ
spare a b = 16 * (b.early - a.early) + (b.faults - a.faults)

-- of the numbers from `next` on and below `end` all but so many are skipped, and these are no more than may be
abbrev pub SkipsFew : ℕ → ℕ → ℕ → ℕ → Type 0
SkipsFew next end count spare = 16 * end ≤ 16 * (next + count) + spare

-- the number that an epoch is tried under: those before it were skipped
pub record IsTaken (next number spare : ℕ) : Type 0 where
  pub low : next ≤ number
  pub few : SkipsFew next number 0 spare
