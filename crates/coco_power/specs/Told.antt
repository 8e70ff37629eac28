-- What a power in memory tells, read off its record, and where a script stops.
use Rattle.std.specs.Prelude.{ℕ, ◌+◌, ◌*◌, ◌-◌, ◌^◌, Bool, false, ◌==◌, ◌&&◌, List, replicate, nat_lt}
use Rattle.std.specs.List.{list_any, slice_index_or}
use Rattle.coco_power.specs.declared.record.Record.{Record}

-- how often a node stopped
abbrev pub stopped_of : Record → ℕ → ℕ
stopped_of r node = slice_index_or r.stopped node 0

-- whether a point of a node was asked for since the epoch began
abbrev pub asked_of : Record → ℕ → ℕ → Bool
asked_of r node point = slice_index_or r.asked (node * 7 + point) false

-- nothing was asked for, and nothing stopped
abbrev pub fresh : Record
fresh = record { begun = 0; seen = 0; early = 0; stopped = replicate 8 0; asked = replicate 56 false }

-- whether the script stops this point of this node in this epoch
abbrev pub is_listed : List (ℕ × ℕ × ℕ) → ℕ → ℕ → ℕ → Bool
is_listed stops epoch node point = list_any (λ s. (s.0 == epoch) && (s.1 == node) && (s.2 == point)) stops

-- no count is at its end
abbrev pub has_room : Record → ℕ → Bool
has_room r node = nat_lt r.seen (2 ^ 64 - 1) && nat_lt r.early (2 ^ 64 - 1) && nat_lt (stopped_of r node) (2 ^ 64 - 1)
