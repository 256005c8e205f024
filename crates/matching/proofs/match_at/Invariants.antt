-- `matching::match_at` meets its contract. The invariant: what is matched at byte b and behind it is what is matched at byte `at` of the types s and d, both
-- well formed to the depth that is left, `from` bytes further in the source. Assumes nothing.
use Prim.Native.Nat.{◌+◌, ◌-◌, ◌*◌, ◌≤◌}
use Rattle.paths.proofs.Walks.{Reached}
use Rattle.matching.proofs.match_at.Given as goal

abbrev pub invariant-loop : goal.invariant-loop
invariant-loop l =
    Reached l.source_half l.source_sheet l.source_type l.destination_half l.destination_sheet l.destination_type l.destination_byte l.s l.d l.at l.from (64 - l.counter)
    × (l.from + (64 - l.counter) * 4096 ≤ 262144)
