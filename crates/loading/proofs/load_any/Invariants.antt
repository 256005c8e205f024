-- `loading::load_any` meets its contract. The invariant: c is the number of the digits from k up, and has no more bits than they have. Assumes nothing.
use Prim.Native.Nat.{◌-◌, ◌*◌, ◌^◌, ◌<◌}
use mathlib.Core.Path.{◌≡◌}
use lib.ListN.{take, drop}
use Rattle.bits.specs.Container.{arranged, from_digits}
use Rattle.loading.proofs.load_any.Given as goal

abbrev pub invariant-loop-k : goal.invariant-loop-k
invariant-loop-k l = (l.c ≡ from_digits (drop l.k (arranged l.order (take l.size (drop l.at l.s))))) × (l.c < 2 ^ (8 * (l.size - l.k)))
