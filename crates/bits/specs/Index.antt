-- What functions promise of single bytes, and of bytes written one after the other. No meaning of document 01 stands here.
use Rattle.std.specs.Prelude.{List, ℕ, zero, suc, ◌+◌, ◌-◌, set, get_or}
use Rattle.bits.specs.declared.Order.{Order}
use Rattle.bits.specs.declared.Order.TheVariants.{LE, BE}

-- where the byte of significance k lies among n bytes
abbrev pub index_of : Order → ℕ → ℕ → ℕ
index_of LE n k = k
index_of BE n k = n - suc k

-- d with l's elements from k on written one after the other to index at + k on
abbrev pub set_all : List ℕ → ℕ → List ℕ → ℕ → ℕ → List ℕ
set_all d at l k zero = d
set_all d at l k (suc n) = set_all (set d (at + k) (get_or l k 0)) at l (suc k) n
