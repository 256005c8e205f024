-- `easy::put_four` meets its contract. Assumes nothing.
use mathlib.Core.Path.{◌≡◌}
use Prim.Native.Nat.{◌+◌}
use native.Mathlib.Omega.{arith}
use lib.ListN.{length-set}
use Rattle.easy.specs.Easy.{with_words}
use Rattle.easy.proofs.put_four.Goals as goal

pub bounds-words-place-2 : goal.bounds-words-place-2
bounds-words-place-2 c = simp length-set (omega arith)

pub bounds-words-place-3 : goal.bounds-words-place-3
bounds-words-place-3 c = simp length-set (omega arith)

pub bounds-words-place-4 : goal.bounds-words-place-4
bounds-words-place-4 c = simp length-set (omega arith)

pub returns : goal.returns
unfolding with_words
returns c =
    let k = c.args.place in
    let e2 : k + 1 + 1 ≡ k + 2 = omega arith in
    let e3 : k + 2 + 1 ≡ k + 3 = omega arith in
    rw (e2, e3)
