-- `name_compare::same_bytes` meets its contract. The invariant: the names are the same if what is left of them is. Assumes nothing.
use Prim.Native.Nat.{ℕ, ◌+◌, ◌-◌, ◌*◌, ◌/◌, ◌<◌}
use mathlib.Core.Path.{◌≡◌, sym, ◌∙◌}
use native.Mathlib.Omega.{arith}
use Rattle.table.proofs.Same.{same_none}
use Rattle.name_compare.proofs.Ends.{last_differ, first_differ, ends_same, one_left}
use Rattle.name_compare.proofs.same_bytes.Goals as goal

-- byte n - 1 - k from p on is the last of the n - 2 * k from p + k on
last : (p n k : ℕ) → k < n / 2 → p + (n - 1 - k) ≡ p + k + (n - 2 * k - 1)
last p n k h = omega arith

pub returns-then-x-y : goal.returns-then-x-y
returns-then-x-y c =
    let l = last c.args.i c.args.n c.loop-k.k (omega arith) in
    let m = last c.args.j c.args.n c.loop-k.k (omega arith) in
    sym (c.loop-k.invariant ∙ last_differ _ _ _ _ _ _ _ (omega arith) (rw l at c.byte-x.ensures) (rw m at c.byte-y.ensures) c.if-x-y.true)

pub returns-then-u-v : goal.returns-then-u-v
returns-then-u-v c =
    let l = last c.args.i c.args.n c.loop-k.k (omega arith) in
    let m = last c.args.j c.args.n c.loop-k.k (omega arith) in
    sym
    (c.loop-k.invariant
    ∙ first_differ _ _ _ _ _ _ _ _ _ (omega arith) (rw l at c.byte-x.ensures) (rw m at c.byte-y.ensures) c.if-x-y.false c.byte-u.ensures c.byte-v.ensures c.if-u-v.true)

pub loop-k-preserved : goal.loop-k-preserved
loop-k-preserved c =
    let a = c.args in
    let k : ℕ = c.loop-k.k in
    let l = last a.i a.n k (omega arith) in
    let m = last a.j a.n k (omega arith) in
    let from : a.i + k + 1 ≡ a.i + (k + 1) = omega arith in
    let to : a.j + k + 1 ≡ a.j + (k + 1) = omega arith in
    let less : a.n - 2 * k - 2 ≡ a.n - 2 * (k + 1) = omega arith in
    rw (← from, ← to, ← less)
    (c.loop-k.invariant
    ∙ ends_same _ _ _ _ _ _ _ _ _ (omega arith) (rw l at c.byte-x.ensures) (rw m at c.byte-y.ensures) c.if-x-y.false c.byte-u.ensures c.byte-v.ensures c.if-u-v.false)

pub returns-then-n-eq0 : goal.returns-then-n-eq0
returns-then-n-eq0 c = sym (c.loop-k.invariant ∙ same_none _ _ _ _ _ (omega (arith, c.if-n-eq0.true)))

pub returns : goal.returns
returns c =
    let half : c.loop-k.k ≡ c.args.n / 2 = omega arith in
    sym
    (c.loop-k.invariant
    ∙ one_left _ _ _ _ _ _ _ (omega arith) (λ e. omega (arith, e, c.if-n-eq0.false)) (rw (← half) at c.byte.ensures) (rw (← half) at c.byte-2.ensures))
