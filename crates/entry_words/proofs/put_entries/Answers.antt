-- `entry_words::put_entries` meets its contract. The loop's invariant: the words of the entries before i stand, with their spans before `free`. Assumes nothing.
use mathlib.Core.Path.{◌∙◌}
use Prim.Native.Nat.{◌+◌, ◌≤◌}
use native.Mathlib.Omega.{arith}
use borrow.Author.Rules.{rules}
use Rattle.plans.specs.PlanWords.{words_place}
use Rattle.plans.proofs.Spans.{entries_more}
use Rattle.entry_words.proofs.put_entries.Goals as goal

pub loop-i-preserved : goal.loop-i-preserved
loop-i-preserved c =
    let i = c.loop-i.invariant in
    let room : words_place c.loop-i.i + 4 ≤ words_place c.args.entries = omega (arith, c.loop-i-test.true) in
    let put = c.put_next-free.ensures.0 (words_place c.args.entries) room i.0 i.4 in (
      omega (arith, i.0, put.grows),
      omega (arith, c.put_next-free.ensures.1, put.long),
      put.long ∙ i.2,
      search rules,
      entries_more _ _ c.loop-i.i _ _ _ _ _ _ _ _ room i.4 put,
    )
