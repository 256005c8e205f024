-- `entry_words::put_next` meets its contract: a copied entry has its span already, any other gets it behind those of the others. Assumes nothing.
use native.Mathlib.Omega.{arith}
use Rattle.plans.proofs.Spans.{put_copied}
use Rattle.entry_words.proofs.put_next.Goals as goal

pub returns-then-same_types : goal.returns-then-same_types
returns-then-same_types c =
    let same = c.same_types.ensures c.if-same_types.true in
    (λ start a b all. put_copied _ _ _ _ start _ _ _ _ _ same.0 same.1 a (omega (arith, c.requires.3.within)) all c.copy_entry.ensures, c.requires.3.within)
