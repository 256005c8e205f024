-- The mask, from match to match. No meaning stands here: the mask is `mask` in crate masks.
use Rattle.std.specs.Prelude.{List, ℕ, ◌+◌, ◌≤◌}
use Rattle.layout.specs.Layout.{Valid}
use Rattle.datatype.specs.Datatype.{Datatype, size}
use Rattle.datatype.specs.Matches.{Match, on_match}
use Rattle.table.specs.Table.{layout_at}
use Rattle.paths.specs.declared.Pair.{Pair}
use Rattle.paths.specs.declared.Pair.TheVariants.{Matched, Unmatched}
use Rattle.masks.specs.Mask.{marked, marked_from}

-- the bytes r with the source leaf of a match marked, if there is one
abbrev pub marked_match : Match → List ℕ → List ℕ
marked_match m r = on_match (λ a x y. marked x a r) r m

-- with all of them
abbrev pub marked_over : Datatype → Datatype → List ℕ → List ℕ
marked_over S D r = marked_from S D 0 (size D) r

-- the source leaf of a match is valid, and lies inside so many bytes
abbrev pub Reached : ℕ → Pair → List ℕ → Type 0
Reached bytes (Matched a s d) ws = Valid (layout_at ws s) × (a + (layout_at ws s).size.0 ≤ bytes)
Reached bytes (Unmatched n) ws = Unit {0}
