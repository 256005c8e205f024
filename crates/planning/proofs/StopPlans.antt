-- The plan to the leaves that obey stop, one entry more at a time. Assumes nothing.
use mathlib.Core.Path.{◌≡◌, sym, ◌∙◌}
use mathlib.Core.List.{List}
use Prim.Native.Nat.{ℕ, ◌+◌, ◌*◌, ◌≤◌, ◌<◌}
use native.Mathlib.Omega.{arith}
use lib.ListN.{length}
use Rattle.datatype.specs.Datatype.{Datatype, size}
use Rattle.datatype.specs.WellFormed.{WellFormed}
use Rattle.datatype.proofs.Stopping.{stopping, stopping_size}
use Rattle.table.specs.Table.{size_word, type_at}
use Rattle.table.specs.Words.{Reads}
use Rattle.paths.specs.declared.Pair.{Pair}
use Rattle.paths.specs.Leaf.{Small, MatchIn, MatchFound}
use Rattle.paths.specs.Plan.{Planned, step_of, Added}
use Rattle.paths.proofs.Shapes.{size_decode}
use Rattle.paths.proofs.Entries.{Filled, filled_from, step_some, step_inside, filled_next, filled_done}
use Rattle.obeying.specs.Obeying.{StopsOf}
use Rattle.obeying.proofs.StopMatches.{stopping_of}
use Rattle.planning.specs.StopMatch.{StopMatch}

module _ (ws ts : List ℕ) (i : ℕ) (wd td : List ℕ) (k h : ℕ) where
  -- the plan so far, to any type where the leaves that obey stop are left
  abbrev pub Going : List ℕ → ℕ → List ℕ → ℕ → ℕ → Type 0
  Going before bytes p n b = (E : Datatype) → StopsOf h (type_at wd td k) E → Filled ws ts wd td (type_at ws ts i) E before bytes p n b

  pub going_start : {bytes : ℕ} (p : List ℕ) → Reads (size_word wd k) bytes → 2 * size (type_at wd td k) ≤ length p → Going p bytes p 0 0
  going_start p hb space E of =
      filled_from ws ts wd td (type_at ws ts i) E p (hb.is ∙ sym (size_decode 64 wd td k) ∙ sym of.sized) of.formed (omega (arith, of.sized))

  module _ (fs : WellFormed (type_at ws ts i)) (fd : WellFormed (type_at wd td k)) {before : List ℕ} {bytes : ℕ} {p : List ℕ} {n b : ℕ} (going : Going before bytes p n b) where
    mine : Filled ws ts wd td (type_at ws ts i) (stopping h (type_at wd td k)) before bytes p n b
    mine = going (stopping h (type_at wd td k)) (stopping_of h (type_at wd td k) fd)

    pub going_inside : b < bytes → b < size (type_at wd td k)
    going_inside l = omega (arith, mine.whole, stopping_size h (type_at wd td k))

    pub going_length : length p ≡ length before
    going_length = mine.room

    pub going_most : bytes ≤ 4096
    going_most = mine.most

    module _ {found m : Pair} (hf : MatchFound ws ts i wd td k b found) (hm : StopMatch wd k b h found m) where
      at : (E : Datatype) → StopsOf h (type_at wd td k) E → MatchIn ws ts wd td (type_at ws ts i) E b m
      at E of = hm ws ts i td E fs fd of hf

      mine_at : MatchIn ws ts wd td (type_at ws ts i) (stopping h (type_at wd td k)) b m
      mine_at = at (stopping h (type_at wd td k)) (stopping_of h (type_at wd td k) fd)

      pub going_asked : b < bytes → (2 * n + 2 ≤ length p) × (b < 4096) × Small m
      going_asked l = (omega (arith, mine.room, mine.space, mine.few), omega (arith, mine.most), mine_at.small)

      module _ {step : ℕ} (hs : step ≡ step_of wd m) where
        pub going_some : 1 ≤ step
        going_some = step_some ws ts wd td (type_at ws ts i) (stopping h (type_at wd td k)) mine fs (stopping_of h (type_at wd td k) fd).formed mine_at hs

        pub going_step : b + step ≤ bytes
        going_step = step_inside ws ts wd td (type_at ws ts i) (stopping h (type_at wd td k)) mine fs (stopping_of h (type_at wd td k) fd).formed mine_at hs

        pub going_next : {q : List ℕ} {r : ℕ} → Added p n b m q r → Going before bytes q r (b + step)
        going_next added E of = filled_next ws ts wd td (type_at ws ts i) E (going E of) fs of.formed (at E of) hs added

    pub going_done : bytes ≤ b → (E : Datatype) → StopsOf h (type_at wd td k) E → Planned ws ts wd td (type_at ws ts i) E before p n
    going_done l E of = filled_done ws ts wd td (type_at ws ts i) E (going E of) l
