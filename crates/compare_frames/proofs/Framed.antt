-- The plan of two logs as their list goes by it. Assumes nothing.
use mathlib.Core.Path.{◌≡◌, refl}
use mathlib.Core.Bool.{false}
use mathlib.Core.List.{List}
use Prim.Native.Nat.{ℕ}
use Rattle.datatype.specs.Datatype.{size}
use Rattle.table.specs.Table.{type_at, size_word}
use Rattle.table.specs.Words.{Reads}
use Rattle.plan_making.specs.Made.{Made}
use Rattle.plan_making.proofs.Making.{job}
use Rattle.conversion.specs.Call.{Passes}
use Rattle.conversion.proofs.Checking.{read_size}
use Rattle.comparing.specs.Comparing.{TwoLogs}

module _ {ss ds : List ℕ} {n p q : ℕ} {ws : List ℕ} {i : ℕ} {wd : List ℕ} {k : ℕ} (passes : Passes false ss ds n q p ws i wd k) {s d : ℕ}
    (rs : Reads (size_word ws i) s) (rd : Reads (size_word wd k) d) where
  pub first_size : s ≡ size (type_at ws ss i)
  first_size = read_size ws ss i rs

  pub second_size : d ≡ size (type_at wd ds k)
  second_size = read_size wd ds k rd

  unfoldable pub two_logs : {plan words : List ℕ} {e : ℕ} → Made ss ws i ds wd (type_at wd ds k) plan e words
      → TwoLogs (record { count = n; first_size = s; second_size = d; entries = e }) p q ss ws ds wd plan words
  unfolding job
  two_logs made =
      record {
        planned = record { job = job passes.types passes.types.destination made first_size second_size; first_text = refl; second_text = refl };
        few = passes.records.0;
        in_first = rw first_size passes.records.1;
        in_second = rw second_size passes.records.2;
      }
