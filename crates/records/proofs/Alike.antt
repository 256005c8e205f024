-- Two pairs of datatypes with the same sizes and the same matches convert alike, as a pair and the same pair without its words. Assumes nothing.
use mathlib.Core.Path.{◌≡◌, refl, sym, ap, ◌∙◌, fun_ext}
use mathlib.Core.List.{List, ◌++◌}
use mathlib.Core.Option.{none, some}
use Prim.Native.Nat.{ℕ, zero, suc, ◌+◌, ◌-◌, ◌*◌, max}
use lib.IntN.{ℤ}
use lib.ListN.{drop, replicate}
use Rattle.number.specs.Place.{stored}
use Rattle.datatype.specs.Datatype.{Leaf, layout_of, Datatype, size}
use Rattle.datatype.specs.Symbols.{on_some}
use Rattle.datatype.specs.Matches.{Match, on_match, match_at}
use Rattle.datatype.specs.Handling.{wordless}
use Rattle.datatype.proofs.Handling.{wordless_size, wordless_match, source_match}
use Rattle.records.specs.Leaf.{number_in, converted}
use Rattle.records.specs.Record.{Reading, reading, with_leaf, with_leaves_below, kind_at, nothing_given, given_at, raises, raised_below}
use Rattle.records.specs.Records.{record_at, joined, Readings, readings, converted_at, converted_records, exceptions, copy_result, in_place_result}
use Rattle.records.proofs.ManyRecords.{joined_alike}

module _ (S D T E : Datatype) (sources : size T ≡ size S) (destinations : size E ≡ size D) (match : (b : ℕ) → match_at T E b ≡ match_at S D b) where
  reading_alike : (r : List ℕ) → reading T E r ≡ reading S D r
  unfolding reading
  reading_alike r = fun_ext (λ b. ap (on_match (λ a x y. some (number_in x a r)) none) (match b))

  pub readings_alike : (source : List ℕ) → readings T E source ≡ readings S D source
  readings_alike source = fun_ext (λ i. rw sources (reading_alike (record_at (size S) i source)))

  module _ (f : Reading) where
    pub kind_alike : (b : ℕ) → kind_at T E f b ≡ kind_at S D f b
    unfolding kind_at
    kind_alike b = ap (on_match (λ a x y. on_some (λ z. (converted x y z).kind) 0 (f b)) 0) (match b)

    pub given_alike : (b : ℕ) → given_at T E f b ≡ given_at S D f b
    unfolding given_at
    given_alike b = ap (on_match (λ a x y. on_some (λ z. (converted x y z).given) nothing_given (f b)) nothing_given) (match b)

    leaf_alike : (b : ℕ) (r : List ℕ) → with_leaf T E f b r ≡ with_leaf S D f b r
    unfolding with_leaf
    leaf_alike b r = ap (on_match (λ a x y. on_some (λ z. stored (layout_of y) b (converted x y z).raw r) r (f b)) r) (match b)

    below_alike : (k : ℕ) (r : List ℕ) → with_leaves_below T E f k r ≡ with_leaves_below S D f k r
    unfolding with_leaves_below
    below_alike zero r = refl
    below_alike (suc k) r = leaf_alike k (with_leaves_below T E f k r) ∙ ap (with_leaf S D f k) (below_alike k r)

    raised_alike : (k : ℕ) → raised_below T E f k ≡ raised_below S D f k
    unfolding raised_below
    raised_alike zero = refl
    raised_alike (suc k) = rw (raised_alike k, kind_alike k)

  pub exceptions_alike : (n : ℕ) (fs : Readings) → exceptions T E n fs ≡ exceptions S D n fs
  unfolding exceptions
  exceptions_alike zero fs = refl
  exceptions_alike (suc n) fs = rw (exceptions_alike n fs, destinations, raised_alike (fs n) (size D))

  converted_alike : (n : ℕ) (fs : Readings) (background : List ℕ) → converted_records T E n fs background ≡ converted_records S D n fs background
  converted_alike n fs background =
      joined_alike (converted_at T E fs background) (converted_at S D fs background) n
      (λ i l. rw destinations (below_alike (fs i) (size D) (record_at (size D) i background)))

  pub copy_alike : (n : ℕ) (source destination : List ℕ) → copy_result T E n source destination ≡ copy_result S D n source destination
  copy_alike n source destination =
      ap (λ (fs : Readings). converted_records T E n fs destination ++ drop (n * size E) destination) (readings_alike source)
      ∙ ap (λ (l : List ℕ). l ++ drop (n * size E) destination) (converted_alike n (readings S D source) destination)
      ∙ ap (λ (w : ℕ). converted_records S D n (readings S D source) destination ++ drop (n * w) destination) destinations

  pub in_place_alike : (n : ℕ) (buffer background : List ℕ) → in_place_result T E n buffer background ≡ in_place_result S D n buffer background
  in_place_alike n buffer background =
      ap (λ (fs : Readings). converted_records T E n fs background ++ (replicate (n * size T - n * size E) 0 ++ drop (max (n * size T) (n * size E)) buffer)) (readings_alike buffer)
      ∙ ap (λ (l : List ℕ). l ++ (replicate (n * size T - n * size E) 0 ++ drop (max (n * size T) (n * size E)) buffer)) (converted_alike n (readings S D buffer) background)
      ∙ ap (λ (s : ℕ). converted_records S D n (readings S D buffer) background ++ (replicate (n * s - n * size E) 0 ++ drop (max (n * s) (n * size E)) buffer)) sources
      ∙ ap (λ (d : ℕ). converted_records S D n (readings S D buffer) background ++ (replicate (n * size S - n * d) 0 ++ drop (max (n * size S) (n * d)) buffer)) destinations
