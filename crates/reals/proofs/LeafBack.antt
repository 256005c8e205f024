-- The way of one leaf between int and real and back, over the int's layout. A real leaf's number is its 64 bits. Assumes nothing.
use mathlib.Core.Path.{◌≡◌, ap, ◌∙◌}
use mathlib.Core.Bool.{true}
use Prim.Native.Nat.{ℕ, ◌^◌, ◌<◌}
use lib.IntN.{ℤ}
use Rattle.layout.specs.declared.Layout.{Layout}
use Rattle.layout.specs.Layout.{Valid}
use Rattle.answer.specs.declared.Given.TheVariants.{Real}
use Rattle.number.specs.declared.Fitted.{Fitted}
use Rattle.number.specs.Number.{valued, fitted}
use Rattle.number.proofs.RoundTrip.{fitted_back}
use Rattle.reals.specs.Nearest.{nearest}
use Rattle.reals.specs.Compare.{magnitude, equals}
use Rattle.reals.specs.Convert.{int_to_real, real_to_int}
use Rattle.reals.proofs.Ends.{fits_magnitude}
use Rattle.reals.proofs.Back as back
use Rattle.reals.proofs.Back.{exact_when, int_back, real_back, int_real_raw, real_int_worth, real_int_lt}

-- ---- int to real, for a number of the layout l
module _ (l : Layout) (z : ℤ) (v : Valid l) (in_range : (fitted l z).kind ≡ 0) where
  pub int_real_small : magnitude z < 2 ^ 64
  int_real_small = fits_magnitude l.signed l.precision z v.some v.most in_range

  pub int_real_lt : (int_to_real z).raw < 2 ^ 64
  int_real_lt = int_real_raw z int_real_small

  -- where nothing is raised, the double that arrives is worth the number
  pub int_real_arrives : (int_to_real z).kind ≡ 0 → equals (int_to_real z).raw z ≡ true
  unfolding int_to_real
  int_real_arrives e = exact_when z e

  -- and on its way back it raises nothing and becomes the number
  pub int_real_back : (int_to_real z).kind ≡ 0
      → ((real_to_int l (int_to_real z).raw).kind ≡ 0) × (valued l.signed l.precision (real_to_int l (int_to_real z).raw).raw ≡ z)
  unfolding int_to_real
  int_real_back e =
      let q = int_back l.signed l.precision z int_real_small e in
      let w = ap (λ (f : Fitted). valued l.signed l.precision f.raw) q in
      (ap (λ (f : Fitted). f.kind) q ∙ in_range, w ∙ fitted_back l.signed l.precision z v.some in_range)

-- the same by the significant bits r of the int leaf
pub int_leaf_back : (l : Layout) (r : ℕ) → Valid l → r < 2 ^ l.precision → (int_to_real (valued l.signed l.precision r)).kind ≡ 0
    → let b = (int_to_real (valued l.signed l.precision r)).raw in real_to_int l b ≡ record { raw = r; kind = 0; given = Real b }
int_leaf_back l r v h e = back.int_leaf_back l.signed l.precision r v.some v.most h e

-- different numbers become different doubles
pub ints_apart : (l : Layout) (z w : ℤ) → Valid l → (fitted l z).kind ≡ 0 → (fitted l w).kind ≡ 0 → (int_to_real z).kind ≡ 0 → (int_to_real w).kind ≡ 0
    → (int_to_real z).raw ≡ (int_to_real w).raw → z ≡ w
unfolding int_to_real
ints_apart l z w v h k e f q = back.ints_apart z w (int_real_small l z v h) (int_real_small l w v k) e f q

-- ---- real to int, into the layout l
pub real_int_fits : (l : Layout) (b : ℕ) → Valid l → (real_to_int l b).raw < 2 ^ l.precision
real_int_fits l b v = real_int_lt l.signed l.precision b v.some

module _ (l : Layout) (b : ℕ) (v : Valid l) (fits : b < 2 ^ 64) where
  -- where nothing is raised, the number that arrives is what the double is worth
  pub real_int_arrives : (real_to_int l b).kind ≡ 0 → equals b (valued l.signed l.precision (real_to_int l b).raw) ≡ true
  real_int_arrives e = real_int_worth l.signed l.precision b v.some v.most fits e

  -- and on its way back it raises nothing and becomes the very 64 bits
  pub real_int_back : (real_to_int l b).kind ≡ 0
      → let w = valued l.signed l.precision (real_to_int l b).raw in ((int_to_real w).kind ≡ 0) × ((int_to_real w).raw ≡ b)
  real_int_back e =
      let q = real_back l.signed l.precision b v.some v.most fits e in
      (ap (λ (f : Fitted). f.kind) q, ap (λ (f : Fitted). f.raw) q)

-- different doubles become different numbers
pub reals_apart : (l : Layout) (b c : ℕ) → Valid l → b < 2 ^ 64 → c < 2 ^ 64 → (real_to_int l b).kind ≡ 0 → (real_to_int l c).kind ≡ 0
    → (real_to_int l b).raw ≡ (real_to_int l c).raw → b ≡ c
reals_apart l b c v h k e f q = back.reals_apart l.signed l.precision b c v.some v.most h k e f q
