-- Two bytes of BE, read in LE and turned round. Assumes nothing.
use mathlib.Core.Path.{◌≡◌, sym, ap, ◌∙◌}
use mathlib.Core.List.{List}
use Prim.Native.Nat.{ℕ, ◌+◌, ◌*◌, ◌-◌, ◌/◌, ◌%◌, ◌≤◌, ◌<◌}
use native.Mathlib.Omega.{arith}
use lib.ListN.{length, length-set, get_or, set, take, drop}
use lib.Seq.{drop-drop}
use Rattle.bits.specs.declared.Order.{Order}
use Rattle.bits.specs.declared.Order.TheVariants.{LE, BE}
use Rattle.bits.specs.Container.{container}
use Rattle.bits.proofs.Words.{by_bytes}
use Rattle.easy.proofs.Lent.{tail_lent}
use Rattle.blocks.specs.Blocks.{container_in}
use Rattle.blocks.proofs.Turns.{Loaded, set_below, set_ahead}

-- the container of two bytes of s in BE, of the one in LE
two_turned : (s : List ℕ) (at : ℕ) → at + 2 ≤ length s → get_or s at 0 < 256 → get_or s (at + 1) 0 < 256
    → (let c = container LE (take 2 (drop at s)) in c % 256 * 256 + c / 256) ≡ container BE (take 2 (drop at s))
two_turned s at h a b = omega (arith, by_bytes LE 2 s at h, by_bytes BE 2 s at h)

-- the container was read in what is lent from record i on, in LE, and turned round
pub turned_turn : (a s : ℕ) (src : List ℕ) (i : ℕ) (t : List ℕ) (c r : ℕ) → i < length t → i * s + a + 2 ≤ length src
    → get_or src (i * s + a) 0 < 256 → get_or src (i * s + a + 1) 0 < 256 → Loaded BE 2 a s src i t
    → c ≡ container LE (take 2 (drop a (take (length src - i * s) (drop (i * s) src)))) → r ≡ c % 256 * 256 + c / 256
    → Loaded BE 2 a s src (i + 1) (set t i r)
turned_turn a s src i t c r h room x y below e q =
    let place : (order : Order) → container order (take 2 (drop a (drop (i * s) src))) ≡ container order (take 2 (drop (i * s + a) src)) =
    (λ order. ap (λ (l : List ℕ). container order (take 2 l)) (drop-drop a (i * s) src)) in
    let read : c ≡ container LE (take 2 (drop (i * s + a) src)) =
    e ∙ ap (λ (l : List ℕ). container LE (take 2 (drop a l))) (tail_lent (i * s) src) ∙ place LE in
    set_below (container_in BE 2 a s src) i t r h below
    (q ∙ ap (λ (v : ℕ). v % 256 * 256 + v / 256) read ∙ two_turned src (i * s + a) room x y ∙ sym (place BE))

-- the number of the container in LE, turned round once it is there
pub turned_back : (a s : ℕ) (src : List ℕ) (i : ℕ) (c : ℕ) → i * s + a + 2 ≤ length src → get_or src (i * s + a) 0 < 256 → get_or src (i * s + a + 1) 0 < 256
    → c ≡ container_in LE 2 a s src i → c % 256 * 256 + c / 256 ≡ container_in BE 2 a s src i
turned_back a s src i c room x y e =
    let place : (order : Order) → container order (take 2 (drop a (drop (i * s) src))) ≡ container order (take 2 (drop (i * s + a) src)) =
    (λ order. ap (λ (l : List ℕ). container order (take 2 l)) (drop-drop a (i * s) src)) in
    ap (λ (v : ℕ). v % 256 * 256 + v / 256) (e ∙ place LE) ∙ two_turned src (i * s + a) room x y ∙ sym (place BE)

-- ---- numbers turned round where they are: the first i are, those from i on as they were

abbrev pub Turned : List ℕ → List ℕ → ℕ → Type 0
Turned t₀ t i = (length t ≡ length t₀) × ((j : ℕ) → j < i → get_or t j 0 ≡ get_or t₀ j 0 % 256 * 256 + get_or t₀ j 0 / 256) × ((j : ℕ) → i ≤ j → get_or t j 0 ≡ get_or t₀ j 0)

pub turned_next : (t₀ t : List ℕ) (i r : ℕ) → Turned t₀ t i → i < length t → r ≡ get_or t i 0 % 256 * 256 + get_or t i 0 / 256 → Turned t₀ (set t i r) (i + 1)
turned_next t₀ t i r h l e =
    let one : r ≡ get_or t₀ i 0 % 256 * 256 + get_or t₀ i 0 / 256 = e ∙ ap (λ (v : ℕ). v % 256 * 256 + v / 256) (h.2 i (omega arith)) in
    (length-set t i r ∙ h.0, set_below (λ j. get_or t₀ j 0 % 256 * 256 + get_or t₀ j 0 / 256) i t r l h.1 one, set_ahead t₀ t i r h.2)
