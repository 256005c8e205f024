-- A column of an enum: the turns of the loops over its numbers, and the column loaded, translated and stored. Assumes nothing.
use Rattle.std.proofs.Common.{◌≡◌, ℕ, ◌+◌, ◌*◌, ◌/◌, ◌%◌, ◌^◌, ◌<◌, ◌≤◌, List, length, get_or, set, refl, ap, ◌∙◌, mul-le-mul_right, mod-eq_of_lt, arith, length-set}
use lib.Bits.{bit_and}
use Rattle.column_words.specs.declared.Words.{Words}
use Rattle.column_words.specs.Words.{Fits}
use Rattle.blocks.specs.Blocks.{sum_to, each_record, container_in, merge_in}
use Rattle.blocks.proofs.Turns.{set_below, set_ahead, sum_start, sum_next}
use Rattle.blocks.proofs.Columns.{each_same, sum_same}
use Rattle.symbol_columns.specs.Tables.{raw_by, out_in, none_in, symbol_in, missing_in, symbol_by, missing_by, Usable}
use Rattle.symbol_columns.specs.Columns.{each_symbol, raised_symbols}

-- ---- the place of the destination's bits

module _ (out into up ones : ℕ) (most : out ≤ into) (fits : into * 2 ^ up + ones < 2 ^ 64) where
  placed_same : (out * 2 ^ up % 2 ^ 64 ≡ out * 2 ^ up) × (out * 2 ^ up + ones < 2 ^ 64)
  placed_same =
      let less : out * 2 ^ up ≤ into * 2 ^ up = mul-le-mul_right (2 ^ up) most in
      (mod-eq_of_lt (omega arith), omega arith)

  pub placed_fits : out * 2 ^ up % 2 ^ 64 + ones < 2 ^ 64
  placed_fits = rw placed_same.0 placed_same.1

  pub placed_is : out * 2 ^ up % 2 ^ 64 + ones ≡ out * 2 ^ up + ones
  placed_is = ap (λ (x : ℕ). x + ones) placed_same.0

-- ---- the turns of a loop: of the numbers t₀ the first i are translated, those from i on as they were, and those without a symbol counted

abbrev pub Translated : (g f : ℕ → ℕ) → List ℕ → List ℕ → ℕ → ℕ → Type 0
Translated g f t₀ t i raised =
    (length t ≡ length t₀) × ((j : ℕ) → j < i → get_or t j 0 ≡ g (get_or t₀ j 0)) × ((j : ℕ) → i ≤ j → get_or t j 0 ≡ get_or t₀ j 0)
    × (raised ≡ sum_to (λ j. f (get_or t₀ j 0)) i) × (raised ≤ i)

pub translated_start : (g f : ℕ → ℕ) (t : List ℕ) → Translated g f t t 0 0
translated_start g f t = (refl, (λ j h. absurd (omega arith)), (λ j h. refl), sum_start (λ j. f (get_or t j 0)), omega arith)

module _ (table : List ℕ) (shift mask into up ones : ℕ) where
  abbrev pub Halfway : List ℕ → List ℕ → ℕ → ℕ → Type 0
  Halfway = Translated (symbol_in table shift mask into up ones) (missing_in table shift mask)

  module _ (u : Usable table into) where
    -- bits of the destination have a place there
    pub has_place : up < 64 → into * 2 ^ up + ones < 2 ^ 64 → {out : ℕ} (raw : ℕ) → out ≡ out_in table into raw → (out ≤ into) × (up < 64) × (into * 2 ^ up + ones < 2 ^ 64)
    has_place high fits raw e = (rw e (u.out raw), high, fits)

    pub at_most_one : {none : ℕ} (raw : ℕ) → none ≡ none_in table raw → none ≤ 1
    at_most_one raw e = rw e (u.none raw)

    module _ (t₀ t : List ℕ) (i raised : ℕ) (l : i < length t) (h : Halfway t₀ t i raised) {raw out none r : ℕ} (er : raw ≡ bit_and (get_or t i 0 / 2 ^ shift) mask)
        (eo : out ≡ out_in table into raw) (en : none ≡ none_in table raw) (ep : r ≡ out * 2 ^ up + ones) where
      pub translated_turn : Halfway t₀ (set t i r) (i + 1) (raised + none)
      translated_turn =
          let same : get_or t i 0 ≡ get_or t₀ i 0 = h.2 i (omega arith) in
          let bits : raw ≡ bit_and (get_or t₀ i 0 / 2 ^ shift) mask = er ∙ ap (λ (x : ℕ). bit_and (x / 2 ^ shift) mask) same in
          let one : r ≡ symbol_in table shift mask into up ones (get_or t₀ i 0) = ep ∙ ap (λ (x : ℕ). x * 2 ^ up + ones) (eo ∙ ap (out_in table into) bits) in
          let few : none ≤ 1 = at_most_one raw en in (
            simp length-set h.0,
            set_below (λ j. symbol_in table shift mask into up ones (get_or t₀ j 0)) i t r l h.1 one,
            set_ahead t₀ t i r h.2,
            sum_next (λ j. missing_in table shift mask (get_or t₀ j 0)) i raised none h.3 (en ∙ ap (none_in table) bits),
            omega (arith, h.4),
          )

  pub translated_end : (t₀ t : List ℕ) {i count raised : ℕ} → i ≡ count → Halfway t₀ t i raised
      → ((j : ℕ) → j < count → get_or t j 0 ≡ symbol_in table shift mask into up ones (get_or t₀ j 0)) × (raised ≡ sum_to (λ j. missing_in table shift mask (get_or t₀ j 0)) count) × (raised ≤ count)
  translated_end t₀ t e h = rw (← e) (h.1, h.3, h.4)

module _ (table : List ℕ) (w : Words) where
  -- the numbers are those that the words of the two layouts make
  pub translated_by : (t₀ t : List ℕ) {count raised : ℕ}
      → ((j : ℕ) → j < count → get_or t j 0 ≡ symbol_in table w.shift w.mask w.into w.up w.ones (get_or t₀ j 0)) × (raised ≡ sum_to (λ j. missing_in table w.shift w.mask (get_or t₀ j 0)) count)
      × (raised ≤ count)
      → ((j : ℕ) → j < count → get_or t j 0 ≡ symbol_by table w (get_or t₀ j 0)) × (raised ≡ sum_to (λ j. missing_by table w (get_or t₀ j 0)) count) × (raised ≤ count)
  unfolding symbol_by missing_by
  translated_by t₀ t h = h

  module _ (u : Usable table w.into) (f : Fits 64 w) where
    -- there is room for the background's bits
    symbol_room : (x : ℕ) → symbol_by table w x + w.keep < 2 ^ 64
    unfolding symbol_by
    symbol_room x =
        let less : out_in table w.into (raw_by w x) * 2 ^ w.up ≤ w.into * 2 ^ w.up = mul-le-mul_right (2 ^ w.up) (u.out (raw_by w x)) in
        omega (arith, f.sum)

    pub column_room : (k : ℕ) (t v : List ℕ) → ((i : ℕ) → i < k → get_or v i 0 ≡ symbol_by table w (get_or t i 0)) → (i : ℕ) → i < k → get_or v i 0 + w.keep < 2 ^ 64
    column_room k t v made i h = rw (made i h) (symbol_room (get_or t i 0))

    -- there is room for the destination's bits, and where they are the lowest
    pub words_room : w.into * 2 ^ w.up + w.ones < 2 ^ 64
    words_room = omega (arith, f.sum)

    pub lowest_room : w.up ≡ 0 → w.into + w.ones < 2 ^ 64
    lowest_room e =
        let room : w.into * 2 ^ 0 + w.ones < 2 ^ 64 = rw e at words_room in
        omega (arith, room)

    -- by the words of a loop without a shift
    pub translated_lowest : (t₀ t : List ℕ) {count raised : ℕ} → w.shift ≡ 0 → w.up ≡ 0
        → ((j : ℕ) → j < count → get_or t j 0 ≡ symbol_in table 0 w.mask w.into 0 w.ones (get_or t₀ j 0)) × (raised ≡ sum_to (λ j. missing_in table 0 w.mask (get_or t₀ j 0)) count) × (raised ≤ count)
        → ((j : ℕ) → j < count → get_or t j 0 ≡ symbol_by table w (get_or t₀ j 0)) × (raised ≡ sum_to (λ j. missing_by table w (get_or t₀ j 0)) count) × (raised ≤ count)
    translated_lowest t₀ t down up h = translated_by t₀ t (rw (down, up) h)

-- ---- a column

module _ (table : List ℕ) (w : Words) (k : ℕ) (t : List ℕ) (a s : ℕ) (src : List ℕ)
    (loaded : (i : ℕ) → i < k → get_or t i 0 ≡ container_in w.source_order w.source_size a s src i) where
  pub column_raised : sum_to (λ i. missing_by table w (get_or t i 0)) k ≡ raised_symbols table w a s src k
  column_raised =
      sum_same (λ i. missing_by table w (get_or t i 0)) (λ i. missing_by table w (container_in w.source_order w.source_size a s src i)) k
      (λ i h. ap (missing_by table w) (loaded i h))

  column_made : (v : List ℕ) → ((i : ℕ) → i < k → get_or v i 0 ≡ symbol_by table w (get_or t i 0)) → (b d : ℕ) (dst : List ℕ)
      → each_record (λ i x. merge_in w.order w.size b w.keep (get_or v i 0) x) d k dst ≡ each_symbol table w b a s d src k dst
  column_made v made b d dst =
      each_same (λ i x. merge_in w.order w.size b w.keep (get_or v i 0) x)
      (λ i x. merge_in w.order w.size b w.keep (symbol_by table w (container_in w.source_order w.source_size a s src i)) x) d k dst
      (λ i h x. ap (λ (y : ℕ). merge_in w.order w.size b w.keep y x) (made i h ∙ ap (symbol_by table w) (loaded i h)))

  pub column_is : (v : List ℕ) (b d : ℕ) (dst : List ℕ) {out : List ℕ} {r : ℕ} → out ≡ each_record (λ i x. merge_in w.order w.size b w.keep (get_or v i 0) x) d k dst
      → ((i : ℕ) → i < k → get_or v i 0 ≡ symbol_by table w (get_or t i 0)) × (r ≡ sum_to (λ i. missing_by table w (get_or t i 0)) k) × (r ≤ k)
      → (out ≡ each_symbol table w b a s d src k dst) × (r ≡ raised_symbols table w a s src k) × (r ≤ k)
  column_is v b d dst e made = (e ∙ column_made v made.0 b d dst, made.1 ∙ column_raised, made.2)
