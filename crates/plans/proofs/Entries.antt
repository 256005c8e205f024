-- The entries that a plan's words stand for, one by one: what a loop over them needs. Assumes nothing.
use mathlib.Core.Path.{◌≡◌, refl, sym, ap, ◌∙◌}
use mathlib.Core.Logic.{⊎_elim}
use mathlib.Core.List.{List, [], ◌∷◌, ◌++◌}
use Prim.Native.Nat.{ℕ, zero, suc, ◌+◌, ◌*◌, ◌-◌, ◌/◌, ◌%◌, ◌≤◌, ◌<◌}
use native.Mathlib.Nat.{eq-or-lt_of_le, le_refl}
use native.Mathlib.Omega.{arith}
use lib.ListN.{length, get_or}
use Rattle.std.specs.Prelude.{Some, None}
use Rattle.answer.specs.declared.Given.{Given}
use Rattle.number.specs.Place.{stored}
use Rattle.table.specs.Table.{layout_at}
use Rattle.table.specs.Words.{Reads}
use Rattle.plans.specs.declared.PlanEntry.{PlanEntry}
use Rattle.plans.specs.declared.LeafException.{LeafException}
use Rattle.records.specs.Leaf.{number_in, given_of}
use Rattle.records.proofs.OneLeaf.{given_matched}
use Rattle.records.specs.Record.{raises}
use Rattle.records.specs.Plan.{Entry, becomes, written, raised_by, or_else, first_by, Sound, AllSound}
use Rattle.plans.specs.PlanWords.{leaf_of_type, to_byte, from_byte, source_type_of, destination_type_of, entry_at, entries_from, entries_at, words_place, Pair, pair_becomes, Ready, entries_of}
use Rattle.plans.specs.PlanEntries.{words_at, raising_of, EntryReady}
use Rattle.plans.proofs.LeafSteps.{leaf_layout}

-- ---- the list of entries

module _ (plan ws ts wd td : List ℕ) where
  pub entries_next : (n i : ℕ) → i < n
      → entries_from plan ws ts wd td i (n - i) ≡ entry_at plan ws ts wd td i ∷ entries_from plan ws ts wd td (i + 1) (n - (i + 1))
  unfolding entries_from
  entries_next n i h = let e : n - i ≡ suc (n - (i + 1)) = omega arith in rw e

  pub entries_end : (n i : ℕ) → n ≤ i → entries_from plan ws ts wd td i (n - i) ≡ []
  unfolding entries_from
  entries_end n i h = let e : n - i ≡ 0 = omega arith in rw e

  entries_more : (i n : ℕ) → entries_from plan ws ts wd td i (suc n) ≡ entries_from plan ws ts wd td i n ++ (entry_at plan ws ts wd td (i + n) ∷ [])
  unfolding entries_from
  entries_more i zero = let e : i + 0 ≡ i = omega arith in rw e
  entries_more i (suc n) =
      let e : i + suc n ≡ i + 1 + n = omega arith in
      rw e (ap (λ (es : List Entry). entry_at plan ws ts wd td i ∷ es) (entries_more (i + 1) n))

  -- one entry more stands at the end: what the builder of a plan needs
  pub entries_last : (n : ℕ) → entries_at plan (suc n) ws ts wd td ≡ entries_at plan n ws ts wd td ++ (entry_at plan ws ts wd td n ∷ [])
  entries_last n = let e : 0 + n ≡ n = omega arith in rw e at (entries_more 0 n)

  pub sound_at : (s d k i j : ℕ) → AllSound s d (entries_from plan ws ts wd td i k) → i ≤ j → j < i + k → Sound s d (entry_at plan ws ts wd td j)
  unfolding entries_from
  sound_at s d zero i j h low high = absurd (omega arith)
  sound_at s d (suc k) i j h low high =
      ⊎_elim (λ (e : i ≡ j). rw (← e) h.0) (λ (l : i < j). sound_at s d k (i + 1) j h.1 (omega arith) (omega arith)) (eq-or-lt_of_le low)

-- ---- entry i of a plan that is ready

module _ (s d : ℕ) (plan : List ℕ) (n : ℕ) (ws wd words : List ℕ) (p : Ready s d plan n ws wd words) (i : ℕ) (h : i < n) where
  sound : Sound s d (entry_at plan ws p.source_text wd p.destination_text i)
  sound = sound_at plan ws p.source_text wd p.destination_text s d n 0 i p.sound (omega arith) (omega arith)

  pair : Pair (source_type_of plan i) (destination_type_of plan i) ws wd words (words_place i)
  pair =
      record {
        source_text = p.source_text;
        destination_text = p.destination_text;
        source = sound.source;
        destination = sound.destination;
        source_rows = p.source_rows i h;
        destination_rows = p.destination_rows i h;
        entry = p.entry i h;
        names = p.names i h;
      }

  pub entry_room_lem : 2 * i + 2 ≤ length plan
  entry_room_lem = omega (arith, p.room)

  pub entry_ready : (e : PlanEntry) → e ≡ words_at plan i → EntryReady s d e i ws wd words
  entry_ready e q =
      rw q (record {
        pair = pair;
        read = rw (← (leaf_layout ws p.source_text (source_type_of plan i))) sound.read;
        write = rw (← (leaf_layout wd p.destination_text (destination_type_of plan i))) sound.write;
        few = omega (arith, p.most);
        room = omega (arith, p.long);
      })

-- ---- a record written entry by entry

-- from entry i on the rest is to be written over dst, and to be counted
abbrev pub Left : {s d : ℕ} {plan : List ℕ} {n : ℕ} {ws wd words : List ℕ} → Ready s d plan n ws wd words → List ℕ → List ℕ → ℕ → List ℕ → ℕ → Type 0
Left {plan = plan} {n = n} {ws = ws} {wd = wd} p src dst₀ i dst raised =
    let rest = entries_from plan ws p.source_text wd p.destination_text i (n - i) in
    (written rest src dst ≡ written (entries_of p) src dst₀) × (raised + raised_by rest src ≡ raised_by (entries_of p) src)

module _ (s d : ℕ) (plan : List ℕ) (n : ℕ) (ws wd words : List ℕ) (p : Ready s d plan n ws wd words) (src dst₀ : List ℕ) where
  pub left_start : Left p src dst₀ 0 dst₀ 0
  left_start = let e : n - 0 ≡ n = omega arith in rw e (refl, omega arith)

  pub left_turn : (i raised kind : ℕ) (dst out : List ℕ) {one : ℕ} {e : PlanEntry} → i < n → Left p src dst₀ i dst raised → e ≡ words_at plan i
      → ((q : Pair e.source e.destination ws wd words (words_place i))
      → (kind ≡ (pair_becomes q e.from src).kind) × (out ≡ stored (layout_at wd e.destination) e.to (pair_becomes q e.from src).raw dst))
      → one ≡ raises kind → Left p src dst₀ (i + 1) out (raised + one)
  unfolding written raised_by pair
  left_turn i raised kind dst out {one} {e} h left q leaf c =
      let here : Entry = entry_at plan ws p.source_text wd p.destination_text i in
      let g : (kind ≡ (becomes here src).kind) × (out ≡ stored (layout_at wd (destination_type_of plan i)) (to_byte plan i) (becomes here src).raw dst) =
      (rw q at leaf) (pair s d plan n ws wd words p i h) in
      let next = rw (entries_next plan ws p.source_text wd p.destination_text n i h) at left in
      (rw (g.1, ← (leaf_layout wd p.destination_text (destination_type_of plan i))) next.0, rw (c, g.0) (omega (arith, next.1)))

  pub left_end : (i raised : ℕ) (dst : List ℕ) → n ≤ i → Left p src dst₀ i dst raised → (dst ≡ written (entries_of p) src dst₀) × (raised ≡ raised_by (entries_of p) src)
  unfolding written raised_by
  left_end i raised dst h left =
      let last = rw (entries_end plan ws p.source_text wd p.destination_text n i h) at left in
      (last.0, omega (arith, last.1))

-- ---- the first that raises

abbrev pub leaf_exception : ℕ → ℕ → Given → LeafException
leaf_exception b kind given = record { byte = b; kind = kind; given = given }

module _ (s d : ℕ) (plan : List ℕ) (n : ℕ) (ws wd words : List ℕ) (p : Ready s d plan n ws wd words) (src : List ℕ) where
  -- none of the entries before i raises
  abbrev rest : ℕ → List Entry
  rest i = entries_from plan ws p.source_text wd p.destination_text i (n - i)

  pub first_start : first_by (entries_of p) src ≡ first_by (entries_from plan ws p.source_text wd p.destination_text 0 (n - 0)) src
  first_start = let e : n - 0 ≡ n = omega arith in rw e

  -- entry i, and what its leaf was given
  abbrev here : ℕ → Entry
  here i = entry_at plan ws p.source_text wd p.destination_text i

  first_here : (i kind : ℕ) {e : PlanEntry} → i < n → e ≡ words_at plan i → ((q : Pair e.source e.destination ws wd words (words_place i)) → kind ≡ (pair_becomes q e.from src).kind)
      → first_by (rest i) src ≡ or_else e.to kind (becomes (here i) src).given (first_by (rest (i + 1)) src)
  unfolding first_by pair
  first_here i kind {e} h q leaf =
      let g : kind ≡ (becomes (here i) src).kind = (rw q at leaf) (pair s d plan n ws wd words p i h) in
      rw (entries_next plan ws p.source_text wd p.destination_text n i h, q, g)

  pub first_turn : (i kind : ℕ) {e : PlanEntry} → i < n → first_by (entries_of p) src ≡ first_by (rest i) src → e ≡ words_at plan i
      → ((q : Pair e.source e.destination ws wd words (words_place i)) → kind ≡ (pair_becomes q e.from src).kind) → kind ≡ 0
      → first_by (entries_of p) src ≡ first_by (rest (i + 1)) src
  first_turn i kind {e} h first q leaf z = first ∙ first_here i kind h q leaf ∙ rw z

  pub first_found : (i kind : ℕ) {e : PlanEntry} {given : Given} → i < n → first_by (entries_of p) src ≡ first_by (rest i) src → e ≡ words_at plan i
      → ((q : Pair e.source e.destination ws wd words (words_place i)) → kind ≡ (pair_becomes q e.from src).kind) → (kind ≡ 0 → ⊥)
      → ((ts : List ℕ) → given ≡ given_of (leaf_of_type ws ts e.source) (number_in (leaf_of_type ws ts e.source) e.from src))
      → Some (leaf_exception e.to kind given) ≡ raising_of (first_by (entries_of p) src)
  first_found i kind {e} {given} h first q leaf z named = rw (first, first_here i kind h q leaf) (go kind z)
    where
      same : given ≡ (becomes (here i) src).given
      same =
          (rw q at named) p.source_text
          ∙ sym (given_matched (here i).source (here i).destination (number_in (here i).source (here i).from src))

      go : (k : ℕ) → (k ≡ 0 → ⊥) → Some (leaf_exception e.to k given) ≡ raising_of (or_else e.to k (becomes (here i) src).given (first_by (rest (i + 1)) src))
      go zero f = absurd (f refl)
      go (suc k) f = rw same

  pub first_end : (i : ℕ) → n ≤ i → first_by (entries_of p) src ≡ first_by (rest i) src → None ≡ raising_of (first_by (entries_of p) src)
  unfolding first_by
  first_end i h first = rw (first, entries_end plan ws p.source_text wd p.destination_text n i h)

-- ---- words, and a count of one

pub words_are : (plan : List ℕ) (i : ℕ) {places types : ℕ} → Reads (get_or plan (2 * i) 0) places → Reads (get_or plan (2 * i + 1) 0) types
    → (◌≡◌ {A = PlanEntry} (record { to = places / 4096; from = places % 4096; source = types / 64; destination = types % 64 }) (words_at plan i))
    × (places / 4096 < 4294967296)
unfolding to_byte from_byte source_type_of destination_type_of
words_are plan i rp rt = (rw (← rp.is, ← rt.is), omega (arith, rp.small))

pub raises_one : (k : ℕ) → (k ≡ 0 → ⊥) → (1 ≡ raises k) × (1 ≤ 1)
raises_one zero f = absurd (f refl)
raises_one (suc k) f = (refl, le_refl 1)
