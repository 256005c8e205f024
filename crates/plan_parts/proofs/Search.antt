-- What the comparisons of a plan's entries say of its parts. Assumes nothing.
use mathlib.Core.Path.{◌≡◌, refl, sym, ap, ◌∙◌}
use mathlib.Core.Logic.{⊎_elim}
use mathlib.Core.List.{List}
use Prim.Native.Nat.{ℕ, ◌+◌, ◌*◌, ◌/◌, ◌%◌, ◌≤◌, ◌<◌}
use native.Mathlib.Nat.{add-zero, div-one, div-add-mod, div-le_self, le-div_iff_mul-le, le_trans, eq-or-lt_of_le, le_of_suc-le-suc}
use native.Mathlib.Numerals.{add-one}
use native.Mathlib.Omega.{arith}
use Rattle.table.specs.Table.{type_word, layout_at}
use Rattle.plans.specs.declared.PlanEntry.{PlanEntry}
use Rattle.plans.specs.PlanWords.{Ready}
use Rattle.plans.specs.PlanEntries.{words_at}
use Rattle.plans.proofs.Entries.{entry_ready}
use Rattle.block_parts.specs.Parts.{SameWords, InParts}
use Rattle.plan_parts.specs.Again.{Again, Lies, Repeats, AllLie}

-- ---- one entry

pub again_is : (plan : List ℕ) (e a b : ℕ) (ws wd : List ℕ) (i : ℕ) {x y : PlanEntry} → x ≡ words_at plan i → y ≡ words_at plan (i + e) → y.to ≡ x.to + b → y.from ≡ x.from + a
    → SameWords ws y.source x.source → SameWords wd y.destination x.destination → Again plan e a b ws wd i
again_is plan e a b ws wd i ex ey to from source destination =
    record { to = rw (ex, ey) at to; from = rw (ex, ey) at from; source = rw (ex, ey) at source; destination = rw (ex, ey) at destination }

pub lies_is : (plan : List ℕ) (a b : ℕ) (ws wd : List ℕ) (i : ℕ) {x : PlanEntry} {s d : ℕ} → x ≡ words_at plan i → s ≡ type_word ws x.source 1 → d ≡ type_word wd x.destination 1
    → x.from + s ≤ a → x.to + d ≤ b → Lies plan a b ws wd i
unfolding layout_at
lies_is plan a b ws wd i ex es ed read write = record { read = rw (es, ex) at read; write = rw (ed, ex) at write }

-- ---- one entry more

pub one_more : (P : ℕ → Type 0) (i : ℕ) → ((j : ℕ) → j < i → P j) → P i → (j : ℕ) → j < i + 1 → P j
one_more P i below here j h = ⊎_elim (λ (e : j ≡ i). rw e here) (λ (l : j < i). below j l) (eq-or-lt_of_le (le_of_suc-le-suc (rw add-one at h)))

-- ---- numbers of parts

pub divides : (n m : ℕ) → n % m ≡ 0 → n ≡ m * (n / m)
divides n m z = sym (sym (add-zero (m * (n / m))) ∙ ap (λ (x : ℕ). m * (n / m) + x) (sym z) ∙ div-add-mod n m)

pub part_entries : (n m : ℕ) → n / m ≤ n
part_entries n m = div-le_self n m

pub parts_some : (n e : ℕ) → 1 ≤ e → 2 * e ≤ n → n ≤ 4096 → (1 ≤ n / e) × (n / e ≤ 4096)
parts_some n e some h most = ((le-div_iff_mul-le {k = e} {x = 1} {y = n} some).1 (omega arith), le_trans (div-le_self n e) most)

-- ---- a plan that repeats, and one that does not

pub parts_are : (m s d : ℕ) (plan : List ℕ) (n : ℕ) (ws wd : List ℕ) → 1 ≤ m → m ≤ 4096 → (s ≡ m * (s / m)) × (d ≡ m * (d / m)) × (n ≡ m * (n / m))
    → Repeats plan (n / m) (s / m) (d / m) ws wd n → AllLie plan (s / m) (d / m) ws wd (n / m) → InParts m (s / m) (d / m) (n / m) s d plan n ws wd
parts_are m s d plan n ws wd some few whole again lie =
    record {
      some = some;
      few = few;
      source = whole.0;
      destination = whole.1;
      entries = whole.2;
      to = λ i h. (again i h).to;
      from = λ i h. (again i h).from;
      sources = λ i h. (again i h).source;
      destinations = λ i h. (again i h).destination;
      read = λ i h. (lie i h).read;
      write = λ i h. (lie i h).write;
    }

one_part : (s d : ℕ) (plan : List ℕ) (n : ℕ) (ws wd words : List ℕ) → Ready s d plan n ws wd words → InParts 1 s d n s d plan n ws wd
one_part s d plan n ws wd words p =
    record {
      some = omega arith;
      few = omega arith;
      source = omega arith;
      destination = omega arith;
      entries = omega arith;
      to = λ i h. absurd (omega (arith, h));
      from = λ i h. absurd (omega (arith, h));
      sources = λ i h. absurd (omega (arith, h));
      destinations = λ i h. absurd (omega (arith, h));
      read = λ i h. (entry_ready s d plan n ws wd words p i h (words_at plan i) refl).read;
      write = λ i h. (entry_ready s d plan n ws wd words p i h (words_at plan i) refl).write;
    }

pub whole_part : {s d : ℕ} {plan : List ℕ} {n : ℕ} {ws wd words : List ℕ} → Ready s d plan n ws wd words → InParts 1 (s / 1) (d / 1) (n / 1) s d plan n ws wd
whole_part {s} {d} {plan} {n} {ws} {wd} {words} p = rw (div-one s, div-one d, div-one n) (one_part s d plan n ws wd words p)
