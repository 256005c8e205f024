-- What the column of an entry asks for, from a plan that is ready. Assumes nothing.
use mathlib.Core.Path.{◌≡◌, refl, sym, subst}
use mathlib.Core.List.{List}
use Prim.Native.Nat.{ℕ, ◌+◌, ◌<◌}
use native.Mathlib.Omega.{arith}
use Rattle.plans.specs.declared.PlanEntry.{PlanEntry}
use Rattle.plans.specs.PlanWords.{source_type_of, destination_type_of, Pair, Ready}
use Rattle.plans.specs.PlanEntries.{words_at, EntryReady}
use Rattle.plans.proofs.Entries.{entry_ready}
use Rattle.symbol_slots.specs.Tables.{TablesKept, HasColumn}
use Rattle.blocks.proofs.Over.{entry_pair, ByTexts, Over}

-- entry i with the plan's own texts, by which the tables are right
pub entry_by : {s d : ℕ} {plan : List ℕ} {n : ℕ} {ws wd words : List ℕ} (p : Ready s d plan n ws wd words) (i : ℕ) → i < n → {e : PlanEntry} → e ≡ words_at plan i
    → (tables : List ℕ) → TablesKept tables ws p.source_text wd p.destination_text
    → (q : EntryReady s d e i ws wd words) × TablesKept tables ws q.pair.source_text wd q.pair.destination_text
unfolding entry_pair
entry_by {s} {d} {plan} {n} {ws} {wd} {words} p i h is tables kept =
    let ready = entry_ready s d plan n ws wd words p i h (words_at plan i) refl in
    subst (λ (x : PlanEntry). (q : EntryReady s d x i ws wd words) × TablesKept tables ws q.pair.source_text wd q.pair.destination_text) (sym is)
    (record { pair = entry_pair p i h; read = ready.read; write = ready.write; few = ready.few; room = ready.room }, kept)

pub column_by : (tables words : List ℕ) (k : ℕ) (plan : List ℕ) (i : ℕ) {e : PlanEntry} → e ≡ words_at plan i
    → HasColumn tables words k (source_type_of plan i) (destination_type_of plan i) → HasColumn tables words k e.source e.destination
column_by tables words k plan i is has = subst (λ (x : PlanEntry). HasColumn tables words k x.source x.destination) (sym is) has

pub kept_by : {s d : ℕ} {plan : List ℕ} {n : ℕ} {ws wd words : List ℕ} {f g k : ℕ} (p : Ready s d plan n ws wd words) (q : Pair f g ws wd words k) → ByTexts p q
    → (tables : List ℕ) → TablesKept tables ws p.source_text wd p.destination_text → TablesKept tables ws q.source_text wd q.destination_text
kept_by p q texts tables kept = rw (texts.0, texts.1) kept

-- where no entry was moved, the rest is what it was
pub over_still : {s d : ℕ} {plan : List ℕ} {n : ℕ} {ws wd words : List ℕ} (p : Ready s d plan n ws wd words) (src : List ℕ) (k : ℕ) (dst₀ : List ℕ) (i r : ℕ) (out : List ℕ) (raised : ℕ) → r ≡ 0
    → Over p src k dst₀ (i + r) out raised → Over p src k dst₀ i out raised
over_still p src k dst₀ i r out raised none left =
    let e : i + r ≡ i = omega arith in
    subst (λ (m : ℕ). Over p src k dst₀ m out raised) e left
