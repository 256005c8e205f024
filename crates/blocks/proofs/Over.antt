-- The columns of a plan's entries, one after the other: what the loop over them needs. Assumes nothing.
use mathlib.Core.Path.{◌≡◌, refl, sym, ap, subst, ◌∙◌}
use mathlib.Core.List.{List}
use Prim.Native.Nat.{ℕ, ◌+◌, ◌-◌, ◌≤◌, ◌<◌}
use native.Mathlib.Omega.{arith}
use Rattle.layout.specs.declared.Layout.{Layout}
use Rattle.number.specs.Place.{stored}
use Rattle.records.specs.Records.{record_at}
use Rattle.records.specs.Plan.{Entry, becomes, Sound}
use Rattle.plans.specs.declared.PlanEntry.{PlanEntry}
use Rattle.plans.specs.PlanWords.{source_type_of, destination_type_of, words_place, entry_at, entries_from, Pair, Ready, entries_of}
use Rattle.plans.specs.PlanEntries.{words_at}
use Rattle.plans.proofs.LeafSteps.{leaf_layout}
use Rattle.plans.proofs.Entries.{entries_next, entries_end, sound_at}
use Rattle.blocks.specs.Blocks.{each_record, each_entry, each_of, raised_each, raised_over, each_pair, raised_pairs}

-- the types of entry j of a plan that is ready, by the plan's own texts
unfoldable pub entry_pair : {s d : ℕ} {plan : List ℕ} {n : ℕ} {ws wd words : List ℕ} → Ready s d plan n ws wd words → (j : ℕ) → j < n
    → Pair (source_type_of plan j) (destination_type_of plan j) ws wd words (words_place j)
entry_pair {s} {d} {plan} {n} {ws} {wd} p j h =
    let sound : Sound s d (entry_at plan ws p.source_text wd p.destination_text j) = sound_at plan ws p.source_text wd p.destination_text s d n 0 j p.sound (omega arith) (omega arith) in
    record {
      source_text = p.source_text;
      destination_text = p.destination_text;
      source = sound.source;
      destination = sound.destination;
      source_rows = p.source_rows j h;
      destination_rows = p.destination_rows j h;
      entry = p.entry j h;
      names = p.names j h;
    }

-- a pair of types by the plan's own texts
abbrev pub ByTexts : {s d : ℕ} {plan : List ℕ} {n : ℕ} {ws wd words : List ℕ} {f g k : ℕ} → Ready s d plan n ws wd words → Pair f g ws wd words k → Type 0
ByTexts p q = (q.source_text ≡ p.source_text) × (q.destination_text ≡ p.destination_text)

-- from entry j on the rest is to be counted, in k records
abbrev pub Counts : {s d : ℕ} {plan : List ℕ} {n : ℕ} {ws wd words : List ℕ} → Ready s d plan n ws wd words → List ℕ → ℕ → ℕ → ℕ → Type 0
Counts {s} {d} {plan} {n} {ws} {wd} p src k j raised =
    raised + raised_over (entries_from plan ws p.source_text wd p.destination_text j (n - j)) s src k ≡ raised_over (entries_of p) s src k

-- and to be written over dst
abbrev pub Over : {s d : ℕ} {plan : List ℕ} {n : ℕ} {ws wd words : List ℕ} → Ready s d plan n ws wd words → List ℕ → ℕ → List ℕ → ℕ → List ℕ → ℕ → Type 0
Over {s} {d} {plan} {n} {ws} {wd} p src k dst₀ j dst raised =
    (each_of (entries_from plan ws p.source_text wd p.destination_text j (n - j)) s d src k dst ≡ each_of (entries_of p) s d src k dst₀) × Counts p src k j raised

module _ (s d : ℕ) (plan : List ℕ) (n : ℕ) (ws wd words : List ℕ) (p : Ready s d plan n ws wd words) (src : List ℕ) (k : ℕ) where
  pub count_start : Counts p src k 0 0
  count_start = let e : n - 0 ≡ n = omega arith in rw e (omega arith)

  pub count_turn : (j raised one : ℕ) {e : PlanEntry} → j < n → Counts p src k j raised → e ≡ words_at plan j
      → ((q : Pair e.source e.destination ws wd words (words_place j)) → ByTexts p q → one ≡ raised_pairs q e.from s src k) → Counts p src k (j + 1) (raised + one)
  unfolding raised_over entry_pair
  count_turn j raised one {e} h left q call =
      let here : Entry = entry_at plan ws p.source_text wd p.destination_text j in
      let count : one ≡ raised_each here s src k = subst (λ (x : PlanEntry). (r : Pair x.source x.destination ws wd words (words_place j)) → ByTexts p r → one ≡ raised_pairs r x.from s src k) q call (entry_pair p j h) (refl, refl) in
      let next = rw (entries_next plan ws p.source_text wd p.destination_text n j h) at left in
      rw count (omega (arith, next))

  pub count_end : (j raised : ℕ) → n ≤ j → Counts p src k j raised → raised ≡ raised_over (entries_of p) s src k
  unfolding raised_over
  count_end j raised h left =
      let last = rw (entries_end plan ws p.source_text wd p.destination_text n j h) at left in
      omega (arith, last)

  module _ (dst₀ : List ℕ) where
    pub over_start : Over p src k dst₀ 0 dst₀ 0
    over_start = let e : n - 0 ≡ n = omega arith in (rw e refl, count_start)

    pub over_turn : (j raised one : ℕ) (dst out : List ℕ) {e : PlanEntry} → j < n → Over p src k dst₀ j dst raised → e ≡ words_at plan j
        → ((q : Pair e.source e.destination ws wd words (words_place j)) → ByTexts p q
        → (out ≡ each_pair q e.to e.from s d src k dst) × (one ≡ raised_pairs q e.from s src k)) → Over p src k dst₀ (j + 1) out (raised + one)
    unfolding each_of entry_pair
    over_turn j raised one dst out {e} h left q call =
        let here : Entry = entry_at plan ws p.source_text wd p.destination_text j in
        let g =
        subst (λ (x : PlanEntry). (r : Pair x.source x.destination ws wd words (words_place j)) → ByTexts p r → (out ≡ each_pair r x.to x.from s d src k dst) × (one ≡ raised_pairs r x.from s src k)) q call
        (entry_pair p j h) (refl, refl) in
        let next = rw (entries_next plan ws p.source_text wd p.destination_text n j h) at left.0 in
        let made : out ≡ each_entry here s d src k dst =
        g.0 ∙ ap (λ (l : Layout). each_record (λ i x. stored l here.to (becomes here (record_at s i src)).raw x) d k dst) (sym (leaf_layout wd p.destination_text (destination_type_of plan j))) in
        (rw made next, count_turn j raised one h left.1 q (λ r t. (call r t).1))

    pub over_end : (j raised : ℕ) (dst : List ℕ) → n ≤ j → Over p src k dst₀ j dst raised → (dst ≡ each_of (entries_of p) s d src k dst₀) × (raised ≡ raised_over (entries_of p) s src k)
    unfolding each_of
    over_end j raised dst h left = (rw (entries_end plan ws p.source_text wd p.destination_text n j h) at left.0, count_end j raised h left.1)
