-- A plan, the words of its entries and the ids of names, one after the other. Assumes nothing.
use mathlib.Core.Path.{◌≡◌, refl, sym, ap, subst, ◌∙◌}
use mathlib.Core.List.{List}
use Prim.Native.Nat.{ℕ, ◌+◌, ◌*◌, ◌≤◌, ◌<◌}
use native.Mathlib.Nat.{le_refl}
use native.Mathlib.Omega.{arith}
use lib.ListN.{length, get_or}
use Rattle.datatype.specs.Datatype.{Datatype, size}
use Rattle.datatype.specs.WellFormed.{WellFormed}
use Rattle.datatype.proofs.Matches.{size_most}
use Rattle.table.specs.Table.{type_at}
use Rattle.entry_code.specs.Code.{route_in}
use Rattle.records.specs.Plan.{Sound, AllSound, plan_of}
use Rattle.records.proofs.Plans.{plan_sound}
use Rattle.plans.specs.PlanWords.{entry_at, entries_at, source_type_of, destination_type_of, words_place, EntryWords, NamesAt, Job}
use Rattle.plans.specs.PlanEntries.{PairFormed, Standing, EntriesPut, NamesPut}
use Rattle.plans.proofs.Entries.{sound_at}
use Rattle.plans.proofs.Spans.{standing_moved}
use Rattle.paths.specs.Plan.{Planned}
use Rattle.two_sheets.specs.TwoSheets.{Both}
use Rattle.plan_making.specs.Made.{Room, Made}

-- the small arrays of a call have room for a destination record of 128 bytes, the large ones for any
pub small_room : (ds wd : List ℕ) (k : ℕ) → size (type_at wd ds k) ≤ 128 → Room ds wd k 256 2048
small_room ds wd k h = record { for_entries = omega arith; for_words = omega arith; most = omega arith }

pub large_room : {ss ws : List ℕ} {i : ℕ} (ds wd : List ℕ) (k : ℕ) → Both ss ws i ds wd k → Room ds wd k 8192 20480
large_room ds wd k both =
    let most : size (type_at wd ds k) ≤ 4096 = size_most (type_at wd ds k) both.destination in
    record { for_entries = omega arith; for_words = omega arith; most = omega arith }

-- the words of an entry stand where those behind the ids are kept
entry_kept : (v w : List ℕ) (k : ℕ) (ws ts wd td : List ℕ) (s d : ℕ) → 512 ≤ k → ((j : ℕ) → 512 ≤ j → get_or v j 0 ≡ get_or w j 0) → EntryWords w k ws ts wd td s d
    → EntryWords v k ws ts wd td s d
entry_kept v w k ws ts wd td s d high kept x =
    let free : ℕ = get_or w (k + 3) 0 + get_or w (k + 2) 0 in
    (standing_moved v w k k 512 free (λ q low. kept (k + q) (omega arith)) (λ j from below. kept j from) ws ts wd td s d
    (record { entry = x; bounds = λ some few. ((x.span some few).high, le_refl free) })).entry

module _ (ss ws : List ℕ) (i : ℕ) (ds wd : List ℕ) (k : ℕ) (both : Both ss ws i ds wd k) (E : Datatype) (formed : WellFormed E) (sized : size E ≡ size (type_at wd ds k))
    (before plan : List ℕ) (n : ℕ) (planned : Planned ws ss wd ds (type_at ws ss i) E before plan n) where
  all_sound : AllSound (size (type_at ws ss i)) (size E) (entries_at plan n ws ss wd ds)
  all_sound = rw planned.entries (plan_sound (type_at ws ss i) E both.source formed)

  few : n ≤ size (type_at wd ds k)
  few = omega (arith, planned.few)

  pairs_formed : (e : ℕ) → e < n → PairFormed ws ss wd ds (source_type_of plan e) (destination_type_of plan e)
  pairs_formed e h =
      let sound : Sound (size (type_at ws ss i)) (size E) (entry_at plan ws ss wd ds e) =
      sound_at plan ws ss wd ds (size (type_at ws ss i)) (size E) n 0 e all_sound (omega arith) (omega arith) in
      record { source = sound.source; destination = sound.destination; source_rows = both.source_rows (source_type_of plan e); destination_rows = both.destination_rows (destination_type_of plan e) }

  module _ (words : List ℕ) (room : Room ds wd k (length before) (length words)) where
    pub entries_asked : (n ≤ 4096) × (2 * n ≤ length plan) × (words_place n ≤ length words) × (length words ≤ 65536)
        × ((e : ℕ) → e < n → PairFormed ws ss wd ds (source_type_of plan e) (destination_type_of plan e))
    entries_asked = (planned.most, omega (arith, room.for_entries, few, planned.room), omega (arith, room.for_words, few), room.most, pairs_formed)

    module _ (mid : List ℕ) (entries : EntriesPut words plan n ws ss wd ds mid) where
      pub names_asked : (n ≤ 4096) × (words_place n ≤ length mid)
      names_asked = (planned.most, omega (arith, room.for_words, few, entries.long))

      pub plan_made : (after : List ℕ) → NamesPut mid n ws ss wd ds after → Made ss ws i ds wd E plan n after
      plan_made after names =
          record {
            entries = planned.entries;
            room = omega (arith, room.for_entries, few, planned.room);
            most = planned.most;
            long = omega (arith, room.for_words, few, entries.long, names.long);
            entry = λ e h. entry_kept after mid (words_place e) ws ss wd ds (source_type_of plan e) (destination_type_of plan e) (omega arith) names.above (entries.each e h);
            names = names.names;
          }

-- what a plan that was made is to the loops over records
unfoldable pub job : {ss ws : List ℕ} {i : ℕ} {ds wd : List ℕ} {k : ℕ} {E : Datatype} {plan : List ℕ} {n : ℕ} {words : List ℕ} → Both ss ws i ds wd k → WellFormed E
    → Made ss ws i ds wd E plan n words → {s d : ℕ} → s ≡ size (type_at ws ss i) → d ≡ size E → Job s d plan n ws wd words
job {ss} {ws} {i} {ds} {wd} {k} {E} {plan} both formed made source destination =
    record {
      source = type_at ws ss i;
      destination = E;
      source_formed = both.source;
      destination_formed = formed;
      source_size = source;
      destination_size = destination;
      source_text = ss;
      destination_text = ds;
      room = made.room;
      entries = made.entries;
      source_rows = λ e h. both.source_rows (source_type_of plan e);
      destination_rows = λ e h. both.destination_rows (destination_type_of plan e);
      most = made.most;
      long = made.long;
      entry = made.entry;
      names = made.names;
    }
