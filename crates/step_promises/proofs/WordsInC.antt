-- A case of which the promise speaks, with words (2026-12): in C boost clamps and oil stops, and in A and B it is the other way round. By either way a call with
-- handling 0 is stopped by oil, though boost raises before it, and one with handling 1 is done with boost clamped. The checker computes the runs. Assumes nothing.
use mathlib.Core.Path.{◌≡◌, refl, ap}
use mathlib.Core.Bool.{false}
use mathlib.Core.Logic.{inl, inr}
use mathlib.Core.List.{List, [], ◌∷◌}
use Prim.Native.Nat.{ℕ, ◌*◌}
use Prim.Native.String.{String}
use Rattle.answer.specs.declared.Answer.TheVariants.{Done, Stop as StoppedAt}
use Rattle.answer.specs.declared.Given.TheVariants.{Whole}
use Rattle.answer.specs.Answer.{number_of}
use Rattle.bits.specs.declared.Order.TheVariants.{LE, BE}
use Rattle.layout.specs.declared.Layout.{Layout}
use Rattle.datatype.specs.declared.Word.{Word}
use Rattle.datatype.specs.declared.Word.TheVariants.{Clamp, Stop}
use Rattle.datatype.specs.Datatype.{Datatype}
use Rattle.datatype.specs.Datatype.Leaf.{atomic}
use Rattle.datatype.specs.Datatype.Datatype.{leaf, compound}
use Rattle.datatype.specs.Datatype.Members.{empty, member}
use Rattle.text.specs.Text.{bytes}
use Rattle.sheet.specs.Sheet.{sheet_of}
use Rattle.sheet.specs.Sheet.Sheet.{of_type}
use Rattle.sheet.proofs.ReadWellFormed.{read_well_formed}
use Rattle.datatype.specs.Handling.{clamp, stop}
use Rattle.runs.specs.Run.{Run, copying_run, plain, answer, after}
use Rattle.promises.proofs.Exercises.{words}
use Rattle.step_promises.specs.TwoSteps.{SameNames, NoReals, SameOutcome}
use Rattle.step_promises.proofs.NoReals.{no_reals, int_no_real}
use Rattle.step_promises.proofs.Names.{same_names, same_names_lem}
use Rattle.step_promises.proofs.TwoSteps.{two_steps_or_one}
use Rattle.step_promises.proofs.Computed.{computed, int, Ended, all_accepted, without_exception}

-- ---- the sheets, and their types

abbrev sheet_a : String
sheet_a = "int\t2\tLE\t0\t16\tzero\tzero\tunsigned\ncomp\t4\nmember\tboost\t0\t0\tstop\nmember\toil\t2\t0\tclamp\n"

abbrev sheet_b : String
sheet_b = "int\t4\tBE\t0\t32\tzero\tzero\tunsigned\ncomp\t8\nmember\tboost\t0\t0\tstop\nmember\toil\t4\t0\tclamp\n"

abbrev sheet_c : String
sheet_c = "int\t1\tLE\t0\t8\tzero\tzero\tunsigned\ncomp\t2\nmember\tboost\t0\t0\tclamp\nmember\toil\t1\t0\tstop\n"

-- boost and then oil, each of this layout and with this word
abbrev boost_and_oil : Layout → ℕ → Word → Word → Datatype
boost_and_oil l size boost oil =
    compound (2 * size) (member (bytes "oil") size (leaf (atomic l)) oil (member (bytes "boost") 0 (leaf (atomic l)) boost empty))

abbrev A : Datatype
A = boost_and_oil (int 2 LE 16 false) 2 Stop Clamp

abbrev B : Datatype
B = boost_and_oil (int 4 BE 32 false) 4 Stop Clamp

abbrev C : Datatype
C = boost_and_oil (int 1 LE 8 false) 1 Clamp Stop

of_A : sheet_of (bytes sheet_a) ≡ of_type A
unfolding computed
of_A = refl

of_B : sheet_of (bytes sheet_b) ≡ of_type B
unfolding computed
of_B = refl

of_C : sheet_of (bytes sheet_c) ≡ of_type C
unfolding computed
of_C = refl

-- ---- boost 300, with oil 400 and with oil 100

abbrev hot : List ℕ
hot = 0x2c ∷ 1 ∷ 0x90 ∷ 1 ∷ []

abbrev cool : List ℕ
cool = 0x2c ∷ 1 ∷ 100 ∷ 0 ∷ []

abbrev to_b : List ℕ → Run
to_b log = copying_run (bytes sheet_a) (bytes sheet_b) 1 plain log (0 ∷ 0 ∷ 0 ∷ 0 ∷ 0 ∷ 0 ∷ 0 ∷ 0 ∷ []) words

abbrev on_to_c : List ℕ → ℕ → Run
on_to_c log handling = copying_run (bytes sheet_b) (bytes sheet_c) 1 handling (after (to_b log)) (0x55 ∷ 0x55 ∷ []) words

abbrev straight : List ℕ → ℕ → Run
straight log handling = copying_run (bytes sheet_a) (bytes sheet_c) 1 handling log (0x55 ∷ 0x55 ∷ []) words

first : (answer (to_b hot) ≡ Done 0) × (answer (to_b cool) ≡ Done 0)
unfolding computed
first = (refl, refl)

-- handling 0: oil stops the call by its word, and boost, which clamps by its own, does not
stopped : (answer (on_to_c hot clamp) ≡ StoppedAt 0 1 1 (Whole false 400)) × (answer (straight hot clamp) ≡ StoppedAt 0 1 1 (Whole false 400))
unfolding computed
stopped = (refl, refl)

-- handling 1: boost clamps by its word
clamped : (answer (on_to_c cool stop) ≡ Done 1) × (after (on_to_c cool stop) ≡ 0xff ∷ 100 ∷ []) × (answer (straight cool stop) ≡ Done 1)
    × (after (straight cool stop) ≡ 0xff ∷ 100 ∷ [])
unfolding computed
clamped = (refl, refl, refl, refl)

-- ---- the conditions hold

names : SameNames A B C
unfolding computed same_names
names = same_names_lem A B C refl

reals : NoReals A B C
reals =
    no_reals A B C (read_well_formed (bytes sheet_c) C of_C) (int_no_real _, (int_no_real _, tt)) (int_no_real _, (int_no_real _, tt))

with_words_lem : (log : List ℕ) (handling : ℕ) → answer (to_b log) ≡ Done 0 → Ended (on_to_c log handling) → Ended (straight log handling)
    → SameOutcome C (on_to_c log handling) (straight log handling)
with_words_lem log handling r q p =
    two_steps_or_one A B C (to_b log) (on_to_c log handling) (straight log handling)
    (all_accepted A B C (to_b log) (on_to_c log handling) (straight log handling) (record { source = of_A; destination = of_B })
    (record { source = of_B; destination = of_C }) (record { source = of_A; destination = of_C }) (inl (ap number_of r)) q p)
    names reals (without_exception (to_b log) r) (record { q_count = refl; p_count = refl; left = refl; source = refl })
    (record { background = refl; handling = refl })

-- The promise speaks of both pairs.
pub by_words : SameOutcome C (on_to_c hot clamp) (straight hot clamp) × SameOutcome C (on_to_c cool stop) (straight cool stop)
by_words = (
  with_words_lem hot clamp first.0 (inr (ap number_of stopped.0)) (inr (ap number_of stopped.1)),
  with_words_lem cool stop first.1 (inl (ap number_of clamped.0)) (inl (ap number_of clamped.2)),
)
