-- A case of which the promise speaks: an array of compounds with an enum, an in-place run first, a copying run after it, and an in-place run straight. By
-- either way the count is 1, or STOP names the same number. The checker computes the runs. Assumes nothing.
use mathlib.Core.Path.{◌≡◌, refl, ap}
use mathlib.Core.Bool.{true, false}
use mathlib.Core.Logic.{inl, inr}
use mathlib.Core.List.{List, [], ◌∷◌}
use Prim.Native.Nat.{ℕ}
use Prim.Native.String.{String}
use lib.IntN.{pos}
use Rattle.answer.specs.declared.Answer.TheVariants.{Done, Stop}
use Rattle.answer.specs.declared.Given.TheVariants.{Whole}
use Rattle.answer.specs.Answer.{number_of}
use Rattle.bits.specs.declared.Order.TheVariants.{LE, BE}
use Rattle.layout.specs.declared.Layout.{Layout}
use Rattle.datatype.specs.declared.Word.TheVariants.{Silent}
use Rattle.datatype.specs.Datatype.{Symbol, Datatype}
use Rattle.datatype.specs.Datatype.Leaf.{atomic, enumeration}
use Rattle.datatype.specs.Datatype.Datatype.{leaf, compound, array}
use Rattle.datatype.specs.Datatype.Members.{empty, member}
use Rattle.text.specs.Text.{bytes}
use Rattle.sheet.specs.Sheet.{sheet_of}
use Rattle.sheet.specs.Sheet.Sheet.{of_type}
use Rattle.sheet.proofs.ReadWellFormed.{read_well_formed}
use Rattle.datatype.specs.Handling.{clamp, stop}
use Rattle.runs.specs.Run.{Run, copying_run, in_place_run, plain, answer, after}
use Rattle.promises.proofs.Exercises.{words}
use Rattle.step_promises.specs.TwoSteps.{SameNames, NoReals, SameOutcome}
use Rattle.step_promises.proofs.NoReals.{no_reals, int_no_real, enum_no_real}
use Rattle.step_promises.proofs.Names.{same_names, same_names_lem}
use Rattle.step_promises.proofs.TwoSteps.{two_steps_or_one}
use Rattle.step_promises.proofs.Computed.{computed, int, Ended, all_accepted, without_exception}

-- ---- the sheets, and their types

abbrev sheet_a : String
sheet_a = "int\t1\tLE\t0\t8\tzero\tzero\tunsigned\nenum\t0\nvalue\topen\t0\nvalue\tshut\t1\ncomp\t2\nmember\tboost\t0\t0\nmember\tvalve\t1\t1\narray\t2\t2\ncomp\t5\nmember\tlaps\t0\t3\nmember\toil\t4\t0\n"

abbrev sheet_b : String
sheet_b = "int\t2\tBE\t0\t16\tzero\tzero\tsigned\nint\t1\tLE\t0\t8\tzero\tzero\tunsigned\nenum\t1\nvalue\tshut\t5\nvalue\topen\t6\ncomp\t3\nmember\tvalve\t0\t2\nmember\tboost\t1\t0\narray\t3\t2\ncomp\t6\nmember\tlaps\t0\t4\n"

abbrev sheet_c : String
sheet_c = "int\t1\tLE\t0\t8\tzero\tzero\tsigned\nint\t1\tLE\t0\t8\tzero\tzero\tunsigned\nenum\t1\nvalue\topen\t1\nvalue\tshut\t2\ncomp\t3\nmember\tboost\t0\t0\nmember\tvalve\t1\t2\nmember\twater\t2\t1\narray\t3\t2\ncomp\t7\nmember\tlaps\t1\t4\n"

abbrev byte : Layout
byte = int 1 LE 8 false

abbrev symbol : String → ℕ → Symbol
symbol name n = record { name = bytes name; number = pos n }

-- the two symbols, with their numbers, the last one first
abbrev valve : String → ℕ → String → ℕ → Datatype
valve x n y m = leaf (enumeration byte (symbol x n ∷ symbol y m ∷ []))

abbrev A : Datatype
A =
    compound 5
    (member (bytes "oil") 4 (leaf (atomic byte)) Silent
    (member (bytes "laps") 0
    (array 4 (2 ∷ [])
    (compound 2 (member (bytes "valve") 1 (valve "shut" 1 "open" 0) Silent (member (bytes "boost") 0 (leaf (atomic byte)) Silent empty)))) Silent
    empty))

abbrev B : Datatype
B =
    compound 6
    (member (bytes "laps") 0
    (array 6 (2 ∷ [])
    (compound 3
    (member (bytes "boost") 1 (leaf (atomic (int 2 BE 16 true))) Silent (member (bytes "valve") 0 (valve "open" 6 "shut" 5) Silent empty)))) Silent
    empty)

abbrev C : Datatype
C =
    compound 7
    (member (bytes "laps") 1
    (array 6 (2 ∷ [])
    (compound 3
    (member (bytes "water") 2 (leaf (atomic byte)) Silent
    (member (bytes "valve") 1 (valve "shut" 2 "open" 1) Silent (member (bytes "boost") 0 (leaf (atomic (int 1 LE 8 true))) Silent empty))))) Silent
    empty)

of_A : sheet_of (bytes sheet_a) ≡ of_type A
unfolding computed
of_A = refl

of_B : sheet_of (bytes sheet_b) ≡ of_type B
unfolding computed
of_B = refl

of_C : sheet_of (bytes sheet_c) ≡ of_type C
unfolding computed
of_C = refl

-- ---- boost 200 with an open valve and boost 7 with a shut one, oil 9

abbrev to_b : Run
to_b = in_place_run (bytes sheet_a) (bytes sheet_b) 1 plain (200 ∷ 0 ∷ 7 ∷ 1 ∷ 9 ∷ 0x77 ∷ []) (0 ∷ 0 ∷ 0 ∷ 0 ∷ 0 ∷ 0 ∷ []) words

abbrev ground : List ℕ
ground = 0x55 ∷ 0x55 ∷ 0x55 ∷ 0x55 ∷ 0x55 ∷ 0x55 ∷ 0x55 ∷ []

abbrev on_to_c : ℕ → Run
on_to_c handling = copying_run (bytes sheet_b) (bytes sheet_c) 1 handling (after to_b) ground words

abbrev straight : ℕ → Run
straight handling = in_place_run (bytes sheet_a) (bytes sheet_c) 1 handling (200 ∷ 0 ∷ 7 ∷ 1 ∷ 9 ∷ 0x66 ∷ 0x66 ∷ []) ground words

first : (answer to_b ≡ Done 0) × (after to_b ≡ 6 ∷ 0 ∷ 200 ∷ 5 ∷ 0 ∷ 7 ∷ [])
unfolding computed
first = (refl, refl)

clamped : (answer (on_to_c clamp) ≡ Done 1) × (after (on_to_c clamp) ≡ 0x55 ∷ 127 ∷ 1 ∷ 0x55 ∷ 7 ∷ 2 ∷ 0x55 ∷ [])
    × (answer (straight clamp) ≡ Done 1) × (after (straight clamp) ≡ 0x55 ∷ 127 ∷ 1 ∷ 0x55 ∷ 7 ∷ 2 ∷ 0x55 ∷ [])
unfolding computed
clamped = (refl, refl, refl, refl)

stopped : (answer (on_to_c stop) ≡ Stop 0 1 1 (Whole false 200)) × (answer (straight stop) ≡ Stop 0 1 1 (Whole false 200))
unfolding computed
stopped = (refl, refl)

-- ---- the conditions hold

names : SameNames A B C
unfolding computed same_names
names = same_names_lem A B C refl

reals : NoReals A B C
reals =
    no_reals A B C (read_well_formed (bytes sheet_c) C of_C) (int_no_real byte, ((enum_no_real byte _, (int_no_real byte, tt)), tt))
    ((int_no_real (int 2 BE 16 true), (enum_no_real byte _, tt)), tt)

with_handling : (handling : ℕ) → Ended (on_to_c handling) → Ended (straight handling) → SameOutcome C (on_to_c handling) (straight handling)
with_handling handling q p =
    two_steps_or_one A B C to_b (on_to_c handling) (straight handling)
    (all_accepted A B C to_b (on_to_c handling) (straight handling) (record { source = of_A; destination = of_B }) (record { source = of_B; destination = of_C })
    (record { source = of_A; destination = of_C }) (inl (ap number_of first.0)) q p)
    names reals (without_exception to_b first.0) (record { q_count = refl; p_count = refl; left = refl; source = refl })
    (record { background = refl; handling = refl })

-- The promise speaks of both pairs.
pub by_either_way : SameOutcome C (on_to_c clamp) (straight clamp) × SameOutcome C (on_to_c stop) (straight stop)
by_either_way = (
  with_handling clamp (inl (ap number_of clamped.0)) (inl (ap number_of clamped.2)),
  with_handling stop (inr (ap number_of stopped.0)) (inr (ap number_of stopped.1)),
)
