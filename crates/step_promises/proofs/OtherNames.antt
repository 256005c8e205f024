-- Document 02, 2026-14: "Show also that without the names' condition it is false, by one small pair of runs." Last year's layout B had no oil: by way of B the
-- oil of A is lost, and C's is the background's. The checker computes the runs. Assumes nothing.
use mathlib.Core.Path.{◌≡◌, refl, sym, ap, ◌∙◌}
use mathlib.Core.Bool.{false}
use mathlib.Core.Logic.{inl}
use mathlib.Core.List.{List, [], ◌∷◌}
use Prim.Native.Nat.{ℕ}
use Prim.Native.String.{String}
use native.Mathlib.Omega.{arith}
use lib.ListN.{take, get_or}
use Rattle.answer.specs.declared.Answer.TheVariants.{Done}
use Rattle.answer.specs.Answer.{number_of}
use Rattle.bits.specs.declared.Order.TheVariants.{LE}
use Rattle.layout.specs.declared.Layout.{Layout}
use Rattle.datatype.specs.declared.Word.TheVariants.{Silent}
use Rattle.datatype.specs.Datatype.{Datatype}
use Rattle.datatype.specs.Datatype.Leaf.{atomic}
use Rattle.datatype.specs.Datatype.Datatype.{leaf, compound}
use Rattle.datatype.specs.Datatype.Members.{empty, member}
use Rattle.text.specs.Text.{bytes}
use Rattle.sheet.specs.Sheet.{sheet_of}
use Rattle.sheet.specs.Sheet.Sheet.{of_type}
use Rattle.sheet.proofs.ReadWellFormed.{read_well_formed}
use Rattle.runs.specs.Run.{Run, copying_run, plain, answer, after}
use Rattle.promises.proofs.Exercises.{words}
use Rattle.step_promises.specs.TwoSteps.{AllAccepted, SameRecords, SameBackgroundAndHandling, NoReals, WithoutNames}
use Rattle.step_promises.proofs.NoReals.{no_reals, int_no_real}
use Rattle.step_promises.proofs.Computed.{computed, int, all_accepted, without_exception}

-- ---- the sheets, and their types

abbrev boost_and_oil : String
boost_and_oil = "int\t1\tLE\t0\t8\tzero\tzero\tunsigned\ncomp\t2\nmember\tboost\t0\t0\nmember\toil\t1\t0\n"

abbrev boost_alone : String
boost_alone = "int\t1\tLE\t0\t8\tzero\tzero\tunsigned\ncomp\t1\nmember\tboost\t0\t0\n"

abbrev byte : Layout
byte = int 1 LE 8 false

-- A, and C too
abbrev both : Datatype
both = compound 2 (member (bytes "oil") 1 (leaf (atomic byte)) Silent (member (bytes "boost") 0 (leaf (atomic byte)) Silent empty))

abbrev alone : Datatype
alone = compound 1 (member (bytes "boost") 0 (leaf (atomic byte)) Silent empty)

-- ---- boost 7 and oil 9, by way of B and straight

abbrev to_b : Run
to_b = copying_run (bytes boost_and_oil) (bytes boost_alone) 1 plain (7 ∷ 9 ∷ []) (0 ∷ []) words

abbrev on_to_c : Run
on_to_c = copying_run (bytes boost_alone) (bytes boost_and_oil) 1 plain (after to_b) (0x55 ∷ 0x55 ∷ []) words

abbrev straight : Run
straight = copying_run (bytes boost_and_oil) (bytes boost_and_oil) 1 plain (7 ∷ 9 ∷ []) (0x55 ∷ 0x55 ∷ []) words

of_both : sheet_of (bytes boost_and_oil) ≡ of_type both
unfolding computed
of_both = refl

of_alone : sheet_of (bytes boost_alone) ≡ of_type alone
unfolding computed
of_alone = refl

answers : (answer to_b ≡ Done 0) × (answer on_to_c ≡ Done 0) × (after on_to_c ≡ 7 ∷ 0x55 ∷ []) × (answer straight ≡ Done 0) × (after straight ≡ 7 ∷ 9 ∷ [])
unfolding computed
answers = (refl, refl, refl, refl, refl)

-- ---- every other condition holds

accepted : AllAccepted both alone both to_b on_to_c straight
accepted =
    all_accepted both alone both to_b on_to_c straight (record { source = of_both; destination = of_alone }) (record { source = of_alone; destination = of_both })
    (record { source = of_both; destination = of_both }) (inl (ap number_of answers.0)) (inl (ap number_of answers.1)) (inl (ap number_of answers.3))

reals : NoReals both alone both
reals = no_reals both alone both (read_well_formed (bytes boost_and_oil) both of_both) (int_no_real byte, (int_no_real byte, tt)) (int_no_real byte, tt)

on_the_records : SameRecords both alone to_b on_to_c straight
on_the_records = record { q_count = refl; p_count = refl; left = refl; source = refl }

same : SameBackgroundAndHandling both on_to_c straight
same = record { background = refl; handling = refl }

-- Without the names' condition two steps and one may make different bytes.
pub not_without_names : ¬ WithoutNames
not_without_names always =
    let e = (always both alone both to_b on_to_c straight accepted reals (without_exception to_b answers.0) on_the_records same).converted (ap number_of answers.1) in
    let byte-1 : List ℕ → ℕ = λ l. get_or (take 2 l) 1 0 in
    let no : ◌≡◌ {A = ℕ} 0x55 9 = ap byte-1 (sym answers.2) ∙ ap (λ (l : List ℕ). get_or l 1 0) e ∙ ap byte-1 answers.4 in
    absurd (omega (arith, no))
