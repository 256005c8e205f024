-- What the runs that the checker computes for this crate have in common: what it opens for them, and their parts. Assumes nothing.
use mathlib.Core.Path.{◌≡◌, ap}
use mathlib.Core.Bool.{Bool}
use mathlib.Core.Logic.{◌⊎◌}
use Prim.Native.Nat.{ℕ}
use Rattle.answer.specs.declared.Answer.{Answer}
use Rattle.answer.specs.declared.Answer.TheVariants.{Done}
use Rattle.answer.specs.Answer.{number_of, values_of}
use Rattle.bits.specs.declared.Order.{Order}
use Rattle.layout.specs.declared.Class.TheVariants.{Int}
use Rattle.layout.specs.declared.Pad.TheVariants.{Zero}
use Rattle.layout.specs.declared.Layout.{Layout}
use Rattle.reals.specs.Worth as worths
use Rattle.reals.specs.Convert as reals
use Rattle.datatype.specs.Datatype.{Datatype, same}
use Rattle.datatype.specs.Symbols.{symbol_of, number_of as numberNamed}
use Rattle.datatype.specs.Leaves as leaves
use Rattle.datatype.specs.Paths as paths
use Rattle.datatype.specs.Matches as matches
use Rattle.datatype.specs.Handling as handling
use Rattle.datatype.specs.SymbolSets as symbols
use Rattle.text.specs.Text as text
use Rattle.text.specs.Field as fields
use Rattle.line.specs.Line as line
use Rattle.sheet.specs.Sheet as sheet
use Rattle.records.specs.Record as one
use Rattle.records.specs.Records as many
use Rattle.runs.specs.Run as runs
use Rattle.runs.specs.Run.{Run, answer}
use Rattle.promises.specs.Runs.{answer_number, DoneWithoutException, Types}
use Rattle.promises.proofs.Promises.{not_early}
use Rattle.step_promises.specs.TwoSteps.{AllAccepted}

-- the answer of a run; whoever opens this opens all that a run is computed by
unfoldable pub computed : Run → Answer
unfolding same symbol_of numberNamed leaves.within paths.member_named paths.has_path matches.match_at handling.word_at handling.handling_at symbols.has_symbol symbols.all_stand_in symbols.keeps_symbols text.split fields.digits fields.decimal fields.number fields.enum_number fields.decimal_in fields.each_printable fields.name line.column line.order line.pad line.sign line.layout_columns line.int_line line.bits_line line.enum_line_of line.value_line_of line.compound_line_of line.optional line.member_word line.member_line_of line.numbers line.array_line_of line.real_line_of line.line_kind line.line_of sheet.type_numbered sheet.is_apart sheet.judge sheet.lines_from sheet.outcome_of sheet.sheet_of worths.worth reals.real_to_int_of one.reading one.with_leaf one.with_leaves_below one.kind_at one.given_at one.raised_below one.first_raising one.stop_kind_at many.joined many.exceptions runs.checks_of runs.stop_from runs.answer runs.after
computed r = answer r

-- a whole number's layout without pad bits
abbrev pub int : ℕ → Order → ℕ → Bool → Layout
int size order precision signed =
    record { class = Int; size = record { 0 = size }; order = order; offset = record { 0 = 0 }; precision = precision; lsb = Zero; msb = Zero; signed = signed }

-- a run that is done or stopped was accepted
abbrev pub Ended : Run → Type 0
Ended r = (answer_number r ≡ 0) ⊎ (answer_number r ≡ 8)

pub all_accepted : (A B C : Datatype) (r q p : Run) → Types r A B → Types q B C → Types p A C → Ended r → Ended q → Ended p → AllAccepted A B C r q p
all_accepted A B C r q p t u v x y z =
    record {
      A_to_B = t;
      B_to_C = u;
      A_to_C = v;
      r_accepted = not_early x;
      q_accepted = not_early y;
      p_accepted = not_early z;
    }

pub without_exception : (r : Run) → answer r ≡ Done 0 → DoneWithoutException r
without_exception r e = record { done = ap number_of e; count = ap (λ (a : Answer). (values_of a).count) e }
