-- Document 02, 2026-07: "Converting back, in demand 2, is now claimed only where matched enums have equal symbol sets". A run that is done without an exception,
-- and its way back, which is refused: the destination has a symbol more. The checker computes both. Assumes nothing.
use mathlib.Core.Path.{◌≡◌, refl, sym, ap, ◌∙◌}
use mathlib.Core.Bool.{false}
use mathlib.Core.List.{[], ◌∷◌}
use Prim.Native.Nat.{ℕ}
use Prim.Native.String.{String}
use native.Mathlib.Omega.{arith}
use lib.IntN.{pos}
use lib.ListN.{length}
use borrow.Author.Tests.{leb-true}
use Rattle.answer.specs.declared.Answer.{Answer}
use Rattle.answer.specs.declared.Answer.TheVariants.{Done, Symbols}
use Rattle.answer.specs.Answer.{number_of, values_of}
use Rattle.bits.specs.declared.Order.TheVariants.{LE}
use Rattle.layout.specs.declared.Class.TheVariants.{Int}
use Rattle.layout.specs.declared.Pad.TheVariants.{Zero}
use Rattle.layout.specs.declared.Layout.{Layout}
use Rattle.datatype.specs.Datatype.{Symbol, Datatype, same}
use Rattle.datatype.specs.Datatype.Leaf.{enumeration}
use Rattle.datatype.specs.Datatype.Datatype.{leaf}
use Rattle.datatype.specs.Symbols.{symbol_of, number_of as numberNamed}
use Rattle.datatype.specs.Paths as paths
use Rattle.datatype.specs.Matches as matches
use Rattle.datatype.specs.Handling as handling
use Rattle.datatype.specs.SymbolSets as symbols
use Rattle.text.specs.Text as text
use Rattle.text.specs.Text.{bytes}
use Rattle.text.specs.Field as fields
use Rattle.line.specs.Line as line
use Rattle.sheet.specs.Sheet as sheet
use Rattle.records.specs.Record as one
use Rattle.records.specs.Records as many
use Rattle.runs.specs.Run as runs
use Rattle.runs.specs.Run.{answer, after}
use Rattle.promises.specs.Runs.{DoneWithoutException, Types}
use Rattle.promises.specs.WayBack.{WayBack, AlwaysReturned}
use Rattle.promises.proofs.Exercises.{words, there, back}

-- ---- the types of the two sheets

abbrev byte : Layout
byte = record { class = Int; size = record { 0 = 1 }; order = LE; offset = record { 0 = 0 }; precision = 8; lsb = Zero; msb = Zero; signed = false }

abbrev symbol : String → ℕ → Symbol
symbol name n = record { name = bytes name; number = pos n }

abbrev S : Datatype
S = leaf (enumeration byte (symbol "open" 0 ∷ []))

abbrev D : Datatype
D = leaf (enumeration byte (symbol "shut" 1 ∷ symbol "open" 0 ∷ []))

-- ---- a valve that is open, there and back

answers : (answer there ≡ Done 0) × (after there ≡ 0 ∷ []) × (answer back ≡ Symbols)
unfolding same symbol_of numberNamed paths.member_named paths.has_path matches.match_at symbols.has_symbol symbols.all_stand_in symbols.keeps_symbols text.split fields.digits fields.decimal fields.number fields.enum_number fields.decimal_in fields.each_printable fields.name line.column line.order line.pad line.sign line.layout_columns line.int_line line.bits_line line.enum_line_of line.value_line_of line.compound_line_of line.optional line.member_word line.member_line_of line.numbers line.array_line_of line.real_line_of line.line_kind line.line_of sheet.type_numbered sheet.is_apart sheet.judge sheet.lines_from sheet.outcome_of sheet.sheet_of one.reading one.with_leaf one.with_leaves_below one.kind_at one.given_at one.raised_below one.first_raising many.joined many.exceptions one.stop_kind_at handling.word_at handling.handling_at runs.checks_of runs.stop_from runs.answer runs.after
answers = (refl, refl, refl)

types : Types there S D
unfolding same symbol_of numberNamed text.split fields.digits fields.decimal fields.number fields.enum_number fields.decimal_in fields.each_printable fields.name line.column line.order line.pad line.sign line.layout_columns line.int_line line.bits_line line.enum_line_of line.value_line_of line.compound_line_of line.optional line.member_word line.member_line_of line.numbers line.array_line_of line.real_line_of line.line_kind line.line_of sheet.type_numbered sheet.is_apart sheet.judge sheet.lines_from sheet.outcome_of sheet.sheet_of
types = record { source = refl; destination = refl }

is_back : WayBack S D there back
is_back =
    record {
      source_sheet = refl;
      destination_sheet = refl;
      count = refl;
      source = refl;
      handling = omega arith;
      table = leb-true 8192 (length words) refl;
      room = rw answers.1;
    }

-- Without equal symbol sets the way back is not always done.
pub not_always : ¬ AlwaysReturned
not_always always =
    let done : DoneWithoutException there =
    record { done = ap number_of answers.0; count = ap (λ (a : Answer). (values_of a).count) answers.0 } in
    omega (arith, sym (ap number_of answers.2) ∙ (always there back S D types done is_back).done.done)
