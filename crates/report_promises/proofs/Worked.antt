-- Document 02, 2026-01 and 2026-03: worked calls of the report, as one statement over one list, which the checker computes. The numbers are those of an
-- independent model. Assumes nothing.
use mathlib.Core.Path.{◌≡◌, refl}
use mathlib.Core.List.{List, [], ◌∷◌, ◌++◌, map}
use Prim.Native.Nat.{ℕ}
use Prim.Native.String.{String}
use lib.IntN.{ℤ, pos, negsuc}
use lib.ListN.{replicate}
use Rattle.datatype.specs.Datatype.{same}
use Rattle.datatype.specs.Symbols.{symbol_of, number_of as numberNamed}
use Rattle.datatype.specs.Leaves as leaves
use Rattle.datatype.specs.Paths as paths
use Rattle.datatype.specs.SymbolSets as symbols
use Rattle.datatype.specs.Matches as matches
use Rattle.reals.specs.Worth as worths
use Rattle.reals.specs.Nearest as nearest
use Rattle.reals.specs.Convert as reals
use Rattle.text.specs.Text as text
use Rattle.text.specs.Text.{bytes}
use Rattle.text.specs.Field as fields
use Rattle.line.specs.Line as line
use Rattle.sheet.specs.Sheet as sheet
use Rattle.records.specs.Record as one
use Rattle.records.specs.Records as many
use Rattle.channels.specs.Channels as channels
use Rattle.channels.specs.Report as reports
use Rattle.channels.specs.Shown as shown
use Rattle.answer.specs.Answer.{number_of, values_of}
use Rattle.reports.specs.Call as calls
use Rattle.reports.specs.Call.{Call, answer, log_after, memory_after, output_after}

record Result : Type 0 where
  number : ℕ
  length : ℕ
  log : List ℕ
  memory : List ℤ
  output : List ℕ

record Row : Type 0 where
  call : Call
  result : Result

-- a call with a table of just enough words and an output of zeros
lent : String → String → ℕ → List ℕ → List ℕ → List ℤ → ℕ → Call
lent s d n log background memory room =
    record {
      source_sheet = bytes s;
      reader_sheet = bytes d;
      count = n;
      log = log;
      background = background;
      memory = memory;
      output = replicate room 0;
      table = replicate 8192 0;
    }

made : Call → Result
made c = record { number = number_of (answer c); length = (values_of (answer c)).count; log = log_after c; memory = memory_after c; output = output_after c }

-- boost (12 bits, signed) and gear; the reader's boost has 8 bits, and its oil is not logged
abbrev logged : String
logged = "int\t2\tBE\t4\t12\tzero\tzero\tsigned\nint\t1\tLE\t0\t8\tzero\tzero\tunsigned\ncomp\t3\nmember\tboost\t0\t0\nmember\tgear\t2\t1\n"

abbrev reader : String
reader = "int\t1\tLE\t0\t8\tzero\tzero\tsigned\nint\t2\tLE\t0\t16\tzero\tzero\tunsigned\ncomp\t5\nmember\toil\t0\t1\nmember\tgear\t2\t1\nmember\tboost\t4\t0\n"

abbrev wide : String
wide = "int\t8\tLE\t0\t33\tzero\tzero\tsigned\n"

abbrev valve : String
valve = "int\t1\tLE\t0\t8\tzero\tzero\tunsigned\nenum\t0\nvalue\topen\t0\nvalue\tshut\t1\n"

abbrev open_valve : String
open_valve = "int\t1\tLE\t0\t8\tzero\tzero\tunsigned\nenum\t0\nvalue\topen\t0\n"

-- boost as a double, and oil; the reader's oil is a double, and its gear is not logged
abbrev logged_reals : String
logged_reals = "real\t8\tBE\nint\t8\tLE\t0\t64\tzero\tzero\tunsigned\ncomp\t16\nmember\tboost\t0\t0\nmember\toil\t8\t1\n"

abbrev reader_reals : String
reader_reals = "real\t8\tLE\nint\t1\tLE\t0\t8\tzero\tzero\tsigned\ncomp\t10\nmember\toil\t0\t0\nmember\tgear\t8\t1\nmember\tboost\t9\t1\n"

-- boost −12.5 and oil 2^53 + 1, then a not-a-number and 3
abbrev real_records : List ℕ
real_records =
    192 ∷ 41 ∷ 0 ∷ 0 ∷ 0 ∷ 0 ∷ 0 ∷ 0 ∷ 1 ∷ 0 ∷ 0 ∷ 0 ∷ 0 ∷ 0 ∷ 32 ∷ 0
    ∷ 127 ∷ 248 ∷ 0 ∷ 0 ∷ 0 ∷ 0 ∷ 0 ∷ 0 ∷ 3 ∷ 0 ∷ 0 ∷ 0 ∷ 0 ∷ 0 ∷ 0 ∷ 0 ∷ []

-- one record: boost 20, gear 6
abbrev one_record : List ℕ
one_record = 1 ∷ 64 ∷ 6 ∷ []

-- a leaf's four words
row : ℤ → ℤ → ℤ → ℤ → List ℤ
row lowest highest sum samples = lowest ∷ highest ∷ sum ∷ samples ∷ []

-- the words of the reader's three leaves, and one behind them
memory_of : ℤ → ℤ → List ℤ → List ℤ → List ℤ → List ℤ
memory_of records exceptions oil gear boost = records ∷ exceptions ∷ oil ++ gear ++ boost ++ (pos 77 ∷ [])

abbrev none : List ℤ
none = row (pos 0) (pos 0) (pos 0) (pos 0)

abbrev two : List ℤ
two = memory_of (pos 2) (pos 1) none (row (pos 5) (pos 7) (pos 12) (pos 2)) (row (negsuc 127) (pos 7) (negsuc 120) (pos 2))

abbrev three : List ℤ
three = memory_of (pos 3) (pos 1) none (row (pos 5) (pos 7) (pos 18) (pos 3)) (row (negsuc 127) (pos 20) (negsuc 100) (pos 3))

-- three records, with another row for oil
abbrev three_with : List ℤ → List ℤ
three_with oil = memory_of (pos 3) (pos 1) oil (row (pos 5) (pos 7) (pos 18) (pos 3)) (row (negsuc 127) (pos 20) (negsuc 100) (pos 3))

-- a refusal changes nothing
refusal : ℕ → List ℤ → ℕ → Result
refusal number memory room = record { number = number; length = 0; log = []; memory = memory; output = replicate room 0 }

abbrev shown_three : String
shown_three = "at\tlowest\thighest\tsum\tsamples\n0\t-\t-\t0\t0\n2\t5\t7\t18\t3\n4\t-128\t20\t-101\t3\n"

rows : List Row
rows =
    -- the first log of a season: boost clamps once, oil is unmatched
    record {
      call =
          lent logged reader 2 (243 ∷ 128 ∷ 5 ∷ 0 ∷ 112 ∷ 7 ∷ 0 ∷ 0 ∷ 0 ∷ 0 ∷ 9 ∷ []) (replicate 10 1) (memory_of (pos 0) (pos 0) none none none) 90;
      result =
          record {
            number = 0;
            length = 67;
            log = 1 ∷ 1 ∷ 5 ∷ 0 ∷ 128 ∷ 1 ∷ 1 ∷ 7 ∷ 0 ∷ 7 ∷ 9 ∷ [];
            memory = two;
            output = bytes "at\tlowest\thighest\tsum\tsamples\n0\t-\t-\t0\t0\n2\t5\t7\t12\t2\n4\t-128\t7\t-121\t2\n" ++ replicate 23 0;
          };
    }
    -- the next one, on the memory that it left
    ∷ record {
      call = lent logged reader 1 (one_record ++ (0 ∷ 0 ∷ [])) (replicate 5 1) two 90;
      result = record { number = 0; length = 68; log = 1 ∷ 1 ∷ 6 ∷ 0 ∷ 20 ∷ []; memory = three; output = bytes shown_three ++ replicate 22 0 };
    }
    -- no record: the output is written again, if it has room
    ∷ record {
      call = lent logged reader 0 [] [] three 68;
      result = record { number = 0; length = 68; log = []; memory = three; output = bytes shown_three };
    }
    -- a byte less is 7
    ∷ record { call = lent logged reader 0 [] [] three 67; result = refusal 7 three 67 }
    -- a negative count of samples is 11
    ∷ record {
      call = lent logged reader 0 [] [] (three_with (row (pos 0) (pos 0) (pos 0) (negsuc 0))) 54;
      result = refusal 11 (three_with (row (pos 0) (pos 0) (pos 0) (negsuc 0))) 54;
    }
    -- and so is a word that passes 2^52
    ∷ record {
      call = lent logged reader 0 [] [] (three_with (row (pos 0) (pos 0) (pos 4_503_599_627_370_497) (pos 0))) 54;
      result = refusal 11 (three_with (row (pos 0) (pos 0) (pos 4_503_599_627_370_497) (pos 0))) 54;
    }
    -- at both limits it is done; a leaf whose samples are 0 begins anew, but for its sum
    ∷ record {
      call =
          lent logged reader 1 (one_record ++ (0 ∷ 0 ∷ [])) (replicate 5 1)
          (memory_of (pos 1_048_575) (pos 1) (row (pos 0) (pos 0) (negsuc 4_503_599_627_370_495) (pos 0)) (row (pos 100) (pos 7) (pos 18) (pos 0))
          (row (negsuc 127) (pos 20) (negsuc 100) (pos 3))) 99;
      result =
          record {
            number = 0;
            length = 83;
            log = 1 ∷ 1 ∷ 6 ∷ 0 ∷ 20 ∷ [];
            memory =
                memory_of (pos 1_048_576) (pos 1) (row (pos 0) (pos 0) (negsuc 4_503_599_627_370_495) (pos 0)) (row (pos 6) (pos 6) (pos 24) (pos 1))
                (row (negsuc 127) (pos 20) (negsuc 80) (pos 4));
            output = bytes "at\tlowest\thighest\tsum\tsamples\n0\t-\t-\t-4503599627370496\t0\n2\t6\t6\t24\t1\n4\t-128\t20\t-81\t4\n" ++ replicate 16 0;
          };
    }
    -- the reader's real has no line; a real gives the int that it is read into samples like any other, and all three exceptions are counted
    ∷ record {
      call = lent logged_reals reader_reals 2 real_records (replicate 20 1) (pos 0 ∷ pos 0 ∷ none ++ none ++ (pos 77 ∷ [])) 60;
      result =
          record {
            number = 0;
            length = 54;
            log =
                0 ∷ 0 ∷ 0 ∷ 0 ∷ 0 ∷ 0 ∷ 64 ∷ 67 ∷ 1 ∷ 244
                ∷ 0 ∷ 0 ∷ 0 ∷ 0 ∷ 0 ∷ 0 ∷ 8 ∷ 64 ∷ 1 ∷ 0 ∷ replicate 12 0;
            memory = pos 2 ∷ pos 3 ∷ none ++ row (negsuc 11) (pos 0) (negsuc 11) (pos 2) ++ (pos 77 ∷ []);
            output = bytes "at\tlowest\thighest\tsum\tsamples\n8\t-\t-\t0\t0\n9\t-12\t0\t-12\t2\n" ++ replicate 6 0;
          };
    }
    -- 10 before 5
    ∷ record { call = lent logged wide 0 [] [] three 54; result = refusal 10 three 54 }
    -- a symbol that the reader lacks: 12 before 6
    ∷ record { call = lent valve open_valve 65537 [] [] three 54; result = refusal 12 three 54 }
    ∷ []

worked : map (λ (r : Row). made r.call) rows ≡ map (λ (r : Row). r.result) rows
unfolding rows lent made row memory_of refusal same symbol_of numberNamed leaves.within leaves.leaf_at paths.member_named paths.has_path matches.match_at symbols.has_symbol symbols.all_stand_in symbols.keeps_symbols text.split fields.digits fields.decimal fields.number fields.enum_number fields.decimal_in fields.each_printable fields.name line.column line.order line.pad line.sign line.layout_columns line.int_line line.bits_line line.enum_line_of line.value_line_of line.compound_line_of line.optional line.member_word line.member_line_of line.numbers line.array_line_of line.real_line_of line.line_kind line.line_of sheet.type_numbered sheet.is_apart sheet.judge sheet.lines_from sheet.outcome_of sheet.sheet_of worths.worth nearest.highest nearest.magnitude_bits reals.int_to_real reals.real_to_int_of one.reading one.with_leaf one.with_leaves_below one.kind_at one.raised_below many.joined many.exceptions channels.channels_from channels.all_narrow channels.sample_at reports.row_after reports.rows_after reports.rows_from reports.rows_words reports.good_rows reports.takes shown.lines shown.shown calls.report_of calls.checks calls.answer calls.log_after calls.memory_after calls.output_after
worked = refl
