-- Document 02, 2026-06: worked calls that compare two logs, as one statement over one list, which the checker computes. Assumes nothing.
use mathlib.Core.Path.{◌≡◌, refl}
use mathlib.Core.List.{List, [], ◌∷◌, ◌++◌, map}
use Prim.Native.Nat.{ℕ, zero, suc, ◌-◌}
use Prim.Native.String.{String}
use lib.ListN.{length, replicate}
use Rattle.answer.specs.Answer.{number_of, values_of}
use Rattle.reals.specs.Worth as worths
use Rattle.text.specs.Text as text
use Rattle.text.specs.Text.{bytes}
use Rattle.text.specs.Field as fields
use Rattle.datatype.specs.Datatype.{same}
use Rattle.datatype.specs.Symbols.{symbol_of, number_of as numberNamed}
use Rattle.datatype.specs.Leaves as leaves
use Rattle.datatype.specs.Paths as paths
use Rattle.datatype.specs.Matches as matches
use Rattle.line.specs.Line as line
use Rattle.sheet.specs.Sheet as sheet
use Rattle.differences.specs.Differences as listing
use Rattle.differences.specs.Call as calls
use Rattle.differences.specs.Call.{Call, answer, list_after}

-- an answer's number, line and length, and the list buffer afterwards
record Result : Type 0 where
  number : ℕ
  line : ℕ
  length : ℕ
  list : List ℕ

record Row : Type 0 where
  call : Call
  result : Result

made : Call → Result
made c = record { number = number_of (answer c); line = (values_of (answer c)).line; length = (values_of (answer c)).count; list = list_after c }

-- the bytes k, k + 1, .., as many as n
counted : ℕ → ℕ → List ℕ
counted k zero = []
counted k (suc n) = k ∷ counted (suc k) n

-- n records of two logs, a table of so many words, and a list buffer of `room` bytes 0, 1, ..
lent : ℕ → String → String → ℕ → List ℕ → List ℕ → ℕ → Call
lent words s d n first second room =
    record {
      first_sheet = bytes s;
      second_sheet = bytes d;
      count = n;
      first = first;
      second = second;
      list = counted 0 room;
      table = replicate words 0;
    }

-- done, with this text, and the bytes behind it as they were
done : List ℕ → ℕ → Result
done shown room = record { number = 0; line = 0; length = length shown; list = shown ++ counted (length shown) (room - length shown) }

-- "the list buffer is then unchanged"
refusal : ℕ → ℕ → ℕ → Result
refusal number line room = record { number = number; line = line; length = 0; list = counted 0 room }

-- one record: the header, and no line or one
one : String → String → List ℕ → List ℕ → String → Row
one s d first second lines = record { call = lent 8192 s d 1 first second 80; result = done (bytes "record\tat\tfirst\tsecond\n" ++ bytes lines) 80 }

abbrev byte : String
byte = "int\t1\tLE\t0\t8\tzero\tzero\tunsigned\n"

abbrev signed_byte : String
signed_byte = "int\t1\tLE\t0\t8\tzero\tzero\tsigned\n"

abbrev signed_two : String
signed_two = "int\t2\tBE\t0\t16\tzero\tzero\tsigned\n"

abbrev twelve : String
twelve = "int\t2\tBE\t4\t12\tzero\tzero\tsigned\n"

abbrev unsigned_eight : String
unsigned_eight = "int\t8\tBE\t0\t64\tzero\tzero\tunsigned\n"

abbrev low_bits : String
low_bits = "bits\t1\tLE\t0\t4\tzero\tzero\n"

abbrev high_bits : String
high_bits = "bits\t1\tLE\t4\t4\tzero\tzero\n"

abbrev valve : String
valve = "int\t1\tLE\t0\t8\tzero\tzero\tunsigned\nenum\t0\nvalue\topen\t0\nvalue\tshut\t1\n"

abbrev exchanged : String
exchanged = "int\t1\tLE\t0\t8\tzero\tzero\tunsigned\nenum\t0\nvalue\topen\t1\nvalue\tshut\t0\n"

abbrev open_alone : String
open_alone = "int\t1\tLE\t0\t8\tzero\tzero\tunsigned\nenum\t0\nvalue\topen\t0\n"

abbrev open_in_two : String
open_in_two = "int\t2\tBE\t0\t16\tzero\tzero\tunsigned\nenum\t0\nvalue\topen\t0\n"

abbrev nameless : String
nameless = "int\t1\tLE\t0\t8\tzero\tzero\tunsigned\nenum\t0\n"

abbrev realBE : String
realBE = "real\t8\tBE\n"

abbrev realLE : String
realLE = "real\t8\tLE\n"

-- boost, gear and a spare byte; who it was sent to has oil, gear and boost
abbrev logged : String
logged = "int\t2\tBE\t4\t12\tzero\tzero\tsigned\nint\t1\tLE\t0\t8\tzero\tzero\tunsigned\ncomp\t4\nmember\tboost\t0\t0\nmember\tgear\t2\t1\nmember\tspare\t3\t1\n"

abbrev sent : String
sent = "int\t1\tLE\t0\t8\tzero\tzero\tsigned\nint\t2\tLE\t0\t16\tzero\tzero\tunsigned\ncomp\t5\nmember\toil\t0\t1\nmember\tgear\t2\t1\nmember\tboost\t4\t0\n"

abbrev first_log : List ℕ
first_log = 0xf3 ∷ 0x80 ∷ 0x05 ∷ 0x01 ∷ 0x00 ∷ 0x70 ∷ 0x07 ∷ 0x02 ∷ 0x01 ∷ 0x40 ∷ 0x06 ∷ 0x03 ∷ 0x01 ∷ 0x40 ∷ 0x06 ∷ 0x04 ∷ 0x63 ∷ []

abbrev second_log : List ℕ
second_log = 0x09 ∷ 0x00 ∷ 0x05 ∷ 0x00 ∷ 0x80 ∷ 0x00 ∷ 0x00 ∷ 0x07 ∷ 0x00 ∷ 0x07 ∷ 0x01 ∷ 0x00 ∷ 0x08 ∷ 0x00 ∷ 0x14 ∷ 0x02 ∷ 0x00 ∷ 0x09 ∷ 0x00 ∷ 0x15 ∷ 0x63 ∷ []

abbrev shown_logs : List ℕ
shown_logs = bytes "record\tat\tfirst\tsecond\n0\t4\t-200\t-128\n2\t2\t6\t8\n3\t2\t6\t9\n3\t4\t20\t21\n"

rows : List Row
rows =
    -- "Numbers compare exactly, whatever the widths"
    one byte signed_two (0xc8 ∷ []) (0x00 ∷ 0xc8 ∷ []) ""
    ∷ one byte signed_byte (0xff ∷ []) (0xff ∷ []) "0\t0\t255\t-1\n"
    ∷ one twelve signed_byte (0xf3 ∷ 0x80 ∷ []) (0x80 ∷ []) "0\t0\t-200\t-128\n"
    ∷ one low_bits high_bits (0xa5 ∷ []) (0x5a ∷ []) ""
    -- "enums compare by symbol"
    ∷ one valve exchanged (0x00 ∷ []) (0x01 ∷ []) ""
    ∷ one valve exchanged (0x00 ∷ []) (0x00 ∷ []) "0\t0\t0\t0\n"
    -- "a number without a symbol equals only the same number without one"
    ∷ one open_alone open_in_two (0x07 ∷ []) (0x00 ∷ 0x07 ∷ []) ""
    ∷ one open_alone nameless (0x00 ∷ []) (0x00 ∷ []) "0\t0\t0\t0\n"
    -- "a real against a real compares its 64 bits"
    ∷ one realBE realLE (0x7f ∷ 0xf8 ∷ 0x00 ∷ 0x00 ∷ 0x00 ∷ 0x00 ∷ 0x00 ∷ 0x01 ∷ []) (0x01 ∷ 0x00 ∷ 0x00 ∷ 0x00 ∷ 0x00 ∷ 0x00 ∷ 0xf8 ∷ 0x7f ∷ []) ""
    ∷ one realBE realBE (0x80 ∷ 0x00 ∷ 0x00 ∷ 0x00 ∷ 0x00 ∷ 0x00 ∷ 0x00 ∷ 0x00 ∷ []) (0x00 ∷ 0x00 ∷ 0x00 ∷ 0x00 ∷ 0x00 ∷ 0x00 ∷ 0x00 ∷ 0x00 ∷ []) "0\t0\t9223372036854775808\t0\n"
    -- "a real against an int by exact worth": −0 is 0, and a fraction is no int
    ∷ one realBE byte (0x80 ∷ 0x00 ∷ 0x00 ∷ 0x00 ∷ 0x00 ∷ 0x00 ∷ 0x00 ∷ 0x00 ∷ []) (0x00 ∷ []) ""
    ∷ one realBE byte (0x40 ∷ 0x6f ∷ 0xe0 ∷ 0x00 ∷ 0x00 ∷ 0x00 ∷ 0x00 ∷ 0x00 ∷ []) (0xff ∷ []) ""
    ∷ one realBE byte (0x40 ∷ 0x6f ∷ 0xf0 ∷ 0x00 ∷ 0x00 ∷ 0x00 ∷ 0x00 ∷ 0x00 ∷ []) (0xff ∷ []) "0\t0\t4643193623632936960\t255\n"
    -- an int against a real: 2^53 is a double, and 2^53 + 1 is not
    ∷ one unsigned_eight realBE (0x00 ∷ 0x20 ∷ 0x00 ∷ 0x00 ∷ 0x00 ∷ 0x00 ∷ 0x00 ∷ 0x00 ∷ []) (0x43 ∷ 0x40 ∷ 0x00 ∷ 0x00 ∷ 0x00 ∷ 0x00 ∷ 0x00 ∷ 0x00 ∷ []) ""
    ∷ one unsigned_eight realBE (0x00 ∷ 0x20 ∷ 0x00 ∷ 0x00 ∷ 0x00 ∷ 0x00 ∷ 0x00 ∷ 0x01 ∷ []) (0x43 ∷ 0x40 ∷ 0x00 ∷ 0x00 ∷ 0x00 ∷ 0x00 ∷ 0x00 ∷ 0x00 ∷ []) "0\t0\t9007199254740993\t4845873199050653696\n"
    -- "where not-a-number always differs"
    ∷ one realBE byte (0x7f ∷ 0xf8 ∷ 0x00 ∷ 0x00 ∷ 0x00 ∷ 0x00 ∷ 0x00 ∷ 0x00 ∷ []) (0x00 ∷ []) "0\t0\t9221120237041090560\t0\n"
    -- and so does an infinity
    ∷ one realBE byte (0x7f ∷ 0xf0 ∷ 0x00 ∷ 0x00 ∷ 0x00 ∷ 0x00 ∷ 0x00 ∷ 0x00 ∷ []) (0x00 ∷ []) "0\t0\t9218868437227405312\t0\n"
    -- "Order: record, then byte", "at in the second layout": boost differs in record 0, nothing in 1, gear in 2, gear and boost in 3. Oil and the spare byte are
    -- not compared, nor what stands behind the records; bytes behind the list stay
    ∷ record { call = lent 8192 logged sent 4 first_log second_log 68; result = done shown_logs 68 }
    -- the same in a list buffer with no byte to spare
    ∷ record { call = lent 8192 logged sent 4 first_log second_log 63; result = done shown_logs 63 }
    -- no records: the header alone
    ∷ record { call = lent 8192 logged sent 0 [] [] 30; result = done (bytes "record\tat\tfirst\tsecond\n") 30 }
    -- "Refusals: 2 to 7 as in the copying form": 2, under 8,192 words
    ∷ record { call = lent 8191 byte byte 1 (1 ∷ []) (2 ∷ []) 40; result = refusal 2 0 40 }
    -- 3 and 4, a faulty sheet, with its first faulty line
    ∷ record { call = lent 8192 "int\t1\tLE\t0\t8\tzero\tzero\tunsigned\nenum\t1\n" byte 1 (1 ∷ []) (2 ∷ []) 40; result = refusal 3 2 40 }
    ∷ record { call = lent 8192 byte "real\t8\tLE" 1 (1 ∷ []) (2 ∷ []) 40; result = refusal 4 1 40 }
    -- 5, no path
    ∷ record { call = lent 8192 byte low_bits 1 (1 ∷ []) (2 ∷ []) 40; result = refusal 5 0 40 }
    -- 6, n above 65,536
    ∷ record { call = lent 8192 byte byte 65537 (1 ∷ []) (2 ∷ []) 40; result = refusal 6 0 40 }
    -- 7, "with nS and nD for the two buffers"
    ∷ record { call = lent 8192 byte byte 2 (1 ∷ []) (2 ∷ 2 ∷ []) 60; result = refusal 7 0 60 }
    ∷ record { call = lent 8192 byte byte 2 (1 ∷ 1 ∷ []) (2 ∷ []) 60; result = refusal 7 0 60 }
    -- "and 7 for the list": a byte less than it has
    ∷ record { call = lent 8192 logged sent 4 first_log second_log 62; result = refusal 7 0 62 }
    ∷ []

worked : map (λ (r : Row). made r.call) rows ≡ map (λ (r : Row). r.result) rows
unfolding rows made counted lent done refusal one same symbol_of numberNamed leaves.within leaves.leaf_at paths.member_named paths.has_path matches.match_at text.split fields.digits fields.decimal fields.number fields.enum_number fields.decimal_in fields.each_printable fields.name line.column line.order line.pad line.sign line.layout_columns line.int_line line.bits_line line.enum_line_of line.value_line_of line.compound_line_of line.optional line.member_word line.member_line_of line.numbers line.array_line_of line.real_line_of line.line_kind line.line_of sheet.type_numbered sheet.is_apart sheet.judge sheet.lines_from sheet.outcome_of sheet.sheet_of worths.worth listing.at_byte listing.in_record listing.in_records listing.lines listing.shown calls.checks calls.answer calls.list_after
worked = refl
