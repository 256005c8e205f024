-- Document 01, "Exercises with answers": the marked ones that document 02 leaves, with the two of 2026-04; its leaf list, two more that tell the remaining
-- classroom errors apart, numbers to and from the reals of 2026-03, what 2026-05 has STOP name, and the symbols that 2026-07 asks for, as one statement over one
-- list, which the checker computes. Assumes nothing.
use mathlib.Core.Path.{◌≡◌, refl}
use mathlib.Core.Bool.{Bool, true, false}
use mathlib.Core.List.{List, [], ◌∷◌, ◌++◌, map}
use Prim.Native.Nat.{ℕ}
use Prim.Native.String.{String}
use lib.IntN.{ℤ, pos, negsuc}
use lib.ListN.{replicate}
use Rattle.answer.specs.declared.Answer.{Answer}
use Rattle.answer.specs.declared.Answer.TheVariants.{Done, Destination, Stop, Range, Symbols}
use Rattle.answer.specs.declared.Given.TheVariants.{Whole, Real}
use Rattle.answer.specs.Answer.{number_of, values_of}
use Rattle.bits.specs.declared.Order.{Order}
use Rattle.bits.specs.declared.Order.TheVariants.{LE, BE}
use Rattle.layout.specs.declared.Class.TheVariants.{Int}
use Rattle.layout.specs.declared.Pad.{Pad}
use Rattle.layout.specs.declared.Pad.TheVariants.{Zero, One, Keep}
use Rattle.layout.specs.declared.Layout.{Layout}
use Rattle.layout.specs.Setters as setters
use Rattle.layout.specs.Setters.{Edit, edit}
use Rattle.layout.specs.Setters.Edit.{size, field}
use Rattle.number.specs.Place.{stored}
use Rattle.number.specs.Number.{number_at, fitted}
use Rattle.reals.specs.Worth as worths
use Rattle.reals.specs.Nearest as nearest
use Rattle.reals.specs.Convert as reals
use Rattle.datatype.specs.Datatype.{same}
use Rattle.datatype.specs.Symbols.{symbol_of, number_of as numberNamed}
use Rattle.datatype.specs.Leaves as leaves
use Rattle.datatype.specs.Paths as paths
use Rattle.datatype.specs.Matches as matches
use Rattle.datatype.specs.Handling as handling
use Rattle.datatype.specs.Handling.{clamp, stop}
use Rattle.datatype.specs.SymbolSets as symbols
use Rattle.text.specs.Text as text
use Rattle.text.specs.Text.{bytes}
use Rattle.text.specs.Field as fields
use Rattle.line.specs.Line as line
use Rattle.sheet.specs.Sheet as sheet
use Rattle.records.specs.Record as one
use Rattle.records.specs.Records as many
use Rattle.runs.specs.Run as runs
use Rattle.runs.specs.Run.{Run, copying_run, in_place_run, plain, answer, after}
use Rattle.leaf_lines.specs.LeafList as lists
use Rattle.leaves.specs.Call as listing
use Rattle.leaves.specs.Call.{answer_of, list_after}

-- ---- what an exercise asks, and what its answer says

data Exercise : Type 0 where
  store : Layout → ℤ → List ℕ → Exercise  -- a number brought into a layout's place, over a background
  read : Layout → List ℕ → Exercise  -- the number in a layout's place
  convert : String → String → List ℕ → List ℕ → Exercise  -- one record, clamped: the two sheets, the record and the background
  set : Layout → Edit → Exercise  -- a setter's call
  run : Run → Exercise  -- a whole call
  list : String → Exercise  -- the leaf list of a sheet

data Solution : Type 0 where
  bytes_and_kind : List ℕ → ℕ → Solution
  number : ℤ → Solution
  edited : ℕ → Layout → Solution
  answered : Answer → List ℕ → Solution

-- a table of just enough words, not all zero
abbrev pub words : List ℕ
words = 7 ∷ replicate 8191 0

solve : Exercise → Solution
solve (store l z background) = bytes_and_kind (stored l 0 (fitted l z).raw background) (fitted l z).kind
solve (read l bs) = number (number_at l 0 bs)
solve (convert s d from over) =
    bytes_and_kind (after (copying_run (bytes s) (bytes d) 1 clamp from over words)) (values_of (answer (copying_run (bytes s) (bytes d) 1 plain from over words))).kind
solve (set l e) = edited (number_of (edit e l).answer) (edit e l).layout
solve (run r) = answered (answer r) (after r)
solve (list s) = answered (answer_of (bytes s) 100 8192) (list_after (bytes s) (replicate 100 0) 8192)

record Row : Type 0 where
  exercise : Exercise
  solution : Solution

abbrev int : ℕ → Order → ℕ → ℕ → Pad → Pad → Bool → Layout
int s o at p lsb msb signed =
    record { class = Int; size = record { 0 = s }; order = o; offset = record { 0 = at }; precision = p; lsb = lsb; msb = msb; signed = signed }

-- size 4, offset 16, precision 16
abbrev wide : Order → Layout
wide o = int 4 o 16 16 Zero Zero false

abbrev twelve : ℕ → Layout
twelve at = int 2 BE at 12 Zero Zero true

abbrev state : String
state = "int\t1\tLE\t0\t8\tzero\tzero\tunsigned\nenum\t0\nvalue\topen\t0\nvalue\tshut\t1\n"

abbrev exchanged : String
exchanged = "int\t1\tLE\t0\t8\tzero\tzero\tunsigned\nenum\t0\nvalue\topen\t1\nvalue\tshut\t0\n"

abbrev open_alone : String
open_alone = "int\t1\tLE\t0\t8\tzero\tzero\tunsigned\nenum\t0\nvalue\topen\t0\n"

-- a state that is open, there and back
abbrev pub there : Run
there = copying_run (bytes open_alone) (bytes state) 1 plain (0 ∷ []) (0x55 ∷ []) words

abbrev pub back : Run
back = copying_run (bytes state) (bytes open_alone) 1 plain (after there) (0x55 ∷ []) words

abbrev signed_byte : String
signed_byte = "int\t1\tLE\t0\t8\tzero\tzero\tsigned\n"

abbrev unsigned_byte : String
unsigned_byte = "int\t1\tLE\t0\t8\tzero\tzero\tunsigned\n"

abbrev realLE : String
realLE = "real\t8\tLE\n"

abbrev realBE : String
realBE = "real\t8\tBE\n"

abbrev unsigned_long : String
unsigned_long = "int\t8\tBE\t0\t64\tzero\tzero\tunsigned\n"

abbrev signed_long : String
signed_long = "int\t8\tBE\t0\t64\tzero\tzero\tsigned\n"

rows : List Row
rows =
    -- 4386 into 4 bytes, precision 16, offset 16
    record { exercise = store (wide BE) (pos 4386) (0 ∷ 0 ∷ 0 ∷ 0 ∷ []); solution = bytes_and_kind (0x11 ∷ 0x22 ∷ 0 ∷ 0 ∷ []) 0 }
    ∷ record { exercise = store (wide LE) (pos 4386) (0 ∷ 0 ∷ 0 ∷ 0 ∷ []); solution = bytes_and_kind (0 ∷ 0 ∷ 0x22 ∷ 0x11 ∷ []) 0 }
    -- the sign is the field's top bit: −200 at offset 4, where it is the container's too, and at offset 0
    ∷ record { exercise = read (twelve 4) (0xf3 ∷ 0x80 ∷ []); solution = number (negsuc 199) }
    ∷ record { exercise = read (twelve 0) (0x0f ∷ 0x38 ∷ []); solution = number (negsuc 199) }
    ∷ record { exercise = convert "int\t2\tBE\t4\t12\tzero\tzero\tsigned\n" signed_byte (0xf3 ∷ 0x80 ∷ []) (0 ∷ []); solution = bytes_and_kind (0x80 ∷ []) 2 }
    ∷ record { exercise = convert signed_byte "int\t2\tLE\t0\t16\tzero\tzero\tunsigned\n" (0xff ∷ []) (9 ∷ 9 ∷ []); solution = bytes_and_kind (0 ∷ 0 ∷ []) 2 }
    ∷ record { exercise = convert unsigned_byte signed_byte (0xff ∷ []) (0 ∷ []); solution = bytes_and_kind (0x7f ∷ []) 1 }
    -- pads: ones above, and the background's on both sides
    ∷ record { exercise = store (int 2 LE 0 4 Zero One false) (pos 5) (0 ∷ 0 ∷ []); solution = bytes_and_kind (0xf5 ∷ 0xff ∷ []) 0 }
    ∷ record { exercise = store (int 1 LE 2 4 Keep Keep false) (pos 5) (0xc3 ∷ []); solution = bytes_and_kind (0xd7 ∷ []) 0 }
    -- enums go by their symbols
    ∷ record { exercise = convert state exchanged (0 ∷ []) (9 ∷ []); solution = bytes_and_kind (1 ∷ []) 0 }
    ∷ record { exercise = convert state exchanged (7 ∷ []) (9 ∷ []); solution = bytes_and_kind (0xff ∷ []) 3 }
    -- a real to an int: the fraction goes first, then the range is looked at
    ∷ record { exercise = convert realBE unsigned_byte (0x40 ∷ 0x6f ∷ 0xf0 ∷ 0 ∷ 0 ∷ 0 ∷ 0 ∷ 0 ∷ []) (9 ∷ []); solution = bytes_and_kind (0xff ∷ []) 5 }
    ∷ record { exercise = convert realLE unsigned_byte (0 ∷ 0 ∷ 0 ∷ 0 ∷ 0 ∷ 8 ∷ 0x70 ∷ 0x40 ∷ []) (9 ∷ []); solution = bytes_and_kind (0xff ∷ []) 1 }
    -- −0.5, −1, −0, an infinity and a not-a-number
    ∷ record { exercise = convert realLE unsigned_byte (0 ∷ 0 ∷ 0 ∷ 0 ∷ 0 ∷ 0 ∷ 0xe0 ∷ 0xbf ∷ []) (9 ∷ []); solution = bytes_and_kind (0 ∷ []) 5 }
    ∷ record { exercise = convert realLE unsigned_byte (0 ∷ 0 ∷ 0 ∷ 0 ∷ 0 ∷ 0 ∷ 0xf0 ∷ 0xbf ∷ []) (9 ∷ []); solution = bytes_and_kind (0 ∷ []) 2 }
    ∷ record { exercise = convert realBE signed_byte (0x80 ∷ 0 ∷ 0 ∷ 0 ∷ 0 ∷ 0 ∷ 0 ∷ 0 ∷ []) (9 ∷ []); solution = bytes_and_kind (0 ∷ []) 5 }
    ∷ record { exercise = convert realBE signed_byte (0xff ∷ 0xf0 ∷ 0 ∷ 0 ∷ 0 ∷ 0 ∷ 0 ∷ 0 ∷ []) (9 ∷ []); solution = bytes_and_kind (0x80 ∷ []) 2 }
    ∷ record { exercise = convert realBE signed_byte (0x7f ∷ 0xf8 ∷ 0 ∷ 0 ∷ 0 ∷ 0 ∷ 0 ∷ 0 ∷ []) (9 ∷ []); solution = bytes_and_kind (0 ∷ []) 4 }
    -- an int to a real: −128 and 2^53 are doubles, 2^53 + 1 is none, and the nearest one is even
    ∷ record { exercise = convert signed_byte realBE (0x80 ∷ []) (replicate 8 9); solution = bytes_and_kind (0xc0 ∷ 0x60 ∷ 0 ∷ 0 ∷ 0 ∷ 0 ∷ 0 ∷ 0 ∷ []) 0 }
    ∷ record {
      exercise = convert unsigned_long realLE (0 ∷ 0x20 ∷ 0 ∷ 0 ∷ 0 ∷ 0 ∷ 0 ∷ 0 ∷ []) (replicate 8 9);
      solution = bytes_and_kind (0 ∷ 0 ∷ 0 ∷ 0 ∷ 0 ∷ 0 ∷ 0x40 ∷ 0x43 ∷ []) 0;
    }
    ∷ record {
      exercise = convert unsigned_long realLE (0 ∷ 0x20 ∷ 0 ∷ 0 ∷ 0 ∷ 0 ∷ 0 ∷ 1 ∷ []) (replicate 8 9);
      solution = bytes_and_kind (0 ∷ 0 ∷ 0 ∷ 0 ∷ 0 ∷ 0 ∷ 0x40 ∷ 0x43 ∷ []) 6;
    }
    -- a real to a real: all 64 bits, of a signalling not-a-number too
    ∷ record {
      exercise = convert realBE realLE (0xff ∷ 0xf0 ∷ 0 ∷ 0 ∷ 0 ∷ 0 ∷ 0 ∷ 1 ∷ []) (replicate 8 9);
      solution = bytes_and_kind (1 ∷ 0 ∷ 0 ∷ 0 ∷ 0 ∷ 0 ∷ 0xf0 ∷ 0xff ∷ []) 0;
    }
    -- setters
    ∷ record { exercise = set (wide LE) (size 3); solution = edited 0 (int 3 LE 8 16 Zero Zero false) }
    ∷ record { exercise = set (wide LE) (size 1); solution = edited 0 (int 1 LE 0 8 Zero Zero false) }
    ∷ record { exercise = set (wide LE) (field 12 20); solution = edited 0 (int 4 LE 12 20 Zero Zero false) }
    ∷ record { exercise = set (wide LE) (field 0 40); solution = edited 0 (int 5 LE 0 40 Zero Zero false) }
    -- in place, shrinking and growing
    ∷ record {
      exercise =
          run
          (in_place_run (bytes "int\t1\tLE\t0\t8\tzero\tzero\tunsigned\ncomp\t4\nmember\ta\t0\t0\nmember\tb\t2\t0\n") (bytes "int\t1\tLE\t0\t8\tzero\tzero\tunsigned\ncomp\t1\nmember\tb\t0\t0\n") 2 plain
          (1 ∷ 2 ∷ 3 ∷ 4 ∷ 5 ∷ 6 ∷ 7 ∷ 8 ∷ []) (0 ∷ 0 ∷ []) words);
      solution = answered (Done 0) (3 ∷ 7 ∷ 0 ∷ 0 ∷ 0 ∷ 0 ∷ 0 ∷ 0 ∷ []);
    }
    ∷ record {
      exercise = run (in_place_run (bytes unsigned_byte) (bytes "int\t2\tBE\t0\t16\tzero\tzero\tunsigned\n") 2 plain (0x0a ∷ 0x0b ∷ 0x77 ∷ 0x77 ∷ []) (0 ∷ 0 ∷ 0 ∷ 0 ∷ []) words);
      solution = answered (Done 0) (0 ∷ 0x0a ∷ 0 ∷ 0x0b ∷ []);
    }
    -- a STOP in record 1 leaves record 0 as it was
    ∷ record {
      exercise = run (copying_run (bytes unsigned_byte) (bytes signed_byte) 2 1 (0x01 ∷ 0xff ∷ []) (0x55 ∷ 0x66 ∷ []) words);
      solution = answered (Stop 1 0 1 (Whole false 255)) (0x55 ∷ 0x66 ∷ []);
    }
    -- the plain forms stop, both records as they were; handling 0 clamps
    ∷ record {
      exercise = run (copying_run (bytes unsigned_byte) (bytes signed_byte) 2 plain (0x01 ∷ 0xff ∷ []) (0x55 ∷ 0x66 ∷ []) words);
      solution = answered (Stop 1 0 1 (Whole false 255)) (0x55 ∷ 0x66 ∷ []);
    }
    ∷ record {
      exercise = run (in_place_run (bytes unsigned_byte) (bytes signed_byte) 2 plain (0x01 ∷ 0xff ∷ []) (0x55 ∷ 0x66 ∷ []) words);
      solution = answered (Stop 1 0 1 (Whole false 255)) (0x01 ∷ 0xff ∷ []);
    }
    ∷ record {
      exercise = run (copying_run (bytes unsigned_byte) (bytes signed_byte) 2 clamp (0x01 ∷ 0xff ∷ []) (0x55 ∷ 0x66 ∷ []) words);
      solution = answered (Done 1) (0x01 ∷ 0x7f ∷ []);
    }
    -- a STOP names the number that was given: of −2^63 the magnitude, of an enum the source's number, of a real its 64 bits
    ∷ record {
      exercise = run (copying_run (bytes signed_long) (bytes unsigned_byte) 1 1 (0x80 ∷ 0 ∷ 0 ∷ 0 ∷ 0 ∷ 0 ∷ 0 ∷ 0 ∷ []) (0x55 ∷ []) words);
      solution = answered (Stop 0 0 2 (Whole true 9223372036854775808)) (0x55 ∷ []);
    }
    ∷ record {
      exercise = run (copying_run (bytes state) (bytes exchanged) 1 1 (7 ∷ []) (0x55 ∷ []) words);
      solution = answered (Stop 0 0 3 (Whole false 7)) (0x55 ∷ []);
    }
    ∷ record {
      exercise = run (copying_run (bytes realBE) (bytes unsigned_byte) 1 1 (0x40 ∷ 4 ∷ 0 ∷ 0 ∷ 0 ∷ 0 ∷ 0 ∷ 0 ∷ []) (0x55 ∷ []) words);
      solution = answered (Stop 0 0 5 (Real 0x4004000000000000)) (0x55 ∷ []);
    }
    -- a leaf that obeys stop stops a call with handling 0, and is named though one that clamps raised before it
    ∷ record {
      exercise = run (copying_run (bytes "int\t1\tLE\t0\t8\tzero\tzero\tunsigned\ncomp\t2\nmember\ta\t0\t0\nmember\tb\t1\t0\n") (bytes "int\t1\tLE\t0\t8\tzero\tzero\tsigned\ncomp\t2\nmember\ta\t0\t0\nmember\tb\t1\t0\tstop\n") 1 clamp (0xff ∷ 0xfe ∷ []) (0x55 ∷ 0x66 ∷ []) words);
      solution = answered (Stop 0 1 1 (Whole false 254)) (0x55 ∷ 0x66 ∷ []);
    }
    -- where it does not raise, the count takes the clamped ones
    ∷ record {
      exercise = run (copying_run (bytes "int\t1\tLE\t0\t8\tzero\tzero\tunsigned\ncomp\t2\nmember\ta\t0\t0\nmember\tb\t1\t0\n") (bytes "int\t1\tLE\t0\t8\tzero\tzero\tsigned\ncomp\t2\nmember\ta\t0\t0\nmember\tb\t1\t0\tstop\n") 1 clamp (0xff ∷ 0x01 ∷ []) (0x55 ∷ 0x66 ∷ []) words);
      solution = answered (Done 1) (0x7f ∷ 0x01 ∷ []);
    }
    -- and of a call with handling 1, which the plain forms have, those whose member says clamp
    ∷ record {
      exercise = run (copying_run (bytes "int\t1\tLE\t0\t8\tzero\tzero\tunsigned\ncomp\t2\nmember\ta\t0\t0\nmember\tb\t1\t0\n") (bytes "int\t1\tLE\t0\t8\tzero\tzero\tsigned\ncomp\t2\nmember\ta\t0\t0\tclamp\nmember\tb\t1\t0\n") 1 plain (0xff ∷ 0x01 ∷ []) (0x55 ∷ 0x66 ∷ []) words);
      solution = answered (Done 1) (0x7f ∷ 0x01 ∷ []);
    }
    ∷ record {
      exercise = run (copying_run (bytes "int\t1\tLE\t0\t8\tzero\tzero\tunsigned\ncomp\t2\nmember\ta\t0\t0\nmember\tb\t1\t0\n") (bytes "int\t1\tLE\t0\t8\tzero\tzero\tsigned\ncomp\t2\nmember\ta\t0\t0\tclamp\nmember\tb\t1\t0\n") 1 plain (0xff ∷ 0xfe ∷ []) (0x55 ∷ 0x66 ∷ []) words);
      solution = answered (Stop 0 1 1 (Whole false 254)) (0x55 ∷ 0x66 ∷ []);
    }
    -- the words of the source sheet are without effect
    ∷ record {
      exercise = run (copying_run (bytes "int\t1\tLE\t0\t8\tzero\tzero\tunsigned\ncomp\t2\nmember\ta\t0\t0\tstop\nmember\tb\t1\t0\tclamp\n") (bytes "int\t1\tLE\t0\t8\tzero\tzero\tsigned\ncomp\t2\nmember\ta\t0\t0\nmember\tb\t1\t0\n") 1 clamp (0xff ∷ 0x01 ∷ []) (0x55 ∷ 0x66 ∷ []) words);
      solution = answered (Done 1) (0x7f ∷ 0x01 ∷ []);
    }
    ∷ record {
      exercise = run (copying_run (bytes "int\t1\tLE\t0\t8\tzero\tzero\tunsigned\ncomp\t2\nmember\ta\t0\t0\tstop\nmember\tb\t1\t0\tclamp\n") (bytes "int\t1\tLE\t0\t8\tzero\tzero\tsigned\ncomp\t2\nmember\ta\t0\t0\nmember\tb\t1\t0\n") 1 plain (0x01 ∷ 0xfe ∷ []) (0x55 ∷ 0x66 ∷ []) words);
      solution = answered (Stop 0 1 1 (Whole false 254)) (0x55 ∷ 0x66 ∷ []);
    }
    -- the innermost member that has a word is obeyed, in each element of an array
    ∷ record {
      exercise = run (copying_run (bytes "int\t1\tLE\t0\t8\tzero\tzero\tunsigned\ncomp\t2\nmember\ta\t0\t0\nmember\tb\t1\t0\narray\t1\t2\ncomp\t4\nmember\tlap\t0\t2\n") (bytes "int\t1\tLE\t0\t8\tzero\tzero\tsigned\ncomp\t2\nmember\ta\t0\t0\tclamp\nmember\tb\t1\t0\narray\t1\t2\ncomp\t4\nmember\tlap\t0\t2\tstop\n") 1 clamp (0xff ∷ 0x01 ∷ 0xff ∷ 0x02 ∷ []) (0x01 ∷ 0x02 ∷ 0x03 ∷ 0x04 ∷ []) words);
      solution = answered (Done 2) (0x7f ∷ 0x01 ∷ 0x7f ∷ 0x02 ∷ []);
    }
    ∷ record {
      exercise = run (copying_run (bytes "int\t1\tLE\t0\t8\tzero\tzero\tunsigned\ncomp\t2\nmember\ta\t0\t0\nmember\tb\t1\t0\narray\t1\t2\ncomp\t4\nmember\tlap\t0\t2\n") (bytes "int\t1\tLE\t0\t8\tzero\tzero\tsigned\ncomp\t2\nmember\ta\t0\t0\tclamp\nmember\tb\t1\t0\narray\t1\t2\ncomp\t4\nmember\tlap\t0\t2\tstop\n") 1 clamp (0xff ∷ 0x01 ∷ 0xff ∷ 0xfe ∷ []) (0x01 ∷ 0x02 ∷ 0x03 ∷ 0x04 ∷ []) words);
      solution = answered (Stop 0 3 1 (Whole false 254)) (0x01 ∷ 0x02 ∷ 0x03 ∷ 0x04 ∷ []);
    }
    ∷ record {
      exercise = run (copying_run (bytes "int\t1\tLE\t0\t8\tzero\tzero\tunsigned\ncomp\t2\nmember\ta\t0\t0\nmember\tb\t1\t0\narray\t1\t2\ncomp\t4\nmember\tlap\t0\t2\n") (bytes "int\t1\tLE\t0\t8\tzero\tzero\tsigned\ncomp\t2\nmember\ta\t0\t0\tstop\nmember\tb\t1\t0\narray\t1\t2\ncomp\t4\nmember\tlap\t0\t2\tclamp\n") 1 plain (0x01 ∷ 0xfe ∷ 0xff ∷ 0x02 ∷ []) (0x01 ∷ 0x02 ∷ 0x03 ∷ 0x04 ∷ []) words);
      solution = answered (Stop 0 2 1 (Whole false 255)) (0x01 ∷ 0x02 ∷ 0x03 ∷ 0x04 ∷ []);
    }
    -- a member that is not matched raises nothing, whatever its word
    ∷ record {
      exercise = run (copying_run (bytes "int\t1\tLE\t0\t8\tzero\tzero\tunsigned\ncomp\t2\nmember\ta\t0\t0\nmember\tb\t1\t0\n") (bytes "int\t1\tLE\t0\t8\tzero\tzero\tsigned\ncomp\t2\nmember\ta\t0\t0\nmember\tlid\t1\t0\tstop\n") 1 clamp (0xff ∷ 0xfe ∷ []) (0x55 ∷ 0x66 ∷ []) words);
      solution = answered (Done 1) (0x7f ∷ 0x66 ∷ []);
    }
    -- another word is a fault of its line
    ∷ record {
      exercise = run (copying_run (bytes "int\t1\tLE\t0\t8\tzero\tzero\tunsigned\ncomp\t2\nmember\ta\t0\t0\nmember\tb\t1\t0\n") (bytes "int\t1\tLE\t0\t8\tzero\tzero\tsigned\ncomp\t2\nmember\ta\t0\t0\tstops\n") 1 clamp (0xff ∷ 0xfe ∷ []) (0x55 ∷ 0x66 ∷ []) words);
      solution = answered (Destination 3) (0x55 ∷ 0x66 ∷ []);
    }
    -- a symbol more in the destination: the run is done, and its way back is refused before any record is looked at, or with none to look at
    ∷ record { exercise = run there; solution = answered (Done 0) (0 ∷ []) }
    ∷ record { exercise = run back; solution = answered Symbols (0x55 ∷ []) }
    ∷ record { exercise = run (in_place_run (bytes state) (bytes open_alone) 0 1 [] [] words); solution = answered Symbols [] }
    -- each matched member is looked at; one whose name the source lacks is not matched, and its symbols don't count
    ∷ record {
      exercise =
          run
          (copying_run (bytes "int\t1\tLE\t0\t8\tzero\tzero\tunsigned\nenum\t0\nvalue\topen\t0\nvalue\tshut\t1\ncomp\t2\nmember\tvalve\t0\t1\nmember\tdoor\t1\t1\n") (bytes "int\t1\tLE\t0\t8\tzero\tzero\tunsigned\nenum\t0\nvalue\topen\t0\nvalue\tshut\t1\nenum\t0\nvalue\topen\t0\ncomp\t2\nmember\tvalve\t0\t1\nmember\tdoor\t1\t2\n") 1 plain
          (1 ∷ 0 ∷ []) (0x55 ∷ 0x66 ∷ []) words);
      solution = answered Symbols (0x55 ∷ 0x66 ∷ []);
    }
    ∷ record {
      exercise =
          run
          (copying_run (bytes "int\t1\tLE\t0\t8\tzero\tzero\tunsigned\nenum\t0\nvalue\topen\t0\nvalue\tshut\t1\ncomp\t2\nmember\tvalve\t0\t1\nmember\tdoor\t1\t1\n") (bytes "int\t1\tLE\t0\t8\tzero\tzero\tunsigned\nenum\t0\nvalue\topen\t0\nvalue\tshut\t1\nenum\t0\nvalue\topen\t0\ncomp\t2\nmember\tvalve\t0\t1\nmember\tlid\t1\t2\n") 1 plain
          (1 ∷ 0 ∷ []) (0x55 ∷ 0x66 ∷ []) words);
      solution = answered (Done 0) (1 ∷ 0x66 ∷ []);
    }
    ∷ record {
      exercise =
          list "int\t2\tBE\t4\t12\tzero\tzero\tunsigned\nint\t1\tLE\t0\t8\tzero\tzero\tsigned\nenum\t1\nvalue\topen\t0\nvalue\tshut\t1\narray\t0\t3\ncomp\t8\nmember\tboost\t0\t3\nmember\tvalve\t7\t2\n";
      solution = answered (Done 47) (bytes "at\tsize\tclass\n0\t2\tint\n2\t2\tint\n4\t2\tint\n7\t1\tenum\n" ++ replicate 53 0);
    }
    ∷ []

solved : map (λ (r : Row). solve r.exercise) rows ≡ map (λ (r : Row). r.solution) rows
unfolding rows solve setters.set_size setters.set_field same symbol_of numberNamed leaves.within leaves.leaf_at paths.member_named paths.has_path matches.match_at symbols.has_symbol symbols.all_stand_in symbols.keeps_symbols text.split fields.digits fields.decimal fields.number fields.enum_number fields.decimal_in fields.each_printable fields.name line.column line.order line.pad line.sign line.layout_columns line.int_line line.bits_line line.enum_line_of line.value_line_of line.compound_line_of line.optional line.member_word line.member_line_of line.numbers line.array_line_of line.real_line_of line.line_kind line.line_of sheet.type_numbered sheet.is_apart sheet.judge sheet.lines_from sheet.outcome_of sheet.sheet_of worths.worth nearest.highest nearest.magnitude_bits reals.int_to_real reals.real_to_int_of one.reading one.with_leaf one.with_leaves_below one.kind_at one.given_at one.raised_below one.first_raising many.joined many.exceptions one.stop_kind_at handling.word_at handling.handling_at runs.checks_of runs.stop_from runs.answer runs.after lists.leaf_lines lists.leaf_list listing.answer_of listing.list_after
solved = refl
