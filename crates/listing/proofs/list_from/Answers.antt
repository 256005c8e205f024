-- What is printed of the bytes that came is what is printed of the whole text. Assumes nothing.
use Prim.Native.Nat.{◌<◌}
use native.Mathlib.Omega.{arith}
use lib.ListN.{length, take}
use mathlib.Core.List.{[]}
use lib.Seq.{length-take-le}
use Rattle.std.specs.Io.KnownBytes.{IsAtEnd}
use Rattle.answer.specs.declared.Answer.TheVariants.{Source}
use Rattle.listing.specs.Output.{refusal, output_of}
use Rattle.listing.specs.Note.{note_of, said_of}
use Rattle.listing.proofs.Whole.{long_output, long_said, whole}
use Rattle.listing.proofs.list_from.Goals as goal

pub returns : goal.returns
returns g c =
    let came = c.in_ok-n.ensures in
    let bytes = c.fill.new.bytes in
    let n = c.in_ok-n.n in
    let counted = length-take-le n bytes came.room in
    let end : length (take n bytes) < 16385 → IsAtEnd _ = λ h. came.end (omega (arith, h, counted, c.fill.auto.bytes)) in
    record {
      printed = whole output_of (refusal (Source 0)) long_output _ _ _ _ _ _ came.bytes end c.print_output.ensures.printed;
      said = whole said_of (note_of [] 0) long_said _ _ _ _ _ _ came.bytes end c.print_output.ensures.said;
    }
