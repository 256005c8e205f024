-- `judging::may_add` meets its contract. Assumes nothing.
use Prim.Native.Nat.{ℕ, ◌+◌}
use mathlib.Core.List.{List}
use mathlib.Core.Path.{◌≡◌, sym, subst}
use native.Mathlib.Omega.{arith}
use lib.ListN.{take}
use lib.Seq.{take_all, length-take-le}
use Rattle.sheet.specs.Sheet.{may_place}
use Rattle.table.specs.Table.{type_at, bytes_at, members_at, size_word, first_word, rows_word}
use Rattle.name_marks.specs.Marks.{end_word}
use Rattle.sheet_steps.specs.Noted.{Marked, Ended}
use Rattle.judging.proofs.may_add.Goals as goal

pub slice_bounds-may_place-end : goal.slice_bounds-may_place-end
slice_bounds-may_place-end c = sym (length-take-le 4096 c.args.half.now (omega (arith, c.requires.0)))

pub may_place-requires : goal.may_place-requires
may_place-requires c =
    let a = c.args in
    let whole : a.half.now ≡ take 4096 a.half.now = sym (take_all 4096 a.half.now (omega (arith, c.requires.0))) in (
      c.requires.1,
      c.requires.2,
      c.requires.3,
      c.requires.4,
      c.requires.5,
      c.requires.6,
      c.requires.7,
      subst (λ (w : List ℕ). Marked w a.sheet.now (first_word w a.type_number + rows_word w a.type_number)) whole c.requires.8,
      subst (λ (w : List ℕ). Ended w (first_word w a.type_number) (first_word w a.type_number + rows_word w a.type_number) (end_word w a.type_number)) whole c.requires.9,
    )

pub returns : goal.returns
returns c =
    let a = c.args in
    let all : take 4096 a.half.now ≡ a.half.now = take_all 4096 a.half.now (omega (arith, c.requires.0)) in (
      subst
          (λ (w : List ℕ). c.may_place.result ≡ may_place (size_word w a.type_number) (members_at (type_at w a.sheet.now) w a.sheet.now (first_word w a.type_number) (rows_word w a.type_number)) (bytes_at a.sheet.now a.start a.len) a.offset a.width)
          all
          c.may_place.ensures.0,
      c.may_place.ensures.1,
    )
