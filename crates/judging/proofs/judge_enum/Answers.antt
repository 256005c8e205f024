-- `judging::judge_enum` meets its contract. Assumes nothing.
use Rattle.sheet_steps.proofs.Added.{refused}
use Rattle.sheet_steps.proofs.Lines.{enum_judged, enum_high, enum_other}
use mathlib.Core.Path.{ap}
use mathlib.Core.Bool.{not}
use Rattle.judging.proofs.judge_enum.Goals as goal

pub returns-then-so_far-base : goal.returns-then-so_far-base
returns-then-so_far-base c = refused c.requires.0 (enum_high c.args.half.now c.args.sheet.now _ c.if-so_far-base.true)

pub returns-then-not-is_int : goal.returns-then-not-is_int
returns-then-not-is_int c = refused c.requires.0 (enum_other c.args.sheet.now c.requires.0 c.if-so_far-base.false c.is_int.ensures (ap not c.if-not-is_int.true))

pub returns : goal.returns
returns c = enum_judged c.args.sheet.now c.requires.0 c.requires.1 c.if-so_far-base.false c.is_int.ensures (ap not c.if-not-is_int.false) c.layout_at-l.ensures.0 c.enum_record.ensures c.next_type.ensures
