-- `reading::read_lines` meets its contract. The invariant: the lines so far were accepted, and those left decide (`Loop`). Assumes nothing.
use Rattle.std.specs.Prelude.{Some, None}
use Rattle.std.proofs.lemmas.Result.{err_from_is_err_and}
use mathlib.Core.Path.{◌≡◌, ◌∙◌}
use native.Mathlib.Omega.{arith}
use Rattle.sheet_steps.proofs.Loop.{first, unread, faulty_here, further, next_line, no_line, all_lines}
use Rattle.reading.proofs.read_lines.Goals as goal

pub loop-at-init : goal.loop-at-init
loop-at-init c = first _ _ (c.half-1.given.1 ∙ c.requires.1)

pub returns-in_default : goal.returns-in_default
returns-in_default c = unread _ _ _ _ _ c.loop-at.invariant (omega arith) c.in_default.ensures

pub judge_line-requires : goal.judge_line-requires
judge_line-requires c = (c.loop-at.invariant.holds, c.loop-at.invariant.noted, c.in-Some.ensures.within, c.requires.0)

pub returns-in_err-so_far : goal.returns-in_err-so_far
returns-in_err-so_far c =
    let none : c.judge_line.result ≡ None = grind arith in
    let line : c.in_err-so_far.field-0.0 ≡ record { 0 = c.loop-at.k } = grind arith in
    let p = err_from_is_err_and c.from_residual.result c.from_residual.ensures.1 in
    rw (p.1, p.2, line) (faulty_here _ _ _ _ _ _ c.loop-at.invariant (omega arith) _ c.in-Some.ensures _ c.judge_line.ensures none)

pub loop-at-smaller : goal.loop-at-smaller
loop-at-smaller c =
    let some : c.judge_line.result ≡ Some c.in_ok-so_far.so_far = grind arith in
    let on = further _ _ _ _ _ _ c.loop-at.invariant (omega arith) _ c.in-Some.ensures _ c.judge_line.ensures _ some in
    omega (arith, c.next_of-next.ensures)

pub loop-at-preserved : goal.loop-at-preserved
loop-at-preserved c =
    let some : c.judge_line.result ≡ Some c.in_ok-so_far.so_far = grind arith in
    next_line _ _ _ _ _ _ c.loop-at.invariant (omega arith) _ c.in-Some.ensures _ c.judge_line.ensures _ some _ c.next_of-next.ensures

pub returns-then-so_far-eq0 : goal.returns-then-so_far-eq0
returns-then-so_far-eq0 c = no_line _ _ _ _ _ c.loop-at.invariant (omega arith) c.if-so_far-eq0.true

pub returns : goal.returns
returns c = all_lines _ _ _ _ _ c.loop-at.invariant (omega arith) c.if-so_far-eq0.false
