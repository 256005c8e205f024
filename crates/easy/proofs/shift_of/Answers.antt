-- `easy::shift_of` meets its contract. Assumes nothing.
use Rattle.easy.proofs.shift_of.Goals as goal

pub returns-in-BE : goal.returns-in-BE
returns-in-BE c = rw (c.in-BE.is, c.bits_of.ensures, c.bits_of-in-BE.ensures)
