-- What the code's own form of a real without its fraction means. No meaning of document 02 stands here.
use Rattle.std.specs.Prelude.{cond, not, ◌/◌, ◌%◌, ◌^◌, eqb, ltb}
use Rattle.real_numbers.specs.declared.cut.Cut.{Cut}
use Rattle.real_numbers.specs.declared.cut.Cut.TheVariants.{NotANumber, Beyond, Whole}
use Rattle.reals.specs.Worth.{quanta_per_one, Worth}
use Rattle.reals.specs.Worth.Worth.{not_a_number, infinite, finite}

abbrev pub cut_of : Worth → Cut
cut_of not_a_number = NotANumber
cut_of (infinite s) = Beyond s
cut_of (finite s m) = cond (ltb (m / quanta_per_one) (2 ^ 64)) (Whole s (m / quanta_per_one) (not (eqb (m % quanta_per_one) 0))) (Beyond s)
