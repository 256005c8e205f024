-- `wide_stores::store_whole_64` meets its contract. Assumes nothing.
use Rattle.wide_stores.proofs.store_whole_64.Goals as goal

pub returns-in-LE : goal.returns-in-LE
returns-in-LE c = rw c.in-LE.is c.store_le_64.ensures

pub returns-in-BE : goal.returns-in-BE
returns-in-BE c = rw c.in-BE.is c.store_be_64.ensures
