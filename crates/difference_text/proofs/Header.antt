-- The header of the list of differences. Assumes nothing.
use mathlib.Core.Path.{◌≡◌, refl}
use lib.ListN.{length}
use Rattle.differences.specs.Differences.{header}

pub header_length : length header ≡ 23
header_length = refl
