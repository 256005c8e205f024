-- The first exception over n records, by the entries of a plan: the walk of a call's STOP.
use Rattle.std.specs.Prelude.{Option, Some, None, List, ℕ, zero, suc, ◌+◌}
use Rattle.records.specs.Records.{record_at}
use Rattle.records.specs.Plan.{Entry, Raised, first_by}
use Rattle.records.specs.Plan.Raised.{nowhere, at}
use Rattle.loops.specs.declared.Exception.{Exception}

-- record i's first exception, if there is one, else what the later records say
abbrev pub or_stop : ℕ → Raised → Option Exception → Option Exception
or_stop i nowhere later = later
or_stop i (at b kind given) later = Some (record { «record» = i; byte = b; kind = kind; given = given })

-- over the k records of s bytes from record i on
unfoldable pub stop_by : List Entry → ℕ → List ℕ → ℕ → ℕ → Option Exception
stop_by es s source i zero = None
stop_by es s source i (suc k) = or_stop i (first_by es (record_at s i source)) (stop_by es s source (i + 1) k)
