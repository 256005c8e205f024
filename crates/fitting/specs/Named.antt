-- What the functions inside this crate and above it promise where something else than the fitted number was given. No meaning of document 02 stands here.
use Rattle.answer.specs.declared.Given.{Given}
use Rattle.number.specs.declared.Fitted.{Fitted}

-- f, where g was given
abbrev pub named : Given → Fitted → Fitted
named g f = record { raw = f.raw; kind = f.kind; given = g }
