-- What the search for a span promises.
use Rattle.std.specs.Prelude.{List, ℕ, Option, Some, None}
use Rattle.plans.specs.Spans.{SpanOf}
use Rattle.enum_spans.specs.declared.Span.{Span}

abbrev pub SpanFound : List ℕ → ℕ → ℕ → Option Span → Type 0
SpanFound w k room (Some s) = SpanOf w k room s.low s.count
SpanFound w k room None = Unit {0}
