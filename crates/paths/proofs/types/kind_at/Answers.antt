-- `paths::types::kind_at` meets its contract. Assumes nothing.
use mathlib.Core.Path.{ap, ◌∙◌}
use Rattle.paths.specs.Steps.{kind_of}
use Rattle.paths.proofs.Shapes.{kind_low, kind_high}
use Rattle.paths.proofs.types.kind_at.Goals as goal

pub returns-then-class-lt-CLASSES : goal.returns-then-class-lt-CLASSES
returns-then-class-lt-CLASSES c = kind_low _ c.if-class-lt-CLASSES.true ∙ ap kind_of c.type_word-class.ensures.is

pub returns-else-class-lt-CLASSES : goal.returns-else-class-lt-CLASSES
returns-else-class-lt-CLASSES c = kind_high _ c.if-class-lt-CLASSES.false ∙ ap kind_of c.type_word-class.ensures.is
