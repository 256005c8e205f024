-- What the code's tests tell. Assumes nothing.
use mathlib.Core.Path.{◌≡◌, sym, ◌∙◌}
use mathlib.Core.Bool.{Bool, true, false, not}
use borrow.Author.Tests.{not-true, not-false}

-- a test's definition, where the code went by the test's negation
pub fails : {t b : Bool} → t ≡ b → not t ≡ true → b ≡ false
fails {t} p h = sym p ∙ not-true t h

pub holds : {t b : Bool} → t ≡ b → not t ≡ false → b ≡ true
holds {t} p h = sym p ∙ not-false t h
