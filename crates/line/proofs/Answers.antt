-- What is made of a column, by the answer of its reader. Assumes nothing.
use borrow.Author.Rules.{rules}
use mathlib.Core.Path.{◌≡◌}
use Prim.Native.Nat.{ℕ}
use Rattle.std.specs.Prelude.{Option, Some, None}
use Rattle.text.specs.declared.Field.{Field}
use Rattle.line.specs.Column.{on_found}

module _ {A R : Type 0} (x bad : R) (k : A → ℕ → R) (g : Option (Field A)) where
  pub on_found_lem : (f : Field A) → Some f ≡ g → x ≡ k f.value f.end → x ≡ on_found g k bad
  unfolding on_found
  on_found_lem f e h = rw (← e) h

  pub on_missing : None ≡ g → x ≡ bad → x ≡ on_found g k bad
  unfolding on_found
  on_missing e h = rw (← e) h

pub ruleset on_laws = (rules, on_found_lem, on_missing)
