-- Where the words of a pair stand among others.
use Rattle.std.specs.Prelude.{◌≡◌, true, List, ℕ, ◌+◌, ◌*◌, ◌≤◌, get_or}
use Rattle.layout.specs.declared.Layout.{Layout}
use Rattle.layout.specs.Layout.{Valid}
use Rattle.table.specs.Records.{order_code}
use Rattle.entry_code.specs.Code.{route_in, shift_in, precision_in, size_in, order_in}
use Rattle.easy.specs.Easy.{easy, shift_of, carry_of}

-- the numbers of an easy pair: 1 or 2 by the source's order, shift, precision, carry, the destination's size and order
pub record EasyBy (l m : Layout) (o s p c n r : ℕ) : Type 0 where
  pub valid : Valid l
  pub is : easy l m ≡ true
  pub order : o ≡ 1 + order_code l.order
  pub shift : s ≡ shift_of l.order l.size.0 l.offset.0
  pub precision : p ≡ l.precision
  pub carry : c ≡ carry_of l.signed l.precision m.precision
  pub size : n ≡ m.size.0
  pub destination_order : r ≡ order_code m.order
  pub most : m.size.0 ≤ 8

-- they stand from word k of w on
abbrev pub EasyAt : Layout → Layout → List ℕ → ℕ → Type 0
EasyAt l m w k =
    EasyBy l m (route_in (get_or w k 0)) (shift_in (get_or w k 0)) (precision_in (get_or w k 0)) (get_or w (k + 1) 0 + get_or w (k + 2) 0 * 4294967296)
    (size_in (get_or w k 0)) (order_in (get_or w k 0))
