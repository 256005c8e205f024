-- The first word of an entry of a plan: how its leaf is converted, and the small numbers of its two layouts.
-- Routes: 0 number by number, as any two layouts are; 1 and 2 an easy pair, by the source's order; 3 between a real and another leaf; 4 and 5 an enum by its span, by the source's order, where the
-- destination has no bits beside its number; 6 any other enum by its span; 7 an enum whose rows are looked through.
use Rattle.std.specs.Prelude.{ℕ, ◌+◌, ◌*◌, ◌/◌, ◌%◌}

-- a route, how far the source's number lies above bit 0, the source's precision, the destination's size, order and precision
abbrev pub packed : ℕ → ℕ → ℕ → ℕ → ℕ → ℕ → ℕ
packed route shift precision size order bits = route + 8 * shift + 512 * precision + 65536 * size + 1048576 * order + 2097152 * bits

unfoldable pub route_in : ℕ → ℕ
route_in w = w % 8

unfoldable pub shift_in : ℕ → ℕ
shift_in w = w / 8 % 64

unfoldable pub precision_in : ℕ → ℕ
precision_in w = w / 512 % 128

unfoldable pub size_in : ℕ → ℕ
size_in w = w / 65536 % 16

unfoldable pub order_in : ℕ → ℕ
order_in w = w / 1048576 % 2

unfoldable pub bits_in : ℕ → ℕ
bits_in w = w / 2097152
