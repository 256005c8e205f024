-- `table::store::clear_types` meets its contract. Assumes nothing.
use mathlib.Core.Path.{◌≡◌, refl, sym, ap, ◌∙◌}
use Prim.Native.Nat.{ℕ, ◌-◌, ◌*◌}
use native.Mathlib.Omega.{arith}
use lib.ListN.{length, replicate, take, drop, length-drop, length-replicate}
use Rattle.std.proofs.Common.{length-take-le}
use Rattle.std.proofs.lemmas.Slice.{put_mid-paste}
use Rattle.table.specs.Records.{types_cleared}
use Rattle.table.proofs.store.clear_types.Goals as goal

pub returns : goal.returns
unfolding types_cleared
returns c =
    let n : ℕ = 1024 - 16 * c.args.n in
    let part : length (take n (drop (16 * c.args.n) c.args.half.now)) ≡ n = length-take-le n (drop (16 * c.args.n) c.args.half.now) (rw (length-drop) (omega arith)) in
    put_mid-paste (16 * c.args.n) n c.args.half.now _ (replicate n 0) n (c.fill.ensures.after (λ y h. h) ∙ ap (λ (k : ℕ). replicate k 0) part) refl (sym (length-replicate {A = ℕ} n 0))
