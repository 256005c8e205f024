-- Which bits of the source could have changed a result, for two datatypes: a mask as long as a source record, whose bits that are one are the significant bits of
-- the matched source leaves.
use Rattle.std.specs.Prelude.{List, ℕ, zero, suc, ◌-◌, ◌^◌, replicate}
use Rattle.layout.specs.declared.Pad.TheVariants.{Keep}
use Rattle.layout.specs.declared.Layout.{Layout}
use Rattle.number.specs.Place.{stored}
use Rattle.datatype.specs.Datatype.{Leaf, layout_of, Datatype, size}
use Rattle.datatype.specs.Matches.{on_match, match_at}

-- the layout l where a write leaves every bit beside the number as it was
abbrev pub pads_kept : Layout → Layout
pads_kept l =
    record {
      class = l.class;
      size = l.size;
      order = l.order;
      offset = l.offset;
      precision = l.precision;
      lsb = Keep;
      msb = Keep;
      signed = l.signed;
    }

-- the bytes m with all significant bits of the leaf x that starts at byte a set
abbrev pub marked : Leaf → ℕ → List ℕ → List ℕ
marked x a m = stored (pads_kept (layout_of x)) a (2 ^ (layout_of x).precision - 1) m

-- with those of the source leaf that the destination leaf at byte b is matched with, if it is
unfoldable pub marked_at : Datatype → Datatype → ℕ → List ℕ → List ℕ
marked_at S D b m = on_match (λ a x y. marked x a m) m (match_at S D b)

-- of the leaves that start at the k bytes from b on
unfoldable pub marked_from : Datatype → Datatype → ℕ → ℕ → List ℕ → List ℕ
marked_from S D b zero m = m
marked_from S D b (suc k) m = marked_from S D (suc b) k (marked_at S D b m)

-- over one source record of zeros
unfoldable pub mask : Datatype → Datatype → List ℕ
mask S D = marked_from S D 0 (size D) (replicate (size S) 0)
