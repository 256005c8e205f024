-- The same bytes of records that lie one after the other, moved. No meaning of document 01 stands here.
use Rattle.std.specs.Prelude.{List, ℕ, take, drop}
use Rattle.std.proofs.Math.Seq.{paste}
use Rattle.records.specs.Records.{record_at}
use Rattle.blocks.specs.Blocks.{each_record}

-- the n bytes at byte a of each of k records of s bytes, at byte b of as many records of d bytes
abbrev pub each_piece : ℕ → ℕ → ℕ → ℕ → ℕ → List ℕ → ℕ → List ℕ → List ℕ
each_piece n b a s d src k dst = each_record (λ i x. paste x b (take n (drop a (record_at s i src))) n) d k dst
