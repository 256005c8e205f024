-- A column of an enum, by the table of two enums. No meaning of document 01 stands here.
use Rattle.std.specs.Prelude.{ℕ, List}
use Rattle.column_words.specs.declared.Words.{Words}
use Rattle.blocks.specs.Blocks.{each_record, sum_to, container_in, merge_in}
use Rattle.symbol_columns.specs.Tables.{symbol_by, missing_by}

-- the container at byte a of each of k records of s bytes, as one at byte b of k records of d bytes
abbrev pub each_symbol : List ℕ → Words → ℕ → ℕ → ℕ → ℕ → List ℕ → ℕ → List ℕ → List ℕ
each_symbol table w b a s d src k dst =
    each_record (λ i x. merge_in w.order w.size b w.keep (symbol_by table w (container_in w.source_order w.source_size a s src i)) x) d k dst

-- how many of them have no symbol
abbrev pub raised_symbols : List ℕ → Words → ℕ → ℕ → List ℕ → ℕ → ℕ
raised_symbols table w a s src k = sum_to (λ i. missing_by table w (container_in w.source_order w.source_size a s src i)) k
