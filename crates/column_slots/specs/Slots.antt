-- The words of pairs of types that a call has met, in slots of sixteen words: the pair, and its thirteen. No meaning of document 01 stands here.
use Rattle.std.specs.Prelude.{◌≡◌, List, ℕ, ◌+◌, ◌*◌, ◌%◌, ◌<◌, get_or}
use Rattle.table.specs.Table.{order_of, layout_at}
use Rattle.column_words.specs.declared.Words.{Words}
use Rattle.column_words.specs.Words.{words_of}

-- the words that stand from word k on
unfoldable pub slot_at : List ℕ → ℕ → Words
slot_at slots k =
    record {
      source_size = get_or slots (k + 1) 0;
      source_order = order_of (get_or slots (k + 2) 0);
      shift = get_or slots (k + 3) 0 % 64;
      mask = get_or slots (k + 4) 0;
      half = get_or slots (k + 5) 0;
      low = get_or slots (k + 6) 0;
      high = get_or slots (k + 7) 0;
      into = get_or slots (k + 8) 0;
      up = get_or slots (k + 9) 0 % 64;
      ones = get_or slots (k + 10) 0;
      keep = get_or slots (k + 11) 0;
      size = get_or slots (k + 12) 0;
      order = order_of (get_or slots (k + 13) 0);
    }

-- source type s and destination type d in one word, which is never 0
abbrev pub pair_word : ℕ → ℕ → ℕ
pair_word s d = 64 * s + d + 1

-- each slot that has a pair has its words
abbrev pub Kept : List ℕ → List ℕ → List ℕ → Type 0
Kept slots ws wd = (h s d : ℕ) → h < 64 → d < 64 → get_or slots (16 * h) 0 ≡ pair_word s d → slot_at slots (16 * h) ≡ words_of (layout_at ws s) (layout_at wd d)
