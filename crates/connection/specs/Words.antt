-- Bytes as words of 64 bits, the low byte first.
use Rattle.std.specs.Prelude.{ℕ, ◌+◌, ◌*◌, ◌/◌, ◌%◌, List, [], ◌∷◌, ◌++◌, slice_index}

-- the word of the eight bytes from place k on
unfoldable pub word_at : List ℕ → ℕ → ℕ
word_at bs k =
    slice_index bs k + slice_index bs (k + 1) * 256 + slice_index bs (k + 2) * 65536 + slice_index bs (k + 3) * 16777216
    + slice_index bs (k + 4) * 4294967296 + slice_index bs (k + 5) * 1099511627776 + slice_index bs (k + 6) * 281474976710656
    + slice_index bs (k + 7) * 72057594037927936

-- the eight words of 64 bytes
abbrev pub words_of : List ℕ → List ℕ
words_of bs =
    word_at bs 0 ∷ word_at bs 8 ∷ word_at bs 16 ∷ word_at bs 24 ∷ word_at bs 32 ∷ word_at bs 40 ∷ word_at bs 48 ∷ word_at bs 56 ∷ []

-- the eight bytes of a word
unfoldable pub bytes_of_word : ℕ → List ℕ
bytes_of_word w =
    (w % 256) ∷ (w / 256 % 256) ∷ (w / 65536 % 256) ∷ (w / 16777216 % 256) ∷ (w / 4294967296 % 256)
    ∷ (w / 1099511627776 % 256) ∷ (w / 281474976710656 % 256) ∷ (w / 72057594037927936 % 256) ∷ []

-- the bytes of some words
unfoldable pub bytes_of : List ℕ → List ℕ
bytes_of [] = []
bytes_of (w ∷ ws) = bytes_of_word w ++ bytes_of ws
