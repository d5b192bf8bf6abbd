-- The bytes of a record.
use Rattle.std.specs.Prelude.{ℕ, ◌+◌, ◌/◌, ◌%◌, List, [], ◌∷◌, ◌++◌, length}
use Rattle.envelope_fields.specs.Plain.{Plain}

-- unsigned little-endian integers of two and of four bytes
abbrev pub le16 : ℕ → List ℕ
le16 n = (n % 256) ∷ (n / 256 % 256) ∷ []

abbrev pub le32 : ℕ → List ℕ
le32 n = (n % 256) ∷ (n / 256 % 256) ∷ (n / 65536 % 256) ∷ (n / 16777216 % 256) ∷ []

-- bytes with their length before them
abbrev pub prefixed : List ℕ → List ℕ
prefixed bs = le16 (length bs) ++ bs

-- 34 bytes at fixed offsets, four lengths, and what follows them
abbrev pub size : Plain → ℕ
size d = 42 + length d.fr + length d.ad + length d.df + length d.ct + length d.rest

abbrev pub encode : Plain → List ℕ
encode d =
    le16 (size d) ++ (le16 d.kind ++ (le32 d.todt ++ (le16 d.to ++ ((d.ar ∷ d.vb ∷ []) ++ (le16 d.code ++ (d.on
    ++ (prefixed d.fr ++ (prefixed d.ad ++ (prefixed d.df ++ (prefixed d.ct ++ d.rest))))))))))
