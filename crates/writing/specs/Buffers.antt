-- What a buffer holds once bytes are written into it.
use Rattle.std.specs.Prelude.{ℕ, ◌+◌, List, ◌++◌, length, take, drop}

-- buf with bs in the place of its bytes from `at` on
abbrev pub pasted : ℕ → List ℕ → List ℕ → List ℕ
pasted at bs buf = take at buf ++ (bs ++ drop (at + length bs) buf)

-- buf with bs in the place of its first bytes
abbrev pub filled : List ℕ → List ℕ → List ℕ
filled bs buf = bs ++ drop (length bs) buf
