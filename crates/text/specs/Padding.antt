-- A text in a fixed number of bytes.
use Rattle.std.specs.Prelude.{ℕ, ◌-◌, List, ◌++◌, length, take, replicate}

-- the first n bytes of bs, zeros after them where there are fewer
unfoldable pub padded : ℕ → List ℕ → List ℕ
padded n bs = take n bs ++ replicate (n - length bs) 0
