-- What a cell holds that begins with a length in two bytes and as many bytes.
use Rattle.std.proofs.Common.{◌≡◌, ℕ, ◌≤◌, List, ◌++◌, length, arith}
use Rattle.std.proofs.lemmas.List.{take_at}
use Rattle.place_spool.specs.Cells.{cell_length, cell_held, frame}

pub frame_held : (bs rest : List ℕ) → length bs ≤ 2048 → cell_held (frame bs ++ rest) ≡ bs
frame_held bs rest h = take_at bs rest (cell_length (frame bs ++ rest)) (omega arith)
