-- A line that ends once more of it was kept.
use Rattle.std.proofs.Common.{◌≡◌, Bool, true, false, refl}
use Rattle.line_input.specs.Pieces.{got_of, came_of, got_at_end}

pub end_of_kept : (over : Bool) → got_at_end (came_of over) ≡ got_of over
end_of_kept true = refl
end_of_kept false = refl
