-- A row made of given texts.
use Rattle.std.specs.Prelude.{ℕ, Bool, true, false, cond, ◌&&◌, List, [], length, Some, None, Option, nat_le}
use Rattle.std.specs.Borrow.{Bor}
use Rattle.text.specs.Padding.{padded}
use Rattle.routing.specs.declared.row.Way.{Way}
use Rattle.routing.specs.declared.row.RouteRow.{RouteRow}

-- what an optional loan holds
abbrev pub lent : Option (Bor (List ℕ)) → Option (List ℕ)
lent None = None
lent (Some s) = Some s.now

-- none is written as no bytes
abbrev pub written : Option (List ℕ) → List ℕ
written None = []
written (Some bs) = bs

abbrev pub is_given : Option (List ℕ) → Bool
is_given None = false
is_given (Some bs) = true

-- the texts as they are, zeros after them
abbrev pub row_of : Option (List ℕ) → Option (List ℕ) → Way → RouteRow
row_of a d w = record {
  has_address = is_given a;
  address = padded 64 (written a);
  address_len = length (written a);
  has_dataflow = is_given d;
  dataflow = padded 256 (written d);
  dataflow_len = length (written d);
  way = w;
}

-- none where a text is longer than a row can keep
abbrev pub new_row : Option (List ℕ) → Option (List ℕ) → Way → Option RouteRow
new_row a d w = cond (nat_le (length (written a)) 64 && nat_le (length (written d)) 256) (Some (row_of a d w)) None
