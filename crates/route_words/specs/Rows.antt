-- The row of a route table that three words stand for.
use Rattle.std.specs.Prelude.{ℕ, cond, List, length, Some, None, Ok, Err, codes, Option, Result, nat_le}
use Rattle.std.specs.Str.{bytes_eq}
use Rattle.arguments.specs.Faults.{or_fault}
use Rattle.arguments.specs.Values.{number_argument, text_argument}
use Rattle.arguments.specs.declared.fault.LineFault.{LineFault}
use Rattle.arguments.specs.declared.fault.LineFault.TheVariants.{BadWord}
use Rattle.envelope.specs.Results.{and_then}
use Rattle.routing.specs.Making.{new_row}
use Rattle.routing.specs.declared.row.Way.{Way}
use Rattle.routing.specs.declared.row.Way.TheVariants.{Local, Neighbour}
use Rattle.routing.specs.declared.row.RouteRow.{RouteRow}

-- `*` stands for no text; a row keeps `most` bytes
abbrev pub kept : ℕ → List ℕ → Result (Option (List ℕ)) LineFault
kept most bs = cond (nat_le (length bs) most) (Ok (Some bs)) (Err BadWord)

abbrev pub row_text : ℕ → List ℕ → Result (Option (List ℕ)) LineFault
row_text most w = cond (bytes_eq w (codes "*")) (Ok None) (and_then (text_argument w) (kept most))

abbrev pub way_argument : List ℕ → Result Way LineFault
way_argument w = cond (bytes_eq w (codes "local")) (Ok Local) (and_then (number_argument 255 w) (λ n. Ok (Neighbour n)))

-- ADDRESS|* DATAFLOW|* NEIGHBOUR|local
abbrev pub row_from : List ℕ → List ℕ → List ℕ → Result RouteRow LineFault
row_from address flow way = and_then (row_text 64 address) (λ a. and_then (row_text 256 flow) (λ d. and_then (way_argument way) (λ w. or_fault BadWord (new_row a d w))))
