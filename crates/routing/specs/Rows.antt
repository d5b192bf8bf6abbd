-- The parts of a route row, which rows are lawful, and which fit a target and a dataflow.
use Rattle.std.specs.Prelude.{ℕ, ◌+◌, ◌*◌, Bool, true, cond, ◌&&◌, List, length, take, nat_le}
use Rattle.text.specs.Forms.{same_text, is_address, is_dataflow}
use Rattle.text.specs.Names.{names, first_names}
use Rattle.routing.specs.declared.row.Way.{Way}
use Rattle.routing.specs.declared.row.Way.TheVariants.{Local, Neighbour}
use Rattle.routing.specs.declared.row.RouteRow.{RouteRow}

-- the bytes that stand for the row's address, where it has one
abbrev pub address_of : RouteRow → List ℕ
address_of row = take row.address_len row.address

-- the bytes that stand for the row's dataflow, where it has one
abbrev pub dataflow_of : RouteRow → List ℕ
dataflow_of row = take row.dataflow_len row.dataflow

-- a neighbour is 0 to 254
abbrev pub lawful_way : Way → Bool
lawful_way Local = true
lawful_way (Neighbour n) = nat_le n 254

-- none, or an address within its array
abbrev pub lawful_address : RouteRow → Bool
lawful_address row = cond row.has_address (nat_le row.address_len 64 && is_address (address_of row)) true

-- none, or a dataflow within its array
abbrev pub lawful_dataflow : RouteRow → Bool
lawful_dataflow row = cond row.has_dataflow (nat_le row.dataflow_len 256 && is_dataflow (dataflow_of row)) true

abbrev pub lawful_row : RouteRow → Bool
lawful_row row = lawful_address row && (lawful_dataflow row && lawful_way row.way)

-- the row's address is none, or its names are the first names of the target
abbrev pub leads_to : List ℕ → RouteRow → Bool
leads_to target row = cond row.has_address (first_names (names (address_of row)) (names target)) true

-- the row's dataflow is none, or this one
abbrev pub carries : List ℕ → RouteRow → Bool
carries flow row = cond row.has_dataflow (same_text (dataflow_of row) flow) true

abbrev pub fits : List ℕ → List ℕ → RouteRow → Bool
fits target flow row = lawful_row row && (leads_to target row && carries flow row)

-- how many names the row's address has; none counts 0
abbrev pub name_count : RouteRow → ℕ
name_count row = cond row.has_address (length (names (address_of row))) 0

-- one number that orders rows: by their names first, and among as many names by whether a dataflow is given
abbrev pub rank_of : RouteRow → ℕ
rank_of row = 2 * name_count row + cond row.has_dataflow 1 0
