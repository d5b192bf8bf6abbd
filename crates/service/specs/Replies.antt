-- What the program replies to a call, and what becomes of its route table.
use Rattle.std.specs.Prelude.{ℕ, cond, List, [], ◌∷◌, ◌++◌, length, Some, None, Ok, Err, Option, Result, nat_lt}
use Rattle.text.specs.Said.{Said}
use Rattle.text.specs.Faults.{text_refusal}
use Rattle.text.specs.declared.fault.TextFault.{TextFault}
use Rattle.envelope.specs.Views.{Whole}
use Rattle.envelope.specs.Decoding.{decode}
use Rattle.envelope_fields.specs.Plain.{Plain}
use Rattle.writing.specs.Encoding.{encode}
use Rattle.writing.specs.Answers.{write_answer}
use Rattle.routing.specs.Choice.{chosen_way}
use Rattle.routing.specs.declared.row.Way.{Way}
use Rattle.routing.specs.declared.row.RouteRow.{RouteRow}
use Rattle.reason.specs.Reasons.{ToldReason, reason_of}
use Rattle.arguments.specs.declared.fault.LineFault.{LineFault}
use Rattle.arguments.specs.declared.fault.LineFault.TheVariants.{TableFull}
use Rattle.calls.specs.Calls.{Asked, read_record, write_fields, add_route, forget_routes, ask_way, ask_reason, line_call}
use Rattle.answers.specs.Answers.{ToldAnswer, written, told, chosen, explained, refused, error}
use Rattle.answers.specs.declared.answer.Verb.TheVariants as verb

-- the greatest number of route rows
abbrev pub most_routes : ℕ
most_routes = 1024

abbrev pub read_reply : Result Whole Said → ToldAnswer
read_reply (Ok w) = told w
read_reply (Err s) = refused verb.Envelope s

abbrev pub write_reply : Plain → Result ℕ Said → ToldAnswer
write_reply d (Ok n) = written (encode d)
write_reply d (Err s) = refused verb.Envelope s

abbrev pub way_reply : Result (Option Way) TextFault → ToldAnswer
way_reply (Ok way) = chosen way
way_reply (Err f) = refused verb.Way (text_refusal f)

abbrev pub reason_reply : Result ToldReason Said → ToldAnswer
reason_reply (Ok r) = explained r
reason_reply (Err s) = refused verb.Reason s

-- a route row is added where there is room, and answers nothing
abbrev pub route_reply : List RouteRow → Option ToldAnswer
route_reply rows = cond (nat_lt (length rows) most_routes) None (Some (error TableFull))

abbrev pub rows_with : RouteRow → List RouteRow → List RouteRow
rows_with row rows = cond (nat_lt (length rows) most_routes) (rows ++ (row ∷ [])) rows

abbrev pub reply : List RouteRow → Asked → Option ToldAnswer
reply rows (read_record bs) = Some (read_reply (decode bs))
reply rows (write_fields d) = Some (write_reply d (write_answer d 2048))
reply rows (add_route row) = route_reply rows
reply rows forget_routes = None
reply rows (ask_way target flow) = Some (way_reply (chosen_way rows target flow))
reply rows (ask_reason rec sheet) = Some (reason_reply (reason_of rec sheet))

abbrev pub rows_after : List RouteRow → Asked → List RouteRow
rows_after rows (read_record bs) = rows
rows_after rows (write_fields d) = rows
rows_after rows (add_route row) = rows_with row rows
rows_after rows forget_routes = []
rows_after rows (ask_way target flow) = rows
rows_after rows (ask_reason rec sheet) = rows

-- the same for a line: one that is no call is an error, one with no words asks nothing
abbrev pub call_reply : List RouteRow → Result (Option Asked) LineFault → Option ToldAnswer
call_reply rows (Ok (Some a)) = reply rows a
call_reply rows (Ok None) = None
call_reply rows (Err f) = Some (error f)

abbrev pub call_rows : List RouteRow → Result (Option Asked) LineFault → List RouteRow
call_rows rows (Ok (Some a)) = rows_after rows a
call_rows rows (Ok None) = rows
call_rows rows (Err f) = rows

abbrev pub line_reply : List RouteRow → List ℕ → Option ToldAnswer
line_reply rows line = call_reply rows (line_call line)

abbrev pub line_rows : List RouteRow → List ℕ → List RouteRow
line_rows rows line = call_rows rows (line_call line)
