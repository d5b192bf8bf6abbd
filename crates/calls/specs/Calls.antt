-- The call that the words of a line make.
use Rattle.std.specs.Prelude.{ℕ, cond, List, [], ◌∷◌, Some, None, Ok, Err, vec_items, codes, Option, Result}
use Rattle.std.specs.Str.{bytes_eq}
use Rattle.words.specs.Cuts.{words_of}
use Rattle.arguments.specs.Values.{hex_argument, text_argument}
use Rattle.arguments.specs.declared.fault.LineFault.{LineFault}
use Rattle.arguments.specs.declared.fault.LineFault.TheVariants.{UnknownVerb, WrongWords, BadWord}
use Rattle.envelope.specs.Results.{and_then}
use Rattle.envelope.specs.declared.parts.Kind.{Kind}
use Rattle.envelope.specs.declared.parts.Kind.TheVariants as kind
use Rattle.envelope_fields.specs.Plain.{Plain}
use Rattle.routing.specs.declared.row.RouteRow.{RouteRow}
use Rattle.route_words.specs.Rows.{row_from}
use Rattle.keyed.specs.Fields.{fields_of, field_text}
use Rattle.calls.specs.Take.{one, two, three}
use Rattle.calls.specs.declared.call.Call.{Call}
use Rattle.calls.specs.declared.call.Call.TheVariants.{ReadRecord, WriteFields, AddRoute, ForgetRoutes, AskWay, AskReason}

-- what a line asks for
pub data Asked : Type 0 where
  read_record : List ℕ → Asked
  write_fields : Plain → Asked
  add_route : RouteRow → Asked
  forget_routes : Asked
  ask_way : List ℕ → List ℕ → Asked
  ask_reason : List ℕ → List ℕ → Asked

abbrev pub asked : Call → Asked
asked (ReadRecord bytes) = read_record (vec_items bytes)
asked (WriteFields fields) = write_fields (field_text fields)
asked (AddRoute row) = add_route row
asked ForgetRoutes = forget_routes
asked (AskWay target flow) = ask_way (vec_items target) (vec_items flow)
asked (AskReason rec sheet) = ask_reason (vec_items rec) (vec_items sheet)

-- envelope record HEX
abbrev pub record_call : List (List ℕ) → Result Asked LineFault
record_call ws = and_then (one ws) (λ w. and_then (hex_argument w) (λ bs. Ok (read_record bs)))

-- envelope message|status KEYED-WORDS
abbrev pub fields_call : Kind → List (List ℕ) → Result Asked LineFault
fields_call k ws = and_then (fields_of k ws) (λ fields. Ok (write_fields fields))

abbrev pub envelope_call : List (List ℕ) → Result Asked LineFault
envelope_call [] = Err WrongWords
envelope_call (w ∷ ws) =
    cond (bytes_eq w (codes "record")) (record_call ws)
    (cond (bytes_eq w (codes "message")) (fields_call kind.Message ws)
    (cond (bytes_eq w (codes "status")) (fields_call kind.Status ws) (Err BadWord)))

-- route ADDRESS|* DATAFLOW|* NEIGHBOUR|local
abbrev pub route_call : List (List ℕ) → Result Asked LineFault
route_call ws = and_then (three ws) (λ p. and_then (row_from p.0 p.1 p.2) (λ row. Ok (add_route row)))

-- forget routes
abbrev pub forget_call : List (List ℕ) → Result Asked LineFault
forget_call ws = and_then (one ws) (λ w. cond (bytes_eq w (codes "routes")) (Ok forget_routes) (Err BadWord))

-- way ADDRESS DATAFLOW
abbrev pub way_call : List (List ℕ) → Result Asked LineFault
way_call ws = and_then (two ws) (λ p. and_then (text_argument p.0) (λ t. and_then (text_argument p.1) (λ d. Ok (ask_way t d))))

-- reason HEX HEX
abbrev pub reason_call : List (List ℕ) → Result Asked LineFault
reason_call ws = and_then (two ws) (λ p. and_then (hex_argument p.0) (λ r. and_then (hex_argument p.1) (λ s. Ok (ask_reason r s))))

abbrev pub verb_call : List ℕ → List (List ℕ) → Result Asked LineFault
verb_call v ws =
    cond (bytes_eq v (codes "envelope")) (envelope_call ws)
    (cond (bytes_eq v (codes "route")) (route_call ws)
    (cond (bytes_eq v (codes "forget")) (forget_call ws)
    (cond (bytes_eq v (codes "way")) (way_call ws)
    (cond (bytes_eq v (codes "reason")) (reason_call ws) (Err UnknownVerb)))))

-- a line with no word asks for nothing
abbrev pub call_of : List (List ℕ) → Result (Option Asked) LineFault
call_of [] = Ok None
call_of (v ∷ ws) = and_then (verb_call v ws) (λ a. Ok (Some a))

abbrev pub line_call : List ℕ → Result (Option Asked) LineFault
line_call line = call_of (words_of line)
