-- Worked figures, computed from the definitions that the contracts cite.
use Rattle.std.specs.Prelude.{◌≡◌, ℕ, true, false, List, [], ◌∷◌, length, is_ok, Some, None, Ok, codes, Option, Result}
use Rattle.text.specs.Forms.{is_address}
use Rattle.text.specs.Said.{Said}
use Rattle.text.specs.declared.fault.TextFault.{TextFault}
use Rattle.envelope.specs.Results.{viewed}
use Rattle.envelope.specs.Decoding.{decode}
use Rattle.envelope.specs.Life.{end_of}
use Rattle.envelope_fields.specs.Plain.{Plain}
use Rattle.writing.specs.Encoding.{encode}
use Rattle.routing.specs.Making.{row_of}
use Rattle.routing.specs.Choice.{chosen_way}
use Rattle.routing.specs.declared.row.Way.{Way}
use Rattle.routing.specs.declared.row.Way.TheVariants.{Local, Neighbour}
use Rattle.routing.specs.declared.row.RouteRow.{RouteRow}

-- a ferry asks for a berth at the eastern quays
abbrev pub berth_request : Plain
berth_request = record {
  kind = 1;
  code = 0;
  todt = 1000000;
  to = 60;
  ar = 1;
  vb = 1;
  on = codes "FERRY000000000000001";
  fr = codes "AAA:F1";
  ad = codes "XHB:EAST";
  df = codes "urn:berth";
  ct = [];
  rest = [];
}

-- the shortest texts that are in form, and nothing else
abbrev pub shortest : Plain
shortest = record {
  kind = 1;
  code = 0;
  todt = 1000000;
  to = 60;
  ar = 0;
  vb = 1;
  on = codes "FERRY000000000000001";
  fr = codes "A";
  ad = codes "B";
  df = codes "urn:x";
  ct = [];
  rest = [];
}

abbrev pub quays : List RouteRow
quays =
    row_of (Some (codes "XHB")) None (Neighbour 1)
    ∷ row_of (Some (codes "XHB:EAST")) None (Neighbour 2)
    ∷ row_of (Some (codes "XHB")) (Some (codes "urn:berth")) Local
    ∷ []

abbrev pub way_to : List ℕ → List ℕ → Result (Option Way) TextFault
way_to target flow = chosen_way quays target flow

pub record Figures : Type 0 where
  pub berth_length : length (encode berth_request) ≡ 65
  pub berth_expiry : ◌≡◌ {A = Result ℕ Said} (viewed end_of (λ s. s) (decode (encode berth_request))) (Ok 999940)
  pub shortest_length : length (encode shortest) ≡ 49
  pub shortest_lawful : is_ok (decode (encode shortest)) ≡ true
  pub two_names : is_address (codes "A:B") ≡ true
  pub no_name_between : is_address (codes "A::B") ≡ false
  pub no_name_before : is_address (codes ":A") ≡ false
  pub no_name_after : is_address (codes "A:") ≡ false
  pub names_before_dataflow : way_to (codes "XHB:EAST:Q4") (codes "urn:berth") ≡ Ok (Some (Neighbour 2))
  pub by_names_not_bytes : way_to (codes "XHB:EASTERN") (codes "urn:x") ≡ Ok (Some (Neighbour 1))
  pub without_letter_case : way_to (codes "xhb") (codes "URN:BERTH") ≡ Ok (Some Local)
