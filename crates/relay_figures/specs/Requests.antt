-- The requests that the figures are about, beside the request for a berth itself.
use Rattle.std.specs.Prelude.{ℕ, List, [], codes}
use Rattle.envelope_fields.specs.Plain.{Plain}

-- a ferry asks for a berth at the eastern quays, by this TODT, AR and FR
abbrev pub request_of : ℕ → ℕ → List ℕ → Plain
request_of todt ar fr = record {
  kind = 1;
  code = 0;
  todt = todt;
  to = 60;
  ar = ar;
  vb = 1;
  on = codes "FERRY000000000000001";
  fr = fr;
  ad = codes "XHB:EAST";
  df = codes "urn:berth";
  ct = [];
  rest = [];
}

-- the request for a berth with FR in small letters, with TODT a second later, and with AR 0
abbrev pub in_small_letters : Plain
in_small_letters = request_of 1000000 1 (codes "aaa:f1")

abbrev pub a_second_later : Plain
a_second_later = request_of 1000001 1 (codes "AAA:F1")

abbrev pub wanting_no_receipt : Plain
wanting_no_receipt = request_of 1000000 0 (codes "AAA:F1")
