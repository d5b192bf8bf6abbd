-- The fields that have a form, as rows of a table: each with the offset where it starts once it is written.
use Rattle.std.specs.Prelude.{◌≡◌, ◌+◌, ◌≤◌, List, [], ◌∷◌, ◌++◌, length}
use Rattle.text.specs.Forms.{is_address, is_dataflow, is_contacts}
use Rattle.envelope.specs.Layout.{Row, row, rows_of_fixed}
use Rattle.envelope_fields.specs.Plain.{Plain}

abbrev pub fixed_rows : Plain → List Row
fixed_rows d = rows_of_fixed d.kind d.todt d.to d.ar d.vb d.code d.on

abbrev pub moving_rows : Plain → List Row
moving_rows d =
    row 9 34 (is_address d.fr)
    ∷ row 10 (36 + length d.fr) (is_address d.ad)
    ∷ row 11 (38 + length d.fr + length d.ad) (is_dataflow d.df)
    ∷ row 12 (40 + length d.fr + length d.ad + length d.df) (is_contacts d.ct)
    ∷ []

abbrev pub rows : Plain → List Row
rows d = fixed_rows d ++ moving_rows d

-- the lengths that the forms allow
pub record Measured (d : Plain) : Type 0 where
  pub on : length d.on ≡ 20
  pub fr : length d.fr ≤ 64
  pub ad : length d.ad ≤ 64
  pub df : length d.df ≤ 256
  pub ct : length d.ct ≤ 128
