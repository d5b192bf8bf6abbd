-- The figures, computed.
use Rattle.std.proofs.Common.{refl}
use Rattle.text.specs.Padding.{padded}
use Rattle.figures.specs.Figures.{Figures}

pub computed : Figures
unfolding padded
computed = record {
  berth_length = refl;
  berth_expiry = refl;
  shortest_length = refl;
  shortest_lawful = refl;
  two_names = refl;
  no_name_between = refl;
  no_name_before = refl;
  no_name_after = refl;
  names_before_dataflow = refl;
  by_names_not_bytes = refl;
  without_letter_case = refl;
}
