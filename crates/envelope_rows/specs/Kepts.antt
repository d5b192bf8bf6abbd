-- What a row keeps of the envelope that it was made for.
use Rattle.std.specs.Prelude.{Bool, ◌&&◌, ◌||◌, ◌==◌}
use Rattle.envelope.specs.Limits.{timeout_ok}
use Rattle.envelope_rows.specs.declared.kept.Kept.{Kept}

abbrev pub kept_ok : Kept → Bool
kept_ok k = timeout_ok k.to k.todt && (k.first == 100 || k.first == 200)

abbrev pub empty_kept : Kept
empty_kept = record { todt = 0; to = 0; first = 0 }
