-- The samenesses that keys are made of are reflexive, symmetric and transitive.
use Rattle.std.proofs.Common.{eqb, map}
use Rattle.std.specs.Char.{to_ascii_lowercase}
use Rattle.std.proofs.lemmas.Slice.Eq.{bytes_eq-Decides}
use Rattle.std.proofs.lemmas.Bool.{eqb-true, eq-eqb}
use Rattle.text.specs.Forms.{same_text}
use Rattle.ledger.specs.Kinds.{Equivalence}
use Rattle.ledger.proofs.Equivalences.{by_image, through}
use Rattle.short_text.specs.ShortTexts.{same_short_text, text_of}

pub text_alike : Equivalence same_text
text_alike = by_image same_text (map to_ascii_lowercase) (λ x y. bytes_eq-Decides (map to_ascii_lowercase x) (map to_ascii_lowercase y))

pub short_text_alike : Equivalence same_short_text
short_text_alike = through same_text text_of text_alike

pub number_alike : Equivalence eqb
number_alike = by_image eqb (λ x. x) (λ x y. (eqb-true x y, eq-eqb x y))
