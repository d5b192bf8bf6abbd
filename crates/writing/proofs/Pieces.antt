-- The pieces of a record, written one after the other, are the record.
use Rattle.std.proofs.Common.{◌≡◌, ℕ, List, [], ◌∷◌, ◌++◌, ◌∙◌, append_assoc}
use Rattle.envelope_fields.specs.Plain.{Plain}
use Rattle.writing.specs.Encoding.{le16, le32, prefixed, size, encode}

abbrev pieces : Plain → ℕ → ℕ → ℕ → List ℕ
pieces d n k c =
    ((((((((((le16 n ++ le16 k) ++ le32 d.todt) ++ le16 d.to) ++ (d.ar ∷ d.vb ∷ [])) ++ le16 c) ++ d.on)
    ++ prefixed d.fr) ++ prefixed d.ad) ++ prefixed d.df) ++ prefixed d.ct) ++ d.rest

regroup : (h on fr ad df ct rest : List ℕ) → (((((h ++ on) ++ fr) ++ ad) ++ df) ++ ct) ++ rest ≡ h ++ (on ++ (fr ++ (ad ++ (df ++ (ct ++ rest)))))
regroup h on fr ad df ct rest = simp append_assoc

pub pieces_are : (d : Plain) (n k c : ℕ) → n ≡ size d → k ≡ d.kind → c ≡ d.code → pieces d n k c ≡ encode d
pieces_are d n k c e f g = (λ i. pieces d (e i) (f i) (g i)) ∙ regroup (((((le16 (size d) ++ le16 d.kind) ++ le32 d.todt) ++ le16 d.to) ++ (d.ar ∷ d.vb ∷ [])) ++ le16 d.code) d.on (prefixed d.fr) (prefixed d.ad) (prefixed d.df) (prefixed d.ct) d.rest
