use Rattle.std.proofs.Common.{ℕ, List, [], ◌∷◌, ◌++◌, ap, ◌∙◌}
use Rattle.envelope_fields.specs.Plain.{plain}
use Rattle.writing.specs.Buffers.{filled}
use Rattle.writing.specs.Encoding.{prefixed}
use Rattle.writing.proofs.Pastes.{begun, two_more, wrote_more}
use Rattle.writing.proofs.Pieces.{pieces_are}
use Rattle.writing.proofs.writing.put_all.Goals as goal

pub returns : goal.returns
returns c =
    let d = c.args.fields in
    let orig = c.args.draft.now.buf.now in
    let w0 = begun orig c.requires.empty in
    let w1 = wrote_more c.to_le_bytes.result _ _ w0 c.put.ensures.buf c.put.ensures.len in
    let w2 = wrote_more c.to_le_bytes-2.result _ _ w1 c.put-2.ensures.buf c.put-2.ensures.len in
    let w3 = wrote_more c.to_le_bytes-3.result _ _ w2 c.put-3.ensures.buf c.put-3.ensures.len in
    let w4 = wrote_more c.to_le_bytes-4.result _ _ w3 c.put-4.ensures.buf c.put-4.ensures.len in
    let w5 = wrote_more (d.ar ∷ d.vb ∷ []) _ _ w4 c.put-5.ensures.buf c.put-5.ensures.len in
    let w6 = wrote_more c.to_le_bytes-5.result _ _ w5 c.put-6.ensures.buf c.put-6.ensures.len in
    let w7 = wrote_more d.on.now _ _ w6 c.put-7.ensures.buf c.put-7.ensures.len in
    let w8 = wrote_more (prefixed d.fr.now) _ _ w7 c.put_field.ensures.buf (c.put_field.ensures.len ∙ two_more _ _) in
    let w9 = wrote_more (prefixed d.ad.now) _ _ w8 c.put_field-2.ensures.buf (c.put_field-2.ensures.len ∙ two_more _ _) in
    let w10 = wrote_more (prefixed d.df.now) _ _ w9 c.put_field-3.ensures.buf (c.put_field-3.ensures.len ∙ two_more _ _) in
    let w11 = wrote_more (prefixed d.ct.now) _ _ w10 c.put_field-4.ensures.buf (c.put_field-4.ensures.len ∙ two_more _ _) in
    let w12 = wrote_more d.rest.now _ _ w11 c.put-8.ensures.buf c.put-8.ensures.len in
    let t1 = c.to_le_bytes.ensures in let t2 = c.to_le_bytes-2.ensures in let t3 = c.to_le_bytes-3.ensures in
    let t4 = c.to_le_bytes-4.ensures in let t5 = c.to_le_bytes-5.ensures in
    let texts = λ (h : List ℕ). ((((h ++ d.on.now) ++ prefixed d.fr.now) ++ prefixed d.ad.now) ++ prefixed d.df.now) ++ prefixed d.ct.now in
    record {
      after = w12.now
          ∙ (λ i. filled (texts (((((t1 i ++ t2 i) ++ t3 i) ++ t4 i) ++ (d.ar ∷ d.vb ∷ [])) ++ t5 i) ++ d.rest.now) orig)
          ∙ ap (λ x. filled x orig) (pieces_are (plain d) _ _ _ c.requires.fits.0 (c.number.ensures ∙ c.kind.ensures) c.code.ensures);
      lender = c.put-8.ensures.lender ∙ c.put_field-4.ensures.lender ∙ c.put_field-3.ensures.lender ∙ c.put_field-2.ensures.lender
          ∙ c.put_field.ensures.lender ∙ c.put-7.ensures.lender ∙ c.put-6.ensures.lender ∙ c.put-5.ensures.lender ∙ c.put-4.ensures.lender
          ∙ c.put-3.ensures.lender ∙ c.put-2.ensures.lender ∙ c.put.ensures.lender;
    }
