-- What holds of every envelope that was read.
use Rattle.std.specs.Prelude.{◌≡◌, ℕ, ◌+◌, ◌≤◌, true, List, length, take, drop}
use Rattle.text.specs.Forms.{is_address, is_dataflow, is_operation_number, is_contacts}
use Rattle.envelope.specs.Limits.{kind_ok, code_ok}
use Rattle.envelope.specs.Views.{Seen, Whole}

pub record Lawful (w : Whole) : Type 0 where
  pub kind : kind_ok w.kind ≡ true
  pub code : code_ok w.kind w.code ≡ true
  pub to_least : 1 ≤ w.fields.to
  pub to_most : w.fields.to ≤ 600
  pub to_before : w.fields.to ≤ w.fields.todt
  pub ar_most : w.fields.ar ≤ 1
  pub vb_most : w.fields.vb ≤ 4
  pub on : is_operation_number w.fields.on.bytes ≡ true
  pub fr : is_address w.fields.fr.bytes ≡ true
  pub ad : is_address w.fields.ad.bytes ≡ true
  pub df : is_dataflow w.fields.df.bytes ≡ true
  pub ct : is_contacts w.fields.ct.bytes ≡ true
  pub on_length : length w.fields.on.bytes ≡ 20
  pub fr_least : 1 ≤ length w.fields.fr.bytes
  pub fr_most : length w.fields.fr.bytes ≤ 64
  pub ad_least : 1 ≤ length w.fields.ad.bytes
  pub ad_most : length w.fields.ad.bytes ≤ 64
  pub df_least : 5 ≤ length w.fields.df.bytes
  pub df_most : length w.fields.df.bytes ≤ 256
  pub ct_most : length w.fields.ct.bytes ≤ 128
  pub rest_most : length w.fields.rest.bytes ≤ 1999

-- the length of a record whose first field is right
pub record Sized (r : List ℕ) : Type 0 where
  pub least : 49 ≤ length r
  pub most : length r ≤ 2048

-- s is the bytes of r from its place on
pub record PartOf (r : List ℕ) (s : Seen) : Type 0 where
  pub within : s.at + length s.bytes ≤ length r
  pub bytes : s.bytes ≡ take (length s.bytes) (drop s.at r)

-- the parts are parts of the record, one after the other, the rest up to its end
pub record Placed (r : List ℕ) (w : Whole) : Type 0 where
  pub sized : Sized r
  pub on : PartOf r w.fields.on
  pub fr : PartOf r w.fields.fr
  pub ad : PartOf r w.fields.ad
  pub df : PartOf r w.fields.df
  pub ct : PartOf r w.fields.ct
  pub rest : PartOf r w.fields.rest
  pub on_offset : w.fields.on.at ≡ 14
  pub fr_offset : w.fields.fr.at ≡ 36
  pub ad_offset : w.fields.ad.at ≡ w.fields.fr.at + length w.fields.fr.bytes + 2
  pub df_offset : w.fields.df.at ≡ w.fields.ad.at + length w.fields.ad.bytes + 2
  pub ct_offset : w.fields.ct.at ≡ w.fields.df.at + length w.fields.df.bytes + 2
  pub rest_offset : w.fields.rest.at ≡ w.fields.ct.at + length w.fields.ct.bytes
  pub rest_end : w.fields.rest.at + length w.fields.rest.bytes ≡ length r
