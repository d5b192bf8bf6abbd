-- What a row was made of, read back from it.
use Rattle.std.proofs.Common.{◌≡◌, ℕ, ◌&&◌, List, IfSome, Some, None, Option, sym, subst}
use Rattle.envelope.specs.Limits.{code_ok}
use Rattle.short_text.specs.declared.short_text.ShortText.{ShortText}
use Rattle.short_text.specs.ShortTexts.{Holds}
use Rattle.short_text.proofs.Held.{kept_holds}
use Rattle.envelope_rows.specs.declared.kept.Kept.{Kept}
use Rattle.status_rows.specs.declared.status.StatusRow.{StatusRow}
use Rattle.envelope_rows.specs.Kepts.{kept_ok}
use Rattle.message_rows.specs.Messages.{of_texts}
use Rattle.status_rows.specs.Statuses.{with_address, status_in_use, status_row, StatusParts}

module _ (fr ad on : List ℕ) (code : ℕ) (kept : Kept) where
  of_status_lem : (f a o : Option ShortText) → IfSome f (Holds fr) → IfSome a (Holds ad) → IfSome o (Holds on) → IfSome (status_in_use (with_address (of_texts f o) a code) kept) (StatusParts fr ad on code kept)
  of_status_lem (Some f) (Some a) (Some o) hf ha ho = record {
    fr_text = hf.text;
    ad_text = ha.text;
    on_text = ho.text;
    lawful = λ i. (hf.address i && ha.address i) && (ho.operation_number i && (code_ok 2 code && kept_ok kept));
  }
  of_status_lem (Some f) None (Some o) hf ha ho = tt
  of_status_lem (Some f) a None hf ha ho = tt
  of_status_lem None a o hf ha ho = tt

  pub status_parts : (r : Option StatusRow) → r ≡ status_row fr ad on code kept → IfSome r (StatusParts fr ad on code kept)
  status_parts r e = subst (λ x. IfSome x (StatusParts fr ad on code kept)) (sym e) (of_status_lem _ _ _ (kept_holds fr) (kept_holds ad) (kept_holds on))
