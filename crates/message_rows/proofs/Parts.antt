-- What a row was made of, read back from it.
use Rattle.std.proofs.Common.{◌≡◌, ℕ, ◌&&◌, List, IfSome, Some, None, Option, sym, subst}
use Rattle.short_text.specs.declared.short_text.ShortText.{ShortText}
use Rattle.short_text.specs.ShortTexts.{Holds}
use Rattle.short_text.proofs.Held.{kept_holds}
use Rattle.envelope_rows.specs.declared.kept.Kept.{Kept}
use Rattle.message_rows.specs.declared.message.MessageRow.{MessageRow}
use Rattle.envelope_rows.specs.Kepts.{kept_ok}
use Rattle.message_rows.specs.Messages.{of_texts, message_in_use, message_row, MessageParts}

module _ (fr on : List ℕ) (kept : Kept) where
  of_message_lem : (f o : Option ShortText) → IfSome f (Holds fr) → IfSome o (Holds on) → IfSome (message_in_use (of_texts f o) kept) (MessageParts fr on kept)
  of_message_lem (Some f) (Some o) hf ho = record {
    fr_text = hf.text;
    on_text = ho.text;
    lawful = λ i. hf.address i && (ho.operation_number i && kept_ok kept);
  }
  of_message_lem (Some f) None hf ho = tt
  of_message_lem None o hf ho = tt

  pub message_parts : (r : Option MessageRow) → r ≡ message_row fr on kept → IfSome r (MessageParts fr on kept)
  message_parts r e = subst (λ x. IfSome x (MessageParts fr on kept)) (sym e) (of_message_lem _ _ (kept_holds fr) (kept_holds on))
