-- Message rows: their key is FR and ON, and they end when the message expires.
use Rattle.std.specs.Prelude.{◌≡◌, ℕ, Bool, true, false, ◌&&◌, List, Some, None, Option}
use Rattle.envelope.specs.Life.{end_of_message}
use Rattle.text.specs.Forms.{is_address, is_operation_number}
use Rattle.ledger.specs.Kinds.{Kind}
use Rattle.short_text.specs.ShortTexts.{kept_text, text_of, empty_text, holds_address, holds_operation_number, same_short_text}
use Rattle.short_text.specs.declared.short_text.ShortText.{ShortText}
use Rattle.envelope_rows.specs.declared.kept.Kept.{Kept}
use Rattle.message_rows.specs.declared.message.MessageKey.{MessageKey}
use Rattle.message_rows.specs.declared.message.MessageRow.{MessageRow}
use Rattle.envelope_rows.specs.Kepts.{kept_ok, empty_kept}

abbrev pub message_filled : MessageRow → Bool
message_filled r = r.used && (holds_address r.fr && (holds_operation_number r.on && kept_ok r.kept))

abbrev pub message_key : MessageRow → MessageKey
message_key r = record { fr = r.fr; on = r.on }

-- TO seconds before TODT
abbrev pub message_end : MessageRow → ℕ
message_end r = end_of_message r.kept.todt r.kept.to

abbrev pub same_message : MessageKey → MessageKey → Bool
same_message a b = same_short_text a.fr b.fr && same_short_text a.on b.on

abbrev pub freed_message : MessageRow
freed_message = record { used = false; fr = empty_text; on = empty_text; kept = empty_kept }

abbrev pub messages : Kind MessageRow MessageKey
messages = record { filled = message_filled; key = message_key; ends = message_end; same = same_message; freed = freed_message }

abbrev pub of_texts : Option ShortText → Option ShortText → Option MessageKey
of_texts (Some fr) (Some on) = Some (record { fr = fr; on = on })
of_texts (Some fr) None = None
of_texts None on = None

-- none where a text is too long to keep
abbrev pub message_key_of : List ℕ → List ℕ → Option MessageKey
message_key_of fr on = of_texts (kept_text fr) (kept_text on)

-- a row in use with that key
abbrev pub message_row_of : MessageKey → Kept → MessageRow
message_row_of key kept = record { used = true; fr = key.fr; on = key.on; kept = kept }

abbrev pub message_in_use : Option MessageKey → Kept → Option MessageRow
message_in_use (Some k) kept = Some (message_row_of k kept)
message_in_use None kept = None

-- a row in use of these parts, and none where a text is too long to keep
abbrev pub message_row : List ℕ → List ℕ → Kept → Option MessageRow
message_row fr on kept = message_in_use (message_key_of fr on) kept

-- a row's texts are those that it was made of, and it is filled where all its parts are lawful
pub record MessageParts (fr on : List ℕ) (kept : Kept) (row : MessageRow) : Type 0 where
  pub fr_text : text_of row.fr ≡ fr
  pub on_text : text_of row.on ≡ on
  pub lawful : message_filled row ≡ (is_address fr && (is_operation_number on && kept_ok kept))
