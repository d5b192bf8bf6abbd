-- Status rows: their key is FR, AD, ON and the code, and they end seven days after TODT.
use Rattle.std.specs.Prelude.{◌≡◌, ℕ, Bool, true, false, ◌&&◌, List, Some, None, Option, ◌==◌}
use Rattle.envelope.specs.Life.{end_of_status}
use Rattle.envelope.specs.Limits.{code_ok}
use Rattle.text.specs.Forms.{is_address, is_operation_number}
use Rattle.ledger.specs.Kinds.{Kind}
use Rattle.short_text.specs.ShortTexts.{kept_text, text_of, empty_text, holds_address, holds_operation_number, same_short_text}
use Rattle.envelope_rows.specs.declared.kept.Kept.{Kept}
use Rattle.message_rows.specs.declared.message.MessageKey.{MessageKey}
use Rattle.status_rows.specs.declared.status.StatusKey.{StatusKey}
use Rattle.status_rows.specs.declared.status.StatusRow.{StatusRow}
use Rattle.short_text.specs.declared.short_text.ShortText.{ShortText}
use Rattle.message_rows.specs.Messages.{message_key_of}
use Rattle.envelope_rows.specs.Kepts.{kept_ok, empty_kept}

-- a status is kind 2
abbrev pub status_filled : StatusRow → Bool
status_filled r = r.used && ((holds_address r.fr && holds_address r.ad) && (holds_operation_number r.on && (code_ok 2 r.code && kept_ok r.kept)))

abbrev pub status_key : StatusRow → StatusKey
status_key r = record { fr = r.fr; ad = r.ad; on = r.on; code = r.code }

-- seven days after TODT
abbrev pub status_end : StatusRow → ℕ
status_end r = end_of_status r.kept.todt

abbrev pub same_status : StatusKey → StatusKey → Bool
same_status a b = (same_short_text a.fr b.fr && same_short_text a.ad b.ad) && (same_short_text a.on b.on && a.code == b.code)

abbrev pub freed_status : StatusRow
freed_status = record { used = false; fr = empty_text; ad = empty_text; on = empty_text; code = 0; kept = empty_kept }

abbrev pub statuses : Kind StatusRow StatusKey
statuses = record { filled = status_filled; key = status_key; ends = status_end; same = same_status; freed = freed_status }

-- a key of a message's key, an address and a code
abbrev pub with_address : Option MessageKey → Option ShortText → ℕ → Option StatusKey
with_address (Some k) (Some ad) code = Some (record { fr = k.fr; ad = ad; on = k.on; code = code })
with_address (Some k) None code = None
with_address None ad code = None

-- none where a text is too long to keep
abbrev pub status_key_of : List ℕ → List ℕ → List ℕ → ℕ → Option StatusKey
status_key_of fr ad on code = with_address (message_key_of fr on) (kept_text ad) code

-- a row in use with that key
abbrev pub status_row_of : StatusKey → Kept → StatusRow
status_row_of key kept = record { used = true; fr = key.fr; ad = key.ad; on = key.on; code = key.code; kept = kept }

abbrev pub status_in_use : Option StatusKey → Kept → Option StatusRow
status_in_use (Some k) kept = Some (status_row_of k kept)
status_in_use None kept = None

-- a row in use of these parts, and none where a text is too long to keep
abbrev pub status_row : List ℕ → List ℕ → List ℕ → ℕ → Kept → Option StatusRow
status_row fr ad on code kept = status_in_use (status_key_of fr ad on code) kept

-- a row's texts are those that it was made of, and it is filled where all its parts are lawful
pub record StatusParts (fr ad on : List ℕ) (code : ℕ) (kept : Kept) (row : StatusRow) : Type 0 where
  pub fr_text : text_of row.fr ≡ fr
  pub ad_text : text_of row.ad ≡ ad
  pub on_text : text_of row.on ≡ on
  pub lawful : status_filled row ≡ ((is_address fr && is_address ad) && (is_operation_number on && (code_ok 2 code && kept_ok kept)))
