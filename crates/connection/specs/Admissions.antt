-- What admission answers, what is kept of a client, and for whom it may send.
use Rattle.std.specs.Prelude.{◌≡◌, ℕ, Bool, true, cond, List, Some, None, Ok, Err, Option, Result, ◌==◌}
use Rattle.text.specs.Forms.{same_text}
use Rattle.short_text.specs.ShortTexts.{text_of}
use Rattle.short_text.specs.declared.short_text.ShortText.{ShortText}
use Rattle.ledger.specs.Searches.{found, row_at}
use Rattle.client_rows.specs.WhiteLists.{white_list_kind}
use Rattle.client_rows.specs.declared.client.Client.{Client}
use Rattle.client_rows.specs.declared.white_list.WhiteListRow.{WhiteListRow}
use Rattle.connection.specs.declared.admission.Open.{Open}
use Rattle.connection.specs.declared.admission.NotAdmitted.{NotAdmitted}
use Rattle.connection.specs.declared.admitted.Admitted.{Admitted}
use Rattle.connection.specs.declared.fault.AdmissionFault.TheVariants.{NoLiveRow}
use Rattle.connection.specs.Words.{words_of, bytes_of}

-- a connection that has shown this fingerprint
abbrev pub opened : List ℕ → Open
opened fingerprint = record { fingerprint = fingerprint }

-- what is kept of a client
abbrev pub admitted_as : Client → Admitted
admitted_as c = record { neighbour = c.neighbour; class = c.class; length = c.address.len; words = words_of c.address.bytes }

abbrev pub address_of : Admitted → ShortText
address_of a = record { bytes = bytes_of a.words; len = a.length }

-- an Endpoint, class 1, sends for its own address alone, whatever the case of its letters, and any other for all
abbrev pub may_send : Admitted → List ℕ → Bool
may_send a from = cond (a.class == 1) (same_text (text_of (address_of a)) from) true

-- as the client of the row, or else the open connection comes back
abbrev pub admission_by : Open → Option WhiteListRow → Result Admitted NotAdmitted
admission_by o (Some row) = Ok (admitted_as row.client)
admission_by o None = Err (record { connection = o; fault = NoLiveRow })

-- by the first row of the white list that is live at time t and has the fingerprint
abbrev pub admission : Open → ℕ → List WhiteListRow → Result Admitted NotAdmitted
admission o t rows = admission_by o (row_at (found white_list_kind t o.fingerprint rows) rows)

-- what is admitted by a row has its address, and without a row nothing is admitted
abbrev pub GivesBack : Option WhiteListRow → Result Admitted NotAdmitted → Type 0
GivesBack (Some row) (Ok a) = address_of a ≡ row.client.address
GivesBack (Some row) (Err e) = ⊥
GivesBack None (Ok a) = ⊥
GivesBack None (Err e) = Unit {0}
