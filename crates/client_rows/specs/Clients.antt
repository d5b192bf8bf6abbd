-- What a white-list row keeps of a client.
use Rattle.std.specs.Prelude.{ℕ, Bool, true, false, cond, ◌&&◌, ◌||◌, List, Some, None, Option, ◌==◌, nat_le}
use Rattle.std.specs.Borrow.{Bor}
use Rattle.short_text.specs.ShortTexts.{kept_text, empty_text, holds_address}
use Rattle.short_text.specs.declared.short_text.ShortText.{ShortText}
use Rattle.client_rows.specs.declared.client.Client.{Client}

-- a client without an address
abbrev pub nameless_client : ℕ → ℕ → Client
nameless_client neighbour class = record { neighbour = neighbour; class = class; has_address = false; address = empty_text }

abbrev pub at_address : ℕ → ℕ → Option ShortText → Option Client
at_address neighbour class (Some a) = Some (record { neighbour = neighbour; class = class; has_address = true; address = a })
at_address neighbour class None = None

abbrev pub perhaps_at_address : ℕ → ℕ → Option (Bor (List ℕ)) → Option Client
perhaps_at_address neighbour class (Some a) = at_address neighbour class (kept_text a.now)
perhaps_at_address neighbour class None = Some (nameless_client neighbour class)

-- a Node's address is passed over; none where another's is too long to keep
abbrev pub client_of : ℕ → ℕ → Option (Bor (List ℕ)) → Option Client
client_of neighbour class address = cond (class == 2) (Some (nameless_client neighbour class)) (perhaps_at_address neighbour class address)

-- a neighbour from 0 to 254; class 1 is an Endpoint, which has an address, and class 2 a Node
abbrev pub client_ok : Client → Bool
client_ok c = nat_le c.neighbour 254 && (c.class == 2 || (c.class == 1 && (c.has_address && holds_address c.address)))
