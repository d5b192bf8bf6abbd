-- When a row that was made of parts is filled.
use Rattle.std.proofs.Common.{◌≡◌, ℕ, Bool, true, false, cond, ◌&&◌, ◌||◌, eqb, leb, List, IfSome, Some, None, Option, sym, refl, ap, subst, Bor}
use Rattle.short_text.specs.declared.short_text.ShortText.{ShortText}
use Rattle.short_text.specs.ShortTexts.{Holds}
use Rattle.short_text.proofs.Held.{kept_holds}
use Rattle.client_rows.specs.declared.white_list.WhiteListRow.{WhiteListRow}
use Rattle.client_rows.specs.Clients.{nameless_client, at_address, perhaps_at_address}
use Rattle.client_rows.specs.WhiteLists.{listed, white_list_row, WhiteListParts}

module _ (fingerprint : List ℕ) (neighbour class until : ℕ) where
  given : (a : Bor (List ℕ)) (s : Option ShortText) → IfSome s (Holds a.now) → IfSome (listed fingerprint (at_address neighbour class s) until) (WhiteListParts neighbour class (Some a))
  given a (Some s) h = record { lawful = ap (λ b. leb neighbour 254 && (eqb class 2 || (eqb class 1 && b))) h.address }
  given a None h = tt

  perhaps_given : (address : Option (Bor (List ℕ))) → IfSome (listed fingerprint (perhaps_at_address neighbour class address) until) (WhiteListParts neighbour class address)
  perhaps_given (Some a) = given a _ (kept_holds a.now)
  perhaps_given None = record { lawful = refl }

  -- of a Node nothing of the address counts
  by_class : (node : Bool) (address : Option (Bor (List ℕ))) → eqb class 2 ≡ node → IfSome (listed fingerprint (cond node (Some (nameless_client neighbour class)) (perhaps_at_address neighbour class address)) until) (WhiteListParts neighbour class address)
  by_class true address e = record { lawful = simp e }
  by_class false address e = perhaps_given address

  pub white_list_parts : (address : Option (Bor (List ℕ))) (r : Option WhiteListRow) → r ≡ white_list_row fingerprint neighbour class address until → IfSome r (WhiteListParts neighbour class address)
  white_list_parts address r e = subst (λ x. IfSome x (WhiteListParts neighbour class address)) (sym e) (by_class (eqb class 2) address refl)
