-- A new relay agrees with the account of no call.
use Rattle.std.proofs.Common.{◌≡◌, ℕ, zero, suc, ◌≤◌, true, List, [], length, replicate, sym, refl, subst, arith}
use Rattle.std.proofs.lemmas.List.{get_or_past}
use Rattle.text.specs.Forms.{is_address}
use Rattle.message_rows.specs.declared.message.MessageRow.{MessageRow}
use Rattle.status_rows.specs.declared.status.StatusRow.{StatusRow}
use Rattle.spool.specs.Meaning.{at}
use Rattle.spool.specs.Uses.{emptied}
use Rattle.relay.specs.States.{State, fresh}
use Rattle.connections.specs.declared.connections.Slot.{Slot}
use Rattle.account.proofs.Begins.{begins}
use Rattle.deeds.specs.Ranges.{InRange, AllInRange}
use Rattle.deeds.proofs.Places.{empty_in_range}
use Rattle.player.specs.Steps.{world}
use Rattle.player.specs.Runs.{account, Agrees}

all_empty : (n p : ℕ) → at p (replicate n []) ≡ []
all_empty zero p = get_or_past [] p [] (omega arith)
all_empty (suc n) zero = refl
all_empty (suc n) (suc p) = all_empty n p

nothing_there : (places : List (List ℕ)) → AllInRange (emptied places)
nothing_there places p = subst InRange (sym (all_empty (length places) p)) empty_in_range

pub agrees_at_first : (s : State) (slots : List Slot) (ms : List MessageRow) (ss : List StatusRow) (address : List ℕ) (places : List (List ℕ))
    → s ≡ fresh address places → is_address address ≡ true → length places ≤ 256 → Agrees (account []) (world s slots ms ss)
agrees_at_first s slots ms ss address places e from few =
    subst (λ x. Agrees (account []) (world x slots ms ss)) (sym e)
    (record { faithful = begins address places ms from few; in_range = nothing_there places })
