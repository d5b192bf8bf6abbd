-- The laws follow from faith.
use Rattle.std.proofs.Common.{◌≡◌, ℕ, List, sym, ap, ◌∙◌, inl, inr}
use Rattle.message_rows.specs.declared.message.MessageRow.{MessageRow}
use Rattle.spool.specs.Meaning.{at}
use Rattle.relay.specs.States.{State}
use Rattle.account.specs.Records.{is_message}
use Rattle.account.specs.Accounts.{Booked, Account}
use Rattle.account.specs.Laws.{All, Laws, HeldOrEndedOnce, LiesAt, TakenInOnce}
use Rattle.account.specs.Faith.{Sound, Related, Faithful}
use Rattle.account.proofs.Lists.{all_map, all_both, any_in, pairs_map, Met, all_meet}
use Rattle.account.proofs.Alone.{not_same_bytes, bytes_there}

module _ (a : Account) (s : State) (rows : List MessageRow) (f : Faithful a s rows) where
  -- the bytes of a message that has not ended lie in no other place
  nowhere_else : (b : Booked) → Sound s rows b → All (Met Related b) a.booked → (q : ℕ) → at q s.places ≡ b.rec → q ≡ b.place
  nowhere_else b h met q e =
      any_in (λ c. Sound s rows c × Met Related b c) (LiesAt q) (q ≡ b.place)
      (λ c k n. let same : c.rec ≡ b.rec = sym (bytes_there s rows q c k.0 n) ∙ e in
      elim k.1 [
        | inl is ↦ sym n.1 ∙ ap (λ (x : Booked). x.place) is
        | inr (inl r) ↦ absurd (not_same_bytes s rows b c h r (sym same))
        | inr (inr r) ↦ absurd (not_same_bytes s rows c b k.0 r same)
      ])
      a.booked (all_both (Sound s rows) (Met Related b) a.booked f.each met) (f.no_other q (ap is_message e ∙ h.message))

  held : (b : Booked) → Sound s rows b × All (Met Related b) a.booked → HeldOrEndedOnce s b
  held b (h, met) = elim h.accounted [
    | inl e ↦ inr e
    | inr (z, within, bytes, stands) ↦ inl (z, record { within = within; bytes = bytes; stands = stands; nowhere_else = nowhere_else b h met })
  ]

pub lawful : (a : Account) (s : State) (rows : List MessageRow) → Faithful a s rows → Laws a s
lawful a s rows f =
    record {
      no_request_lost = all_map (λ b. Sound s rows b × All (Met Related b) a.booked) (HeldOrEndedOnce s) (held a s rows f) a.booked
          (all_both (Sound s rows) (λ b. All (Met Related b) a.booked) a.booked f.each (all_meet Related a.booked f.pairs));
      no_message_unbooked = f.no_other;
      statuses_balance = f.balance;
      no_request_doubled = pairs_map Related TakenInOnce (λ b c r. r.once) a.booked f.pairs;
      same_time = f.same_time;
    }
