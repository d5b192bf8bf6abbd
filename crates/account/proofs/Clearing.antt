-- A place that is cleared, or whose message gives way to a status about it.
use Rattle.std.proofs.Common.{◌≡◌, ℕ, ◌+◌, ◌<◌, Bool, true, false, List, [], length, sym, refl, ◌∙◌, subst, inl, arith}
use Rattle.envelope.specs.declared.parts.Kind.TheVariants.{Message, Status}
use Rattle.message_rows.specs.declared.message.MessageRow.{MessageRow}
use Rattle.spool.specs.Meaning.{at}
use Rattle.standing.specs.Standings.{standing_at}
use Rattle.standing.specs.declared.standing.Standing.{Standing}
use Rattle.standing.specs.declared.standing.Standing.TheVariants.{Free}
use Rattle.relay.specs.States.{State}
use Rattle.account.specs.Records.{is_message, is_status, end_in}
use Rattle.account.specs.Accounts.{Booked, Account, Counts, change, end, at_place, one_reported}
use Rattle.account.specs.Laws.{LiesAt, Balanced, statuses_in}
use Rattle.account.specs.Faith.{Matches, Sound, Related, Faithful}
use Rattle.account.specs.Moves.{Cleared, GaveWay, Holds}
use Rattle.account.proofs.Lists.{Aim, true_false}
use Rattle.account.proofs.Known.{empty_no_message, empty_no_status, described, message_bytes, status_bytes, message_no_status, status_no_message}
use Rattle.account.proofs.Alone.{by_place}
use Rattle.account.proofs.Sums.{as_many, one_more, one_less, balance_kept, balance_reported}
use Rattle.account.proofs.Places.{AllBut, all_but}
use Rattle.account.proofs.Moving.{changed, moved, unbooked}

module _ (a : Account) (s s' : State) (rows : List MessageRow) (p : ℕ) (f : Faithful a s rows) where
  message_held : Holds s p Message → p < length s.places → is_message (at p s.places) ≡ true
  message_held (about, is, k) lt = message_bytes about (at p s.places) (described (standing_at s.standings p) about (at p s.places) is (f.matched p lt)) k

  status_held : Holds s p Status → p < length s.places → is_status (at p s.places) ≡ true
  status_held (about, is, k) lt = status_bytes about (at p s.places) (described (standing_at s.standings p) about (at p s.places) is (f.matched p lt)) k

  -- the message at the place ends, and what comes in its place is none
  ends_there : (st : Standing) (rec : List ℕ) (fits : Booked → Bool) (counts : Counts) → AllBut p st rec s s' → Matches st rec → is_message rec ≡ false
      → Holds s p Message → Aim fits (Sound s rows) (LiesAt p) Related → Balanced counts s'.places
      → Faithful (changed a (change fits end a.booked) counts) s' rows
  ends_there st rec fits counts but m none held aim balance =
      moved a p st rec s s' rows but m f fits end counts aim
      (λ b h n. record {
        accounted = inl (omega (arith, n.0));
        message = h.message;
        lived = h.lived;
        listed = λ lt. h.listed (subst (λ k. k < end_in b.rec) but.time lt);
      })
      (λ b c n r. record { apart = r.apart; once = r.once })
      (λ b c n r. record { apart = λ e. absurd (omega (arith, n.0, r.apart e)); once = r.once })
      (λ mess b n. absurd (true_false (is_message rec) mess none))
      (message_held held but.within) balance

  pub clears_message : (fits : Booked → Bool) → Cleared s s' p Message → Aim fits (Sound s rows) (LiesAt p) Related
      → Faithful (changed a (change fits end a.booked) a.counts) s' rows
  clears_message fits (held, change) aim =
      let but : AllBut p Free [] s s' = all_but p Free [] s s' change f.table f.few in
      let before : is_status (at p s.places) ≡ false = message_no_status (at p s.places) (message_held held but.within) in
      ends_there Free [] fits a.counts but refl empty_no_message held aim
      (balance_kept a.counts s.places s'.places f.balance
      (as_many (statuses_in s'.places) (statuses_in s.places) (is_status (at p s.places)) (is_status []) but.statuses (before ∙ sym empty_no_status)))

  -- the status that went counts among those that it joins
  pub clears_status : (counts : Counts) → Cleared s s' p Status → (statuses_in s.places ≡ statuses_in s'.places + 1 → Balanced counts s'.places)
      → Faithful (changed a a.booked counts) s' rows
  clears_status counts (held, change) balance =
      let but : AllBut p Free [] s s' = all_but p Free [] s s' change f.table f.few in
      let before : is_status (at p s.places) ≡ true = status_held held but.within in
      unbooked a p Free [] s s' rows but refl f counts (status_no_message (at p s.places) before) empty_no_message
      (balance (one_less (statuses_in s'.places) (statuses_in s.places) (is_status (at p s.places)) (is_status []) but.statuses before empty_no_status))

  pub gives_way : GaveWay s s' p → Faithful (changed a (change (at_place p) end a.booked) (one_reported a.counts)) s' rows
  gives_way g =
      let but : AllBut p g.st g.rec s s' = all_but p g.st g.rec s s' g.changed f.table f.few in
      let before : is_status (at p s.places) ≡ false = message_no_status (at p s.places) (message_held g.before but.within) in
      ends_there g.st g.rec (at_place p) (one_reported a.counts) but g.matched (status_no_message g.rec g.status) g.before (by_place s rows p)
      (balance_reported a.counts s.places s'.places f.balance
      (one_more (statuses_in s'.places) (statuses_in s.places) (is_status (at p s.places)) (is_status g.rec) but.statuses before g.status))
