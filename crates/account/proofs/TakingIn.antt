-- A record that is taken in: a message is booked, a status is counted.
use Rattle.std.proofs.Common.{◌≡◌, ℕ, ◌<◌, ◌≤◌, Bool, true, false, cond, leb, List, [], ◌∷◌, Some, None, sym, refl, ap, ◌∙◌, subst, inl, inr, arith, leb-false, leb-true}
use Rattle.ledger.specs.Searches.{found, place_for}
use Rattle.message_rows.specs.Messages.{messages, message_key}
use Rattle.message_rows.specs.declared.message.MessageRow.{MessageRow}
use Rattle.spool.specs.Meaning.{at}
use Rattle.relay.specs.States.{State}
use Rattle.account.specs.Records.{is_message, is_status, alike, end_in}
use Rattle.account.specs.Deeds.{Whereabouts}
use Rattle.account.specs.Accounts.{Booked, Account, fresh, with_booked, with_counts, one_taken, book_taken_in}
use Rattle.account.specs.Laws.{All, Any, Pairs, whereabouts, statuses_in}
use Rattle.account.specs.Faith.{Matches, Listed, Sound, Related, Faithful}
use Rattle.account.specs.Moves.{TookIn}
use Rattle.account.proofs.Lists.{true_false, all_map}
use Rattle.account.proofs.Ledgers.{listed_new, listed_stays, not_found_not_alike}
use Rattle.account.proofs.Known.{empty_no_message, empty_no_status, message_no_status, status_no_message}
use Rattle.account.proofs.Alone.{message_there}
use Rattle.account.proofs.Sums.{as_many, one_more, balance_kept, balance_taken}
use Rattle.account.proofs.Places.{AllBut, all_but, sound_elsewhere}
use Rattle.account.proofs.Moving.{altered, unbooked}

at_or_before : (x t y : ℕ) → x ≡ t → y ≤ t → y ≤ x
at_or_before x t y e h = omega arith

before : (x t y : ℕ) → x ≡ t → t < y → x < y
before x t y e h = omega arith

module _ (a : Account) (s s' : State) (rows rows' : List MessageRow) (rec : List ℕ) (p : ℕ) (w : Whereabouts) (f : Faithful a s rows)
    (t : TookIn s s' rows rows' rec p w) where
  but : AllBut p t.st rec s s'
  but = all_but p t.st rec s s' t.changed f.table f.few

  was_empty : at p s.places ≡ []
  was_empty = subst (λ x. Matches x (at p s.places)) t.free (f.matched p but.within)

  no_message : is_message (at p s.places) ≡ false
  no_message = ap is_message was_empty ∙ empty_no_message

  no_status : is_status (at p s.places) ≡ false
  no_status = ap is_status was_empty ∙ empty_no_status

  away : (b : Booked) → Sound s rows b → b.ends ≡ 0 → b.place ≡ p → ⊥
  away b h z e = true_false (is_message (at p s.places)) (message_there s rows p b h (z, e)) no_message

  -- one booked before had expired, or is not alike
  once : is_message rec ≡ true → (b : Booked) → Sound s rows b → alike rec b.rec ≡ true → end_in b.rec ≤ a.time
  once mess b h same =
      let (whole, key, row, reads, key-is, unknown, room, row-key, answers, rows_are) = t.message mess in
      let go : (v : Bool) → leb (end_in b.rec) s.time ≡ v → end_in b.rec ≤ a.time =
      elim [
        | true ↦ (λ q. at_or_before a.time s.time (end_in b.rec) f.same_time (leb-true (end_in b.rec) s.time q))
        | false ↦ (λ q. let live : s.time < end_in b.rec = leb-false (end_in b.rec) s.time q in
            absurd (not_found_not_alike s.time rows rec b.rec whole key reads key-is unknown live (h.listed live) same))
      ]
      in go (leb (end_in b.rec) s.time) refl

  takes_message : is_message rec ≡ true → Faithful (with_booked a (fresh rec a.time p w ∷ a.booked)) s' rows'
  unfolding All Any Pairs
  takes_message mess =
      let (whole, key, row, reads, key-is, unknown, room, row-key, answers, rows_are) = t.message mess in
      let none : found messages s.time (message_key row) rows ≡ None = ap (λ k. found messages s.time k rows) row-key ∙ unknown in
      let spot : place_for messages s.time (message_key row) rows ≡ Some room.0 = ap (λ k. place_for messages s.time k rows) row-key ∙ room.1 in
      let same = as_many (statuses_in s'.places) (statuses_in s.places) (is_status (at p s.places)) (is_status rec) but.statuses
      (no_status ∙ sym (message_no_status rec mess)) in
      altered a p t.st rec s s' rows but t.matched f rows' (fresh rec a.time p w ∷ a.booked) a.counts (
        record {
          accounted = inr (refl, subst (λ n. p < n) (sym but.size) but.within, but.bytes, ap whereabouts but.stands ∙ t.stands);
          message = mess;
          lived = before a.time s.time (end_in rec) f.same_time t.live;
          listed = λ lt. subst (λ rs. Listed rs rec) (sym rows_are) (listed_new s.time row rec rows room.0 spot answers);
        },
        all_map (Sound s rows) (Sound s' rows')
            (λ b h. sound_elsewhere p t.st rec s s' but rows rows' b (away b h)
            (λ live l. subst (λ rs. Listed rs b.rec) (sym rows_are) (listed_stays s.time row b.rec rows none live l)) h)
            a.booked f.each,
      ) (
        all_map (Sound s rows) (Related (fresh rec a.time p w))
            (λ b h. record {
              apart = λ e. elim h.accounted [ inl x ↦ x | inr x ↦ absurd (away b h x.0 (sym e)) ];
              once = once mess b h;
            })
            a.booked f.each,
        f.pairs,
      )
      (λ m. inl (refl, refl))
      (λ q ne any. inr any)
      (balance_kept a.counts s.places s'.places f.balance same)

  takes_status : is_status rec ≡ true → rows' ≡ rows → Faithful (with_counts a (one_taken a.counts)) s' rows'
  takes_status is rows_are =
      subst (λ rs. Faithful (with_counts a (one_taken a.counts)) s' rs) (sym rows_are)
      (unbooked a p t.st rec s s' rows but t.matched f (one_taken a.counts) no_message (status_no_message rec is)
      (balance_taken a.counts s.places s'.places f.balance
      (one_more (statuses_in s'.places) (statuses_in s.places) (is_status (at p s.places)) (is_status rec) but.statuses no_status is)))

  pub takes_in : Faithful (book_taken_in a rec p w) s' rows'
  takes_in =
      let booked = with_booked a (fresh rec a.time p w ∷ a.booked) in
      let counted = with_counts a (one_taken a.counts) in
      elim t.status [
        | inl mess ↦ subst (λ v. Faithful (cond v booked counted) s' rows') (sym mess) (takes_message mess)
        | inr (is, rows_are) ↦ subst (λ v. Faithful (cond v booked counted) s' rows') (sym (status_no_message rec is)) (takes_status is rows_are)
      ]
