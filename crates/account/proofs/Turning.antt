-- An envelope that is handed out, waits again, or is set aside: the same bytes at the same place.
use Rattle.std.proofs.Common.{◌≡◌, ℕ, ◌<◌, Bool, true, false, cond, eqb, List, length, Some, None, sym, refl, ap, ◌∙◌, subst, inl, inr, eq-eqb, eqb-true}
use Rattle.envelope.specs.declared.parts.Kind.TheVariants.{Status}
use Rattle.message_rows.specs.declared.message.MessageRow.{MessageRow}
use Rattle.spool.specs.Meaning.{at}
use Rattle.standing.specs.Standings.{standing_at}
use Rattle.standing.specs.declared.standing.About.{About}
use Rattle.standing.specs.declared.standing.Standing.{Standing}
use Rattle.relay.specs.States.{State}
use Rattle.account.specs.Records.{is_message, is_status, end_in}
use Rattle.account.specs.Deeds.{Whereabouts}
use Rattle.account.specs.Accounts.{Booked, Account, change, at_place, turn}
use Rattle.account.specs.Laws.{Balanced, whereabouts, statuses_in}
use Rattle.account.specs.Faith.{Describes, Matches, Sound, Faithful}
use Rattle.account.specs.Moves.{Turned, Holds, about_in}
use Rattle.account.proofs.Lists.{true_false, all_map, change_none}
use Rattle.account.proofs.Known.{none_some, described, matching, status_bytes, status_no_message}
use Rattle.account.proofs.Alone.{not_ended, bytes_there, message_there, by_place}
use Rattle.account.proofs.Sums.{as_many, balance_kept}
use Rattle.account.proofs.Places.{AllBut, all_but}
use Rattle.account.proofs.Moving.{changed, moved, unbooked}

module _ (a : Account) (s s' : State) (rows : List MessageRow) (p : ℕ) (f : Faithful a s rows) where
  -- what is known of the envelope describes it
  known : (about : About) → about_in (standing_at s.standings p) ≡ Some about → p < length s.places → Describes about (at p s.places)
  known about e lt = described (standing_at s.standings p) about (at p s.places) e (f.matched p lt)

  -- as many statuses lie in places as before
  balance_still : (st : Standing) → AllBut p st (at p s.places) s s' → Balanced a.counts s'.places
  balance_still st but =
      let here = is_status (at p s.places) in
      balance_kept a.counts s.places s'.places f.balance (as_many (statuses_in s'.places) (statuses_in s.places) here here but.statuses refl)

  pub turns : (w : Whereabouts) → Turned s s' p (Some w) → Faithful (changed a (change (at_place p) (turn w) a.booked) a.counts) s' rows
  turns w t =
      let st = t.st in
      let here = at p s.places in
      let but : AllBut p st here s s' = all_but p st here s s' t.changed f.table f.few in
      let m : Matches st here = matching st t.about here t.after (known t.about t.before but.within)
      (λ none. absurd (none_some w (sym none ∙ t.stands))) in
      let stand-is : (b : Booked) → b.ends ≡ 0 → cond (eqb b.ends 0) w b.stand ≡ w = λ b e. ap (λ v. cond v w b.stand) (eq-eqb b.ends 0 e) in
      let go : (v : Bool) → is_message here ≡ v → Faithful (changed a (change (at_place p) (turn w) a.booked) a.counts) s' rows =
      elim [
        | true ↦ (λ e. moved a p st here s s' rows but m f (at_place p) (turn w) a.counts (by_place s rows p)
            (λ b h n. record {
              accounted = inr (
                n.0,
                subst (λ k. b.place < k) (sym but.size) (not_ended s rows b n.0 h).0,
                ap (λ k. at k s'.places) n.1 ∙ (but.bytes ∙ bytes_there s rows p b h n),
                ap (λ k. whereabouts (standing_at s'.standings k)) n.1 ∙ (ap whereabouts but.stands ∙ (t.stands ∙ ap Some (sym (stand-is b n.0)))),
              );
              message = h.message;
              lived = h.lived;
              listed = λ lt. h.listed (subst (λ k. k < end_in b.rec) but.time lt);
            })
            (λ b c n r. record { apart = r.apart; once = r.once })
            (λ b c n r. record { apart = r.apart; once = r.once })
            (λ mess b n. n) e (balance_still st but))
        | false ↦ (λ e. subst (λ bs. Faithful (changed a bs a.counts) s' rows)
            (sym (change_none (at_place p) (turn w) a.booked (all_map (Sound s rows) (λ b. at_place p b ≡ true → turn w b ≡ b) (ended_stays w e) a.booked f.each)))
            (unbooked a p st here s s' rows but m f a.counts e e (balance_still st but)))
      ]
      in go (is_message here) refl
    where
      -- one that has ended stays as it is booked
      ended_stays : (w : Whereabouts) → is_message (at p s.places) ≡ false → (b : Booked) → Sound s rows b → at_place p b ≡ true → turn w b ≡ b
      ended_stays w none b h e = elim h.accounted [
        | inl z ↦ let q : cond (eqb b.ends 0) w b.stand ≡ b.stand = ap (λ n. cond (eqb n 0) w b.stand) z in
            λ i. record { rec = b.rec; at = b.at; place = b.place; stand = q i; ends = b.ends }
        | inr x ↦ absurd (true_false (is_message (at p s.places)) (message_there s rows p b h (x.0, eqb-true b.place p e)) none)
      ]

  -- a status is set aside
  pub sets_aside : Holds s p Status → Turned s s' p None → Faithful a s' rows
  sets_aside (about, is, status) t =
      let st = t.st in
      let here = at p s.places in
      let but : AllBut p st here s s' = all_but p st here s s' t.changed f.table f.few in
      let d = known about is but.within in
      let after : about_in st ≡ Some about = t.after ∙ (sym t.before ∙ is) in
      let none = status_no_message here (status_bytes about here d status) in
      unbooked a p st here s s' rows but (matching st about here after d (λ e. status)) f a.counts none none (balance_still st but)
