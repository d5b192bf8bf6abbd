-- A change at one place keeps the relay faithful: of a message that is booked there, and of what is not booked.
use Rattle.std.proofs.Common.{◌≡◌, ℕ, ◌≤◌, Bool, true, false, eqb, List, sym, refl, ap, ◌∙◌, subst, arith, eqb-true}
use borrow.Author.Tests.{eqb-false}
use Rattle.text.specs.Forms.{is_address}
use Rattle.message_rows.specs.declared.message.MessageRow.{MessageRow}
use Rattle.spool.specs.Meaning.{at}
use Rattle.standing.specs.declared.standing.Standing.{Standing}
use Rattle.relay.specs.States.{State}
use Rattle.account.specs.Records.{is_message}
use Rattle.account.specs.Accounts.{Booked, Account, Counts, change}
use Rattle.account.specs.Laws.{All, Any, Pairs, LiesAt, Balanced}
use Rattle.account.specs.Faith.{Matches, Sound, Related, Faithful}
use Rattle.account.proofs.Lists.{true_false, all_map, Aim, change_all, change_pairs, change_any}
use Rattle.account.proofs.Alone.{message_there}
use Rattle.account.proofs.Places.{AllBut, unused_still, matched_still, sound_elsewhere}

abbrev pub changed : Account → List Booked → Counts → Account
changed a booked counts = record { time = a.time; booked = booked; counts = counts }

module _ (a : Account) (p : ℕ) (st : Standing) (rec : List ℕ) (s s' : State) (rows : List MessageRow)
    (but : AllBut p st rec s s') (m : Matches st rec) (f : Faithful a s rows) where
  -- what is left to show of the account and the ledger
  pub altered : (rows' : List MessageRow) (booked : List Booked) (counts : Counts) → All (Sound s' rows') booked → Pairs Related booked
      → (is_message rec ≡ true → Any (LiesAt p) booked)
      → ((q : ℕ) → (q ≡ p → ⊥) → Any (LiesAt q) a.booked → Any (LiesAt q) booked)
      → Balanced counts s'.places
      → Faithful (changed a booked counts) s' rows'
  altered rows' booked counts each pairs here there balance =
      record {
        same_time = f.same_time ∙ sym but.time;
        address = ap is_address but.address ∙ f.address;
        table = but.table ∙ f.table;
        few = subst (λ n. n ≤ 256) (sym but.size) f.few;
        unused = unused_still p st rec s s' but f.unused;
        matched = matched_still p st rec s s' but m f.matched;
        each = each;
        pairs = pairs;
        no_other = λ q full.
            let go : (v : Bool) → eqb q p ≡ v → Any (LiesAt q) booked =
            elim [
              | true ↦ (λ e. let qp = eqb-true q p e in
                  subst (λ k. Any (LiesAt k) booked) (sym qp) (here (sym (ap is_message (ap (λ k. at k s'.places) qp ∙ but.bytes)) ∙ full)))
              | false ↦ (λ e. let ne = eqb-false q p e in
                  there q ne (f.no_other q (sym (ap is_message (but.other_bytes q ne)) ∙ full)))
            ]
            in go (eqb q p) refl;
        balance = balance;
      }

  -- the message at the place is changed in the account
  pub moved : (fits : Booked → Bool) (u : Booked → Booked) (counts : Counts)
      → Aim fits (Sound s rows) (LiesAt p) Related
      → ((b : Booked) → Sound s rows b → LiesAt p b → Sound s' rows (u b))
      → ((b c : Booked) → LiesAt p b → Related b c → Related (u b) c)
      → ((b c : Booked) → LiesAt p c → Related b c → Related b (u c))
      → (is_message rec ≡ true → (b : Booked) → LiesAt p b → LiesAt p (u b))
      → is_message (at p s.places) ≡ true
      → Balanced counts s'.places
      → Faithful (changed a (change fits u a.booked) counts) s' rows
  moved fits u counts aim hit new old stays full balance =
      let here = f.no_other p full in
      altered rows (change fits u a.booked) counts
      (change_all fits u (Sound s rows) (Sound s' rows) (LiesAt p) Related aim
      (λ b h e. sound_elsewhere p st rec s s' but rows rows b (λ z q. true_false (fits b) (aim.sure b h (z, q)) e) (λ live l. l) h)
      hit
      (λ b c nb r h. sound_elsewhere p st rec s s' but rows rows c (λ z q. omega (arith, z, r.apart (nb.1 ∙ sym q))) (λ live l. l) h)
      a.booked f.each f.pairs here)
      (change_pairs fits u (Sound s rows) (LiesAt p) Related aim new old a.booked f.each f.pairs here)
      (λ mess. change_any fits u (Sound s rows) (LiesAt p) (LiesAt p) Related aim (λ b nb mb. stays mess b nb) a.booked f.each f.pairs here here)
      (λ q ne any. change_any fits u (Sound s rows) (LiesAt p) (LiesAt q) Related aim
      (λ b nb mb. absurd (ne (sym mb.1 ∙ nb.1))) a.booked f.each f.pairs here any)
      balance

  -- what is at the place is booked neither before nor after
  pub unbooked : (counts : Counts) → is_message (at p s.places) ≡ false → is_message rec ≡ false → Balanced counts s'.places
      → Faithful (changed a a.booked counts) s' rows
  unbooked counts none_before none_after balance =
      altered rows a.booked counts
      (all_map (Sound s rows) (Sound s' rows)
      (λ b h. sound_elsewhere p st rec s s' but rows rows b
      (λ z q. true_false (is_message (at p s.places)) (message_there s rows p b h (z, q)) none_before) (λ live l. l) h)
      a.booked f.each)
      f.pairs (λ mess. absurd (true_false (is_message rec) mess none_after)) (λ q ne any. any) balance
