-- What a hand-out did.
use Rattle.std.proofs.Common.{◌≡◌, ℕ, ◌+◌, true, false, cond, eqb, List, get_or, Some, None, Ok, Err, Option, Result, refl, ap, ◌∙◌, inl, arith, lt-ltb}
use Rattle.message_rows.specs.declared.message.MessageRow.{MessageRow}
use Rattle.spool.specs.Meaning.{at}
use Rattle.standing.specs.Standings.{standing_at, with_standing, out_under}
use Rattle.searches.specs.Earliest.{time_of, FirstOf, Due}
use Rattle.searches.specs.declared.search.Found.{Found}
use Rattle.standing.specs.declared.standing.About.{About}
use Rattle.standing.specs.declared.standing.Standing.{Standing}
use Rattle.standing.specs.declared.standing.Standing.TheVariants.{Free, Waiting, Out, Inbox, Notice}
use Rattle.searches.proofs.First.{first_of}
use Rattle.relay.specs.States.{State}
use Rattle.delivery.specs.HandOuts.{hand_out_of, sent_out, told_of, left_of, next_due}
use Rattle.delivery.specs.declared.fault.HandOutFault.{HandOutFault}
use Rattle.delivery.specs.declared.fault.HandOutFault.TheVariants.{TriesUsed}
use Rattle.delivery.specs.declared.handing_out.HandOut.{HandOut}
use Rattle.account.specs.Accounts.{Account}
use Rattle.account.specs.Faith.{Faithful}
use Rattle.account.specs.Moves.{Turned, about_in}
use Rattle.account.specs.Deeds.Whereabouts.{out}
use Rattle.deeds.specs.Told.{hand_out_deed}
use Rattle.deeds.specs.Ranges.{AllInRange, Done}
use Rattle.deeds.proofs.Places.{none_some, busy_within, put_standing, same_place, changed_in_range}

-- only a waiting envelope is due
pub record Waits (st : Standing) : Type 0 where
  pub hop : ℕ
  pub due : ℕ
  pub failed : ℕ
  pub about : About
  pub is : st ≡ Waiting hop due failed about

due_waits : (t time : ℕ) (st : Standing) → time_of (Due t) st ≡ Some time → Waits st
due_waits t time Free e = absurd (none_some time e)
due_waits t time (Waiting hop due failed about) e = record { hop = hop; due = due; failed = failed; about = about; is = refl }
due_waits t time (Out hop n since failed about) e = absurd (none_some time e)
due_waits t time (Inbox entered about) e = absurd (none_some time e)
due_waits t time (Notice entered about) e = absurd (none_some time e)

module _ (a : Account) (s : State) (rows : List MessageRow) (f : Faithful a s rows) (range : AllInRange s.places) where
  sends : (p : ℕ) → Waits (standing_at s.standings p) → Turned s (sent_out s p) p (Some out)
  sends p w =
      let st : Standing = Out w.hop (s.given + 1) s.time w.failed w.about in
      let before : about_in (standing_at s.standings p) ≡ Some w.about = ap about_in w.is in
      let h = busy_within a s rows f p w.about before in
      record {
        st = st;
        about = w.about;
        before = before;
        after = refl;
        changed = record {
          time = refl;
          address = refl;
          within = h;
          standings = ap (λ x. with_standing s.standings p (out_under (s.given + 1) s.time x)) w.is ∙ put_standing a s rows f p st h;
          places = same_place s.places p h;
        };
        stands = refl;
      }

  told : (found : Option Found) → FirstOf (Due s.time) s.standings found → Done (hand_out_deed (told_of s found)) s (left_of s found) rows rows
  told None h = record { did = (inl refl, refl); in_range = range }
  told (Some found) h =
      let at_table : standing_at s.standings found.place ≡ get_or s.standings found.place Free =
      ap (λ b. cond b (get_or s.standings found.place Free) Free) (lt-ltb found.place 256 (omega (arith, f.table, h.0.0))) in
      let w = due_waits s.time found.time (standing_at s.standings found.place) (ap (time_of (Due s.time)) at_table ∙ h.0.1) in
      let t = sends found.place w in
      elim (eqb s.given 4294967295) as (λ b. Done (hand_out_deed (cond {A = Result (Option HandOut) HandOutFault} b (Err TriesUsed) (Ok (Some (hand_out_of s found.place))))) s (cond b s (sent_out s found.place)) rows rows) [
        | true ↦ record { did = (inl refl, refl); in_range = range }
        | false ↦ record { did = (t, refl); in_range = changed_in_range found.place t.st (at found.place s.places) s (sent_out s found.place) t.changed range (range found.place) }
      ]

  -- what the answer tells is what was done
  pub hand_out_did : Done (hand_out_deed (told_of s (next_due s))) s (left_of s (next_due s)) rows rows
  hand_out_did = told (next_due s) (first_of (Due s.time) s.standings (next_due s) refl)
