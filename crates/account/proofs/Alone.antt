-- No two messages that were taken in have the same bytes; so of the booked that fit, the first is the one that is meant.
use Rattle.std.proofs.Common.{◌≡◌, ℕ, ◌<◌, ◌≤◌, Bool, true, false, ◌&&◌, eqb, List, map, length, Some, Ok, Err, Result, sym, refl, ap, ◌∙◌, subst, inl, inr, arith, eq-eqb, eqb-true}
use Rattle.std.specs.Char.{to_ascii_lowercase}
use Rattle.std.proofs.lemmas.Slice.Eq.{bytes_eq-Decides}
use Rattle.text.specs.Said.{Said}
use Rattle.text.specs.Forms.{same_text}
use Rattle.envelope.specs.Views.{Whole}
use Rattle.envelope.specs.Decoding.{decode}
use Rattle.message_rows.specs.declared.message.MessageRow.{MessageRow}
use Rattle.spool.specs.Meaning.{at}
use Rattle.standing.specs.Standings.{standing_at}
use Rattle.relay.specs.States.{State}
use Rattle.account.specs.Records.{kind_read, alike_read, is_message, alike, end_in}
use Rattle.account.specs.Accounts.{Booked, at_place, with_bytes}
use Rattle.account.specs.Laws.{whereabouts, LiesAt}
use Rattle.account.specs.Faith.{Sound, Related}
use Rattle.account.proofs.Lists.{Aim, true_false}

text_itself : (x : List ℕ) → same_text x x ≡ true
text_itself x = (bytes_eq-Decides (map to_ascii_lowercase x) (map to_ascii_lowercase x)).1 refl

both : (u v : Bool) → u ≡ true → v ≡ true → (u && v) ≡ true
both u v e f = rw (e, f) refl

read_itself : (d : Result Whole Said) → eqb (kind_read d) 1 ≡ true → alike_read d d ≡ true
read_itself (Ok w) h =
    both (same_text w.fields.fr.bytes w.fields.fr.bytes) (same_text w.fields.on.bytes w.fields.on.bytes)
    (text_itself w.fields.fr.bytes) (text_itself w.fields.on.bytes)
read_itself (Err refusal) h = absurd (true_false false h refl)

pub alike_itself : (rec : List ℕ) → is_message rec ≡ true → alike rec rec ≡ true
alike_itself rec h = read_itself (decode rec) h

module _ (s : State) (rows : List MessageRow) where
  pub not_same_bytes : (b c : Booked) → Sound s rows b → Related b c → b.rec ≡ c.rec → ⊥
  not_same_bytes b c h r same =
      let past : end_in c.rec ≤ b.at = r.once (subst (λ x. alike b.rec x ≡ true) same (alike_itself b.rec h.message)) in
      let e : end_in b.rec ≡ end_in c.rec = ap end_in same in
      clash b.at (end_in b.rec) (end_in c.rec) h.lived past e
    where
      clash : (t x y : ℕ) → t < x → y ≤ t → x ≡ y → ⊥
      clash t x y l g e = omega arith

  -- what has not ended lies at its place
  pub not_ended : (b : Booked) → b.ends ≡ 0 → Sound s rows b
      → (b.place < length s.places) × (at b.place s.places ≡ b.rec) × (whereabouts (standing_at s.standings b.place) ≡ Some b.stand)
  not_ended b z h = elim h.accounted [ inl e ↦ absurd (omega (arith, z, e)) | inr x ↦ (x.1, x.2, x.3) ]

  pub bytes_there : (p : ℕ) (b : Booked) → Sound s rows b → LiesAt p b → at p s.places ≡ b.rec
  bytes_there p b h n = ap (λ k. at k s.places) (sym n.1) ∙ (not_ended b n.0 h).1

  pub message_there : (p : ℕ) (b : Booked) → Sound s rows b → LiesAt p b → is_message (at p s.places) ≡ true
  message_there p b h n = ap is_message (bytes_there p b h n) ∙ h.message

  pub by_place : (p : ℕ) → Aim (at_place p) (Sound s rows) (LiesAt p) Related
  by_place p =
      record {
        only = λ b c hb e r hc nc. omega (arith, nc.0, r.apart (eqb-true b.place p e ∙ sym nc.1));
        sure = λ b hb nb. eq-eqb b.place p nb.1;
      }

  pub by_bytes : (p : ℕ) (rec : List ℕ) → rec ≡ at p s.places → Aim (with_bytes rec) (Sound s rows) (LiesAt p) Related
  by_bytes p rec is =
      record {
        only = λ b c hb e r hc nc. not_same_bytes b c hb r ((bytes_eq-Decides b.rec rec).0 e ∙ (is ∙ bytes_there p c hc nc));
        sure = λ b hb nb. (bytes_eq-Decides b.rec rec).1 (sym (bytes_there p b hb nb) ∙ sym is);
      }
