-- What an answer to a try did.
use Rattle.std.proofs.Common.{◌≡◌, ℕ, Bool, true, false, cond, ◌&&◌, eqb, ltb, leb, List, Some, None, Option, sym, refl, ap, subst, inl, arith}
use Rattle.envelope.specs.declared.parts.Kind.{Kind}
use Rattle.envelope.specs.declared.parts.Kind.TheVariants as kind
use Rattle.message_rows.specs.declared.message.MessageRow.{MessageRow}
use Rattle.standing.specs.Standings.{standing_at}
use Rattle.standing.specs.declared.standing.About.{About}
use Rattle.standing.specs.declared.standing.Standing.{Standing}
use Rattle.standing.specs.declared.standing.Standing.TheVariants.{Free, Waiting, Out, Inbox, Notice}
use Rattle.relay.specs.States.{State}
use Rattle.account.specs.Accounts.{Account}
use Rattle.account.specs.Faith.{Faithful}
use Rattle.account.specs.Moves.{about_in}
use Rattle.deeds.specs.Ranges.{AllInRange, Done}
use Rattle.std.proofs.lemmas.Bool.Decides.{nat_tests}
use Rattle.envelope.specs.Limits.{code_ok}
use Rattle.ending.specs.declared.act.Act.TheVariants.{PassOn, Report}
use Rattle.ending.specs.declared.act.Task.{Task}
use Rattle.delivery.specs.Outcomes.{reply_of}
use Rattle.delivery.specs.Answers.{act_after, task_after, answer_of, left_after}
use Rattle.delivery.specs.declared.outcome.Outcome.{Outcome}
use Rattle.delivery.specs.declared.outcome.Outcome.TheVariants.{Acknowledge, Http, Silence}
use Rattle.delivery.specs.declared.outcome.Reply.{Reply}
use Rattle.delivery.specs.declared.outcome.Reply.TheVariants.{Receipt, Accepted, Temporary, Permanent}
use Rattle.deeds.specs.Told.{answer_deed}
use Rattle.deeds.proofs.Performing.{Suits, performed_did}

-- what a reply tells a message's originator by is a status's code
abbrev Tellable : Reply → Type 0
Tellable (Receipt c) = code_ok 2 c ≡ true
Tellable Accepted = Unit {0}
Tellable Temporary = Unit {0}
Tellable (Permanent c) = code_ok 2 c ≡ true

receipt_code : (c : ℕ) → (leb 100 c && ltb c 200) ≡ true → code_ok 2 c ≡ true
receipt_code c h = grind (arith, nat_tests)

permanent_code : (c : ℕ) → (leb 400 c && ltb c 500) ≡ true → code_ok 2 c ≡ true
permanent_code c h = grind (arith, nat_tests)

by_hundreds : (c : ℕ) (r p q : Bool) → (leb 100 c && ltb c 200) ≡ r → (leb 400 c && ltb c 500) ≡ q → Tellable (cond r (Receipt c) (cond p Accepted (cond q (Permanent c) Temporary)))
by_hundreds c true p q e h = receipt_code c e
by_hundreds c false true q e h = tt
by_hundreds c false false true e h = permanent_code c h
by_hundreds c false false false e h = tt

tellable : (o : Outcome) → Tellable (reply_of o)
tellable (Acknowledge c) = by_hundreds c (leb 100 c && ltb c 200) (leb 200 c && ltb c 300) (leb 400 c && ltb c 500) refl refl
tellable (Http c) = tt
tellable Silence = tt

-- what a reply asks for can be done with what is out
suits : (hop number since failed : ℕ) (about : About) (k : Kind) (reply : Reply) → about.kind ≡ k → Tellable reply
    → Suits (Out hop number since failed about) about (act_after k about failed reply)
suits hop number since failed about kind.Message (Receipt c) e t =
    elim about.receipt as (λ b. Suits (Out hop number since failed about) about (cond b (Report c) PassOn)) [ true ↦ (e, t) | false ↦ tt ]
suits hop number since failed about kind.Message Accepted e t = tt
suits hop number since failed about kind.Message Temporary e t = (hop, number, since, refl)
suits hop number since failed about kind.Message (Permanent c) e t = (e, t)
suits hop number since failed about kind.Status (Receipt c) e t = tt
suits hop number since failed about kind.Status Accepted e t = tt
suits hop number since failed about kind.Status Temporary e t = (hop, number, since, refl)
suits hop number since failed about kind.Status (Permanent c) e t = e

module _ (a : Account) (s : State) (rows : List MessageRow) (f : Faithful a s rows) (range : AllInRange s.places) (p : ℕ) where
  abbrev Did : Option Task → Type 0
  Did t = Done (answer_deed p (answer_of s p t)) s (left_after s p t) rows rows

  refused : Did None
  refused = record { did = (inl refl, refl); in_range = range }

  at_standing : (number : ℕ) (reply : Reply) → Tellable reply → (st : Standing) → standing_at s.standings p ≡ st → Did (task_after number reply st)
  at_standing number reply t Free e = refused
  at_standing number reply t (Waiting hop due failed about) e = refused
  at_standing number reply t (Out hop out since failed about) e =
      elim (eqb out number) as (λ b. Did (cond b (Some (record { about = about; act = act_after about.kind about failed reply })) None)) [
        | true ↦ performed_did a s rows f range p about (ap about_in e) (act_after about.kind about failed reply)
            (subst (λ x. Suits x about (act_after about.kind about failed reply)) (sym e) (suits hop out since failed about about.kind reply refl t))
        | false ↦ refused
      ]
  at_standing number reply t (Inbox entered about) e = refused
  at_standing number reply t (Notice entered about) e = refused

  -- what the answer tells is what was done
  pub answer_did : (number : ℕ) (outcome : Outcome) → Did (task_after number (reply_of outcome) (standing_at s.standings p))
  answer_did number outcome = at_standing number (reply_of outcome) (tellable outcome) (standing_at s.standings p) refl
