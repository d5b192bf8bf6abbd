-- Every deed keeps the relay and its ledger faithful to the account.
use Rattle.std.proofs.Common.{◌≡◌, ℕ, ◌<◌, ◌≤◌, max, List, sym, ap, subst, inl, inr, arith}
use native.Mathlib.Nat.{le-max_left}
use Rattle.envelope.specs.declared.parts.Kind.TheVariants.{Message, Status}
use Rattle.message_rows.specs.declared.message.MessageRow.{MessageRow}
use Rattle.relay.specs.States.{State, timed}
use Rattle.account.specs.Records.{end_in}
use Rattle.account.specs.Deeds.{Deed}
use Rattle.account.specs.Deeds.Deed.{nothing, taken_in, turned, passed_on, reported, collected, noticed, dropped}
use Rattle.account.specs.Accounts.{Account, at_place, with_bytes, with_counts, clocked, book, one_passed_on, one_collected, one_noticed, one_dropped}
use Rattle.account.specs.Faith.{Sound, Faithful}
use Rattle.account.specs.Moves.{Did, Cleared}
use Rattle.account.proofs.Lists.{all_map}
use Rattle.account.proofs.Alone.{by_place, by_bytes}
use Rattle.account.proofs.Sums.{balance_passed_on, balance_collected, balance_noticed, balance_dropped}
use Rattle.account.proofs.Turning.{turns, sets_aside}
use Rattle.account.proofs.Clearing.{clears_message, clears_status, gives_way}
use Rattle.account.proofs.TakingIn.{takes_in}

pub clocked_faithful : (a : Account) (s : State) (rows : List MessageRow) (clock : ℕ) → Faithful a s rows → Faithful (clocked a clock) (timed s clock) rows
clocked_faithful a s rows clock f =
    record {
      same_time = ap (λ t. max t clock) f.same_time;
      address = f.address;
      table = f.table;
      few = f.few;
      unused = f.unused;
      matched = f.matched;
      each = all_map (Sound s rows) (Sound (timed s clock) rows)
          (λ b h. record {
            accounted = h.accounted;
            message = h.message;
            lived = h.lived;
            listed = λ lt. h.listed (earlier s.time (max s.time clock) (end_in b.rec) (le-max_left s.time clock) lt);
          })
          a.booked f.each;
      pairs = f.pairs;
      no_other = f.no_other;
      balance = f.balance;
    }
  where
    earlier : (t u e : ℕ) → t ≤ u → u < e → t < e
    earlier t u e h k = omega arith

not_status : Message ≡ Status → ⊥
not_status e = let z : ◌≡◌ {A = ℕ} 0 1 = cc in omega arith

-- where the ledger is as it was
same_rows : (a : Account) (s : State) (rows rows' : List MessageRow) → rows' ≡ rows → Faithful a s rows → Faithful a s rows'
same_rows a s rows rows' e f = subst (λ rs. Faithful a s rs) (sym e) f

module _ (a : Account) (s s' : State) (rows : List MessageRow) (f : Faithful a s rows) (p : ℕ) (gone : Cleared s s' p Status) where
  status_passed_on : Faithful (with_counts a (one_passed_on a.counts)) s' rows
  status_passed_on = clears_status a s s' rows p f (one_passed_on a.counts) gone (balance_passed_on a.counts s.places s'.places f.balance)

  status_collected : Faithful (with_counts a (one_collected a.counts)) s' rows
  status_collected = clears_status a s s' rows p f (one_collected a.counts) gone (balance_collected a.counts s.places s'.places f.balance)

  status_noticed : Faithful (with_counts a (one_noticed a.counts)) s' rows
  status_noticed = clears_status a s s' rows p f (one_noticed a.counts) gone (balance_noticed a.counts s.places s'.places f.balance)

  status_dropped : Faithful (with_counts a (one_dropped a.counts)) s' rows
  status_dropped = clears_status a s s' rows p f (one_dropped a.counts) gone (balance_dropped a.counts s.places s'.places f.balance)

pub kept : (deed : Deed) (a : Account) (s s' : State) (rows rows' : List MessageRow) → Faithful a s rows → Did deed s s' rows rows' → Faithful (book a deed) s' rows'
kept nothing a s s' rows rows' f (inl e, r) = same_rows _ s' rows rows' r (subst (λ x. Faithful a x rows) (sym e) f)
kept nothing a s s' rows rows' f (inr (p, held, t), r) = same_rows _ s' rows rows' r (sets_aside a s s' rows p f held t)
kept (taken_in rec p w) a s s' rows rows' f t = takes_in a s s' rows rows' rec p w f t
kept (turned p w) a s s' rows rows' f (t, r) = same_rows _ s' rows rows' r (turns a s s' rows p f w t)
kept (passed_on Message p) a s s' rows rows' f (h, r) = same_rows _ s' rows rows' r (clears_message a s s' rows p f (at_place p) h (by_place s rows p))
kept (passed_on Status p) a s s' rows rows' f (h, r) = same_rows _ s' rows rows' r (status_passed_on a s s' rows f p h)
kept (reported p) a s s' rows rows' f (g, r) = same_rows _ s' rows rows' r (gives_way a s s' rows p f g)
kept (collected Message rec) a s s' rows rows' f ((p, is, h), r) = same_rows _ s' rows rows' r (clears_message a s s' rows p f (with_bytes rec) h (by_bytes s rows p rec is))
kept (collected Status rec) a s s' rows rows' f ((p, is, h), r) = same_rows _ s' rows rows' r (status_collected a s s' rows f p h)
kept (noticed Message) a s s' rows rows' f (k, h, r) = absurd (not_status k)
kept (noticed Status) a s s' rows rows' f (k, (p, h), r) = same_rows _ s' rows rows' r (status_noticed a s s' rows f p h)
kept (dropped Message) a s s' rows rows' f (k, h, r) = absurd (not_status k)
kept (dropped Status) a s s' rows rows' f (k, (p, h), r) = same_rows _ s' rows rows' r (status_dropped a s s' rows f p h)
