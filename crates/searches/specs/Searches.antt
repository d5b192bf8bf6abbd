-- What a search looks for at a standing.
use Rattle.std.specs.Prelude.{ℕ, ◌+◌, cond, ◌&&◌, List, [], ◌∷◌, Some, None, Option, nat_le, nat_lt}
use Rattle.envelope.specs.declared.parts.Kind.{Kind}
use Rattle.envelope.specs.declared.parts.Kind.TheVariants as kind
use Rattle.standing.specs.declared.standing.Standing.{Standing}
use Rattle.standing.specs.declared.standing.Standing.TheVariants.{Free, Waiting, Out, Inbox, Notice}
use Rattle.searches.specs.declared.search.Duty.{Duty}
use Rattle.searches.specs.declared.search.Duty.TheVariants.{GiveUp, Expire, EndStatus}
use Rattle.searches.specs.declared.search.Task.{Task}

-- the due time of a live waiting envelope that is due at the time t
abbrev pub due_at : ℕ → Standing → Option ℕ
due_at t Free = None
due_at t (Waiting hop due failed about) = cond (nat_le due t && nat_lt t about.end) (Some due) None
due_at t (Out hop n s failed about) = None
due_at t (Inbox entered about) = None
due_at t (Notice entered about) = None

-- since when an envelope is in the inbox, and a notice is one
abbrev pub inbox_since : Standing → Option ℕ
inbox_since Free = None
inbox_since (Waiting hop due failed about) = None
inbox_since (Out hop n s failed about) = None
inbox_since (Inbox entered about) = Some entered
inbox_since (Notice entered about) = None

abbrev pub notice_since : Standing → Option ℕ
notice_since Free = None
notice_since (Waiting hop due failed about) = None
notice_since (Out hop n s failed about) = None
notice_since (Inbox entered about) = None
notice_since (Notice entered about) = Some entered

-- what is due at a place: a try as old as its timeout is given up, a waiting message that is no longer live expires, and a
-- waiting status that is no longer live ends
abbrev pub ended : Kind → Duty
ended kind.Message = Expire
ended kind.Status = EndStatus

abbrev pub duty_at : ℕ → Standing → Option Duty
duty_at t Free = None
duty_at t (Waiting hop due failed about) = cond (nat_le about.end t) (Some (ended about.kind)) None
duty_at t (Out hop n since failed about) = cond (nat_le (since + about.timeout) t) (Some GiveUp) None
duty_at t (Inbox entered about) = None
duty_at t (Notice entered about) = None

abbrev pub duty_or : ℕ → Option Duty → Option Task → Option Task
duty_or i (Some duty) rest = Some (record { place = i; duty = duty })
duty_or i None rest = rest

-- the lowest place, numbered from i, where something is due
abbrev pub first_duty : ℕ → ℕ → List Standing → Option Task
first_duty t i [] = None
first_duty t i (s ∷ ss) = duty_or i (duty_at t s) (first_duty t (i + 1) ss)
