-- What an outcome says of a try.
use Rattle.std.specs.Prelude.{cond, ◌&&◌, nat_le, nat_lt}
use Rattle.delivery.specs.declared.outcome.Outcome.{Outcome}
use Rattle.delivery.specs.declared.outcome.Outcome.TheVariants.{Acknowledge, Http, Silence}
use Rattle.delivery.specs.declared.outcome.Reply.{Reply}
use Rattle.delivery.specs.declared.outcome.Reply.TheVariants.{Receipt, Accepted, Temporary, Permanent}

-- by the hundreds of the acknowledge's code; an HTTP status and silence are temporary
abbrev pub reply_of : Outcome → Reply
reply_of (Acknowledge c) =
    cond (nat_le 100 c && nat_lt c 200) (Receipt c)
    (cond (nat_le 200 c && nat_lt c 300) Accepted
    (cond (nat_le 400 c && nat_lt c 500) (Permanent c) Temporary))
reply_of (Http c) = Temporary
reply_of Silence = Temporary
