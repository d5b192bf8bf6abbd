use Rattle.std.proofs.Common.{◌≡◌, map, length, take}
use Rattle.text.specs.Addresses.{address_text}
use Rattle.player.specs.Steps.{world}
use Rattle.player.specs.Runs.{account, Agrees}
use Rattle.playing.specs.Logs.{call_of, event_of}
use Rattle.playing.specs.Plays.{begun}
use Rattle.playing.proofs.Turns.{Playing}
use Rattle.playing.proofs.play.play.Given as goal

-- the log so far brought the calls so far, the relay agrees with its account, and all is as the calls so far give it
abbrev pub invariant-loop-i : goal.invariant-loop-i
invariant-loop-i g l =
    (map call_of (take l.i l.log) ≡ take l.i l.calls)
    × Agrees (account (map event_of (take l.i l.log))) (world l.player.relay l.player.connections.slots l.messages l.statuses)
    × Playing (begun (address_text l.fn.address) (g.S.Spool.held l.fn.spool) (length l.fn.messages) (length l.fn.statuses)) l.calls l.fn.log l.i l.log (world l.player.relay l.player.connections.slots l.messages l.statuses)
