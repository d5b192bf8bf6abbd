use Rattle.std.proofs.Common.{refl, map, take, arith}
use Rattle.playing.specs.Logs.{event_of}
use Rattle.playing.proofs.Entries.{brought_more, agrees_more, all_played}
use Rattle.playing.proofs.Turns.{begins, turn, ends}
use Rattle.playing.proofs.play.play.Goals as goal

pub loop-i-init : goal.loop-i-init
loop-i-init g c =
    let e = c.new-player.ensures in
    (refl, e.begins_the_account, begins _ c.args.calls.now c.args.log.now _ (λ j. record { state = e.state j; slots = e.connections j; messages = e.messages j; statuses = e.statuses j }))

pub loop-i-preserved : goal.loop-i-preserved
loop-i-preserved g c = (
  brought_more c.args.calls.now c.loop-i.i _ c.loop-i.log c.enter.new.entry (omega arith) (omega arith) c.enter.ensures.brought c.loop-i.invariant.0,
  agrees_more c.loop-i.i c.loop-i.log c.enter.new.entry _ (omega arith) (c.enter.ensures.account_goes_on (map event_of (take c.loop-i.i c.loop-i.log)) c.loop-i.invariant.1),
  turn _ c.args.calls.now _ c.loop-i.i _ _ c.loop-i.log c.enter.new.entry _ _ (omega arith) (omega arith) c.enter.ensures.brought c.enter.ensures.outcome c.loop-i.invariant.2,
)

pub returns : goal.returns
returns g c = record {
  outcome = ends _ c.args.calls.now _ c.loop-i.i c.loop-i.log _ (omega arith) c.loop-i.invariant.2;
  played = all_played c.args.calls.now c.loop-i.i c.loop-i.log _ (omega arith) c.loop-i.invariant.0 c.loop-i.invariant.1;
}
