use Rattle.relay_core.proofs.SendingAll.{HaveServed}
use Rattle.relay_core.proofs.terminal.send_to_all.Given as goal

abbrev pub invariant-loop-peer : goal.invariant-loop-peer
invariant-loop-peer l = HaveServed l.me l.since l.now l.newest l.peer-index l.initial.peers l.peers l.slotted.frames.items l.slotted.changes.items
