use Rattle.line_world.proofs.SampleTicks.{no_sample_leads, not_now, sample_leads, sample_now}
use Rattle.line_world.proofs.tick.sample_one.Goals as goal

pub returns-clause-leads : goal.returns-clause-leads
returns-clause-leads c =
    let s = c.args.terminals.now.setup in
    let t = c.args.now.now.tick in
    sample_leads s c.args.station t c.args.terminals.now.journal c.sample.new.self.journal
    (sample_now s c.args.station t c.args.next c.requires.next c.if-next-now.false) c.sample.ensures.journal

pub returns-then-next-now-clause-leads : goal.returns-then-next-now-clause-leads
returns-then-next-now-clause-leads c =
    let s = c.args.terminals.now.setup in
    let t = c.args.now.now.tick in
    no_sample_leads s c.args.station t c.args.terminals.now.journal (not_now s c.args.station t c.args.next c.requires.next c.if-next-now.true)
