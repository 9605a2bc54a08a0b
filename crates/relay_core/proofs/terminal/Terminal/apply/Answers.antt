use Rattle.relay_core.proofs.terminal.Terminal.apply.Goals as goal

pub returns-in-Bits-clause-answer : goal.returns-in-Bits-clause-answer
returns-in-Bits-clause-answer c = λ calls stands. rw (c.in-Bits.is) (c.bits.ensures.answer calls stands)
