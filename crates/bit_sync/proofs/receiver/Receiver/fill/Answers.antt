use Rattle.std.proofs.Common.{ℕ, subst, sym}
use Rattle.ld_base.specs.Bits.{line_bits}
use Rattle.bit_sync.specs.Step.{Fills}
use Rattle.bit_sync.proofs.receiver.Receiver.fill.Goals as goal

pub returns-clause-fills : goal.returns-clause-fills
returns-clause-fills c line stands =
    let To : ℕ → Type 0 = λ n. Fills c.take_frame.new.self line (line_bits n c.args.bytes.now) c.take_frame.result in
    subst To (sym c.if-count-eq-FRAME_BITS.true) (c.take_frame.ensures.fills line stands)
