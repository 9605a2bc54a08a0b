use Rattle.std.proofs.Common.{◌≡◌, ◌+◌, ◌*◌, ◌<◌, length, arith, ap, ◌∙◌}
use Rattle.c3794_frame.proofs.Numbers.{are_bits_of, length-bits_of}
use Rattle.c3794_frame.specs.Numbers.{bits_of}
use Rattle.bit_sync.specs.Step.{rules_of}
use Rattle.bit_sync.proofs.Holds.{frame_is, held_on}
use Rattle.bit_sync.proofs.holding.held.Goals as goal

pub returns-then-held-lt256-clause-takes : goal.returns-then-held-lt256-clause-takes
returns-then-held-lt256-clause-takes c line group long are made stands =
    let count = ap (λ n. c.args.lock.held + n) c.from.ensures in
    held_on (rules_of c.args.profile.now) c.args.lock c.args.register.now _ _ c.args.count c.args.value line group stands are long made count c.if-held-lt256.true
    c.push.ensures.register

pub returns-clause-takes : goal.returns-clause-takes
returns-clause-takes c line group long are made stands =
    let held : c.from.result ≡ c.args.count = c.from.ensures in
    let full : c.args.lock.held + c.args.count ≡ 256 = omega arith in
    let full' : c.args.lock.held + length group ≡ 256 = ap (λ n. c.args.lock.held + n) long ∙ full in
    let some : 0 < length group = omega arith in
    let size : length (bits_of c.frame-frame.result) ≡ 256 = length-bits_of c.frame-frame.result ∙ ap (λ n. 8 * n) c.frame-frame.ensures.long in
    let is = frame_is (rules_of c.args.profile.now) c.args.lock c.args.register.now c.args.count c.args.value c.push.new.self line group (bits_of c.frame-frame.result) stands are
    long made full c.push.ensures.register (are_bits_of c.frame-frame.result) size c.frame-frame.ensures.number in
    c.whole_frame.ensures.takes c.args.register.now line group are full' some is stands
