use Rattle.std.proofs.Common.{◌≡◌, ℕ, ◌+◌, ◌*◌, ◌<◌, List, length, Option, Some, ap, arith, subst, sym, ◌∙◌}
use Rattle.c3794_frame.specs.Numbers.{bits_of}
use Rattle.c3794_frame.proofs.Numbers.{are_bits_of, length-bits_of}
use Rattle.bit_sync.specs.StandsFor.{Kept, StandsFor}
use Rattle.bit_sync.specs.Step.{Fills, kept, rules_of}
use Rattle.bit_sync.specs.declared.lock.Lock.{Lock}
use Rattle.bit_sync.proofs.Fills.{behind_line, fills_all, whole_bits}
use Rattle.bit_sync.proofs.receiver.Receiver.take_frame.Goals as goal

pub returns-clause-fills : goal.returns-clause-fills
returns-clause-fills c line stands =
    let bytes : List ℕ = c.args.bytes.now in
    let r = rules_of c.self.inside.profile in
    let long : length bytes ≡ 32 = c.told-bytes in
    let size : length (bits_of bytes) ≡ 256 = length-bits_of bytes ∙ ap (λ n. 8 * n) long in
    let none : c.args.lock.held ≡ 0 = c.requires.1 in
    let full : c.args.lock.held + length (bits_of bytes) ≡ 256 = omega arith in
    let some : 0 < length (bits_of bytes) = omega arith in
    let At : Kept → Type 0 = λ k. StandsFor k line in
    let inside = subst At (sym c.self.view_is) stands in
    let lock : c.self.inside.lock ≡ Some c.args.lock = ap (λ (k : Kept). k.lock) c.self.view_is ∙ c.requires.0 in
    let With : Option Lock → Type 0 = λ l. StandsFor (kept r l c.self.inside.register) line in
    let locked : With (Some c.args.lock) = subst With lock inside in
    let takes = c.whole_frame-taken.ensures.takes c.self.inside.register line (bits_of bytes) (are_bits_of bytes) full some (behind_line line (bits_of bytes) _ none) locked in
    let To : List ℕ → Type 0 = λ bits. Fills (kept r c.whole_frame-taken.result.lock c.whole_frame-taken.new.register) line bits c.whole_frame-taken.result.frame in
    subst To (whole_bits bytes long) (fills_all _ line (bits_of bytes) _ takes)
