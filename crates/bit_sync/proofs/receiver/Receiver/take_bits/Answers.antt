use Rattle.std.proofs.Common.{◌≡◌, ℕ, ◌+◌, ◌≤◌, ◌++◌, List, length, Option, arith, subst, sym, ◌∙◌}
use Rattle.std.specs.Option.{option_or}
use Rattle.ld_base.specs.Bits.{line_bits}
use Rattle.ld_base.specs.Packing.{length-line_bits}
use Rattle.bit_sync.specs.Step.{Fills, some_bits}
use Rattle.bit_sync.specs.declared.told.Got.{Got}
use Rattle.bit_sync.proofs.Fills.{are_some_bits, fills_more, length-some_bits, more_bits}
use Rattle.bit_sync.proofs.receiver.Receiver.take_bits.Goals as goal

pub loop-done-preserved : goal.loop-done-preserved
loop-done-preserved c =
    let bytes : List ℕ = c.args.bytes.now in
    let done : ℕ = c.loop-done.done in
    let some : ℕ = c.next_bits-some.result.count in
    let within : done + c.from-done.result ≤ c.args.count = omega arith in (
      within,
      c.take.ensures.rules ∙ c.loop-done.invariant.1,
      λ line stands.
          let before = c.loop-done.invariant.2 line stands in
          let group : List ℕ = some_bits bytes done some in
          let size = length-line_bits done bytes in
          let long : length group ≡ some = length-some_bits bytes done some in
          let few : length (line_bits done bytes) + length group ≤ 256 = omega arith in
          let takes = c.take.ensures.takes (line ++ line_bits done bytes) group long (are_some_bits bytes done some) (sym c.next_bits-some.ensures.number) before.stands in
          let more = fills_more c.loop-done.self c.take.new.self line (line_bits done bytes) group c.loop-done.frame c.take.result before takes c.take.ensures.rules few in
          let To : List ℕ → Type 0 = λ bits. Fills c.take.new.self line bits (option_or c.take.result c.loop-done.frame) in
          let all : Fills c.take.new.self line (line_bits (done + some) bytes) (option_or c.take.result c.loop-done.frame) = subst To (sym (more_bits bytes done some)) more in
          let Count : ℕ → Type 0 = λ n. Fills c.take.new.self line (line_bits (done + n) bytes) c.or-frame.result in
          let Told : Option Got → Type 0 = λ g. Fills c.take.new.self line (line_bits (done + some) bytes) g in
          subst Count (sym c.from-done.ensures) (subst Told (sym c.or-frame.ensures) all),
    )
