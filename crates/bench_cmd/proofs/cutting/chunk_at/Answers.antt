use Rattle.std.proofs.Common.{◌≡◌, ◌+◌, ◌*◌, ◌/◌, ◌%◌, ◌∙◌, ap, arith}
use Rattle.ld_base.specs.Bits.{line_bit}
use Rattle.bench_cmd.proofs.Cuts.{same_stretch, window_bit}
use Rattle.bench_cmd.proofs.cutting.chunk_at.Goals as goal

pub returns : goal.returns
returns c =
    let at = c.args.at in
    let input = c.args.input.now in
    let bytes = c.shifted-bytes.result in
    c.in-Some.ensures.1 ∙ same_stretch (line_bit bytes) (line_bit input) 0 at c.args.count (λ k below.
    let first : 0 + k ≡ k = omega arith in
    let place : 8 * (at / 8) + at % 8 + k ≡ at + k = omega arith in
    ap (line_bit bytes) first ∙ c.shifted-bytes.ensures k (omega (arith, c.requires.count))
    ∙ window_bit input c.window.result (at / 8) (at % 8) k (omega arith) (omega (arith, c.requires.count)) (omega (arith, c.requires.within)) c.window.ensures
    ∙ ap (line_bit input) place)
