use Rattle.std.proofs.Common.{◌<◌, ◌*◌, ◌/◌, ◌%◌, ◌^◌, ap, rules}
use Rattle.bench_cmd.proofs.Cuts.{shifted_bit}
use Rattle.bench_cmd.proofs.cutting.joined.Goals as goal

pub returns : goal.returns
returns c =
    let small : c.args.second < 2 ^ 8 = search rules in
    let both = ap (λ n. n * 2 ^ c.args.shift % 2 ^ 16 / 2 ^ 8) c.from_be_bytes-both.ensures in
    λ k below. shifted_bit c.args.first c.args.second c.args.shift k _ small c.requires below both
