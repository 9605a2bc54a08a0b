use Rattle.std.proofs.Common.{◌≢◌, ◌<◌, ◌∙◌, arith, below_more, get_or-set_other, get_or-set_same, length, length-set}
use Rattle.bench_cmd.proofs.Cuts.{line_bit_each, line_bit_pair}
use Rattle.bench_cmd.proofs.cutting.shifted.Goals as goal

pub loop-k-preserved : goal.loop-k-preserved
loop-k-preserved c =
    let inside : c.loop-k.k < length c.loop-k.shifted = omega (arith, c.loop-k.invariant.long) in
    record {
      long = rw length-set c.loop-k.invariant.long;
      each = below_more _ _ (λ k h j less. let other : k ≢ c.loop-k.k = omega arith in rw get_or-set_other (c.loop-k.invariant.each k h j less))
          (λ j less. rw (get_or-set_same _ _ _ _ inside) (c.joined.ensures j less ∙ line_bit_pair c.args.bytes.now c.loop-k.k c.args.shift j c.requires less));
    }

pub returns : goal.returns
returns c =
    λ i below. line_bit_each c.args.bytes.now c.loop-k.shifted c.args.shift 32 (λ k j h less. c.loop-k.invariant.each k (omega arith) j less) i below
