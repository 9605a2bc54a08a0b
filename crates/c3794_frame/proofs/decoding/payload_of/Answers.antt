use Rattle.std.proofs.Common.{◌≢◌, ◌<◌, ◌∙◌, arith, get_or-set_other, length-set, refl}
use Rattle.std.proofs.lemmas.List.{get_or-replicate}
use Rattle.c3794_frame.proofs.Decoded.{payload_byte}
use Rattle.c3794_frame.proofs.Steps.{payload_more}
use Rattle.c3794_frame.proofs.decoding.payload_of.Goals as goal

pub loop-k-init : goal.loop-k-init
loop-k-init c = record {
  long = refl;
  payload = λ none. record { long = refl; each = λ k h. absurd (omega arith) };
  unused = λ k past below. get_or-replicate 12 k 255 0 below;
}

pub loop-k-preserved : goal.loop-k-preserved
loop-k-preserved c =
    let within : c.loop-k.k < 12 = omega (arith, c.loop-k-test.true, c.requires) in
    record {
      long = length-set _ _ _ ∙ c.loop-k.invariant.long;
      payload = λ none. payload_more c.loop-k.k _ _ c.loop-k.payload within
          (payload_byte c.args.bits.now c.loop-k.k c.nibble.result c.nibble-in-loop-k.result c.told-bits within c.nibble.ensures c.nibble-in-loop-k.ensures none)
          (c.loop-k.invariant.payload none);
      unused = λ k past below. let ne : k ≢ c.loop-k.k = omega (arith, c.loop-k-test.true) in rw get_or-set_other (c.loop-k.invariant.unused k past below);
    }
