use Rattle.std.proofs.Common.{◌≡◌, ◌≤◌, ◌-◌, arith, false, get_or, length, refl, replicate, sym, true}
use Rattle.std.proofs.lemmas.List.{get_or_append_left}
use Rattle.c3794_frame.specs.Frame.{filled}
use Rattle.c3794_frame.specs.Nibble.{IsLineByte}
use Rattle.c3794_frame.proofs.Encoded.{encoded_bits, encoded_more, encoded_rest, encoded_start, header_bytes}
use Rattle.c3794_frame.proofs.Filled.{filled-idle, length-filled}
use Rattle.c3794_frame.proofs.encoding.encode_into.Goals as goal
use Rattle.c3794_frame.proofs.encoding.encode_into.Goals.{then-yellow, else-yellow}

pub loop-k-init : goal.loop-k-init
loop-k-init c =
    let count : IsLineByte c.line_byte.result (length c.args.bytes.now) = c.line_byte.ensures in
    let both = header_bytes _ _ _ c.to_be_bytes.ensures c.header_word.type_inv c.header_word.ensures.word in
    elim c.if-yellow.branch [
      | then-yellow w ↦ let e : c.args.yellow ≡ true = cc in encoded_start _ _ _ _ _ _ _ 149 w.bits-is both.0 both.1 count (rw e)
      | else-yellow w ↦ let e : c.args.yellow ≡ false = cc in encoded_start _ _ _ _ _ _ _ 85 w.bits-is both.0 both.1 count (rw e)
    ]

pub loop-k-preserved : goal.loop-k-preserved
loop-k-preserved c =
    let bytes = c.args.bytes.now in
    let at : get_or bytes c.loop-k.k 0 ≡ get_or (filled bytes) c.loop-k.k 0 =
    sym (get_or_append_left bytes (replicate (12 - length bytes) 255) 0 c.loop-k.k c.loop-k-test.true) in
    encoded_more _ _ _ _ _ _ _ c.loop-k-test.true c.requires.1 c.loop-k.invariant (rw at at c.line_pair.ensures.high) (rw at at c.line_pair.ensures.low)

pub returns-clause-bits : goal.returns-clause-bits
returns-clause-bits c =
    let bytes = c.args.bytes.now in
    let few : length bytes ≤ 12 = c.requires.1 in
    let e : c.loop-k.k ≡ length bytes = omega arith in
    encoded_bits _ _ _ _ refl (length-filled bytes few) (encoded_rest _ _ _ _ (filled-idle bytes) (rw e at c.loop-k.invariant))
