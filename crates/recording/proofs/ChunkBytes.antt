-- The bytes of a chunk, as far as its bits go.
use Rattle.std.proofs.Common.{◌≡◌, ◌∙◌, sym, ap, ℕ, ◌+◌, ◌*◌, ◌/◌, ◌≤◌, List, take, arith}
use Rattle.std.proofs.lemmas.List.FromFn.{take-map-range_with_len}
use Rattle.ld_base.specs.Bits.{byte_from, line_bits, line_bytes}
use Rattle.ld_base.specs.Chunk.{IsPacked}
use Rattle.ld_base.specs.Packing.{length-line_bits, same_bytes}
use Rattle.recording.specs.RecordText.{bytes_of_bits}

-- the first of the bytes that some bits make
take-line_bytes : (bits : List ℕ) (n : ℕ) → n ≤ 32 → take n (line_bytes 32 bits) ≡ line_bytes n bits
unfolding line_bytes
take-line_bytes bits n few = take-map-range_with_len (λ k. byte_from bits (8 * k)) 0 32 n few

-- the first bytes of packed bits are those that spell the bits
pub spelled : (count : ℕ) (bytes : List ℕ) → IsPacked count bytes → take ((count + 7) / 8) bytes ≡ bytes_of_bits (line_bits count bytes)
spelled count bytes packed =
    let bits : List ℕ = line_bits count bytes in
    let few : (count + 7) / 8 ≤ 32 = omega (arith, packed.few) in
    ap (take ((count + 7) / 8)) (sym (same_bytes count bytes packed)) ∙ take-line_bytes bits ((count + 7) / 8) few
    ∙ ap (λ (n : ℕ). line_bytes ((n + 7) / 8) bits) (sym (length-line_bits count bytes))
