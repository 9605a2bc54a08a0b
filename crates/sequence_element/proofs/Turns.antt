-- The sequences of phases that are equal, exchanged or turned.
use Rattle.std.proofs.Common.{◌≡◌, pos, negsuc, [], ◌∷◌, arith}
use Rattle.std.proofs.lemmas.Int.{ints}
use Rattle.phasor.specs.Point.{Point, minus, origin, plus, scaled}
use Rattle.phasor.proofs.Points.{same_point}
use Rattle.alpha_plane.specs.Product.{product}
use Rattle.sequence_element.specs.Sequences.{backwards, forwards, negative_sequence, positive_sequence, zero_sequence}

-- equal ones
pub negative-equal : (p : Point) → negative_sequence (p ∷ p ∷ p ∷ []) ≡ origin
negative-equal p = same_point _ _ (omega (arith, ints)) (omega (arith, ints))

pub zero-equal : (p : Point) → zero_sequence (p ∷ p ∷ p ∷ []) ≡ scaled (pos 3) p
zero-equal p = same_point _ _ (omega (arith, ints)) (omega (arith, ints))

-- exchanged ones
pub negative-exchanged : (a b c : Point) → negative_sequence (a ∷ c ∷ b ∷ []) ≡ positive_sequence (a ∷ b ∷ c ∷ [])
negative-exchanged a b c = same_point _ _ (omega (arith, ints)) (omega (arith, ints))

pub zero-exchanged : (a b c : Point) → zero_sequence (a ∷ c ∷ b ∷ []) ≡ zero_sequence (a ∷ b ∷ c ∷ [])
zero-exchanged a b c = same_point _ _ (omega (arith, ints)) (omega (arith, ints))

-- turned ones
pub zero-rotated : (p : Point) → zero_sequence (scaled (pos 1024) p ∷ product forwards p ∷ product backwards p ∷ []) ≡ origin
zero-rotated p = same_point _ _ (omega (arith, ints)) (omega (arith, ints))

pub negative-rotated : (p : Point) → negative_sequence (scaled (pos 1024) p ∷ product forwards p ∷ product backwards p ∷ []) ≡ scaled (negsuc 673) p
negative-rotated p = same_point _ _ (omega (arith, ints)) (omega (arith, ints))

pub positive-rotated : (p : Point) → positive_sequence (scaled (pos 1024) p ∷ product forwards p ∷ product backwards p ∷ []) ≡ scaled (pos 3146402) p
positive-rotated p = same_point _ _ (omega (arith, ints)) (omega (arith, ints))

-- phases that are nearly so
pub zero-rounded : (a b c : Point) → scaled (pos 1024) (zero_sequence (a ∷ b ∷ c ∷ []))
    ≡ plus (minus (scaled (pos 1024) b) (product forwards a)) (minus (scaled (pos 1024) c) (product backwards a))
zero-rounded a b c = same_point _ _ (omega (arith, ints)) (omega (arith, ints))
