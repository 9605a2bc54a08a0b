-- Bytes without the marker tell nothing.
use Rattle.std.proofs.Common.{◌≡◌, ◌≢◌, ℕ, Bool, true, false, cond, ◌&&◌, eqb, List, ◌∷◌, get_or, Some, None, refl, ap}
use Rattle.std.proofs.lemmas.Bool.{eqb-true}
use Rattle.relay_message.specs.Reading.{read_message, relay_layout}

-- numbers that differ don't pass for the same
not-true : (b : Bool) → (b ≡ true → ⊥) → b ≡ false
not-true true h = absurd (h refl)
not-true false h = refl

pub differ-eqb : (a b : ℕ) → a ≢ b → eqb a b ≡ false
differ-eqb a b h = not-true (eqb a b) (λ e. h (eqb-true a b e))

-- so another first byte says nothing
pub unmarked : (byte : ℕ) (bytes : List ℕ) → byte ≢ 0xD5 → relay_layout.read (byte ∷ bytes) ≡ None
unmarked byte bytes h =
    ap (λ b. cond (b && eqb (get_or bytes 0 0) 0x94) (Some (read_message (byte ∷ bytes))) None) (differ-eqb byte 0xD5 h)
