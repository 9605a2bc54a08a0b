-- A new store stands for no calls.
use Rattle.std.specs.Prelude.{None, slice_index_or}
use Rattle.std.proofs.Common.{◌≡◌, ℕ, suc, zero, ◌-◌, [], ◌∷◌, refl}
use Rattle.sample_store.specs.Along.{along_from}
use Rattle.sample_store.specs.Stock.{StandsFor, held_at}
use Rattle.sample_store.specs.declared.ring.Ring.{Ring}
use Rattle.ld_base.specs.declared.fields.Fields.{Fields}

none-held : (ring : Ring) → ((n : ℕ) → held_at ring n ≡ None) → (i n : ℕ) → held_at (slice_index_or (ring ∷ ring ∷ ring ∷ []) i (record { places = [] })) n ≡ None
none-held ring none zero n = none n
none-held ring none (suc zero) n = none n
none-held ring none (suc (suc zero)) n = none n
none-held ring none (suc (suc (suc i))) n = refl

pub StandsFor-none : (fields : Fields) (me : ℕ) (ring : Ring) → ((n : ℕ) → held_at ring n ≡ None)
    → StandsFor (record { fields = fields; me = me; now = 0; own_next = 0; given_next = 0; rings = ring ∷ ring ∷ ring ∷ [] }) []
unfolding along_from
StandsFor-none fields me ring none = record {
  own_next = refl;
  own = λ n young. none-held ring none (me - 1) n;
  peers = λ peer is n young. none-held ring none (peer - 1) n;
  ahead = λ peer n far. refl;
  given_next = refl;
}
