-- The machine value of a `Held`, taken apart and made. Assumes `Logic`.
use Rattle.std.proofs.Common.{◌≡◌, List, [], ◌∷◌, ◌++◌, refl, subst, Option, None, Some, IsSome}
use Rattle.std.proofs.lemmas.Bool.{false≢true}
use seplogic.Ra.Ura.{Ura}
use mir.Val.{Val, vstruct, vcons, vnil, of_list}
use types.Logic.{Logic}
use types.Kit.{Item, Goal, Seq, Step, step, ‵, ◌$◌, drop, fsplit, fjoin, fpick, fpack, feq_i, feq_l}
use denote.RattleType.{Valss}
use denote.Builtin.{RawPtr}
use denote.RawPtr.{Ptr, ptr_val}
use denote.Steps.{nothing}
use denote.Struct.Struct.{within}
use denote.Struct.Owning.{shape}
use Rattle.relay_core.specs.StandsFor.{Kept}
use Rattle.terminal_c.specs.Owned.{owned}
use Rattle.terminal_c.specs.contracts.held.Held.{the_row, the_type}

-- the terminal that is there
pub kept_of : (held : Option Kept) → IsSome held → (t : Kept) × (held ≡ Some t)
kept_of None there = absurd (false≢true there)
kept_of (Some t) there = (t, refl)

-- a pointer as the one field of a struct
abbrev pub word : Ptr → Val
word p = vstruct (vcons (ptr_val p) vnil)

module _ {M : Type 1} {𝓤 : Ura M} {𝓛 : Logic 𝓤} {K : Type 0} {Γ : List (Item 𝓤)} {G : Goal 𝓤 𝓛.H} where
  -- a `Held` owns what its pointer owns
  pub held_out : K → (d : the_row.Denot) (vs : List Val)
      → (vs ≡ word d.at ∷ [] → Seq K 𝓛 (‵ (owned d.at d.terminal) ∷ Γ) G)
      → Seq K 𝓛 (‵ (the_row.own_val d vs) ∷ Γ) G
  held_out t d vs k =
      fsplit t $ fpick t (λ vss. fsplit t $ feq_l t (λ ev. fsplit t $ feq_l t (λ ep. drop t $
      k (subst (λ (ps : List Val). vs ≡ vstruct (of_list (ps ++ [])) ∷ []) ep ev))))

  -- and what the pointer owns makes one
  pub held_in : K → (p : Ptr) (x : Option Kept)
      → Step K 𝓛 (‵ (the_row.own_val (record { at = p; terminal = x }) (word p ∷ [])) ∷ Γ) G (‵ (owned p x) ∷ Γ) G
  held_in t p x = step (λ s.
      nothing t $ feq_i t (List Val) (ptr_val p ∷ []) (ptr_val p ∷ []) refl $ fjoin t $ feq_i t (List Val) (word p ∷ []) (word p ∷ []) refl $ fjoin t $
      fpack t (Valss (RawPtr ∷ [])) (within (shape the_type) (p, tt) (word p ∷ [])) (ptr_val p ∷ [], tt) $ fjoin t $ s)
