-- `loose` hands on what the pointer owns.
use Rattle.std.proofs.Common.{◌≡◌, List, [], ◌∷◌, ◌++◌, refl, sym, ap, subst, ◌∙◌, Some, Option, IsSome}
use mir.Val.{Val, vptr}
use mir.Raw.{raw as bare}
use base.Logic.{SProp, ent, emp, never, id⊢, fst∗}
use base.Fml.{ftrue}
use prog.Wp.{WpFn}
use contract.Monad.{fact, fact_i}
use contract.Running.{tables}
use types.Logic.{sem}
use types.Kit.{‵, raw, ◌⊛◌, ◌$◌, ◌∵◌, !, qed, by, move, keep, split, fsplit, fjoin, suffices, use0, rewrite}
use types.Run.{stop, fld, of_opd, no_more, and_then, returns, enter}
use types.ByLocal.{alloc_all, pass_all, free_all, look_at, get, get_in, sets}
use types.Part.{agg, sub, whole}
use denote.Exit.{yes}
use denote.RattleType.{owns}
use denote.Signature.{types_at, plain}
use denote.RawPtr.{Ptr, block_ptr, null_ptr, in_a_block}
use denote.Memory.{lone}
use denote.Steps.{nothing, heard}
use denote.Triple.Walked.{Stays, walk_of, stay_dropped}
use Rattle.core.proofs.alloc.Calls.{Goes-blank, handle_tells}
use Rattle.std.proofs.raw_atomic.Walks.{proved_at, leaves}
use Rattle.std_heap.specs.contracts.Global.{the_row as Heap}
use Rattle.std_heap.proofs.Global.TheLaws.{the_row_laws as heap_laws}
use Rattle.std_heap.specs.contracts.GlobalAllocator.TheImpl.{ghosts}
use Rattle.relay_core.specs.StandsFor.{Kept}
use Rattle.terminal_c.specs.Owned.{heap, owned}
use Rattle.relay_core.specs.contracts.terminal.Terminal.{the_row as Core}
use Rattle.terminal_c.specs.contracts.held.Held.{the_row as Held}
use Rattle.terminal_c.proofs.LooseValues.{both, al, loose_good, loose_in}
use Rattle.terminal_c.proofs.HeldValues.{word, held_out, kept_of}
use Rattle.terminal_c.specs.contracts.held.Held.into_loose as f
use Rattle.terminal_c.proofs.held.Held.into_loose.Statement.{statement}
use Rattle.terminal_c.proofs.held.Held.into_loose.Code as code

pub into_loose_spec : {M : Type 1} → statement M
into_loose_spec 𝓤 𝓛 𝓜 𝓡 wired =
    let H = 𝓛.H in let 𝓣 = tables 𝓤 H 𝓜 𝓡 𝓡.env in let c = f.clauses 𝓛 𝓜.mem 𝓡.returns in
    let hs : Stays f.ended.signature.params f.ended.kept = (stay_dropped (plain (λ _. Held)) yes, (stay_dropped (plain (λ _. Heap)) yes, tt)) in
    proved_at 𝓛 f.ended hs c 𝓜 𝓡 (
      Goes-blank 𝓛 0 (plain (λ _. Held)) yes (λ κs x f. tt),
      (
        Goes-blank 𝓛 0 (plain (λ _. Heap)) yes (λ κs x f. tt),
        tt,
      ),
    ) f.Key.name code.function (code.unfolded 𝓤 H 𝓜 𝓡 wired) (λ z are.
    let d = z.0.3.0 in let a = z.0.3.1.0 in
    let Run : List Val → SProp 𝓤 = λ ws. WpFn 𝓤 H 𝓣.C 𝓣.Λ code.function ws ((walk_of 𝓛 f.ended hs c).post z) in
    qed 𝓛 ((‵ ftrue ⊛ ‵ (owns (types_at f.ended.signature.params z.0.0) z.0.3 z.0.4)) ∷ raw (fact 𝓤 (IsSome d.terminal)) ∷ []) ∵ split ! $
    move ! (2 ∷ []) $ heard ! _ (λ there. let found = kept_of d.terminal there in let kept : Kept = found.0 in let is = found.1 in move ! (1 ∷ []) $
    fsplit ! $
    held_out ! d z.0.4.0 (λ ws. rewrite ! 0 (λ (x : Option Kept). ‵ (owned d.at x)) is refl $
    in_a_block ! d.at (λ p. owned p (Some kept)) (fst∗ 𝓤 (never 𝓤) (sem 𝓛 (ghosts.dealloc_token heap (bare (lone Core.mir)) null_ptr))) (λ b o e.
    move ! (1 ∷ []) $ fsplit ! $ handle_tells (al Core Heap heap_laws ghosts) ! a z.0.4.1.0 (λ h us fits.
    -- [the handle; nothing; the box; the tokens]
    let args : List Val = word (block_ptr b o) ∷ h ∷ [] in
    let is_args : args ≡ z.0.4.0 ++ (z.0.4.1.0 ++ []) = sym ((λ i. ws i ++ (us i ++ [])) ∙ ap (λ (p : Ptr). word p ∷ h ∷ []) e) in
    suffices ! (Run args) (subst (λ (us : List Val). ent 𝓤 (Run args) (Run us)) is_args (id⊢ 𝓤 _)) $
    enter ! 𝓣.C 𝓣.Λ code.function args _ $ alloc_all ! (λ l. pass_all ! refl ((tt, (tt, tt)), (fits, tt)) $
    sets ! (of_opd ! (get_in ! (fld ! refl (stop !)) (sub ! 0 refl (whole !)))) refl (tt, tt) $
    sets ! (of_opd ! (get ! refl)) refl (tt, tt) $
    sets ! (agg ! (and_then ! (get ! refl) (and_then ! (get ! refl) (no_more !)))) refl (loose_good Core Heap heap_laws ghosts b o h fits) $
    move ! (2 ∷ 0 ∷ []) $ loose_in Core Heap heap_laws ghosts ! b o h a kept $
    use0 𝓛 (raw (fact 𝓤 (d.terminal ≡ Some kept))) (fact_i 𝓤 (d.terminal ≡ Some kept) (emp 𝓤) is) $ nothing ! $ nothing ! $ fjoin ! $ nothing ! $ fjoin ! $
    returns ! (look_at ! 0 refl) $ free_all ! refl $ keep ! (4 ∷ 0 ∷ 2 ∷ 1 ∷ []) $
    by ! (leaves 𝓛 f.ended hs c z (both (vptr b o) h) (record { at = block_ptr b o; alloc = a; value = kept }) (tt, (tt, tt)) (tt, (tt, tt)))))))))
