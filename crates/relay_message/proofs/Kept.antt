-- A hunter's bytes, piece by piece.
use Rattle.std.proofs.Common.{◌≡◌, ℕ, suc, ◌<◌, true, eqb, arith, List, [], ◌∷◌, ◌++◌, length, drop, Option, Some, None, slice_get, refl, sym, ap, ◌∙◌, append_assoc}
use Rattle.std.specs.Option.{option_to_list}
use Rattle.std.specs.Result.{result_ok, result_err}
use Rattle.std.specs.List.{filter_map}
use Rattle.std.proofs.Math.Seq.{drop-append_seam}
use Rattle.std.proofs.lemmas.Bool.{eqb-true}
use Rattle.std.proofs.lemmas.List.{append-nil}
use Rattle.std.proofs.lemmas.List.Elements.{filter_map-append}
use Rattle.relay_message.specs.Hunter.{StandsFor}
use Rattle.relay_message.specs.Messages.{Layout, cells, piece_cells, told_behind, told, messages, refusals, added}
use Rattle.relay_message.proofs.Places.{cells-append, told-gap}

-- at the start
pub stands-empty : {M F : Type 0} (layout : Layout M F) (kept : List ℕ) → kept ≡ [] → StandsFor layout kept []
unfolding told_behind
stands-empty layout kept e = record { next = λ more. ap (λ xs. told layout (cells xs ++ more)) (sym e) }

-- what some more cells tell
told-refusals : {M F : Type 0} (layout : Layout M F) (kept : List ℕ) (line more : List (Option ℕ)) → StandsFor layout kept line
    → added (refusals layout) line more ≡ refusals layout (cells kept ++ more)
told-refusals layout kept line more h =
    ap (λ xs. drop (length (refusals layout line)) (filter_map result_err xs)) (h.next more)
    ∙ ap (drop (length (refusals layout line))) (filter_map-append result_err (told layout line) (told layout (cells kept ++ more)))
    ∙ drop-append_seam (refusals layout line) (refusals layout (cells kept ++ more))

told-messages : {M F : Type 0} (layout : Layout M F) (kept : List ℕ) (line more : List (Option ℕ)) → StandsFor layout kept line
    → messages layout (line ++ more) ≡ messages layout line ++ messages layout (cells kept ++ more)
told-messages layout kept line more h =
    ap (filter_map result_ok) (h.next more)
    ∙ filter_map-append result_ok (told layout line) (told layout (cells kept ++ more))

-- what a piece does to a hunter that keeps these bytes: it tells this message and this first fault, and keeps the rest
pub record Pushed {M F : Type 0} (layout : Layout M F) (kept rest : List ℕ) (piece : Option (List ℕ)) (m : Option M) (r : Option F) : Type 0 where
  pub message : (line : List (Option ℕ)) → StandsFor layout kept line → messages layout (line ++ piece_cells piece) ≡ messages layout line ++ option_to_list m
  pub refused : (line : List (Option ℕ)) → StandsFor layout kept line → r ≡ slice_get (added (refusals layout) line (piece_cells piece)) 0
  pub stands : (line : List (Option ℕ)) → StandsFor layout kept line → StandsFor layout rest (line ++ piece_cells piece)

-- any piece, by the kept bytes with its cells behind them
pushed : {M F : Type 0} (layout : Layout M F) (kept rest : List ℕ) (piece : Option (List ℕ)) (all : List (Option ℕ)) (m : Option M) (r : Option F)
    → cells kept ++ piece_cells piece ≡ all → messages layout all ≡ option_to_list m → r ≡ slice_get (refusals layout all) 0
    → ((more : List (Option ℕ)) → told layout (all ++ more) ≡ told layout all ++ told layout (cells rest ++ more))
    → Pushed layout kept rest piece m r
pushed layout kept rest piece all m r joined message refused next = record {
  message = λ line h.
      told-messages layout kept line (piece_cells piece) h
      ∙ ap (λ xs. messages layout line ++ messages layout xs) joined
      ∙ ap (λ xs. messages layout line ++ xs) message;
  refused = λ line h. refused ∙ ap (λ xs. slice_get xs 0) (sym (told-refusals layout kept line (piece_cells piece) h ∙ ap (refusals layout) joined));
  stands = λ line h. record {
    next = λ more.
        ap (told layout) (append_assoc line (piece_cells piece) more)
        ∙ h.next (piece_cells piece ++ more)
        ∙ ap (λ xs. told layout line ++ told layout xs) (sym (append_assoc (cells kept) (piece_cells piece) more) ∙ ap (λ xs. xs ++ more) joined)
        ∙ ap (λ xs. told layout line ++ xs) (next more)
        ∙ sym (append_assoc (told layout line) (told layout all) (told layout (cells rest ++ more)))
        ∙ ap (λ xs. xs ++ told layout (cells rest ++ more)) (sym (h.next (piece_cells piece) ∙ ap (λ xs. told layout line ++ told layout xs) joined));
  };
}

-- a piece of bytes
pub pushed-bytes : {M F : Type 0} (layout : Layout M F) (kept rest bytes all : List ℕ) (piece : Option (List ℕ)) (m : Option M) (r : Option F)
    → piece ≡ Some bytes → all ≡ kept ++ bytes → messages layout (cells all) ≡ option_to_list m → r ≡ slice_get (refusals layout (cells all)) 0
    → ((more : List (Option ℕ)) → told layout (cells all ++ more) ≡ told layout (cells all) ++ told layout (cells rest ++ more))
    → Pushed layout kept rest piece m r
pushed-bytes layout kept rest bytes all piece m r is joined message refused next =
    pushed layout kept rest piece (cells all) m r
    (ap (λ p. cells kept ++ piece_cells p) is ∙ sym (cells-append kept bytes) ∙ ap cells (sym joined))
    message refused next

-- bytes with which no message begins
pub pushed-idle : {M F : Type 0} (layout : Layout M F) (kept bytes : List ℕ) (piece : Option (List ℕ)) (m : Option M) (r : Option F)
    → piece ≡ Some bytes → kept ≡ [] → m ≡ None → r ≡ None → ((more : List (Option ℕ)) → told layout (cells bytes ++ more) ≡ told layout more)
    → Pushed layout kept kept piece m r
unfolding told_behind
pushed-idle layout kept bytes piece m r is none no_message no_fault idle =
    let nothing : told layout (cells bytes) ≡ [] = ap (told layout) (sym (append-nil (cells bytes))) ∙ idle [] in
    pushed layout kept kept piece (cells bytes) m r
    (ap (λ xs. cells xs ++ piece_cells piece) none ∙ ap piece_cells is)
    (ap (filter_map result_ok) nothing ∙ ap option_to_list (sym no_message))
    (no_fault ∙ ap (λ xs. slice_get (filter_map result_err xs) 0) (sym nothing))
    (λ more. idle more ∙ ap (λ xs. told layout (cells xs ++ more)) (sym none) ∙ ap (λ xs. xs ++ told layout (cells kept ++ more)) (sym nothing))

-- a gap
pub pushed-gap : {M F : Type 0} (layout : Layout M F) (kept rest : List ℕ) (piece : Option (List ℕ)) (m : Option M) (r : Option F)
    → piece ≡ None → length kept < layout.size → rest ≡ [] → m ≡ None → r ≡ None → Pushed layout kept rest piece m r
unfolding told_behind
pushed-gap layout kept rest piece m r is few none no_message no_fault =
    let all = cells kept ++ (None ∷ []) in
    let nothing : told layout all ≡ [] = told-gap layout kept [] few in
    pushed layout kept rest piece all m r
    (ap (λ p. cells kept ++ piece_cells p) is)
    (ap (filter_map result_ok) nothing ∙ ap option_to_list (sym no_message))
    (no_fault ∙ ap (λ xs. slice_get (filter_map result_err xs) 0) (sym nothing))
    (λ more.
    ap (told layout) (append_assoc (cells kept) (None ∷ []) more)
    ∙ told-gap layout kept more few
    ∙ ap (λ xs. told layout (cells xs ++ more)) (sym none)
    ∙ ap (λ xs. xs ++ told layout (cells rest ++ more)) (sym nothing))

-- nothing is kept
pub none-kept : (kept : List ℕ) → true ≡ eqb (length kept) 0 → kept ≡ []
none-kept [] e = refl
none-kept (byte ∷ kept) e = let none : suc (length kept) ≡ 0 = eqb-true (suc (length kept)) 0 (sym e) in absurd (omega arith)
