-- How hunting goes on over some bytes, place by place.
use Rattle.std.proofs.Common.{◌≡◌, ℕ, ◌+◌, ◌-◌, ◌<◌, ◌≤◌, suc, List, [], ◌∷◌, ◌++◌, length, take, drop, get_or, Option, Some, None, IsSome, Result, Ok, Err, slice_get, arith, refl, sym, ap, ◌∙◌, append_assoc, drop-cons, add-one, length-drop}
use Rattle.std.specs.Option.{option_to_list, option_or}
use Rattle.std.specs.Result.{result_ok, result_err}
use Rattle.std.specs.List.{filter_map}
use Rattle.std.proofs.lemmas.List.{append-nil, take_more}
use Rattle.std.proofs.Math.Seq.{drop-drop}
use Rattle.std.proofs.lemmas.List.Elements.{filter_map-append}
use Rattle.relay_message.specs.Messages.{Layout, cells, told, messages, refusals}
use Rattle.relay_message.proofs.Places.{cells-append, told-ends, told-other, told-nothing, told-fault, told-message}

-- the places before this one have told this message and this first fault, and the others tell what is left
pub record Hunting {M F : Type 0} (layout : Layout M F) (bytes : List ℕ) (place : ℕ) (m : Option M) (r : Option F) : Type 0 where
  pub within : place ≤ length bytes
  pub found : List (Result M F)
  pub next : (more : List (Option ℕ)) → told layout (cells bytes ++ more) ≡ found ++ told layout (cells (drop place bytes) ++ more)
  pub message : filter_map result_ok found ≡ option_to_list m
  pub refused : r ≡ slice_get (filter_map result_err found) 0
  pub behind : IsSome m → layout.size ≤ place

-- nothing isn't something
none-only : {A : Type 0} (o : Option A) → o ≡ None → IsSome o → ⊥
none-only None e some = cc
none-only (Some x) e some = cc

-- at the start
pub hunting-start : {M F : Type 0} (layout : Layout M F) (bytes : List ℕ) (m : Option M) (r : Option F) → m ≡ None → r ≡ None → Hunting layout bytes 0 m r
hunting-start layout bytes m r no_message no_fault = record {
  within = omega arith;
  found = [];
  next = λ more. refl;
  message = ap option_to_list (sym no_message);
  refused = no_fault;
  behind = λ some. absurd (none-only m no_message some);
}

-- what was read of the bytes from a place on
pub read-is : {M F : Type 0} (layout : Layout M F) (bytes : List ℕ) (place size : ℕ) (read : Option (Result M F)) → layout.size ≡ size
    → read ≡ layout.read (take (place + size - place) (drop place bytes)) → layout.read (take layout.size (drop place bytes)) ≡ read
read-is layout bytes place size read same e =
    let count : layout.size ≡ place + size - place = omega arith in
    ap (λ n. layout.read (take n (drop place bytes))) count ∙ sym e

-- a place that tells nothing
hunting-on : {M F : Type 0} (layout : Layout M F) (bytes : List ℕ) (place : ℕ) (m : Option M) (r : Option F)
    → place < length bytes → Hunting layout bytes place m r
    → ((more : List (Option ℕ)) → told layout (cells (get_or bytes place 0 ∷ drop (suc place) bytes) ++ more) ≡ told layout (cells (drop (suc place) bytes) ++ more))
    → Hunting layout bytes (place + 1) m r
hunting-on layout bytes place m r lt h step = record {
  within = omega arith;
  found = h.found;
  next = λ more.
      h.next more
      ∙ ap (λ xs. h.found ++ told layout (cells xs ++ more)) (drop-cons bytes place 0 lt)
      ∙ ap (λ xs. h.found ++ xs) (step more)
      ∙ ap (λ n. h.found ++ told layout (cells (drop n bytes) ++ more)) (sym (add-one place));
  message = h.message;
  refused = h.refused;
  behind = λ some. omega (arith, h.behind some);
}

-- since no message begins with its byte
pub hunting-other : {M F : Type 0} (layout : Layout M F) (bytes : List ℕ) (place : ℕ) (m : Option M) (r : Option F)
    → place < length bytes → 0 < layout.size → ((rest : List ℕ) → layout.read (get_or bytes place 0 ∷ rest) ≡ None) → Hunting layout bytes place m r
    → Hunting layout bytes (place + 1) m r
hunting-other layout bytes place m r lt some none h =
    hunting-on layout bytes place m r lt h (λ more. told-other layout (get_or bytes place 0) (cells (drop (suc place) bytes) ++ more) some none)

-- or with its bytes
pub hunting-nothing : {M F : Type 0} (layout : Layout M F) (bytes : List ℕ) (place : ℕ) (m : Option M) (r : Option F)
    → place < length bytes → place + layout.size ≤ length bytes → layout.read (take layout.size (drop place bytes)) ≡ None → Hunting layout bytes place m r
    → Hunting layout bytes (place + 1) m r
hunting-nothing layout bytes place m r lt whole e h =
    hunting-on layout bytes place m r lt h (λ more. told-nothing layout (get_or bytes place 0) (drop (suc place) bytes) more
    (omega (arith, length-drop (suc place) bytes))
    (ap (λ xs. layout.read (take layout.size xs)) (sym (drop-cons bytes place 0 lt)) ∙ e))

-- the first fault is kept
first-more : {F : Type 0} (r : Option F) (xs : List F) (x : F) → r ≡ slice_get xs 0 → option_or r (Some x) ≡ slice_get (xs ++ (x ∷ [])) 0
first-more r [] x e = ap (λ o. option_or o (Some x)) e
first-more r (y ∷ xs) x e = ap (λ o. option_or o (Some x)) e

-- a place that is refused
pub hunting-refused : {M F : Type 0} (layout : Layout M F) (bytes : List ℕ) (place : ℕ) (m : Option M) (r : Option F) (fault : F)
    → place < length bytes → place + layout.size ≤ length bytes → layout.read (take layout.size (drop place bytes)) ≡ Some (Err fault) → Hunting layout bytes place m r
    → Hunting layout bytes (place + 1) m (option_or r (Some fault))
hunting-refused {M = M} {F = F} layout bytes place m r fault lt whole e h =
    let one : List (Result M F) = Err fault ∷ [] in
    let read = ap (λ xs. layout.read (take layout.size xs)) (sym (drop-cons bytes place 0 lt)) ∙ e in
    record {
      within = omega arith;
      found = h.found ++ one;
      next = λ more.
          h.next more
          ∙ ap (λ xs. h.found ++ told layout (cells xs ++ more)) (drop-cons bytes place 0 lt)
          ∙ ap (λ xs. h.found ++ xs) (told-fault layout (get_or bytes place 0) (drop (suc place) bytes) more fault (omega (arith, length-drop (suc place) bytes)) read)
          ∙ sym (append_assoc h.found one (told layout (cells (drop (suc place) bytes) ++ more)))
          ∙ ap (λ n. (h.found ++ one) ++ told layout (cells (drop n bytes) ++ more)) (sym (add-one place));
      message = filter_map-append result_ok h.found one ∙ append-nil (filter_map result_ok h.found) ∙ h.message;
      refused = first-more r (filter_map result_err h.found) fault h.refused ∙ ap (λ xs. slice_get xs 0) (sym (filter_map-append result_err h.found one));
      behind = λ some. omega (arith, h.behind some);
    }

-- nothing where there can't be something
none-before : {A : Type 0} (o : Option A) → (IsSome o → ⊥) → option_to_list o ≡ []
none-before None h = refl
none-before (Some x) h = absurd (h refl)

-- a message, which is the only one in less than two
pub hunting-message : {M F : Type 0} (layout : Layout M F) (bytes : List ℕ) (place : ℕ) (m : Option M) (r : Option F) (message : M)
    → 0 < layout.size → length bytes < layout.size + layout.size → place + layout.size ≤ length bytes → layout.read (take layout.size (drop place bytes)) ≡ Some (Ok message)
    → Hunting layout bytes place m r → Hunting layout bytes (place + layout.size) (Some message) r
hunting-message {M = M} {F = F} layout bytes place m r message some few whole e h =
    let one : List (Result M F) = Ok message ∷ [] in
    let none = none-before m (λ some. omega (arith, h.behind some)) in
    record {
      within = whole;
      found = h.found ++ one;
      next = λ more.
          h.next more
          ∙ ap (λ xs. h.found ++ xs) (told-message layout (drop place bytes) more message some (omega (arith, length-drop place bytes)) e)
          ∙ sym (append_assoc h.found one (told layout (cells (drop layout.size (drop place bytes)) ++ more)))
          ∙ ap (λ xs. (h.found ++ one) ++ told layout (cells xs ++ more)) (drop-drop layout.size place bytes);
      message = filter_map-append result_ok h.found one ∙ ap (λ xs. xs ++ (message ∷ [])) (h.message ∙ none);
      refused = h.refused ∙ ap (λ xs. slice_get xs 0) (sym (filter_map-append result_err h.found one ∙ append-nil (filter_map result_err h.found)));
      behind = λ some. omega arith;
    }

-- at the end, where fewer bytes than a message are left, all is found
hunting-found : {M F : Type 0} (layout : Layout M F) (bytes : List ℕ) (place : ℕ) (m : Option M) (r : Option F)
    → length bytes < place + layout.size → (h : Hunting layout bytes place m r) → told layout (cells bytes) ≡ h.found
hunting-found layout bytes place m r few h =
    ap (told layout) (sym (append-nil (cells bytes)))
    ∙ h.next []
    ∙ ap (λ xs. h.found ++ told layout xs) (append-nil (cells (drop place bytes)))
    ∙ ap (λ xs. h.found ++ xs) (told-ends layout (drop place bytes) (omega (arith, length-drop place bytes, h.within)))
    ∙ append-nil h.found

-- what hunting all bytes tells, and that the rest tells what is left
pub record Hunted {M F : Type 0} (layout : Layout M F) (bytes : List ℕ) (place : ℕ) (m : Option M) (r : Option F) : Type 0 where
  pub message : messages layout (cells bytes) ≡ option_to_list m
  pub refused : r ≡ slice_get (refusals layout (cells bytes)) 0
  pub next : (more : List (Option ℕ)) → told layout (cells bytes ++ more) ≡ told layout (cells bytes) ++ told layout (cells (drop place bytes) ++ more)

pub hunting-ends : {M F : Type 0} (layout : Layout M F) (bytes : List ℕ) (place : ℕ) (m : Option M) (r : Option F)
    → length bytes < place + layout.size → Hunting layout bytes place m r → Hunted layout bytes place m r
hunting-ends layout bytes place m r few h =
    let found = hunting-found layout bytes place m r few h in
    record {
      message = ap (filter_map result_ok) found ∙ h.message;
      refused = h.refused ∙ ap (λ xs. slice_get (filter_map result_err xs) 0) (sym found);
      next = λ more. h.next more ∙ ap (λ xs. xs ++ told layout (cells (drop place bytes) ++ more)) (sym found);
    }

-- bytes with which no message begins tell nothing
pub record Idle {M F : Type 0} (layout : Layout M F) (bytes : List ℕ) : Type 0 where
  pub tells : (more : List (Option ℕ)) → told layout (cells bytes ++ more) ≡ told layout more

pub idle-start : {M F : Type 0} (layout : Layout M F) → Idle layout []
idle-start layout = record { tells = λ more. refl }

pub idle-more : {M F : Type 0} (layout : Layout M F) (bytes : List ℕ) (place : ℕ) → place < length bytes → 0 < layout.size
    → ((rest : List ℕ) → layout.read (get_or bytes place 0 ∷ rest) ≡ None) → Idle layout (take place bytes) → Idle layout (take (place + 1) bytes)
idle-more layout bytes place lt some none h =
    let byte = get_or bytes place 0 in
    let joined : take (place + 1) bytes ≡ take place bytes ++ (byte ∷ []) = take_more bytes place 0 lt in
    record {
      tells = λ more.
          ap (λ xs. told layout (cells xs ++ more)) joined
          ∙ ap (λ xs. told layout (xs ++ more)) (cells-append (take place bytes) (byte ∷ []))
          ∙ ap (told layout) (append_assoc (cells (take place bytes)) (Some byte ∷ []) more)
          ∙ h.tells (Some byte ∷ more)
          ∙ told-other layout byte more some none;
    }
