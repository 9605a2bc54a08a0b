-- Slots of messages: whether one is in flight, and one slot more.
use Rattle.std.specs.Prelude.{is_none}
use Rattle.std.proofs.Common.{◌≡◌, ℕ, ◌-◌, ◌≤◌, ◌↔◌, Bool, true, List, [], ◌∷◌, ◌++◌, length, drop, Option, Some, None, option_map, refl, sym, ap, ◌∙◌, subst}
use Rattle.std.specs.Int.{div_ceil}
use Rattle.std.specs.List.{AllByRecursion, list_all}
use Rattle.std.specs.Option.{ForSome, option_to_list}
use Rattle.std.proofs.lemmas.Bool.{and_from, and_parts}
use Rattle.std.proofs.lemmas.List.{drop-map, length-map}
use Rattle.std.proofs.lemmas.List.Elements.{filter_map-append}
use Rattle.ld_base.specs.Message.{Contents}
use Rattle.relay_message.specs.MessageOf.{spelled}
use Rattle.payload_map.specs.Messages.{relay_slots}
use Rattle.payload_map.specs.Sent.{Slot, spelled_slot, unsent}
use Rattle.payload_map.proofs.Flights.{IsUnloaded, unsent-none}
use Rattle.relay_core.specs.Sent.{begun_in, is_free}
use Rattle.relay_core.proofs.Reversed.{list_all-reverse, take-reverse}

-- nothing was loaded for a slot without a message
unloaded-slot : (loaded : Option Contents) → (is_none loaded ≡ true) ↔ (option_map spelled loaded ≡ None)
unloaded-slot None = ((λ e. refl), (λ e. refl))
unloaded-slot (Some m) = ((λ e. absurd (cc)), (λ e. absurd (cc)))

-- nor for slots without one
unloaded : (slots : List (Slot Contents)) → (list_all (λ slot. is_none slot.loaded) slots ≡ true) ↔ AllByRecursion IsUnloaded (relay_slots slots)
unloaded [] = ((λ e. tt), (λ none. refl))
unloaded (slot ∷ slots) =
    let first = unloaded-slot slot.loaded in
    let rest = unloaded slots in (
      (λ e. let both = and_parts _ _ e in (first.0 both.0, rest.0 both.1)),
      (λ none. and_from _ _ (first.1 none.0) (rest.1 none.1)),
    )

-- a message that was loaded has 36 bytes
sized-slot : (loaded : Option Contents) → ForSome (option_map spelled loaded) (λ bytes. length bytes ≡ 36)
sized-slot None bytes e = absurd (cc)
sized-slot (Some m) bytes e = let is : spelled m ≡ bytes = cc in ap length (sym is)

sized : (slots : List (Slot Contents)) → AllByRecursion (λ slot. ForSome slot.loaded (λ bytes. length bytes ≡ 36)) (relay_slots slots)
sized [] = tt
sized (slot ∷ slots) = (sized-slot slot.loaded, sized slots)

-- nothing is left of a message exactly where none is in flight
pub unsent-is_free : (n : ℕ) (slots : List (Slot Contents)) → 1 ≤ n → (unsent n (relay_slots slots) ≡ []) ↔ (is_free n slots ≡ true)
unsent-is_free n slots some =
    let others : ℕ = div_ceil 36 n - 1 in
    let back : ℕ = length slots - others in
    let same = unsent-none n 36 (relay_slots slots) some (sized slots) in
    let rest : drop (length (relay_slots slots) - others) (relay_slots slots) ≡ relay_slots (drop back slots) =
    ap (λ k. drop (k - others) (relay_slots slots)) (length-map slots (spelled_slot spelled)) ∙ drop-map (spelled_slot spelled) back slots in
    let free : is_free n slots ≡ list_all (λ slot. is_none slot.loaded) (drop back slots) =
    ap (list_all (λ slot. is_none slot.loaded)) (take-reverse others slots) ∙ list_all-reverse (λ slot. is_none slot.loaded) (drop back slots) in
    let none = unloaded (drop back slots) in (
      (λ e. free ∙ none.1 (subst (AllByRecursion IsUnloaded) rest (same.0 e))),
      (λ e. same.1 (subst (AllByRecursion IsUnloaded) (sym rest) (none.0 (sym free ∙ e)))),
    )

-- the messages that began in one slot more
pub begun_in-more : (slots : List (Slot Contents)) (slot : Slot Contents) → begun_in (slots ++ slot ∷ []) ≡ begun_in slots ++ option_to_list slot.loaded
begun_in-more slots slot = filter_map-append (λ s. s.loaded) slots (slot ∷ []) ∙ ap (λ ms. begun_in slots ++ ms) (one slot.loaded slot.yellow)
  where
    one : (loaded : Option Contents) (yellow : Bool) → begun_in (record { loaded = loaded; yellow = yellow } ∷ []) ≡ option_to_list loaded
    one None yellow = refl
    one (Some m) yellow = refl
