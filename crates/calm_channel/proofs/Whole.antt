-- The messages whose last frame has come, by their slots: slot n of a sender is at tick 125 * n.
use Rattle.std.proofs.Common.{◌≡◌, ℕ, zero, suc, ◌+◌, ◌-◌, ◌*◌, ◌≤◌, ◌<◌, inl, inr, Bool, true, false, cond, nat_le, nat_lt, List, [], ◌∷◌, ◌++◌, All, filter, length, length-take-le, map, take, option_to_list, Option, None, Some, arith, refl, ap, sym, ◌∙◌, append-nil, append_assoc, mul_comm, mul-le-mul_right, suc-mul}
use Rattle.std.specs.Int.{div_ceil}
use Rattle.std.proofs.lemmas.Bool.{cases_lt}
use Rattle.std.proofs.lemmas.Bool.Decides.{nat_tests}
use Rattle.std.proofs.lemmas.Grind.{div_ceil_times}
use Rattle.std.proofs.lemmas.List.Elements.{All-cons, All-nil}
use Rattle.ld_base.specs.Message.{Contents}
use Rattle.payload_map.specs.Sent.{Slot, carried, whole}
use Rattle.relay_message.specs.MessageOf.{spelled}
use Rattle.line_journal.specs.Crossings.{Start}

-- a message that begins in slot n
abbrev pub started_at : ℕ → Contents → Start
started_at n m = record { message = m; time = 125 * n }

-- those that begin in some slots, of which the first is slot n
abbrev pub started : ℕ → List (Slot Contents) → List Start
started n [] = []
started n (slot ∷ slots) = map (started_at n) (option_to_list slot.loaded) ++ started (suc n) slots

pub started-push : (n : ℕ) (slots : List (Slot Contents)) (slot : Slot Contents)
    → started n (slots ++ slot ∷ []) ≡ started n slots ++ map (started_at (n + length slots)) (option_to_list slot.loaded)
started-push n [] slot =
    let same : n ≡ n + 0 = omega arith in
    append-nil (map (started_at n) (option_to_list slot.loaded)) ∙ ap (λ (k : ℕ). map (started_at k) (option_to_list slot.loaded)) same
started-push n (first ∷ slots) slot =
    let here : List Start = map (started_at n) (option_to_list first.loaded) in
    let same : suc n + length slots ≡ n + suc (length slots) = omega arith in
    ap (λ (rest : List Start). here ++ rest)
    (started-push (suc n) slots slot ∙ ap (λ (k : ℕ). started (suc n) slots ++ map (started_at k) (option_to_list slot.loaded)) same)
    ∙ sym (append_assoc here (started (suc n) slots) (map (started_at (n + suc (length slots))) (option_to_list slot.loaded)))

-- whether a message that takes so long has come, the line having been asked at so many ticks
abbrev pub is_over : ℕ → ℕ → Start → Bool
is_over transit ticks start = nat_lt (start.time + transit) ticks

module _ (transit : ℕ) where
  -- no message has come that began too late
  pub none-over : (ticks n : ℕ) (slots : List (Slot Contents)) → ticks ≤ 125 * n + transit → filter (is_over transit ticks) (started n slots) ≡ []
  none-over ticks n [] late = refl
  none-over ticks n (slot ∷ slots) late = go slot.loaded (none-over ticks (suc n) slots (omega (arith, late)))
    where
      go : (loaded : Option Contents) → filter (is_over transit ticks) (started (suc n) slots) ≡ []
          → filter (is_over transit ticks) (map (started_at n) (option_to_list loaded) ++ started (suc n) slots) ≡ []
      go None rest = rest
      go (Some m) rest =
          let test : nat_lt (125 * n + transit) ticks ≡ false = grind (arith, nat_tests) in
          ap (λ (b : Bool). cond b (started_at n m ∷ filter (is_over transit ticks) (started (suc n) slots)) (filter (is_over transit ticks) (started (suc n) slots))) test ∙ rest

  -- at the next tick there come those that take until then
  pub record Next (ticks : ℕ) (starts : List Start) : Type 0 where
    pub come : List Start
    pub are : filter (is_over transit (suc ticks)) starts ≡ filter (is_over transit ticks) starts ++ come
    pub now : All (λ start. start.time + transit ≡ ticks) come

  pub next-over : (ticks n : ℕ) (slots : List (Slot Contents)) → Next ticks (started n slots)
  next-over ticks n [] = record { come = []; are = refl; now = All-nil (λ (start : Start). start.time + transit ≡ ticks) }
  next-over ticks n (slot ∷ slots) = go slot.loaded (next-over ticks (suc n) slots)
    where
      rest : List Start
      rest = started (suc n) slots

      go : (loaded : Option Contents) → Next ticks rest → Next ticks (map (started_at n) (option_to_list loaded) ++ rest)
      go None next = next
      go (Some m) next = elim (cases_lt (125 * n + transit) ticks) [
        | inl before ↦
            let old : nat_lt (125 * n + transit) ticks ≡ true = grind (arith, nat_tests) in
            let new : nat_lt (125 * n + transit) (suc ticks) ≡ true = grind (arith, nat_tests) in
            record {
              come = next.come;
              are = rw (old, new) (ap (λ (starts : List Start). started_at n m ∷ starts) next.are);
              now = next.now;
            }
        | inr behind ↦
            let old : nat_lt (125 * n + transit) ticks ≡ false = grind (arith, nat_tests) in
            let none_old = none-over ticks (suc n) slots (omega (arith, behind)) in
            let none_new = none-over (suc ticks) (suc n) slots (omega (arith, behind)) in
            elim (cases_lt ticks (125 * n + transit)) [
              | inl later ↦
                  let new : nat_lt (125 * n + transit) (suc ticks) ≡ false = grind (arith, nat_tests) in
                  record {
                    come = [];
                    are = rw (old, new) (none_new ∙ sym (append-nil (filter (is_over transit ticks) rest) ∙ none_old));
                    now = All-nil (λ (start : Start). start.time + transit ≡ ticks);
                  }
              | inr here ↦
                  let new : nat_lt (125 * n + transit) (suc ticks) ≡ true = grind (arith, nat_tests) in
                  record {
                    come = started_at n m ∷ [];
                    are = rw (old, new) (ap (λ (starts : List Start). started_at n m ∷ starts) none_new ∙ sym (ap (λ (starts : List Start). starts ++ started_at n m ∷ []) none_old));
                    now = All-cons (λ (start : Start). start.time + transit ≡ ticks) (started_at n m) [] (omega (arith, behind, here)) (All-nil (λ (start : Start). start.time + transit ≡ ticks));
                  }
            ]
      ]

-- how many slots of so many channels a message takes
abbrev slots_of : ℕ → ℕ
slots_of channels = div_ceil 36 channels

room : (channels n : ℕ) → 1 ≤ channels → slots_of channels ≤ n → 36 ≤ channels * n
room channels n some fits =
    let least = (div_ceil_times 36 channels some).0 in
    let more = mul-le-mul_right channels fits in
    omega (arith, least, more, mul_comm n channels)

no-room : (channels n : ℕ) → 1 ≤ channels → n < slots_of channels → channels * n < 36
no-room channels n some short =
    let most = (div_ceil_times 36 channels some).1 in
    let more = mul-le-mul_right channels short in
    omega (arith, most, more, suc-mul n channels, mul_comm n channels)

-- of slots of which so many have come, the messages that are whole are those that are over
module _ (channels delay ticks come : ℕ) (some : 1 ≤ channels) (early : (k : ℕ) → k < come → 125 * k + delay < ticks) (late : ticks ≤ 125 * come + delay) where
  abbrev time : ℕ
  time = 125 * (slots_of channels - 1) + delay

  same-test : (n q : ℕ) → q + suc n ≡ come → nat_lt (125 * q + time) ticks ≡ nat_le 36 (channels * suc n)
  same-test n q is = elim (cases_lt (suc n) (slots_of channels)) [
    | inl short ↦
        let small = no-room channels (suc n) some short in
        let over : nat_lt (125 * q + time) ticks ≡ false = let behind : ticks ≤ 125 * q + time = omega (arith, short, is, late) in grind (arith, nat_tests) in
        let fits : nat_le 36 (channels * suc n) ≡ false = grind (arith, nat_tests) in
        over ∙ sym fits
    | inr enough ↦
        let large = room channels (suc n) some enough in
        let positive : 1 ≤ slots_of channels = slots-some in
        let before = early (q + (slots_of channels - 1)) (omega (arith, enough, is, positive)) in
        let over : nat_lt (125 * q + time) ticks ≡ true = let ahead : 125 * q + time < ticks = omega (arith, before) in grind (arith, nat_tests) in
        let fits : nat_le 36 (channels * suc n) ≡ true = grind (arith, nat_tests) in
        over ∙ sym fits
  ]
    where
      slots-some : 1 ≤ slots_of channels
      slots-some = elim (cases_lt 0 (slots_of channels)) [
        | inl some ↦ some
        | inr none ↦ absurd (let large = room channels 0 some none in omega (arith, large))
      ]

  pub whole-over : (n q : ℕ) (slots : List (Slot Contents)) → q + n ≡ come → n ≤ length slots
      → map (λ start. start.message) (filter (is_over time ticks) (started q slots)) ≡ whole spelled channels (take n slots)
  unfolding whole
  whole-over zero q slots is within =
      ap (map (λ (start : Start). start.message)) (none-over time ticks q slots (omega (arith, is, late)))
  whole-over (suc n) q [] is within = absurd (omega (arith, within))
  whole-over (suc n) q (slot ∷ slots) is within =
      let long : length (take n slots) ≡ n = length-take-le n slots (omega (arith, within)) in
      go slot.loaded (whole-over n (suc q) slots (omega (arith, is)) (omega (arith, within)))
      ∙ ap (λ (k : ℕ). carried spelled channels (suc k) slot.loaded ++ whole spelled channels (take n slots)) (sym long)
    where
      rest : List Start
      rest = filter (is_over time ticks) (started (suc q) slots)

      go : (loaded : Option Contents) → map (λ start. start.message) rest ≡ whole spelled channels (take n slots)
          → map (λ start. start.message) (filter (is_over time ticks) (map (started_at q) (option_to_list loaded) ++ started (suc q) slots))
          ≡ carried spelled channels (suc n) loaded ++ whole spelled channels (take n slots)
      go None same = same
      go (Some m) same =
          ap (λ (b : Bool). map (λ (start : Start). start.message) (cond b (started_at q m ∷ rest) rest)) (same-test n q is)
          ∙ kept (nat_le 36 (channels * suc n))
        where
          kept : (b : Bool) → map (λ (start : Start). start.message) (cond b (started_at q m ∷ rest) rest) ≡ cond b (m ∷ []) [] ++ whole spelled channels (take n slots)
          kept true = ap (λ (ms : List Contents). m ∷ ms) same
          kept false = same
