-- A station that sends to a peer: by its samples and slots so far, what is known of its newest sample and of the messages that began.
-- From any tick on a message begins within a spacing and 127 ticks.
use Rattle.std.specs.Prelude.{◌-◌, is_none, nat_le, option_map, reverse, slice_get, take}
use Rattle.std.specs.Int.{div_ceil}
use Rattle.std.specs.List.{list_all}
use Rattle.std.proofs.Common.{◌≡◌, ◌⊎◌, ℕ, zero, suc, ◌+◌, ◌*◌, ◌<◌, ◌≤◌, inl, inr, Bool, true, cond, List, [], ◌∷◌, ◌++◌, All, Contains, Option, None, Some, get_or, map, length, arith, refl, ap, sym, subst, ◌∙◌, append-nil}
use Rattle.std.proofs.lemmas.Bool.{and_from, cases_lt, le-leb}
use Rattle.std.proofs.lemmas.List.{map-append, reverse-append}
use Rattle.std.proofs.lemmas.List.Elements.{All-cons, All-contains, All-head, All-map, All-nil, All-push, All-tail, Contains-append_left, Contains-push}
use Rattle.std.proofs.lemmas.List.Quantifiers.{all_pairs_push}
use Rattle.std.proofs.lemmas.Option.{cond_some}
use Rattle.ld_base.specs.Message.{Contents}
use Rattle.ld_base.specs.declared.phases.Phases.{Phases}
use Rattle.payload_map.specs.Sent.{Slot}
use Rattle.sample_store.specs.Offers.{next_number}
use Rattle.sample_store.specs.declared.ring.Numbered.{Numbered}
use Rattle.relay_core.specs.Sent.{begins, begun_in, can_begin, is_free, number_behind}
use Rattle.relay_core.proofs.Lists.{All-last}
use Rattle.relay_core.proofs.Slots.{begun_in-more}
use Rattle.line_journal.specs.Crossings.{Start}
use Rattle.calm_channel.proofs.Lasts.{AreInOrder}

-- a sample of this number
abbrev pub HasNumber : ℕ → Option Numbered → Type 0
HasNumber n sample = (x : Numbered) × (sample ≡ Some x) × (x.number ≡ n)

-- the newest of some samples
abbrev pub newest_of : List Numbered → Option Numbered
newest_of samples = slice_get (reverse samples) 0

-- a message that began from one tick to another
pub record BeganWithin (starts : List Start) (low high : ℕ) : Type 0 where
  pub one : Start
  pub inside : Contains starts one
  pub least : low ≤ one.time
  pub most : one.time ≤ high

-- the next number is at most one above the greatest
pub next_number-most : (samples : List Numbered) (n : ℕ) → All (λ x. x.number ≤ n) samples → next_number samples ≤ n + 1
next_number-most [] n all = omega arith
next_number-most (x ∷ samples) n all =
    let first : x.number ≤ n = All-head (λ (x : Numbered). x.number ≤ n) x samples all in
    let rest = next_number-most samples n (All-tail (λ (x : Numbered). x.number ≤ n) x samples all) in
    omega (arith, first, rest)

-- the number of the last message
number_behind-most : (ms : List Contents) (n : ℕ) → All (λ m. m.number < n) ms → number_behind (slice_get (reverse ms) 0) ≤ n
number_behind-most ms n all = go (slice_get (reverse ms) 0) (All-last (λ (m : Contents). m.number < n) ms all)
  where
    go : (last : Option Contents) → ((m : Contents) → last ≡ Some m → m.number < n) → number_behind last ≤ n
    go None each = omega arith
    go (Some m) each = omega (arith, each m refl)

-- some message began from a tick on, or all began before it
some_since : (starts : List Start) (u : ℕ) → ((one : Start) × Contains starts one × (u ≤ one.time)) ⊎ All (λ start. start.time < u) starts
some_since [] u = inr (All-nil (λ (start : Start). start.time < u))
some_since (first ∷ starts) u = go (cases_lt first.time u) (some_since starts u)
  where
    go : (first.time < u) ⊎ (u ≤ first.time) → ((one : Start) × Contains starts one × (u ≤ one.time)) ⊎ All (λ start. start.time < u) starts
        → ((one : Start) × Contains (first ∷ starts) one × (u ≤ one.time)) ⊎ All (λ start. start.time < u) (first ∷ starts)
    go (inr since) rest = inl (first, (0, omega arith, refl), since)
    go (inl before) (inl found) = inl (found.0, (suc found.1.0, omega (arith, found.1.1), found.1.2), found.2)
    go (inl before) (inr all) = inr (All-cons (λ (start : Start). start.time < u) first starts before all)

-- what begins is what was ready
pub begins-ready : (channels : ℕ) (slots : List (Slot Contents)) (ready : Option Contents) (m : Contents) → begins channels slots ready ≡ Some m → ready ≡ Some m
begins-ready channels slots None m is = absurd (cc)
begins-ready channels slots (Some x) m is = ap (λ m. Some m) (cond_some (can_begin channels slots x.number) x m is).1

-- numbers by true time, which never fall, and rise in a spacing and three ticks
pub record AreNumbers (spacing : ℕ) (number : ℕ → ℕ) : Type 0 where
  pub rise : (t u : ℕ) → t ≤ u → number t ≤ number u
  pub gain : (t u : ℕ) → t + spacing + 3 ≤ u → number t < number u

module _ (channels spacing : ℕ) (quick : 125 * (div_ceil 36 channels - 1) ≤ spacing) (number : ℕ → ℕ) (numbers : AreNumbers spacing number) (Spoken : Start → Type 0) where
  -- of the samples that were taken in so many ticks, from tick 0 on
  pub record HasTaken (ticks : ℕ) (taken : List Numbered) : Type 0 where
    pub most : All (λ x. x.number ≤ number (ticks - 1)) taken
    pub newest : number 0 < number (ticks - 1) → HasNumber (number (ticks - 1)) (newest_of taken)

  -- and of so many slots, at the multiples of 125, and the messages that began in them
  pub record HasBegun (slots : ℕ) (sent : List (Slot Contents)) (starts : List Start) : Type 0 where
    pub quiet : (c : ℕ) → All (λ start. start.time + 125 * c < 125 * slots) starts → list_all (λ slot. is_none slot.loaded) (take c (reverse sent)) ≡ true
    pub begun : begun_in sent ≡ map (λ start. start.message) starts
    pub numbered : All (λ start. start.message.number ≤ number start.time) starts
    pub past : All (λ start. start.time + 125 ≤ 125 * slots) starts
    pub order : AreInOrder (λ start. start.time) starts
    pub dense : (u : ℕ) → u + spacing + 127 < 125 * slots → BeganWithin starts u (u + spacing + 127)
    pub spoken : All Spoken starts

  pub HasTaken-none : HasTaken 0 []
  HasTaken-none = record { most = All-nil (λ (x : Numbered). x.number ≤ number (0 - 1)); newest = λ more. absurd (omega (arith, more)) }

  pub HasBegun-none : HasBegun 0 [] []
  HasBegun-none = record {
    quiet = none;
    begun = refl;
    numbered = All-nil (λ (start : Start). start.message.number ≤ number start.time);
    past = All-nil (λ (start : Start). start.time + 125 ≤ 125 * 0);
    order = λ i j d before inside. absurd (omega (arith, inside));
    dense = λ u far. absurd (omega (arith, far));
    spoken = All-nil Spoken;
  }
    where
      none : (c : ℕ) → All (λ (start : Start). start.time + 125 * c < 125 * 0) [] → list_all (λ (slot : Slot Contents). is_none slot.loaded) (take c (reverse [])) ≡ true
      none zero all = refl
      none (suc c) all = refl

  module _ (ticks : ℕ) (taken : List Numbered) (has_taken : HasTaken ticks taken) where
    back : ticks + 1 - 1 ≡ ticks
    back = omega arith

    never_less : number (ticks - 1) ≤ number ticks
    never_less = numbers.rise (ticks - 1) ticks (omega arith)

    -- a tick without a sample
    pub unsampled : number ticks ≤ number (ticks - 1) → HasTaken (ticks + 1) taken
    unsampled still =
        let equal : number ticks ≡ number (ticks - 1) = omega (arith, never_less, still) in
        let same : number (ticks + 1 - 1) ≡ number (ticks - 1) = ap number back ∙ equal in
        record {
          most = subst (λ (n : ℕ). All (λ x. x.number ≤ n) taken) (sym same) has_taken.most;
          newest = subst (λ (n : ℕ). number 0 < n → HasNumber n (newest_of taken)) (sym same) has_taken.newest;
        }

    -- a sample more
    pub sampled : (values : Phases) → HasTaken (ticks + 1) (taken ++ record { number = number ticks; values = values } ∷ [])
    sampled values =
        let x : Numbered = record { number = number ticks; values = values } in
        let all : All (λ x. x.number ≤ number ticks) (taken ++ x ∷ []) =
        All-push (λ (x : Numbered). x.number ≤ number ticks) taken x (λ k d inside. omega (arith, has_taken.most k d inside, never_less)) (omega arith) in
        let last : HasNumber (number ticks) (newest_of (taken ++ x ∷ [])) = (x, ap (λ (xs : List Numbered). slice_get xs 0) (reverse-append taken (x ∷ [])), refl) in
        record {
          most = subst (λ (n : ℕ). All (λ x. x.number ≤ number n) (taken ++ x ∷ [])) (sym back) all;
          newest = λ more. subst (λ (n : ℕ). HasNumber (number n) (newest_of (taken ++ x ∷ []))) (sym back) last;
        }

  module _ (ticks slots : ℕ) (taken : List Numbered) (sent : List (Slot Contents)) (starts : List Start) (has_taken : HasTaken ticks taken) (before : HasBegun slots sent starts) where
    -- a slot, in which the newest sample could be told
    module _ (t : ℕ) (at_slot : t ≡ 125 * slots) (at_sample : ticks ≡ t + 1) (say : Numbered → Contents) (says : (x : Numbered) → (say x).number ≡ x.number) where
      abbrev ready : Option Contents
      ready = option_map say (newest_of taken)

      now_is : number (ticks - 1) ≡ number t
      now_is = let back : ticks - 1 ≡ t = omega (arith, at_sample) in ap number back

      -- a message begins where all others began long enough before
      must_begin : (u : ℕ) → u + spacing + 127 < t + 125 → All (λ start. start.time < u) starts → begins channels sent ready ≡ None → ⊥
      must_begin u far early none =
          let more : number u < number t = numbers.gain u t (omega (arith, far)) in
          let least : number 0 ≤ number u = numbers.rise 0 u (omega arith) in
          let found = has_taken.newest (omega (arith, more, least, now_is)) in
          let x = found.0 in
          let high : x.number ≡ number t = found.2 ∙ now_is in
          let free : is_free channels sent ≡ true =
          before.quiet (div_ceil 36 channels - 1) (λ k d inside. omega (arith, early k d inside, far, at_slot, quick)) in
          let low : All (λ start. start.message.number < number t) starts =
          (λ k d inside. omega (arith, before.numbered k d inside, numbers.rise _ u (in_time k d inside), more)) in
          let behind : number_behind (slice_get (reverse (begun_in sent)) 0) ≤ number t =
          subst (λ (ms : List Contents). number_behind (slice_get (reverse ms) 0) ≤ number t) (sym before.begun)
          (number_behind-most (map (λ start. start.message) starts) (number t) (All-map (λ (m : Contents). m.number < number t) (λ (start : Start). start.message) starts low)) in
          let says_x = says x in
          let above : nat_le (number_behind (slice_get (reverse (begun_in sent)) 0)) (say x).number ≡ true =
          le-leb (number_behind (slice_get (reverse (begun_in sent)) 0)) (say x).number (omega (arith, behind, high, says_x)) in
          let can : can_begin channels sent (say x).number ≡ true =
          and_from (is_free channels sent) (nat_le (number_behind (slice_get (reverse (begun_in sent)) 0)) (say x).number) free above in
          let is_ready : ready ≡ Some (say x) = ap (option_map say) found.1 in
          let begun : begins channels sent (Some (say x)) ≡ Some (say x) = ap (λ (b : Bool). cond b (Some (say x)) None) can in
          let other = ap (begins channels sent) is_ready ∙ begun in
          absurd (cc)
        where
          in_time : (k : ℕ) (d : Start) → k < length starts → (get_or starts k d).time ≤ u
          in_time k d inside = omega (arith, early k d inside)

      -- none begins
      pub passed : (yellow : Bool) → begins channels sent ready ≡ None → HasBegun (slots + 1) (sent ++ record { loaded = None; yellow = yellow } ∷ []) starts
      passed yellow none = record {
        quiet = quiet;
        begun = begun_in-more sent slot ∙ append-nil (begun_in sent) ∙ before.begun;
        numbered = before.numbered;
        past = λ k d inside. omega (arith, before.past k d inside);
        order = before.order;
        dense = λ u far. dense u far (cases_lt (u + spacing + 127) (125 * slots)) (some_since starts u);
        spoken = before.spoken;
      }
        where
          slot : Slot Contents
          slot = record { loaded = None; yellow = yellow }

          quiet : (c : ℕ) → All (λ start. start.time + 125 * c < 125 * (slots + 1)) starts → list_all (λ slot. is_none slot.loaded) (take c (reverse (sent ++ slot ∷ []))) ≡ true
          quiet zero all = refl
          quiet (suc c) all =
              ap (λ (xs : List (Slot Contents)). list_all (λ slot. is_none slot.loaded) (take (suc c) xs)) (reverse-append sent (slot ∷ []))
              ∙ before.quiet c (λ k d inside. omega (arith, all k d inside))

          dense : (u : ℕ) → u + spacing + 127 < 125 * (slots + 1) → (u + spacing + 127 < 125 * slots) ⊎ (125 * slots ≤ u + spacing + 127)
              → ((one : Start) × Contains starts one × (u ≤ one.time)) ⊎ All (λ start. start.time < u) starts → BeganWithin starts u (u + spacing + 127)
          dense u far (inl near) since = before.dense u near
          dense u far (inr late) (inl found) =
              let gone : found.0.time + 125 ≤ 125 * slots = All-contains (λ (start : Start). start.time + 125 ≤ 125 * slots) starts found.0 before.past found.1 in
              record { one = found.0; inside = found.1; least = found.2; most = omega (arith, gone, late) }
          dense u far (inr late) (inr early) = absurd (must_begin u (omega (arith, far, at_slot)) early none)

      -- one begins
      pub began : (yellow : Bool) (m : Contents) → begins channels sent ready ≡ Some m → Spoken (record { message = m; time = t })
          → HasBegun (slots + 1) (sent ++ record { loaded = Some m; yellow = yellow } ∷ []) (starts ++ record { message = m; time = t } ∷ [])
      began yellow m some its = record {
        quiet = quiet;
        begun = begun_in-more sent slot ∙ ap (λ (ms : List Contents). ms ++ m ∷ []) before.begun ∙ sym (map-append (λ (start : Start). start.message) starts (one ∷ []));
        numbered = All-push (λ (start : Start). start.message.number ≤ number start.time) starts one before.numbered (at_most (newest_of taken) refl);
        past = All-push (λ (start : Start). start.time + 125 ≤ 125 * (slots + 1)) starts one (λ k d inside. omega (arith, before.past k d inside)) (omega (arith, at_slot));
        order = all_pairs_push (λ (earlier later : Start). earlier.time ≤ later.time) starts one before.order (λ k d inside. omega (arith, before.past k d inside, at_slot));
        dense = λ u far. dense u far (cases_lt (u + spacing + 127) (125 * slots));
        spoken = All-push Spoken starts one before.spoken its;
      }
        where
          slot : Slot Contents
          slot = record { loaded = Some m; yellow = yellow }

          one : Start
          one = record { message = m; time = t }

          quiet : (c : ℕ) → All (λ start. start.time + 125 * c < 125 * (slots + 1)) (starts ++ one ∷ [])
              → list_all (λ slot. is_none slot.loaded) (take c (reverse (sent ++ slot ∷ []))) ≡ true
          quiet zero all = refl
          quiet (suc c) all =
              absurd (let last = All-contains (λ (start : Start). start.time + 125 * suc c < 125 * (slots + 1)) (starts ++ one ∷ []) one all (Contains-push starts one) in
              omega (arith, last, at_slot))

          at_most : (newest : Option Numbered) → newest_of taken ≡ newest → m.number ≤ number t
          at_most None is =
              absurd (let nothing = sym (begins-ready channels sent ready m some) ∙ ap (option_map say) is in cc)
          at_most (Some x) is =
              let told : Some m ≡ Some (say x) = sym (begins-ready channels sent ready m some) ∙ ap (option_map say) is in
              let same : m ≡ say x = cc in
              let low : x.number ≤ number (ticks - 1) = All-last (λ (x : Numbered). x.number ≤ number (ticks - 1)) taken has_taken.most x is in
              omega (arith, ap (λ (m : Contents). m.number) same, says x, low, now_is)

          dense : (u : ℕ) → u + spacing + 127 < 125 * (slots + 1) → (u + spacing + 127 < 125 * slots) ⊎ (125 * slots ≤ u + spacing + 127)
              → BeganWithin (starts ++ one ∷ []) u (u + spacing + 127)
          dense u far (inl near) =
              let found = before.dense u near in
              record { one = found.one; inside = Contains-append_left starts (one ∷ []) found.one found.inside; least = found.least; most = found.most }
          dense u far (inr late) = record { one = one; inside = Contains-push starts one; least = omega (arith, far, at_slot); most = omega (arith, late, at_slot) }
