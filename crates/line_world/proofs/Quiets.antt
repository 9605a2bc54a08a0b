-- Where no sample was handed in, no message begins.
use Rattle.std.proofs.Common.{◌≡◌, ℕ, List, [], ◌∷◌, ◌++◌, map, reverse, Option, None, arith, refl, ap, sym, subst, ◌∙◌, append_assoc, append-nil}
use Rattle.std.specs.Prelude.{All, option_map, slice_get}
use Rattle.std.specs.Option.{ForSome, option_to_list}
use Rattle.std.proofs.lemmas.List.Elements.{All-append, All-cons, All-head, All-map, All-nil}
use Rattle.ld_base.specs.Message.{Contents}
use Rattle.ld_base.specs.declared.fields.Fields.{Fields}
use Rattle.pingpong.specs.Exchange.{Stamps}
use Rattle.payload_map.specs.Sent.{Slot}
use Rattle.sample_store.specs.Offers.{Offer, Own, Value, Taken, taken_by}
use Rattle.sample_store.specs.declared.ring.Numbered.{Numbered}
use Rattle.relay_core.specs.Accepted.{Accepted, InForceWith, last_of}
use Rattle.relay_core.specs.Decided.{Newest, Offers, accepted_by, offered_by, values_of}
use Rattle.relay_core.specs.Log.{now}
use Rattle.relay_core.specs.declared.call.Call.{Call}
use Rattle.relay_core.specs.declared.call.Call.TheVariants as made
use Rattle.relay_core.specs.Sent.{Slots, begins, echo_of, message_of, slot_by}
use Rattle.relay_core.specs.declared.receipt.Receipt.{Receipt}
use Rattle.relay_core.proofs.Calls.{Slots-push}
use Rattle.relay_core.proofs.Lists.{All-end, All-flat_map, All-front, along-all}

-- a call that hands in no sample
abbrev pub IsQuiet : Call → Type 0
IsQuiet (made.Sample at values) = ⊥
IsQuiet (made.Slot at) = Unit {0}
IsQuiet (made.Bits at peer bits) = Unit {0}
IsQuiet (made.Fault at peer) = Unit {0}

-- an offer of no own sample
abbrev IsPeers : Offer → Type 0
IsPeers (Own now values) = ⊥
IsPeers (Value fresh peer number values) = Unit {0}

-- a slot in which no message begins
abbrev pub IsIdle : Slot Contents → Type 0
IsIdle slot = slot.loaded ≡ None

nothing_there : {A : Type 0} (xs : List A) → All (λ x. ⊥) xs → xs ≡ []
nothing_there [] all = refl
nothing_there (x ∷ xs) all = absurd (all 0 x (omega arith))

-- without samples no own value is offered, and none is taken
offered-quiet : (f : Fields) (me : ℕ) (before : List Call) (call : Call) → IsQuiet call → All IsPeers (offered_by f me before call)
offered-quiet f me before (made.Sample at values) quiet = absurd quiet
offered-quiet f me before (made.Slot at) quiet = All-nil IsPeers
offered-quiet f me before (made.Bits at peer bits) quiet =
    let call = made.Bits at peer bits in
    let exchanges : List Stamps = option_to_list (InForceWith f me peer (before ++ call ∷ [])) in
    All-flat_map IsPeers (λ r. map (values_of peer r) exchanges) (accepted_by f me peer before call)
    (λ (r : Receipt). All-map IsPeers (values_of peer r) exchanges (λ k d inside. tt))
offered-quiet f me before (made.Fault at peer) quiet = All-nil IsPeers

offers-quiet : (f : Fields) (me : ℕ) (log : List Call) → All IsQuiet log → All IsPeers (Offers f me log)
offers-quiet f me log all =
    along-all (λ before offers call. offered_by f me before call) IsQuiet IsPeers
    (λ before offers call quiet. offered-quiet f me before call (All-end IsQuiet before call quiet)) log all

taken-none : (spacing : ℕ) (taken : List Numbered) (offer : Offer) → IsPeers offer → All (λ x. ⊥) (taken_by spacing taken offer)
taken-none spacing taken (Own now values) peers = absurd peers
taken-none spacing taken (Value fresh peer number values) peers = All-nil (λ x. ⊥)

newest-none : (f : Fields) (me : ℕ) (log : List Call) → All IsQuiet log → Newest f me log ≡ None
newest-none f me log all =
    ap (λ (taken : List Numbered). slice_get (reverse taken) 0)
    (nothing_there (Taken f.spacing (Offers f me log))
    (along-all (λ before taken offer. taken_by f.spacing taken offer) IsPeers (λ x. ⊥)
    (λ before taken offer peers. taken-none f.spacing taken offer (All-end IsPeers before offer peers)) (Offers f me log) (offers-quiet f me log all)))

-- so no message begins
slot-idle : (f : Fields) (me peer : ℕ) (before : List Call) (slots : List (Slot Contents)) (call : Call) → All IsQuiet before
    → All IsIdle (slot_by f me peer before slots call)
slot-idle f me peer before slots (made.Sample at values) quiet = All-nil IsIdle
slot-idle f me peer before slots (made.Slot at) quiet =
    All-cons IsIdle _ []
    (ap (λ (sample : Option Numbered). begins f.channels slots (option_map (message_of me peer (now (before ++ made.Slot at ∷ [])) (echo_of (last_of (Accepted f me peer before)))) sample))
    (newest-none f me before quiet))
    (All-nil IsIdle)
slot-idle f me peer before slots (made.Bits at from bits) quiet = All-nil IsIdle
slot-idle f me peer before slots (made.Fault at from) quiet = All-nil IsIdle

slots-idle : (f : Fields) (me peer : ℕ) (log : List Call) → All IsQuiet log → All IsIdle (Slots f me peer log)
slots-idle f me peer log all =
    along-all (λ before slots call. slot_by f me peer before slots call) IsQuiet IsIdle
    (λ before slots call quiet. slot-idle f me peer before slots call (All-front IsQuiet before (call ∷ []) quiet)) log all

-- a log has a first slot, and no message begins in it
pub record StartsIdle (f : Fields) (me peer : ℕ) (log : List Call) : Type 0 where
  pub first : Slot Contents
  pub others : List (Slot Contents)
  pub are : Slots f me peer log ≡ first ∷ others
  pub idle : IsIdle first

-- so it stays with more calls
pub StartsIdle-more : (f : Fields) (me peer : ℕ) (log more : List Call) → StartsIdle f me peer log → StartsIdle f me peer (log ++ more)
StartsIdle-more f me peer log [] begins = rw (append-nil log) begins
StartsIdle-more f me peer log (call ∷ more) begins =
    rw (sym (append_assoc log (call ∷ []) more))
    (StartsIdle-more f me peer (log ++ call ∷ []) more
    (record {
      first = begins.first;
      others = begins.others ++ slot_by f me peer log (Slots f me peer log) call;
      are = Slots-push f me peer log call ∙ ap (λ (slots : List (Slot Contents)). slots ++ slot_by f me peer log (Slots f me peer log) call) begins.are;
      idle = begins.idle;
    }))

-- and so it is with a first call to send
first_of : (slots : List (Slot Contents)) (slot : Slot Contents) → All IsIdle (slots ++ slot ∷ [])
    → (first : Slot Contents) × (others : List (Slot Contents)) × (slots ++ slot ∷ [] ≡ first ∷ others) × IsIdle first
first_of [] slot all = (slot, [], refl, All-head IsIdle slot [] all)
first_of (x ∷ slots) slot all = (x, slots ++ slot ∷ [], refl, All-head IsIdle x (slots ++ slot ∷ []) all)

pub StartsIdle-slot : (f : Fields) (me peer : ℕ) (log : List Call) (at : ℕ) → All IsQuiet log → StartsIdle f me peer (log ++ made.Slot at ∷ [])
StartsIdle-slot f me peer log at quiet =
    let all = slots-idle f me peer (log ++ made.Slot at ∷ []) (All-append IsQuiet log (made.Slot at ∷ []) quiet (All-cons IsQuiet (made.Slot at) [] tt (All-nil IsQuiet))) in
    let same = Slots-push f me peer log (made.Slot at) in
    let found = first_of (Slots f me peer log) _ (subst (All IsIdle) same all) in
    record { first = found.0; others = found.1; are = same ∙ found.2; idle = found.3 }

-- the first slot is idle, where it is there
pub first-idle : (f : Fields) (me peer : ℕ) (log : List Call) → All IsQuiet log → ForSome (slice_get (Slots f me peer log) 0) IsIdle
first-idle f me peer log quiet = go (Slots f me peer log) (slots-idle f me peer log quiet)
  where
    go : (slots : List (Slot Contents)) → All IsIdle slots → ForSome (slice_get slots 0) IsIdle
    go [] all x is = absurd (cc)
    go (slot ∷ slots) all x is = let same : slot ≡ x = cc in subst IsIdle same (All-head IsIdle slot slots all)

pub StartsIdle-first : (f : Fields) (me peer : ℕ) (log : List Call) → StartsIdle f me peer log → ForSome (slice_get (Slots f me peer log) 0) IsIdle
StartsIdle-first f me peer log begins x is =
    let same : begins.first ≡ x = cc (ap (λ (slots : List (Slot Contents)). slice_get slots 0) begins.are) in
    subst IsIdle same begins.idle
