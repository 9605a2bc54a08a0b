-- The messages that begin: each can be sent, goes from the terminal to its peer, and has a number above those before it.
use Rattle.std.specs.Prelude.{nat_le, ◌==◌}
use Rattle.std.specs.Option.{ForSome, option_to_list}
use Rattle.std.proofs.Common.{◌≡◌, ◌≢◌, ℕ, ◌*◌, ◌/◌, ◌%◌, ◌^◌, ◌≤◌, ◌<◌, max, Bool, true, false, cond, ◌&&◌, List, [], ◌∷◌, ◌++◌, All, Option, None, Some, fold, map, option_map, arith, refl, subst}
use Rattle.std.proofs.lemmas.Bool.{eq-eqb}
use Rattle.std.proofs.lemmas.List.Elements.{All-cons, All-drop, All-head, All-map, All-nil, All-tail}
use Rattle.std.proofs.Math.Nat.{mul-div-le, mul-le-mul_right}
use Rattle.ld_base.specs.Message.{Contents, IsEcho}
use Rattle.ld_base.specs.Ticks.{last_stamp}
use Rattle.ld_base.specs.declared.fields.Fields.{Fields}
use Rattle.c3794_frame.specs.Numbers.{AreBits}
use Rattle.c3794_frame.proofs.Numbers.{are_append}
use Rattle.relay_message.specs.FitPhases.{FitPhases}
use Rattle.relay_message.specs.Messages.{added}
use Rattle.payload_map.specs.Messages.{CanBeSent}
use Rattle.sample_store.specs.Offers.{Offer, Own, Taken, Value, next_number, taken_by, under}
use Rattle.sample_store.specs.declared.ring.Numbered.{Numbered}
use Rattle.relay_core.specs.Accepted.{Accepted, Completed, InForceWith, accepted_among, accepted_of, completed_by, is_addressed, last_of}
use Rattle.relay_core.specs.Accepted as accepted
use Rattle.relay_core.specs.Calls.{AreCalls, IsCall}
use Rattle.relay_core.specs.Decided.{Newest, Offers, accepted_by, offered_by, values_of}
use Rattle.relay_core.specs.Line.{Line, Messages, bits_from}
use Rattle.relay_core.specs.Log.{now, stamp_of}
use Rattle.relay_core.specs.declared.call.Call.{Call}
use Rattle.relay_core.specs.declared.call.Call.TheVariants as made
use Rattle.relay_core.specs.Sent.{echo_of, message_of, ready}
use Rattle.relay_core.specs.declared.receipt.Receipt.{Receipt}
use Rattle.relay_core.proofs.Lists.{All-end, All-flat_map, All-last, along-all}
use Rattle.relay_core.proofs.Sound.{IsStamped, messages-stamped}

-- a terminal's time is no later than the last stamp
fold-until : (log : List Call) (latest : ℕ) → latest ≤ last_stamp → AreCalls log → fold (λ latest call. max latest (stamp_of call)) latest log ≤ last_stamp
fold-until [] latest early calls = early
fold-until (call ∷ log) latest early calls =
    fold-until log (max latest (stamp_of call)) (omega (arith, early, (All-head IsCall call log calls).stamp)) (All-tail IsCall call log calls)

pub now-until : (log : List Call) → AreCalls log → now log ≤ last_stamp
now-until log calls = fold-until log 0 (omega arith) calls

-- the line from a peer has bits
heard-bits : (peer : ℕ) (call : Call) → IsCall call → AreBits (bits_from peer call)
heard-bits peer (made.Sample at values) is = record { each = λ i. omega arith }
heard-bits peer (made.Slot at) is = record { each = λ i. omega arith }
heard-bits peer (made.Bits at from bits) is = go (from == peer)
  where
    go : (b : Bool) → AreBits (cond b bits [])
    go true = is.bits
    go false = record { each = λ i. omega arith }
heard-bits peer (made.Fault at from) is = record { each = λ i. omega arith }

line-bits : (peer : ℕ) (log : List Call) → AreCalls log → AreBits (Line peer log)
line-bits peer [] calls = record { each = λ i. omega arith }
line-bits peer (call ∷ log) calls =
    are_append (bits_from peer call) (Line peer log) (heard-bits peer call (All-head IsCall call log calls)) (line-bits peer log (All-tail IsCall call log calls))

-- so the stamps of a receipt have six bytes
record IsHeard (r : Receipt) : Type 0 where
  sent : r.message.sent < 2 ^ 48
  came : r.at < 2 ^ 48

completed-heard : (f : Fields) (peer : ℕ) (before : List Call) (call : Call) → (1 ≤ f.channels) × (f.channels ≤ 12)
    → AreCalls (before ++ call ∷ []) → All IsHeard (completed_by f peer before call)
completed-heard f peer before call few calls =
    let log = before ++ call ∷ [] in
    let early = now-until log calls in
    let new = added (Messages f peer) before (call ∷ []) in
    let sent : All IsStamped new = All-drop IsStamped _ (Messages f peer log) (messages-stamped f (Line peer log) few (line-bits peer log calls)) in
    All-map IsHeard (λ m. record { message = m; at = now log }) new (λ k d within. record { sent = sent k d within; came = omega (arith, early) })

Completed-heard : (f : Fields) (peer : ℕ) (log : List Call) → (1 ≤ f.channels) × (f.channels ≤ 12) → AreCalls log → All IsHeard (Completed f peer log)
Completed-heard f peer log few =
    along-all (λ before completed call. completed_by f peer before call) IsCall IsHeard (λ before completed call calls. completed-heard f peer before call few calls) log

accepted-heard : (me peer : ℕ) (before : List Receipt) (r : Receipt) → IsHeard r → All IsHeard (accepted_of me peer before r)
accepted-heard me peer before r heard = go (is_addressed peer me r.message && nat_le (accepted.next_number before) r.message.number)
  where
    go : (b : Bool) → All IsHeard (cond b (r ∷ []) [])
    go true = All-cons IsHeard r [] heard (All-nil IsHeard)
    go false = All-nil IsHeard

Accepted-heard : (f : Fields) (me peer : ℕ) (log : List Call) → (1 ≤ f.channels) × (f.channels ≤ 12) → AreCalls log → All IsHeard (Accepted f me peer log)
Accepted-heard f me peer log few calls =
    along-all (λ before taken r. accepted_of me peer taken r) IsHeard IsHeard
    (λ before taken r all. accepted-heard me peer taken r (All-end IsHeard before r all)) (Completed f peer log) (Completed-heard f peer log few calls)

echo-heard : (last : Option Receipt) → ForSome last IsHeard → ForSome (echo_of last) IsEcho
echo-heard None heard echo is = absurd (cc)
echo-heard (Some r) heard echo is =
    let of_it = heard r refl in
    let same : record { sent = r.message.sent; came = r.at } ≡ echo = cc in
    subst IsEcho same (record { sent = of_it.sent; came = of_it.came })

-- own samples are offered at stamps of clocks, and their values have sixteen bits
abbrev FitsOffer : Offer → Type 0
FitsOffer (Own at values) = (at ≤ last_stamp) × FitPhases values
FitsOffer (Value chosen peer number values) = Unit {0}

offered-fits : (f : Fields) (me : ℕ) (before : List Call) (call : Call) → AreCalls (before ++ call ∷ []) → All FitsOffer (offered_by f me before call)
offered-fits f me before (made.Sample at values) calls =
    All-cons FitsOffer (Own (now (before ++ made.Sample at values ∷ [])) values) []
    (now-until (before ++ made.Sample at values ∷ []) calls, (All-end IsCall before (made.Sample at values) calls).values) (All-nil FitsOffer)
offered-fits f me before (made.Slot at) calls = All-nil FitsOffer
offered-fits f me before (made.Bits at peer bits) calls =
    let log = before ++ made.Bits at peer bits ∷ [] in
    All-flat_map FitsOffer (λ r. map (values_of peer r) (option_to_list (InForceWith f me peer log))) (accepted_by f me peer before (made.Bits at peer bits))
    (λ r. All-map FitsOffer (values_of peer r) (option_to_list (InForceWith f me peer log)) (λ k d within. tt))
offered-fits f me before (made.Fault at peer) calls = All-nil FitsOffer

Offers-fit : (f : Fields) (me : ℕ) (log : List Call) → AreCalls log → All FitsOffer (Offers f me log)
Offers-fit f me log = along-all (λ before offers call. offered_by f me before call) IsCall FitsOffer (λ before offers call calls. offered-fits f me before call calls) log

-- so the number of a sample has four bytes
record FitsSample (sample : Numbered) : Type 0 where
  number : sample.number < 2 ^ 32
  values : FitPhases sample.values

number-fits : (spacing at : ℕ) → 500 ≤ spacing → at ≤ last_stamp → at / spacing < 2 ^ 32
number-fits spacing at wide early =
    let n : ℕ = at / spacing in
    let whole : spacing * n ≤ at = mul-div-le at spacing in
    let least : 500 * n ≤ spacing * n = mul-le-mul_right n wide in
    omega (arith, whole, least, early)

taken-fits : (spacing : ℕ) (taken : List Numbered) (offer : Offer) → 500 ≤ spacing → FitsOffer offer → All FitsSample (taken_by spacing taken offer)
taken-fits spacing taken (Own at values) wide fits = go (nat_le (at % spacing) 1 && nat_le (next_number taken) (at / spacing))
  where
    go : (b : Bool) → All FitsSample (under (cond b (Some (at / spacing)) None) values)
    go true = All-cons FitsSample (record { number = at / spacing; values = values }) []
        (record { number = number-fits spacing at wide fits.0; values = fits.1 }) (All-nil FitsSample)
    go false = All-nil FitsSample
taken-fits spacing taken (Value chosen peer number values) wide fits = All-nil FitsSample

Taken-fit : (spacing : ℕ) (offers : List Offer) → 500 ≤ spacing → All FitsOffer offers → All FitsSample (Taken spacing offers)
Taken-fit spacing offers wide =
    along-all (λ before taken offer. taken_by spacing taken offer) FitsOffer FitsSample
    (λ before taken offer all. taken-fits spacing taken offer wide (All-end FitsOffer before offer all)) offers

-- settings and stations for which messages can be sent
pub record AreFit (f : Fields) (me peer : ℕ) : Type 0 where
  pub channels : (1 ≤ f.channels) × (f.channels ≤ 12)
  pub spacing : 500 ≤ f.spacing
  pub from : (1 ≤ me) × (me ≤ 3)
  pub to : (1 ≤ peer) × (peer ≤ 3)
  pub differ : me ≢ peer

-- the message that a slot could carry can be sent, and goes to the peer
pub record IsOwn (me peer : ℕ) (m : Contents) : Type 0 where
  pub sendable : CanBeSent m
  pub addressed : is_addressed me peer m ≡ true

pub ready-own : (f : Fields) (me peer : ℕ) (before : List Call) (at : ℕ) → AreFit f me peer → AreCalls before → at ≤ last_stamp → ForSome (ready f me peer before at) (IsOwn me peer)
ready-own f me peer before at fit calls early =
    go (Newest f me before) (All-last FitsSample (Taken f.spacing (Offers f me before))
    (Taken-fit f.spacing (Offers f me before) fit.spacing (Offers-fit f me before calls)))
  where
    last : Option Receipt
    last = last_of (Accepted f me peer before)

    heard : ForSome last IsHeard
    heard = All-last IsHeard (Accepted f me peer before) (Accepted-heard f me peer before fit.channels calls)

    own : (sample : Numbered) → FitsSample sample → IsOwn me peer (message_of me peer at (echo_of last) sample)
    own sample fits = record {
      sendable = (
        record {
          from = fit.from;
          to = fit.to;
          differ = fit.differ;
          number = fits.number;
          sent = omega (arith, early);
          echo = echo-heard last heard;
        },
        fits.values,
      );
      addressed = rw (eq-eqb me me refl, eq-eqb peer peer refl) refl;
    }

    go : (newest : Option Numbered) → ForSome newest FitsSample → ForSome (option_map (message_of me peer at (echo_of last)) newest) (IsOwn me peer)
    go None fits m is = absurd (cc)
    go (Some sample) fits m is =
        let same : message_of me peer at (echo_of last) sample ≡ m = cc in
        subst (IsOwn me peer) same (own sample (fits sample refl))
