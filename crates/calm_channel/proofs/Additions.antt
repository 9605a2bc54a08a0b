-- What the entries of a moment add to a station's samples, to its slots to a peer, and to the messages that begin there.
use Rattle.std.specs.Option.{option_to_list}
use Rattle.std.proofs.Common.{◌≡◌, ℕ, ◌≤◌, List, [], ◌∷◌, ◌++◌, All, map, arith, ap, sym, subst, ◌∙◌, append_assoc, append-nil}
use Rattle.std.proofs.lemmas.List.Elements.{All-cons, All-head, All-map, All-nil, All-tail, All-weaker}
use Rattle.ld_base.specs.Message.{Contents}
use Rattle.ld_base.specs.declared.fields.Fields.{Fields}
use Rattle.ld_base.specs.declared.phases.Phases.{Phases}
use Rattle.payload_map.specs.Sent.{Slot}
use Rattle.pingpong.specs.Exchange.{Stamps}
use Rattle.pingpong.specs.declared.journal.Entry.{Entry}
use Rattle.sample_store.specs.Offers.{Offer, Own, Taken, Value, own_number, taken_by, under}
use Rattle.sample_store.specs.declared.ring.Numbered.{Numbered}
use Rattle.sample_store.proofs.Alongs.{along-push}
use Rattle.relay_core.specs.Accepted.{InForceWith}
use Rattle.relay_core.specs.Decided.{Offers, accepted_by, offered_by, values_of}
use Rattle.relay_core.specs.Log.{now, stamp_of}
use Rattle.relay_core.specs.declared.call.Call.{Call}
use Rattle.relay_core.specs.declared.call.Call.TheVariants as made
use Rattle.relay_core.specs.Sent.{Slots, slot_by}
use Rattle.relay_core.specs.declared.receipt.Receipt.{Receipt}
use Rattle.relay_core.proofs.Calls.{Slots-push, now-push}
use Rattle.relay_core.proofs.Lists.{All-flat_map}
use Rattle.relay_core.proofs.Standing.{Offers-push}
use Rattle.line_journal.specs.Crossings.{Start, Starts}
use Rattle.relay_core.specs.StationLog.{StationLog, calls_by, stamp_at}
use Rattle.line_journal.proofs.Entries.{StationLog-push}
use Rattle.calm_channel.proofs.Clocked.{stamped}
use Rattle.calm_channel.proofs.Logs.{IsNoSlot, log-more, slots-same, starts-more, starts-same}

-- a call that is neither a sample nor a slot
abbrev pub IsOther : Call → Type 0
IsOther (made.Sample at values) = ⊥
IsOther (made.Slot at) = ⊥
IsOther (made.Bits at peer bits) = Unit {0}
IsOther (made.Fault at peer) = Unit {0}

other-no_slot : (call : Call) → IsOther call → IsNoSlot call
other-no_slot (made.Sample at values) other = tt
other-no_slot (made.Slot at) other = absurd other
other-no_slot (made.Bits at peer bits) other = tt
other-no_slot (made.Fault at peer) other = tt

-- what a peer's message offers is no own sample
abbrev IsPeers : Offer → Type 0
IsPeers (Own at values) = ⊥
IsPeers (Value fresh peer number values) = Unit {0}

Taken-peers : (spacing : ℕ) (more offers : List Offer) → All IsPeers more → Taken spacing (offers ++ more) ≡ Taken spacing offers
Taken-peers spacing [] offers all = ap (Taken spacing) (append-nil offers)
Taken-peers spacing (offer ∷ more) offers all =
    ap (Taken spacing) (sym (append_assoc offers (offer ∷ []) more))
    ∙ Taken-peers spacing more (offers ++ offer ∷ []) (All-tail IsPeers offer more all)
    ∙ one offer (All-head IsPeers offer more all)
  where
    one : (offer : Offer) → IsPeers offer → Taken spacing (offers ++ offer ∷ []) ≡ Taken spacing offers
    one (Own at values) is = absurd is
    one (Value fresh peer number values) is =
        along-push (λ before taken offer. taken_by spacing taken offer) offers (Value fresh peer number values) ∙ append-nil (Taken spacing offers)

module _ (f : Fields) (me : ℕ) where
  offered-peers : (log : List Call) (call : Call) → IsOther call → All IsPeers (offered_by f me log call)
  offered-peers log (made.Sample at values) other = absurd other
  offered-peers log (made.Slot at) other = absurd other
  offered-peers log (made.Bits at peer bits) other =
      let call = made.Bits at peer bits in
      let exchanges : List Stamps = option_to_list (InForceWith f me peer (log ++ call ∷ [])) in
      All-flat_map IsPeers (λ r. map (values_of peer r) exchanges) (accepted_by f me peer log call)
      (λ (r : Receipt). All-map IsPeers (values_of peer r) exchanges (λ k d inside. tt))
  offered-peers log (made.Fault at peer) other = All-nil IsPeers

  -- the own samples that a log has
  abbrev pub taken_in : List Call → List Numbered
  taken_in log = Taken f.spacing (Offers f me log)

  taken-other : (log : List Call) (call : Call) → IsOther call → taken_in (log ++ call ∷ []) ≡ taken_in log
  taken-other log call other =
      ap (Taken f.spacing) (Offers-push f me log call) ∙ Taken-peers f.spacing (offered_by f me log call) (Offers f me log) (offered-peers log call other)

  taken-slot : (log : List Call) (at : ℕ) → taken_in (log ++ made.Slot at ∷ []) ≡ taken_in log
  taken-slot log at = ap (Taken f.spacing) (Offers-push f me log (made.Slot at) ∙ append-nil (Offers f me log))

  taken-sample : (log : List Call) (at time : ℕ) (values : Phases) → now (log ++ made.Sample at values ∷ []) ≡ time
      → taken_in (log ++ made.Sample at values ∷ []) ≡ taken_in log ++ under (own_number f.spacing (taken_in log) time) values
  taken-sample log at time values is =
      ap (Taken f.spacing) (Offers-push f me log (made.Sample at values))
      ∙ along-push (λ before taken offer. taken_by f.spacing taken offer) (Offers f me log) (Own (now (log ++ made.Sample at values ∷ [])) values)
      ∙ ap (λ (t : ℕ). taken_in log ++ under (own_number f.spacing (taken_in log) t) values) is

  taken-others : (calls log : List Call) → All IsOther calls → taken_in (log ++ calls) ≡ taken_in log
  taken-others [] log all = ap taken_in (append-nil log)
  taken-others (call ∷ calls) log all =
      ap taken_in (sym (append_assoc log (call ∷ []) calls))
      ∙ taken-others calls (log ++ call ∷ []) (All-tail IsOther call calls all)
      ∙ taken-other log call (All-head IsOther call calls all)

  module _ (peer : ℕ) where
    -- what a journal has of the station's samples and slots, and of the messages that began
    pub record Holds (journal : List Entry) (taken : List Numbered) (slots : List (Slot Contents)) (starts : List Start) : Type 0 where
      pub taken_are : taken_in (StationLog me journal) ≡ taken
      pub slots_are : Slots f me peer (StationLog me journal) ≡ slots
      pub starts_are : Starts f me peer journal ≡ starts

    module _ (journal : List Entry) (taken : List Numbered) (sent : List (Slot Contents)) (starts : List Start) (before : Holds journal taken sent starts) where
      -- some entries that hand the station neither a sample nor a slot
      pub entries-other : (entries : List Entry) → All IsOther (StationLog me entries) → Holds (journal ++ entries) taken sent starts
      entries-other entries others =
          let more = log-more me journal entries in
          let still = All-weaker IsOther IsNoSlot other-no_slot (StationLog me entries) others in
          record {
            taken_are = ap taken_in more ∙ taken-others (StationLog me entries) (StationLog me journal) others ∙ before.taken_are;
            slots_are = ap (Slots f me peer) more ∙ slots-same f me peer (StationLog me journal) (StationLog me entries) still ∙ before.slots_are;
            starts_are = starts-same f me peer journal entries still ∙ before.starts_are;
          }

      -- a sample
      pub one-sample : (entry : Entry) (at time : ℕ) (values : Phases) → calls_by me entry ≡ made.Sample at values ∷ []
          → now (StationLog me journal ++ made.Sample at values ∷ []) ≡ time
          → Holds (journal ++ entry ∷ []) (taken ++ under (own_number f.spacing taken time) values) sent starts
      one-sample entry at time values is is_time =
          let more = StationLog-push me journal entry ∙ ap (λ calls. StationLog me journal ++ calls) is in
          let still : All IsNoSlot (made.Sample at values ∷ []) = All-cons IsNoSlot (made.Sample at values) [] tt (All-nil IsNoSlot) in
          record {
            taken_are = ap taken_in more ∙ taken-sample (StationLog me journal) at time values is_time
                ∙ ap (λ ts. ts ++ under (own_number f.spacing ts time) values) before.taken_are;
            slots_are = ap (Slots f me peer) more ∙ slots-same f me peer (StationLog me journal) (made.Sample at values ∷ []) still ∙ before.slots_are;
            starts_are =
                starts-same f me peer journal (entry ∷ []) (subst (All IsNoSlot) (sym (append-nil (calls_by me entry) ∙ is)) still)
                ∙ before.starts_are;
          }

      -- a slot
      pub one-slot : (entry : Entry) (at : ℕ) (slot : Slot Contents) → calls_by me entry ≡ made.Slot at ∷ []
          → slot_by f me peer (StationLog me journal) (Slots f me peer (StationLog me journal)) (made.Slot at) ≡ slot ∷ []
          → Holds (journal ++ entry ∷ []) taken (sent ++ slot ∷ []) (starts ++ map (λ m. record { message = m; time = entry.time }) (option_to_list slot.loaded))
      one-slot entry at slot is loads =
          let old = StationLog me journal in
          let next : Slots f me peer (old ++ made.Slot at ∷ []) ≡ Slots f me peer old ++ slot ∷ [] =
          Slots-push f me peer old (made.Slot at) ∙ ap (λ slots. Slots f me peer old ++ slots) loads in
          let handed = ap (λ calls. old ++ calls) is in
          record {
            taken_are = ap taken_in (StationLog-push me journal entry ∙ handed) ∙ taken-slot old at ∙ before.taken_are;
            slots_are = ap (Slots f me peer) (StationLog-push me journal entry ∙ handed) ∙ next ∙ ap (λ slots. slots ++ slot ∷ []) before.slots_are;
            starts_are = starts-more f me peer journal entry slot (ap (Slots f me peer) handed ∙ next)
                ∙ ap (λ sts. sts ++ map (λ m. record { message = m; time = entry.time }) (option_to_list slot.loaded)) before.starts_are;
          }

-- a station's time after some calls at a stamp that it hasn't passed is no later
now-calls : (calls log : List Call) (at : ℕ) → All (λ call. stamp_of call ≡ at) calls → now log ≤ at → now (log ++ calls) ≤ at
now-calls [] log at all before = subst (λ (l : List Call). now l ≤ at) (sym (append-nil log)) before
now-calls (call ∷ calls) log at all before =
    let here : stamp_of call ≡ at = All-head (λ (call : Call). stamp_of call ≡ at) call calls all in
    subst (λ (l : List Call). now l ≤ at) (append_assoc log (call ∷ []) calls)
    (now-calls calls (log ++ call ∷ []) at (All-tail (λ (call : Call). stamp_of call ≡ at) call calls all) (omega (arith, now-push log call, here, before)))

pub now-entries : (me at : ℕ) (entries journal : List Entry) → All (λ entry. stamp_at me entry ≡ at) entries → now (StationLog me journal) ≤ at
    → now (StationLog me (journal ++ entries)) ≤ at
now-entries me at [] journal all before = subst (λ (j : List Entry). now (StationLog me j) ≤ at) (sym (append-nil journal)) before
now-entries me at (entry ∷ entries) journal all before =
    let here : stamp_at me entry ≡ at = All-head (λ (entry : Entry). stamp_at me entry ≡ at) entry entries all in
    let calls : All (λ call. stamp_of call ≡ at) (calls_by me entry) =
    subst (λ (t : ℕ). All (λ call. stamp_of call ≡ t) (calls_by me entry)) here (stamped me (stamp_at me entry) entry.what) in
    subst (λ (j : List Entry). now (StationLog me j) ≤ at) (append_assoc journal (entry ∷ []) entries)
    (now-entries me at entries (journal ++ entry ∷ []) (All-tail (λ (entry : Entry). stamp_at me entry ≡ at) entry entries all)
    (subst (λ (l : List Call). now l ≤ at) (sym (StationLog-push me journal entry)) (now-calls (calls_by me entry) (StationLog me journal) at calls before)))

-- the time with a call at a stamp that is no earlier is that stamp
pub now-call : (log : List Call) (call : Call) → now log ≤ stamp_of call → now (log ++ call ∷ []) ≡ stamp_of call
now-call log call before = omega (arith, now-push log call, before)
