-- The numbers of the messages that began on a line rise.
use Rattle.std.specs.Prelude.{AllPairs, nat_le, reverse, slice_get}
use Rattle.std.specs.Option.{option_to_list}
use Rattle.std.proofs.Common.{◌≡◌, ℕ, ◌+◌, ◌<◌, ◌≤◌, Bool, true, false, cond, ◌&&◌, List, [], ◌∷◌, ◌++◌, All, Option, None, Some, get_or, map, refl, ap, sym, subst, ◌∙◌, append_assoc, append-nil, arith}
use Rattle.std.proofs.lemmas.Bool.{leb-true}
use Rattle.std.proofs.lemmas.List.{get_or-map, length-map, map-append, reverse-append}
use Rattle.std.proofs.lemmas.List.Elements.{All-append, All-cons, All-nil, filter_map-append}
use Rattle.std.proofs.lemmas.List.Quantifiers.{all_pairs_push}
use Rattle.ld_base.specs.Message.{Contents}
use Rattle.ld_base.specs.declared.fields.Fields.{Fields}
use Rattle.payload_map.specs.Sent.{Slot}
use Rattle.pingpong.specs.declared.journal.Entry.{Entry}
use Rattle.relay_message.specs.Messages.{added}
use Rattle.relay_core.specs.Log.{now}
use Rattle.relay_core.specs.declared.call.Call.{Call}
use Rattle.relay_core.specs.declared.call.Call.TheVariants as made
use Rattle.relay_core.specs.Sent.{Begun, Slots, begins, begun_in, is_free, number_behind, ready, slot_by}
use Rattle.relay_core.proofs.Calls.{Slots-push, added-is}
use Rattle.relay_core.proofs.Lists.{map-mapped}
use Rattle.relay_core.proofs.Slots.{begun_in-more}
use Rattle.sample_store.specs.Along.{along_from}
use Rattle.sample_store.proofs.Alongs.{along-both}
use Rattle.line_journal.specs.Crossings.{Beginnings, beginnings_with, begun_with}
use Rattle.line_journal.specs.LineHistory.{AreRising}
use Rattle.relay_core.specs.StationLog.{StationLog, calls_by}
use Rattle.line_journal.specs.declared.crossing.Beginning.{Beginning}
use Rattle.line_journal.proofs.Entries.{StationLog-push}

-- the number of each is below those of the later ones, and the last is the greatest
record AreUp (ms : List Contents) : Type 0 where
  pairs : AllPairs (λ earlier later. earlier.number < later.number) ms
  below : All (λ m. m.number < number_behind (slice_get (reverse ms) 0)) ms

AreUp-none : AreUp []
AreUp-none = record { pairs = λ i j d below inside. absurd (omega (arith, inside)); below = All-nil (λ m. m.number < 0) }

AreUp-push : (ms : List Contents) (m : Contents) → number_behind (slice_get (reverse ms) 0) ≤ m.number → AreUp ms → AreUp (ms ++ m ∷ [])
AreUp-push ms m least up =
    let last : number_behind (slice_get (reverse (ms ++ m ∷ [])) 0) ≡ m.number + 1 = ap (λ xs. number_behind (slice_get xs 0)) (reverse-append ms (m ∷ [])) in
    record {
      pairs = all_pairs_push (λ earlier later. earlier.number < later.number) ms m up.pairs (λ k d inside. omega (arith, least, up.below k d inside));
      below = subst (λ n. All (λ x. x.number < n) (ms ++ m ∷ [])) (sym last)
          (All-append (λ x. x.number < m.number + 1) ms (m ∷ []) (λ k d inside. omega (arith, least, up.below k d inside))
          (All-cons (λ x. x.number < m.number + 1) m [] (omega arith) (All-nil (λ x. x.number < m.number + 1))));
    }

AreUp-begins : (channels : ℕ) (slots : List (Slot Contents)) (m : Option Contents) → AreUp (begun_in slots) → AreUp (begun_in slots ++ option_to_list (begins channels slots m))
AreUp-begins channels slots None up = subst AreUp (sym (append-nil (begun_in slots))) up
AreUp-begins channels slots (Some m) up = go (is_free channels slots) (nat_le (number_behind (slice_get (reverse (begun_in slots)) 0)) m.number) refl
  where
    go : (free above : Bool) → nat_le (number_behind (slice_get (reverse (begun_in slots)) 0)) m.number ≡ above
        → AreUp (begun_in slots ++ option_to_list (cond (free && above) (Some m) None))
    go true true is = AreUp-push (begun_in slots) m (leb-true (number_behind (slice_get (reverse (begun_in slots)) 0)) m.number is) up
    go true false is = subst AreUp (sym (append-nil (begun_in slots))) up
    go false above is = subst AreUp (sym (append-nil (begun_in slots))) up

AreUp-slot : (f : Fields) (me peer : ℕ) (before : List Call) (slots : List (Slot Contents)) (call : Call) → AreUp (begun_in slots)
    → AreUp (begun_in (slots ++ slot_by f me peer before slots call))
AreUp-slot f me peer before slots (made.Sample at values) up = subst (λ all. AreUp (begun_in all)) (sym (append-nil slots)) up
AreUp-slot f me peer before slots (made.Slot at) up =
    subst AreUp (sym (begun_in-more slots _)) (AreUp-begins f.channels slots (ready f me peer before (now (before ++ made.Slot at ∷ []))) up)
AreUp-slot f me peer before slots (made.Bits at from bits) up = subst (λ all. AreUp (begun_in all)) (sym (append-nil slots)) up
AreUp-slot f me peer before slots (made.Fault at from) up = subst (λ all. AreUp (begun_in all)) (sym (append-nil slots)) up

Begun-up : (f : Fields) (me peer : ℕ) (log : List Call) → AreUp (Begun f me peer log)
Begun-up f me peer log =
    along-both (λ before slots call. slot_by f me peer before slots call) (λ before slots call. slot_by f me peer before slots call)
    (λ before slots same. AreUp (begun_in slots)) AreUp-none (λ before slots same call up. AreUp-slot f me peer before slots call up) log

-- more calls add messages behind those of the others
record Grow (f : Fields) (me peer : ℕ) (log calls : List Call) : Type 0 where
  more : List Contents
  are : Begun f me peer (log ++ calls) ≡ Begun f me peer log ++ more

Begun-grow : (f : Fields) (me peer : ℕ) (calls log : List Call) → Grow f me peer log calls
Begun-grow f me peer [] log = record { more = []; are = ap (Begun f me peer) (append-nil log) ∙ sym (append-nil (Begun f me peer log)) }
Begun-grow f me peer (call ∷ calls) log =
    let slots = slot_by f me peer log (Slots f me peer log) call in
    let first : Begun f me peer (log ++ call ∷ []) ≡ Begun f me peer log ++ begun_in slots =
    ap begun_in (Slots-push f me peer log call) ∙ filter_map-append (λ slot. slot.loaded) (Slots f me peer log) slots in
    let rest = Begun-grow f me peer calls (log ++ call ∷ []) in
    record {
      more = begun_in slots ++ rest.more;
      are = ap (Begun f me peer) (sym (append_assoc log (call ∷ []) calls)) ∙ rest.are ∙ ap (λ ms. ms ++ rest.more) first
          ∙ append_assoc (Begun f me peer log) (begun_in slots) rest.more;
    }

Begun-added : (f : Fields) (me peer : ℕ) (log calls : List Call) → Begun f me peer (log ++ calls) ≡ Begun f me peer log ++ added (Begun f me peer) log calls
Begun-added f me peer log calls =
    let grow = Begun-grow f me peer calls log in
    grow.are ∙ ap (λ ms. Begun f me peer log ++ ms) (sym (added-is (Begun f me peer) log calls grow.more grow.are))

-- the messages of the beginnings are those that began in the sender's log
messages-begun : (f : Fields) (from to : ℕ) (journal : List Entry) → map (λ b. b.message) (Beginnings f from to journal) ≡ Begun f from to (StationLog from journal)
unfolding along_from
messages-begun f from to journal =
    along-both (λ before so_far entry. beginnings_with f from to before entry) (λ before so_far entry. beginnings_with f from to before entry)
    (λ before begun same. map (λ b. b.message) begun ≡ Begun f from to (StationLog from before)) refl
    (λ before begun same entry are.
    map-append (λ b. b.message) begun (beginnings_with f from to before entry)
    ∙ ap (λ ms. map (λ b. b.message) begun ++ ms) (map-mapped (λ b. b.message) _ (begun_with f from to before entry) ∙ map-all (begun_with f from to before entry))
    ∙ ap (λ ms. ms ++ begun_with f from to before entry) are
    ∙ sym (ap (Begun f from to) (StationLog-push from before entry) ∙ Begun-added f from to (StationLog from before) (calls_by from entry)))
    journal
  where
    map-all : (ms : List Contents) → map (λ m. m) ms ≡ ms
    map-all [] = refl
    map-all (m ∷ ms) = ap (λ xs. m ∷ xs) (map-all ms)

rising-mapped : (begun : List Beginning) → AllPairs (λ earlier later. earlier.number < later.number) (map (λ b. b.message) begun) → AreRising begun
rising-mapped begun pairs i j d below inside =
    let mapped = pairs i j d.message below (omega (arith, inside, length-map begun (λ b. b.message))) in
    let earlier = get_or-map (λ b. b.message) begun i d d.message (omega (arith, below, inside)) in
    let later = get_or-map (λ b. b.message) begun j d d.message inside in
    subst (λ m. (get_or begun i d).message.number < m.number) later (subst (λ m. m.number < (get_or (map (λ b. b.message) begun) j d.message).number) earlier mapped)

pub Beginnings-rise : (f : Fields) (from to : ℕ) (journal : List Entry) → AreRising (Beginnings f from to journal)
Beginnings-rise f from to journal =
    rising-mapped (Beginnings f from to journal)
    (subst (AllPairs (λ earlier later. earlier.number < later.number)) (sym (messages-begun f from to journal)) (Begun-up f from to (StationLog from journal)).pairs)
