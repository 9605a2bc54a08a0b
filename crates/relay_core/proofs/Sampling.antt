-- A terminal with an own sample more.
use Rattle.std.proofs.Common.{◌≡◌, ℕ, ◌-◌, ◌/◌, ◌%◌, Bool, true, false, cond, ◌&&◌, List, [], ◌∷◌, ◌++◌, Option, None, Some, get_or, reverse, refl, ap, sym, subst, ◌∙◌, append-nil}
use Rattle.std.specs.Prelude.{nat_le, slice_get}
use Rattle.std.proofs.lemmas.List.{reverse-append}
use Rattle.ld_base.specs.declared.fields.Fields.{Fields}
use Rattle.ld_base.specs.declared.phases.Phases.{Phases}
use Rattle.sample_store.specs.Answers.{own_answer}
use Rattle.sample_store.specs.Offers.{Offer, Own, Taken, next_number, taken_by, under}
use Rattle.sample_store.specs.declared.ring.Numbered.{Numbered}
use Rattle.sample_store.specs.declared.store.OwnTaken.{OwnTaken}
use Rattle.sample_store.specs.declared.store.OwnTaken.TheVariants.{Took, OffGrid, Again}
use Rattle.sample_store.proofs.Alongs.{along-push}
use Rattle.relay_core.specs.Decided.{Newest, Offers, newest_after}
use Rattle.relay_core.specs.Decides.{Decides}
use Rattle.relay_core.specs.Log.{now}
use Rattle.relay_core.specs.declared.call.Call.{Call}
use Rattle.relay_core.specs.declared.call.Call.TheVariants as made
use Rattle.relay_core.specs.StandsFor.{Kept, StandsFor, span_with}
use Rattle.relay_core.specs.declared.decider.Decider.{Decider}
use Rattle.relay_core.specs.declared.terminal.Span.{Span}
use Rattle.relay_core.proofs.Following.{Follows-elsewhere}
use Rattle.relay_core.proofs.Standing.{IsServed, Offers-push, span-served}

-- the newest sample is the one that was taken last
newest-under : (taken : List Numbered) (next quotient : ℕ) (on_grid above : Bool) (v : Phases)
    → newest_after (slice_get (reverse taken) 0) (cond on_grid (cond above (Took quotient) (Again (next - 1))) OffGrid) v
    ≡ slice_get (reverse (taken ++ under (cond (on_grid && above) (Some quotient) None) v)) 0
newest-under taken next quotient true true v = sym (ap (λ xs. slice_get xs 0) (reverse-append taken (record { number = quotient; values = v } ∷ [])))
newest-under taken next quotient true false v = ap (λ xs. slice_get (reverse xs) 0) (sym (append-nil taken))
newest-under taken next quotient false above v = ap (λ xs. slice_get (reverse xs) 0) (sym (append-nil taken))

newest-own : (spacing : ℕ) (offers : List Offer) (time : ℕ) (v : Phases)
    → newest_after (slice_get (reverse (Taken spacing offers)) 0) (own_answer spacing (next_number (Taken spacing offers)) time) v
    ≡ slice_get (reverse (Taken spacing (offers ++ Own time v ∷ []))) 0
newest-own spacing offers time v =
    newest-under (Taken spacing offers) (next_number (Taken spacing offers)) (time / spacing) (nat_le (time % spacing) 1) (nat_le (next_number (Taken spacing offers)) (time / spacing)) v
    ∙ sym (ap (λ xs. slice_get (reverse xs) 0) (along-push (λ before taken offer. taken_by spacing taken offer) offers (Own time v)))

pub Offers-samples : (f : Fields) (me at time : ℕ) (log : List Call) (v : Phases) → time ≡ now (log ++ made.Sample at v ∷ [])
    → Offers f me (log ++ made.Sample at v ∷ []) ≡ Offers f me log ++ Own time v ∷ []
Offers-samples f me at time log v is_time = Offers-push f me log (made.Sample at v) ∙ ap (λ t. Offers f me log ++ Own t v ∷ []) (sym is_time)

pub Served-samples : (t : Kept) (log : List Call) (at : ℕ) (v : Phases) (span : Span) (own : OwnTaken) (newest : Option Numbered) (decider : Decider)
    → StandsFor t log → span ≡ span_with t.span at
    → own ≡ own_answer t.settings.spacing (next_number (Taken t.settings.spacing (Offers t.settings t.me log))) span.now
    → newest ≡ newest_after t.newest own v
    → Decides t.settings t.me decider (Offers t.settings t.me log ++ Own span.now v ∷ [])
    → IsServed t log (made.Sample at v) span newest decider t.peers
Served-samples t log at v span own newest decider stands is_span is_own is_newest decides =
    let f = t.settings in
    let call = made.Sample at v in
    let offers = Offers-samples f t.me at span.now log v (span-served t log call span stands is_span).time in
    record {
      stands = stands;
      is_span = is_span;
      is_newest =
          is_newest
          ∙ ap (λ n. newest_after n own v) stands.newest
          ∙ ap (λ own. newest_after (Newest f t.me log) own v) is_own
          ∙ newest-own f.spacing (Offers f t.me log) span.now v
          ∙ ap (λ os. slice_get (reverse (Taken f.spacing os)) 0) (sym offers);
      decides = subst (Decides f t.me decider) (sym offers) decides;
      stations = stands.stations;
      follow = λ k d inside. Follows-elsewhere f t.me log call (get_or t.peers k d) (record { bits = refl; slots = refl; faulty = refl }) (stands.follow k d inside);
      signal = stands.signal;
    }
