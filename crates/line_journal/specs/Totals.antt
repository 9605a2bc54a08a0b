-- What a station counts in its log. (This project's own.)
use Rattle.std.specs.Prelude.{ℕ, Bool, true, false, min, List, [], ◌∷◌, count_by, length}
use Rattle.std.specs.List.{list_any}
use Rattle.std.specs.Option.{option_to_list}
use Rattle.ld_base.specs.Faults.{last_count}
use Rattle.ld_base.specs.declared.fields.Fields.{Fields}
use Rattle.bit_sync.specs.declared.told.Got.{Got}
use Rattle.bit_sync.specs.declared.told.Got.TheVariants.{Good, Bad}
use Rattle.offset_track.specs.declared.track.Taken.{Taken}
use Rattle.offset_track.specs.declared.track.Taken.TheVariants as taken
use Rattle.relay_message.specs.Messages.{added}
use Rattle.sample_store.specs.Along.{along}
use Rattle.trip_logic.specs.declared.verdict.Verdict.{Verdict}
use Rattle.trip_logic.specs.declared.verdict.Verdict.TheVariants as verdict
use Rattle.relay_core.specs.Answers.{judged_by, news_by, refused_by, taken_by}
use Rattle.relay_core.specs.Decided.{accepted_by}
use Rattle.relay_core.specs.Line.{Gots}
use Rattle.relay_core.specs.declared.call.Call.{Call}
use Rattle.relay_core.specs.declared.call.Call.TheVariants as made
use Rattle.relay_core.specs.declared.answers.Judged.{Judged}
use Rattle.relay_core.specs.declared.answers.News.{News}
use Rattle.relay_core.specs.declared.answers.News.TheVariants as news
use Rattle.line_journal.specs.declared.line.Total.{Total}

-- what bits from a peer tell, and no other call does
abbrev pub told_by : {A : Type 0} → (ℕ → List Call → Call → List A) → List Call → Call → List A
told_by tells before (made.Bits at peer bits) = tells peer before (made.Bits at peer bits)
told_by tells before (made.Sample at values) = []
told_by tells before (made.Slot at) = []
told_by tells before (made.Fault at peer) = []

-- and what all calls of a log tell
abbrev pub all_told : {A : Type 0} → (ℕ → List Call → Call → List A) → List Call → List A
all_told tells log = along (λ before so_far call. told_by tells before call) log

-- all that was judged
abbrev pub Judgements : Fields → ℕ → List Call → List Judged
Judgements f me log = along (λ before so_far call. judged_by f me before call) log

abbrev pub is_trip : Verdict → Bool
is_trip verdict.Trip = true
is_trip other = false

-- a set trips where one of its phases does
abbrev pub has_trip : Judged → Bool
has_trip judged = list_any is_trip judged.verdicts

abbrev pub is_strange : News → Bool
is_strange (news.Stranger address) = true
is_strange other = false

abbrev pub is_repeated : News → Bool
is_repeated (news.Repeat number last) = true
is_repeated other = false

abbrev pub took_too_long : Taken → Bool
took_too_long taken.Slow = true
took_too_long taken.Kept = false

abbrev pub is_bad : Got → Bool
is_bad (Good frame) = false
is_bad (Bad fault) = true

-- before the first call
abbrev pub no_total : Total
no_total = record { accepted = 0; sets = 0; trips = 0; refused = 0; strange = 0; repeats = 0; slow = 0; bad = 0 }

-- a count, which stands still at the end of its type
abbrev pub counted : ℕ → ℕ
counted n = min n last_count

-- what station `me` counts in its log
abbrev pub TotalOf : Fields → ℕ → List Call → Total
TotalOf f me log = record {
  accepted = counted (length (all_told (accepted_by f me) log));
  sets = counted (length (Judgements f me log));
  trips = counted (count_by has_trip (Judgements f me log));
  refused = counted (length (all_told (λ peer before call. option_to_list (refused_by f peer before call)) log));
  strange = counted (count_by is_strange (all_told (news_by f me) log));
  repeats = counted (count_by is_repeated (all_told (news_by f me) log));
  slow = counted (count_by took_too_long (all_told (taken_by f me) log));
  bad = counted (count_by is_bad (all_told (λ peer before call. added (Gots f peer) before (call ∷ [])) log));
}
