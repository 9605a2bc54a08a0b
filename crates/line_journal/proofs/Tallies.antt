-- What a call adds to what its station counts.
use Rattle.std.specs.Prelude.{count_by, slice_get}
use Rattle.std.specs.Option.{option_to_list}
use Rattle.std.proofs.Common.{◌≡◌, ◌≢◌, ℕ, zero, suc, ◌+◌, Bool, List, [], ◌∷◌, ◌++◌, Option, None, Some, get_or, length, set, inl, inr, refl, ap, sym, ◌∙◌, arith}
use Rattle.std.proofs.lemmas.Bool.{cases_eq}
use Rattle.std.proofs.lemmas.List.{length-append}
use Rattle.std.proofs.lemmas.List.Sums.{sum_by-append}
use Rattle.std.proofs.lemmas.Option.{get_or_from_slice_get}
use Rattle.ld_base.specs.declared.fields.Fields.{Fields}
use Rattle.pingpong.specs.declared.journal.Entry.{Entry}
use Rattle.relay_message.specs.Messages.{added}
use Rattle.sample_store.specs.Along.{along_from}
use Rattle.sample_store.proofs.Alongs.{along-push}
use Rattle.relay_core.specs.Answers.{judged_by, news_by, refused_by, taken_by}
use Rattle.relay_core.specs.Decided.{accepted_by}
use Rattle.relay_core.specs.Line.{Gots}
use Rattle.relay_core.specs.declared.call.Call.{Call}
use Rattle.relay_core.specs.declared.call.Call.TheVariants as made
use Rattle.relay_core.specs.declared.answers.Heard.{Heard}
use Rattle.relay_core.specs.declared.answers.Judged.{Judged}
use Rattle.relay_core.specs.IsAnswer.{IsHeard}
use Rattle.relay_core.specs.StationLog.{StationLog}
use Rattle.line_journal.specs.Told.{accepted_in, more, with_heard, with_judged}
use Rattle.line_journal.specs.Totals.{Judgements, TotalOf, all_told, counted, has_trip, is_bad, is_repeated, is_strange, no_total, told_by, took_too_long}
use Rattle.line_journal.specs.declared.line.Total.{Total}
use Rattle.line_journal.proofs.Entries.{Hands, StationLog-elsewhere, StationLog-here}

counted-more : (n k : ℕ) → counted (n + k) ≡ more (counted n) k
counted-more n k = omega arith

-- a count of more elements, and of those that pass a test
length-more : {A : Type 0} (xs ys all : List A) → all ≡ xs ++ ys → counted (length all) ≡ more (counted (length xs)) (length ys)
length-more xs ys all is = ap (λ zs. counted (length zs)) is ∙ ap counted (length-append xs ys) ∙ counted-more (length xs) (length ys)

pub count-more : {A : Type 0} (p : A → Bool) (xs ys all : List A) → all ≡ xs ++ ys → counted (count_by p all) ≡ more (counted (count_by p xs)) (count_by p ys)
count-more p xs ys all is = ap (λ zs. counted (count_by p zs)) is ∙ ap counted (sum_by-append _ xs ys) ∙ counted-more (count_by p xs) (count_by p ys)

all_told-push : {A : Type 0} (tells : ℕ → List Call → Call → List A) (log : List Call) (call : Call) → all_told tells (log ++ call ∷ []) ≡ all_told tells log ++ told_by tells log call
all_told-push tells log call = along-push (λ before so_far call. told_by tells before call) log call

Judgements-push : (f : Fields) (me : ℕ) (log : List Call) (call : Call) → Judgements f me (log ++ call ∷ []) ≡ Judgements f me log ++ judged_by f me log call
Judgements-push f me log call = along-push (λ before so_far call. judged_by f me before call) log call

total-alike : {a b c d e g h i a' b' c' d' e' g' h' i' : ℕ} → a ≡ a' → b ≡ b' → c ≡ c' → d ≡ d' → e ≡ e' → g ≡ g' → h ≡ h' → i ≡ i'
    → ◌≡◌ {A = Total} (record { accepted = a; sets = b; trips = c; refused = d; strange = e; repeats = g; slow = h; bad = i })
    (record { accepted = a'; sets = b'; trips = c'; refused = d'; strange = e'; repeats = g'; slow = h'; bad = i' })
total-alike accepted sets trips refused strange repeats slow bad = cc

-- what a call tells, counted
pub TotalOf-push : (f : Fields) (me : ℕ) (log : List Call) (call : Call) → TotalOf f me (log ++ call ∷ []) ≡ record {
  accepted = more (TotalOf f me log).accepted (length (told_by (accepted_by f me) log call));
  sets = more (TotalOf f me log).sets (length (judged_by f me log call));
  trips = more (TotalOf f me log).trips (count_by has_trip (judged_by f me log call));
  refused = more (TotalOf f me log).refused (length (told_by (λ peer before call. option_to_list (refused_by f peer before call)) log call));
  strange = more (TotalOf f me log).strange (count_by is_strange (told_by (news_by f me) log call));
  repeats = more (TotalOf f me log).repeats (count_by is_repeated (told_by (news_by f me) log call));
  slow = more (TotalOf f me log).slow (count_by took_too_long (told_by (taken_by f me) log call));
  bad = more (TotalOf f me log).bad (count_by is_bad (told_by (λ peer before call. added (Gots f peer) before (call ∷ [])) log call));
}
TotalOf-push f me log call =
    let refusals = λ (peer : ℕ) (before : List Call) (call : Call). option_to_list (refused_by f peer before call) in
    let frames = λ (peer : ℕ) (before : List Call) (call : Call). added (Gots f peer) before (call ∷ []) in
    total-alike (length-more (all_told (accepted_by f me) log) (told_by (accepted_by f me) log call) _ (all_told-push (accepted_by f me) log call))
    (length-more (Judgements f me log) (judged_by f me log call) _ (Judgements-push f me log call))
    (count-more has_trip (Judgements f me log) (judged_by f me log call) _ (Judgements-push f me log call))
    (length-more (all_told refusals log) (told_by refusals log call) _ (all_told-push refusals log call))
    (count-more is_strange (all_told (news_by f me) log) (told_by (news_by f me) log call) _ (all_told-push (news_by f me) log call))
    (count-more is_repeated (all_told (news_by f me) log) (told_by (news_by f me) log call) _ (all_told-push (news_by f me) log call))
    (count-more took_too_long (all_told (taken_by f me) log) (told_by (taken_by f me) log call) _ (all_told-push (taken_by f me) log call))
    (count-more is_bad (all_told frames log) (told_by frames log call) _ (all_told-push frames log call))

-- none more
more-none : (n : ℕ) → more (counted n) 0 ≡ counted n
more-none n = omega arith

-- a call that tells nothing of bits
pub TotalOf-silent : (f : Fields) (me : ℕ) (log : List Call) (call : Call) (judged : Option Judged)
    → ((A : Type 0) (tells : ℕ → List Call → Call → List A) → told_by tells log call ≡ []) → judged_by f me log call ≡ option_to_list judged
    → TotalOf f me (log ++ call ∷ []) ≡ with_judged (TotalOf f me log) judged
TotalOf-silent f me log call judged silent is =
    let t = TotalOf f me log in
    TotalOf-push f me log call
    ∙ total-alike (ap (λ xs. more t.accepted (length xs)) (silent _ (accepted_by f me)) ∙ more-none _)
    (ap (λ xs. more t.sets (length xs)) is)
    (ap (λ xs. more t.trips (count_by has_trip xs)) is)
    (ap (λ xs. more t.refused (length xs)) (silent _ (λ peer before call. option_to_list (refused_by f peer before call))) ∙ more-none _)
    (ap (λ xs. more t.strange (count_by is_strange xs)) (silent _ (news_by f me)) ∙ more-none _)
    (ap (λ xs. more t.repeats (count_by is_repeated xs)) (silent _ (news_by f me)) ∙ more-none _)
    (ap (λ xs. more t.slow (count_by took_too_long xs)) (silent _ (taken_by f me)) ∙ more-none _)
    (ap (λ xs. more t.bad (count_by is_bad xs)) (silent _ (λ peer before call. added (Gots f peer) before (call ∷ []))) ∙ more-none _)

-- and where no set was judged either
pub TotalOf-same : (f : Fields) (me : ℕ) (log : List Call) (call : Call)
    → ((A : Type 0) (tells : ℕ → List Call → Call → List A) → told_by tells log call ≡ []) → judged_by f me log call ≡ []
    → TotalOf f me (log ++ call ∷ []) ≡ TotalOf f me log
TotalOf-same f me log call silent none =
    TotalOf-silent f me log call None silent none ∙ total-alike refl (more-none _) (more-none _) refl refl refl refl refl

-- what bits tell, counted
pub TotalOf-heard : (f : Fields) (me peer at : ℕ) (bits : List ℕ) (log : List Call) (heard : Heard) → IsHeard f me peer log (made.Bits at peer bits) heard
    → length (accepted_by f me peer log (made.Bits at peer bits)) ≡ length (option_to_list (accepted_in heard.news))
    → TotalOf f me (log ++ made.Bits at peer bits ∷ []) ≡ with_judged (with_heard (TotalOf f me log) heard) heard.judged
TotalOf-heard f me peer at bits log heard is accepted =
    let t = TotalOf f me log in
    TotalOf-push f me log (made.Bits at peer bits)
    ∙ total-alike (ap (λ n. more t.accepted n) accepted)
    (ap (λ xs. more t.sets (length xs)) is.judged)
    (ap (λ xs. more t.trips (count_by has_trip xs)) is.judged)
    (ap (λ fault. more t.refused (length (option_to_list fault))) (sym is.refused))
    (ap (λ xs. more t.strange (count_by is_strange xs)) is.news)
    (ap (λ xs. more t.repeats (count_by is_repeated xs)) is.news)
    (ap (λ xs. more t.slow (count_by took_too_long xs)) is.taken)
    (ap (λ xs. more t.bad (count_by is_bad xs)) is.frame)

-- a total that is written, where the others stay
totals-set : (F G : ℕ → Total) (ts : List Total) (i : ℕ) (y : Total) → ((k : ℕ) (t : Total) → slice_get ts k ≡ Some t → t ≡ F k)
    → ((k : ℕ) → k ≢ i → G k ≡ F k) → ((t : Total) → slice_get ts i ≡ Some t → y ≡ G i) → (k : ℕ) (t : Total) → slice_get (set ts i y) k ≡ Some t → t ≡ G k
totals-set F G [] i y all others new k t is = absurd (cc)
totals-set F G (x ∷ ts) zero y all others new zero t is = let same : y ≡ t = cc in sym same ∙ new x refl
totals-set F G (x ∷ ts) zero y all others new (suc k) t is = all (suc k) t is ∙ sym (others (suc k) (λ e. omega (arith, e)))
totals-set F G (x ∷ ts) (suc i) y all others new zero t is = all zero t is ∙ sym (others zero (λ e. omega (arith, e)))
totals-set F G (x ∷ ts) (suc i) y all others new (suc k) t is =
    totals-set (λ n. F (suc n)) (λ n. G (suc n)) ts i y (λ n. all (suc n)) (λ n differ. others (suc n) (λ e. differ (omega (arith, e)))) new k t is

module _ (f : Fields) (journal : List Entry) (entry : Entry) (me : ℕ) (call : Call) (hands : Hands entry me call) where
  -- the total of another station stays
  total-elsewhere : (k : ℕ) → k ≢ me → TotalOf f k (StationLog k (journal ++ entry ∷ [])) ≡ TotalOf f k (StationLog k journal)
  total-elsewhere k differ = ap (TotalOf f k) (StationLog-elsewhere journal entry me k call hands differ)

  -- the totals of a journal, with that of the station written
  pub totals-told : (ts : List Total) (i : ℕ) (y d : Total) (step : Total → Total) → i + 1 ≡ me
      → ((k : ℕ) (t : Total) → slice_get ts k ≡ Some t → t ≡ TotalOf f (suc k) (StationLog (suc k) journal))
      → TotalOf f me (StationLog me journal ++ call ∷ []) ≡ step (TotalOf f me (StationLog me journal)) → y ≡ step (get_or ts i d)
      → (k : ℕ) (t : Total) → slice_get (set ts i y) k ≡ Some t → t ≡ TotalOf f (suc k) (StationLog (suc k) (journal ++ entry ∷ []))
  totals-told ts i y d step is all told written =
      let mine : suc i ≡ me = omega (arith, is) in
      totals-set (λ k. TotalOf f (suc k) (StationLog (suc k) journal)) (λ k. TotalOf f (suc k) (StationLog (suc k) (journal ++ entry ∷ []))) ts i y all
      (λ k differ. total-elsewhere (suc k) (λ e. differ (omega (arith, e, mine))))
      (λ t at.
      written
      ∙ ap step (get_or_from_slice_get ts i t d at ∙ all i t at ∙ ap (λ n. TotalOf f n (StationLog n journal)) mine)
      ∙ sym (ap (λ n. TotalOf f n (StationLog n (journal ++ entry ∷ []))) mine ∙ ap (TotalOf f me) (StationLog-here journal entry me call hands) ∙ told))

  -- and with none written
  pub totals-same : (ts : List Total) → ((k : ℕ) (t : Total) → slice_get ts k ≡ Some t → t ≡ TotalOf f (suc k) (StationLog (suc k) journal))
      → TotalOf f me (StationLog me journal ++ call ∷ []) ≡ TotalOf f me (StationLog me journal)
      → (k : ℕ) (t : Total) → slice_get ts k ≡ Some t → t ≡ TotalOf f (suc k) (StationLog (suc k) (journal ++ entry ∷ []))
  totals-same ts all told k t is = elim (cases_eq (suc k) me) [
    | inl mine ↦
        all k t is ∙ ap (λ n. TotalOf f n (StationLog n journal)) mine
        ∙ sym (ap (λ n. TotalOf f n (StationLog n (journal ++ entry ∷ []))) mine ∙ ap (TotalOf f me) (StationLog-here journal entry me call hands) ∙ told)
    | inr other ↦ all k t is ∙ sym (total-elsewhere (suc k) other)
  ]

-- totals of three stations that are the same
pub three-same : (d : Total) (k : ℕ) (t : Total) → slice_get (d ∷ d ∷ d ∷ []) k ≡ Some t → t ≡ d
three-same d zero t at = cc
three-same d (suc zero) t at = cc
three-same d (suc (suc zero)) t at = cc
three-same d (suc (suc (suc k))) t at = absurd (cc)

-- before the first call
pub TotalOf-none : (f : Fields) (me : ℕ) → TotalOf f me [] ≡ no_total
unfolding along_from
TotalOf-none f me = refl
