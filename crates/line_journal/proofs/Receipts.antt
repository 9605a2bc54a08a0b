-- What bits from a peer bring, by what the terminal answered to them.
use Rattle.std.specs.Prelude.{not, option_map}
use Rattle.std.specs.List.{flat_map, list_any}
use Rattle.std.specs.Option.{option_and_then, option_to_list}
use Rattle.std.proofs.Common.{◌≡◌, ◌≢◌, ℕ, cond, List, [], ◌∷◌, ◌++◌, map, length, Option, None, Some, inl, inr, refl, ap, sym, ◌∙◌, append-nil}
use Rattle.std.proofs.lemmas.Bool.{cases_eq, ne_eqb}
use Rattle.ld_base.specs.Message.{Contents}
use Rattle.ld_base.specs.declared.fields.Fields.{Fields}
use Rattle.offset_track.specs.InForce as in_force
use Rattle.offset_track.specs.declared.track.Taken.{Taken}
use Rattle.offset_track.specs.declared.track.Taken.TheVariants as taken
use Rattle.pingpong.specs.Exchange.{exchange_of}
use Rattle.pingpong.specs.declared.journal.Entry.{Entry}
use Rattle.pingpong.specs.declared.journal.What.TheVariants.{Came}
use Rattle.relay_message.specs.Messages.{added}
use Rattle.relay_core.specs.Accepted.{Accepted, Exchanges, InForceWith, last_of}
use Rattle.relay_core.specs.Answers.{news_in, news_of, taken_by, taken_of}
use Rattle.relay_core.specs.Decided.{accepted_by}
use Rattle.relay_core.specs.Follows.{exchanges_in, receipts_in}
use Rattle.relay_core.specs.Line.{Messages}
use Rattle.relay_core.specs.Log.{now}
use Rattle.relay_core.specs.declared.call.Call.{Call}
use Rattle.relay_core.specs.declared.call.Call.TheVariants as made
use Rattle.relay_core.specs.declared.answers.Heard.{Heard}
use Rattle.relay_core.specs.declared.answers.News.{News}
use Rattle.relay_core.specs.declared.answers.News.TheVariants as news
use Rattle.relay_core.specs.declared.receipt.Receipt.{Receipt}
use Rattle.relay_core.proofs.Accepting.{Exchanges-push}
use Rattle.relay_core.proofs.Calls.{added-is}
use Rattle.relay_core.proofs.Hearing.{Accepted-news, exchanges-receipts}
use Rattle.relay_core.specs.IsAnswer.{IsHeard}
use Rattle.line_journal.specs.Account.{IsHistory}
use Rattle.line_journal.specs.Inside.{way_of}
use Rattle.line_journal.specs.Crossings.{Crossings, accepted_with, arrivals_with}
use Rattle.line_journal.specs.LineHistory.{LineHistory}
use Rattle.line_journal.specs.Stations.{Way}
use Rattle.line_journal.specs.Report.{crossing_in_force, est_line, estimates}
use Rattle.relay_core.specs.StationLog.{StationLog}
use Rattle.line_journal.specs.Told.{accepted_in, arrival_on, crossing_told, with_accepted}
use Rattle.line_journal.specs.Totals.{took_too_long}
use Rattle.line_journal.proofs.Accounts.{begun-none}
use Rattle.line_journal.proofs.Entries.{Hands, StationLog-here, told-here}
use Rattle.line_journal.proofs.InForces.{crossing-found}
use Rattle.line_journal.proofs.LineLists.{IsHistory-accepted, IsHistory-quiet, accepted-elsewhere, accepted-here, accepted-silent, arrivals-are}

-- news tells of one message at the most
single : (ms : List Contents) (g : Contents → News) (n : News) → map g ms ≡ news_in n → (m : Option Contents) × (ms ≡ option_to_list m)
single [] g n is = (None, refl)
single (m ∷ []) g n is = (Some m, refl)
single (m ∷ other ∷ ms) g news.Nothing is = absurd (cc)
single (m ∷ other ∷ ms) g (news.Accepted x) is = absurd (cc)
single (m ∷ other ∷ ms) g (news.Repeat number last) is = absurd (cc)
single (m ∷ other ∷ ms) g (news.Stranger address) is = absurd (cc)

receipts-in : (at : ℕ) (n : News) → receipts_in at n ≡ option_to_list (option_map (λ x. record { message = x; at = at }) (accepted_in n))
receipts-in at news.Nothing = refl
receipts-in at (news.Accepted x) = refl
receipts-in at (news.Repeat number last) = refl
receipts-in at (news.Stranger address) = refl

exchanges-in : (at : ℕ) (n : News) → exchanges_in at n ≡ option_to_list (option_and_then (λ x. exchange_of x at) (accepted_in n))
exchanges-in at news.Nothing = refl
exchanges-in at (news.Accepted x) = refl
exchanges-in at (news.Repeat number last) = refl
exchanges-in at (news.Stranger address) = refl

-- lists of none or one
same-option : {A B : Type 0} (g : A → B) (a : Option A) (b : Option B) → map g (option_to_list a) ≡ option_to_list b → b ≡ option_map g a
same-option g None None is = refl
same-option g None (Some b) is = absurd (cc)
same-option g (Some a) None is = absurd (cc)
same-option g (Some a) (Some b) is = cc

module _ (f : Fields) (me peer : ℕ) (log : List Call) (call : Call) (heard : Heard) (is : IsHeard f me peer log call heard) where
  grown : Accepted f me peer (log ++ call ∷ []) ≡ Accepted f me peer log ++ receipts_in (now (log ++ call ∷ [])) heard.news
  grown =
      let one = single (added (Messages f peer) log (call ∷ [])) (news_of me peer (last_of (Accepted f me peer log))) heard.news is.news in
      Accepted-news f me peer log call one.0 heard.news one.1 (ap (map (news_of me peer (last_of (Accepted f me peer log)))) (sym one.1) ∙ is.news)

  -- the receipt of the message accepted, or none
  pub receipts : accepted_by f me peer log call ≡ option_to_list (option_map (λ x. record { message = x; at = now (log ++ call ∷ []) }) (accepted_in heard.news))
  receipts = added-is (Accepted f me peer) log (call ∷ []) (receipts_in (now (log ++ call ∷ [])) heard.news) grown ∙ receipts-in (now (log ++ call ∷ [])) heard.news

  pub receipts-length : length (accepted_by f me peer log call) ≡ length (option_to_list (accepted_in heard.news))
  receipts-length = ap length receipts ∙ go (accepted_in heard.news)
    where
      go : (m : Option Contents) → length {A = Receipt} (option_to_list (option_map (λ x. record { message = x; at = now (log ++ call ∷ []) }) m)) ≡ length (option_to_list m)
      go None = refl
      go (Some m) = refl

  -- what became of its exchange
  pub taken-is : heard.taken ≡ option_and_then (λ x. option_map (taken_of f.slow) (exchange_of x (now (log ++ call ∷ [])))) (accepted_in heard.news)
  taken-is =
      let at = now (log ++ call ∷ []) in
      let exchanges =
      added-is (Exchanges f me peer) log (call ∷ []) _ (Exchanges-push f me peer log call (receipts_in at heard.news) grown)
      ∙ exchanges-receipts at heard.news ∙ exchanges-in at heard.news in
      same-option (taken_of f.slow) (option_and_then (λ x. exchange_of x at) (accepted_in heard.news)) heard.taken
      (ap (map (taken_of f.slow)) (sym exchanges) ∙ is.taken)
      ∙ go (accepted_in heard.news)
    where
      go : (m : Option Contents) → option_map (taken_of f.slow) (option_and_then (λ x. exchange_of x (now (log ++ call ∷ []))) m)
          ≡ option_and_then (λ x. option_map (taken_of f.slow) (exchange_of x (now (log ++ call ∷ [])))) m
      go None = refl
      go (Some m) = refl

  -- the exchange in force, where one was kept
  pub chosen-is : heard.taken ≡ Some taken.Kept → heard.chosen ≡ InForceWith f me peer (log ++ call ∷ [])
  chosen-is kept = go (accepted_in heard.news) refl (sym taken-is ∙ kept) (ap (flat_map (λ r. option_to_list (InForceWith f me peer (log ++ call ∷ [])))) (sym receipts) ∙ is.chosen)
    where
      id : {A : Type 0} (xs : List A) → map (λ x. x) xs ≡ xs
      id [] = refl
      id (x ∷ xs) = ap (λ ys. x ∷ ys) (id xs)

      whole : {A : Type 0} (o : Option A) → option_map (λ x. x) o ≡ o
      whole None = refl
      whole (Some x) = refl

      go : (m : Option Contents) → accepted_in heard.news ≡ m
          → option_and_then (λ x. option_map (taken_of f.slow) (exchange_of x (now (log ++ call ∷ [])))) (accepted_in heard.news) ≡ Some taken.Kept
          → flat_map {X = Receipt} (λ r. option_to_list (InForceWith f me peer (log ++ call ∷ [])))
          (option_to_list (option_map (λ x. record { message = x; at = now (log ++ call ∷ []) }) (accepted_in heard.news))) ≡ option_to_list heard.chosen
          → heard.chosen ≡ InForceWith f me peer (log ++ call ∷ [])
      go None none taken chosen = absurd (let nothing = rw none at taken in cc)
      go (Some m) some taken chosen =
          let one = rw some at chosen in
          same-option (λ x. x) (InForceWith f me peer (log ++ call ∷ [])) heard.chosen
          (id (option_to_list (InForceWith f me peer (log ++ call ∷ []))) ∙ sym (append-nil (option_to_list (InForceWith f me peer (log ++ call ∷ [])))) ∙ one)
          ∙ whole (InForceWith f me peer (log ++ call ∷ []))

pub same-way : (from other to target : ℕ) → from ≡ other → to ≡ target → ◌≡◌ {A = Way} (record { from = from; to = to }) (record { from = other; to = target })
same-way from other to target one two = cc

module _ (f : Fields) (journal : List Entry) (entry : Entry) (me peer at : ℕ) (bits : List ℕ) (heard : Heard)
    (hands : Hands entry me (made.Bits at peer bits)) (is : IsHeard f me peer (StationLog me journal) (made.Bits at peer bits) heard) where
  abbrev time : ℕ
  time = now (StationLog me journal ++ made.Bits at peer bits ∷ [])

  accepted-are : (l : LineHistory) → l.from ≡ peer → l.to ≡ me
      → accepted_with f l.to l.from journal entry ≡ option_to_list (option_map (λ x. record { message = x; at = time }) (accepted_in heard.news))
  accepted-are l from to =
      ap (λ t. accepted_with f t l.from journal entry) to ∙ ap (λ p. accepted_with f me p journal entry) from
      ∙ accepted-here f me peer journal entry (made.Bits at peer bits) hands ∙ receipts f me peer (StationLog me journal) (made.Bits at peer bits) heard is

  -- the history of the line
  pub history-heard : (l : LineHistory) → IsHistory f journal l → l.from ≡ peer → l.to ≡ me
      → IsHistory f (journal ++ entry ∷ []) (with_accepted entry.time time heard.taken (accepted_in heard.news) l)
  history-heard l of_line from to =
      IsHistory-accepted f journal entry l of_line time heard.taken (accepted_in heard.news)
      (begun-none f journal entry me (made.Bits at peer bits) hands (λ p. refl) l.from l.to) (accepted-are l from to)
      (taken-is f me peer (StationLog me journal) (made.Bits at peer bits) heard is)

  -- and of another line
  pub history-other : (l : LineHistory) → IsHistory f journal l → (way_of l ≡ record { from = peer; to = me } → ⊥) → IsHistory f (journal ++ entry ∷ []) l
  history-other l of_line other =
      IsHistory-quiet f journal entry l of_line (begun-none f journal entry me (made.Bits at peer bits) hands (λ p. refl) l.from l.to) (elim (cases_eq l.to me) [
        | inl here ↦
            let away : peer ≢ l.from = λ same. other (same-way l.from peer l.to me (sym same) here) in
            ap (λ t. accepted_with f t l.from journal entry) here
            ∙ accepted-here f me l.from journal entry (made.Bits at peer bits) hands
            ∙ accepted-silent f me l.from (StationLog me journal) (made.Bits at peer bits) (ap (λ b. cond b bits []) (ne_eqb peer l.from away))
        | inr there ↦ accepted-elsewhere f l.to l.from journal entry (hands.elsewhere l.to there)
      ])

  -- what arrives
  pub arrivals-heard : (l : LineHistory) → IsHistory f journal l → l.from ≡ peer → l.to ≡ me
      → arrivals_with f me peer journal entry ≡ option_to_list (option_map (arrival_on entry.time l) (accepted_in heard.news))
  arrivals-heard l of_line from to =
      ap (λ p. arrivals_with f me p journal entry) (sym from) ∙ ap (λ t. arrivals_with f t l.from journal entry) (sym to)
      ∙ arrivals-are f journal entry l of_line time (accepted_in heard.news) (accepted-are l from to)

  crossing-told : (l : LineHistory) → IsHistory f (journal ++ entry ∷ []) l → l.from ≡ peer → l.to ≡ me → heard.taken ≡ Some taken.Kept
      → crossing_in_force f me peer (journal ++ entry ∷ []) ≡ crossing_told l (Some taken.Kept) heard.chosen
  crossing-told l of_line from to kept =
      crossing-found f me peer (journal ++ entry ∷ []) l.newest_first heard.chosen
      (of_line.crossings
      ∙ ap (λ t. in_force.kept (λ c. c.exchange) f.slow (Crossings f t l.from (journal ++ entry ∷ []))) to
      ∙ ap (λ p. in_force.kept (λ c. c.exchange) f.slow (Crossings f me p (journal ++ entry ∷ []))) from)
      (chosen-is f me peer (StationLog me journal) (made.Bits at peer bits) heard is kept
      ∙ ap (InForceWith f me peer) (sym (StationLog-here journal entry me (made.Bits at peer bits) hands)))

  -- the estimate
  pub estimates-heard : (l : LineHistory) → IsHistory f (journal ++ entry ∷ []) l → l.from ≡ peer → l.to ≡ me
      → estimates f journal entry (Came me peer bits) ≡ map (est_line f me peer entry) (option_to_list (crossing_told l heard.taken heard.chosen))
  estimates-heard l of_line from to =
      ap (λ b. cond b (map (est_line f me peer entry) (option_to_list (crossing_in_force f me peer (journal ++ entry ∷ [])))) [])
      (ap (list_any (λ t. not (took_too_long t))) (told-here (taken_by f me peer (StationLog me journal)) entry me (made.Bits at peer bits) hands ∙ is.taken))
      ∙ go heard.taken refl
    where
      go : (t : Option Taken) → heard.taken ≡ t
          → cond (list_any (λ t. not (took_too_long t)) (option_to_list heard.taken)) (map (est_line f me peer entry) (option_to_list (crossing_in_force f me peer (journal ++ entry ∷ [])))) []
          ≡ map (est_line f me peer entry) (option_to_list (crossing_told l heard.taken heard.chosen))
      go None kind = rw kind refl
      go (Some taken.Slow) kind = rw kind refl
      go (Some taken.Kept) kind =
          let same = crossing-told l of_line from to kind in
          rw kind (ap (λ c. map (est_line f me peer entry) (option_to_list c)) same)
