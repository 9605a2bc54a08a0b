-- What bits from a peer bring, and how what is kept of the peer follows the log with them.
use Rattle.std.proofs.Common.{◌≡◌, ℕ, Bool, true, false, cond, ◌&&◌, List, [], ◌∷◌, ◌++◌, Option, None, Some, map, refl, ap, ◌∙◌, append-nil, arith}
use Rattle.std.specs.Prelude.{nat_le, filter_map}
use Rattle.std.specs.List.{cons_option}
use Rattle.std.specs.Option.{option_to_list}
use Rattle.ld_base.specs.Message.{Contents}
use Rattle.ld_base.specs.declared.fields.Fields.{Fields}
use Rattle.pingpong.specs.Exchange.{Stamps, exchange_of}
use Rattle.relay_message.specs.MessageOf.{address_of}
use Rattle.relay_message.specs.Messages.{added}
use Rattle.relay_core.specs.Accepted.{Accepted, accepted_of, is_addressed, last_of, next_number}
use Rattle.relay_core.specs.Answers.{last_number, news_in, news_of, number_after}
use Rattle.relay_core.specs.Follows.{exchanges_in, last_after, receipts_in}
use Rattle.relay_core.specs.Line.{Messages}
use Rattle.relay_core.specs.Log.{now}
use Rattle.relay_core.specs.declared.call.Call.{Call}
use Rattle.relay_core.specs.declared.answers.News.{News}
use Rattle.relay_core.specs.declared.answers.News.TheVariants as news
use Rattle.relay_core.specs.declared.receipt.Receipt.{Receipt}
use Rattle.relay_core.proofs.Accepting.{Accepted-push, accepted_if, last_of-push, rising}

-- news of nothing is nothing, and news of something is that
pub nothing : (n : News) → [] ≡ news_in n → n ≡ news.Nothing
nothing news.Nothing is = refl
nothing (news.Accepted m) is = absurd (grind arith)
nothing (news.Repeat number last) is = absurd (grind arith)
nothing (news.Stranger address) is = absurd (grind arith)

pub something : (x n : News) → x ∷ [] ≡ news_in n → x ≡ n
something x news.Nothing is = absurd (grind arith)
something x (news.Accepted m) is = grind arith
something x (news.Repeat number last) is = grind arith
something x (news.Stranger address) is = grind arith

-- what becomes of the receipt of a message is what its news tells
receipts_if : (me peer : ℕ) (accepted : List Receipt) (at : ℕ) (m : Contents) → next_number accepted ≡ number_after (last_of accepted)
    → accepted_of me peer accepted (record { message = m; at = at }) ≡ receipts_in at (news_of me peer (last_of accepted) m)
receipts_if me peer accepted at m rises = rw rises (go (is_addressed peer me m) (nat_le (number_after (last_of accepted)) m.number))
  where
    go : (addressed above : Bool)
        → cond (addressed && above) (record { message = m; at = at } ∷ []) []
        ≡ receipts_in at (cond addressed (cond above (news.Accepted m) (news.Repeat m.number (last_number (last_of accepted)))) (news.Stranger (address_of m)))
    go true true = refl
    go true false = refl
    go false above = refl

told : (me peer : ℕ) (accepted : List Receipt) (at : ℕ) (m : Option Contents) (n : News) → next_number accepted ≡ number_after (last_of accepted)
    → map (news_of me peer (last_of accepted)) (option_to_list m) ≡ news_in n → accepted_if me peer accepted at m ≡ receipts_in at n
told me peer accepted at None n rises is = rw (nothing n is) refl
told me peer accepted at (Some m) n rises is = receipts_if me peer accepted at m rises ∙ ap (receipts_in at) (something (news_of me peer (last_of accepted) m) n is)

-- so the news tells what is accepted with a call
pub Accepted-news : (f : Fields) (me peer : ℕ) (log : List Call) (call : Call) (m : Option Contents) (n : News)
    → added (Messages f peer) log (call ∷ []) ≡ option_to_list m
    → map (news_of me peer (last_of (Accepted f me peer log))) (option_to_list m) ≡ news_in n
    → Accepted f me peer (log ++ call ∷ []) ≡ Accepted f me peer log ++ receipts_in (now (log ++ call ∷ [])) n
Accepted-news f me peer log call m n is says =
    Accepted-push f me peer log call m is
    ∙ ap (λ rs. Accepted f me peer log ++ rs) (told me peer (Accepted f me peer log) (now (log ++ call ∷ [])) m n (rising me peer _) says)

pub exchanges-receipts : (at : ℕ) (n : News) → filter_map (λ r. exchange_of r.message r.at) (receipts_in at n) ≡ exchanges_in at n
exchanges-receipts at news.Nothing = refl
exchanges-receipts at (news.Repeat number last) = refl
exchanges-receipts at (news.Stranger address) = refl
exchanges-receipts at (news.Accepted m) = go (exchange_of m at)
  where
    go : (e : Option Stamps) → cons_option e [] ≡ option_to_list e
    go None = refl
    go (Some e) = refl

pub last_of-receipts : (accepted : List Receipt) (at : ℕ) (n : News) → last_of (accepted ++ receipts_in at n) ≡ last_after (last_of accepted) at n
last_of-receipts accepted at news.Nothing = ap last_of (append-nil accepted)
last_of-receipts accepted at (news.Repeat number last) = ap last_of (append-nil accepted)
last_of-receipts accepted at (news.Stranger address) = ap last_of (append-nil accepted)
last_of-receipts accepted at (news.Accepted m) = last_of-push accepted (record { message = m; at = at })
