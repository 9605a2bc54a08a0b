-- What two terminals answer alike.
use Rattle.std.proofs.Common.{◌≡◌, ℕ, [], ◌∷◌, ◌++◌, Option, None, Some, refl, ap, sym, ◌∙◌}
use Rattle.std.specs.Option.{option_to_list}
use Rattle.ld_base.specs.declared.fields.Fields.{Fields}
use Rattle.relay_core.specs.Alike.{AreAlike}
use Rattle.relay_core.specs.Answers.{news_in}
use Rattle.relay_core.specs.declared.call.Call.{Call}
use Rattle.relay_core.specs.StandsFor.{Kept, StandsFor}
use Rattle.relay_core.specs.declared.answers.News.{News}
use Rattle.relay_core.specs.declared.answers.News.TheVariants as news
use Rattle.relay_core.proofs.Hearing.{nothing, something}

-- options are the same whose lists are
pub option-listed : {A : Type 0} (one other : Option A) → option_to_list one ≡ option_to_list other → one ≡ other
option-listed None None same = refl
option-listed None (Some y) same = absurd (cc)
option-listed (Some x) None same = absurd (cc)
option-listed (Some x) (Some y) same = cc

-- and news whose lists are
pub news-listed : (one other : News) → news_in one ≡ news_in other → one ≡ other
news-listed news.Nothing other same = sym (nothing other same)
news-listed (news.Accepted m) other same = something (news.Accepted m) other same
news-listed (news.Repeat number last) other same = something (news.Repeat number last) other same
news-listed (news.Stranger address) other same = something (news.Stranger address) other same

-- what goes by settings, station and log is the same for both
pub by-one : {A : Type 0} (one other : Kept) (answer : Fields → ℕ → A) → AreAlike one other → answer one.settings one.me ≡ answer other.settings other.me
by-one one other answer alike = ap (λ f. answer f one.me) alike.settings ∙ ap (answer other.settings) alike.station

-- with a call more they are alike again
pub AreAlike-more : (one other new_one new_other : Kept) (call : Call) → (alike : AreAlike one other)
    → (new_one.settings ≡ one.settings) × (new_one.me ≡ one.me) → (new_other.settings ≡ other.settings) × (new_other.me ≡ other.me)
    → StandsFor new_one (alike.log ++ call ∷ []) → StandsFor new_other (alike.log ++ call ∷ []) → AreAlike new_one new_other
AreAlike-more one other new_one new_other call alike kept kept_other stands other_stands = record {
  settings = kept.0 ∙ alike.settings ∙ sym kept_other.0;
  station = kept.1 ∙ alike.station ∙ sym kept_other.1;
  log = alike.log ++ call ∷ [];
  one_stands = stands;
  other_stands = other_stands;
}
