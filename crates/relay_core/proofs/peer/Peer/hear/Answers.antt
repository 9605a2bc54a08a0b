use Rattle.std.proofs.Common.{◌≡◌, ◌++◌, ◌∷◌, [], ℕ, List, Option, None, Some, append-nil, ap, false, map, refl, subst, sym}
use Rattle.std.specs.Option.{is_some, option_to_list}
use Rattle.ld_base.specs.declared.fields.Fields.{Fields}
use Rattle.offset_track.specs.Track as track
use Rattle.relay_core.specs.Accepted.{Exchanges}
use Rattle.relay_core.specs.Answers.{news_of}
use Rattle.relay_core.specs.Follows.{Follows}
use Rattle.relay_core.specs.Log.{now}
use Rattle.relay_core.specs.declared.call.Call.{Call}
use Rattle.relay_core.specs.declared.call.Call.TheVariants as made
use Rattle.relay_core.specs.declared.answers.News.TheVariants as news
use Rattle.relay_core.proofs.Following.{AreHeard, Brings-hears, Follows-hears}
use Rattle.relay_core.proofs.peer.Peer.hear.Goals as goal

-- where there is no message there is no news
none_of : {A : Type 0} (option : Option A) → is_some option ≡ false → option ≡ None
none_of None e = refl
none_of (Some x) e = absurd (cc)

nothing : (c : goal.After-self-then-is_none-1) (f : Fields) (calls : List Call) (at : ℕ) → Follows f c.args.me calls c.args.self.now
    → c.args.now ≡ now (calls ++ made.Bits at c.args.self.now.station c.args.chunk.now ∷ [])
    → AreHeard f c.args.me at c.args.now calls c.args.self.now c.args.chunk.now c.hear-told.result news.Nothing
nothing c f calls at follows time =
    let p = c.args.self.now in
    let none = none_of c.hear-told.result.message (c.if-is_none.ensures) in
    record {
      is_time = time;
      follows = follows;
      tells = c.hear-told.ensures.tells f _ follows.listens;
      says = ap (λ message. map (news_of c.args.me p.station p.last) (option_to_list message)) none;
    }

pub returns-then-is_none-clause-follows : goal.returns-then-is_none-clause-follows
returns-then-is_none-clause-follows c = λ f calls at follows time.
    let p = c.args.self.now in
    Follows-hears f c.args.me at c.args.now calls p c.args.chunk.now c.hear-told.result news.Nothing c.hear-told.new.self p.track p.last _
    (nothing c f calls at follows time) (c.hear-told.ensures.stands f _ follows.listens) (refl, refl)
    (subst (track.StandsFor p.track) (sym (append-nil (Exchanges f c.args.me p.station calls))) follows.track) refl

pub returns-then-is_none-clause-brings : goal.returns-then-is_none-clause-brings
returns-then-is_none-clause-brings c = λ f calls at follows time.
    rw (c.requires.nothing.0, c.requires.nothing.1)
    (Brings-hears f c.args.me at c.args.now calls c.args.self.now c.args.chunk.now c.hear-told.result news.Nothing
    (record { frame = c.hear-told.result.frame; news = news.Nothing; refused = c.hear-told.result.refused; taken = None; fresh = None })
    (nothing c f calls at follows time) refl refl refl refl refl)

pub returns-clause-follows : goal.returns-clause-follows
returns-clause-follows c = λ f calls at follows time.
    let p = c.args.self.now in
    let heard : AreHeard f c.args.me at c.args.now calls p c.args.chunk.now c.hear-told.result c.news_of-news.result =
    record { is_time = time; follows = follows; tells = c.hear-told.ensures.tells f _ follows.listens; says = c.news_of-news.ensures } in
    Follows-hears f c.args.me at c.args.now calls p c.args.chunk.now c.hear-told.result c.news_of-news.result c.hear-told.new.self c.exchanged-taken.new.kept
    c.keep.new.last _ heard (c.hear-told.ensures.stands f _ follows.listens) c.exchanged-taken.ensures.settings
    (c.exchanged-taken.ensures.stands (Exchanges f c.args.me p.station calls) follows.track) c.keep.ensures

pub returns-clause-brings : goal.returns-clause-brings
returns-clause-brings c = λ f calls at follows time.
    let p = c.args.self.now in
    let heard : AreHeard f c.args.me at c.args.now calls p c.args.chunk.now c.hear-told.result c.news_of-news.result =
    record { is_time = time; follows = follows; tells = c.hear-told.ensures.tells f _ follows.listens; says = c.news_of-news.ensures } in
    Brings-hears f c.args.me at c.args.now calls p c.args.chunk.now c.hear-told.result c.news_of-news.result _ heard refl refl refl
    c.exchanged-taken.ensures.taken (c.exchanged-taken.ensures.fresh (Exchanges f c.args.me p.station calls) follows.track)
