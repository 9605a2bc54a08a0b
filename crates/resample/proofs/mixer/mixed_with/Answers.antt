use Rattle.std.specs.Prelude.{Some, None, option_map, Option}
use Rattle.std.specs.Option.{option_copied}
use Rattle.std.proofs.Common.{◌≡◌, ℕ, refl, ap, sym, ◌∙◌}
use Rattle.offset_track.specs.Track.{Chosen}
use Rattle.pingpong.specs.Exchange.{Stamps}
use Rattle.resample.proofs.mixer.mixed_with.Goals as goal

-- what was chosen at a stamp
abbrev at_stamp : ℕ → Stamps → Chosen
at_stamp at e = record { exchange = e; at = at }

none-chosen : (at : ℕ) (chosen : Option Stamps) → None ≡ option_map (at_stamp at) chosen → chosen ≡ None
none-chosen at None is = refl
none-chosen at (Some e) is = absurd (cc)

some-chosen : (at : ℕ) (fresh : Chosen) (chosen : Option Stamps) → Some fresh ≡ option_map (at_stamp at) chosen
    → chosen ≡ Some fresh.exchange
some-chosen at fresh None is = absurd (cc)
some-chosen at fresh (Some e) is =
    let same : fresh ≡ at_stamp at e = cc in
    ap (λ f. Some f.exchange) (sym same)

pub returns-in_err-fresh : goal.returns-in_err-fresh
returns-in_err-fresh c offered stands =
    let last : c.args.last.now ≡ Some c.in_ok-earlier.earlier.now = sym c.as_ref.ensures.value ∙ ap option_copied c.in_ok-earlier.was in
    let none = rw (c.requires.track.0, c.requires.track.1) at (none-chosen c.args.now _ (c.in_err-fresh.ensures.in_force offered stands)) in
    rw (last, ← c.if-not-follows.ensures, none) c.from_residual-in_err-fresh.ensures

pub returns : goal.returns
returns c offered stands =
    let last : c.args.last.now ≡ Some c.in_ok-earlier.earlier.now = sym c.as_ref.ensures.value ∙ ap option_copied c.in_ok-earlier.was in
    let some = rw (c.requires.track.0, c.requires.track.1) at (some-chosen c.args.now c.in_ok-fresh.fresh _ (c.in_ok-fresh.ensures.in_force offered stands)) in
    rw (last, ← c.if-not-follows.ensures, some, ← c.fields.ensures.same) c.mixed_by.ensures
