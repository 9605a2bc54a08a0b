use Rattle.std.proofs.Common.{◌≡◌, ◌≤◌, true, length, Result, Ok, Err, OnOk, is_ok, refl, arith, ap, sym}
use Rattle.payload_map.specs.Messages.{relay_slots}
use Rattle.relay_core.specs.Line.{rules_of}
use Rattle.relay_core.proofs.Begins.{Begins-loaded, can_begin-left}
use Rattle.relay_core.proofs.talker.Talker.begin.Goals as goal

-- what holds of each value holds of the one that is there
at_ok : {T E : Type 0} {P : Type 0} (r : Result T E) → is_ok r ≡ true → OnOk r P → P
at_ok (Ok x) is h = h
at_ok (Err y) is h = absurd (cc)

pub returns : goal.returns
returns c = λ f slots talks can.
    let m = c.args.message.now in
    let number : m.number ≡ c.message.inside.number = ap (λ m. m.number) (sym c.message.view_is) in
    let idle : length c.args.self.now.outlet.left ≤ 0 = can_begin-left f c.args.self.now slots m.number talks can in
    let is : is_ok c.load.result ≡ true = grind arith in
    let loaded = at_ok c.load.result is c.load.ensures.stands f.channels (rules_of f).words (relay_slots slots) _ talks.outlet in
    Begins-loaded f c.args.self.now _ slots m talks can c.encode.ensures.fits (rw (← c.encode.ensures.bytes) loaded) (rw (c.from.ensures, number) refl)
