use Rattle.std.proofs.Common.{◌≡◌, ◌+◌, ◌-◌, ◌++◌, ◌∙◌, [], ◌∷◌, ap, arith, drop, subst, sym, take}
use Rattle.c3794_frame.specs.FrameOf.{frame_bits}
use Rattle.payload_map.specs.Outlet.{StandsFor}
use Rattle.payload_map.specs.Sent.{sent}
use Rattle.payload_map.proofs.Slots.{frame-made, left-later, next-bytes, sent-more, stands-more}
use Rattle.payload_map.proofs.outlet.Outlet.slot_into.Goals as goal

pub returns-clause-sent : goal.returns-clause-sent
returns-clause-sent c n words slots loaded stands =
    let o = c.self.inside in
    let h = subst (λ sender. StandsFor sender n words slots loaded) (sym c.self.view_is) stands in
    let count : o.sent + c.from-channels.result - o.sent ≡ o.channels = omega (arith, c.from-channels.ensures) in
    let next = ap (λ k. take k (drop o.sent o.message)) count ∙ next-bytes o.channels o.sent o.message c.self.invariant.1 c.self.invariant.2 c.self.told c.self.invariant.4 in
    let made = frame-made o.channels (drop o.sent (take 36 o.message)) _ o.odd c.args.yellow c.self.invariant.1 next in
    sent-more n words slots loaded _ c.args.yellow h ∙ ap (λ bits. sent words n slots ++ bits ∷ []) (sym (c.encode_into.ensures.bits ∙ ap (frame_bits o.words) made))

pub returns-clause-stands : goal.returns-clause-stands
returns-clause-stands c n words slots loaded stands =
    let o = c.self.inside in
    let h = subst (λ sender. StandsFor sender n words slots loaded) (sym c.self.view_is) stands in
    stands-more n words slots loaded _ c.args.yellow _ h
    (ap (λ k. drop k (take 36 o.message)) (rw c.from-channels.ensures at c.min-self-inside.ensures) ∙ left-later o.sent o.channels o.message (omega (arith, c.self.told)))
