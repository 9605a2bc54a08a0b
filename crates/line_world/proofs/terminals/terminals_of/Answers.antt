use Rattle.std.proofs.Common.{◌≡◌, ℕ, ◌+◌, List, [], ◌∷◌, ◌++◌, take, ap, subst, sym, ◌∙◌}
use Rattle.std.proofs.lemmas.List.{take_all, take_more}
use Rattle.line_journal.specs.Stations.{stations}
use Rattle.line_world.proofs.Stationing.{AreFresh, fresh-none, fresh-push, stationed-fresh}
use Rattle.line_world.proofs.terminals.terminals_of.Goals as goal

pub loop-station-init : goal.loop-station-init
loop-station-init c = rw c.in_ok-terminals.ensures.items (fresh-none c.args.s.now)

pub loop-station-preserved : goal.loop-station-preserved
loop-station-preserved c =
    let all = c.deref-station-items.result.now in
    let i = c.loop-station.station-index in
    let more : take (i + 1) all ≡ take i all ++ c.station-item.result ∷ [] =
    take_more all i c.station-item.result c.loop-station-test.true ∙ ap (λ (station : ℕ). take i all ++ station ∷ []) (sym c.station-item.is) in
    rw (c.in_ok-push.ensures.items, more)
    (fresh-push c.args.s.now (take i all) c.loop-station.terminals.items c.station-item.result c.in_ok-new.field-0 c.loop-station.invariant
    c.in_ok-new.ensures.settings c.in_ok-new.ensures.stands)

pub returns : goal.returns
returns c =
    let all : take c.loop-station.station-index c.deref-station-items.result.now ≡ stations c.args.s.now =
    take_all c.loop-station.station-index c.deref-station-items.result.now c.loop-station-test.false ∙ c.deref-station-items.ensures.0 ∙ c.stations_of-stations.ensures in
    stationed-fresh c.args.s.now c.loop-station.terminals.items c.requires
    (subst (λ (these : List ℕ). AreFresh c.args.s.now these c.loop-station.terminals.items) all c.loop-station.invariant)
