use Rattle.std.proofs.Common.{◌≡◌, ◌<◌, ◌++◌, ◌∙◌, ap, arith, length, rules, sym}
use Rattle.std.proofs.lemmas.List.{length-append}
use Rattle.relay_core.specs.Turned.{told, turned}
use Rattle.relay_core.proofs.Alarming.{told-few}
use Rattle.relay_core.proofs.InPlace.{IsWritten-more, flat_map-more}
use Rattle.relay_core.proofs.terminal.turn_all.Goals as goal

pub loop-peer-preserved : goal.loop-peer-preserved
loop-peer-preserved c =
    let i = c.loop-peer.peer-index in
    let old = c.args.peers.now in
    let new = c.loop-peer.peers in
    let x = c.peer-item.result in
    let tells = told c.args.since c.args.now in
    let long : length new ≡ length old = search rules in
    let within : i < length new = omega (arith, c.loop-peer-test.true, long) in
    let is = c.loop-peer.invariant.turned in
    let few = told-few c.args.since c.args.now x in
    let changes = c.turn.ensures.changes ∙ ap (λ y. c.loop-peer.changes.items ++ tells y) (sym c.peer-item.is) in
    record {
      turned = IsWritten-more (turned c.args.since c.args.now) i old new x c.turn.new.self within long c.peer-item.is
          (c.turn.ensures.turned ∙ ap (turned c.args.since c.args.now) (sym c.peer-item.is)) is;
      told =
          changes ∙ ap (λ xs. xs ++ tells x) c.loop-peer.invariant.told
          ∙ sym (flat_map-more (turned c.args.since c.args.now) tells i old new x within long c.peer-item.is is);
      room =
          let room = c.loop-peer.invariant.room in
          let parts = ap length changes ∙ length-append c.loop-peer.changes.items (tells x) in
          omega (arith, room, few, parts);
    }
