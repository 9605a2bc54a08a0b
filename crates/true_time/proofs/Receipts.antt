-- The receipt law: a message that begins echoes the last one that its sender accepted.
use Rattle.std.proofs.Common.{◌≡◌, ℕ, List, Option, None, Some, take, refl, ap, ◌∙◌, arith}
use Rattle.ld_base.specs.Message.{Contents}
use Rattle.ld_base.specs.declared.fields.Fields.{Fields}
use Rattle.ld_base.specs.declared.message.Echo.{Echo}
use Rattle.pingpong.specs.declared.journal.Entry.{Entry}
use Rattle.relay_core.specs.Accepted.{Accepted, last_of}
use Rattle.relay_core.specs.Sent.{echo_of}
use Rattle.relay_core.specs.declared.receipt.Receipt.{Receipt}
use Rattle.relay_core.specs.StationLog.{StationLog}
use Rattle.true_time.specs.Places.{Began}
use Rattle.true_time.specs.Receipts.{EchoesAreReal, IsRealEcho}
use Rattle.true_time.proofs.Accepted.{accepted-at}
use Rattle.true_time.proofs.Begun.{began-is}
use Rattle.true_time.proofs.Elements.{last-in}
use Rattle.true_time.proofs.Places.{accepted-came}
use Rattle.true_time.proofs.Premises.{Stands, of-three}

-- the echo of a message that began is that of the last one accepted
pub echo-is : (f : Fields) (from to : ℕ) (journal : List Entry) (place : ℕ) (entry : Entry) (m : Contents) → Began f from to journal place entry m
    → m.echo ≡ echo_of (last_of (Accepted f from to (StationLog from (take place journal))))
echo-is f from to journal place entry m began =
    let (call, handed, is) = began-is f from to (take place journal) entry m began.begun in
    ap (λ x. x.echo) is.is

pub echoes-real : (f : Fields) (journal : List Entry) → Stands f journal → EchoesAreReal f journal
echoes-real f journal stands from to place entry m echo pair began echoed = go (last_of (Accepted f from to (StationLog from (take place journal)))) refl
  where
    go : (last : Option Receipt) → last_of (Accepted f from to (StationLog from (take place journal))) ≡ last → IsRealEcho f from to journal place echo
    go None none = absurd (let is = echo-is f from to journal place entry m began ∙ ap echo_of none in cc)
    go (Some r) last =
        let (came_at, came, earlier, was) = accepted-came f from to journal place r (last-in (Accepted f from to (StationLog from (take place journal))) r last) in
        let at = accepted-at f.drift f journal (omega (arith, stands.drift)) stands.in_turn from to came_at came r (of-three f journal from stands pair.one_there) was in
        let is : m.echo ≡ Some (record { sent = r.message.sent; came = r.at }) = echo-is f from to journal place entry m began ∙ ap echo_of last in
        let same : ◌≡◌ {A = Echo} (record { sent = r.message.sent; came = r.at }) echo = cc in
        record {
          came_at = came_at;
          came = came;
          receipt = r;
          earlier = earlier;
          accepted = was;
          sent_stamp = cc;
          came_stamp = (let stamp = at.came in cc);
          last = last;
        }
