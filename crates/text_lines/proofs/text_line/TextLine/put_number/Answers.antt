use Rattle.std.proofs.Common.{◌≡◌, ◌-◌, arith, decimal, length, length-append, length-drop}
use Rattle.std.proofs.lemmas.Fmt.{length-decimal-le}
use Rattle.text_lines.proofs.text_line.TextLine.put_number.Goals as goal

pub write_digits-self-inside-requires : goal.write_digits-self-inside-requires
write_digits-self-inside-requires c =
    let digits = length-decimal-le 20 c.args.number (omega arith) (omega (arith, c.ranges.number.fits)) c.ranges.number.fits in
    let inside = c.self.inside in
    let old : length c.args.self.now ≡ length inside.bytes - inside.start = rw (← c.self.view_is) (length-drop inside.start inside.bytes) in
    (omega (arith, digits, old, c.requires, c.self.told, c.self.invariant), omega (arith, c.self.told, c.self.invariant))

pub returns-clause-few : goal.returns-clause-few
returns-clause-few c =
    let digits = length-decimal-le 20 c.args.number (omega arith) (omega (arith, c.ranges.number.fits)) c.ranges.number.fits in
    rw (c.write_digits-self-inside.ensures.written, c.self.view_is) (omega (arith, digits, length-append (decimal c.args.number) c.args.self.now))
