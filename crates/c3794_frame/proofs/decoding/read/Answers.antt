use Rattle.std.proofs.Common.{lit<, lit≤, sym, ◌∙◌}
use Rattle.c3794_frame.proofs.Decoded.{pairs_in, read_by, read_count, read_made, read_pair}
use Rattle.c3794_frame.proofs.Filled.{frame-first}
use Rattle.c3794_frame.proofs.decoding.read.Goals as goal

pub returns-in_default-clause-reading : goal.returns-in_default-clause-reading
returns-in_default-clause-reading c = read_by _ _ _ _ _ c.told-bits c.fits-bits c.from_be_bytes.ensures c.in_default.ensures.word

pub returns-in-Some-broken_pair-clause-reading : goal.returns-in-Some-broken_pair-clause-reading
returns-in-Some-broken_pair-clause-reading c =
    let known = read_by _ c.args.channels _ _ _ c.told-bits c.fits-bits c.from_be_bytes.ensures c.in-Some.ensures.word in
    sym (read_pair _ _ _ _ c.in-Some-broken_pair.ensures) ∙ known

pub returns-then-count-channels-clause-reading : goal.returns-then-count-channels-clause-reading
returns-then-count-channels-clause-reading c =
    let known = read_by _ c.args.channels _ _ _ c.told-bits c.fits-bits c.from_be_bytes.ensures c.in-Some.ensures.word in
    let none = sym c.broken_pair.ensures ∙ c.in_default-broken_pair.is in
    let line = c.nibble-count.ensures (pairs_in c.args.bits.now 2 c.told-bits none (lit≤ tt) (lit< tt)) in
    sym (read_count _ _ _ _ c.told-bits none line c.if-count-channels.true) ∙ known

pub returns-clause-reading : goal.returns-clause-reading
returns-clause-reading c =
    let known = read_by _ c.args.channels _ _ _ c.told-bits c.fits-bits c.from_be_bytes.ensures c.in-Some.ensures.word in
    let none = sym c.broken_pair.ensures ∙ c.in_default-broken_pair.is in
    let line = c.nibble-count.ensures (pairs_in c.args.bits.now 2 c.told-bits none (lit≤ tt) (lit< tt)) in
    let line' = c.nibble.ensures (pairs_in c.args.bits.now 3 c.told-bits none (lit≤ tt) (lit< tt)) in
    let made = c.payload_of.ensures.payload none in
    let is = frame-first _ _ _ _ _ c.requires.1 made.long c.payload_of.ensures.unused c.of.ensures in
    sym (read_made _ _ _ _ _ _ _ c.told-bits none line line' made c.if-count-channels.false c.requires.1 is) ∙ known
