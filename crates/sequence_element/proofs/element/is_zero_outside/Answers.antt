-- What is tested is the sequence of each station.
use Rattle.std.proofs.Common.{◌∙◌, rules}
use Rattle.sequence_element.specs.Sequences.{zero_sequence}
use Rattle.sequence_element.proofs.Stations.{sequences_read}
use Rattle.sequence_element.proofs.element.is_zero_outside.Goals as goal

pub returns : goal.returns
returns c =
    let sums = c.args.sums.now in
    let read = sequences_read zero_sequence sums c.from-stations.result c.from.result c.from-2.result c.from-3.result (search rules)
    (c.from.ensures ∙ c.zero_of.ensures.sequence) (c.from-2.ensures ∙ c.zero_of-2.ensures.sequence)
    (c.from-3.ensures ∙ c.zero_of-3.ensures.sequence) in
    rw (read, c.from-stations.ensures, c.requires.region, c.limit_of.ensures) at c.outside_beyond.ensures
