use Rattle.text_lines.proofs.Rows.{row-line_of}
use Rattle.text_lines.proofs.laws.lines_are_those_of_rows.Goals as goal

pub returns : goal.returns
returns c = row-line_of
