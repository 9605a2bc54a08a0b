use Rattle.setting_rows.proofs.WrittenFacts.{read-back}
use Rattle.setting_rows.proofs.laws.written_settings_are_read.Goals as goal

pub returns : goal.returns
returns c = read-back
