-- A new terminal stands for the empty log.
use Rattle.std.proofs.Common.{◌≡◌, true, [], ap, sym, subst, ◌∙◌, rules}
use Rattle.ld_base.specs.Settings.{setting_fault}
use Rattle.ld_base.specs.declared.fields.Fields.{Fields}
use Rattle.relay_core.specs.StandsFor.{Kept, StandsFor}
use Rattle.terminal_c.specs.Stands.{fields_of}
use Rattle.terminal_c.specs.Status.{is_station}
use Rattle.terminal_c.proofs.IsMade.{is_made}
use Rattle.terminal_c.proofs.making.made.Goals as goal

pub returns-in-Ok-boxed : goal.returns-in-Ok-boxed
returns-in-Ok-boxed c =
    let boxed = c.in-Ok-boxed.ensures in let fields = c.fields_of-fields.ensures in
    let seated : is_station c.fields_of-fields.result c.args.me ≡ true = search (rules, c.is_station.ensures, c.if-not-is_station.false) in (
      is_made c.args.old.now (fields_of c.args.settings.now) c.args.me c.if-old.false (sym (ap setting_fault fields) ∙ c.in-Ok.ensures.1) (sym (ap (λ (f : Fields). is_station f c.args.me) fields) ∙ seated),
      record {
        terminal = c.of.result.value;
        held = c.some.ensures;
        settings = ap (λ (t : Kept). t.settings) c.of.ensures ∙ boxed.0 ∙ c.in-Ok.ensures.0 ∙ fields;
        station = ap (λ (t : Kept). t.me) c.of.ensures ∙ boxed.1 ∙ c.in-Some.ensures.1;
        stands = subst (λ (t : Kept). StandsFor t []) (sym c.of.ensures) boxed.2;
      },
    )
