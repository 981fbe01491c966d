use Rattle.std.proofs.Common.{refl}
use Rattle.std.specs.Prelude.{Some}
use Rattle.clap.specs.Simple.{new_rule}
use Rattle.clap.specs.declared.builder.action.ArgAction.TheVariants.{SetTrue}
use Rattle.itip_words.specs.Program.{IsRule}
use Rattle.itip_words.proofs.Programs.{rule_set}
use Rattle.itip_words.proofs.commands.flag_word.Goals as goal

pub returns : goal.returns
returns c =
    let name = c.args.name.now in
    let fresh : IsRule (new_rule name) c.new.result = record { rule_is = c.new.ensures.rule; local = c.new.ensures.optional.1 } in
    let long = rule_set _ (λ r. record r { long = Some name }) _ _ _ fresh c.long.ensures refl refl in
    let set = rule_set _ (λ r. record r { action = Some SetTrue }) _ _ _ long c.action.ensures refl refl in
    rule_set _ (λ r. r) _ _ _ set c.help.ensures refl refl
