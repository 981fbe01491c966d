use Rattle.std.proofs.Common.{refl, codes}
use Rattle.clap.specs.Simple.{new_rule}
use Rattle.itip_words.specs.Program.{IsRule, repeated}
use Rattle.itip_words.proofs.Programs.{rule_set}
use Rattle.itip_words.proofs.commands.source_word.Goals as goal

pub returns : goal.returns
returns c =
    let fresh : IsRule (new_rule (codes "source")) c.new.result =
    record { rule_is = c.new.ensures.rule; local = c.new.ensures.optional.1 } in
    let valued = rule_set _ (λ r. record r { value_names = 1 }) _ _ _ fresh c.value_name.ensures refl refl in
    let several = rule_set _ repeated _ _ _ valued c.action.ensures refl refl in
    rule_set _ (λ r. r) _ _ _ several c.help.ensures refl refl
