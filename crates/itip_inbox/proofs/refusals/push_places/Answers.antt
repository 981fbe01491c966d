use Rattle.std.proofs.Common.{◌∙◌, ap, subst, ℕ, ◌++◌, ◌∷◌, []}
use Rattle.std.proofs.lemmas.Result.{on_ok_weaker}
use Rattle.std.specs.Option.{option_to_list}
use Rattle.itip_inbox.specs.Leb128.{Spells}
use Rattle.itip_inbox.proofs.Packing.{in_a_row}
use Rattle.itip_inbox.proofs.refusals.push_places.Goals as goal

pub returns-clause-adds : goal.returns-clause-adds
returns-clause-adds c = on_ok_weaker c.push_if_some-2.result (λ adds before spells.
    subst (Spells c.push_if_some-2.new.octets.items)
    (ap (λ (known : ℕ). before ++ known ∷ [] ++ c.args.refused.source ∷ [] ++ c.args.refused.message ∷ [] ++
    option_to_list c.args.refused.refusal.todo ++ option_to_list c.args.refused.refusal.line) c.known.ensures ∙
    in_a_row before (option_to_list c.args.refused.refusal.todo) _ _ _ (option_to_list c.args.refused.refusal.line))
    (adds _ (c.in_ok-push_if_some.ensures.adds _ (c.in_ok-push_number-3.ensures.adds _ (c.in_ok-push_number-2.ensures.adds _
    (c.in_ok-push_number.ensures.adds before spells)))))) c.push_if_some-2.ensures.adds
