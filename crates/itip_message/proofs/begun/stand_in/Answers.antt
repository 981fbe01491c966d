use Rattle.std.proofs.Common.{◌≡◌, ◌≤◌, ℕ, List, length, subst, sym, arith}
use Rattle.std.proofs.lemmas.Result.{IfOk-weaker}
use Rattle.itip_message.specs.Begun.{few_octets, stand_in_limit, IsBegun, StandsIn}
use Rattle.itip_message.proofs.BegunMessages.{few_are_few, message_stands, none_for_none}
use Rattle.itip_message.proofs.begun.stand_in.Goals as goal

pub returns-in-Some-clause-stands : goal.returns-in-Some-clause-stands
returns-in-Some-clause-stands c =
    IfOk-weaker c.few_octets.result (λ few. few.items ≡ few_octets c.args.message.now.all_empty c.in-Some.front)
    (λ few. IsBegun c.args.message.now → StandsIn c.args.message.now.octets.now few.items)
    (λ few is begun. message_stands c.args.message.now c.in-Some.front few.items begun c.in-Some.ensures is) c.few_octets.ensures

pub returns-in-Some-clause-few : goal.returns-in-Some-clause-few
returns-in-Some-clause-few c =
    IfOk-weaker c.few_octets.result (λ few. few.items ≡ few_octets c.args.message.now.all_empty c.in-Some.front)
    (λ few. length few.items ≤ stand_in_limit)
    (λ few is. subst (λ (octets : List ℕ). length octets ≤ stand_in_limit) (sym is)
    (few_are_few c.args.message.now.all_empty c.in-Some.front c.in-Some.ensures.said_is)) c.few_octets.ensures

pub returns-in-None-clause-stands : goal.returns-in-None-clause-stands
returns-in-None-clause-stands c = λ begun.
    none_for_none c.args.message.now.octets.now c.new.result.items (begun.some c.in-None.ensures) c.new.ensures.items

pub returns-in-None-clause-few : goal.returns-in-None-clause-few
returns-in-None-clause-few c = subst (λ (octets : List ℕ). length octets ≤ stand_in_limit) (sym c.new.ensures.items) (omega arith)
