use Rattle.std.proofs.Common.{ap, arith, map, refl, List, ℕ, Option, Bor, rules}
use Rattle.std.specs.Option.{option_copied}
use Rattle.std.proofs.lemmas.List.{nil_from_length}
use Rattle.std.proofs.lemmas.Result.{on_ok_weaker}
use Rattle.itip_inbox.proofs.HeldParts.{short_heard, none_heard, long_heard, behind_first}
use Rattle.itip_inbox.proofs.source_reading.hear_texts.Goals as goal

pub returns-then-not-is_long-clause-hears : goal.returns-then-not-is_long-clause-hears
returns-then-not-is_long-clause-hears g c =
    let about : Option (List ℕ) = option_copied c.args.about in
    on_ok_weaker c.hear_each.result
    (short_heard about c.args.is_long c.args.inbox.now c.hear_each.new.self (map (λ text. text.now) c.args.texts.now) (search rules))
    c.hear_each.ensures.keeps

pub returns-in_default-clause-hears : goal.returns-in_default-clause-hears
returns-in_default-clause-hears g c =
    none_heard (option_copied c.args.about) c.args.is_long c.args.inbox.now c.args.inbox.now (map (λ text. text.now) c.args.texts.now)
    (search rules) (ap (map (λ (text : Bor (List ℕ)). text.now)) (nil_from_length c.args.texts.now (omega (arith, c.in_default.len_below))))
    refl

pub returns-clause-hears : goal.returns-clause-hears
returns-clause-hears g c =
    let cut = behind_first c.args.texts.now c.in-len1-up.len_at_least in
    on_ok_weaker c.hear_each-2.result (λ hears.
    long_heard (option_copied c.args.about) c.args.is_long c.args.inbox.now c.hear_each-2.new.self c.refuse_long.new.self cut.0 _
    c.in_ok-refuse_long.ensures.source c.in_ok-refuse_long.ensures.count c.in_ok-refuse_long.ensures.keeps
    hears (map (λ text. text.now) c.args.texts.now) (search rules) cut.1) c.hear_each-2.ensures.keeps
