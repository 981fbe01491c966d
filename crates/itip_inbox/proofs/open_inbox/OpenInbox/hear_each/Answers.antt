use Rattle.std.proofs.Common.{◌≡◌, ◌∙◌, ◌+◌, ap, ℕ, length, map, List, Bor}
use Rattle.std.specs.Option.{option_copied}
use Rattle.std.proofs.lemmas.List.{length-map}
use Rattle.itip_inbox.proofs.Hearing.{got_more, length_placed}
use Rattle.itip_inbox.proofs.open_inbox.OpenInbox.hear_each.Goals as goal

pub returns-clause-keeps : goal.returns-clause-keeps
returns-clause-keeps g c = λ before got.
    got_more (option_copied c.args.about) before c.args.self.now c.hear_waiting.new.self c.take_next.new.self
    (map (λ text. text.now) c.args.texts.now)
    c.in_ok-hear_waiting.ensures.source c.in_ok-hear_waiting.ensures.messages
    (c.in_ok-take_next.ensures.waiting ∙ c.in_ok-hear_waiting.ensures.none)
    (c.in_ok-take_next.ensures.keeps (option_copied c.args.about) before (map (λ text. text.now) c.args.texts.now)
    (c.in_ok-hear_waiting.ensures.keeps before got) c.in_ok-heard.ensures.tells)

pub returns-clause-count : goal.returns-clause-count
returns-clause-count g c =
    let many : c.in_ok-heard.heard.count ≡ length c.args.texts.now =
    c.in_ok-heard.ensures.tells.count_is ∙ length_placed c.hear_waiting.new.self.source 1 (map (λ text. text.now) c.args.texts.now) ∙
    length-map c.args.texts.now (λ (t : Bor (List ℕ)). t.now) in
    c.in_ok-take_next.ensures.count ∙ ap (λ (n : ℕ). n + c.in_ok-heard.heard.count) c.in_ok-hear_waiting.ensures.messages ∙
    ap (λ (n : ℕ). c.args.self.now.messages + n) many

pub returns-clause-source : goal.returns-clause-source
returns-clause-source g c = c.in_ok-take_next.ensures.source ∙ c.in_ok-hear_waiting.ensures.source
