use Rattle.std.proofs.Common.{◌∙◌, ap, refl, inl, ◌∷◌, [], ◌++◌, ◌+◌, ℕ}
use Rattle.itip_lines.specs.Reading.{too_long}
use Rattle.itip_message.specs.Message.{at_lines}
use Rattle.itip_message.specs.Refusals.{of_lines}
use Rattle.itip_message.specs.declared.error.MessageRefusal.{MessageRefusal}
use Rattle.std.specs.Option.{option_copied}
use Rattle.itip_inbox.proofs.Hearing.{keeps_refusal, got_more}
use Rattle.itip_inbox.proofs.open_inbox.OpenInbox.refuse_long.Goals as goal

pub returns-clause-keeps : goal.returns-clause-keeps
returns-clause-keeps g c = λ before text long got.
    got_more (option_copied c.args.about) before c.args.self.now c.hear_waiting.new.self _ (text ∷ [])
    c.in_ok-hear_waiting.ensures.source c.in_ok-hear_waiting.ensures.messages c.in_ok-hear_waiting.ensures.none
    (keeps_refusal (option_copied c.args.about) before c.hear_waiting.new.self _ text (of_lines too_long) c.in_ok-message.message
    (at_lines too_long (inl (refl, long))) refl refl c.in_ok-message.ensures.sum
    (c.in_ok-push.ensures.adds ∙ ap (λ (r : MessageRefusal). c.hear_waiting.new.self.refusals ++
    (record { source = c.hear_waiting.new.self.source; message = c.in_ok-message.message; refusal = r }) ∷ []) c.from.ensures)
    (c.in_ok-hear_waiting.ensures.keeps before got))

pub returns-clause-count : goal.returns-clause-count
returns-clause-count g c = c.in_ok-message.ensures.sum ∙ ap (λ (n : ℕ). n + 1) c.in_ok-hear_waiting.ensures.messages
