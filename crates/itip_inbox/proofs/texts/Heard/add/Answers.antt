use Rattle.std.proofs.Common.{◌∙◌, ◌++◌, ap, refl, List}
use Rattle.std.specs.Option.{option_copied}
use Rattle.itip_items.specs.declared.item.Item.{Item}
use Rattle.itip_message.specs.Message.{RefusesMessage}
use Rattle.itip_inbox.specs.Following.{items_about, told_in}
use Rattle.itip_inbox.specs.Inbox.{placed_from}
use Rattle.itip_inbox.proofs.Hearing.{beside_items, beside_refusal, one_tells}
use Rattle.itip_inbox.proofs.texts.Heard.add.Goals as goal

pub returns-in_ok-add_news-in-Ok-clause-tells : goal.returns-in_ok-add_news-in-Ok-clause-tells
returns-in_ok-add_news-in-Ok-clause-tells c = λ texts so_far.
    one_tells (option_copied c.args.about) c.args.kept.now c.args.source c.in_ok-message.message texts c.args.text.now
    c.args.self.now so_far
    c.in_ok-message.ensures.sum _ refl
    (beside_items (option_copied c.args.about) c.args.kept.now (placed_from c.args.source 1 texts) c.args.self.now.news.items
    c.args.self.now.refusals c.args.self.now.told.items so_far.beside
    (record { source = c.args.source; message = c.in_ok-message.message; text = c.args.text.now }) c.in-Ok.items.items _ _
    c.in-Ok.ensures.found (c.in_ok-add_news-in-Ok.ensures so_far.beside.items so_far.beside.news_are)
    (c.in_ok-note-in-Ok.ensures ∙ ap (λ (items : List Item). c.args.self.now.told.items ++
    told_in (record { source = c.args.source; message = c.in_ok-message.message }) (items_about (option_copied c.args.about) items))
    c.as_slice.ensures.value))

pub returns-in_ok-push-in-Err-Refused-clause-tells : goal.returns-in_ok-push-in-Err-Refused-clause-tells
returns-in_ok-push-in-Err-Refused-clause-tells c = λ texts so_far.
    let refused : RefusesMessage c.args.text.now c.in-Err-Refused.refusal =
    rw c.in-Err-Refused.field-0-is at c.in-Err-Refused.ensures.fault in
    let pushed = rw c.in-Err-Refused.field-0-is at c.in_ok-push-in-Err-Refused.ensures.adds in
    one_tells (option_copied c.args.about) c.args.kept.now c.args.source c.in_ok-message.message texts c.args.text.now
    c.args.self.now so_far
    c.in_ok-message.ensures.sum _ refl
    (beside_refusal (option_copied c.args.about) c.args.kept.now (placed_from c.args.source 1 texts) c.args.self.now.news.items
    c.args.self.now.refusals c.args.self.now.told.items so_far.beside
    (record { source = c.args.source; message = c.in_ok-message.message; text = c.args.text.now }) c.in-Err-Refused.refusal _
    refused pushed)
