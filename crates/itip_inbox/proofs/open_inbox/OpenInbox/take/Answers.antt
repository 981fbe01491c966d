use Rattle.std.proofs.Common.{List, ◌++◌, subst}
use Rattle.itip_items.specs.declared.item.Item.{Item}
use Rattle.itip_state.specs.Kept.{AreKept}
use Rattle.itip_inbox.proofs.Hearing.{keeps_beside}
use Rattle.itip_inbox.proofs.open_inbox.OpenInbox.take.Goals as goal

pub returns-clause-keeps : goal.returns-clause-keeps
returns-clause-keeps g c = λ about before more keeps tells.
    keeps_beside about before more c.args.self.now _ c.args.heard.news.items c.args.heard.refusals c.args.heard.told.items keeps
    tells.beside
    (subst (λ (news : List Item). AreKept c.hear.new.self (c.args.self.now.state ++ news)) c.as_slice.ensures.value c.in_ok-hear.ensures)
    c.in_ok-append.ensures.adds c.in_ok-append-2.ensures.items
