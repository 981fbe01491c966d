use Rattle.std.proofs.Common.{◌∙◌, sym, subst, List}
use Rattle.std.specs.Option.{option_copied}
use Rattle.itip_explain.specs.declared.told.ToldItem.{ToldItem}
use Rattle.itip_inbox.specs.Following.{TellAbout}
use Rattle.itip_inbox.proofs.Sources.{holds_closed, heard_closed}
use Rattle.itip_inbox.proofs.source_reading.read_more.Goals as goal

pub returns-clause-holds : goal.returns-clause-holds
returns-clause-holds g c = λ inputs are.
    holds_closed inputs c.in_ok-inbox.inbox.state c.in_ok-close.field-0.state c.in_ok-inbox.inbox.refusals
    c.in_ok-close.field-0.refusals (c.in_ok-inbox.ensures.holds inputs are) c.in_ok-close.ensures.state
    c.in_ok-close.ensures.refusals

pub returns-clause-told : goal.returns-clause-told
returns-clause-told g c = λ inputs are.
    subst (λ (told : List ToldItem). TellAbout (option_copied c.args.about) inputs told) (sym c.in_ok-close.ensures.told)
    (c.in_ok-inbox.ensures.told inputs are)

pub returns-clause-heard : goal.returns-clause-heard
returns-clause-heard g c =
    heard_closed (option_copied c.args.about) c.in_ok-inbox.inbox.state c.in_ok-close.field-0.state c.in_ok-inbox.inbox.refusals
    c.in_ok-close.field-0.refusals c.in_ok-inbox.inbox.told.items c.in_ok-close.field-0.told.items c.in_ok-inbox.ensures.heard
    c.in_ok-close.ensures.state c.in_ok-close.ensures.refusals c.in_ok-close.ensures.told

pub returns-clause-source : goal.returns-clause-source
returns-clause-source g c = c.in_ok-close.ensures.source ∙ c.in_ok-inbox.ensures.source
