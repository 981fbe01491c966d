use Rattle.itip_view.specs.Wanting.{Wants}
use Rattle.itip_inbox.proofs.SameTold.{same_compaction, same_list, same_news, same_report}
use Rattle.itip_inbox.proofs.laws.only_items_matter.Goals as goal

pub returns-clause-compaction : goal.returns-clause-compaction
returns-clause-compaction c = λ inputs others octets again refused other same.
    same_compaction inputs others same octets again refused other

pub returns-clause-list : goal.returns-clause-list
returns-clause-list c = λ inputs others octets wanted window text again refused other same.
    same_list inputs others same window text again refused other octets (Wants wanted)

pub returns-clause-report : goal.returns-clause-report
returns-clause-report c = λ inputs others name window text again refused other same.
    same_report inputs others same window text again refused other name

pub returns-clause-news : goal.returns-clause-news
returns-clause-news c = same_news
