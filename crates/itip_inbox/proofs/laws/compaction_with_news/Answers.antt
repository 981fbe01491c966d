use Rattle.itip_inbox.proofs.NewsOf.{news_suffice, news_needed, news_refuse_none}
use Rattle.itip_inbox.proofs.laws.compaction_with_news.Goals as goal

pub returns-clause-octets : goal.returns-clause-octets
returns-clause-octets c = λ than inputs news octets again lacking refused other is whole.
    news_suffice than inputs news lacking is octets refused whole again other

pub returns-clause-refused : goal.returns-clause-refused
returns-clause-refused c = λ than inputs news octets again lacking refused other is.
    news_refuse_none than inputs news lacking is octets again refused other

pub returns-clause-least : goal.returns-clause-least
returns-clause-least c = λ than inputs others news octets again lacking refused other item is tells untold whole.
    news_needed than inputs news lacking is octets refused whole others again other item tells untold
