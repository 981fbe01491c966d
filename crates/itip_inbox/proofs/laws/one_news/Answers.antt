use Rattle.itip_inbox.proofs.NewsOf.{some_news, news_once, news_refused_once}
use Rattle.itip_inbox.proofs.laws.one_news.Goals as goal

pub returns-clause-some : goal.returns-clause-some
returns-clause-some c = some_news

pub returns-clause-octets : goal.returns-clause-octets
returns-clause-octets c = news_once

pub returns-clause-refused : goal.returns-clause-refused
returns-clause-refused c = news_refused_once
