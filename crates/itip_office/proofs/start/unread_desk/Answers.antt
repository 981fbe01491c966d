use Rattle.itip_office.proofs.Starting.{unread_started}
use Rattle.itip_office.proofs.start.unread_desk.Goals as goal

pub returns : goal.returns
returns g c = unread_started c.empty_at.result c.new.result.items c.empty_at.ensures.desk c.new.ensures.items
