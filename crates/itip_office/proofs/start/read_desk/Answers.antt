use Rattle.itip_office.proofs.Starting.{read_started}
use Rattle.itip_office.proofs.start.read_desk.Goals as goal

pub returns-in-Ok-clause-started : goal.returns-in-Ok-clause-started
returns-in-Ok-clause-started g c =
    read_started c.empty_at-texts.result c.in-Ok.keeper c.in-Ok.passes.items c.empty_at-texts.ensures.desk c.in-Ok.ensures.keeper
    c.in-Ok.ensures.each
