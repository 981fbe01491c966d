use Rattle.std.specs.Prelude.{option_to_list}
use Rattle.itip_office.specs.LooksAndCarries.{IsOneOf}
use Rattle.itip_office.proofs.Texts.{merges_of}
use Rattle.itip_office.proofs.Seeing.{brought_of}
use Rattle.itip_office.proofs.merge.Merge.into_parts.Goals as goal

pub returns-clause-merges : goal.returns-clause-merges
returns-clause-merges g c = merges_of c.args.self.job.work c.args.self.batch c.lawful.ensures c.args.self.is

pub returns-clause-brought : goal.returns-clause-brought
returns-clause-brought g c =
    brought_of (IsOneOf (option_to_list c.args.self.source)) c.args.self.job.work c.args.self.batch c.args.self.brought
