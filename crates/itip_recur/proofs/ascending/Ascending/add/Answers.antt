use Rattle.itip_recur.proofs.Ascents.{pushed}
use Rattle.itip_recur.proofs.ascending.Ascending.add.Goals as goal

pub invariant_of-self : goal.invariant_of-self
invariant_of-self c =
    record {
      ascending =
          pushed _ c.args.self.now.moments.items c.push.new.self.items c.args.moment c.push.ensures.items c.args.self.now.ascending
          c.requires.later;
    }
