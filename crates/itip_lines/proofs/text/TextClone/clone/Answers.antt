use Rattle.std.proofs.Common.{◌≡◌, ◌∙◌, sym, subst}
use Rattle.std.proofs.lemmas.Result.{MatchResult-from_both, IfOk-weaker}
use Rattle.itip_lines.specs.Room.{StandsInPlace}
use Rattle.itip_lines.proofs.Rooms.{refused_only}
use Rattle.itip_lines.proofs.text.TextClone.clone.Goals as goal

pub returns : goal.returns
returns c = record {
  cases = MatchResult-from_both c.copy.result (λ copy. copy ≡ c.args.self.now) (λ e. ¬ StandsInPlace c.args.self.now)
      (IfOk-weaker c.copy.result (λ copy. copy ≡ c.as_str.result.now) (λ copy. copy ≡ c.args.self.now)
      (λ copy is. is ∙ c.as_str.ensures) c.copy.ensures.copied)
      (refused_only c.copy.result (StandsInPlace c.args.self.now)
      (λ short. c.copy.ensures.room (subst StandsInPlace (sym c.as_str.ensures) short)));
}
