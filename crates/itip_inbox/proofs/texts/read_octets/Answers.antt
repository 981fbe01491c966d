use Rattle.std.proofs.Common.{refl, subst, ℕ, List, [], ◌∷◌, ◌++◌}
use Rattle.std.specs.Option.{option_copied}
use Rattle.itip_inbox.specs.Inbox.{placed_from}
use Rattle.itip_inbox.specs.Streaming.{Tells}
use Rattle.itip_inbox.proofs.Streams.{all_more, all_done}
use Rattle.itip_inbox.proofs.texts.read_octets.Goals as goal

pub loop-text-init : goal.loop-text-init
loop-text-init c = record {
  texts = [];
  cut = refl;
  tells = c.nothing-heard.ensures (option_copied c.args.about) c.args.kept.now;
}

pub loop-text-preserved : goal.loop-text-preserved
loop-text-preserved c = record {
  texts = c.loop-text.invariant.texts ++ c.in-Some.text.now ∷ [];
  cut = all_more c.args.octets.now c.loop-text.rest.now c.in-Some.text.now c.in-Some.after.now c.loop-text.invariant.texts _
      c.loop-text.invariant.cut c.in-Some.ensures refl;
  tells = c.in_ok-add.ensures.tells c.loop-text.invariant.texts c.loop-text.invariant.tells;
}

pub returns-clause-tells : goal.returns-clause-tells
returns-clause-tells c =
    subst (λ (ts : List (List ℕ)). Tells (option_copied c.args.about) c.args.kept.now (placed_from c.args.source 1 ts) c.loop-text.heard)
    (all_done c.args.octets.now c.loop-text.rest.now c.loop-text.invariant.texts c.loop-text.invariant.cut c.in_default.ensures)
    c.loop-text.invariant.tells
