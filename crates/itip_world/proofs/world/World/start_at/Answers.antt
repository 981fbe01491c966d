use Rattle.std.proofs.Common.{◌≡◌, ℕ, ◌+◌, ◌++◌, ◌∷◌, [], List, sym, subst, add-one, arith}
use Rattle.itip_desk.specs.Desk.{Shown}
use Rattle.itip_world.specs.Worlds.{histories_from, past_from, AreDesksOf, ArePacketTexts}
use Rattle.itip_world.proofs.Desks.{one_more_desk}
use Rattle.itip_world.proofs.world.World.start_at.Goals as goal

pub loop-preserved : goal.loop-preserved
loop-preserved c =
    let more = one_more_desk c.loop.counter c.args.tick c.loop.all.items c.empty_at.result c.loop.invariant c.empty_at.ensures.desk in
    let counted : AreDesksOf (histories_from (c.loop.counter + 1) c.args.tick) (c.loop.all.items ++ c.empty_at.result ∷ []) =
    subst (λ (n : ℕ). AreDesksOf (histories_from n c.args.tick) (c.loop.all.items ++ c.empty_at.result ∷ []))
    (sym (add-one c.loop.counter)) more in
    subst (λ (ds : List Shown). AreDesksOf (histories_from (c.loop.counter + 1) c.args.tick) ds) (sym c.in_ok-push.ensures.items) counted

pub invariant_of-result : goal.invariant_of-result
invariant_of-result c =
    let all : c.loop.counter ≡ c.args.desks = grind arith in (
      past_from c.args.desks c.args.tick,
      record {
        desks_are = subst (λ (n : ℕ). AreDesksOf (histories_from n c.args.tick) c.loop.all.items) all c.loop.invariant;
        packets_are = subst (λ (ts : List (List ℕ)). ArePacketTexts [] ts) (sym c.new.ensures.items) tt;
      },
    )
