use Rattle.std.proofs.Common.{rules, ◌≡◌, ℕ, ◌+◌, length, map, List, [], ◌∷◌, ◌++◌, take, All, ap, sym, ◌∙◌, subst}
use Rattle.std.proofs.lemmas.List.{take_more, take_all, map-append}
use Rattle.std.proofs.lemmas.List.Elements.{All-push}
use mathlib.Core.List.{IsPrefix}
use Rattle.itip_running.specs.declared.pass.Pass.{Pass}
use Rattle.itip_running.specs.ContractViews.{publishes_seen, seen}
use Rattle.itip_running.proofs.meeting.counts.Goals as goal

pub loop-pass-preserved : goal.loop-pass-preserved
loop-pass-preserved c =
    let P : Pass → Type 0 = λ p. IsPrefix (publishes_seen p) c.args.front.now.seen.log in
    let i = c.loop-pass.pass-index in
    let more : take (i + 1) c.args.passes.now ≡ take i c.args.passes.now ++ c.pass-item.result ∷ [] =
    take_more c.args.passes.now i c.pass-item.result c.loop-pass-test.true ∙
    ap (λ (z : Pass). take i c.args.passes.now ++ z ∷ []) (sym c.pass-item.is) in
    let within : P c.pass-item.result = search rules in
    let pushed : c.push.new.self.items ≡ c.loop-pass.all.items ++ length (seen c.pass-item.result) ∷ [] = search rules in (
      pushed ∙ ap (λ (l : List ℕ). l ++ length (seen c.pass-item.result) ∷ []) c.loop-pass.invariant.0 ∙
          sym (ap (λ (l : List Pass). map (λ p. length (seen p)) l) more ∙
          map-append (λ (p : Pass). length (seen p)) (take i c.args.passes.now) (c.pass-item.result ∷ [])),
      subst (λ (l : List Pass). All P l) (sym more)
          (All-push P (take i c.args.passes.now) c.pass-item.result c.loop-pass.invariant.1 within),
    )

pub returns-clause-within : goal.returns-clause-within
returns-clause-within c =
    let whole : take c.loop-pass.pass-index c.args.passes.now ≡ c.args.passes.now = take_all _ _ c.loop-pass-test.false in
    subst (λ (l : List Pass). All (λ p. IsPrefix (publishes_seen p) c.args.front.now.seen.log) l) whole c.loop-pass.invariant.1
