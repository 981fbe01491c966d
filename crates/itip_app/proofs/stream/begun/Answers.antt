use Rattle.std.proofs.Common.{rules, ◌≡◌, ℕ, ◌+◌, List, [], ◌∷◌, ◌++◌, length, sym, ap, subst, ◌∙◌, arith}
use Rattle.std.proofs.lemmas.List.{length-append}
use Rattle.itip_desk.specs.Desk.{Shown}
use Rattle.itip_words.specs.Streams.{names_of}
use Rattle.itip_app.specs.Streamed.{Begins, AreBegun}
use Rattle.itip_app.proofs.Beginning.{begun_more}
use Rattle.itip_app.proofs.stream.begun.Goals as goal

pub loop-number-init : goal.loop-number-init
loop-number-init g c =
    let none : c.new-desks.result.items ≡ [] = c.new-desks.ensures.items in
    record {
      count = ap length none;
      begun = subst (λ (l : List Shown). AreBegun (g.F.Folder.holds c.args.folder.now) (names_of c.args.asked.now.loads.items) 0 l)
          (sym none) tt;
    }

pub loop-number-preserved : goal.loop-number-preserved
loop-number-preserved g c =
    let holds = g.F.Folder.holds c.args.folder.now in
    let loads = names_of c.args.asked.now.loads.items in
    let was = c.loop-number.desks.items in
    let desk = c.in-Ok.desk in
    let pushed : c.push.new.self.items ≡ was ++ desk ∷ [] = search rules in
    let begins : Begins holds loads c.loop-number.number desk = search rules in
    record {
      count = ap length pushed ∙ length-append was (desk ∷ []) ∙ ap (λ (n : ℕ). n + 1) c.loop-number.invariant.count;
      begun = subst (λ (l : List Shown). AreBegun holds loads 0 l) (sym pushed)
          (begun_more holds loads 0 was desk c.loop-number.invariant.begun
          (let e : c.loop-number.number ≡ 0 + length was = omega (arith, c.loop-number.invariant.count) in
          subst (λ (n : ℕ). Begins holds loads n desk) e begins));
    }
