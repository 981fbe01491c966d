use Rattle.std.proofs.Common.{rules, ◌≡◌, subst, Option}
use Rattle.itip_desk.specs.Desk.{Shown}
use Rattle.itip_running.specs.declared.keeper.Keeper.{Keeper}
use Rattle.itip_office.specs.LooksAndCarries.{IsOneOf}
use Rattle.itip_office.specs.Merged.{GrewTexts, GrewShown}
use Rattle.itip_office.proofs.Publishing.{has_kept}
use Rattle.itip_office.proofs.team.keep.Goals as goal

pub returns-clause-kept : goal.returns-clause-kept
returns-clause-kept g c =
    let old : c.into_parts-texts.result.0 ≡ c.args.held.texts = search rules in
    let was : c.into_parts-texts.result.1 ≡ c.args.held.shown = search rules in
    let desk = c.args.desk in
    let texts = c.in_ok-texts.texts in
    let shown = c.in_ok-texts.shown in
    let answers = c.in_ok-texts.answers.items in
    let sources = c.in_ok-texts.sources.items in
    has_kept (g.N.Pairs.pair desk) desk (IsOneOf sources) c.args.held.texts texts c.args.held.shown shown answers c.requires.fresh
    (subst (λ (d : Shown). GrewTexts desk d texts answers) old c.in_ok-texts.ensures.texts)
    (subst (λ (k : Option Keeper). GrewShown desk (IsOneOf sources) k shown answers) was c.in_ok-texts.ensures.published)
