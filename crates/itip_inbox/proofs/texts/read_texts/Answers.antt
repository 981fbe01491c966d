use Rattle.std.proofs.Common.{◌∙◌, ◌+◌, ◌<◌, sym, ap, subst, ℕ, List, [], ◌∷◌, ◌++◌, length, map, take, get_or, Bor, Option}
use Rattle.std.specs.Option.{option_copied}
use Rattle.std.proofs.lemmas.List.{take_more, take_all, map-append}
use Rattle.itip_items.specs.declared.item.Item.{Item}
use Rattle.itip_inbox.specs.Inbox.{placed_from}
use Rattle.itip_inbox.specs.Streaming.{Tells}
use Rattle.itip_inbox.specs.declared.texts.Heard.{Heard}
use Rattle.itip_inbox.proofs.texts.read_texts.Goals as goal

-- one text more is read
texts_more : (about : Option (List ℕ)) (kept : List Item) (source : ℕ) (texts : List (Bor (List ℕ))) (at : ℕ) (d : Bor (List ℕ))
    (heard : Heard) → at < length texts →
    Tells about kept (placed_from source 1 (map (λ text. text.now) (take at texts) ++ (get_or texts at d).now ∷ [])) heard →
    Tells about kept (placed_from source 1 (map (λ text. text.now) (take (at + 1) texts))) heard
texts_more about kept source texts at d heard below tells =
    subst (λ (ts : List (List ℕ)). Tells about kept (placed_from source 1 ts) heard)
    (sym (ap (map (λ (text : Bor (List ℕ)). text.now)) (take_more texts at d below) ∙
    map-append (λ (text : Bor (List ℕ)). text.now) (take at texts) (get_or texts at d ∷ []))) tells

pub loop-text-init : goal.loop-text-init
loop-text-init c = c.nothing-heard.ensures (option_copied c.args.about) c.args.kept.now

pub loop-text-preserved : goal.loop-text-preserved
loop-text-preserved c =
    texts_more (option_copied c.args.about) c.args.kept.now c.args.source c.args.texts.now c.loop-text.text-index _ c.add.new.self
    c.loop-text-test.true
    (c.in_ok-add.ensures.tells (map (λ text. text.now) (take c.loop-text.text-index c.args.texts.now)) c.loop-text.invariant)

pub returns-clause-tells : goal.returns-clause-tells
returns-clause-tells c =
    subst (λ (ts : List (Bor (List ℕ))). Tells (option_copied c.args.about) c.args.kept.now
    (placed_from c.args.source 1 (map (λ text. text.now) ts)) c.loop-text.heard)
    (take_all c.loop-text.text-index c.args.texts.now c.loop-text-test.false) c.loop-text.invariant
