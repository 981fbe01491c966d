use Rattle.std.proofs.Common.{◌∙◌, ◌+◌, ap, map, sym, subst, List, ℕ, Bor, refl, true, false}
use Rattle.std.specs.Option.{option_copied}
use Rattle.std.proofs.lemmas.List.{length-map}
use Rattle.itip_inbox.specs.Streaming.{StaysCutInto}
use Rattle.itip_inbox.proofs.HeldParts.{hears_first}
use Rattle.itip_inbox.proofs.source_reading.hear_begun.Goals as goal

pub returns-then-is_left_long-clause-hears : goal.returns-then-is_left_long-clause-hears
returns-then-is_left_long-clause-hears g c = λ came more is.
    let texts : List (List ℕ) = map (λ text. text.now) c.as_slice-texts.result.now in
    let cut : StaysCutInto c.args.held.now.octets.items texts c.in_ok-share.share.left.octets.now =
    subst (λ (ts : List (Bor (List ℕ))). StaysCutInto c.args.held.now.octets.items (map (λ text. text.now) ts)
    c.in_ok-share.share.left.octets.now) (sym c.as_slice-texts.ensures.value)
    (subst (λ (t : List ℕ). StaysCutInto t (map (λ text. text.now) c.in_ok-share.share.texts.items)
    c.in_ok-share.share.left.octets.now) c.as_slice.ensures.value c.in_ok-share.ensures.cut) in
    hears_first (option_copied c.args.about) c.args.held.now.octets.items c.in_ok-share.share.left.octets.now came more _
    c.args.inbox.now c.hear_texts.new.inbox c.args.held.now.is_long true texts cut
    (c.in_ok-hear_texts.ensures.count ∙ ap (λ (n : ℕ). c.args.inbox.now.messages + n)
    (sym (length-map c.as_slice-texts.result.now (λ (t : Bor (List ℕ)). t.now)))) c.in_ok-hear_texts.ensures.hears
    (sym c.if-is_left_long.true ∙ c.is_left_long.ensures) (refl, c.in_ok-stand_in.ensures.stands c.in_ok-share.ensures.begun) is

pub returns-clause-hears : goal.returns-clause-hears
returns-clause-hears g c = λ came more is.
    let texts : List (List ℕ) = map (λ text. text.now) c.as_slice-texts.result.now in
    let cut : StaysCutInto c.args.held.now.octets.items texts c.in_ok-share.share.left.octets.now =
    subst (λ (ts : List (Bor (List ℕ))). StaysCutInto c.args.held.now.octets.items (map (λ text. text.now) ts)
    c.in_ok-share.share.left.octets.now) (sym c.as_slice-texts.ensures.value)
    (subst (λ (t : List ℕ). StaysCutInto t (map (λ text. text.now) c.in_ok-share.share.texts.items)
    c.in_ok-share.share.left.octets.now) c.as_slice.ensures.value c.in_ok-share.ensures.cut) in
    hears_first (option_copied c.args.about) c.args.held.now.octets.items c.in_ok-share.share.left.octets.now came more _
    c.args.inbox.now c.hear_texts.new.inbox c.args.held.now.is_long false texts cut
    (c.in_ok-hear_texts.ensures.count ∙ ap (λ (n : ℕ). c.args.inbox.now.messages + n)
    (sym (length-map c.as_slice-texts.result.now (λ (t : Bor (List ℕ)). t.now)))) c.in_ok-hear_texts.ensures.hears
    (sym c.if-is_left_long.false ∙ c.is_left_long.ensures) (refl, c.in_ok-from_slice.ensures.items) is
