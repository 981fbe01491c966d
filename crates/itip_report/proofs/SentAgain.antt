-- What is sent again of a to-do of which no instance and no range stands is a message.
use Rattle.std.proofs.Common.{◌≡◌, ℕ, List, [], ◌∷◌, sym, ◌∙◌, ap, subst, append-nil}
use Rattle.std.specs.List.{flat_map}
use Rattle.itip_message.specs.Message.{ReadsMessage}
use Rattle.itip_items.specs.declared.item.Item.{Item}
use Rattle.itip_message.proofs.ReadAgain.{reads_again}
use Rattle.itip_report.specs.Resending.{IsResend}

pub sent_alone : (heard : List Item) (uid bytes : List ℕ) (sent : IsResend heard uid bytes) → sent.overrides ≡ [] →
    ReadsMessage bytes (sent.series ∷ [])
sent_alone heard uid bytes sent none =
    let alone : bytes ≡ sent.series.bytes =
    sent.bytes_are ∙ ap (λ (items : List Item). flat_map (λ (item : Item). item.bytes) (sent.series ∷ items)) none ∙
    append-nil sent.series.bytes in
    subst (λ (text : List ℕ). ReadsMessage text (sent.series ∷ [])) (sym alone) (reads_again sent.series)
