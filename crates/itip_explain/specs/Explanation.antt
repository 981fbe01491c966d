-- The explanation of a to-do (our own format): a line for each item that was told of it, in the order told.
use Rattle.std.specs.Prelude.{◌≡◌, ℕ, List, [], ◌∷◌, ◌++◌}
use Rattle.itip_state.specs.Kept.{AreOf}
use Rattle.itip_streams.specs.declared.source_name.SourceName.{SourceName}
use Rattle.itip_explain.specs.Fates.{IsFate}
use Rattle.itip_explain.specs.Lines.{line_text}
use Rattle.itip_explain.specs.Told.{heard_of}
use Rattle.itip_explain.specs.declared.fate.Fate.{Fate}
use Rattle.itip_explain.specs.declared.told.ToldItem.{ToldItem}

-- the lines of these items of all that was told
abbrev pub AreLines : List ToldItem → List SourceName → List ToldItem → List ℕ → Type 0
AreLines told names [] text = text ≡ []
AreLines told names (one ∷ others) text =
    (became : Fate) × (rest : List ℕ) × IsFate told one.item became × AreLines told names others rest
    × (text ≡ line_text names one became ++ rest)

-- all that was told is of one UID, and these are its lines
pub record IsExplanation (uid : List ℕ) (told : List ToldItem) (names : List SourceName) (text : List ℕ) : Type 0 where
  pub about : AreOf uid (heard_of told)
  pub lines : AreLines told names told text
