-- What a call of `publish` leaves, once its group is among those of all calls.
use Rattle.std.proofs.Common.{◌≡◌, List, [], ◌∷◌, ◌++◌, length, drop, ap, sym, ◌∙◌, subst, inr, append_assoc}
use mathlib.Core.List.{IsPrefix}
use Rattle.itip_running.specs.History.{Group}
use Rattle.itip_running.specs.ContractViews.{IsShownCall, IsRefusedCall}

-- groups that begin those of all calls begin these with one more
goes_on : (gs all : List Group) (g : Group) → all ≡ gs ++ drop (length gs) all → IsPrefix gs (all ++ g ∷ [])
goes_on gs all g begins = (
  drop (length gs) all ++ g ∷ [],
  sym (append_assoc gs (drop (length gs) all) (g ∷ [])) ∙ ap (λ (l : List Group). l ++ g ∷ []) (sym begins),
)

module _ (gs all : List Group) (fresh : Group) (gs' all' : List Group) (fresh' : Group) where
  pub shown_call : all ≡ gs ++ drop (length gs) all → gs' ≡ all ++ fresh ∷ [] → all' ≡ all ++ fresh ∷ [] → fresh' ≡ [] →
      IsShownCall gs all fresh gs' all' fresh'
  shown_call begins shown called none = record {
    groups_are = shown;
    grows = subst (IsPrefix gs) (sym shown) (goes_on gs all fresh begins);
    calls_are = called ∙ sym shown;
    none_fresh = none;
  }

  pub refused_call : gs' ≡ gs → all' ≡ all ++ fresh ∷ [] → fresh' ≡ [] → IsRefusedCall gs all fresh gs' all' fresh'
  refused_call same called none = record { groups_are = same; calls_are = inr (called, none) }
