-- Which item governs, that at most one does, and that a row shows it.
use Rattle.std.proofs.Common.{◌≡◌, ℕ, List, refl, sym, ◌∙◌, ap, subst, inl, inr, true, false, Option, Some, None}
use Rattle.std.specs.Prelude.{MatchOption, if◌then◌else◌}
use Rattle.itip_moment.specs.declared.moment.Moment.{Moment}
use Rattle.itip_items.specs.declared.item.Item.{Item}
use Rattle.itip_items.specs.declared.key.Key.TheVariants.{Series, Instance}
use Rattle.itip_view.specs.RowsOfUid.{IsSeriesItem}
use Rattle.itip_view.specs.Rows.{HasFields, IsRow, ShowsGoverning, moment_of}
use Rattle.itip_view.specs.Standing.{is_live, if_live, IsLive, IsCancelled, Stands, NoneStands, Rules, NoneRules, IsLiveSeries}
use Rattle.itip_view.specs.Standing.{GovernsBetween, Governs}
use Rattle.itip_view.specs.declared.row.Row.{Row}
use Rattle.itip_view.specs.declared.window.Window.{Window}
use Rattle.itip_view.proofs.OneRow.{one_best, one_rules}

pub not_both : (i : Item) → IsLive i → IsCancelled i → ⊥
not_both i live not = let x : true ≡ false = sym live ∙ not in cc

module _ (items : List Item) (uid : List ℕ) where
  pub live_series : (series : Option Item) → IsSeriesItem items uid series →
      MatchOption (if_live series) ((i : Item) → ¬ IsLiveSeries items uid i) (IsLiveSeries items uid)
  live_series None none = λ i live. none i live.best.is_heard live.best.about
  live_series (Some s) best =
      elim (is_live s.kind) as (λ b. is_live s.kind ≡ b →
      MatchOption (if b then Some s else None) ((i : Item) → ¬ IsLiveSeries items uid i) (IsLiveSeries items uid)) [
        | true ↦ λ e. record { best = best; live = e }
        | false ↦ λ e. λ i live. not_both s (subst IsLive (one_best items (Series uid) i s live.best best) live.live) e
      ] refl

  -- the instance item that stands governs where it is live
  pub governs_standing : (at : Moment) (item : Item) → Stands items uid at item
      → MatchOption (if_live (Some item)) ((g : Item) → ¬ Governs items uid (Some at) g) (Governs items uid (Some at))
  governs_standing at item stands =
      elim (is_live item.kind) as (λ b. is_live item.kind ≡ b →
      MatchOption (if b then Some item else None) ((g : Item) → ¬ Governs items uid (Some at) g) (Governs items uid (Some at))) [
        | true ↦ λ e. inl (record { stands = stands; live = e })
        | false ↦ λ e. λ g governs. elim governs [
          | inl here ↦ not_both item (subst IsLive (one_best items (Instance uid at) g item here.stands.best stands.best) here.live) e
          | inr other ↦ other.0 item stands
        ]
      ] refl

  -- the range item that rules governs where it is live
  pub governs_ruled : (at id : Moment) (item : Item) → Rules items uid at id item
      → MatchOption (if_live (Some item)) ((g : Item) → ¬ GovernsBetween items uid at g) (GovernsBetween items uid at)
  governs_ruled at id item rules =
      elim (is_live item.kind) as (λ b. is_live item.kind ≡ b →
      MatchOption (if b then Some item else None) ((g : Item) → ¬ GovernsBetween items uid at g) (GovernsBetween items uid at)) [
        | true ↦ λ e. inl (record { id = id; rules = rules; live = e })
        | false ↦ λ e. λ g governs. elim governs [
          | inl range ↦ not_both item (subst IsLive (one_rules items uid at range.id id g item range.rules rules) range.live) e
          | inr other ↦ other.0 id item rules.stands rules.reaches
        ]
      ] refl

  pub governs_unruled : (at : Moment) (series : Option Item) → IsSeriesItem items uid series → NoneRules items uid at
      → MatchOption (if_live series) ((g : Item) → ¬ GovernsBetween items uid at g) (GovernsBetween items uid at)
  governs_unruled at series of none = by (if_live series) (live_series series of)
    where
      by : (o : Option Item) → MatchOption o ((i : Item) → ¬ IsLiveSeries items uid i) (IsLiveSeries items uid) →
          MatchOption o ((g : Item) → ¬ GovernsBetween items uid at g) (GovernsBetween items uid at)
      by None not = λ g governs. elim governs [
        | inl range ↦ none range.id g range.rules.stands range.rules.reaches
        | inr other ↦ not g
            other.1
      ]
      by (Some s) live = inr (none, live)

  pub governs_between : (at : Moment) → NoneStands items uid at → (o : Option Item) →
      MatchOption o ((g : Item) → ¬ GovernsBetween items uid at g) (GovernsBetween items uid at)
      → MatchOption o ((g : Item) → ¬ Governs items uid (Some at) g) (Governs items uid (Some at))
  governs_between at none None not = λ g governs. elim governs [ inl here ↦ none g here.stands | inr other ↦ not g other.1 ]
  governs_between at none (Some s) between = inr (none, between)

  one_between : (at : Moment) (a b : Item) → GovernsBetween items uid at a → GovernsBetween items uid at b → a ≡ b
  one_between at a b (inl p) (inl q) = one_rules items uid at p.id q.id a b p.rules q.rules
  one_between at a b (inl p) (inr q) = absurd (q.0 p.id a p.rules.stands p.rules.reaches)
  one_between at a b (inr p) (inl q) = absurd (p.0 q.id b q.rules.stands q.rules.reaches)
  one_between at a b (inr p) (inr q) = one_best items (Series uid) a b p.1.best q.1.best

  pub one_governs : (id : Option Moment) (a b : Item) → Governs items uid id a → Governs items uid id b → a ≡ b
  one_governs None a b p q = one_best items (Series uid) a b p.best q.best
  one_governs (Some at) a b (inl p) (inl q) = one_best items (Instance uid at) a b p.stands.best q.stands.best
  one_governs (Some at) a b (inl p) (inr q) = absurd (q.0 a p.stands)
  one_governs (Some at) a b (inr p) (inl q) = absurd (p.0 b q.stands)
  one_governs (Some at) a b (inr p) (inr q) = one_between at a b p.1 q.1

module _ (heard : List Item) (window : Window) (row : Row) where
  shows : (m : Option Moment) (item : Item) → moment_of row.id ≡ m → Governs heard row.uid m item → HasFields item row →
      ShowsGoverning heard row
  shows m item named governs fields = record {
    item = item;
    governs = subst (λ (o : Option Moment). Governs heard row.uid o item) (sym named) governs;
    fields = fields;
  }

  pub row_governed : IsRow heard window row → ShowsGoverning heard row
  row_governed (inl p) = shows (Some p.at) p.item (ap moment_of p.id) (inl p.live) p.fields
  row_governed (inr (inl p)) = shows (Some p.at) p.item (ap moment_of p.id) (inr (p.none_stands, inr (p.none_rules, p.live))) p.fields
  row_governed (inr (inr (inl p))) =
      shows (Some p.at) p.item (ap moment_of p.id) (inr (p.none_stands, inl (record { id = p.from; rules = p.rules; live = p.live })))
      p.fields
  row_governed (inr (inr (inr (inl p)))) = shows None p.item (ap moment_of p.id) p.live p.fields
  row_governed (inr (inr (inr (inr p)))) = shows None p.item (ap moment_of p.id) p.live p.fields
