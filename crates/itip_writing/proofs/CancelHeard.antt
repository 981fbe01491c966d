-- A cancellation with the next sequence is the latest of its key, and nothing stands where it cancels.
use Rattle.std.proofs.Common.{◌≡◌, ◌<◌, ℕ, List, ◌++◌, refl, sym, ◌∙◌, ap, subst, inl, inr, true, false, arith, Some, None}
use Rattle.std.specs.Prelude.{Bool}
use Rattle.std.specs.List.{Contains}
use Rattle.std.specs.declared.cmp.Ordering.{Ordering}
use Rattle.std.specs.declared.cmp.Ordering.TheVariants.{Less, Equal, Greater}
use Rattle.std.proofs.lemmas.List.Elements.{Contains-append_cases, Contains-append_left, Contains-append_right}
use Rattle.std.proofs.lemmas.Option.{same_Some}
use Rattle.itip_moment.specs.Order.{moment_cmp}
use Rattle.itip_moment.specs.declared.moment.Moment.{Moment}
use Rattle.itip_moment.proofs.Same.{moment_equal}
use Rattle.itip_items.specs.Items.{instance_key}
use Rattle.itip_items.specs.KeyParts.{uid_of}
use Rattle.itip_items.specs.declared.item.Item.{Item}
use Rattle.itip_items.specs.declared.key.Key.{Key}
use Rattle.itip_items.specs.declared.key.Key.TheVariants as key
use Rattle.itip_items.specs.declared.kind.Kind.TheVariants as kind
use Rattle.itip_state.specs.Kept.{IsBest}
use Rattle.itip_state.proofs.Best.{best_above, greater_eff}
use Rattle.itip_state.proofs.Keeping.{best_part}
use Rattle.itip_view.specs.Rows.{IsRow, moment_of}
use Rattle.itip_view.specs.Standing.{is_live, IsLive, HaveOneForm, Reaches, Rules, NoneRules, NoneStands, StandsUnder, IsLiveSeries}
use Rattle.itip_view.specs.Standing.{IsLiveInstance}
use Rattle.itip_view.specs.declared.row.Row.{Row}
use Rattle.itip_view.specs.declared.window.Window.{Window}
use Rattle.itip_report.specs.NextSequence.{IsNext}
use Rattle.itip_writing.specs.Cancelling.{Ends}
use Rattle.itip_writing.proofs.RequestStands.{IsTask, task_below}

-- each of the items cancels, and has this sequence
abbrev pub AreCancels : ℕ → List Item → Type 0
AreCancels n items = (i : Item) → Contains items i → (i.kind ≡ kind.Cancel) × (i.eff ≡ n)

-- one of the items has this key
pub record HasKey (items : List Item) (k : Key) : Type 0 where
  pub item : Item
  pub there : Contains items item
  pub about : item.key ≡ k

-- the best item of a key is one of the items
pub record IsNewBest (heard items : List Item) (k : Key) : Type 0 where
  pub item : Item
  pub best : IsBest (heard ++ items) k item
  pub there : Contains items item

module _ (heard items : List Item) (uid : List ℕ) (n : ℕ) (next : IsNext heard uid (Some n)) (new : AreCancels n items) where
  not_live : (i : Item) → Contains items i → IsLive i → ⊥
  not_live i h live = let x : true ≡ false = sym live ∙ ap is_live (new i h).0 in cc

  -- if one of the items has a key, the best of that key is one of them
  best_is_new : (k : Key) → IsTask k → uid_of k ≡ uid → HasKey items k → (b : Item) → IsBest (heard ++ items) k b → Contains items b
  best_is_new k task of has b best = elim (Contains-append_cases heard items b best.is_heard) [
    | inl old ↦
        let low : b.eff < n = task_below heard uid n next b old (subst IsTask (sym best.about) task) (ap uid_of best.about ∙ of) in
        let up : has.item.eff ≡ n = (new has.item has.there).1 in
        absurd (best.none_later has.item (Contains-append_right heard items has.item has.there) has.about
        (greater_eff has.item b (omega (arith, low, up))))
    | inr there ↦ there
  ]

  new_best : (k : Key) → IsTask k → uid_of k ≡ uid → HasKey items k → IsNewBest heard items k
  new_best k task of has =
      let found = best_above (heard ++ items) has.item (Contains-append_right heard items has.item has.there) in
      let best : IsBest (heard ++ items) k found.0 = subst (λ (q : Key). IsBest (heard ++ items) q found.0) has.about found.1 in
      record { item = found.0; best = best; there = best_is_new k task of has found.0 best }

  -- ---- the to-do as a whole is cancelled
  module _ (has : HasKey items (key.Series uid)) where
    no_live_series : (s : Item) → ¬ IsLiveSeries (heard ++ items) uid s
    no_live_series s live = not_live s (best_is_new (key.Series uid) tt refl has s live.best) live.live

    no_live_instance : (at : Moment) (i : Item) → ¬ IsLiveInstance (heard ++ items) uid at i
    no_live_instance at i live = elim (Contains-append_cases heard items i live.stands.best.is_heard) [
      | inl old ↦
          let low : i.eff < n =
          task_below heard uid n next i old (subst IsTask (sym live.stands.best.about) tt) (ap uid_of live.stands.best.about) in
          let series : IsNewBest heard items (key.Series uid) = new_best (key.Series uid) tt refl has in
          let up : series.item.eff ≡ n = (new series.item series.there).1 in
          let over : series.item.eff < i.eff =
          (live.stands.beside series.item series.best).cancelled (ap is_live (new series.item series.there).0) in
          absurd (omega (arith, low, up, over))
      | inr there ↦ not_live i there live.live
    ]

    pub whole_no_row : (window : Window) (row : Row) → IsRow (heard ++ items) window row → row.uid ≡ uid → ⊥
    whole_no_row window row (inl p) of =
        no_live_instance p.at p.item (subst (λ (u : List ℕ). IsLiveInstance (heard ++ items) u p.at p.item) of p.live)
    whole_no_row window row (inr (inl p)) of =
        no_live_series p.item (subst (λ (u : List ℕ). IsLiveSeries (heard ++ items) u p.item) of p.live)
    whole_no_row window row (inr (inr (inl p))) of =
        no_live_series p.whole (subst (λ (u : List ℕ). IsLiveSeries (heard ++ items) u p.whole) of p.live_series)
    whole_no_row window row (inr (inr (inr (inl p)))) of =
        no_live_series p.item (subst (λ (u : List ℕ). IsLiveSeries (heard ++ items) u p.item) of p.live)
    whole_no_row window row (inr (inr (inr (inr p)))) of =
        no_live_series p.item (subst (λ (u : List ℕ). IsLiveSeries (heard ++ items) u p.item) of p.live)

  -- ---- instances and ranges are cancelled, and not the to-do as a whole
  module _ (no_series : (i : Item) → Contains items i → i.key ≡ key.Series uid → ⊥) where
    series_old : (s : Item) → IsBest (heard ++ items) (key.Series uid) s → Contains heard s
    series_old s best = elim (Contains-append_cases heard items s best.is_heard) [
      | inl old ↦ old
      | inr there ↦ absurd (no_series s there best.about)
    ]

    series_all : (s : Item) → IsBest heard (key.Series uid) s → IsBest (heard ++ items) (key.Series uid) s
    series_all s best = record {
      is_heard = Contains-append_left heard items s best.is_heard;
      about = best.about;
      none_later = λ j h same. elim (Contains-append_cases heard items j h) [
        | inl old ↦ best.none_later j old same
        | inr there ↦ absurd (no_series j there same)
      ];
    }

    new_stands : (k : Key) (b : IsNewBest heard items k) → StandsUnder (heard ++ items) uid k b.item
    new_stands k b = record {
      best = b.best;
      beside = λ s best.
          let low : s.eff < n =
          task_below heard uid n next s (series_old s best) (subst IsTask (sym best.about) tt) (ap uid_of best.about) in
          let up : b.item.eff ≡ n = (new b.item b.there).1 in
          record { live = λ _. omega (arith, low, up); cancelled = λ _. omega (arith, low, up) };
    }

    -- what stands and is none of the items stood before
    old_stands : (k : Key) (i : Item) → Contains heard i → StandsUnder (heard ++ items) uid k i → StandsUnder heard uid k i
    old_stands k i old stands = record {
      best = best_part (heard ++ items) heard k i (Contains-append_left heard items) stands.best old;
      beside = λ s best. stands.beside s (series_all s best);
    }

    pub instance_no_row : (id : Moment) → HasKey items (key.Instance uid id) → (window : Window) (row : Row) →
        IsRow (heard ++ items) window row → row.uid ≡ uid → moment_of row.id ≡ Some id → ⊥
    instance_no_row id has window row is of named = by is
      where
        none : NoneStands (heard ++ items) uid id → ⊥
        none not =
            let b : IsNewBest heard items (key.Instance uid id) = new_best (key.Instance uid id) tt refl has in
            not b.item (new_stands (key.Instance uid id) b)

        at_id : (at : Moment) → moment_of row.id ≡ Some at → at ≡ id
        at_id at e = same_Some at id (sym e ∙ named)

        none_at : (at : Moment) → moment_of row.id ≡ Some at → NoneStands (heard ++ items) row.uid at → ⊥
        none_at at e not = none (subst (λ (m : Moment). NoneStands (heard ++ items) uid m) (at_id at e)
            (subst (λ (u : List ℕ). NoneStands (heard ++ items) u at) of not))

        by : IsRow (heard ++ items) window row → ⊥
        by (inl p) =
            let live : IsLiveInstance (heard ++ items) uid id p.item =
            subst (λ (m : Moment). IsLiveInstance (heard ++ items) uid m p.item) (at_id p.at (ap moment_of p.id))
            (subst (λ (u : List ℕ). IsLiveInstance (heard ++ items) u p.at p.item) of p.live) in
            not_live p.item (best_is_new (key.Instance uid id) tt refl has p.item live.stands.best) live.live
        by (inr (inl p)) = none_at p.at (ap moment_of p.id) p.none_stands
        by (inr (inr (inl p))) = none_at p.at (ap moment_of p.id) p.none_stands
        by (inr (inr (inr (inl p)))) = let x : None ≡ Some id = sym (ap moment_of p.id) ∙ named in cc
        by (inr (inr (inr (inr p)))) = let x : None ≡ Some id = sym (ap moment_of p.id) ∙ named in cc

    -- ---- with all from a moment on
    module _ (from : Moment) (has : HasKey items (key.Range uid from))
        (ends : (id : Moment) (range : Bool) (i : Item) → Ends heard uid from id range i → HasKey items (instance_key range uid id)) where
      no_instance : (at : Moment) → Reaches from at → (i : Item) → ¬ IsLiveInstance (heard ++ items) uid at i
      no_instance at reached i live = elim (Contains-append_cases heard items i live.stands.best.is_heard) [
        | inl old ↦
            let over : HasKey items (key.Instance uid at) = ends at false i (record {
              live = record { stands = old_stands (key.Instance uid at) i old live.stands; live = live.live };
              reached = reached;
            }) in
            not_live i (best_is_new (key.Instance uid at) tt refl over i live.stands.best) live.live
        | inr there ↦ not_live i there live.live
      ]

      new_range : IsNewBest heard items (key.Range uid from)
      new_range = new_best (key.Range uid from) tt refl has

      range_stands : StandsUnder (heard ++ items) uid (key.Range uid from) new_range.item
      range_stands = new_stands (key.Range uid from) new_range

      some_rules : (at : Moment) → Reaches from at → NoneRules (heard ++ items) uid at → ⊥
      some_rules at reached none = none from new_range.item range_stands reached

      no_range : (at : Moment) → Reaches from at → (id : Moment) (i : Item) → Rules (heard ++ items) uid at id i → IsLive i → ⊥
      no_range at reached id i rules live = by (moment_cmp id from) refl
        where
          one_form : HaveOneForm from id
          one_form = record {
            form = sym rules.reaches.one_form.form ∙ reached.one_form.form;
            zone = sym rules.reaches.one_form.zone ∙ reached.one_form.zone;
          }

          by : (o : Ordering) → moment_cmp id from ≡ o → ⊥
          by Less e = rules.greatest from new_range.item range_stands reached e
          by Equal e = not_live i (best_is_new (key.Range uid from) tt refl has i
              (subst (λ (m : Moment). IsBest (heard ++ items) (key.Range uid m) i) (moment_equal id from e) rules.stands.best)) live
          by Greater e = elim (Contains-append_cases heard items i rules.stands.best.is_heard) [
            | inl old ↦
                let over : HasKey items (key.Range uid id) = ends id true i (inr (record {
                  stands = old_stands (key.Range uid id) i old rules.stands;
                  live = live;
                  after = record { one_form = one_form; later = e };
                })) in
                not_live i (best_is_new (key.Range uid id) tt refl over i rules.stands.best) live
            | inr there ↦ not_live i there live
          ]

      pub onward_no_row : (window : Window) (row : Row) → IsRow (heard ++ items) window row → row.uid ≡ uid → (at : Moment) →
          moment_of row.id ≡ Some at → Reaches from at → ⊥
      onward_no_row window row is of at named reached = by is
        where
          at_is : (m : Moment) → moment_of row.id ≡ Some m → m ≡ at
          at_is m e = same_Some m at (sym e ∙ named)

          by : IsRow (heard ++ items) window row → ⊥
          by (inl p) = no_instance at reached p.item
              (subst (λ (m : Moment). IsLiveInstance (heard ++ items) uid m p.item) (at_is p.at (ap moment_of p.id))
              (subst (λ (u : List ℕ). IsLiveInstance (heard ++ items) u p.at p.item) of p.live))
          by (inr (inl p)) = some_rules at reached
              (subst (λ (m : Moment). NoneRules (heard ++ items) uid m) (at_is p.at (ap moment_of p.id))
              (subst (λ (u : List ℕ). NoneRules (heard ++ items) u p.at) of p.none_rules))
          by (inr (inr (inl p))) = no_range at reached p.from p.item
              (subst (λ (m : Moment). Rules (heard ++ items) uid m p.from p.item) (at_is p.at (ap moment_of p.id))
              (subst (λ (u : List ℕ). Rules (heard ++ items) u p.at p.from p.item) of p.rules)) p.live
          by (inr (inr (inr (inl p)))) = let x : None ≡ Some at = sym (ap moment_of p.id) ∙ named in cc
          by (inr (inr (inr (inr p)))) = let x : None ≡ Some at = sym (ap moment_of p.id) ∙ named in cc
