-- The to-dos that cancel an instance and all after it are the right ones, in their order.
use Rattle.std.proofs.Common.{◌≡◌, ◌∙◌, ℕ, ◌+◌, List, [], ◌∷◌, map, refl, sym, ap, subst, ◌⊎◌, inl, inr, arith, Bool, true, false}
use Rattle.std.proofs.Common.{Some}
use Rattle.std.specs.Prelude.{cond}
use Rattle.std.specs.Cmp.{nat_cmp_is, tied_itself}
use Rattle.std.specs.Cmp.Lexicographic.{slice_cmp}
use Rattle.std.specs.List.{AllPairs, Contains}
use Rattle.std.specs.Option.{option_cmp}
use Rattle.std.specs.Ordering.{nat_cmp, ordering_reverse, ordering_then}
use Rattle.std.specs.declared.cmp.Ordering.{Ordering}
use Rattle.std.specs.declared.cmp.Ordering.TheVariants.{Less, Equal, Greater}
use Rattle.std.proofs.lemmas.Cmp.{nat_list_cmp_total, ranked}
use Rattle.std.proofs.lemmas.List.Elements.{Contains-append_cases, Contains-append_left, Contains-append_right}
use Rattle.std.proofs.lemmas.List.Kept.{AllPairs-cons}
use Rattle.itip_moment.specs.Order.{moment_cmp}
use Rattle.itip_moment.specs.OrderLaws.{moment_total}
use Rattle.itip_moment.specs.declared.moment.Moment.{Moment}
use Rattle.itip_moment.specs.declared.stamp.Stamp.{Stamp}
use Rattle.itip_moment.proofs.Same.{moment_equal}
use Rattle.itip_todo.specs.Parts.{Parts}
use Rattle.itip_recur.proofs.MappedLists.{Contains-from_map, Contains-map, IsMapped}
use Rattle.itip_items.specs.Items.{one_if}
use Rattle.itip_items.specs.KeyParts.{instance_of}
use Rattle.itip_items.specs.declared.item.Item.{Item}
use Rattle.itip_items.specs.declared.key.Key.{Key}
use Rattle.itip_items.specs.declared.key.Key.TheVariants.{Series, Instance, Range, Answer, Refresh}
use Rattle.itip_state.proofs.Members.{all_each, cons_cases, cons_first, cons_later, no_pairs, none_in, pairs_append}
use Rattle.itip_state.proofs.OfKey.{head_pair, tail_pairs}
use Rattle.itip_view.specs.InQuestion.{IsInQuestion}
use Rattle.itip_view.specs.Standing.{GovernsBetween, IsLiveInstance, Reaches, Stands, StandsFrom}
use Rattle.itip_view.proofs.Asking.{one_in_question}
use Rattle.itip_report.specs.Lines.{AreReported, place_cmp}
use Rattle.itip_writing.specs.Cancelling.{AreEndings, Ends, EndsInstance, EndsRange, IsAfter, IsEnding, cancelled, ending_cmp}
use Rattle.itip_writing.specs.Endings.{EndsLater, ending_of, endings_of, first_endings, instance_ending, names_instance, names_range}

-- ---- moments

reaches_itself : (m : Moment) → Reaches m m
reaches_itself m = record {
  one_form = record { form = refl; zone = refl };
  not_before = λ less. let x : Less ≡ Equal = sym less ∙ tied_itself moment_total m in cc;
}

after_reaches : (from at : Moment) → IsAfter from at → Reaches from at
after_reaches from at is =
    record { one_form = is.one_form; not_before = λ less. let x : Less ≡ Greater = sym less ∙ is.later in cc }

-- ---- the order of places is that of the to-dos

-- a later part of an order decides where it decided before
then_weaker : (o x y : Ordering) → (x ≡ Less → y ≡ Less) → ordering_then o x ≡ Less → ordering_then o y ≡ Less
then_weaker Less x y f e = refl
then_weaker Equal x y f e = f e
then_weaker Greater x y f e = e

lower : (m n : ℕ) → nat_cmp (m + 1) (n + 1) ≡ Less → nat_cmp m n ≡ Less
lower m n e = let below = ranked (m + 1) (n + 1) Less (sym e) in sym (nat_cmp_is m n Less (omega (arith, below)))

by_ranks : (u v : List ℕ) (a b : Moment) (m n : ℕ) → u ≡ v →
    ordering_then (slice_cmp nat_cmp u v)
    (ordering_then (moment_cmp a b) (ordering_then (slice_cmp nat_cmp [] []) (nat_cmp (m + 1) (n + 1)))) ≡ Less →
    ordering_then (moment_cmp a b) (nat_cmp m n) ≡ Less
by_ranks u v a b m n same e =
    let last : Ordering = nat_cmp (m + 1) (n + 1) in
    let rest : Ordering = ordering_then (moment_cmp a b) (ordering_then (slice_cmp nat_cmp [] []) last) in
    let uids : slice_cmp nat_cmp u v ≡ Equal =
    ap (λ (w : List ℕ). slice_cmp nat_cmp w v) same ∙ tied_itself nat_list_cmp_total v in
    let without : rest ≡ Less = sym (ap (λ (o : Ordering). ordering_then o rest) uids) ∙ e in
    then_weaker (moment_cmp a b) (ordering_then (slice_cmp nat_cmp [] []) last) (nat_cmp m n)
    (λ less. lower m n
    (sym (ap (λ (o : Ordering). ordering_then o last) (tied_itself nat_list_cmp_total [])) ∙ less)) without

-- of an instance or a range of the UID
abbrev IsOfUid : List ℕ → Key → Type 0
IsOfUid uid (Series u) = ⊥
IsOfUid uid (Instance u id) = u ≡ uid
IsOfUid uid (Range u id) = u ≡ uid
IsOfUid uid (Answer u id attendee) = ⊥
IsOfUid uid (Refresh u id attendee) = ⊥

abbrev ended_cmp : Key → Key → Ordering
ended_cmp a b =
    ordering_then (option_cmp moment_cmp (instance_of a) (instance_of b)) (nat_cmp (one_if (names_range a)) (one_if (names_range b)))

by_keys : (uid : List ℕ) (a b : Key) → IsOfUid uid a → IsOfUid uid b → place_cmp a b ≡ Less → ended_cmp a b ≡ Less
by_keys uid (Series u) b h k e = absurd h
by_keys uid (Answer u x attendee) b h k e = absurd h
by_keys uid (Refresh u x attendee) b h k e = absurd h
by_keys uid (Instance u x) (Series v) h k e = absurd k
by_keys uid (Instance u x) (Instance v y) h k e = by_ranks u v x y 0 0 (h ∙ sym k) e
by_keys uid (Instance u x) (Range v y) h k e = by_ranks u v x y 0 1 (h ∙ sym k) e
by_keys uid (Instance u x) (Answer v y attendee) h k e = absurd k
by_keys uid (Instance u x) (Refresh v y attendee) h k e = absurd k
by_keys uid (Range u x) (Series v) h k e = absurd k
by_keys uid (Range u x) (Instance v y) h k e = by_ranks u v x y 1 0 (h ∙ sym k) e
by_keys uid (Range u x) (Range v y) h k e = by_ranks u v x y 1 1 (h ∙ sym k) e
by_keys uid (Range u x) (Answer v y attendee) h k e = absurd k
by_keys uid (Range u x) (Refresh v y attendee) h k e = absurd k

-- what holds of all pairs of a list holds of what is made of them
mapped_pairs : (f : Item → Parts) (R : Item → Item → Type 0) (S : Parts → Parts → Type 0) (xs : List Item) → AllPairs R xs →
    ((a b : Item) → Contains xs a → Contains xs b → R a b → S (f a) (f b)) → AllPairs S (map f xs)
mapped_pairs f R S [] pairs holds = no_pairs S
mapped_pairs f R S (x ∷ xs) pairs holds =
    AllPairs-cons S (f x) (map f xs)
    (all_each (S (f x)) (map f xs) (λ y h.
    let from : IsMapped f xs y = Contains-from_map f xs y h in
    subst (S (f x)) from.is
    (holds x from.from (cons_first x xs) (cons_later x xs from.from from.among) (head_pair R x xs pairs from.from from.among))))
    (mapped_pairs f R S xs (tail_pairs R x xs pairs) (λ a b h k. holds a b (cons_later x xs a h) (cons_later x xs b k)))

one_pair : (R : Parts → Parts → Type 0) (p : Parts) → AllPairs R (p ∷ [])
one_pair R p = λ i j d below inside. absurd (omega (arith, below, inside))

-- ---- what is put together

module _ (heard : List Item) (uid : List ℕ) (from : Moment) (item : Item) (governs : IsInQuestion heard uid (Some from) item) (n : ℕ)
    (stamp : Stamp) where
  -- it ends the instance at the moment, and all from the moment on
  abbrev at_moment : Parts
  at_moment = cancelled uid item (Some from) false n stamp

  abbrev from_moment : Parts
  from_moment = cancelled uid item (Some from) true n stamp

  abbrev instance_first : List Parts
  instance_first = instance_ending uid item from n stamp

  abbrev firsts : List Parts
  firsts = first_endings uid item from n stamp

  abbrev IsBefore : Parts → Parts → Type 0
  IsBefore a b = ending_cmp a b ≡ Less

  -- an item of an instance alone that governs stands there
  instance_governs : names_instance item.key ≡ true → IsLiveInstance heard uid from item
  instance_governs is = by governs
    where
      between : GovernsBetween heard uid from item → ⊥
      between (inl range) = let x : false ≡ true = sym (ap names_instance range.rules.stands.best.about) ∙ is in cc
      between (inr (none, live)) = let x : false ≡ true = sym (ap names_instance live.best.about) ∙ is in cc

      by : IsInQuestion heard uid (Some from) item → IsLiveInstance heard uid from item
      by (inl live) = live
      by (inr other) = absurd (between other.governs)

  in_instance : (p : Parts) → Contains instance_first p → (names_instance item.key ≡ true) × (at_moment ≡ p)
  in_instance p = by (names_instance item.key) refl
    where
      by : (b : Bool) → names_instance item.key ≡ b → Contains (cond b (at_moment ∷ []) []) p →
          (names_instance item.key ≡ true) × (at_moment ≡ p)
      by true e h = elim (cons_cases at_moment [] p h) [ inl same ↦ (e, same) | inr none ↦ absurd (none_in p none) ]
      by false e h = absurd (none_in p h)

  in_range : (p : Parts) → Contains (from_moment ∷ []) p → from_moment ≡ p
  in_range p h = elim (cons_cases from_moment [] p h) [ inl same ↦ same | inr none ↦ absurd (none_in p none) ]

  first_each : (p : Parts) → Contains firsts p → IsEnding heard uid from n stamp p
  first_each p h = elim (Contains-append_cases instance_first (from_moment ∷ []) p h) [
    | inl here ↦
        let is = in_instance p here in record {
          id = from;
          range = false;
          item = item;
          ends = record { live = instance_governs is.0; reached = reaches_itself from };
          parts_are = sym is.1;
        }
    | inr rest ↦ record { id = from; range = true; item = item; ends = inl (refl, governs); parts_are = sym (in_range p rest) }
  ]

  first_rid : (p : Parts) → Contains firsts p → p.rid ≡ Some from
  first_rid p h = elim (Contains-append_cases instance_first (from_moment ∷ []) p h) [
    | inl here ↦ sym (ap (λ (q : Parts). q.rid) (in_instance p here).1)
    | inr rest ↦ sym (ap (λ (q : Parts). q.rid) (in_range p rest))
  ]

  first_pairs : AllPairs IsBefore firsts
  first_pairs = pairs_append IsBefore instance_first (from_moment ∷ []) (by (names_instance item.key)) (one_pair IsBefore from_moment)
      (λ a b h k. subst (λ (q : Parts). IsBefore q b) (in_instance a h).1 (subst (IsBefore at_moment) (in_range b k) instance_before))
    where
      by : (b : Bool) → AllPairs IsBefore (cond b (at_moment ∷ []) [])
      by true = one_pair IsBefore at_moment
      by false = no_pairs IsBefore

      instance_before : IsBefore at_moment from_moment
      instance_before = ap (λ (o : Ordering). ordering_then o (nat_cmp 0 1)) (tied_itself moment_total from)

  -- ---- those after it
  later_ending : (i : Item) → EndsLater heard uid from i → IsEnding heard uid from n stamp (ending_of uid n stamp i)
  later_ending i is = by is.standing.id is.standing.stands is.after
    where
      by : (id : Moment) → Stands heard uid id i ⊎ StandsFrom heard uid id i → IsAfter from id →
          IsEnding heard uid from n stamp (ending_of uid n stamp i)
      by id (inl at) after = record {
        id = id;
        range = false;
        item = i;
        ends = record { live = record { stands = at; live = is.live }; reached = after_reaches from id after };
        parts_are = ap (λ (k : Key). cancelled uid i (instance_of k) (names_range k) n stamp) at.best.about;
      }
      by id (inr on) after = record {
        id = id;
        range = true;
        item = i;
        ends = inr (record { stands = on; live = is.live; after = after });
        parts_are = ap (λ (k : Key). cancelled uid i (instance_of k) (names_range k) n stamp) on.best.about;
      }

  later_rid : (i : Item) (is : EndsLater heard uid from i) → instance_of i.key ≡ Some is.standing.id
  later_rid i is = elim is.standing.stands [ inl at ↦ ap instance_of at.best.about | inr on ↦ ap instance_of on.best.about ]

  later_uid : (i : Item) → EndsLater heard uid from i → IsOfUid uid i.key
  later_uid i is = elim is.standing.stands [
    | inl at ↦ subst (IsOfUid uid) (sym at.best.about) refl
    | inr on ↦ subst (IsOfUid uid) (sym on.best.about) refl
  ]

  first_before : (p : Parts) → Contains firsts p → (i : Item) → EndsLater heard uid from i → IsBefore p (ending_of uid n stamp i)
  first_before p h i is =
      let less : moment_cmp from is.standing.id ≡ Less =
      moment_total.antisymm from is.standing.id ∙ ap ordering_reverse is.after.later in
      let ids : option_cmp moment_cmp p.rid (instance_of i.key) ≡ Less =
      (λ k. option_cmp moment_cmp (first_rid p h k) (later_rid i is k)) ∙ less in
      ap (λ (o : Ordering). ordering_then o (nat_cmp (one_if p.range) (one_if (names_range i.key)))) ids

  -- ---- all of them
  module _ (later : List Item) (reported : AreReported (EndsLater heard uid from) later) where
    abbrev mapped : List Parts
    mapped = map (ending_of uid n stamp) later

    abbrev whole : List Parts
    whole = endings_of uid item from n stamp later

    mapped_item : (p : Parts) → Contains mapped p → IsMapped (ending_of uid n stamp) later p
    mapped_item p h = Contains-from_map (ending_of uid n stamp) later p h

    endings_ascend : AllPairs IsBefore whole
    endings_ascend = pairs_append IsBefore firsts mapped first_pairs
        (mapped_pairs (ending_of uid n stamp) (λ (a b : Item). place_cmp a.key b.key ≡ Less) IsBefore later reported.ascend
        (λ a b h k e. by_keys uid a.key b.key (later_uid a (reported.each a h)) (later_uid b (reported.each b k)) e))
        (λ p q h k.
        let i : IsMapped (ending_of uid n stamp) later q = mapped_item q k in
        subst (IsBefore p) i.is (first_before p h i.from (reported.each i.from i.among)))

    endings_each : (p : Parts) → Contains whole p → IsEnding heard uid from n stamp p
    endings_each p h = elim (Contains-append_cases firsts mapped p h) [
      | inl first ↦ first_each p first
      | inr other ↦
          let i : IsMapped (ending_of uid n stamp) later p = mapped_item p other in
          subst (IsEnding heard uid from n stamp) i.is (later_ending i.from (reported.each i.from i.among))
    ]

    -- another item that governs is the same one
    same_item : (i : Item) → IsInQuestion heard uid (Some from) i → i ≡ item
    same_item i other = one_in_question heard uid (Some from) i item other governs

    first_there : (p : Parts) → Contains firsts p → Contains whole p
    first_there p h = Contains-append_left firsts mapped p h

    later_there : (i : Item) → EndsLater heard uid from i → Contains whole (ending_of uid n stamp i)
    later_there i is =
        Contains-append_right firsts mapped (ending_of uid n stamp i) (Contains-map (ending_of uid n stamp) later i (reported.all i is))

    instance_there : (id : Moment) (i : Item) → EndsInstance heard uid from id i → Contains whole (cancelled uid i (Some id) false n stamp)
    instance_there id i ends = by (moment_cmp id from) refl
      where
        at_from : id ≡ from → Contains whole (cancelled uid i (Some id) false n stamp)
        at_from same =
            let is : i ≡ item = same_item i (inl (subst (λ (m : Moment). IsLiveInstance heard uid m i) same ends.live)) in
            let named : names_instance item.key ≡ true =
            ap (λ (j : Item). names_instance j.key) (sym is) ∙ ap names_instance ends.live.stands.best.about in
            let there : Contains instance_first at_moment =
            subst (λ (b : Bool). Contains (cond b (at_moment ∷ []) []) at_moment) (sym named) (cons_first at_moment []) in
            subst (Contains whole) (λ k. cancelled uid (sym is k) (Some (sym same k)) false n stamp)
            (first_there at_moment (Contains-append_left instance_first (from_moment ∷ []) at_moment there))

        by : (o : Ordering) → moment_cmp id from ≡ o → Contains whole (cancelled uid i (Some id) false n stamp)
        by Less e = absurd (ends.reached.not_before e)
        by Equal e = at_from (moment_equal id from e)
        by Greater e =
            let is : EndsLater heard uid from i = record {
              standing = record { id = id; stands = inl ends.live.stands };
              live = ends.live.live;
              after = record { one_form = ends.reached.one_form; later = e };
            } in
            subst (Contains whole) (ap (λ (k : Key). cancelled uid i (instance_of k) (names_range k) n stamp) ends.live.stands.best.about)
            (later_there i is)

    range_there : (id : Moment) (i : Item) → EndsRange heard uid from id i → Contains whole (cancelled uid i (Some id) true n stamp)
    range_there id i ends =
        let is : EndsLater heard uid from i = record {
          standing = record { id = id; stands = inr ends.stands };
          live = ends.live;
          after = ends.after;
        } in
        subst (Contains whole) (ap (λ (k : Key). cancelled uid i (instance_of k) (names_range k) n stamp) ends.stands.best.about)
        (later_there i is)

    all_there : (id : Moment) (i : Item) → id ≡ from → IsInQuestion heard uid (Some from) i →
        Contains whole (cancelled uid i (Some id) true n stamp)
    all_there id i same other =
        let is : i ≡ item = same_item i other in
        subst (Contains whole) (λ k. cancelled uid (sym is k) (Some (sym same k)) true n stamp)
        (first_there from_moment (Contains-append_right instance_first (from_moment ∷ []) from_moment (cons_first from_moment [])))

    there : (id : Moment) (range : Bool) (i : Item) → Ends heard uid from id range i →
        Contains whole (cancelled uid i (Some id) range n stamp)
    there id false i ends = instance_there id i ends
    there id true i (inl (same, other)) = all_there id i same other
    there id true i (inr ends) = range_there id i ends

    pub endings_are : AreEndings heard uid from n stamp whole
    endings_are = record {
      ascend = endings_ascend;
      each = endings_each;
      every = λ p is. subst (Contains whole) (sym is.parts_are) (there is.id is.range is.item is.ends);
    }
