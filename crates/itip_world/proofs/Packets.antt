-- What a packet tells, and that a delta of a desk is what is kept of it.
use Rattle.std.proofs.Common.{◌≡◌, ℕ, zero, suc, ◌<◌, Bool, true, false, cond, List, [], ◌∷◌, ◌++◌, ◌↔◌, inl, inr, refl, sym, ap, subst}
use Rattle.std.proofs.Common.{◌∙◌, length, get_or, arith, Option, Some, None, nat_lt}
use Rattle.std.specs.Prelude.{slice_get}
use Rattle.std.specs.List.{Contains, filter}
use Rattle.std.specs.Ordering.{nat_cmp}
use Rattle.std.specs.Cmp.Lexicographic.{slice_cmp}
use Rattle.std.proofs.lemmas.Bool.Decides.{nat_tests}
use Rattle.itip_join.specs.KeyByKey.{value_at}
use Rattle.itip_items.specs.KeyParts.{uid_of}
use Rattle.itip_items.specs.declared.item.Item.{Item}
use Rattle.itip_state.specs.Kept.{IsKept}
use Rattle.itip_desk.specs.Desk.{Shown, IsDeskOf, IsDeltaOf, CarriesAfter}
use Rattle.itip_desk.specs.HeardSteps.{heard}
use Rattle.itip_desk.proofs.Told.{kept_alike}
use Rattle.itip_world.specs.Worlds.{History, IsPacketOf, IsBatchOf, IsPacketText, ArePacketTexts}
use Rattle.itip_world.proofs.Ascending.{IsIn, in_contained, contained_in}

-- ---- the items of a list that a test lets through

module _ {X : Type 0} (test : X → Bool) where
  let_through : (xs : List X) (y : X) → IsIn (filter test xs) y → IsIn xs y × (test y ≡ true)
  let_through [] y h = absurd h
  let_through (x ∷ xs) y h =
      elim (test x) as (λ b. test x ≡ b → IsIn (cond b (x ∷ filter test xs) (filter test xs)) y → IsIn (x ∷ xs) y × (test y ≡ true)) [
        | true ↦ λ e k. elim k [
          | inl same ↦ (inl same, subst (λ (z : X). test z ≡ true) same e)
          | inr rest ↦ let r =
              let_through xs y rest in (inr r.0, r.1)
        ]
        | false ↦ λ e k. let r = let_through xs y k in (inr r.0, r.1)
      ] refl h

  goes_through : (xs : List X) (y : X) → IsIn xs y → test y ≡ true → IsIn (filter test xs) y
  goes_through [] y h pass = absurd h
  goes_through (x ∷ xs) y h pass =
      elim (test x) as (λ b. test x ≡ b → IsIn (x ∷ xs) y → IsIn (cond b (x ∷ filter test xs) (filter test xs)) y) [
        | true ↦ λ e k. elim k [ inl same ↦ inl same | inr rest ↦ inr (goes_through xs y rest pass) ]
        | false ↦ λ e k. elim k [
          | inl same ↦ let wrong : false ≡ true = sym e ∙ ap test same ∙ pass in absurd cc
          | inr rest ↦ goes_through xs y rest pass
        ]
      ] refl h

-- ---- the UIDs that carry a tick above another

above : ℕ → Option ℕ → Bool
above since None = false
above since (Some tick) = nat_lt since tick

carries : List (List ℕ × ℕ) → ℕ → List ℕ → Bool
carries changed since uid = above since (value_at (slice_cmp nat_cmp) changed uid)

lt_true : (a b : ℕ) → a < b → nat_lt a b ≡ true
lt_true a b h = grind (arith, nat_tests)

true_lt : (a b : ℕ) → nat_lt a b ≡ true → a < b
true_lt a b h = grind (arith, nat_tests)

carried : (changed : List (List ℕ × ℕ)) (since : ℕ) (uid : List ℕ) → CarriesAfter changed since uid → carries changed since uid ≡ true
unfolding above carries
carried changed since uid (tick, at, more) = ap (above since) at ∙ lt_true since tick more

at_some : (since : ℕ) (o : Option ℕ) → above since o ≡ true → (tick : ℕ) × (o ≡ Some tick) × (since < tick)
unfolding above
at_some since None h = absurd cc
at_some since (Some tick) h = (tick, refl, true_lt since tick h)

carrying : (changed : List (List ℕ × ℕ)) (since : ℕ) (uid : List ℕ) → carries changed since uid ≡ true → CarriesAfter changed since uid
unfolding carries
carrying changed since uid h = at_some since (value_at (slice_cmp nat_cmp) changed uid) h

-- ---- the packet of a post

module _ (history : History) (desk : Shown) (since : ℕ) (batch : List Item) (is : IsDeskOf history.steps history.start desk)
    (delta : IsDeltaOf desk since batch) where
  tells : Item → Bool
  tells item = carries desk.changed since (uid_of item.key)

  its_packet : List Item
  its_packet = filter tells (heard history.steps)

  packet_from : (item : Item) → Contains its_packet item → Contains (heard history.steps) item ×
      (carries desk.changed since (uid_of item.key) ≡ true)
  unfolding its_packet tells
  packet_from item h = let r = let_through tells (heard history.steps) item (in_contained its_packet item h) in
      (contained_in (heard history.steps) item r.0, r.1)

  packet_to : (item : Item) → Contains (heard history.steps) item → carries desk.changed since (uid_of item.key) ≡ true →
      Contains its_packet item
  unfolding its_packet tells
  packet_to item h pass =
      contained_in its_packet item (goes_through tells (heard history.steps) item (in_contained (heard history.steps) item h) pass)

  is_packet : IsPacketOf history since its_packet
  is_packet item = (
    λ h. let r = packet_from item h in (r.0, (is.changed since (uid_of item.key)).0 (carrying desk.changed since (uid_of item.key) r.1)),
    λ (h, m). packet_to item h (carried desk.changed since (uid_of item.key) ((is.changed since (uid_of item.key)).1 m)),
  )

  same_of_uid : (uid : List ℕ) → carries desk.changed since uid ≡ true → (i : Item) → uid_of i.key ≡ uid → IsKept (heard history.steps) i ↔
      IsKept its_packet i
  same_of_uid uid pass = kept_alike uid (heard history.steps) its_packet (λ j about. (
    λ h. packet_to j h (subst (λ (u : List ℕ). carries desk.changed since u ≡ true) (sym about) pass),
    λ h. (packet_from j h).0,
  ))

  is_batch : IsBatchOf its_packet batch
  is_batch = record {
    ascend = delta.ascend;
    kept = λ item. (
      λ h.
          let both = (delta.same item).0 h in
          (same_of_uid (uid_of item.key) (carried desk.changed since (uid_of item.key) both.1) item refl).0 ((is.kept item).0 both.0),
      λ k.
          let pass = (packet_from item k.best.is_heard).1 in
          (delta.same item).1 (
            (is.kept item).1 ((same_of_uid (uid_of item.key) pass item refl).1 k),
            carrying desk.changed since (uid_of item.key) pass,
          ),
    );
  }

  -- the delta of a desk is what is kept of everything that it heard of the UIDs that moved
  pub posted : (told : List Item) × IsPacketOf history since told × IsBatchOf told batch
  posted = (its_packet, is_packet, is_batch)

-- ---- the texts of packets

pub texts_more : (packets : List (List Item)) (texts : List (List ℕ)) (packet : List Item) (octets : List ℕ) →
    ArePacketTexts packets texts → IsPacketText packet octets → ArePacketTexts (packets ++ packet ∷ []) (texts ++ octets ∷ [])
texts_more [] [] packet octets are is = (is, tt)
texts_more [] (t ∷ ts) packet octets are is = absurd are
texts_more (p ∷ ps) [] packet octets are is = absurd are
texts_more (p ∷ ps) (t ∷ ts) packet octets are is = (are.0, texts_more ps ts packet octets are.1 is)

pub texts_length : (packets : List (List Item)) (texts : List (List ℕ)) → ArePacketTexts packets texts → length packets ≡ length texts
texts_length [] [] are = refl
texts_length [] (t ∷ ts) are = absurd are
texts_length (p ∷ ps) [] are = absurd are
texts_length (p ∷ ps) (t ∷ ts) are = ap suc (texts_length ps ts are.1)

-- the packet that some bytes are of
pub record PacketAt (packets : List (List Item)) (number : ℕ) (octets : List ℕ) : Type 0 where
  pub told : List Item
  pub there : slice_get packets number ≡ Some told
  pub text : IsPacketText told octets

some_same : (a b : List ℕ) → Some a ≡ Some b → a ≡ b
some_same a b e = ap (λ (o : Option (List ℕ)). elim o [ None ↦ a | Some x ↦ x ]) e

pub packet_at : (packets : List (List Item)) (texts : List (List ℕ)) (number : ℕ) (octets : List ℕ) → ArePacketTexts packets texts →
    slice_get texts number ≡ Some octets → PacketAt packets number octets
packet_at packets [] number octets are at = absurd cc
packet_at [] (t ∷ ts) number octets are at = absurd are
packet_at (p ∷ ps) (t ∷ ts) zero octets are at =
    record { told = p; there = refl; text = subst (λ (o : List ℕ). IsPacketText p o) (some_same t octets at) are.0 }
packet_at (p ∷ ps) (t ∷ ts) (suc number) octets are at =
    let rest = packet_at ps ts number octets are.1 at in
    record { told = rest.told; there = rest.there; text = rest.text }

-- what is at a number, as the option that reading it returns
pub text_there : (texts : List (List ℕ)) (number : ℕ) (octets d : List ℕ) → number < length texts → octets ≡ get_or texts number d →
    slice_get texts number ≡ Some octets
text_there [] number octets d within is = absurd (omega arith)
text_there (t ∷ ts) zero octets d within is = ap Some (sym is)
text_there (t ∷ ts) (suc number) octets d within is = text_there ts number octets d (omega arith) is
