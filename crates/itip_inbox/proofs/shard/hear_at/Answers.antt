use Rattle.std.proofs.Common.{◌≡◌, ◌∙◌, ◌+◌, ◌<◌, sym, ap, subst, ℕ, List, [], ◌∷◌, ◌++◌, length, append-nil, take, get_or}
use Rattle.std.proofs.Common.{Bool, false, nat_eq, inl, inr}
use Rattle.std.specs.Prelude.{cond}
use Rattle.std.proofs.lemmas.Bool.Decides.{Decides-eqb}
use Rattle.std.proofs.lemmas.List.{take_all}
use Rattle.std.proofs.lemmas.List.Elements.{filter_more, Contains-append_cases}
use Rattle.itip_items.specs.KeyParts.{uid_of}
use Rattle.itip_items.specs.declared.item.Item.{Item}
use Rattle.itip_state.specs.Kept.{AreKept}
use Rattle.itip_state.proofs.Members.{none_in, cons_cases}
use Rattle.itip_inbox.specs.ShardOf.{shard_of, of_shard, AreOfShard}
use Rattle.itip_inbox.proofs.Keeping.{keeps_one}
use Rattle.itip_inbox.proofs.shard.hear_at.Goals as goal
use Rattle.itip_inbox.proofs.shard.hear_at.Goals.{then-is_of+in_ok-hear, else-is_of}

module _ (count number : ℕ) (items : List Item) (at : ℕ) (item : Item) (below : at < length items)
    (here : item ≡ get_or items at item) where
  abbrev test : Item → Bool
  test i = nat_eq (shard_of count (uid_of i.key)) number

  one_more : of_shard count number (take (at + 1) items) ≡ of_shard count number (take at items) ++ cond (test item) (item ∷ []) []
  one_more = filter_more test items at item below ∙
      ap (λ (y : Item). of_shard count number (take at items) ++ cond (test y) (y ∷ []) []) (sym here)

  of_it : shard_of count (uid_of item.key) ≡ number →
      of_shard count number (take (at + 1) items) ≡ of_shard count number (take at items) ++ item ∷ []
  of_it is = one_more ∙ ap (λ (b : Bool). of_shard count number (take at items) ++ cond b (item ∷ []) [])
      ((Decides-eqb (shard_of count (uid_of item.key)) number).1 is)

  not_of_it : test item ≡ false → of_shard count number (take (at + 1) items) ≡ of_shard count number (take at items)
  not_of_it fails = one_more ∙ ap (λ (b : Bool). of_shard count number (take at items) ++ cond b (item ∷ []) []) fails ∙
      append-nil (of_shard count number (take at items))

-- what hears an item of the number has items of the number alone
stays_one : (count number : ℕ) (old new : List Item) (item : Item) → shard_of count (uid_of item.key) ≡ number →
    AreKept new (old ++ item ∷ []) → AreOfShard count number old → AreOfShard count number new
stays_one count number old new item is kept are i h =
    elim (Contains-append_cases old (item ∷ []) i ((kept i).0 h).best.is_heard) [
      | inl before ↦ are i before
      | inr now ↦ elim (cons_cases item [] i now) [
        | inl same ↦ subst (λ (j : Item). shard_of count (uid_of j.key) ≡ number) same is
        | inr none ↦ absurd (none_in i none)
      ]
    ]

pub loop-item-init : goal.loop-item-init
loop-item-init c = record {
  hears = subst (λ (xs : List Item). AreKept c.args.state.now xs) (sym (append-nil c.args.state.now)) c.lawful.ensures.state;
  stays = λ are. are;
}

-- one item more, heard
heard_one : (count number : ℕ) (old before new heard : List Item) (items : List Item) (at : ℕ) (item : Item) →
    of_shard count number (take (at + 1) items) ≡ heard ++ item ∷ [] → AreKept before (old ++ heard) → AreKept new (before ++ item ∷ []) →
    AreKept new (old ++ of_shard count number (take (at + 1) items))
heard_one count number old before new heard items at item is keeps kept =
    subst (λ (xs : List Item). AreKept new (old ++ xs)) (sym is) (keeps_one before new old heard item keeps kept)

pub loop-item-preserved : goal.loop-item-preserved
loop-item-preserved c =
    let count : ℕ = c.args.count in
    let number : ℕ = c.args.number in
    let heard : List Item = of_shard count number (take c.loop-item.item-index c.args.items.now) in
    elim c.if-is_of.branch [
      | then-is_of+in_ok-hear w ↦
          let is : shard_of count (uid_of c.item-item.result.key) ≡ number =
          (Decides-eqb (shard_of count (uid_of c.item-item.result.key)) number).0 (sym c.is_of.ensures ∙ w.if-is_of.true) in
          let kept : AreKept w.hear.new.self (c.loop-item.state ++ c.item-item.result ∷ []) =
          subst (λ (i : Item). AreKept w.hear.new.self (c.loop-item.state ++ i ∷ [])) w.item.ensures w.in_ok-hear.ensures.ok in
          record {
            hears = subst (λ (state : List Item). AreKept state (c.args.state.now ++ of_shard count number
                (take (c.loop-item.item-index + 1) c.args.items.now))) (sym w.state-is)
                (heard_one count number c.args.state.now c.loop-item.state w.hear.new.self heard c.args.items.now c.loop-item.item-index
                c.item-item.result (of_it count number c.args.items.now c.loop-item.item-index c.item-item.result c.loop-item-test.true
                c.item-item.is is) c.loop-item.invariant.hears kept);
            stays = λ are. subst (AreOfShard count number) (sym w.state-is)
                (stays_one count number c.loop-item.state w.hear.new.self c.item-item.result is kept
                (c.loop-item.invariant.stays are));
          }
      | else-is_of w ↦ record {
        hears = subst (λ (state : List Item). AreKept state (c.args.state.now ++ of_shard count number
            (take (c.loop-item.item-index + 1) c.args.items.now))) (sym w.state-is)
            (subst (λ (xs : List Item). AreKept c.loop-item.state (c.args.state.now ++ xs))
            (sym (not_of_it count number c.args.items.now c.loop-item.item-index c.item-item.result c.loop-item-test.true c.item-item.is
            (sym c.is_of.ensures ∙ w.if-is_of.false))) c.loop-item.invariant.hears);
        stays = λ are. subst (AreOfShard count number) (sym w.state-is) (c.loop-item.invariant.stays are);
      }
    ]

-- A failed allocation changes nothing of what was heard by then.
pub returns-in_err-hear-clause-stays : goal.returns-in_err-hear-clause-stays
returns-in_err-hear-clause-stays c = λ are.
    subst (AreOfShard c.args.count c.args.number) (sym c.in_err-hear.ensures.err) (c.loop-item.invariant.stays are)

pub returns-clause-hears : goal.returns-clause-hears
returns-clause-hears c =
    subst (λ (xs : List Item). AreKept c.loop-item.state (c.args.state.now ++ of_shard c.args.count c.args.number xs))
    (take_all c.loop-item.item-index c.args.items.now c.loop-item-test.false) c.loop-item.invariant.hears

pub returns-clause-stays : goal.returns-clause-stays
returns-clause-stays c = c.loop-item.invariant.stays
