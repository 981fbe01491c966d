-- Bytes are read as a batch, or they are refused.
use Rattle.std.proofs.Common.{ℕ, List, [], ◌∷◌, inl, inr, ◌⊎◌}
use Rattle.std.proofs.lemmas.Map.Keys.{Less-from_sorted}
use Rattle.std.proofs.lemmas.Map.Lookups.{CmpEqualImpliesEq, exact_bytes}
use Rattle.itip_todo.proofs.InOrder.{IsInOrder, in_order, in_contained, contained_in}
use Rattle.itip_items.specs.OctetOrder.{octets_cmp, octets_total}
use Rattle.itip_message.specs.declared.error.MessageRefusal.{MessageRefusal}
use Rattle.itip_items.specs.declared.item.Item.{Item}
use Rattle.itip_items.proofs.SameItem.{same_item}
use Rattle.itip_message.proofs.SomeMessage.{some_message}
use Rattle.itip_state.specs.Kept.{IsItemsOf}
use Rattle.itip_desk.specs.DeltaFormat.{AreMessages, FirstRefused, all_of, ReadsDelta, RefusesDelta}
use Rattle.itip_message.specs.Scanned.{messages_of}
use Rattle.itip_message.proofs.Cuts.{cut_by_scan}

octets_exact : CmpEqualImpliesEq octets_cmp
octets_exact i j e = same_item i j (exact_bytes i.bytes j.bytes e)

-- the items of a list, sorted by bytes, each once
batch_of : (items : List Item) → (batch : List Item) × IsItemsOf batch items
batch_of items =
    let ordered : IsInOrder octets_cmp items = in_order octets_cmp octets_total octets_exact items in (
      ordered.list,
      record {
        ascend = λ i j d less within. Less-from_sorted octets_cmp ordered.list i j d ordered.ascends less within;
        same = λ item. (
          λ h. contained_in items item ((ordered.same item).0 (in_contained ordered.list item h)),
          λ h. contained_in ordered.list item ((ordered.same item).1 (in_contained items item h)),
        );
      },
    )

all_read : (texts : List (List ℕ)) → ((given : List (List Item)) × AreMessages texts given) ⊎ ((f : MessageRefusal) × FirstRefused texts f)
all_read [] = inl ([], tt)
all_read (text ∷ texts) =
    elim (some_message text) [
      | inr refused ↦ inr (refused.0, inl refused.1)
      | inl read ↦ elim (all_read texts) [
        | inr refused ↦ inr (refused.0, inr (read, refused.1))
        | inl more ↦ inl (read.0 ∷ more.0, (read.1, more.1))
      ]
    ]

pub some_delta : (bytes : List ℕ) → ((batch : List Item) × ReadsDelta bytes batch) ⊎ ((f : MessageRefusal) × RefusesDelta bytes f)
some_delta bytes =
    elim (all_read (messages_of bytes)) [
      | inr refused ↦ inr (refused.0, record { messages = messages_of bytes; cut = cut_by_scan bytes; first = refused.1 })
      | inl given ↦
          let batch = batch_of (all_of given.0) in
          inl (
            batch.0,
            record {
              given = given.0;
              reads = record { messages = messages_of bytes; cut = cut_by_scan bytes; read = given.1 };
              batch_is =
                  batch.1;
            },
          )
    ]
