-- Whether a batch is that of a text is decidable, so it is one if it is merely said to be.
use Rattle.std.proofs.Common.{ℕ, List, inl, inr, subst}
use Rattle.std.proofs.Math.Logic.{∥∥₁_elim}
use Rattle.itip_message.specs.Message.{ReadsMessage}
use Rattle.itip_items.specs.declared.item.Item.{Item}
use Rattle.itip_message.proofs.OneMessage.{one_message, message_apart}
use Rattle.itip_message.proofs.SomeMessage.{some_message}
use Rattle.itip_state.specs.Kept.{SameItems}
use Rattle.itip_desk.specs.Octets.{AscendOctets}
use Rattle.itip_desk.proofs.Told.{told_in}
use Rattle.itip_office.specs.declared.job.Work.{Work}
use Rattle.itip_office.specs.declared.job.Work.TheVariants.{Text, Carry, Look}
use Rattle.itip_office.specs.Texts.{IsBatchOf, Merges}

batch_of : (bytes : List ℕ) (batch : List Item) → AscendOctets batch → ∥ IsBatchOf bytes batch ∥₁ → IsBatchOf bytes batch
batch_of bytes batch up is = elim (some_message bytes) [
  | inl read ↦ record { items = read.0; reads = read.1; is_items = record { ascend = up; same = same read.0 read.1 } }
  | inr refused ↦ absurd (none (λ b. message_apart bytes b.items refused.0 b.reads refused.1))
]
  where
    none : (IsBatchOf bytes batch → ⊥) → ⊥
    none not = ∥∥₁_elim is (λ (x y : ⊥). absurd x) not

    items_are : (items : List Item) → ReadsMessage bytes items → (b : IsBatchOf bytes batch) → SameItems batch items
    items_are items reads b = subst (λ (l : List Item). SameItems batch l) (one_message bytes b.items items b.reads reads) b.is_items.same

    same : (items : List Item) → ReadsMessage bytes items → SameItems batch items
    same items reads i = (
      λ h. elim (told_in items i) [ inl there ↦ there | inr not ↦ absurd (none (λ b. not ((items_are items reads b i).0 h))) ],
      λ h. elim (told_in batch i) [ inl there ↦ there | inr not ↦ absurd (none (λ b. not ((items_are items reads b i).1 h))) ],
    )

pub merges_of : (work : Work) (batch : List Item) → AscendOctets batch → ∥ Merges work batch ∥₁ → Merges work batch
merges_of (Text desk bytes) batch up is = batch_of bytes batch up is
merges_of (Carry from to) batch up is = tt
merges_of (Look desk window) batch up is = ∥∥₁_elim is (λ (x y : ⊥). absurd x) (λ b. b)
