-- The items of the texts that were taken (our own rule).
use Rattle.std.specs.Prelude.{◌↔◌, List}
use Rattle.std.specs.List.{Contains}
use Rattle.itip_message.specs.Message.{ReadsMessage}
use Rattle.itip_items.specs.declared.item.Item.{Item}
use Rattle.itip_office.specs.declared.job.Work.{Work}
use Rattle.itip_office.specs.declared.job.Work.TheVariants.{Text, Carry, Look}
use Rattle.itip_office.specs.Answers.{Answer, IsTook}

-- the job is a text that reads as these items
abbrev pub ReadsWork : Work → List Item → Type 0
ReadsWork (Text desk bytes) items = ReadsMessage bytes items
ReadsWork (Carry from to) items = ⊥
ReadsWork (Look desk window) items = ⊥

-- an item of a text that was taken
pub record IsTaken (answers : List Answer) (item : Item) : Type 0 where
  pub answer : Answer
  pub among : Contains answers answer
  pub took : IsTook answer.1
  pub items : List Item
  pub reads : ReadsWork answer.0.work items
  pub there : Contains items item

-- the set has the items of the texts that were taken, and no others
abbrev pub AreTaken : List Answer → List Item → Type 0
AreTaken answers set = (item : Item) → Contains set item ↔ IsTaken answers item
