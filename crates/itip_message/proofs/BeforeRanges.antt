-- Messages that were read before instances had ranges are read as the same items.
use Rattle.std.proofs.Common.{ℕ, List, [], ◌∷◌}
use Rattle.itip_lines.specs.Reading.{plain_lines}
use Rattle.itip_todo.specs.Limits.{present, before_ranges}
use Rattle.itip_todo.specs.declared.todo.Todo.{Todo}
use Rattle.itip_todo.proofs.BeforeRanges.{todo_now}
use Rattle.itip_items.specs.declared.item.Item.{Item}
use Rattle.itip_items.specs.declared.kind.Method.{Method}
use Rattle.itip_message.specs.Message.{AreComponentsWithin, AreComponents, ReadsMessageWithin, ReadsMessage}
use Rattle.itip_message.specs.Several.{AreMessagesWithin, ReadsMessagesWithin}
use Rattle.itip_message.specs.declared.sort.Component.{Component}

components_now : (m : Method) (components : List Component) (todos : List Todo) → AreComponentsWithin before_ranges m components todos →
    AreComponents m components todos
components_now m [] [] are = tt
components_now m [] (todo ∷ todos) are = are
components_now m (component ∷ components) [] are = are
components_now m (component ∷ components) (todo ∷ todos) are = (
  record { reads = todo_now (plain_lines component.lines) todo are.0.reads; fits = are.0.fits },
  components_now m components todos are.1,
)

pub message_now : (bytes : List ℕ) (items : List Item) → ReadsMessageWithin before_ranges bytes items → ReadsMessage bytes items
message_now bytes items read = record {
  method_is = read.method_is;
  components = read.components;
  all = read.all;
  begins = read.begins;
  read = components_now read.method_is read.components read.all read.read;
  within = read.within;
  items_are =
      read.items_are;
}

all_now : (texts : List (List ℕ)) (given : List (List Item)) → AreMessagesWithin before_ranges texts given →
    AreMessagesWithin present texts given
all_now [] [] are = tt
all_now [] (items ∷ given) are = are
all_now (text ∷ texts) [] are = are
all_now (text ∷ texts) (items ∷ given) are = (message_now text items are.0, all_now texts given are.1)

pub messages_now : (bytes : List ℕ) (given : List (List Item)) → ReadsMessagesWithin before_ranges bytes given →
    ReadsMessagesWithin present bytes given
messages_now bytes given read =
    record { messages = read.messages; cut = read.cut; read = all_now read.messages given read.read }
