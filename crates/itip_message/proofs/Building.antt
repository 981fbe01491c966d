-- What the lines of a to-do that a program makes give.
use Rattle.std.proofs.Common.{◌≡◌, ◌∙◌, refl, sym, ap, subst, ℕ, suc, ◌+◌, ◌<◌}
use Rattle.std.proofs.Common.{List, [], ◌∷◌, ◌++◌, length, map, take, get_or, IsTrue, arith}
use Rattle.std.proofs.Common.{true, Result, Ok, Err}
use Rattle.std.specs.Prelude.{codes}
use Rattle.std.specs.Result.{OnOk, IfErr}
use Rattle.std.proofs.lemmas.List.{length-append, flat_map_more, take_more}
use Rattle.std.specs.List.{AllByRecursion, flat_map}
use Rattle.itip_lines.specs.UnfoldedLines.{HasNoLf}
use Rattle.itip_lines.specs.Lawful.{IsName}
use Rattle.itip_lines.specs.Reading as lines
use Rattle.itip_lines.specs.Reading.{line_at, plain_lines}
use Rattle.itip_lines.specs.declared.line.Line.{Line}
use Rattle.itip_lines.specs.declared.line.NumberedLine.{NumberedLine}
use Rattle.itip_moment.specs.Written.{stamp_text}
use Rattle.itip_moment.specs.declared.moment.Moment.{Moment}
use Rattle.itip_moment.specs.declared.stamp.Stamp.{Stamp}
use Rattle.itip_todo.specs.PartsOf.{parts_of}
use Rattle.itip_todo.specs.Reading as todo_reading
use Rattle.itip_todo.specs.declared.error.TodoError.{TodoError}
use Rattle.itip_todo.specs.declared.error.TodoError.TheVariants as todo_error
use Rattle.itip_todo.specs.declared.todo.Todo.{Todo}
use Rattle.itip_items.specs.Given.{AreItemsOf, GivesItems, FirstOver, IfTooLarge, drafts_each}
use Rattle.itip_items.specs.Items.{ItemDraft, drafts}
use Rattle.itip_items.specs.MethodNeeds.{Suits, is_property}
use Rattle.itip_items.specs.declared.error.FormError.{FormError}
use Rattle.itip_items.specs.declared.error.FormError.TheVariants as form_error
use Rattle.itip_items.specs.declared.item.Item.{Item}
use Rattle.itip_items.specs.declared.kind.Method.TheVariants as method
use Rattle.itip_message.specs.Building.{Adds, IsOneProperty, RefusesText, RefusesMade, RefusesItem, GivesItem, no_todo, too_large}
use Rattle.itip_message.specs.Building.{RefusesValue, RefusesBeginning, no_line, RefusesMoment, no_moment}
use Rattle.itip_message.specs.Building.{AddsMoment, has_lawful_zone, moment_line_text}
use Rattle.itip_message.specs.Refusals.{IfRefused, todo_gives, form_gives}
use Rattle.itip_message.specs.declared.error.ReadError.{ReadError}
use Rattle.itip_message.specs.declared.error.ReadError.TheVariants as error
use Rattle.itip_message.specs.declared.sort.Component.{Component}
use Rattle.itip_message.proofs.BuiltLines.{moment_line, stamp_taken}
use Rattle.itip_message.proofs.Properties.{AreProperties, all_suit, properties_more}

pub on_ok_always : {A E P : Type 0} (r : Result A E) → P → OnOk r P
on_ok_always (Ok a) p = p
on_ok_always (Err e) p = tt

-- what isn't a line makes no line after its front
refused_value : (e : ReadError) (front value : List ℕ) (number : ℕ) → HasNoLf value → IfRefused e (RefusesText (front ++ value) number) →
    IfRefused e (RefusesValue front value number)
refused_value error.NoMemory front value number whole h = tt
refused_value (error.Refused refusal) front value number whole h = no_line refusal whole h

pub value_refused : {A : Type 0} (r : Result A ReadError) (front value : List ℕ) (number : ℕ) → HasNoLf value →
    IfErr r (λ e. IfRefused e (RefusesText (front ++ value) number)) → IfErr r (λ e. IfRefused e (RefusesValue front value number))
value_refused (Ok a) front value number whole h = tt
value_refused (Err e) front value number whole h = refused_value e front value number whole h

refused_moment : (e : ReadError) (name : List ℕ) (moment : Moment) (number : ℕ) → has_lawful_zone moment ≡ true →
    IfRefused e (RefusesText (moment_line_text name moment) number) → IfRefused e (RefusesMoment name moment number)
refused_moment error.NoMemory name moment number lawful h = tt
refused_moment (error.Refused refusal) name moment number lawful h = no_moment refusal lawful h

pub moment_refused : {A : Type 0} (r : Result A ReadError) (name : List ℕ) (moment : Moment) (number : ℕ) → has_lawful_zone moment ≡ true →
    IfErr r (λ e. IfRefused e (RefusesText (moment_line_text name moment) number)) →
    IfErr r (λ e. IfRefused e (RefusesMoment name moment number))
moment_refused (Ok a) name moment number lawful h = tt
moment_refused (Err e) name moment number lawful h = refused_moment e name moment number lawful h

pub moment_added : {A E : Type 0} (r : Result A E) (name : List ℕ) (moment : Moment) (old new : List NumberedLine) → IsName name →
    has_lawful_zone moment ≡ true → OnOk r (Adds (moment_line_text name moment) old new) → OnOk r (AddsMoment name moment old new)
moment_added (Ok a) name moment old new named lawful adds =
    moment_line name moment old new named lawful adds
moment_added (Err e) name moment old new named lawful adds = tt

-- a DTSTAMP is always taken
pub stamp_refused : (e : ReadError) (uid : List ℕ) (stamp : Stamp) (number : ℕ) →
    IfRefused e (RefusesText (codes "DTSTAMP:" ++ stamp_text stamp) number) → IfRefused e (RefusesBeginning uid)
stamp_refused error.NoMemory uid stamp number h = tt
stamp_refused (error.Refused refusal) uid stamp number h = absurd (stamp_taken stamp number refusal h)

-- a value that is popped off one value is that one
pub only_value : {T : Type 0} (old new : List T) (value : T) → old ≡ new ++ value ∷ [] → length old ≡ 1 → old ≡ value ∷ []
only_value old [] value is one = is
only_value old (other ∷ new) value is one =
    let long : length old ≡ length ((other ∷ new) ++ value ∷ []) = ap length is in
    absurd (omega (arith, length-append (other ∷ new) (value ∷ [])))

-- the error of the lines as that of the one to-do of a message
pub made_refused : (e : TodoError) (given : List NumberedLine) → todo_reading.IfRefused e (todo_reading.RefusesTodo given) →
    IfRefused (todo_gives 1 e) (RefusesMade given)
made_refused todo_error.NoMemory given h = tt
made_refused (todo_error.Refused refusal) given h = (refusal, h, refl)

component_of : List NumberedLine → Component
component_of given = record { begins = 1; lines = given }

-- a to-do of such lines may be sent alone in a REQUEST
pub made_suits : (given : List NumberedLine) (todo : Todo) (all : List Todo) → AreProperties (plain_lines given) →
    todo_reading.ReadsTodo (plain_lines given) todo → all ≡ todo ∷ [] → AllByRecursion (Suits method.Request) (map parts_of all)
unfolding component_of
made_suits given todo all sound reads is =
    subst (λ (ts : List Todo). AllByRecursion (Suits method.Request) (map parts_of ts)) (sym is)
    (all_suit method.Request (component_of given ∷ []) (todo ∷ []) (record { reads = reads; fits = refl }, tt) (sound, tt))

-- as many items as drafts
as_many : (given : List ItemDraft) (items : List Item) → AreItemsOf given items → length items ≡ length given
as_many [] [] h = refl
as_many [] (item ∷ items) h = absurd h
as_many (draft ∷ given) [] h = absurd h
as_many (draft ∷ given) (item ∷ items) h = ap suc (as_many given items h.1)

given_of : (todo : Todo) (all : List Todo) (items : List Item) → all ≡ todo ∷ [] →
    GivesItems (drafts method.Request (map parts_of all)) items → GivesItems (drafts method.Request (parts_of todo ∷ [])) items
given_of todo all items is = subst (λ (ts : List Todo). GivesItems (drafts method.Request (map parts_of ts)) items) is

-- a REQUEST of one to-do gives one item
pub one_item : (todo : Todo) (all : List Todo) (items : List Item) → all ≡ todo ∷ [] →
    GivesItems (drafts method.Request (map parts_of all)) items → length items ≡ 1
one_item todo all items is h = as_many (drafts method.Request (parts_of todo ∷ [])) items (given_of todo all items is h).items_are

pub item_given : (given : List NumberedLine) (todo : Todo) (all : List Todo) (items : List Item) (item : Item) →
    todo_reading.ReadsTodo (plain_lines given) todo → all ≡ todo ∷ [] →
    GivesItems (drafts method.Request (map parts_of all)) items → items ≡ item ∷ [] → GivesItem given item
item_given given todo all items item reads is h one = record {
  todo = todo;
  reads = reads;
  gives = subst (λ (its : List Item). GivesItems (drafts method.Request (parts_of todo ∷ [])) its) one (given_of todo all items is h);
}

-- an item that is too large is refused as that of a message
pub item_too_large : (e : FormError) (given : List NumberedLine) (todo : Todo) (all : List Todo) →
    todo_reading.ReadsTodo (plain_lines given) todo → all ≡ todo ∷ [] →
    IfTooLarge e (FirstOver 1 (drafts_each method.Request (map parts_of all) (map parts_of all))) →
    IfRefused (form_gives e) (RefusesItem given)
item_too_large form_error.NoMemory given todo all reads is h = tt
item_too_large (form_error.TooLarge number) given todo all reads is h =
    too_large todo number reads
    (subst (λ (ts : List Todo). FirstOver 1 (drafts_each method.Request (map parts_of ts) (map parts_of ts)) number) is h)

-- a refusal of the to-do is one of the item
pub todo_refuses_item : (e : ReadError) (given : List NumberedLine) → IfRefused e (RefusesMade given) → IfRefused e (RefusesItem given)
todo_refuses_item error.NoMemory given h = tt
todo_refuses_item (error.Refused refusal) given h = no_todo refusal h

-- one more line, which is a property
pub added_sound : (old new : List NumberedLine) (number : ℕ) (line : Line) → AreProperties (plain_lines old) → IsTrue (is_property line) →
    new ≡ old ++ line_at number line ∷ [] → AreProperties (plain_lines new)
added_sound old new number line sound is whole =
    subst (λ (ls : List NumberedLine). AreProperties (plain_lines ls)) (sym whole) (properties_more old (line_at number line) sound is)

-- the one property of a text stays so in memory of its own
pub owned_property : (text : List ℕ) (only : NumberedLine) (own : Line) → lines.Reads text (only ∷ []) → is_property only.line ≡ true →
    own ≡ only.line → IsOneProperty text own
owned_property text only own reads property same =
    subst (λ (line : Line). IsOneProperty text line) (sym same) (record { number = only.number; reads = reads; property = property })

-- one more octet of a text
pub octet_more : (f : ℕ → List ℕ) (octets : List ℕ) (i : ℕ) (old page new : List ℕ) → i < length octets →
    page ≡ old ++ flat_map f (take i octets) → new ≡ page ++ f (get_or octets i 0) → new ≡ old ++ flat_map f (take (i + 1) octets)
octet_more f octets i old page new less before puts =
    puts ∙ ap (λ (t : List ℕ). t ++ f (get_or octets i 0)) before ∙ flat_map_more f old (take i octets) (get_or octets i 0)
    ∙ ap (λ (t : List ℕ). old ++ flat_map f t) (sym (take_more octets i 0 less))
