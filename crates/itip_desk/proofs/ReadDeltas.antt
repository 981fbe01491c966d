-- What was written of items is cut into their texts, and read as these items.
use Rattle.std.proofs.Common.{◌≡◌, ◌∙◌, sym, ap, refl, subst, ℕ, ◌+◌, ◌<◌, ◌≤◌, true, false, List, [], ◌∷◌, ◌++◌, length, map, get_or, drop}
use Rattle.std.proofs.Common.{append_assoc, append-nil, inl, inr}
use Rattle.std.proofs.lemmas.List.{at_drop_more, at_drop_all}
use Rattle.std.specs.Prelude.{IsTrue, codes}
use Rattle.std.specs.List.{AllByRecursion, list_all, concat}
use Rattle.std.specs.Ordering.{nat_cmp}
use Rattle.std.specs.Cmp.Lexicographic.{slice_cmp}
use Rattle.std.specs.declared.cmp.Ordering.TheVariants.{Less}
use Rattle.std.proofs.Math.Logic.{∥∥₁_elim}
use Rattle.std.proofs.lemmas.Cmp.{nat_list_cmp_total}
use mathlib.Core.Bool.{Bool-set}
use Rattle.itip_todo.specs.Lawful.{IsLawfulContent}
use Rattle.itip_todo.specs.PartsOf.{parts_of}
use Rattle.itip_todo.specs.Written.{Content, content_octets, contents_octets, parts_contents}
use Rattle.itip_items.specs.Items.{bare, method_of, method_text}
use Rattle.itip_message.specs.Message.{ReadsMessage, RefusesMessage}
use Rattle.itip_items.specs.MethodNeeds.{is_property}
use Rattle.itip_items.specs.declared.item.Item.{Item}
use Rattle.itip_items.specs.declared.kind.Kind.{Kind}
use Rattle.itip_message.specs.declared.error.MessageRefusal.{MessageRefusal}
use Rattle.itip_message.specs.declared.error.ReadError.{ReadError}
use Rattle.itip_message.specs.declared.error.ReadError.TheVariants as error
use Rattle.itip_message.specs.Refusals.{IfRefused}
use Rattle.itip_items.proofs.Contents.{canonical_lawful}
use Rattle.itip_message.proofs.OneMessage.{one_message, one_cause, message_apart}
use Rattle.itip_message.proofs.ReadAgain.{reads_again}
use Rattle.itip_items.proofs.SameItem.{Is, contents, bytes_are}
use Rattle.itip_state.specs.Kept.{SameItems, IsItemsOf}
use Rattle.itip_state.proofs.Members.{no_pairs}
use Rattle.itip_state.proofs.OneOrder.{less_one_way, same_ascending}
use Rattle.itip_desk.specs.Octets.{AscendOctets}
use Rattle.itip_message.specs.Scanned.{begins_blank, lines_of, ends_calendar, groups_of, texts_of, messages_of, CutsMessage}
use Rattle.itip_desk.specs.DeltaFormat.{delta_octets, AreMessages, FirstRefused, all_of, ReadsDelta, RefusesDelta, Continues}
use Rattle.itip_message.proofs.Cuts.{cut_by_scan}
use Rattle.itip_message.proofs.Folded.{contents_lines, contents_end_none}
use Rattle.itip_message.proofs.Messages.{texts_end}
use Rattle.itip_message.proofs.OneCut.{one_cut}
use Rattle.itip_message.proofs.Plain.{IsNotEnd, none_ends_both, parts_not_end}

-- ---- the text of one item

pub others : (item : Item) → IsTrue (list_all is_property item.todo.others)
others item = ∥∥₁_elim item.canonical (Bool-set (list_all is_property item.todo.others) true)
    (λ (is : Is item). is.is_canonical.suits.others)

abbrev head : Kind → List Content
head k = bare (codes "BEGIN") (codes "VCALENDAR") ∷ bare (codes "PRODID") (codes "-//itipdesk//1//EN") ∷
    bare (codes "VERSION") (codes "2.0") ∷ bare (codes "METHOD") (method_text (method_of k)) ∷ bare (codes "BEGIN") (codes "VTODO") ∷ []

abbrev pub end_of_todo : Content
end_of_todo = bare (codes "END") (codes "VTODO")

abbrev pub end_of_calendar : Content
end_of_calendar = bare (codes "END") (codes "VCALENDAR")

-- the lines before the last
abbrev front : Item → List Content
front item = head item.kind ++ parts_contents (parts_of item.todo)

whole : (item : Item) → contents item ≡ front item ++ (end_of_todo ∷ end_of_calendar ∷ [])
whole item = sym (append_assoc (head item.kind) (parts_contents (parts_of item.todo)) (end_of_todo ∷ end_of_calendar ∷ []))

pub lawful_front : (cs ds : List Content) → AllByRecursion IsLawfulContent (cs ++ ds) → AllByRecursion IsLawfulContent cs
lawful_front [] ds h = tt
lawful_front (c ∷ cs) ds h = (h.0, lawful_front cs ds h.1)

front_not_end : (item : Item) → AllByRecursion IsNotEnd (front item)
front_not_end item =
    none_ends_both (head item.kind) (parts_contents (parts_of item.todo)) (refl, (refl, (refl, (refl, (refl, tt)))))
    (parts_not_end (parts_of item.todo) (others item))

map-append : {X Y : Type 0} (f : X → Y) (xs ys : List X) → map f (xs ++ ys) ≡ map f xs ++ map f ys
map-append f [] ys = refl
map-append f (x ∷ xs) ys = ap (λ zs. f x ∷ zs) (map-append f xs ys)

pub concat_octets : (cs : List Content) → concat (map content_octets cs) ≡ contents_octets cs
concat_octets [] = refl
concat_octets (c ∷ cs) = ap (λ (t : List ℕ). content_octets c ++ t) (concat_octets cs)

pub none_more : (lines : List (List ℕ)) (line : List ℕ) → AllByRecursion (λ line. ends_calendar line ≡ false) lines →
    ends_calendar line ≡ false → AllByRecursion (λ line. ends_calendar line ≡ false) (lines ++ line ∷ [])
none_more [] line none not = (not, tt)
none_more (l ∷ lines) line none not = (none.0, none_more lines line none.1 not)

module _ (item : Item) (rest : List ℕ) (plain : begins_blank rest ≡ false) where
  lawful : AllByRecursion IsLawfulContent (contents item)
  lawful = canonical_lawful item.kind (parts_of item.todo) item.todo.lawful.lines

  passed : List (List ℕ)
  passed = map content_octets (front item) ++ content_octets end_of_todo ∷ []

  passed_end_none : AllByRecursion (λ line. ends_calendar line ≡ false) passed
  unfolding passed
  passed_end_none =
      none_more (map content_octets (front item)) (content_octets end_of_todo)
      (contents_end_none (front item) (lawful_front (front item) (end_of_todo ∷ end_of_calendar ∷ [])
      (subst (λ (cs : List Content). AllByRecursion IsLawfulContent cs) (whole item) lawful)) (front_not_end item))
      refl

  all_lines : map content_octets (contents item) ≡ passed ++ content_octets end_of_calendar ∷ []
  unfolding passed
  all_lines =
      ap (map content_octets) (whole item) ∙ map-append content_octets (front item) (end_of_todo ∷ end_of_calendar ∷ [])
      ∙ sym (append_assoc (map content_octets (front item)) (content_octets end_of_todo ∷ []) (content_octets end_of_calendar ∷ []))

  its_lines : lines_of (item.bytes ++ rest) ≡ passed ++ content_octets end_of_calendar ∷ lines_of rest
  its_lines =
      ap (λ (t : List ℕ). lines_of (t ++ rest)) (bytes_are item) ∙ contents_lines (contents item) rest lawful plain
      ∙ ap (λ (ls : List (List ℕ)). ls ++ lines_of rest) all_lines ∙
      append_assoc passed (content_octets end_of_calendar ∷ []) (lines_of rest)

  its_text : concat (passed ++ content_octets end_of_calendar ∷ []) ≡ item.bytes
  its_text = ap concat (sym all_lines) ∙ concat_octets (contents item) ∙ sym (bytes_are item)

  one_text : texts_of (groups_of (lines_of (item.bytes ++ rest))) ≡ item.bytes ∷ texts_of (groups_of (lines_of rest))
  one_text =
      ap (λ (ls : List (List ℕ)). texts_of (groups_of ls)) its_lines ∙
      texts_end passed (content_octets end_of_calendar) (lines_of rest) passed_end_none refl
      ∙ ap (λ (t : List ℕ). t ∷ texts_of (groups_of (lines_of rest))) its_text

written_begins : (items : List Item) → begins_blank (delta_octets items) ≡ false
unfolding delta_octets
written_begins [] = refl
written_begins (item ∷ items) = ap (λ (t : List ℕ). begins_blank (t ++ delta_octets items)) (bytes_are item)

-- the messages of what was written are the texts of the items
pub messages_written : (items : List Item) → messages_of (delta_octets items) ≡ map (λ (i : Item). i.bytes) items
unfolding messages_of delta_octets
messages_written [] = refl
messages_written (item ∷ items) = one_text item (delta_octets items) (written_begins items) ∙
    ap (λ (ts : List (List ℕ)). item.bytes ∷ ts) (messages_written items)

abbrev pub alone : List Item → List (List Item)
alone items = map (λ (i : Item). i ∷ []) items

are_messages : (items : List Item) → AreMessages (map (λ (i : Item). i.bytes) items) (alone items)
are_messages [] = tt
are_messages (item ∷ items) = (reads_again item, are_messages items)

pub concat_alone : (items : List Item) → all_of (alone items) ≡ items
concat_alone [] = refl
concat_alone (item ∷ items) = ap (λ (is : List Item). item ∷ is) (concat_alone items)

pub written_read : (batch : List Item) → AscendOctets batch → ReadsDelta (delta_octets batch) batch
written_read batch ascend = record {
  given = alone batch;
  reads = record {
    messages = messages_of (delta_octets batch);
    cut = cut_by_scan (delta_octets batch);
    read = subst (λ (ts : List (List ℕ)). AreMessages ts (alone batch)) (sym (messages_written batch)) (are_messages batch);
  };
  batch_is = subst (λ (is : List Item). IsItemsOf batch is) (sym (concat_alone batch))
      (record { ascend = ascend; same = λ item. (λ h. h, λ h. h) });
}

-- bytes that are those of a batch are read as this batch
pub written_so : (bytes : List ℕ) (batch : List Item) → AscendOctets batch → bytes ≡ delta_octets batch → ReadsDelta bytes batch
written_so bytes batch ascend is = subst (λ (t : List ℕ). ReadsDelta t batch) (sym is) (written_read batch ascend)

-- ---- one reading

octets_apart : (a b : Item) → slice_cmp nat_cmp a.bytes b.bytes ≡ Less → slice_cmp nat_cmp b.bytes a.bytes ≡ Less → ⊥
octets_apart a b = less_one_way nat_list_cmp_total a.bytes b.bytes

-- two lists of the same items, sorted by bytes, each once, are equal
pub one_order : (a b : List Item) → AscendOctets a → AscendOctets b → SameItems a b → a ≡ b
one_order a b up_a up_b same =
    same_ascending (λ (x y : Item). slice_cmp nat_cmp x.bytes y.bytes ≡ Less) octets_apart a b up_a up_b
    (λ item. ((same item).0, (same item).1))

one_given : (texts : List (List ℕ)) (a b : List (List Item)) → AreMessages texts a → AreMessages texts b → a ≡ b
one_given [] [] [] h k = refl
one_given [] [] (y ∷ ys) h k = absurd k
one_given [] (x ∷ xs) b h k = absurd h
one_given (t ∷ ts) [] b h k = absurd h
one_given (t ∷ ts) (x ∷ xs) [] h k = absurd k
one_given (t ∷ ts) (x ∷ xs) (y ∷ ys) h k = ap (λ (z : List Item). z ∷ xs) (one_message t x y h.0 k.0) ∙
    ap (λ (zs : List (List Item)). y ∷ zs) (one_given ts xs ys h.1 k.1)

pub one_batch : (bytes : List ℕ) (batch other : List Item) → ReadsDelta bytes batch → ReadsDelta bytes other → batch ≡ other
one_batch bytes batch other a b =
    let m = a.reads in
    let n = b.reads in
    let cut : m.messages ≡ n.messages = one_cut bytes m.messages n.messages m.cut n.cut in
    let same : all_of a.given ≡ all_of b.given =
    ap all_of (one_given n.messages a.given b.given (subst (λ (ts : List (List ℕ)). AreMessages ts a.given) cut m.read) n.read) in
    let is : IsItemsOf batch (all_of b.given) = subst (λ (all : List Item). IsItemsOf batch all) same a.batch_is in
    one_order batch other is.ascend b.batch_is.ascend
    (λ item. (λ h. (b.batch_is.same item).1 ((is.same item).0 h), λ h. (is.same item).1 ((b.batch_is.same item).0 h)))

first_once : (texts : List (List ℕ)) (f g : MessageRefusal) → FirstRefused texts f → FirstRefused texts g → f ≡ g
first_once [] f g h k = absurd h
first_once (t ∷ ts) f g (inl h) (inl k) = one_cause t f g h k
first_once (t ∷ ts) f g (inl h) (inr k) = absurd (message_apart t k.0.0 f k.0.1 h)
first_once (t ∷ ts) f g (inr h) (inl k) = absurd (message_apart t h.0.0 g h.0.1 k)
first_once (t ∷ ts) f g (inr h) (inr k) = first_once ts f g h.1 k.1

pub one_refusal : (bytes : List ℕ) (f g : MessageRefusal) → RefusesDelta bytes f → RefusesDelta bytes g → f ≡ g
one_refusal bytes f g h k =
    first_once k.messages f g (subst (λ (ts : List (List ℕ)). FirstRefused ts f) (one_cut bytes h.messages k.messages h.cut k.cut) h.first)
    k.first

apart_from : (texts : List (List ℕ)) (given : List (List Item)) (f : MessageRefusal) → AreMessages texts given → FirstRefused texts f → ⊥
apart_from [] given f h k = k
apart_from (t ∷ ts) [] f h k = h
apart_from (t ∷ ts) (x ∷ xs) f h (inl k) = message_apart t x f h.0 k
apart_from (t ∷ ts) (x ∷ xs) f h (inr k) = apart_from ts xs f h.1 k.1

pub delta_apart : (bytes : List ℕ) (batch : List Item) (f : MessageRefusal) → ReadsDelta bytes batch → RefusesDelta bytes f → ⊥
delta_apart bytes batch f h k =
    let m = h.reads in
    apart_from m.messages h.given f m.read (subst (λ (ts : List (List ℕ)). FirstRefused ts f)
    (one_cut bytes k.messages m.messages k.cut m.cut) k.first)

-- batches with equal bytes are equal
pub known_by_octets : (a b : List Item) → AscendOctets a → AscendOctets b → delta_octets a ≡ delta_octets b → a ≡ b
known_by_octets a b up_a up_b same =
    one_batch (delta_octets b) a b (subst (λ (t : List ℕ). ReadsDelta t a) same (written_read a up_a)) (written_read b up_b)

pub empty_batch : (batch : List Item) → AscendOctets batch → delta_octets batch ≡ [] → batch ≡ []
unfolding delta_octets
empty_batch batch ascend none = known_by_octets batch [] ascend (no_pairs (λ (a b : Item). slice_cmp nat_cmp a.bytes b.bytes ≡ Less)) none

-- ---- one message after another

pub begins_reading : (bytes : List ℕ) → Continues bytes bytes []
begins_reading bytes = record { read = λ given are. (given, are, refl); refused = λ fault first. first }

pub reads_more : (bytes rest message after : List ℕ) (items more : List Item) → Continues bytes rest items →
    CutsMessage rest message after → ReadsMessage message more → Continues bytes after (items ++ more)
reads_more bytes rest message after items more so_far cut reads = record {
  read = λ given are.
      let all = so_far.read (more ∷ given) (subst (λ (ts : List (List ℕ)). AreMessages ts (more ∷ given)) (sym cut.messages) (reads, are))
      in
      (all.0, all.1, all.2 ∙ sym (append_assoc items more (all_of given)));
  refused = λ fault first. so_far.refused fault
      (subst (λ (ts : List (List ℕ)). FirstRefused ts fault) (sym cut.messages) (inr ((more, reads), first)));
}

refuses_here : (bytes rest message after : List ℕ) (items : List Item) (fault : MessageRefusal) → Continues bytes rest items →
    CutsMessage rest message after → RefusesMessage message fault → RefusesDelta bytes fault
refuses_here bytes rest message after items fault so_far cut refuses = record {
  messages = messages_of bytes;
  cut = cut_by_scan bytes;
  first = so_far.refused fault (subst (λ (ts : List (List ℕ)). FirstRefused ts fault) (sym cut.messages) (inl refuses));
}

-- if a message is refused for a fault, so are all the bytes
pub refuses_if : (e : ReadError) (bytes rest message after : List ℕ) (items : List Item) → Continues bytes rest items →
    CutsMessage rest message after → IfRefused e (RefusesMessage message) → IfRefused e (RefusesDelta bytes)
refuses_if error.NoMemory bytes rest message after items so_far cut refuses = tt
refuses_if (error.Refused fault) bytes rest message after items so_far cut refuses =
    refuses_here bytes rest message after items fault so_far cut refuses

pub ends_reading : (bytes rest : List ℕ) (items batch : List Item) → Continues bytes rest items → messages_of rest ≡ [] →
    IsItemsOf batch items → ReadsDelta bytes batch
ends_reading bytes rest items batch so_far none is =
    let all = so_far.read [] (subst (λ (ts : List (List ℕ)). AreMessages ts []) (sym none) tt) in
    record {
      given = all.0;
      reads = record { messages = messages_of bytes; cut = cut_by_scan bytes; read = all.1 };
      batch_is =
          subst (λ (xs : List Item). IsItemsOf batch xs) (sym (all.2 ∙ append-nil items)) is;
    }

-- ---- one item after another

pub write_more : (items : List Item) (i : ℕ) (item : Item) (old new bytes : List ℕ) → i < length items → item ≡ get_or items i item →
    bytes ≡ item.bytes → new ≡ old ++ bytes
    → old ++ delta_octets (drop i items) ≡ delta_octets items → new ++ delta_octets (drop (i + 1) items) ≡ delta_octets items
unfolding delta_octets
write_more items i item old new bytes within is same grown so_far =
    let rest : List ℕ = delta_octets (drop (i + 1) items) in
    let next : delta_octets (drop i items) ≡ item.bytes ++ rest = at_drop_more delta_octets items i item within ∙
    ap (λ (x : Item). x.bytes ++ rest) (sym is) in
    ap (λ (t : List ℕ). t ++ rest) grown ∙ ap (λ (t : List ℕ). (old ++ t) ++ rest) same ∙ append_assoc old item.bytes rest ∙
    ap (λ (t : List ℕ). old ++ t) (sym next) ∙ so_far

pub write_done : (items : List Item) (i : ℕ) (old : List ℕ) → length items ≤ i → old ++ delta_octets (drop i items) ≡ delta_octets items →
    old ≡ delta_octets items
unfolding delta_octets
write_done items i old past so_far = sym (append-nil old) ∙ ap (λ (t : List ℕ). old ++ t) (sym (at_drop_all delta_octets items i past)) ∙
    so_far
