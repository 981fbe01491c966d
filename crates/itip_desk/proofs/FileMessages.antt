-- A message of the file of a desk is the canonical form of its item, with parameters of PRODID and VERSION: it is read as that item, and
-- is cut from what follows it.
use Rattle.std.proofs.Common.{◌≡◌, ◌∙◌, sym, ap, refl, subst, ℕ, ◌+◌, ◌-◌, ◌<◌, ◌≤◌, ◌^◌, Bool, true, false, cond, List, [], ◌∷◌, ◌++◌}
use Rattle.std.proofs.Common.{length, map, drop, arith, append_assoc, append-nil, Option, Some, None}
use Rattle.std.specs.Prelude.{IfSome, codes, nat_lt}
use Rattle.std.specs.Fmt.{decimal}
use Rattle.std.specs.List.{AllByRecursion, list_all, concat}
use Rattle.std.proofs.lemmas.Bool.{and_parts}
use Rattle.std.proofs.lemmas.Bool.Decides.{nat_tests}
use Rattle.std.proofs.lemmas.Fmt.{IsAscii-decimal, length-decimal-le}
use Rattle.std.proofs.lemmas.List.{length-append, length-drop, map-append}
use Rattle.std.proofs.lemmas.List.Folds.{list_all-append}
use Rattle.std.proofs.lemmas.Str.{IsUtf8-from_ascii}
use Rattle.itip_lines.specs.Lawful as line
use Rattle.itip_lines.specs.Lawful.{params_text, param_text, IsName, IsLawfulParam}
use Rattle.itip_lines.specs.Octets.{is_quotable_octet, is_separator}
use Rattle.itip_lines.specs.Writing.{fits, folded}
use Rattle.itip_lines.specs.declared.line.Param.{Param}
use Rattle.itip_todo.specs.Lawful.{IsLawfulContent}
use Rattle.itip_todo.specs.PartsOf.{parts_of}
use Rattle.itip_todo.specs.Written.{Content, content_octets, contents_octets, parts_contents}
use Rattle.itip_items.specs.Items.{bare}
use Rattle.itip_items.specs.declared.item.Item.{Item}
use Rattle.itip_items.proofs.Contents.{canonical_lawful}
use Rattle.itip_items.proofs.SameItem.{contents, bytes_are, few_octets}
use Rattle.itip_message.specs.Message.{ReadsMessage}
use Rattle.itip_message.specs.Scanned.{begins_blank, lines_of, ends_calendar, groups_of, texts_of, messages_of}
use Rattle.itip_message.proofs.Folded.{contents_lines, contents_end_none}
use Rattle.itip_message.proofs.Messages.{texts_end}
use Rattle.itip_message.proofs.Placing.{product, version, method_line, ends}
use Rattle.itip_message.proofs.Plain.{IsNotEnd, none_ends_both, parts_not_end}
use Rattle.itip_message.proofs.ReadAgain.{marked, reads_marked}
use Rattle.itip_desk.specs.declared.file_text.FileHead.{FileHead}
use Rattle.itip_desk.specs.DeskFile.{parameter_text, product_parameters, version_parameters, begins_text, product_text, version_text}
use Rattle.itip_desk.specs.DeskFile.{message_text}
use Rattle.itip_desk.specs.FileReading.{IsHead}
use Rattle.itip_streams.proofs.Decimals.{both_true, decimal_all, decimal_none}
use Rattle.itip_desk.proofs.FileNumbers.{parameter_size}
use Rattle.itip_desk.proofs.ReadDeltas.{others, lawful_front, concat_octets, none_more, end_of_todo, end_of_calendar}

-- ---- the parameters as those of content lines

abbrev number_param : List ℕ → ℕ → Param
number_param name n = record { name = name; values = decimal n ∷ [] }

abbrev product_params : Option FileHead → List Param
product_params None = []
product_params (Some head) = number_param (codes "X-FORM") 1 ∷ number_param (codes "X-ITEMS") head.items ∷ []

abbrev version_params : Option FileHead → ℕ → List Param
version_params None at = number_param (codes "X-MOVED") at ∷ []
version_params (Some head) at = number_param (codes "X-TICK") head.tick ∷ number_param (codes "X-MOVED") at ∷ []

one_fits : 1 < 2 ^ 64
one_fits = omega arith

no_separator : (d : ℕ) → d < 10 → is_separator (48 + d) ≡ false
no_separator d h = grind (arith, nat_tests)

quotable : (d : ℕ) → d < 10 → is_quotable_octet (48 + d) ≡ true
quotable d h = grind (arith, nat_tests)

-- a number needs no quotes
param_is : (name : List ℕ) (n : ℕ) → n < 2 ^ 64 → param_text (number_param name n) ≡ 59 ∷ (name ++ 61 ∷ decimal n)
param_is name n small =
    ap (λ (t : Bool). 59 ∷ (name ++ 61 ∷ cond t (34 ∷ (decimal n ++ 34 ∷ [])) (decimal n))) (decimal_none is_separator no_separator n small)

product_text_is : (head : Option FileHead) → IfSome head IsHead → params_text (product_params head) ≡ product_parameters head
product_text_is None is = refl
product_text_is (Some head) is =
    ap (λ (t : List ℕ). t ++ (param_text (number_param (codes "X-ITEMS") head.items) ++ [])) (param_is (codes "X-FORM") 1 one_fits)
    ∙ ap (λ (t : List ℕ). parameter_text (codes ";X-FORM=") 1 ++ t)
    (append-nil (param_text (number_param (codes "X-ITEMS") head.items)) ∙ param_is (codes "X-ITEMS") head.items is.items)

version_text_is : (head : Option FileHead) (at : ℕ) → IfSome head IsHead → at < 2 ^ 64 →
    params_text (version_params head at) ≡ version_parameters head at
version_text_is None at is small = append-nil (param_text (number_param (codes "X-MOVED") at)) ∙ param_is (codes "X-MOVED") at small
version_text_is (Some head) at is small =
    ap (λ (t : List ℕ). t ++ (param_text (number_param (codes "X-MOVED") at) ++ [])) (param_is (codes "X-TICK") head.tick is.tick)
    ∙ ap (λ (t : List ℕ). parameter_text (codes ";X-TICK=") head.tick ++ t)
    (append-nil (param_text (number_param (codes "X-MOVED") at)) ∙ param_is (codes "X-MOVED") at small)

param_lawful : (name : List ℕ) → IsName name → (n : ℕ) → n < 2 ^ 64 → IsLawfulParam (number_param name n)
param_lawful name named n small = record {
  named = named;
  some = omega arith;
  values = (
    record {
      octets = decimal_all is_quotable_octet quotable n small;
      utf8 = IsUtf8-from_ascii (decimal n) (IsAscii-decimal n small);
    },
    tt,
  );
}

product_each : (head : Option FileHead) → IfSome head IsHead → AllByRecursion IsLawfulParam (product_params head)
product_each None is = tt
product_each (Some head) is = (
  param_lawful (codes "X-FORM") (record { some = omega arith; upper = refl }) 1 one_fits,
  (param_lawful (codes "X-ITEMS") (record { some = omega arith; upper = refl }) head.items is.items, tt),
)

version_each : (head : Option FileHead) (at : ℕ) → IfSome head IsHead → at < 2 ^ 64 → AllByRecursion IsLawfulParam (version_params head at)
version_each None at is small = (param_lawful (codes "X-MOVED") (record { some = omega arith; upper = refl }) at small, tt)
version_each (Some head) at is small = (
  param_lawful (codes "X-TICK") (record { some = omega arith; upper = refl }) head.tick is.tick,
  (param_lawful (codes "X-MOVED") (record { some = omega arith; upper = refl }) at small, tt),
)

-- ---- they are short, and need no fold

product_size : (head : Option FileHead) → IfSome head IsHead → length (product_parameters head) ≤ 38
product_size None is = omega arith
product_size (Some head) is =
    let one : length (decimal 1) ≤ 1 = length-decimal-le 1 1 (omega arith) (omega arith) one_fits in
    let form : length (parameter_text (codes ";X-FORM=") 1) ≡ 8 + length (decimal 1) = length-append (codes ";X-FORM=") (decimal 1) in
    let items : length (parameter_text (codes ";X-ITEMS=") head.items) ≤ 9 + 20 = parameter_size (codes ";X-ITEMS=") head.items is.items in
    omega (arith, one, form, items, length-append (parameter_text (codes ";X-FORM=") 1) (parameter_text (codes ";X-ITEMS=") head.items))

version_size : (head : Option FileHead) (at : ℕ) → IfSome head IsHead → at < 2 ^ 64 → length (version_parameters head at) ≤ 57
version_size None at is small =
    let moved : length (parameter_text (codes ";X-MOVED=") at) ≤ 9 + 20 = parameter_size (codes ";X-MOVED=") at small in omega
    (arith, moved)
version_size (Some head) at is small =
    let tick : length (parameter_text (codes ";X-TICK=") head.tick) ≤ 8 + 20 = parameter_size (codes ";X-TICK=") head.tick is.tick in
    let moved : length (parameter_text (codes ";X-MOVED=") at) ≤ 9 + 20 = parameter_size (codes ";X-MOVED=") at small in
    omega (arith, tick, moved, length-append (parameter_text (codes ";X-TICK=") head.tick) (parameter_text (codes ";X-MOVED=") at))

-- a byte that doesn't begin a UTF-8 sequence of several
abbrev low : ℕ → Bool
low b = nat_lt b 192

low_digit : (d : ℕ) → d < 10 → low (48 + d) ≡ true
low_digit d h = grind (arith, nat_tests)

low_both : (a b : List ℕ) → list_all low a ≡ true → list_all low b ≡ true → list_all low (a ++ b) ≡ true
low_both a b h k = list_all-append low a b ∙ both_true (list_all low a) (list_all low b) h k

low_parameter : (name : List ℕ) (n : ℕ) → list_all low name ≡ true → n < 2 ^ 64 → list_all low (parameter_text name n) ≡ true
low_parameter name n h small = low_both name (decimal n) h (decimal_all low low_digit n small)

low_product : (head : Option FileHead) → IfSome head IsHead → list_all low (product_parameters head) ≡ true
low_product None is = refl
low_product (Some head) is =
    low_both (parameter_text (codes ";X-FORM=") 1) (parameter_text (codes ";X-ITEMS=") head.items)
    (low_parameter (codes ";X-FORM=") 1 refl one_fits) (low_parameter (codes ";X-ITEMS=") head.items refl is.items)

low_version : (head : Option FileHead) (at : ℕ) → IfSome head IsHead → at < 2 ^ 64 → list_all low (version_parameters head at) ≡ true
low_version None at is small = low_parameter (codes ";X-MOVED=") at refl small
low_version (Some head) at is small =
    low_both (parameter_text (codes ";X-TICK=") head.tick) (parameter_text (codes ";X-MOVED=") at)
    (low_parameter (codes ";X-TICK=") head.tick refl is.tick) (low_parameter (codes ";X-MOVED=") at refl small)

low_fits : (used b : ℕ) → nat_lt b 192 ≡ true → used + 1 ≤ 75 → fits used b ≡ true
low_fits used b h k = grind (arith, nat_tests)

no_fold : (used : ℕ) (bs : List ℕ) → list_all low bs ≡ true → used + length bs ≤ 75 → folded used bs ≡ bs ++ 13 ∷ (10 ∷ [])
no_fold used [] h k = refl
no_fold used (b ∷ bs) h k =
    let p = and_parts (low b) (list_all low bs) h in
    ap (λ (v : Bool). cond v (b ∷ folded (used + 1) bs) (13 ∷ (10 ∷ (32 ∷ (b ∷ folded 2 bs)))))
    (low_fits used b p.0 (omega (arith, k)))
    ∙ ap (λ (t : List ℕ). b ∷ t) (no_fold (used + 1) bs p.1 (omega (arith, k)))

-- a short line with parameters is written without folds
short_line : (name : List ℕ) (params : List Param) (parameters value : List ℕ) → params_text params ≡ parameters →
    list_all low name ≡ true → list_all low parameters ≡ true → list_all low value ≡ true
    → length name + length parameters + length value ≤ 74
    → content_octets (record { name = name; params = params; value = value }) ≡ name ++ (parameters ++ (58 ∷ value ++ 13 ∷ (10 ∷ [])))
short_line name params parameters value is low_name low_params low_value short =
    let rest : List ℕ = parameters ++ 58 ∷ value in
    let size : length (name ++ rest) ≤ 75 = omega (arith, short, length-append name rest, length-append parameters (58 ∷ value)) in
    ap (λ (t : List ℕ). folded 0 (name ++ (t ++ 58 ∷ value))) is
    ∙ no_fold 0 (name ++ rest) (low_both name rest low_name (low_both parameters (58 ∷ value) low_params low_value)) (omega (arith, size))
    ∙ append_assoc name rest (13 ∷ (10 ∷ []))
    ∙ ap (λ (t : List ℕ). name ++ t) (append_assoc parameters (58 ∷ value) (13 ∷ (10 ∷ [])))

-- ---- the message is the canonical form with these parameters

two_lines : (a p e b v r t : List ℕ) → (a ++ (p ++ e)) ++ ((b ++ (v ++ r)) ++ t) ≡ a ++ (p ++ (e ++ (b ++ (v ++ (r ++ t)))))
two_lines a p e b v r t = simp append_assoc

in_row : (b p q v r t : List ℕ) → (((b ++ p) ++ q) ++ (v ++ r)) ++ t ≡ b ++ (p ++ (q ++ (v ++ (r ++ t))))
in_row b p q v r t = simp append_assoc

-- the lines after VERSION
abbrev tail_of : Item → List ℕ
tail_of item = contents_octets (method_line item.kind ∷ (bare (codes "BEGIN")
    (codes "VTODO") ∷ (parts_contents (parts_of item.todo) ++ ends)))

tail_is : (item : Item) → drop 57 item.bytes ≡ tail_of item
tail_is item = ap (drop 57) (bytes_are item)

module _ (head : Option FileHead) (at : ℕ) (item : Item) (is : IfSome head IsHead) (small : at < 2 ^ 64) where
  abbrev form : List Content
  form = marked (product_params head) (version_params head at) item

  product_line : content_octets (product (product_params head)) ≡ codes "PRODID" ++
      (product_parameters head ++ codes ":-//itipdesk//1//EN\r\n")
  product_line =
      let size = product_size head is in
      short_line (codes "PRODID") (product_params head) (product_parameters head) (codes "-//itipdesk//1//EN") (product_text_is head is)
      refl (low_product head is) refl (omega (arith, size))

  version_line : content_octets (version (version_params head at)) ≡ codes "VERSION" ++ (version_parameters head at ++ codes ":2.0\r\n")
  version_line =
      let size = version_size head at is small in
      short_line (codes "VERSION") (version_params head at) (version_parameters head at) (codes "2.0") (version_text_is head at is small)
      refl (low_version head at is small) refl (omega (arith, size))

  pub marked_octets : message_text head at item.bytes ≡ contents_octets form
  marked_octets =
      ap (λ (t : List ℕ). product_text head ++ version_text head at ++ t) (tail_is item)
      ∙ in_row begins_text (product_parameters head) (codes ":-//itipdesk//1//EN\r\nVERSION") (version_parameters head at)
      (codes ":2.0\r\n") (tail_of item)
      ∙ sym (ap (λ (t : List ℕ). codes "BEGIN:VCALENDAR\r\n" ++ t)
      (ap (λ (t : List ℕ). t ++ (content_octets (version (version_params head at)) ++ tail_of item)) product_line
      ∙ ap (λ (t : List ℕ). (codes "PRODID" ++ (product_parameters head ++ codes ":-//itipdesk//1//EN\r\n")) ++ (t ++ tail_of item))
      version_line
      ∙ two_lines (codes "PRODID") (product_parameters head) (codes ":-//itipdesk//1//EN\r\n") (codes "VERSION")
      (version_parameters head at) (codes ":2.0\r\n") (tail_of item)))

  size : length (message_text head at item.bytes) ≤ 300000
  size =
      let few : length item.bytes ≤ 262144 = subst (λ (t : List ℕ). length t ≤ 262144) (sym (bytes_are item)) (few_octets item) in
      let products = product_size head is in
      let versions = version_size head at is small in
      omega (
        arith,
        few,
        products,
        versions,
        length-append (product_text head ++ version_text head at) (drop 57 item.bytes),
        length-append (product_text head) (version_text head at),
        length-append (begins_text ++ product_parameters head) (codes ":-//itipdesk//1//EN\r\nVERSION"),
        length-append begins_text (product_parameters head),
        length-append (version_parameters head at) (codes ":2.0\r\n"),
        length-drop 57 item.bytes,
      )

  bare_lawful : AllByRecursion IsLawfulContent (contents item)
  bare_lawful = canonical_lawful item.kind (parts_of item.todo) item.todo.lawful.lines

  product_lawful : IsLawfulContent (product (product_params head))
  product_lawful =
      let base = bare_lawful.1.0 in
      let short = product_size head is in
      record {
        named = base.named;
        each_param = product_each head is;
        octets = base.octets;
        utf8 = base.utf8;
        short = subst (λ (t : List ℕ). length (codes "PRODID" ++ (t ++ codes ":-//itipdesk//1//EN")) ≤ 65536)
            (sym (product_text_is head is))
            (omega (
              arith,
              short,
              length-append (codes "PRODID") (product_parameters head ++ codes ":-//itipdesk//1//EN"),
              length-append (product_parameters head) (codes ":-//itipdesk//1//EN"),
            ));
      }

  version_lawful : IsLawfulContent (version (version_params head at))
  version_lawful =
      let base = bare_lawful.1.1.0 in
      let short = version_size head at is small in
      record {
        named = base.named;
        each_param = version_each head at is small;
        octets = base.octets;
        utf8 = base.utf8;
        short = subst (λ (t : List ℕ). length (codes "VERSION" ++ (t ++ codes ":2.0")) ≤ 65536) (sym (version_text_is head at is small))
            (omega (
              arith,
              short,
              length-append (codes "VERSION") (version_parameters head at ++ codes ":2.0"),
              length-append (version_parameters head at) (codes ":2.0"),
            ));
      }

  -- it is read as its item
  pub message_read : ReadsMessage (message_text head at item.bytes) (item ∷ [])
  message_read =
      let short = size in
      subst (λ (bytes : List ℕ). ReadsMessage bytes (item ∷ [])) (sym marked_octets)
      (reads_marked (product_params head) (version_params head at) product_lawful version_lawful item
      (omega (arith, short, ap length marked_octets)))

  -- ---- and is cut from what follows it

  abbrev front : List Content
  front = (bare (codes "BEGIN") (codes "VCALENDAR") ∷ product (product_params head) ∷ version (version_params head at) ∷
      method_line item.kind ∷ bare (codes "BEGIN") (codes "VTODO") ∷ []) ++ parts_contents (parts_of item.todo)

  whole : form ≡ front ++ (end_of_todo ∷ end_of_calendar ∷ [])
  whole = sym (append_assoc (bare (codes "BEGIN") (codes "VCALENDAR") ∷ product (product_params head) ∷ version (version_params head at) ∷
      method_line item.kind ∷ bare (codes "BEGIN") (codes "VTODO") ∷ []) (parts_contents (parts_of item.todo))
      (end_of_todo ∷ end_of_calendar ∷ []))

  lawful : AllByRecursion IsLawfulContent form
  lawful = (bare_lawful.0, (product_lawful, (version_lawful, bare_lawful.1.1.1)))

  front_not_end : AllByRecursion IsNotEnd front
  front_not_end =
      none_ends_both (bare (codes "BEGIN") (codes "VCALENDAR") ∷ product (product_params head) ∷ version (version_params head at) ∷
      method_line item.kind ∷ bare (codes "BEGIN") (codes "VTODO") ∷ []) (parts_contents (parts_of item.todo))
      (refl, (refl, (refl, (refl, (refl, tt))))) (parts_not_end (parts_of item.todo) (others item))

  lines_before : List (List ℕ)
  lines_before = map content_octets front ++ content_octets end_of_todo ∷ []

  before_end_none : AllByRecursion (λ line. ends_calendar line ≡ false) lines_before
  unfolding lines_before
  before_end_none =
      none_more (map content_octets front) (content_octets end_of_todo)
      (contents_end_none front (lawful_front front (end_of_todo ∷ end_of_calendar ∷ [])
      (subst (λ (cs : List Content). AllByRecursion IsLawfulContent cs) whole lawful)) front_not_end)
      refl

  all_lines : map content_octets form ≡ lines_before ++ content_octets end_of_calendar ∷ []
  unfolding lines_before
  all_lines =
      ap (map content_octets) whole ∙ map-append content_octets front (end_of_todo ∷ end_of_calendar ∷ [])
      ∙ sym (append_assoc (map content_octets front) (content_octets end_of_todo ∷ []) (content_octets end_of_calendar ∷ []))

  module _ (rest : List ℕ) (plain : begins_blank rest ≡ false) where
    its_lines : lines_of (contents_octets form ++ rest) ≡ lines_before ++ content_octets end_of_calendar ∷ lines_of rest
    its_lines =
        contents_lines form rest lawful plain ∙ ap (λ (ls : List (List ℕ)). ls ++ lines_of rest) all_lines ∙
        append_assoc lines_before (content_octets end_of_calendar ∷ []) (lines_of rest)

    its_text : concat (lines_before ++ content_octets end_of_calendar ∷ []) ≡ contents_octets form
    its_text = ap concat (sym all_lines) ∙ concat_octets form

    one_text : texts_of (groups_of (lines_of (contents_octets form ++ rest))) ≡ contents_octets form ∷ texts_of (groups_of (lines_of rest))
    one_text =
        ap (λ (ls : List (List ℕ)). texts_of (groups_of ls)) its_lines ∙
        texts_end lines_before (content_octets end_of_calendar) (lines_of rest) before_end_none refl
        ∙ ap (λ (t : List ℕ). t ∷ texts_of (groups_of (lines_of rest))) its_text

    pub message_cut : messages_of (message_text head at item.bytes ++ rest) ≡ message_text head at item.bytes ∷ messages_of rest
    unfolding messages_of
    message_cut =
        subst (λ (t : List ℕ). texts_of (groups_of (lines_of (t ++ rest))) ≡ t ∷ texts_of (groups_of (lines_of rest)))
        (sym marked_octets) one_text
