-- A line gives the command that it spells.
use Rattle.std.proofs.Common.{◌≡◌, ◌≢◌, ℕ, suc, ◌+◌, ◌<◌, Bool, true, false, not, subst, cond, eqb, ltb, ◌&&◌, List, [], ◌∷◌, ◌++◌, length}
use Rattle.std.proofs.Common.{take, drop, refl, sym, ap, ◌∙◌, append_assoc, arith, Option, Some, None, codes}
use Rattle.std.proofs.lemmas.Bool.{eqb-true, eqb-false, ne_eqb, ltb-true}
use Rattle.std.proofs.lemmas.Slice.Eq.{bytes_eq-Decides}
use Rattle.std.proofs.lemmas.List.{take_at, drop_at, length-append}
use Rattle.std.specs.Str.{bytes_eq}
use Rattle.std.specs.List.{AllByRecursion, list_all, position_or_len}
use Rattle.itip_report.specs.ReportNames.{name_text}
use Rattle.itip_script.specs.declared.command.Verb.{Verb}
use Rattle.itip_script.specs.declared.command.Verb.TheVariants as verb
use Rattle.itip_report.specs.declared.report_name.ReportName.{ReportName}
use Rattle.itip_report.specs.declared.report_name.ReportName.TheVariants as name
use Rattle.itip_script.specs.Orders.{Order, takes, lists, lists_for, posts, arrives, reports, resends, asks_next, counts, malformed}
use Rattle.itip_script.specs.Orders.{is_digit, number_of, digits_value, rest_of, report_of, verb_of, before_space, after_space, spelled_by}
use Rattle.itip_script.specs.Orders.{spelled, ◌>>=◌}
use Rattle.itip_script.specs.Spelling.{Spells, SpellsNumber, SpellsBehind}

abbrev HasNoSpace : List ℕ → Type 0
HasNoSpace bytes = AllByRecursion (λ b. b ≢ 32) bytes

space_after : (word rest : List ℕ) → HasNoSpace word → position_or_len (λ b. eqb b 32) (word ++ 32 ∷ rest) ≡ length word
space_after [] rest plain = refl
space_after (b ∷ word) rest plain =
    ap (λ (t : Bool). cond (not t) (1 + position_or_len (λ b. eqb b 32) (word ++ 32 ∷ rest)) 0) (ne_eqb b 32 plain.0)
    ∙ (let e = space_after word rest plain.1 in omega (arith, e))

before_space_at : (word rest : List ℕ) → HasNoSpace word → before_space (word ++ 32 ∷ rest) ≡ word
before_space_at word rest plain = take_at word (32 ∷ rest) _ (sym (space_after word rest plain))

after_space_at : (word rest : List ℕ) → HasNoSpace word → after_space (word ++ 32 ∷ rest) ≡ rest
after_space_at word rest plain =
    let long : length (word ++ 32 ∷ []) ≡ position_or_len (λ b. eqb b 32) (word ++ 32 ∷ rest) + 1 =
    omega (arith, space_after word rest plain, length-append word (32 ∷ [])) in
    ap (λ (t : List ℕ). drop (position_or_len (λ b. eqb b 32) (word ++ 32 ∷ rest) + 1) t) (sym (append_assoc word (32 ∷ []) rest))
    ∙ drop_at (word ++ 32 ∷ []) rest (position_or_len (λ b. eqb b 32) (word ++ 32 ∷ rest) + 1) long

-- if there is something after a space, the parts give the bytes back
parts_of : (bytes : List ℕ) → 0 < length (after_space bytes) → bytes ≡ before_space bytes ++ 32 ∷ after_space bytes
parts_of [] some = absurd (omega arith)
parts_of (b ∷ bytes) some =
    elim (eqb b 32) as (λ t. eqb b 32 ≡ t → 0 < length
    (drop (cond (not t) (1 + position_or_len (λ b. eqb b 32) bytes) 0 + 1) (b ∷ bytes)) → b ∷
    bytes ≡ take (cond (not t) (1 + position_or_len (λ b. eqb b 32) bytes) 0) (b ∷ bytes) ++ 32 ∷
    drop (cond (not t) (1 + position_or_len (λ b. eqb b 32) bytes) 0 + 1) (b ∷ bytes)) [
      | true ↦ λ e _. ap (λ (n : ℕ). n ∷ bytes) (eqb-true b 32 e)
      | false ↦ λ e more.
          let n = position_or_len (λ b. eqb b 32) bytes in
          let front : 1 + n ≡ suc n = omega arith in
          let behind : 1 + n + 1 ≡ suc (n + 1) = omega arith in
          let rest = parts_of bytes (subst (λ (k : ℕ). 0 < length (drop k (b ∷ bytes))) behind more) in
          ap (λ (t : List ℕ). b ∷ t) rest
          ∙ ap (λ (k : ℕ). take k (b ∷ bytes) ++ 32 ∷ after_space bytes) (sym front)
          ∙ ap (λ (k : ℕ). take (1 + n) (b ∷ bytes) ++ 32 ∷ drop k (b ∷ bytes)) (sym behind)
    ] refl some

-- ---- numbers

digit_no_space : (b : ℕ) → is_digit b ≡ true → b ≢ 32
digit_no_space b e space = let bad : is_digit 32 ≡ true = ap is_digit (sym space) ∙ e in absurd cc

both : (a b : Bool) → (a && b) ≡ true → (a ≡ true) × (b ≡ true)
both true b e = (refl, e)
both false b e = absurd cc

digits_no_space : (word : List ℕ) → list_all is_digit word ≡ true → HasNoSpace word
digits_no_space [] e = tt
digits_no_space (b ∷ word) e =
    let parts = both (is_digit b) (list_all is_digit word) e in
    (digit_no_space b parts.0, digits_no_space word parts.1)

chosen : {A : Type 0} (b : Bool) (x : A) (y : A) → cond b (Some x) None ≡ Some y → (b ≡ true) × (x ≡ y)
chosen true x y e = (refl, cc)
chosen false x y e = absurd cc

number_no_space : (word : List ℕ) (number : ℕ) → number_of word ≡ Some number → HasNoSpace word
number_no_space word number e =
    let test = (chosen _ (digits_value 0 word) number e).0 in
    let inner = (both (ltb 0 (length word)) _ test).1 in
    digits_no_space word (both (list_all is_digit word) _ inner).0

number_some : (word : List ℕ) (number : ℕ) → number_of word ≡ Some number → 0 < length word
number_some word number e =
    let test = (chosen _ (digits_value 0 word) number e).0 in
    ltb-true 0 (length word) (both (ltb 0 (length word)) _ test).0

bound : {A B : Type 0} (o : Option A) (f : A → Option B) (y : B) → (o >>= f) ≡ Some y → (x : A) × (o ≡ Some x) × (f x ≡ Some y)
bound None f y e = absurd cc
bound (Some x) f y e = (x, refl, e)

-- ---- words

abbrev verb_text : Verb → List ℕ
verb_text verb.Take = codes "!take"
verb_text verb.List = codes "!list"
verb_text verb.Mine = codes "!mine"
verb_text verb.Post = codes "!post"
verb_text verb.Arrive = codes "!arrive"
verb_text verb.Report = codes "!report"
verb_text verb.Resend = codes "!resend"
verb_text verb.Next = codes "!next"
verb_text verb.Entries = codes "!entries"

word_step : {V : Type 0} (text : V → List ℕ) (word : List ℕ) (v found : V) (rest : Option V) → (rest ≡ Some found → word ≡ text found) →
    cond (bytes_eq word (text v)) (Some v) rest ≡ Some found → word ≡ text found
word_step text word v found rest others e =
    elim (bytes_eq word (text v)) as (λ b. bytes_eq word (text v) ≡ b → cond b (Some v) rest ≡ Some found → word ≡ text found) [
      | true ↦ λ t s. let same : v ≡ found = cc in (bytes_eq-Decides word (text v)).0 t ∙ ap text same
      | false ↦ λ _ s. others s
    ] refl e

verb_word : (word : List ℕ) (found : Verb) → verb_of word ≡ Some found → word ≡ verb_text found
verb_word word found =
    word_step verb_text word verb.Take found _
    (word_step verb_text word verb.List found _
    (word_step verb_text word verb.Mine found _
    (word_step verb_text word verb.Post found _
    (word_step verb_text word verb.Arrive found _
    (word_step verb_text word verb.Report found _
    (word_step verb_text word verb.Resend found _
    (word_step verb_text word verb.Next found _
    (word_step verb_text word verb.Entries found None (λ e. absurd cc)))))))))

report_word : (word : List ℕ) (found : ReportName) → report_of word ≡ Some found → word ≡ name_text found
report_word word found =
    word_step name_text word name.Load found _
    (word_step name_text word name.Progress found _
    (word_step name_text word name.Cancelled found _
    (word_step name_text word name.Orphans found _
    (word_step name_text word name.Refresh found None (λ e. absurd cc)))))

rest_some : (bytes uid : List ℕ) → rest_of bytes ≡ Some uid → (bytes ≡ uid) × (0 < length bytes)
rest_some bytes uid e =
    elim (eqb (length bytes) 0) as (λ t. eqb (length bytes) 0 ≡ t → cond t None (Some bytes) ≡ Some uid → (bytes ≡ uid) ×
    (0 < length bytes)) [
      | true ↦ λ _ s. absurd cc
      | false ↦ λ t s. (cc, let ne = eqb-false (length bytes) 0 t in omega (arith, ne))
    ] refl e

-- ---- whole lines

-- a text without a space, by a test that computes
space_free : (word : List ℕ) → list_all (λ b. not (eqb b 32)) word ≡ true → HasNoSpace word
space_free [] e = tt
space_free (b ∷ word) e =
    let parts = both (not (eqb b 32)) (list_all (λ b. not (eqb b 32)) word) e in
    ((λ same. let bad : not (eqb 32 32) ≡ true = ap (λ (n : ℕ). not (eqb n 32)) (sym same) ∙ parts.0 in absurd cc), space_free word parts.1)

abbrev IsPlain : Verb → Type 0
IsPlain v = HasNoSpace (verb_text v)

at_verb : (line message rest : List ℕ) (v : Verb) → IsPlain v → verb_of (verb_text v) ≡ Some v → line ≡ verb_text v ++ 32 ∷ rest →
    spelled line message ≡ spelled_by v rest message
at_verb line message rest v plain known whole =
    ap (λ (t : List ℕ). verb_of (before_space t) >>= λ w. spelled_by w (after_space t) message) whole
    ∙ ap (λ (t : List ℕ). verb_of t >>= λ w. spelled_by w (after_space (verb_text v ++ 32 ∷ rest)) message)
    (before_space_at (verb_text v) rest plain)
    ∙ ap (λ (t : List ℕ). verb_of (verb_text v) >>= λ w. spelled_by w t message) (after_space_at (verb_text v) rest plain)
    ∙ ap (λ (o : Option Verb). o >>= λ w. spelled_by w rest message) known

first_number : (digits rest : List ℕ) (number : ℕ) → number_of digits ≡ Some number →
    (number_of (before_space (digits ++ 32 ∷ rest)) ≡ Some number) × (after_space (digits ++ 32 ∷ rest) ≡ rest)
first_number digits rest number value =
    let plain = number_no_space digits number value in
    (ap number_of (before_space_at digits rest plain) ∙ value, after_space_at digits rest plain)

-- a number alone after the word
one_number : (line message : List ℕ) (v : Verb) (number : ℕ) (give : ℕ → Order) → IsPlain v → verb_of (verb_text v) ≡ Some v →
    ((rest : List ℕ) → spelled_by v rest message ≡ (number_of rest >>= λ n. Some (give n))) → SpellsNumber line (verb_text v) number →
    spelled line message ≡ Some (give number)
one_number line message v number give plain known by s =
    at_verb line message s.digits v plain known s.whole ∙ by s.digits ∙ ap (λ (o : Option ℕ). o >>= λ n. Some (give n)) s.value

-- a number, and what another reader reads after it
number_and : {X : Type 0} (line message behind : List ℕ) (v : Verb) (number : ℕ) (x : X) (read : List ℕ → Option X) (give : ℕ → X →
    Order) → IsPlain v → verb_of (verb_text v) ≡ Some v
    → ((rest : List ℕ) → spelled_by v rest message ≡ (number_of (before_space rest) >>= λ n. read (after_space rest) >>=
    λ y. Some (give n y)))
    → SpellsBehind line (verb_text v) number behind → read behind ≡ Some x → spelled line message ≡ Some (give number x)
number_and line message behind v number x read give plain known by s reads =
    let parts = first_number s.digits behind number s.value in
    at_verb line message (s.digits ++ 32 ∷ behind) v plain known s.whole ∙ by (s.digits ++ 32 ∷ behind)
    ∙ ap (λ (o : Option ℕ). o >>= λ n. read (after_space (s.digits ++ 32 ∷ behind)) >>= λ y. Some (give n y)) parts.0
    ∙ ap (λ (t : List ℕ). read t >>= λ y. Some (give number y)) parts.1
    ∙ ap (λ o. o >>= λ y. Some (give number y)) reads

rest_reads : (uid : List ℕ) → 0 < length uid → rest_of uid ≡ Some uid
rest_reads [] some = absurd (omega arith)
rest_reads (b ∷ uid) some = ap (λ (t : Bool). cond t None (Some (b ∷ uid))) (ne_eqb (suc (length uid)) 0 (λ e. absurd (omega arith)))

report_reads : (named : ReportName) → report_of (name_text named) ≡ Some named
report_reads name.Load = refl
report_reads name.Progress = refl
report_reads name.Cancelled = refl
report_reads name.Orphans = refl
report_reads name.Refresh = refl

plain_verb : (v : Verb) → IsPlain v
plain_verb verb.Take = space_free (codes "!take") refl
plain_verb verb.List = space_free (codes "!list") refl
plain_verb verb.Mine = space_free (codes "!mine") refl
plain_verb verb.Post = space_free (codes "!post") refl
plain_verb verb.Arrive = space_free (codes "!arrive") refl
plain_verb verb.Report = space_free (codes "!report") refl
plain_verb verb.Resend = space_free (codes "!resend") refl
plain_verb verb.Next = space_free (codes "!next") refl
plain_verb verb.Entries = space_free (codes "!entries") refl

known_verb : (v : Verb) → verb_of (verb_text v) ≡ Some v
known_verb verb.Take = refl
known_verb verb.List = refl
known_verb verb.Mine = refl
known_verb verb.Post = refl
known_verb verb.Arrive = refl
known_verb verb.Report = refl
known_verb verb.Resend = refl
known_verb verb.Next = refl
known_verb verb.Entries = refl

-- what a line spells, it gives
pub spelled_gives : (line message : List ℕ) (order : Order) → Spells line message order → spelled line message ≡ Some order
spelled_gives line message (takes desk text) s =
    one_number line message verb.Take desk (λ n. takes n message) (plain_verb verb.Take) refl (λ rest. refl) s.0 ∙
    ap (λ (t : List ℕ). Some (takes desk t)) (sym s.1)
spelled_gives line message (lists desk) s = one_number line message verb.List desk lists (plain_verb verb.List) refl (λ rest. refl) s
spelled_gives line message (lists_for desk address) s =
    number_and line message address verb.Mine desk address rest_of lists_for (plain_verb verb.Mine) refl (λ rest. refl) s.front
    (rest_reads address s.some)
spelled_gives line message (posts desk since) s =
    number_and line message s.digits verb.Post desk since number_of posts (plain_verb verb.Post) refl (λ rest. refl) s.front s.value
spelled_gives line message (arrives packet desk) s =
    number_and line message s.digits verb.Arrive packet desk number_of arrives (plain_verb verb.Arrive) refl (λ rest. refl) s.front s.value
spelled_gives line message (reports desk named) s =
    number_and line message (name_text named) verb.Report desk named report_of reports (plain_verb verb.Report) refl (λ rest. refl) s
    (report_reads named)
spelled_gives line message (resends desk uid) s =
    number_and line message uid verb.Resend desk uid rest_of resends (plain_verb verb.Resend) refl (λ rest. refl) s.front
    (rest_reads uid s.some)
spelled_gives line message (asks_next desk uid) s =
    number_and line message uid verb.Next desk uid rest_of asks_next (plain_verb verb.Next) refl (λ rest. refl) s.front
    (rest_reads uid s.some)
spelled_gives line message (counts desk) s =
    one_number line message verb.Entries desk counts (plain_verb verb.Entries) refl (λ rest. refl) s
spelled_gives line message malformed s = absurd s

-- ---- the other way

abbrev some_behind : List ℕ → Type 0
some_behind line = 0 < length (after_space line)

whole_at : (line : List ℕ) (v : Verb) → verb_of (before_space line) ≡ Some v → some_behind line → line ≡ verb_text v ++ 32 ∷
    after_space line
whole_at line v known some = parts_of line some ∙ ap (λ (t : List ℕ). t ++ 32 ∷ after_space line) (verb_word (before_space line) v known)

-- what was given is one number, and nothing after it
find_number : (line : List ℕ) (v : Verb) (order : Order) (give : ℕ → Order) → verb_of (before_space line) ≡ Some v →
    (number_of (after_space line) >>= λ n. Some (give n)) ≡ Some order → (n : ℕ) × SpellsNumber line (verb_text v) n × (give n ≡ order)
find_number line v order give known e =
    let found = bound (number_of (after_space line)) (λ n. Some (give n)) order e in (
      found.0,
      record {
        digits = after_space line;
        value = found.1;
        whole =
            whole_at line v known (number_some (after_space line) found.0 found.1);
      },
      (let s = found.2 in cc),
    )

find_behind : {X : Type 0} (line : List ℕ) (v : Verb) (order : Order) (read : List ℕ → Option X) (give : ℕ → X → Order) →
    verb_of (before_space line) ≡ Some v
    → ((bytes : List ℕ) (x : X) → read bytes ≡ Some x → 0 < length bytes)
    → (number_of (before_space (after_space line)) >>= λ n. read (after_space (after_space line)) >>= λ y. Some (give n y)) ≡ Some order
    → (n : ℕ) × (x : X) × SpellsBehind line (verb_text v) n (after_space (after_space line)) ×
    (read (after_space (after_space line)) ≡ Some x) × (give n x ≡ order)
find_behind line v order read give known nonempty e =
    let rest = after_space line in
    let first = bound (number_of (before_space rest)) (λ n. read (after_space rest) >>= λ y. Some (give n y)) order e in
    let second = bound (read (after_space rest)) (λ y. Some (give first.0 y)) order first.2 in
    let some = nonempty (after_space rest) second.0 second.1 in
    let parts = parts_of rest some in
    let long : some_behind line = omega (arith, ap length parts, length-append (before_space rest) (32 ∷ after_space rest)) in (
      first.0,
      second.0,
      record {
        digits = before_space rest;
        value = first.1;
        whole = whole_at line v known long ∙
            ap (λ (t : List ℕ). verb_text v ++ 32 ∷ t) parts;
      },
      second.1,
      (let s = second.2 in cc),
    )

name_some : (named : ReportName) → 0 < length (name_text named)
name_some name.Load = omega arith
name_some name.Progress = omega arith
name_some name.Cancelled = omega arith
name_some name.Orphans = omega arith
name_some name.Refresh = omega arith

report_some : (bytes : List ℕ) (named : ReportName) → report_of bytes ≡ Some named → 0 < length bytes
report_some bytes named e = let same = ap length (report_word bytes named e) in omega (arith, same, name_some named)

by_verb : (line message : List ℕ) (order : Order) (v : Verb) → verb_of (before_space line) ≡ Some v →
    spelled_by v (after_space line) message ≡ Some order → Spells line message order
by_verb line message order verb.Take known e =
    let f = find_number line verb.Take order (λ n. takes n message) known e in subst (λ (o : Order). Spells line message o) f.2 (f.1, refl)
by_verb line message order verb.List known e =
    let f = find_number line verb.List order lists known e in subst (λ (o : Order). Spells line message o) f.2 f.1
by_verb line message order verb.Mine known e =
    let f = find_behind line verb.Mine order rest_of lists_for known (λ b x s. (rest_some b x s).1) e in
    let address = rest_some (after_space (after_space line)) f.1 f.3 in
    subst (λ (o : Order). Spells line message o) f.4
    (record {
      some = subst (λ (t : List ℕ). 0 < length t) address.0 address.1;
      front =
          subst (λ (t : List ℕ). SpellsBehind line (codes "!mine") f.0 t) address.0 f.2;
    })
by_verb line message order verb.Post known e =
    let f = find_behind line verb.Post order number_of posts known number_some e in
    subst (λ (o : Order). Spells line message o) f.4 (record { digits = after_space (after_space line); value = f.3; front = f.2 })
by_verb line message order verb.Arrive known e =
    let f = find_behind line verb.Arrive order number_of arrives known number_some e in
    subst (λ (o : Order). Spells line message o) f.4 (record { digits = after_space (after_space line); value = f.3; front = f.2 })
by_verb line message order verb.Report known e =
    let f = find_behind line verb.Report order report_of reports known report_some e in
    subst (λ (o : Order). Spells line message o) f.4
    (subst (λ (t : List ℕ). SpellsBehind line (codes "!report") f.0 t) (report_word (after_space (after_space line)) f.1 f.3) f.2)
by_verb line message order verb.Resend known e =
    let f = find_behind line verb.Resend order rest_of resends known (λ b x s. (rest_some b x s).1) e in
    let uid = rest_some (after_space (after_space line)) f.1 f.3 in
    subst (λ (o : Order). Spells line message o) f.4
    (record {
      some = subst (λ (t : List ℕ). 0 < length t) uid.0 uid.1;
      front =
          subst (λ (t : List ℕ). SpellsBehind line (codes "!resend") f.0 t) uid.0 f.2;
    })
by_verb line message order verb.Next known e =
    let f = find_behind line verb.Next order rest_of asks_next known (λ b x s. (rest_some b x s).1) e in
    let uid = rest_some (after_space (after_space line)) f.1 f.3 in
    subst (λ (o : Order). Spells line message o) f.4
    (record {
      some = subst (λ (t : List ℕ). 0 < length t) uid.0 uid.1;
      front =
          subst (λ (t : List ℕ). SpellsBehind line (codes "!next") f.0 t) uid.0 f.2;
    })
by_verb line message order verb.Entries known e =
    let f = find_number line verb.Entries order counts known e in subst (λ (o : Order). Spells line message o) f.2 f.1

-- a command that a line gives is spelled by it
pub gives_spelled : (line message : List ℕ) (order : Order) → spelled line message ≡ Some order → Spells line message order
gives_spelled line message order e =
    let found = bound (verb_of (before_space line)) (λ w. spelled_by w (after_space line) message) order e in
    by_verb line message order found.0 found.1 found.2
