-- refused messages as numbers
use Rattle.std.proofs.Common.{◌≡◌, ◌≢◌, ◌∙◌, sym, ap, refl, subst, ℕ, List, []}
use Rattle.std.proofs.Common.{◌∷◌, ◌++◌, length, map, Option, Some, None, append_assoc, append-nil}
use Rattle.std.proofs.lemmas.List.{length-map, map-append}
use Rattle.std.specs.Option.{option_to_list}
use Rattle.std.specs.List.{AllByRecursion}
use Rattle.itip_message.specs.declared.error.MessageCause.{MessageCause}
use Rattle.itip_inbox.specs.declared.refused.RefusedMessage.{RefusedMessage}
use Rattle.itip_inbox.specs.Leb128.{numbers, Spells}
use Rattle.itip_inbox.specs.PackedRefusals.{known, places, all_places, first_unpacked, after_first, unpacked, Fits, ArePlaces, ArePacked}

-- the numbers of a refused message are read back
read_parts : (cause : MessageCause) (source message : ℕ) (todo line : Option ℕ) (ns : List ℕ) →
    first_unpacked cause (known todo line ∷ (source ∷ (message ∷ (option_to_list todo ++ option_to_list line ++ ns)))) ≡
    record { source = source; message = message; refusal = record { cause = cause; todo = todo; line = line } }
read_parts cause source message None None ns = refl
read_parts cause source message None (Some line) ns = refl
read_parts cause source message (Some todo) None ns = refl
read_parts cause source message (Some todo) (Some line) ns = refl

pub read_back : (refused : RefusedMessage) (ns : List ℕ) → first_unpacked refused.refusal.cause (places refused ++ ns) ≡ refused
read_back refused ns =
    read_parts refused.refusal.cause refused.source refused.message refused.refusal.todo refused.refusal.line ns

-- and those after them are left
left_parts : (source message : ℕ) (todo line : Option ℕ) (ns : List ℕ) →
    after_first (known todo line ∷ (source ∷ (message ∷ (option_to_list todo ++ option_to_list line ++ ns)))) ≡ ns
left_parts source message None None ns = refl
left_parts source message None (Some line) ns = refl
left_parts source message (Some todo) None ns = refl
left_parts source message (Some todo) (Some line) ns = refl

pub left_behind : (refused : RefusedMessage) (ns : List ℕ) → after_first (places refused ++ ns) ≡ ns
left_behind refused ns = left_parts refused.source refused.message refused.refusal.todo refused.refusal.line ns

-- so all are read back
pub all_read_back : (refusals : List RefusedMessage) → unpacked (map (λ r. r.refusal.cause) refusals) (all_places refusals) ≡ refusals
all_read_back [] = refl
all_read_back (refused ∷ refusals) =
    ap (λ (r : RefusedMessage). r ∷ unpacked (map (λ r. r.refusal.cause) refusals) (after_first (places refused ++ all_places refusals)))
    (read_back refused (all_places refusals)) ∙
    ap (λ (ns : List ℕ). refused ∷ unpacked (map (λ r. r.refusal.cause) refusals) ns) (left_behind refused (all_places refusals)) ∙
    ap (λ (rs : List RefusedMessage). refused ∷ rs) (all_read_back refusals)

pub causes_of : (causes : List MessageCause) (ns : List ℕ) → map (λ r. r.refusal.cause) (unpacked causes ns) ≡ causes
causes_of [] ns = refl
causes_of (cause ∷ causes) ns = ap (λ (cs : List MessageCause). cause ∷ cs) (causes_of causes (after_first ns))

-- there are as many as causes
pub as_many : (causes : List MessageCause) (ns : List ℕ) → length (unpacked causes ns) ≡ length causes
as_many causes ns = sym (length-map (unpacked causes ns) (λ r. r.refusal.cause)) ∙ ap length (causes_of causes ns)

pub all_places-append : (xs ys : List RefusedMessage) → all_places (xs ++ ys) ≡ all_places xs ++ all_places ys
all_places-append [] ys = refl
all_places-append (x ∷ xs) ys =
    ap (λ (ns : List ℕ). places x ++ ns) (all_places-append xs ys) ∙ sym (append_assoc (places x) (all_places xs) (all_places ys))

-- octets that have numbers whatever follows have no others
have : (octets ns : List ℕ) → Spells octets ns → numbers octets ≡ ns
have octets ns spells = ap numbers (sym (append-nil octets)) ∙ spells [] ∙ append-nil ns

pub places_read : (causes : List MessageCause) (octets : List ℕ) → ArePacked causes octets → ArePlaces causes (numbers octets)
places_read causes octets packed = record {
  places = have octets (all_places (unpacked causes (numbers octets))) packed.spelled;
  fit = packed.fit;
}

-- others are read back behind them
pub more_read : (causes : List MessageCause) (octets new : List ℕ) (more : List RefusedMessage) →
    Spells new (all_places (unpacked causes (numbers octets)) ++ all_places more) →
    unpacked (causes ++ map (λ r. r.refusal.cause) more) (numbers new) ≡ unpacked causes (numbers octets) ++ more
more_read causes octets new more spells =
    let old : List RefusedMessage = unpacked causes (numbers octets) in
    let all : List RefusedMessage = old ++ more in
    let read : numbers new ≡ all_places all = have new (all_places old ++ all_places more) spells ∙ sym (all_places-append old more) in
    let of_causes : causes ++ map (λ r. r.refusal.cause) more ≡ map (λ r. r.refusal.cause) all =
    ap (λ (cs : List MessageCause). cs ++ map (λ r. r.refusal.cause) more) (sym (causes_of causes (numbers octets))) ∙
    sym (map-append (λ (r : RefusedMessage). r.refusal.cause) old more) in
    ap (λ (cs : List MessageCause). unpacked cs (numbers new)) of_causes ∙
    ap (unpacked (map (λ r. r.refusal.cause) all)) read ∙ all_read_back all

fit_more : (refusals more : List RefusedMessage) → AllByRecursion Fits refusals → AllByRecursion Fits more →
    AllByRecursion Fits (refusals ++ more)
fit_more [] more fit fits = fits
fit_more (first ∷ refusals) more fit fits = (fit.0, fit_more refusals more fit.1 fits)

pub more_packed : (causes : List MessageCause) (octets new : List ℕ) (more : List RefusedMessage) → ArePacked causes octets →
    AllByRecursion Fits more → Spells new (all_places (unpacked causes (numbers octets)) ++ all_places more) →
    ArePacked (causes ++ map (λ r. r.refusal.cause) more) new
more_packed causes octets new more packed fits spells =
    let old : List RefusedMessage = unpacked causes (numbers octets) in
    let all : old ++ more ≡ unpacked (causes ++ map (λ r. r.refusal.cause) more) (numbers new) =
    sym (more_read causes octets new more spells) in record {
      spelled = subst (λ (rs : List RefusedMessage). Spells new (all_places rs)) all
          (subst (Spells new) (sym (all_places-append old more)) spells);
      fit = subst (AllByRecursion Fits) all (fit_more old more packed.fit fits);
    }

-- and so is one
spelled_one : (before : List ℕ) (new : List ℕ) (refused : RefusedMessage) → Spells new (before ++ places refused) →
    Spells new (before ++ all_places (refused ∷ []))
spelled_one before new refused spells =
    subst (Spells new) (ap (λ (ns : List ℕ). before ++ ns) (sym (append-nil (places refused)))) spells

pub one_read : (causes : List MessageCause) (octets new : List ℕ) (refused : RefusedMessage) →
    Spells new (all_places (unpacked causes (numbers octets)) ++ places refused) →
    unpacked (causes ++ refused.refusal.cause ∷ []) (numbers new) ≡ unpacked causes (numbers octets) ++ refused ∷ []
one_read causes octets new refused spells =
    more_read causes octets new (refused ∷ []) (spelled_one (all_places (unpacked causes (numbers octets))) new refused spells)

pub one_packed : (causes : List MessageCause) (octets new : List ℕ) (refused : RefusedMessage) → ArePacked causes octets → Fits refused →
    Spells new (all_places (unpacked causes (numbers octets)) ++ places refused) → ArePacked (causes ++ refused.refusal.cause ∷ []) new
one_packed causes octets new refused packed fits spells =
    more_packed causes octets new (refused ∷ []) packed (fits, tt)
    (spelled_one (all_places (unpacked causes (numbers octets))) new refused spells)

spelled_both : (first second ns ms : List ℕ) → Spells first ns → Spells second ms → Spells (first ++ second) (ns ++ ms)
spelled_both first second ns ms one two more =
    ap numbers (append_assoc first second more) ∙ one (second ++ more) ∙ ap (λ (rest : List ℕ). ns ++ rest) (two more) ∙
    sym (append_assoc ns ms (numbers more))

-- two lists in a row are read back, one behind the other
pub both_read : (causes others : List MessageCause) (octets more : List ℕ) → ArePacked causes octets → ArePacked others more →
    unpacked (causes ++ others) (numbers (octets ++ more)) ≡ unpacked causes (numbers octets) ++ unpacked others (numbers more)
both_read causes others octets more one two =
    let behind : List RefusedMessage = unpacked others (numbers more) in
    ap (λ (cs : List MessageCause). unpacked (causes ++ cs) (numbers (octets ++ more))) (sym (causes_of others (numbers more))) ∙
    more_read causes octets (octets ++ more) behind
    (spelled_both octets more (all_places (unpacked causes (numbers octets))) (all_places behind) one.spelled two.spelled)

pub both_packed : (causes others : List MessageCause) (octets more : List ℕ) → ArePacked causes octets → ArePacked others more →
    ArePacked (causes ++ others) (octets ++ more)
both_packed causes others octets more one two =
    let behind : List RefusedMessage = unpacked others (numbers more) in
    subst (λ (cs : List MessageCause). ArePacked (causes ++ cs) (octets ++ more)) (causes_of others (numbers more))
    (more_packed causes octets (octets ++ more) behind one two.fit
    (spelled_both octets more (all_places (unpacked causes (numbers octets))) (all_places behind) one.spelled two.spelled))

-- where causes are left, the numbers of one refused message more are
pub one_left : (all causes : List MessageCause) (cause : MessageCause) (ns : List ℕ) → all ≡ cause ∷ causes → ArePlaces all ns →
    ((refused : RefusedMessage) (after : List ℕ) → Fits refused → ns ≢ places refused ++ after) → ⊥
one_left all causes cause ns is left none =
    let left = subst (λ (cs : List MessageCause). ArePlaces cs ns) is left in
    none (first_unpacked cause ns) (all_places (unpacked causes (after_first ns))) left.fit.0 left.places

-- five pieces in a row
pub in_a_row : (before after : List ℕ) (first second third : ℕ) (last : List ℕ) →
    before ++ first ∷ [] ++ second ∷ [] ++ third ∷ [] ++ after ++ last ≡ before ++ first ∷ (second ∷ (third ∷ (after ++ last)))
in_a_row before after first second third last =
    append_assoc (before ++ first ∷ [] ++ second ∷ [] ++ third ∷ []) after last ∙
    append_assoc (before ++ first ∷ [] ++ second ∷ []) (third ∷ []) (after ++ last) ∙
    append_assoc (before ++ first ∷ []) (second ∷ []) (third ∷ (after ++ last)) ∙
    append_assoc before (first ∷ []) (second ∷ (third ∷ (after ++ last)))
