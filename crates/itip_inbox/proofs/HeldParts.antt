-- What is held of what came, where a message may be too long to be read.
use Rattle.std.proofs.Common.{◌≡◌, ◌∙◌, sym, ap, refl, ℕ, ◌+◌, ◌<◌, ◌≤◌, Bool, true, false, List, [], ◌∷◌, ◌++◌, length, subst, arith}
use Rattle.std.proofs.Common.{append-nil, ltb, Option, Bor, map, take, drop, ◌-◌}
use Rattle.std.proofs.lemmas.Bool.{ltb-true}
use Rattle.std.proofs.lemmas.List.{take_all}
use Rattle.itip_lines.specs.Reading.{text_limit}
use Rattle.itip_message.specs.Begun.{DifferInFirst, StandsIn}
use Rattle.itip_message.specs.Parting.{StaysParted}
use Rattle.itip_message.specs.Scanned.{messages_of}
use Rattle.itip_inbox.specs.declared.open_inbox.OpenInbox.{OpenInbox}
use Rattle.itip_inbox.specs.declared.messages.Held.{Held}
use Rattle.itip_inbox.specs.Inbox.{Placed, placed_from}
use Rattle.itip_inbox.specs.Streaming.{AreReadFor, IsHeld, is_left_long, StaysCutInto, HasGot, HearsFirst}
use Rattle.itip_inbox.proofs.Hearing.{placed_on}

-- ---- messages, and the texts that are read for them

Keeps : Option (List ℕ) → List (List ℕ) → OpenInbox → OpenInbox → Type 0
Keeps about messages old new = (before : List Placed) → HasGot about before old →
    HasGot about (before ++ placed_from old.source (old.messages + 1) messages) new

module _ (about : Option (List ℕ)) (is_long : Bool) (old new : OpenInbox) where
  pub short_heard : (texts : List (List ℕ)) → is_long ≡ false
      → ((before : List Placed) → HasGot about before old →
      HasGot about (before ++ placed_from old.source (old.messages + 1) texts) new)
      → (messages : List (List ℕ)) → AreReadFor is_long messages texts → (before : List Placed) → HasGot about before old →
      HasGot about (before ++ placed_from old.source (old.messages + 1) messages) new
  short_heard texts short hears messages are =
      let same : messages ≡ texts = subst (λ (b : Bool). AreReadFor b messages texts) short are in
      subst (λ (ms : List (List ℕ)). (before : List Placed) → HasGot about before old →
      HasGot about (before ++ placed_from old.source (old.messages + 1) ms) new) (sym same) hears

  none_of : (messages : List (List ℕ)) → DifferInFirst (text_limit + 1) messages [] → messages ≡ []
  none_of [] are = refl
  none_of (message ∷ messages) are = absurd are

  pub none_heard : (texts : List (List ℕ)) → is_long ≡ true → texts ≡ [] → new ≡ old → (messages : List (List ℕ)) →
      AreReadFor is_long messages texts → (before : List Placed) → HasGot about before old →
      HasGot about (before ++ placed_from old.source (old.messages + 1) messages) new
  none_heard texts long none same messages are before keeps =
      let nothing : messages ≡ [] = none_of messages (subst (λ (ts : List (List ℕ)). DifferInFirst (text_limit + 1) messages ts) none
      (subst (λ (b : Bool). AreReadFor b messages texts) long are)) in
      subst (λ (i : OpenInbox). HasGot about (before ++ placed_from old.source (old.messages + 1) messages) i) (sym same)
      (subst (λ (ms : List (List ℕ)). HasGot about (before ++ placed_from old.source (old.messages + 1) ms) old) (sym nothing)
      (subst (λ (ms : List Placed). HasGot about ms old) (sym (append-nil before)) keeps))

  module _ (mid : OpenInbox) (first : List ℕ) (others : List (List ℕ)) (source : mid.source ≡ old.source)
      (count : mid.messages ≡ old.messages + 1) (refuses : (before : List Placed) (text : List ℕ) → text_limit < length text →
      HasGot about before old → HasGot about (before ++ placed_from old.source (old.messages + 1) (text ∷ [])) mid)
      (hears : (before : List Placed) → HasGot about before mid →
      HasGot about (before ++ placed_from mid.source (mid.messages + 1) others) new) where
    long_then : (messages : List (List ℕ)) → DifferInFirst (text_limit + 1) messages (first ∷ others) → (before : List Placed) →
        HasGot about before old → HasGot about (before ++ placed_from old.source (old.messages + 1) messages) new
    long_then [] are before keeps = absurd are
    long_then (message ∷ messages) are before keeps =
        let one : mid.messages ≡ old.messages + length (message ∷ []) = count in
        subst (λ (ms : List (List ℕ)). HasGot about (before ++ placed_from old.source (old.messages + 1) (message ∷ ms)) new)
        (sym are.1)
        (subst (λ (ms : List Placed). HasGot about ms new)
        (placed_on before old.source old.messages mid.source mid.messages (message ∷ []) others source one)
        (hears (before ++ placed_from old.source (old.messages + 1) (message ∷ []))
        (refuses before message (omega (arith, are.0)) keeps)))

    pub long_heard : (texts : List (List ℕ)) → is_long ≡ true → texts ≡ first ∷ others → (messages : List (List ℕ)) →
        AreReadFor is_long messages texts → (before : List Placed) → HasGot about before old →
        HasGot about (before ++ placed_from old.source (old.messages + 1) messages) new
    long_heard texts long is messages are =
        long_then messages (subst (λ (ts : List (List ℕ)). DifferInFirst (text_limit + 1) messages ts) is
        (subst (λ (b : Bool). AreReadFor b messages texts) long are))

-- texts, cut after the first
pub behind_first : (texts : List (Bor (List ℕ))) → 1 ≤ length texts → (first : List ℕ) × (map (λ (t : Bor (List ℕ)). t.now) texts ≡
    first ∷ map (λ (t : Bor (List ℕ)). t.now) (take (length texts - 1) (drop 1 texts)))
behind_first [] some = absurd (omega (arith, some))
behind_first (text ∷ texts) some = (
  text.now,
  ap (λ (ts : List (Bor (List ℕ))). text.now ∷ map (λ (t : Bor (List ℕ)). t.now) ts)
      (sym (take_all (length (text ∷ texts) - 1) texts (omega arith))),
)

-- all messages of what is held are read in place of those of what came
pub all_read_for : (is_long : Bool) (held came : List ℕ) (texts : List (List ℕ)) → IsHeld is_long held came → texts ≡ messages_of held →
    AreReadFor is_long (messages_of came) texts
all_read_for is_long held came texts is all =
    subst (λ (ts : List (List ℕ)). AreReadFor is_long (messages_of came) ts) (sym all)
    (subst (λ (t : List ℕ). AreReadFor is_long (messages_of came) (messages_of t)) (append-nil held)
    (subst (λ (t : List ℕ). AreReadFor is_long (messages_of t) (messages_of (held ++ []))) (append-nil came) (is [])))

-- and if it is not too long, what is held is cut into the messages of what came
pub whole_read_for : (held came : List ℕ) → IsHeld false held came → messages_of came ≡ messages_of held
whole_read_for held came is = all_read_for false held came (messages_of held) is refl

-- of bytes that are not too long the first part is heard, and the second is held
pub front_first : (about : Option (List ℕ)) (octets front back came more : List ℕ) (next : Held) (old new : OpenInbox) →
    StaysParted octets front back → new.messages ≡ old.messages + length (messages_of front) → ((before : List Placed) →
    HasGot about before old → HasGot about (before ++ placed_from old.source (old.messages + 1) (messages_of front)) new) →
    next.is_long ≡ false → next.octets.items ≡ back → IsHeld false octets came → HearsFirst about came more next old new
front_first about octets front back came more next old new parted count hears short same is = record {
  texts = messages_of front;
  left = back;
  cut = is more ∙ parted.messages more;
  is_held = subst (λ (b : Bool). IsHeld b next.octets.items back) (sym short)
      (subst (λ (t : List ℕ). IsHeld false t back) (sym same) (λ others. refl));
  hears = hears;
  count_is = count;
}

-- ---- what is left

fewer : (least most : ℕ) (texts others : List (List ℕ)) → least ≤ most → DifferInFirst most texts others → DifferInFirst least texts others
fewer least most [] [] within differ = tt
fewer least most [] (other ∷ others) within differ = absurd differ
fewer least most (text ∷ texts) [] within differ = absurd differ
fewer least most (text ∷ texts) (other ∷ others) within differ = (omega (arith, within, differ.0), differ.1)

-- texts that differ in the first from others, which differ so from still others
differ_then : (least some : ℕ) (xs ys zs : List (List ℕ)) → DifferInFirst least xs ys → DifferInFirst some ys zs → DifferInFirst least xs zs
differ_then least some [] [] [] a b = tt
differ_then least some [] [] (z ∷ zs) a b = absurd b
differ_then least some [] (y ∷ ys) zs a b = absurd a
differ_then least some (x ∷ xs) [] zs a b = absurd a
differ_then least some (x ∷ xs) (y ∷ ys) [] a b = absurd b
differ_then least some (x ∷ xs) (y ∷ ys) (z ∷ zs) a b = (a.0, a.1 ∙ b.1)

-- what is held of what is left, by whether that is too long
abbrev pub HoldsLeft : Bool → List ℕ → Held → Type 0
HoldsLeft false left next = (next.is_long ≡ false) × (next.octets.items ≡ left)
HoldsLeft true left next = (next.is_long ≡ true) × StandsIn left next.octets.items

-- what has become too long, or is held as it is
left_held : (over : Bool) (left : List ℕ) (next : Held) → over ≡ ltb text_limit (length left) → HoldsLeft over left next →
    IsHeld next.is_long next.octets.items left
left_held false left next is holds =
    subst (λ (b : Bool). IsHeld b next.octets.items left) (sym holds.0)
    (subst (λ (t : List ℕ). IsHeld false t left) (sym holds.1) (λ more. refl))
left_held true left next is holds =
    let long : text_limit < length left = ltb-true text_limit (length left) (sym is) in
    subst (λ (b : Bool). IsHeld b next.octets.items left) (sym holds.0)
    (λ more. fewer (text_limit + 1) (length left) (messages_of (left ++ more)) (messages_of (next.octets.items ++ more))
    (omega (arith, long)) (holds.1 more))

module _ (about : Option (List ℕ)) (held left came more : List ℕ) (next : Held) (old new : OpenInbox) where
  -- what was held is what came
  first_short : (texts : List (List ℕ)) → StaysCutInto held texts left → new.messages ≡ old.messages + length texts → ((messages :
      List (List ℕ)) → AreReadFor false messages texts → (before : List Placed) → HasGot about before old →
      HasGot about (before ++ placed_from old.source (old.messages + 1) messages) new) → IsHeld false held came →
      IsHeld next.is_long next.octets.items left → HearsFirst about came more next old new
  first_short texts cut count hears is left_is = record {
    texts = texts;
    left = left;
    cut = is more ∙ cut more;
    is_held = left_is;
    hears = hears texts refl;
    count_is = count;
  }

  -- the message that is too long goes on
  first_goes_on : StaysCutInto held [] left → new.messages ≡ old.messages + 0 → ((messages : List (List ℕ)) →
      AreReadFor true messages [] → (before : List Placed) → HasGot about before old →
      HasGot about (before ++ placed_from old.source (old.messages + 1) messages) new) → IsHeld true held came →
      HoldsLeft true left next → HearsFirst about came more next old new
  first_goes_on cut count hears is holds = record {
    texts = [];
    left = came;
    cut = refl;
    is_held = subst (λ (b : Bool). IsHeld b next.octets.items came) (sym holds.0) (λ others.
        differ_then (text_limit + 1) (length left) (messages_of (came ++ others)) (messages_of (left ++ others))
        (messages_of (next.octets.items ++ others))
        (subst (λ (ts : List (List ℕ)). DifferInFirst (text_limit + 1) (messages_of (came ++ others)) ts) (cut others) (is others))
        (holds.1 others));
    hears = hears [] tt;
    count_is = count;
  }

  -- the message that is too long ends
  first_ends : (text : List ℕ) (texts : List (List ℕ)) (messages : List (List ℕ)) → messages ≡ messages_of (came ++ more) →
      StaysCutInto held (text ∷ texts) left → new.messages ≡ old.messages + length (text ∷ texts) → ((messages : List (List ℕ)) →
      AreReadFor true messages (text ∷ texts) → (before : List Placed) → HasGot about before old →
      HasGot about (before ++ placed_from old.source (old.messages + 1) messages) new)
      → DifferInFirst (text_limit + 1) messages (text ∷ (texts ++ messages_of (left ++ more)))
      → IsHeld next.is_long next.octets.items left → HearsFirst about came more next old new
  first_ends text texts [] given cut count hears differ left_is = absurd differ
  first_ends text texts (message ∷ messages) given cut count hears differ left_is = record {
    texts = message ∷ texts;
    left = left;
    cut = sym given ∙ ap (λ (ms : List (List ℕ)). message ∷ ms) differ.1;
    is_held = left_is;
    hears = hears (message ∷ texts) (differ.0, refl);
    count_is = count;
  }

  pub hears_first : (was_long over : Bool) (texts : List (List ℕ)) → StaysCutInto held texts left →
      new.messages ≡ old.messages + length texts → ((messages : List (List ℕ)) → AreReadFor was_long messages texts →
      (before : List Placed) → HasGot about before old →
      HasGot about (before ++ placed_from old.source (old.messages + 1) messages) new)
      → over ≡ is_left_long was_long texts left → HoldsLeft over left next → IsHeld was_long held came →
      HearsFirst about came more next old new
  hears_first false over [] cut count hears is holds held_is =
      first_short [] cut count hears held_is (left_held over left next is holds)
  hears_first false over (text ∷ texts) cut count hears is holds held_is =
      first_short (text ∷ texts) cut count hears held_is (left_held over left next is holds)
  hears_first true over [] cut count hears is holds held_is =
      first_goes_on cut count hears held_is (subst (λ (b : Bool). HoldsLeft b left next) is holds)
  hears_first true over (text ∷ texts) cut count hears is holds held_is =
      first_ends text texts (messages_of (came ++ more)) refl cut count hears
      (subst (λ (ts : List (List ℕ)). DifferInFirst (text_limit + 1) (messages_of (came ++ more)) ts) (cut more) (held_is more))
      (left_held over left next is holds)
