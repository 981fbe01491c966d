-- An input that is read piece by piece.
use Rattle.std.proofs.Common.{◌≡◌, ◌∙◌, sym, ap, refl, ℕ, ◌+◌, ◌<◌, List, [], ◌∷◌, ◌++◌, length, subst, arith, append_assoc, append-nil}
use Rattle.std.proofs.Common.{Bool, false, Option, Some, None}
use Rattle.std.specs.Prelude.{IfSome}
use Rattle.std.specs.Io.KnownBytes.{Consumes, IsAtEnd}
use Rattle.std.proofs.KnownBytes.{Consumes-nil, Consumes-trans}
use Rattle.std.proofs.lemmas.List.{length-append}
use Rattle.itip_message.specs.Scanned.{messages_of, CutsMessage, StaysCut}
use Rattle.itip_inbox.specs.declared.open_inbox.OpenInbox.{OpenInbox}
use Rattle.itip_inbox.specs.declared.messages.Held.{Held}
use Rattle.itip_inbox.specs.Inbox.{Placed, placed_from}
use Rattle.itip_inbox.specs.Streaming.{Brings, LeavesMessages, AreReadFor, IsHeld, StaysCutInto, HasGot, HasSome, ReadsSoFar}
use Rattle.itip_inbox.specs.Streaming.{HearsFirst}
use Rattle.itip_inbox.proofs.Hearing.{placed_on}

pub brings_none : (o : Option (List ℕ)) (held : List ℕ) → Brings o o held held
brings_none o held = record { brought = []; reads = Consumes-nil o; grows = sym (append-nil held) }

pub brings_more : (old mid new : Option (List ℕ)) (before held after more : List ℕ) → Brings old mid before held → Consumes mid new more →
    after ≡ held ++ more → Brings old new before after
brings_more old mid new before held after more so_far reads grows = record {
  brought = so_far.brought ++ more;
  reads = Consumes-trans old mid new so_far.brought more so_far.reads reads;
  grows = grows ∙ ap (λ (t : List ℕ). t ++ more) so_far.grows ∙ append_assoc before so_far.brought more;
}

leaves_all : (o : Option (List ℕ)) → LeavesMessages o o [] []
leaves_all None = tt
leaves_all (Some input) = refl

leaves_moved : (old mid new : Option (List ℕ)) (messages : List (List ℕ)) (came more : List ℕ) →
    LeavesMessages old mid messages came → Consumes mid new more → LeavesMessages old new messages (came ++ more)
leaves_moved None mid new messages came more l m = tt
leaves_moved (Some input) None new messages came more l m = absurd l
leaves_moved (Some input) (Some left) None messages came more l m = absurd m
leaves_moved (Some input) (Some left) (Some rest) messages came more l m =
    l ∙ ap (λ (t : List ℕ). messages ++ messages_of (came ++ t)) m ∙
    ap (λ (t : List ℕ). messages ++ messages_of t) (sym (append_assoc came more rest))

-- what is not read, as far as that is known
rest_of : Option (List ℕ) → List ℕ
rest_of None = []
rest_of (Some rest) = rest

leaves_cut : (old new : Option (List ℕ)) (messages texts : List (List ℕ)) (came left : List ℕ) → LeavesMessages old new messages came →
    messages_of (came ++ rest_of new) ≡ texts ++ messages_of (left ++ rest_of new) → LeavesMessages old new (messages ++ texts) left
unfolding rest_of
leaves_cut None new messages texts came left l cut = tt
leaves_cut (Some input) None messages texts came left l cut = absurd l
leaves_cut (Some input) (Some rest) messages texts came left l cut = l ∙ ap (λ (t : List (List ℕ)). messages ++ t) cut ∙
    sym (append_assoc messages texts (messages_of (left ++ rest)))

-- what is held stays so with what is read after it
held_more : (is_long : Bool) (held filled came more : List ℕ) → filled ≡ held ++ more → IsHeld is_long held came →
    IsHeld is_long filled (came ++ more)
held_more is_long held filled came more grows is = λ others.
    subst (λ (t : List ℕ). AreReadFor is_long (messages_of ((came ++ more) ++ others)) (messages_of (t ++ others))) (sym grows)
    (subst (λ (t : List ℕ). AreReadFor is_long (messages_of t) (messages_of ((held ++ more) ++ others)))
    (sym (append_assoc came more others))
    (subst (λ (t : List ℕ). AreReadFor is_long (messages_of (came ++ (more ++ others))) (messages_of t))
    (sym (append_assoc held more others)) (is (more ++ others))))

pub reads_none : (about : Option (List ℕ)) (before : List Placed) (inbox : OpenInbox) (o : Option (List ℕ)) (held : Held) →
    held.octets.items ≡ [] → held.is_long ≡ false → HasGot about before inbox → ReadsSoFar about before inbox inbox o o held
reads_none about before inbox o held nothing short keeps =
    let none : inbox.messages ≡ inbox.messages + 0 = omega arith in
    record {
      messages = [];
      came = [];
      got = subst (λ (ms : List Placed). HasGot about ms inbox) (sym (append-nil before)) keeps;
      leaves = leaves_all o;
      is_held = subst (λ (b : Bool). IsHeld b held.octets.items []) (sym short)
          (subst (λ (t : List ℕ). IsHeld false t []) (sym nothing) (λ more. refl));
      count_is = none;
    }

all_kept : (about : Option (List ℕ)) (before : List Placed) (source base : ℕ) (old new : Option (List ℕ)) (messages : List (List ℕ))
    (came : List ℕ) (now : OpenInbox) → LeavesMessages old new messages came → IsAtEnd new
    → HasGot about (before ++ placed_from source (base + 1) (messages ++ messages_of came)) now
    → IfSome old (λ input. HasGot about (before ++ placed_from source (base + 1) (messages_of input)) now)
all_kept about before source base None new messages came now l end keeps = tt
all_kept about before source base (Some input) None messages came now l end keeps = absurd l
all_kept about before source base (Some input) (Some rest) messages came now l end keeps =
    let all : messages_of input ≡ messages ++ messages_of came =
    l ∙ ap (λ (t : List ℕ). messages ++ messages_of (came ++ t)) end ∙ ap (λ (t : List ℕ). messages ++ messages_of t) (append-nil came) in
    subst (λ (ms : List (List ℕ)). HasGot about (before ++ placed_from source (base + 1) ms) now) (sym all) keeps

module _ (about : Option (List ℕ)) (before : List Placed) (start now : OpenInbox) (old new : Option (List ℕ)) (held : Held)
    (so_far : ReadsSoFar about before start now old new held) (same : now.source ≡ start.source) where
  -- more of its messages are heard
  kept_on : (texts : List (List ℕ)) (next : OpenInbox)
      → ((before : List Placed) → HasGot about before now →
      HasGot about (before ++ placed_from now.source (now.messages + 1) texts) next)
      → HasGot about (before ++ placed_from start.source (start.messages + 1) (so_far.messages ++ texts)) next
  kept_on texts next hears =
      subst (λ (ms : List Placed). HasGot about ms next)
      (placed_on before start.source start.messages now.source now.messages so_far.messages texts same so_far.count_is)
      (hears (before ++ placed_from start.source (start.messages + 1) so_far.messages) so_far.got)

  module _ (newer : Option (List ℕ)) (filled : List ℕ) (brings : Brings new newer held.octets.items filled) where
    abbrev came_now : List ℕ
    came_now = so_far.came ++ brings.brought

    held_now : IsHeld held.is_long filled came_now
    held_now = held_more held.is_long held.octets.items filled so_far.came brings.brought brings.grows so_far.is_held

    left_now : LeavesMessages old newer so_far.messages came_now
    left_now = leaves_moved old new newer so_far.messages so_far.came brings.brought so_far.leaves brings.reads

    share_of : (more : List ℕ) (after : Held) (next : OpenInbox) → more ≡ rest_of newer → HearsFirst about came_now more after now next →
        ReadsSoFar about before start next old newer after
    share_of more after next is first =
        let longer : length (so_far.messages ++ first.texts) ≡ length so_far.messages + length first.texts =
        length-append so_far.messages first.texts in
        let was : now.messages ≡ start.messages + length so_far.messages = so_far.count_is in
        let counted : next.messages ≡ now.messages + length first.texts = first.count_is in
        record {
          messages = so_far.messages ++ first.texts;
          came = first.left;
          got = kept_on first.texts next first.hears;
          leaves = leaves_cut old newer so_far.messages first.texts came_now first.left left_now
              (subst (λ (t : List ℕ). messages_of (came_now ++ t) ≡ first.texts ++ messages_of (first.left ++ t)) is first.cut);
          is_held = first.is_held;
          count_is = omega (arith, counted, was, longer);
        }

    -- a share is read and cut, and its messages are heard
    pub reads_share : (after : Held) (next : OpenInbox) →
        ((came more : List ℕ) → IsHeld held.is_long filled came → HearsFirst about came more after now next) →
        ReadsSoFar about before start next old newer after
    reads_share after next hears = share_of (rest_of newer) after next refl (hears came_now (rest_of newer) held_now)

    module _ (next : OpenInbox) (hears : (came : List ℕ) → IsHeld held.is_long filled came → (before : List Placed) →
        HasGot about before now →
        HasGot about (before ++ placed_from now.source (now.messages + 1) (messages_of came)) next) where
      -- whatever the input is, its messages so far and these came
      pub some_on : HasSome about next
      some_on = record {
        messages = before ++ placed_from start.source (start.messages + 1) (so_far.messages ++ messages_of came_now);
        got = kept_on (messages_of came_now) next (hears came_now held_now);
      }

      -- the last share is read and heard
      pub reads_last : IsAtEnd newer →
          IfSome old (λ input. HasGot about (before ++ placed_from start.source (start.messages + 1) (messages_of input)) next)
      reads_last end =
          all_kept about before start.source start.messages old newer so_far.messages came_now next left_now end
          (kept_on (messages_of came_now) next (hears came_now held_now))

-- ---- cutting

pub cut_none : (octets rest : List ℕ) (texts : List (List ℕ)) → rest ≡ octets → texts ≡ [] → StaysCutInto octets texts rest
cut_none octets rest texts same none = λ more. (λ i. messages_of (sym same i ++ more)) ∙
    ap (λ (t : List (List ℕ)). t ++ messages_of (rest ++ more)) (sym none)

pub cut_more : (octets rest message after : List ℕ) (texts now : List (List ℕ)) → StaysCutInto octets texts rest →
    StaysCut rest message after → now ≡ texts ++ message ∷ [] → StaysCutInto octets now after
cut_more octets rest message after texts now so_far cut is = λ more.
    so_far more ∙ ap (λ (t : List (List ℕ)). texts ++ t) (cut more).messages ∙
    sym (append_assoc texts (message ∷ []) (messages_of (after ++ more))) ∙
    ap (λ (t : List (List ℕ)). t ++ messages_of (after ++ more)) (sym is)

pub cut_shorter : (rest message after : List ℕ) → StaysCut rest message after → length after < length rest
cut_shorter rest message after cut =
    let h = (cut []).shorter in
    subst (λ (t : List ℕ). length t < length rest) (append-nil after)
    (subst (λ (t : List ℕ). length (after ++ []) < length t) (append-nil rest) h)

pub all_more : (octets rest message after : List ℕ) (texts now : List (List ℕ)) → messages_of octets ≡ texts ++ messages_of rest →
    CutsMessage rest message after → now ≡ texts ++ message ∷ [] → messages_of octets ≡ now ++ messages_of after
all_more octets rest message after texts now so_far cut is =
    so_far ∙ ap (λ (t : List (List ℕ)). texts ++ t) cut.messages ∙ sym (append_assoc texts (message ∷ []) (messages_of after)) ∙
    ap (λ (t : List (List ℕ)). t ++ messages_of after) (sym is)

pub all_done : (octets rest : List ℕ) (texts : List (List ℕ)) → messages_of octets ≡ texts ++ messages_of rest → messages_of rest ≡ [] →
    texts ≡ messages_of octets
all_done octets rest texts so_far none = sym (so_far ∙ ap (λ (t : List (List ℕ)). texts ++ t) none ∙ append-nil texts)
