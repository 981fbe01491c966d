-- The to-dos of a request as they are written, and why they can't be written.
use Rattle.std.proofs.Common.{◌≡◌, ◌∙◌, sym, ap, refl, ℕ, zero, suc, ◌≤◌, List, [], ◌∷◌, map, subst, arith, Option, Some, None}
use Rattle.std.specs.Prelude.{cond, codes}
use Rattle.std.specs.BTreeMap.{BTreeMap, get, is_at}
use Rattle.std.specs.Map.{lookup}
use Rattle.std.specs.Cmp.Lexicographic.{slice_cmp}
use Rattle.std.specs.List.{Contains}
use Rattle.std.specs.Ordering.{nat_cmp, is_eq}
use Rattle.std.specs.declared.cmp.Ordering.{Ordering}
use Rattle.std.specs.declared.cmp.Ordering.TheVariants.{Less, Equal, Greater}
use Rattle.std.proofs.lemmas.Map.Lookups.{exact_bytes}
use Rattle.std.proofs.lemmas.Option.{same_Some}
use Rattle.itip_moment.specs.declared.stamp.Stamp.{Stamp}
use Rattle.itip_todo.specs.Lawful.{IsLawful}
use Rattle.itip_todo.specs.Parts.{Parts}
use Rattle.itip_todo.specs.PartsOf.{parts_of}
use Rattle.itip_todo.specs.declared.todo.Todo.{Todo}
use Rattle.itip_todo.proofs.LawfulLines.{number_lawful, stamp_lawful}
use Rattle.itip_items.specs.Items.{with_base}
use Rattle.itip_items.specs.declared.item.Item.{Item}
use Rattle.itip_items.specs.declared.kind.Method.TheVariants as method
use Rattle.itip_items.proofs.Lawfulness.{base_lawful, canonical_small}
use Rattle.itip_message.specs.Message.{RefusesMessage}
use Rattle.itip_report.specs.NextSequence.{IsNext, last_sequence}
use Rattle.itip_writing.specs.Causes.{IfSpent, IfUnread}
use Rattle.itip_writing.specs.Requesting.{AreApart, AreNext, AreRequested, CannotRequest, HaveSequences, IsRequestText}
use Rattle.itip_writing.specs.Requesting.{base_above, requested}
use Rattle.itip_writing.specs.Sent.{sent_octets}
use Rattle.itip_writing.specs.declared.error.WritingError.{WritingError}
use Rattle.itip_writing.specs.declared.error.WritingError.TheVariants as error

-- ---- what is written is lawful

pub next_small : (heard : List Item) (uid : List ℕ) (n : ℕ) → IsNext heard uid (Some n) → n ≤ last_sequence
next_small heard uid zero is = omega arith
next_small heard uid (suc n) (is, few) = omega (arith, few)

base_small : (n : ℕ) (base : Option ℕ) → ((m : ℕ) → base ≡ Some m → m ≤ 2147483647) → (m : ℕ) → base_above n base ≡ Some m →
    m ≤ 2147483647
base_small n None small m e = absurd cc
base_small n (Some base) small m e = canonical_small n base (small base refl) m e

pub requested_lawful : (p : Parts) (at : Stamp) (n : ℕ) → IsLawful p → n ≤ 2147483647 → IsLawful (requested at n p)
requested_lawful p at n h few =
    let based : IsLawful (with_base p (base_above n p.base)) =
    base_lawful p (base_above n p.base) h (base_small n p.base h.base) in record {
      uid = h.uid;
      seq = few;
      base = based.base;
      range = h.range;
      percent = h.percent;
      priority = h.priority;
      organizer = h.organizer;
      attendee_count = h.attendee_count;
      attendee_values = h.attendee_values;
      attendee_keys = h.attendee_keys;
      rdates = h.rdates;
      exdates = h.exdates;
      others = h.others;
      lines = (
        h.lines.0,
        (
          stamp_lawful at,
          (
            number_lawful (codes "SEQUENCE") (record { some = omega arith; upper = refl }) (omega arith) n few,
            based.lines.1.1.1,
          ),
        ),
      );
    }

-- ---- the sequences noted so far

pub none_known : (heard : List Item) (known : BTreeMap (List ℕ) ℕ) → known.entries ≡ [] → AreNext heard known
none_known heard known none uid n e =
    let nothing : get (slice_cmp nat_cmp) known uid ≡ None = ap (λ es. lookup (is_at (slice_cmp nat_cmp uid)) es) none in
    let no : None ≡ Some n = sym nothing ∙ e in
    absurd cc

pub known_more : (heard : List Item) (old new : BTreeMap (List ℕ) ℕ) (uid : List ℕ) (n : ℕ) → IsNext heard uid (Some n) →
    ((other : List ℕ) → get (slice_cmp nat_cmp) new other ≡
    cond (is_at (slice_cmp nat_cmp uid) other) (Some n) (get (slice_cmp nat_cmp) old other))
    → AreNext heard old → AreNext heard new
known_more heard old new uid n next updates were other m e =
    elim (slice_cmp nat_cmp uid other) as
    (λ (o : Ordering). slice_cmp nat_cmp uid other ≡ o → cond (is_eq o) (Some n) (get (slice_cmp nat_cmp) old other) ≡ Some m →
    IsNext heard other (Some m)) [
      | Less ↦ λ _ old_is. were other m old_is
      | Equal ↦ λ at new_is.
          subst (λ (k : ℕ). IsNext heard other (Some k)) (same_Some n m new_is)
          (subst (λ (u : List ℕ). IsNext heard u (Some n)) (exact_bytes uid other at) next)
      | Greater ↦ λ _ old_is. were other m old_is
    ] refl (sym (updates other) ∙ e)

-- ---- causes

module _ (heard : List Item) (draft : List Todo) (at : Stamp) where
  pub spent_cause : (e : WritingError) (todo : Todo) → Contains draft todo → IfSpent (IsNext heard todo.uid None) e →
      CannotRequest heard draft at e
  spent_cause error.NothingStands todo there h = h
  spent_cause error.NoSuchAttendee todo there h = h
  spent_cause error.NoSequenceLeft todo there h = record { todo = todo; there = there; last = h }
  spent_cause error.AnswerOvertakes todo there h = h
  spent_cause error.TwoOfOneKey todo there h = absurd h
  spent_cause error.NoTimeLeft todo there h = h
  spent_cause (error.Unreadable refusal) todo there h = absurd h
  spent_cause error.NoMemory todo there h = tt

  pub unread_cause : (e : WritingError) (octets : List ℕ) → IsRequestText heard draft at octets → IfUnread (RefusesMessage octets) e →
      CannotRequest heard draft at e
  unread_cause error.NothingStands octets text h = h
  unread_cause error.NoSuchAttendee octets text h = h
  unread_cause error.NoSequenceLeft octets text h = absurd h
  unread_cause error.AnswerOvertakes octets text h = h
  unread_cause error.TwoOfOneKey octets text h = absurd h
  unread_cause error.NoTimeLeft octets text h = h
  unread_cause (error.Unreadable refusal) octets text h = record { octets = octets; text = text; refused = h }
  unread_cause error.NoMemory octets text h = tt

-- the text of these to-dos, which the writer has as `given`
pub request_text : (heard : List Item) (draft : List Todo) (at : Stamp) (written given : List Todo) (octets : List ℕ) →
    AreRequested heard at draft written → AreApart draft → given ≡ written → octets ≡ sent_octets method.Request (map parts_of given) →
    IsRequestText heard draft at octets
request_text heard draft at written given octets each apart same is = record {
  written = written;
  each = each;
  apart = apart;
  octets_are = is ∙ ap (λ (ts : List Todo). sent_octets method.Request (map parts_of ts)) same;
}

pub have_sequences : (heard : List Item) (at : Stamp) (draft written : List Todo) → AreRequested heard at draft written →
    HaveSequences heard draft
have_sequences heard at [] [] each = tt
have_sequences heard at [] (w ∷ written) each = absurd each
have_sequences heard at (todo ∷ draft) [] each = absurd each
have_sequences heard at (todo ∷ draft) (w ∷ written) each =
    ((each.0.sequence, each.0.next), have_sequences heard at draft written each.1)
