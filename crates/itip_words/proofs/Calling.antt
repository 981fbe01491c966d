-- Calls that words ask for and that are possible.
use Rattle.std.proofs.Common.{◌≡◌, ◌≢◌, ℕ, List, true, false, Option, Some, None, refl, sym, subst, ◌∙◌}
use Rattle.std.proofs.Common.{codes}
use Rattle.std.specs.Prelude.{bytes_eq, IfSome, IsSomeAnd, MatchOption}
use Rattle.std.proofs.lemmas.Option.{none-some}
use Rattle.itip_moment.specs.declared.stamp.Stamp.{Stamp}
use Rattle.itip_words.specs.Asking.{AsksScript, AsksRun, AsksWritten, IsAsked}
use Rattle.itip_words.specs.Calls.{IfRun, IfStream, IfOffice, IfFilter, AreStreamed, AreOffice, CanFilter, CanBe}
use Rattle.itip_words.specs.Calls.{IsStreamOf, IsFilterOf, IsCallOf, IsCallBy}
use Rattle.itip_words.specs.Finding.{Never, Finds}
use Rattle.itip_words.specs.Options.{Options, value_of, is_set}
use Rattle.itip_words.specs.Words.{AreDesks, workers_of}
use Rattle.itip_words.specs.declared.filter.Written.{Written}
use Rattle.itip_words.specs.declared.filter.Written.TheVariants as written
use Rattle.itip_words.specs.declared.words.Call.{Call}
use Rattle.itip_words.specs.declared.words.Call.TheVariants as call
use Rattle.itip_words.specs.declared.words.Scripted.{Scripted}
use Rattle.itip_words.proofs.Finding.{apart}
use Rattle.itip_words.proofs.Messages.{never_message}

-- ---- what there can be

pub can_run : (what : Call) → CanBe what → IfRun (λ scripted. AreDesks scripted.desks) what
can_run (call.Run scripted) can = can
can_run (call.Stream streamed) can = tt
can_run (call.Office scripted workers) can = tt
can_run (call.Check why) can = tt
can_run (call.Filter filter) can = tt

pub can_stream : (what : Call) → CanBe what → IfStream AreStreamed what
can_stream (call.Run scripted) can = tt
can_stream (call.Stream streamed) can = can
can_stream (call.Office scripted workers) can = tt
can_stream (call.Check why) can = tt
can_stream (call.Filter filter) can = tt

pub can_office : (what : Call) → CanBe what → IfOffice AreOffice what
can_office (call.Run scripted) can = tt
can_office (call.Stream streamed) can = tt
can_office (call.Office scripted workers) can = can
can_office (call.Check why) can = tt
can_office (call.Filter filter) can = tt

pub can_filter : (what : Call) → CanBe what → IfFilter CanFilter what
can_filter (call.Run scripted) can = tt
can_filter (call.Stream streamed) can = tt
can_filter (call.Office scripted workers) can = tt
can_filter (call.Check why) can = tt
can_filter (call.Filter filter) can = can

pub can_be : (given : Option (List ℕ × Options)) (clock : Option Stamp) (what : Call) → IsCallBy given clock what → CanBe what
can_be None clock what is = absurd is
can_be (Some words) clock what is = is.possible

pub asked_by : (given : Option (List ℕ × Options)) (clock : Option Stamp) (what : Call) → IsCallBy given clock what →
    IsAsked given clock what
asked_by None clock what is = is
asked_by (Some words) clock what is = is.asked

-- ---- what no word asks for

module _ (options : Options) (clock : Option Stamp) where
  -- nothing is written for the name of another word
  no_written_by : (word : List ℕ) → bytes_eq word (codes "compact") ≡ false → bytes_eq word (codes "list") ≡ false →
      bytes_eq word (codes "report") ≡ false → bytes_eq word (codes "news") ≡ false → bytes_eq word (codes "explain") ≡ false →
      bytes_eq word (codes "request") ≡ false → bytes_eq word (codes "resend") ≡ false → bytes_eq word (codes "reply") ≡ false →
      bytes_eq word (codes "refresh") ≡ false → bytes_eq word (codes "cancel") ≡ false → (one : Written) →
      AsksWritten word options clock one → ⊥
  no_written_by word a b c d e f g h i j (written.Compaction output) is = apart word (codes "compact") a is.0
  no_written_by word a b c d e f g h i j (written.List listing) is = apart word (codes "list") b is.0
  no_written_by word a b c d e f g h i j (written.Report reported) is = apart word (codes "report") c is.0
  no_written_by word a b c d e f g h i j (written.News than) is = apart word (codes "news") d is.0
  no_written_by word a b c d e f g h i j (written.Explanation uid) is = apart word (codes "explain") e is.0
  no_written_by word a b c d e f g h i j (written.Message message at) is =
      never_message options word (apart word (codes "request") f) (apart word (codes "resend") g) (apart word (codes "reply") h)
      (apart word (codes "refresh") i) (apart word (codes "cancel") j) message is.0

  run_no_filter : (one : Written) → AsksWritten (codes "run") options clock one → ⊥
  run_no_filter = no_written_by (codes "run") refl refl refl refl refl refl refl refl refl refl

  office_no_filter : (one : Written) → AsksWritten (codes "office") options clock one → ⊥
  office_no_filter = no_written_by (codes "office") refl refl refl refl refl refl refl refl refl refl

  pub never_office : ((scripted : Scripted) (workers : ℕ) → AsksScript options scripted →
      IsSomeAnd (value_of (codes "workers") options) (λ text. workers_of text ≡ Some workers) → ⊥) →
      (what : Call) → IsCallOf (codes "office") options clock what → ⊥
  never_office never (call.Run scripted) is = apart (codes "office") (codes "run") refl is.asked.0
  never_office never (call.Stream streamed) is = apart (codes "office") (codes "run") refl is.asked.0
  never_office never (call.Office scripted workers) is = never scripted workers is.asked.1 is.asked.2
  never_office never (call.Check why) is = apart (codes "office") (codes "check") refl is.asked.0
  never_office never (call.Filter filter) is = office_no_filter filter.written is.asked.1

  pub never_run : is_set (codes "stream") options ≡ false → Never (AsksRun options) → (what : Call) →
      IsCallOf (codes "run") options clock what → ⊥
  never_run none never (call.Run scripted) is = never scripted is.asked.2
  never_run none never (call.Stream streamed) is = let bad : false ≡ true = sym none ∙ is.asked.1 in absurd cc
  never_run none never (call.Office scripted workers) is = apart (codes "run") (codes "office") refl is.asked.0
  never_run none never (call.Check why) is = apart (codes "run") (codes "check") refl is.asked.0
  never_run none never (call.Filter filter) is = run_no_filter filter.written is.asked.1

  pub never_stream : is_set (codes "stream") options ≡ true → Never (IsStreamOf options) → (what : Call) →
      IsCallOf (codes "run") options clock what → ⊥
  never_stream there never (call.Run scripted) is = let bad : true ≡ false = sym there ∙ is.asked.1 in absurd cc
  never_stream there never (call.Stream streamed) is =
      never streamed (record { asked = is.asked.2; possible = is.possible })
  never_stream there never (call.Office scripted workers) is = apart (codes "run") (codes "office") refl is.asked.0
  never_stream there never (call.Check why) is = apart (codes "run") (codes "check") refl is.asked.0
  never_stream there never (call.Filter filter) is = run_no_filter filter.written is.asked.1

  -- other words ask for a filter, or for nothing
  pub never_called : (word : List ℕ) → word ≢ codes "check" → word ≢ codes "run" → word ≢ codes "office" →
      Never (IsFilterOf word options clock) → (what : Call) → IsCallOf word options clock what → ⊥
  never_called word a b c never (call.Run scripted) is = b is.asked.0
  never_called word a b c never (call.Stream streamed) is = b is.asked.0
  never_called word a b c never (call.Office scripted workers) is = c is.asked.0
  never_called word a b c never (call.Check why) is = a is.asked.0
  never_called word a b c never (call.Filter filter) is = never filter (record { asked = is.asked; possible = is.possible })

  -- the call of a script that is no stream
  pub script_called : (r : Option Scripted) (o : Option Call) → MatchOption r (o ≡ None) (λ x. IsSomeAnd o (λ y. y ≡ call.Run x)) →
      is_set (codes "stream") options ≡ false → Finds (AsksRun options) r → IfSome r (λ scripted. AreDesks scripted.desks) →
      Finds (IsCallOf (codes "run") options clock) o
  script_called None None is none asks desks = never_run none asks
  script_called None (Some y) is none asks desks = absurd (none-some y (sym is))
  script_called (Some x) None is none asks desks = absurd is
  script_called (Some x) (Some y) is none asks desks =
      subst (λ (what : Call). IsCallOf (codes "run") options clock what) (sym is) (record { asked = (refl, none, asks); possible = desks })

-- what is found for a word of this name
pub called_by : (options : Options) (clock : Option Stamp) (name word : List ℕ) (r : Option Call) → word ≡ name →
    Finds (IsCallOf name options clock) r → Finds (IsCallOf word options clock) r
called_by options clock name word r e h = subst (λ (w : List ℕ). Finds (IsCallOf w options clock) r) (sym e) h
