-- The answer to one command, over a world, whatever happened before.
use Rattle.std.proofs.Common.{◌≡◌, ℕ, suc, ◌≤◌, [], ◌∷◌, List, length, sym, ap, subst, arith, refl}
use Rattle.std.proofs.Common.{Option, Some}
use Rattle.std.specs.Prelude.{slice_get}
use Rattle.itip_view.specs.declared.window.Window.{Window}
use Rattle.itip_view.specs.declared.row.Row.{Row}
use Rattle.itip_view.specs.Rows.{AreTooMany}
use Rattle.itip_view.specs.Showing.{Shows, AreTooManyWhere}
use Rattle.itip_view.proofs.OfKept.{rows_of_kept, too_many_of_kept, rows_where_of_kept, many_where_of_kept}
use Rattle.itip_report.specs.Named.{IsReportOf, IsOfRows}
use Rattle.itip_report.specs.Resending.{IsResendOf}
use Rattle.itip_report.specs.NextSequence.{IsNext}
use Rattle.itip_report.specs.declared.report_name.ReportName.{ReportName}
use Rattle.itip_report.proofs.NamedReports.{report_of_kept}
use Rattle.itip_report.proofs.OfKept.{resend_of_kept, next_of_kept}
use Rattle.itip_desk.specs.HeardSteps.{heard}
use Rattle.itip_desk.specs.declared.refusal.Refusal.{Refusal}
use Rattle.itip_desk.specs.declared.refusal.Refusal.TheVariants as refusal
use Rattle.itip_desk.specs.Desk.{Shown}
use Rattle.itip_streams.proofs.Writing.{moves_none, moves_more}
use Rattle.itip_world.specs.Worlds.{Histories, AreDesksOf, Past, ShownWorld, IsWorldOf, IsEntriesOf, LacksOnlyPacket, RefusesEvent, desk_of}
use Rattle.itip_world.specs.Worlds as worlds
use Rattle.itip_world.specs.declared.watch.Refused.{Refused as RefusedAs}
use Rattle.itip_world.specs.declared.event.Event.{Event}
use Rattle.itip_world.specs.declared.event.Outcome.{Outcome}
use Rattle.itip_world.proofs.Desks.{history_at}
use Rattle.itip_world.proofs.Packets.{texts_length}
use Rattle.itip_script.specs.Orders.{Order, lists, lists_for, counts, reports, resends, asks_next, malformed}
use Rattle.itip_world.specs.Running.{Answer, Happens, refused, listed, listed_for, counted, reported, resent, next_is, answer_to, event_of}
use Rattle.itip_world.specs.Running.{HasTick, AreListed, AreListedFor, Step, Answers, answer_text, IsTold, Replies}
use Rattle.itip_world.specs.Running.Happens.{is_done, at_no_desk, of_no_packet, spends_ticks}
use Rattle.itip_world.specs.Running.Step.{happens, lists_rows, lists_too_many, lists_no_desk, lists_rows_for, lists_too_many_for}
use Rattle.itip_world.specs.Running.Step.{lists_no_desk_for, counts_kept, counts_no_desk, reports_lines, reports_too_many, reports_no_desk}
use Rattle.itip_world.specs.Running.Step.{resends_messages, resends_no_desk, tells_next, tells_no_desk, is_refused}

same_length : (histories : Histories) (desks : List Shown) → AreDesksOf histories desks → length histories ≡ length desks
same_length [] [] are = refl
same_length [] (d ∷ ds) are = absurd are
same_length (h ∷ hs) [] are = absurd are
same_length (h ∷ hs) (d ∷ ds) are = ap suc (same_length hs ds are.1)

module _ (window : Window) (world : ShownWorld) where
  -- a step that changes nothing
  abbrev Stays : Order → Answer → Type 0
  Stays order answer = (past : Past) → IsWorldOf past world → Step window past order answer past

  answers : (order : Order) (answer : Answer) → Stays order answer → Answers window order world answer world
  answers order answer stays past is = record { more = past; step = stays past is; world_is = is }

  pub answers_refused : Answers window malformed world (refused refusal.NoCommand) world
  answers_refused = answers malformed (refused refusal.NoCommand) (λ past is. is_refused)

  module _ (desk : ℕ) (missing : length world.desks ≤ desk) where
    no_history : (past : Past) → IsWorldOf past world → length past.histories ≤ desk
    no_history past is = omega (arith, missing, same_length past.histories world.desks is.desks_are)

    pub answers_no_list : Answers window (lists desk) world (refused (refusal.NoDesk desk)) world
    answers_no_list = answers (lists desk) (refused (refusal.NoDesk desk)) (λ past is. lists_no_desk desk (no_history past is))

    pub answers_no_list_for : (address : List ℕ) → Answers window (lists_for desk address) world (refused (refusal.NoDesk desk)) world
    answers_no_list_for address =
        answers (lists_for desk address) (refused (refusal.NoDesk desk)) (λ past is. lists_no_desk_for desk address (no_history past is))

    pub answers_no_count : Answers window (counts desk) world (refused (refusal.NoDesk desk)) world
    answers_no_count = answers (counts desk) (refused (refusal.NoDesk desk)) (λ past is. counts_no_desk desk (no_history past is))

    pub answers_no_report : (named : ReportName) → Answers window (reports desk named) world (refused (refusal.NoDesk desk)) world
    answers_no_report named =
        answers (reports desk named) (refused (refusal.NoDesk desk)) (λ past is. reports_no_desk desk named (no_history past is))

    pub answers_no_resend : (uid : List ℕ) → Answers window (resends desk uid) world (refused (refusal.NoDesk desk)) world
    answers_no_resend uid =
        answers (resends desk uid) (refused (refusal.NoDesk desk)) (λ past is. resends_no_desk desk uid (no_history past is))

    pub answers_no_next : (uid : List ℕ) → Answers window (asks_next desk uid) world (refused (refusal.NoDesk desk)) world
    answers_no_next uid =
        answers (asks_next desk uid) (refused (refusal.NoDesk desk)) (λ past is. tells_no_desk desk uid (no_history past is))

  pub answers_count : (desk entries : ℕ) → IsEntriesOf world desk entries → Answers window (counts desk) world (counted desk entries) world
  answers_count desk entries is_entries =
      answers (counts desk) (counted desk entries) (λ past is. let h = is_entries past is in
      counts_kept desk h.history entries h.there h.counts)

  module _ (desk : ℕ) (shown : Shown) (at : slice_get world.desks desk ≡ Some shown) where
    pub answers_list : (rows : List Row) → AreListed shown.kept window rows → Answers window (lists desk) world (listed desk rows) world
    answers_list rows are = answers (lists desk) (listed desk rows) (λ past is.
        let h = history_at past.histories world.desks desk shown is.desks_are at in
        lists_rows desk h.history rows h.there
        (record { are_rows = rows_of_kept shown.kept (heard h.history.steps) h.is.kept window rows are.are_rows; few = are.few }))

    pub answers_too_many : AreTooMany shown.kept window → Answers window (lists desk) world (refused refusal.TooManyRows) world
    answers_too_many many = answers (lists desk) (refused refusal.TooManyRows) (λ past is.
        let h = history_at past.histories world.desks desk shown is.desks_are at in
        lists_too_many desk h.history h.there (too_many_of_kept shown.kept (heard h.history.steps) h.is.kept window many))

    pub answers_list_for : (address : List ℕ) (rows : List Row) → AreListedFor address shown.kept window rows →
        Answers window (lists_for desk address) world (listed_for desk rows) world
    answers_list_for address rows are = answers (lists_for desk address) (listed_for desk rows) (λ past is.
        let h = history_at past.histories world.desks desk shown is.desks_are at in
        lists_rows_for desk address h.history rows h.there
        (record {
          are_rows = rows_where_of_kept (Shows address) shown.kept (heard h.history.steps) h.is.kept window rows are.are_rows;
          few = are.few;
        }))

    pub answers_too_many_for : (address : List ℕ) → AreTooManyWhere (Shows address) shown.kept window →
        Answers window (lists_for desk address) world (refused refusal.TooManyRows) world
    answers_too_many_for address many = answers (lists_for desk address) (refused refusal.TooManyRows) (λ past is.
        let h = history_at past.histories world.desks desk shown is.desks_are at in
        lists_too_many_for desk address h.history h.there
        (many_where_of_kept (Shows address) shown.kept (heard h.history.steps) h.is.kept window many))

    pub answers_report : (named : ReportName) (lines : List (List ℕ)) → IsReportOf named shown.kept window lines →
        Answers window (reports desk named) world (reported desk named lines) world
    answers_report named lines is_report = answers (reports desk named) (reported desk named lines) (λ past is.
        let h = history_at past.histories world.desks desk shown is.desks_are at in
        reports_lines desk named h.history lines h.there
        (report_of_kept shown.kept (heard h.history.steps) h.is.kept window named lines is_report))

    pub answers_no_rows : (named : ReportName) → IsOfRows named → AreTooMany shown.kept window →
        Answers window (reports desk named) world (refused refusal.TooManyRows) world
    answers_no_rows named of_rows many = answers (reports desk named) (refused refusal.TooManyRows) (λ past is.
        let h = history_at past.histories world.desks desk shown is.desks_are at in
        reports_too_many desk named h.history of_rows h.there (too_many_of_kept shown.kept (heard h.history.steps) h.is.kept window many))

    pub answers_resend : (uid : List ℕ) (bytes : Option (List ℕ)) → IsResendOf shown.kept uid bytes →
        Answers window (resends desk uid) world (resent desk bytes) world
    answers_resend uid bytes is_resend = answers (resends desk uid) (resent desk bytes) (λ past is.
        let h = history_at past.histories world.desks desk shown is.desks_are at in
        resends_messages desk uid h.history bytes h.there (resend_of_kept shown.kept (heard h.history.steps) h.is.kept uid bytes is_resend))

    pub answers_next : (uid : List ℕ) (sequence : Option ℕ) → IsNext shown.kept uid sequence →
        Answers window (asks_next desk uid) world (next_is desk sequence) world
    answers_next uid sequence is_next = answers (asks_next desk uid) (next_is desk sequence) (λ past is.
        let h = history_at past.histories world.desks desk shown is.desks_are at in
        tells_next desk uid h.history sequence h.there (next_of_kept shown.kept (heard h.history.steps) h.is.kept uid sequence is_next))

-- ---- other answers

-- an answer is appended to what is kept, and nothing was written
pub replies_told : (window : Window) (order : Order) (world after : ShownWorld) (o : Option (List ℕ)) (kept rest : List ℕ)
    (answer : Answer) (why : Option RefusedAs) → Answers window order world answer after → IsTold answer kept rest why →
    Replies window order world after o o kept rest why
replies_told window order world after o kept rest answer why answers told = record {
  answer = answer;
  answers = answers;
  moved = moves_more o o kept kept (moves_none o kept) (answer_text answer) rest told.text_is;
  refusal_is = told.refusal_is;
}

-- ---- events

module _ (old new : ShownWorld) (event : Event) (still : new ≡ old) (window : Window) (order : Order) (asks : event_of order ≡ Some event)
  where
    -- an event that was not done
    not_done : (why : Refusal) → ((past : Past) → IsWorldOf past old → Happens past event (refused why) past) →
        Answers window order old (refused why) new
    not_done why refuses past is = record {
      more = past;
      step = happens order event (refused why) past asks (refuses past is);
      world_is = subst (λ (w : ShownWorld). IsWorldOf past w) (sym still) is;
    }

    no_desk : (desk : ℕ) → desk ≡ desk_of event → length old.desks ≤ desk → Answers window order old (refused (refusal.NoDesk desk)) new
    no_desk desk same missing = not_done (refusal.NoDesk desk) (λ past is.
        subst (λ (n : ℕ). Happens past event (refused (refusal.NoDesk n)) past) (sym same)
        (at_no_desk (omega (arith, missing, same, same_length past.histories old.desks is.desks_are))))

    no_packet : (packet : ℕ) → LacksOnlyPacket (length old.desks) (length old.packets) event packet →
        Answers window order old (refused (refusal.NoPacket packet)) new
    no_packet packet lacks = not_done (refusal.NoPacket packet) (λ past is. of_no_packet packet (
        subst (λ (n : ℕ). LacksOnlyPacket n (length past.packets) event packet) (sym (same_length past.histories old.desks is.desks_are))
        (subst (λ (n : ℕ). LacksOnlyPacket (length old.desks) n event packet) (sym (texts_length past.packets old.packets is.packets_are))
        lacks)))

    pub answers_refusal : (why : Refusal) → RefusesEvent old event why → Answers window order old (refused why) new
    answers_refusal (refusal.NoDesk desk) is = no_desk desk is.0 is.1
    answers_refusal (refusal.NoPacket packet) is = no_packet packet is
    answers_refusal (refusal.TicksSpent desk) is = not_done (refusal.TicksSpent desk) (λ past world_is.
        subst (λ (n : ℕ). Happens past event (refused (refusal.TicksSpent n)) past) (sym is.0) (spends_ticks (is.1 past world_is)))
    answers_refusal (refusal.Message why) is = absurd is
    answers_refusal refusal.TooManyRows is = absurd is
    answers_refusal refusal.NoCommand is = absurd is
    answers_refusal refusal.LongScript is = absurd is
    answers_refusal refusal.LongDelta is = absurd is
    answers_refusal (refusal.File why) is = absurd is

pub answers_event : (old new : ShownWorld) (event : Event) (outcome : Outcome) (answer : Answer) → worlds.Steps old event outcome new →
    HasTick outcome
    → answer ≡ answer_to event outcome → (window : Window) (order : Order) → event_of order ≡ Some event →
    Answers window order old answer new
answers_event old new event outcome answer steps tick is_answer window order asks past world_is =
    let s = steps past world_is in
    record {
      more = s.more;
      step = subst (λ (a : Answer). Step window past order a s.more) (sym is_answer)
          (happens order event (answer_to event outcome) s.more asks (is_done outcome s.more s.step tick));
      world_is = s.world_is;
    }
