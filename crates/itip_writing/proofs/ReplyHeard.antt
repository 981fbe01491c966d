-- A desk that hears an answer shows it.
use Rattle.std.proofs.Common.{◌≡◌, ◌∙◌, ℕ, ◌<◌, ◌≤◌, List, [], ◌∷◌, ◌++◌, max, refl, sym, ap, subst, ◌⊎◌, inl, inr, arith, Option, Some}
use Rattle.std.proofs.Common.{None}
use Rattle.std.specs.List.{Contains}
use Rattle.std.specs.declared.cmp.Ordering.TheVariants.{Less}
use Rattle.std.proofs.lemmas.Bool.{cases_lt}
use Rattle.std.proofs.lemmas.Option.{same_Some}
use Rattle.itip_moment.specs.Order.{stamp_cmp}
use Rattle.itip_moment.specs.declared.moment.Moment.{Moment}
use Rattle.itip_moment.specs.declared.stamp.Stamp.{Stamp}
use Rattle.itip_todo.specs.Participation.{partstat_of}
use Rattle.itip_todo.specs.Parts.{Parts}
use Rattle.itip_todo.specs.Table.{attendee_key}
use Rattle.itip_todo.specs.declared.attendee.PartStat.{PartStat}
use Rattle.itip_todo.specs.declared.attendee.PartStat.TheVariants as partstat
use Rattle.itip_todo.specs.Properties.{Property}
use Rattle.itip_items.specs.Given.{AreItemsOf}
use Rattle.itip_items.specs.Items.{drafts}
use Rattle.itip_items.specs.KeyParts.{uid_of}
use Rattle.itip_items.specs.RevisionOrder.{IsLater}
use Rattle.itip_items.specs.declared.item.Item.{Item}
use Rattle.itip_items.specs.declared.key.Key.{Key}
use Rattle.itip_items.specs.declared.key.Key.TheVariants as key
use Rattle.itip_items.specs.declared.kind.Kind.TheVariants as kind
use Rattle.itip_items.specs.declared.kind.Method.TheVariants as method
use Rattle.itip_state.specs.Kept.{CanDie, IsBest, IsDead, IsKept}
use Rattle.itip_state.proofs.Best.{greater_eff}
use Rattle.itip_state.proofs.Members.{cons_cases, cons_first, cons_later, none_in}
use Rattle.itip_view.specs.Answers.{Asked, AreShown, Counts, Decides, NoneCounts, in_front, partstat_in, shown_line, unless_removed}
use Rattle.itip_view.specs.InQuestion.{IsInQuestion, ShowsInQuestion, ShowsOccurrence, ShowsRange}
use Rattle.itip_view.specs.Rows.{answers_since, occurrence_answers, series_answers}
use Rattle.itip_view.specs.Standing.{IsLiveSeries}
use Rattle.itip_view.specs.declared.row.Row.{Row}
use Rattle.itip_view.specs.declared.row.ShownAttendee.{ShownAttendee}
use Rattle.itip_view.specs.declared.window.Window.{Window}
use Rattle.itip_view.proofs.Asking.{shows_is}
use Rattle.itip_view.proofs.OneRow.{one_best}
use Rattle.itip_view.proofs.Sequences.{answer_eff, series_eff}
use Rattle.itip_writing.specs.Replying.{AsksWhole, IsAnswered, IsReplyOf, IsUnansweredOccurrence, ShowsAnswer}
use Rattle.itip_writing.specs.Replying.{answer_line, no_less, reply_parts}
use Rattle.itip_writing.specs.Stamping.{IsEqualRevision, IsKeptOf}
use Rattle.itip_writing.specs.declared.answer.Answer.{Answer}
use Rattle.itip_writing.proofs.AttendeeHeard.{SameTasks, new_best, question_kept, question_shows, series_kept, tasks_stay}
use Rattle.itip_writing.proofs.BriefRead.{HasLine, in_front_cases, line_in_question, shown_address}
use Rattle.itip_writing.proofs.Latest.{one_kept}
use Rattle.itip_writing.proofs.RemovalHeard.{after_each, later_stamped}
use Rattle.itip_writing.proofs.RequestStands.{IsTask}

-- ---- the item of an answer

-- the item answers, with this sequence, this stamp, and what it says
pub record IsAnswerItem (k : Key) (n : ℕ) (stamp : Stamp) (answer : Answer) (i : Item) : Type 0 where
  pub about : i.key ≡ k
  pub kind_is : i.kind ≡ kind.Reply
  pub own_is : i.own ≡ n
  pub eff_is : i.eff ≡ n
  pub stamp_is : i.stamp ≡ stamp
  pub partstat_is : partstat_in i.todo.attendees ≡ answer.status
  pub percent_is : i.todo.percent ≡ answer.percent

pub record IsOneAnswer (k : Key) (n : ℕ) (stamp : Stamp) (answer : Answer) (items : List Item) : Type 0 where
  pub item : Item
  pub items_are : items ≡ item ∷ []
  pub is : IsAnswerItem k n stamp answer item

partstat_back : (status : PartStat) (address : List ℕ) → partstat_of (answer_line address status).params ≡ status
partstat_back partstat.NeedsAction address = refl
partstat_back partstat.Accepted address = refl
partstat_back partstat.Declined address = refl
partstat_back partstat.Tentative address = refl
partstat_back partstat.Delegated address = refl
partstat_back partstat.Completed address = refl
partstat_back partstat.InProcess address = refl

one_answer : (uid : List ℕ) (id : Option Moment) (stamp : Stamp) (n : ℕ) (answer : Answer) (organizer : Option Property) (named : List ℕ)
    (items : List Item) →
    AreItemsOf (drafts method.Reply (reply_parts uid id stamp n answer.percent organizer (answer_line named answer.status) ∷ [])) items →
    IsOneAnswer (key.Answer uid id (attendee_key named)) n stamp answer items
one_answer uid id stamp n answer organizer named [] are = absurd are
one_answer uid id stamp n answer organizer named (i ∷ []) are = record {
  item = i;
  items_are = refl;
  is = record {
    about = are.0.key_is;
    kind_is = are.0.kind_is;
    own_is = are.0.own_is ∙ ap (λ (p : Parts). p.seq) are.0.parts_are;
    eff_is = are.0.eff_is;
    stamp_is = are.0.stamp_is ∙ ap (λ (p : Parts). p.stamp) are.0.parts_are;
    partstat_is = ap (λ (p : Parts). partstat_in p.attendees) are.0.parts_are ∙ partstat_back answer.status named;
    percent_is = ap (λ (p : Parts). p.percent) are.0.parts_are;
  };
}
one_answer uid id stamp n answer organizer named (i ∷ j ∷ rest) are = absurd are.1

-- ---- what an answer that counts says

module _ (heard : List Item) (answer : Answer) where
  -- an answer counts there, and each that does says this
  record Says (asked : Asked) : Type 0 where
    some : Item
    counts : Counts heard asked some
    kinds : (other : Item) → Counts heard asked other → other.kind ≡ kind.Reply
    partstats : (other : Item) → Counts heard asked other → partstat_in other.todo.attendees ≡ answer.status
    percents : (other : Item) → Counts heard asked other → other.todo.percent ≡ answer.percent

  abbrev told : Property → ShownAttendee
  told line = record { address = line.value; partstat = answer.status; percent = answer.percent }

  counted_says : (asked : Asked) → Says asked → (line : Property) (other : Item) → Counts heard asked other →
      shown_line line (Some other) ≡ Some (told line)
  counted_says asked says line other counts =
      let kinds = says.kinds other counts in
      let partstats = says.partstats other counts in
      let percents = says.percents other counts in
      λ i. unless_removed (kinds i) (record { address = line.value; partstat = partstats i; percent = percents i })

  first_says : (asked : Asked) (rest : List Asked) → Says asked → (line : Property) (found : Option Item) →
      Decides heard (asked ∷ rest) found → shown_line line found ≡ Some (told line)
  first_says asked rest says line None (none, later) = absurd (none says.some says.counts)
  first_says asked rest says line (Some other) (inl counts) = counted_says asked says line other counts
  first_says asked rest says line (Some other) (inr (none, later)) = absurd (none says.some says.counts)

  second_says : (before asked : Asked) (rest : List Asked) → NoneCounts heard before → Says asked → (line : Property)
      (found : Option Item) → Decides heard (before ∷ asked ∷ rest) found → shown_line line found ≡ Some (told line)
  second_says before asked rest not says line None (none, later) = first_says asked rest says line None later
  second_says before asked rest not says line (Some other) (inl counts) = absurd (not other counts)
  second_says before asked rest not says line (Some other) (inr (none, later)) = first_says asked rest says line (Some other) later

  -- if each line of an attendee says it, whoever has the key of the attendee is shown so
  module _ (asked_of : Property → List Asked) (a : List ℕ)
      (says : (line : Property) → attendee_key line.value ≡ a → (found : Option Item) → Decides heard (asked_of line) found →
      shown_line line found ≡ Some (told line)) where
    -- those of the key
    abbrev IsSo : ShownAttendee → Type 0
    IsSo one = (one.partstat ≡ answer.status) × (one.percent ≡ answer.percent)

    all_so : (lines : List Property) (shown : List ShownAttendee) → AreShown heard asked_of lines shown → (one : ShownAttendee) →
        Contains shown one → attendee_key one.address ≡ a → IsSo one
    all_so [] shown is one h same = absurd (none_in one (subst (λ (s : List ShownAttendee). Contains s one) is h))
    all_so (line ∷ lines) shown (found, others, decides, rest, is) one h same =
        elim (in_front_cases (shown_line line found) others one (subst (λ (s : List ShownAttendee). Contains s one) is h)) [
          | inl first ↦
              let named : attendee_key line.value ≡ a = ap attendee_key (shown_address line found one first) ∙ same in
              let so : told line ≡ one = same_Some (told line) one (sym (says line named found decides) ∙ first) in
              subst IsSo so (refl, refl)
          | inr later ↦ all_so lines others rest one later same
        ]

    -- one is there
    record IsThere (shown : List ShownAttendee) : Type 0 where
      one : ShownAttendee
      there : Contains shown one
      same : attendee_key one.address ≡ a

    behind : (first : Option ShownAttendee) (others : List ShownAttendee) → IsThere others → IsThere (in_front first others)
    behind None others is = is
    behind (Some b) others is = record { one = is.one; there = cons_later b others is.one is.there; same = is.same }

    is_there : (lines : List Property) (shown : List ShownAttendee) → AreShown heard asked_of lines shown → (line : Property) →
        Contains lines line → attendee_key line.value ≡ a → IsThere shown
    is_there [] shown is line h same = absurd (none_in line h)
    is_there (first ∷ lines) shown (found, others, decides, rest, is) line h same = elim (cons_cases first lines line h) [
      | inl here ↦
          let named : attendee_key first.value ≡ a = ap (λ (l : Property). attendee_key l.value) here ∙ same in
          let front : shown ≡ told first ∷ others =
          is ∙ ap (λ (one : Option ShownAttendee). in_front one others) (says first named found decides) in
          subst IsThere (sym front) (record { one = told first; there = cons_first (told first) others; same = named })
      | inr later ↦ subst IsThere (sym is) (behind (shown_line first found) others (is_there lines others rest line later same))
    ]

    shows_answer : attendee_key answer.attendee.now ≡ a → (lines : List Property) (shown : List ShownAttendee) →
        AreShown heard asked_of lines shown → (line : Property) → Contains lines line → attendee_key line.value ≡ a →
        ShowsAnswer answer shown
    shows_answer key_is lines shown are line h same =
        let is : IsThere shown = is_there lines shown are line h same in record {
          attendee = is.one;
          there = is.there;
          same = is.same ∙ sym key_is;
          partstat = λ other k of. (all_so lines shown are other k (of ∙ key_is)).0;
          percent = λ other k of. (all_so lines shown are other k (of ∙ key_is)).1;
        }

-- ---- the answer is the best of its key

module _ (heard : List Item) (uid : List ℕ) (id : Option Moment) (answer : Answer) (at : Stamp) (parts : Parts)
    (sent : IsReplyOf heard uid id answer at parts) where
  abbrev answered_key : Key
  answered_key = key.Answer uid id (attendee_key sent.named)

  own_least : sent.item.own ≤ sent.sequence
  own_least = by sent.revision.sequence_is.answer sent.revision.sequence_is.sequence_is
    where
      by : (found : Option Item) → sent.sequence ≡ no_less sent.item.own found → sent.item.own ≤ sent.sequence
      by None e = omega (arith, e)
      by (Some other) e = omega (arith, e)

  kept_least : (b : Item) → IsKept heard b → b.key ≡ answered_key → b.own ≤ sent.sequence
  kept_least b kept about =
      by sent.revision.sequence_is.answer sent.revision.sequence_is.kept sent.revision.sequence_is.sequence_is
    where
      by : (found : Option Item) → IsKeptOf heard answered_key found → sent.sequence ≡ no_less sent.item.own found →
          b.own ≤ sent.sequence
      by None none e = absurd (none b kept about)
      by (Some c) (kept_c, about_c) e =
          let own : b.own ≡ c.own = ap (λ (i : Item). i.own) (one_kept heard answered_key b c kept kept_c about about_c) in
          omega (arith, e, own)

  module _ (new : Item) (is : IsAnswerItem answered_key sent.sequence sent.stamp answer new) where
    earlier : (b : Item) → IsKept heard b → b.key ≡ new.key → IsLater new b
    earlier b kept same =
        let about : b.key ≡ answered_key = same ∙ is.about in
        let own : b.own ≤ sent.sequence = kept_least b kept about in
        let plain : b.eff ≡ b.own = answer_eff b uid id (attendee_key sent.named) about in
        elim (cases_lt b.eff sent.sequence) [
          | inl low ↦ greater_eff new b (omega (arith, low, is.eff_is))
          | inr high ↦
              let even : b.eff ≡ sent.sequence = omega (arith, high, own, plain) in
              let before : stamp_cmp b.stamp sent.stamp ≡ Less =
              after_each (IsEqualRevision heard (answered_key ∷ []) sent.sequence) at sent.stamp sent.revision.stamp_is b.stamp
              (record {
                item = b;
                kept = kept;
                about = subst (Contains (answered_key ∷ [])) (sym about) (cons_first answered_key []);
                same = even;
                stamp_is = refl;
              }) in
              later_stamped new b (is.eff_is ∙ sym even)
              (subst (λ (s : Stamp). stamp_cmp b.stamp s ≡ Less) (sym is.stamp_is) before)
        ]

    above : (b : Item) → IsBest heard new.key b → IsDead heard b → b.eff < new.eff
    above b best dead = by id (best.about ∙ is.about) (shows_is heard uid id sent.item sent.asked.shown sent.asked.shows)
      where
        by : (m : Option Moment) → b.key ≡ key.Answer uid m (attendee_key sent.named) → IsInQuestion heard uid m sent.item →
            b.eff < new.eff
        by (Some m) about governs = absurd (subst CanDie about dead.can_die)
        by None about governs =
            let series : IsBest heard (key.Series uid) dead.series =
            subst (λ (u : List ℕ). IsBest heard (key.Series u) dead.series) (ap uid_of about) dead.best in
            let same : dead.series ≡ sent.item = one_best heard (key.Series uid) dead.series sent.item series governs.best in
            let eff : dead.series.eff ≡ sent.item.eff = ap (λ (i : Item). i.eff) same in
            let plain : sent.item.eff ≡ sent.item.own = series_eff sent.item uid governs.best.about in
            let below : b.eff < dead.series.eff = dead.below in
            let least : sent.item.own ≤ sent.sequence = own_least in
            omega (arith, below, eff, plain, least, is.eff_is)

    answer_best : IsBest (heard ++ new ∷ []) answered_key new
    answer_best = subst (λ (k : Key). IsBest (heard ++ new ∷ []) k new) is.about (new_best heard new earlier above)

    not_task : IsTask new.key → ⊥
    not_task task = subst IsTask is.about task

    tasks : SameTasks heard (heard ++ new ∷ [])
    tasks = tasks_stay heard new not_task

    -- the attendee of the answer
    named_same : attendee_key answer.attendee.now ≡ attendee_key sent.named
    named_same = sym (ap attendee_key sent.asked.named_is ∙ sent.asked.same)

    -- whoever asks for the answers of the key, from a sequence on that is no greater, finds this one
    says_since : (line : Property) → attendee_key line.value ≡ attendee_key sent.named → (since : ℕ) → since ≤ sent.sequence →
        Says (heard ++ new ∷ []) answer (answers_since since uid id line)
    says_since line same since low =
        subst (λ (a : List ℕ). Says (heard ++ new ∷ []) answer (record { key = key.Answer uid id a; since = since })) (sym same)
        (record {
          some = new;
          counts = record { best = answer_best; since = omega (arith, low, is.own_is) };
          kinds = λ other counts. ap (λ (i : Item). i.kind) (only other counts.best) ∙ is.kind_is;
          partstats = λ other counts. ap (λ (i : Item). partstat_in i.todo.attendees) (only other counts.best) ∙ is.partstat_is;
          percents = λ other counts. ap (λ (i : Item). i.todo.percent) (only other counts.best) ∙ is.percent_is;
        })
      where
        only : (other : Item) → IsBest (heard ++ new ∷ []) answered_key other → other ≡ new
        only other best = one_best (heard ++ new ∷ []) answered_key other new best answer_best

    asked_line : HasLine sent.item.todo.attendees sent.asked.attendee.address
    asked_line =
        line_in_question heard uid id sent.item sent.asked.shown sent.asked.shows sent.asked.attendee sent.asked.there

    line_key : attendee_key asked_line.line.value ≡ attendee_key sent.named
    line_key = ap attendee_key asked_line.value_is ∙ ap attendee_key (sym sent.asked.named_is)

    -- a row that asks for the answer first shows it
    first_shown : (rest : Property → List Asked) (shown : List ShownAttendee) →
        AreShown (heard ++ new ∷ []) (λ line. answers_since sent.item.own uid id line ∷ rest line) sent.item.todo.attendees shown →
        ShowsAnswer answer shown
    first_shown rest shown are =
        shows_answer (heard ++ new ∷ []) answer (λ line. answers_since sent.item.own uid id line ∷ rest line) (attendee_key sent.named)
        (λ line same. first_says (heard ++ new ∷ []) answer (answers_since sent.item.own uid id line) (rest line)
        (says_since line same sent.item.own own_least) line) named_same sent.item.todo.attendees shown are asked_line.line asked_line.there
        line_key

-- ---- the row in question

module _ (heard : List Item) (uid : List ℕ) (answer : Answer) (at : Stamp) (parts : Parts) where
  question_answered : (id : Option Moment) (sent : IsReplyOf heard uid id answer at parts) (new : Item) →
      IsAnswerItem (key.Answer uid id (attendee_key sent.named)) sent.sequence sent.stamp answer new → (shown : List ShownAttendee) →
      ShowsInQuestion (heard ++ new ∷ []) uid id sent.item shown → ShowsAnswer answer shown
  question_answered None sent new is shown p = first_shown heard uid None answer at parts sent new is (λ _. []) shown p.attendees
  question_answered (Some m) sent new is shown (inl p) =
      first_shown heard uid (Some m) answer at parts sent new is (λ _. []) shown p.attendees
  question_answered (Some m) sent new is shown (inr p) = by p.shows
    where
      by : ShowsRange (heard ++ new ∷ []) uid m sent.item shown ⊎ ShowsOccurrence (heard ++ new ∷ []) uid m sent.item shown →
          ShowsAnswer answer shown
      by (inl range) = first_shown heard uid (Some m) answer at parts sent new is
          (λ line. answers_since (max sent.item.own range.whole.own) uid None line ∷ []) shown range.attendees
      by (inr series) = first_shown heard uid (Some m) answer at parts sent new is
          (λ line. answers_since sent.item.own uid None line ∷ []) shown series.attendees

pub answer_shown : (heard : List Item) (uid : List ℕ) (id : Option Moment) (answer : Answer) (at : Stamp) (parts : Parts) →
    IsReplyOf heard uid id answer at parts → (items : List Item) → AreItemsOf (drafts method.Reply (parts ∷ [])) items →
    IsAnswered (heard ++ items) uid id answer
answer_shown heard uid id answer at parts sent items are =
    let one : IsOneAnswer (key.Answer uid id (attendee_key sent.named)) sent.sequence sent.stamp answer items =
    one_answer uid id sent.stamp sent.sequence answer sent.item.todo.organizer sent.named items
    (subst (λ (p : Parts). AreItemsOf (drafts method.Reply (p ∷ [])) items) sent.parts_are are) in
    let new : Item = one.item in
    let governs : IsInQuestion (heard ++ new ∷ []) uid id sent.item =
    question_kept heard (heard ++ new ∷ []) (tasks heard uid id answer at parts sent new one.is) uid id sent.item
    (shows_is heard uid id sent.item sent.asked.shown sent.asked.shows) in
    let shown = question_shows (heard ++ new ∷ []) uid id sent.item governs in
    subst (λ (all : List Item). IsAnswered (heard ++ all) uid id answer) (sym one.items_are) (record {
      item = sent.item;
      shown = shown.0;
      shows = shown.1;
      answered = question_answered heard uid answer at parts id sent new one.is shown.0 shown.1;
    })

-- ---- rows that the series item governs

module _ (heard : List Item) (uid : List ℕ) (answer : Answer) (at : Stamp) (parts : Parts) (sent : IsReplyOf heard uid None answer at parts)
    (new : Item) (is : IsAnswerItem (key.Answer uid None (attendee_key sent.named)) sent.sequence sent.stamp answer new)
    (row : Row) (of : row.uid ≡ uid) where
  -- the series item that governs is the one that was in question
  same_series : (g : Item) → IsLiveSeries (heard ++ new ∷ []) row.uid g → g ≡ sent.item
  same_series g live =
      let old : IsLiveSeries (heard ++ new ∷ []) uid sent.item =
      series_kept heard (heard ++ new ∷ []) (tasks heard uid None answer at parts sent new is) uid sent.item sent.asked.shows.live in
      one_best (heard ++ new ∷ []) (key.Series uid) g sent.item
      (subst (λ (u : List ℕ). IsBest (heard ++ new ∷ []) (key.Series u) g) of live.best) old.best

  whole_says : (g : Item) → g ≡ sent.item → (line : Property) → attendee_key line.value ≡ attendee_key sent.named →
      Says (heard ++ new ∷ []) answer (answers_since g.own row.uid None line)
  whole_says g same line named =
      let own : g.own ≡ sent.item.own = ap (λ (i : Item). i.own) same in
      let least : sent.item.own ≤ sent.sequence = own_least heard uid None answer at parts sent in
      subst (λ (u : List ℕ). Says (heard ++ new ∷ []) answer (answers_since g.own u None line)) (sym of)
      (says_since heard uid None answer at parts sent new is line named g.own (omega (arith, own, least)))

  -- the line of the attendee is one of the item
  governing_line : (g : Item) → g ≡ sent.item → HasLine g.todo.attendees sent.asked.attendee.address
  governing_line g same =
      subst (λ (i : Item). HasLine i.todo.attendees sent.asked.attendee.address) (sym same)
      (asked_line heard uid None answer at parts sent new is)

  row_shown : (g : Item) → g ≡ sent.item → (asked_of : Property → List Asked) →
      ((line : Property) → attendee_key line.value ≡ attendee_key sent.named → (found : Option Item) →
      Decides (heard ++ new ∷ []) (asked_of line) found → shown_line line found ≡ Some (told (heard ++ new ∷ []) answer line)) →
      AreShown (heard ++ new ∷ []) asked_of g.todo.attendees row.attendees → ShowsAnswer answer row.attendees
  row_shown g same asked_of says are =
      let has = governing_line g same in
      shows_answer (heard ++ new ∷ []) answer asked_of (attendee_key sent.named) says
      (named_same heard uid None answer at parts sent new is) g.todo.attendees row.attendees are has.line has.there
      (ap attendee_key has.value_is ∙ ap attendee_key (sym sent.asked.named_is))

  on_whole : (g : Item) → IsLiveSeries (heard ++ new ∷ []) row.uid g →
      AreShown (heard ++ new ∷ []) (series_answers row.uid g) g.todo.attendees row.attendees → ShowsAnswer answer row.attendees
  on_whole g live are =
      let same : g ≡ sent.item = same_series g live in
      row_shown g same (series_answers row.uid g)
      (λ line named. first_says (heard ++ new ∷ []) answer (answers_since g.own row.uid None line) [] (whole_says g same line named) line)
      are

  on_occurrence : (window : Window) → IsUnansweredOccurrence (heard ++ new ∷ []) window answer.attendee.now row →
      ShowsAnswer answer row.attendees
  on_occurrence window unanswered =
      let p = unanswered.of in
      let g : Item = p.item in
      let same : g ≡ sent.item = same_series g p.live in
      let key_same : attendee_key answer.attendee.now ≡ attendee_key sent.named =
      named_same heard uid None answer at parts sent new is in
      let before : Property → Asked = answers_since g.own row.uid (Some p.at) in
      let none : (line : Property) → attendee_key line.value ≡ attendee_key sent.named → NoneCounts (heard ++ new ∷ []) (before line) =
      λ line named. subst
      (λ (b : List ℕ). NoneCounts (heard ++ new ∷ []) (record { key = key.Answer row.uid (Some p.at) b; since = g.own }))
      (key_same ∙ sym named) unanswered.none in
      row_shown g same (occurrence_answers row.uid p.at g)
      (λ line named. second_says (heard ++ new ∷ []) answer (before line) (answers_since g.own row.uid None line) [] (none line named)
      (whole_says g same line named) line) p.attendees

  rows_shown : (window : Window) → AsksWhole (heard ++ new ∷ []) window answer.attendee.now row → ShowsAnswer answer row.attendees
  rows_shown window (inl occurrence) = on_occurrence window occurrence
  rows_shown window (inr (inl p)) = on_whole p.item p.live p.attendees
  rows_shown window (inr (inr p)) = on_whole p.item p.live p.attendees

pub answer_on_rows : (heard : List Item) (uid : List ℕ) (answer : Answer) (at : Stamp) (parts : Parts) →
    IsReplyOf heard uid None answer at parts → (items : List Item) → AreItemsOf (drafts method.Reply (parts ∷ [])) items →
    (window : Window) (row : Row) → row.uid ≡ uid → AsksWhole (heard ++ items) window answer.attendee.now row →
    ShowsAnswer answer row.attendees
answer_on_rows heard uid answer at parts sent items are window row of asks =
    let one : IsOneAnswer (key.Answer uid None (attendee_key sent.named)) sent.sequence sent.stamp answer items =
    one_answer uid None sent.stamp sent.sequence answer sent.item.todo.organizer sent.named items
    (subst (λ (p : Parts). AreItemsOf (drafts method.Reply (p ∷ [])) items) sent.parts_are are) in
    rows_shown heard uid answer at parts sent one.item one.is row of window
    (subst (λ (all : List Item). AsksWhole (heard ++ all) window answer.attendee.now row) one.items_are asks)
