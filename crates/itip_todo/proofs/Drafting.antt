-- One more line of a property that may appear once, and has not appeared above.
use Rattle.std.proofs.Common.{◌≡◌, ◌≢◌, ℕ, true, false, List, [], ◌∷◌, ◌++◌, refl, sym, subst, Bool, Option, Some, None}
use Rattle.std.specs.Option.{is_some}
use Rattle.itip_lines.specs.declared.line.Line.{Line}
use Rattle.itip_moment.specs.declared.moment.Moment.{Moment}
use Rattle.itip_moment.specs.declared.stamp.Stamp.{Stamp}
use Rattle.itip_todo.specs.Reading.{IsOptional, IsUidOf, IsStampOf, IsSequenceOf, IsMomentOf, IsStatusOf, IsPercentOf, IsPriorityOf}
use Rattle.itip_todo.specs.Reading.{IsPropertyOf, IsOrganizerOf, HasCauseAs, is_twice, has_range, has_bad_range, range_of, first_of}
use Rattle.itip_todo.specs.Drafts.{IsDraftOf, Holds, Takes, more}
use Rattle.itip_todo.specs.declared.draft.Draft.{Draft}
use Rattle.itip_todo.specs.Values.{IsGoodValue}
use Rattle.itip_todo.specs.declared.error.TodoCause.{TodoCause}
use Rattle.itip_todo.specs.declared.error.TodoCause.TheVariants as cause
use Rattle.itip_todo.specs.Properties.{Property}
use Rattle.itip_todo.specs.declared.property_name.PropertyName.{PropertyName}
use Rattle.itip_todo.specs.declared.property_name.PropertyName.TheVariants as name
use Rattle.itip_todo.specs.declared.status.Status.{Status}

-- an absent value is of no line, and a value that is there is of one
pub free : {A : Type 0} (P : Line → A → Type 0) (o : Option Line) (v : Option A) → IsOptional P o v → v ≡ None → is_some o ≡ false
free P None v h e = refl
free P (Some line) None h e = absurd h
free P (Some line) (Some a) h e = absurd cc

pub taken : {A : Type 0} (P : Line → A → Type 0) (o : Option Line) (v : Option A) → IsOptional P o v → v ≢ None → is_some o ≡ true
taken P o None h some = absurd (some refl)
taken P None (Some a) h some = absurd h
taken P (Some line) (Some a) h some = refl

-- the value of a line whose property has not appeared above
pub put : {A : Type 0} (P : Line → A → Type 0) (lines : List Line) (line : Line) (old : Option A) (a : A) →
    IsOptional P (first_of lines) old → old ≡ None → P line a → IsOptional P (first_of (lines ++ line ∷ [])) (Some a)
put P [] line old a h e here = here
put P (l ∷ lines) line None a h e here = absurd h
put P (l ∷ lines) line (Some b) a h e here = absurd cc

-- the value of a line whose property has not appeared above is bad
pub bad : (above : PropertyName → List Line) (p : PropertyName) (line : Line) (f : TodoCause) → f ≡ cause.BadValue p →
    is_twice above p ≡ false → has_bad_range p line ≡ false → (IsGoodValue p line → ⊥) → HasCauseAs above p line f
bad above p line f e once range none = subst (λ (g : TodoCause). HasCauseAs above p line g) (sym e) (refl, once, range, none)

pub takes_uid : (line : Line) (d : Draft) (a : List ℕ) → d.uid ≡ None → IsUidOf line a → Takes name.Uid line d (record d { uid = Some a })
takes_uid line d a none here = record {
  good = λ above is. record {
    once = free IsUidOf (first_of (above name.Uid)) d.uid (is name.Uid) none;
    range = refl;
    value = here.1;
    few =
        refl;
    new = refl;
  };
  draft = λ above is. each above is;
}
  where
    each : (above : PropertyName → List Line) → IsDraftOf above d → (p : PropertyName) →
        Holds (record d { uid = Some a }) p (more above name.Uid line p)
    each above is name.Uid = put IsUidOf (above name.Uid) line d.uid a (is name.Uid) none here
    each above is p = is p

pub takes_stamp : (line : Line) (d : Draft) (a : Stamp) → d.stamp ≡ None → IsStampOf line a →
    Takes name.DtStamp line d (record d { stamp = Some a })
takes_stamp line d a none here = record {
  good = λ above is. record {
    once = free IsStampOf (first_of (above name.DtStamp)) d.stamp (is name.DtStamp) none;
    range = refl;
    value =
        (a, here);
    few = refl;
    new = refl;
  };
  draft = λ above is. each above is;
}
  where
    each : (above : PropertyName → List Line) → IsDraftOf above d → (p : PropertyName) →
        Holds (record d { stamp = Some a }) p (more above name.DtStamp line p)
    each above is name.DtStamp = put IsStampOf (above name.DtStamp) line d.stamp a (is name.DtStamp) none here
    each above is p = is p

pub takes_seq : (line : Line) (d : Draft) (a : ℕ) → d.seq ≡ None → IsSequenceOf line a →
    Takes name.Sequence line d (record d { seq = Some a })
takes_seq line d a none here = record {
  good = λ above is. record {
    once = free IsSequenceOf (first_of (above name.Sequence)) d.seq (is name.Sequence) none;
    range = refl;
    value = (a, here);
    few = refl;
    new = refl;
  };
  draft = λ above is. each above is;
}
  where
    each : (above : PropertyName → List Line) → IsDraftOf above d → (p : PropertyName) →
        Holds (record d { seq = Some a }) p (more above name.Sequence line p)
    each above is name.Sequence = put IsSequenceOf (above name.Sequence) line d.seq a (is name.Sequence) none here
    each above is p = is p

pub takes_base : (line : Line) (d : Draft) (a : ℕ) → d.base ≡ None → IsSequenceOf line a →
    Takes name.DeskBase line d (record d { base = Some a })
takes_base line d a none here = record {
  good = λ above is. record {
    once = free IsSequenceOf (first_of (above name.DeskBase)) d.base (is name.DeskBase) none;
    range = refl;
    value = (a, here);
    few = refl;
    new = refl;
  };
  draft = λ above is. each above is;
}
  where
    each : (above : PropertyName → List Line) → IsDraftOf above d → (p : PropertyName) →
        Holds (record d { base = Some a }) p (more above name.DeskBase line p)
    each above is name.DeskBase = put IsSequenceOf (above name.DeskBase) line d.base a (is name.DeskBase) none here
    each above is p = is p

-- the range of a line whose property has not appeared above
put_range : (lines : List Line) (line : Line) (b : Bool) → is_some (first_of lines) ≡ false → b ≡ has_range line →
    b ≡ range_of (first_of (lines ++ line ∷ []))
put_range [] line b e here = here
put_range (l ∷ lines) line b e here = absurd cc

pub takes_rid : (line : Line) (d : Draft) (a : Moment) (b : Bool) → d.rid ≡ None → b ≡ has_range line →
    has_bad_range name.RecurrenceId line ≡ false → IsMomentOf line a → Takes name.RecurrenceId line d (record d { rid = Some a; range = b })
takes_rid line d a b none ranges range here = record {
  good = λ above is. record { once = none_above above is; range = range; value = (a, here); few = refl; new = refl };
  draft = λ above is. each above is;
}
  where
    none_above : (above : PropertyName → List Line) → IsDraftOf above d → is_some (first_of (above name.RecurrenceId)) ≡ false
    none_above above is = free IsMomentOf (first_of (above name.RecurrenceId)) d.rid (is name.RecurrenceId).0 none

    each : (above : PropertyName → List Line) → IsDraftOf above d → (p : PropertyName) →
        Holds (record d { rid = Some a; range = b }) p (more above name.RecurrenceId line p)
    each above is name.RecurrenceId = (
      put IsMomentOf (above name.RecurrenceId) line d.rid a (is name.RecurrenceId).0 none here,
      put_range (above name.RecurrenceId) line b (none_above above is) ranges,
    )
    each above is p = is p

pub takes_start : (line : Line) (d : Draft) (a : Moment) → d.start ≡ None → IsMomentOf line a →
    Takes name.DtStart line d (record d { start = Some a })
takes_start line d a none here = record {
  good = λ above is. record {
    once = free IsMomentOf (first_of (above name.DtStart)) d.start (is name.DtStart) none;
    range = refl;
    value =
        (a, here);
    few = refl;
    new = refl;
  };
  draft = λ above is. each above is;
}
  where
    each : (above : PropertyName → List Line) → IsDraftOf above d → (p : PropertyName) →
        Holds (record d { start = Some a }) p (more above name.DtStart line p)
    each above is name.DtStart = put IsMomentOf (above name.DtStart) line d.start a (is name.DtStart) none here
    each above is p = is p

pub takes_due : (line : Line) (d : Draft) (a : Moment) → d.due ≡ None → IsMomentOf line a →
    Takes name.Due line d (record d { due = Some a })
takes_due line d a none here = record {
  good = λ above is. record {
    once = free IsMomentOf (first_of (above name.Due)) d.due (is name.Due) none;
    range = refl;
    value = (a, here);
    few = refl;
    new = refl;
  };
  draft = λ above is. each above is;
}
  where
    each : (above : PropertyName → List Line) → IsDraftOf above d → (p : PropertyName) →
        Holds (record d { due = Some a }) p (more above name.Due line p)
    each above is name.Due = put IsMomentOf (above name.Due) line d.due a (is name.Due) none here
    each above is p = is p

pub takes_status : (line : Line) (d : Draft) (a : Status) → d.status ≡ None → IsStatusOf line a →
    Takes name.Status line d (record d { status = Some a })
takes_status line d a none here = record {
  good = λ above is. record {
    once = free IsStatusOf (first_of (above name.Status)) d.status (is name.Status) none;
    range = refl;
    value =
        (a, here);
    few = refl;
    new = refl;
  };
  draft = λ above is. each above is;
}
  where
    each : (above : PropertyName → List Line) → IsDraftOf above d → (p : PropertyName) →
        Holds (record d { status = Some a }) p (more above name.Status line p)
    each above is name.Status = put IsStatusOf (above name.Status) line d.status a (is name.Status) none here
    each above is p = is p

pub takes_percent : (line : Line) (d : Draft) (a : ℕ) → d.percent ≡ None → IsPercentOf line a →
    Takes name.PercentComplete line d (record d { percent = Some a })
takes_percent line d a none here = record {
  good = λ above is. record {
    once = free IsPercentOf (first_of (above name.PercentComplete)) d.percent (is name.PercentComplete) none;
    range = refl;
    value = (a, here);
    few = refl;
    new = refl;
  };
  draft = λ above is. each above is;
}
  where
    each : (above : PropertyName → List Line) → IsDraftOf above d → (p : PropertyName) →
        Holds (record d { percent = Some a }) p (more above name.PercentComplete line p)
    each above is name.PercentComplete = put IsPercentOf (above name.PercentComplete) line d.percent a (is name.PercentComplete) none here
    each above is p = is p

pub takes_priority : (line : Line) (d : Draft) (a : ℕ) → d.priority ≡ None → IsPriorityOf line a →
    Takes name.Priority line d (record d { priority = Some a })
takes_priority line d a none here = record {
  good = λ above is. record {
    once = free IsPriorityOf (first_of (above name.Priority)) d.priority (is name.Priority) none;
    range = refl;
    value = (a, here);
    few = refl;
    new = refl;
  };
  draft = λ above is. each above is;
}
  where
    each : (above : PropertyName → List Line) → IsDraftOf above d → (p : PropertyName) →
        Holds (record d { priority = Some a }) p (more above name.Priority line p)
    each above is name.Priority = put IsPriorityOf (above name.Priority) line d.priority a (is name.Priority) none here
    each above is p = is p

pub takes_summary : (line : Line) (d : Draft) (a : Property) → d.summary ≡ None → IsPropertyOf line a →
    Takes name.Summary line d (record d { summary = Some a })
takes_summary line d a none here = record {
  good = λ above is. record {
    once = free IsPropertyOf (first_of (above name.Summary)) d.summary (is name.Summary) none;
    range = refl;
    value = tt;
    few = refl;
    new = refl;
  };
  draft = λ above is. each above is;
}
  where
    each : (above : PropertyName → List Line) → IsDraftOf above d → (p : PropertyName) →
        Holds (record d { summary = Some a }) p (more above name.Summary line p)
    each above is name.Summary = put IsPropertyOf (above name.Summary) line d.summary a (is name.Summary) none here
    each above is p = is p

pub takes_organizer : (line : Line) (d : Draft) (a : Property) → d.organizer ≡ None → IsOrganizerOf line a →
    Takes name.Organizer line d (record d { organizer = Some a })
takes_organizer line d a none here = record {
  good = λ above is. record {
    once = free IsOrganizerOf (first_of (above name.Organizer)) d.organizer (is name.Organizer) none;
    range =
        refl;
    value = here.1;
    few = refl;
    new = refl;
  };
  draft = λ above is. each above is;
}
  where
    each : (above : PropertyName → List Line) → IsDraftOf above d → (p : PropertyName) →
        Holds (record d { organizer = Some a }) p (more above name.Organizer line p)
    each above is name.Organizer = put IsOrganizerOf (above name.Organizer) line d.organizer a (is name.Organizer) none here
    each above is p = is p
