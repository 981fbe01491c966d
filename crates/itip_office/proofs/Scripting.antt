-- A script of jobs from its reading to what was written.
use Rattle.std.proofs.Common.{◌≡◌, ℕ, ◌≤◌, ◌<◌, Bool, true, List, ◌++◌, length, refl, inl, inr, subst, Option, Some, None, Result, Ok}
use Rattle.std.proofs.Common.{Err}
use Rattle.std.specs.Prelude.{IfSome, IfOk, OnErr, IsPermutation}
use Rattle.std.specs.List.Sorted.{IsNonDecreasingBy}
use Rattle.std.specs.Io.KnownBytes.{Appends}
use Rattle.std.proofs.KnownBytes.{Appends-nil}
use Rattle.itip_streams.specs.Written.{AppendsFront, WritesOutput}
use Rattle.itip_view.specs.declared.window.Window.{Window}
use Rattle.itip_desk.specs.Desk.{Shown}
use Rattle.itip_desk.specs.Refusals.{refused_text}
use Rattle.itip_desk.specs.declared.refusal.Refusal.{Refusal}
use Rattle.itip_script.specs.Jobs.{errands_of}
use Rattle.itip_office.specs.declared.job.Job.{Job}
use Rattle.itip_office.specs.declared.outcome.Outcome.{Outcome}
use Rattle.itip_office.specs.Ended.{HasEnded}
use Rattle.itip_office.specs.Scripts.{jobs_from, others_from, refused_of, IsEndedText, WritesEndedFront, EndsWith, IsScriptOutput}
use Rattle.itip_office.specs.Scripts.{WritesScriptFront}

pub on_err : {T E P : Type 0} (r : Result T E) → P → OnErr r P
on_err (Ok x) p = tt
on_err (Err e) p = p

pub ok_weaker : {T E : Type 0} (r : Result T E) (P Q : T → Type 0) → ((x : T) → P x → Q x) → IfOk r P → IfOk r Q
ok_weaker (Ok x) P Q f p = f x p
ok_weaker (Err e) P Q f p = tt

pub known : (r : Option (List ℕ)) (P : List ℕ → Type 0) → ((xs : List ℕ) → P xs) → IfSome r P
known (Some xs) P all = all xs
known None P all = tt

-- what holds of the script that was read holds of what was there to read
pub known_script : (r : Option (List ℕ)) (script : List ℕ) (P : List ℕ → Type 0) → IfSome r (λ input. script ≡ input) → P script →
    IfSome r P
known_script (Some xs) script P is p = subst P is p
known_script None script P is p = tt

pub known_long : (r : Option (List ℕ)) (P : List ℕ → Type 0) → IfSome r (λ input. 16777216 < length input) →
    ((xs : List ℕ) → 16777216 < length xs → P xs) → IfSome r P
known_long (Some xs) P long all = all xs long
known_long None P long all = tt

-- nothing was written
pub nothing_written : (window : Window) (desks : ℕ) (old : Option (List ℕ)) (r : Option (List ℕ)) →
    IfSome r (WritesScriptFront window desks old old)
nothing_written window desks old r = known r (WritesScriptFront window desks old old) (λ script. inl (Appends-nil old))

-- a script over the limit
pub long_written : (window : Window) (desks : ℕ) (old new : Option (List ℕ)) (refusal : Bool) (r : Option (List ℕ)) →
    IfSome r (λ input. 16777216 < length input) → refusal ≡ true → Appends old new (refused_text 61)
    → IfSome r (λ script. WritesOutput (IsScriptOutput window desks script) old new refusal)
long_written window desks old new refusal r long is appended =
    known_long r (λ script. WritesOutput (IsScriptOutput window desks script) old new refusal) long
    (λ script over. record { output = refused_text 61; is_output = inr (over, refl, is); appended = appended })

pub long_front : (window : Window) (desks : ℕ) (old new : Option (List ℕ)) (r : Option (List ℕ)) →
    IfSome r (λ input. 16777216 < length input) → AppendsFront old new (refused_text 61) → IfSome r (WritesScriptFront window desks old new)
long_front window desks old new r long front =
    known_long r (WritesScriptFront window desks old new) long (λ script over. inr (inr (over, front)))

pub ends_with : (window : Window) (desks : ℕ) (script : List ℕ) (jobs : List Job) (others refused : List (ℕ × Refusal))
    (replies : List (ℕ × Outcome)) (ended : List Shown) → jobs ≡ jobs_from window 0 (errands_of script)
    → others ≡ others_from window 0 (errands_of script) → HasEnded desks jobs replies ended →
    IsPermutation (others ++ refused_of replies) refused →
    IsNonDecreasingBy (λ (r : ℕ × Refusal). r.0) refused
    → EndsWith window desks (errands_of script) refused ended
ends_with window desks script jobs others refused replies ended jobs_are others_are has_ended refused_are ascend = record {
  replies = replies;
  has_ended = subst (λ (js : List Job). HasEnded desks js replies ended) jobs_are has_ended;
  refused_are = subst (λ (os : List (ℕ × Refusal)). IsPermutation (os ++ refused_of replies) refused) others_are refused_are;
  ascend = ascend;
}

module _ (window : Window) (desks : ℕ) (script : List ℕ) (refused : List (ℕ × Refusal)) (ended : List Shown)
    (ends : EndsWith window desks (errands_of script) refused ended) (old new : Option (List ℕ)) (r : Option (List ℕ))
    (read : IfSome r (λ input. script ≡ input)) (short : length script ≤ 16777216)
  where
    pub all_written : (refusal : Bool) → WritesOutput (IsEndedText window refused ended) old new refusal →
        IfSome r (λ input. WritesOutput (IsScriptOutput window desks input) old new refusal)
    all_written refusal writes =
        known_script r script (λ input. WritesOutput (IsScriptOutput window desks input) old new refusal) read (record {
          output = writes.output;
          is_output = inl (short, record { refused = refused; ended = ended; ends = ends; is_text = writes.is_output });
          appended = writes.appended;
        })

    pub front_written : WritesEndedFront window old new refused ended → IfSome r (WritesScriptFront window desks old new)
    front_written front =
        known_script r script (WritesScriptFront window desks old new) read
        (inr (inl (short, record { refused = refused; ended = ended; ends = ends; front = front })))
