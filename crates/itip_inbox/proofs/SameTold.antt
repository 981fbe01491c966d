-- Inputs that tell the same items have the same compaction, task lists, reports and news.
use Rattle.std.proofs.Common.{◌≡◌, ◌↔◌, ◌∙◌, sym, ap, ℕ, Bool, List, ◌++◌, inl, inr}
use Rattle.std.proofs.lemmas.List.Elements.{Contains-append_cases, Contains-append_left, Contains-append_right}
use Rattle.std.specs.List.{Contains}
use Rattle.itip_items.specs.declared.item.Item.{Item}
use Rattle.itip_state.specs.Kept.{SameItems}
use Rattle.itip_state.proofs.Keeping.{kept_iff}
use Rattle.itip_view.specs.Rows.{IsRow, AreTooMany}
use Rattle.itip_view.specs.declared.row.Row.{Row}
use Rattle.itip_view.specs.declared.window.Window.{Window}
use Rattle.itip_view.proofs.Alike.{KeepAlike, alike_back}
use Rattle.itip_view.proofs.OfKept.{row_of_same}
use Rattle.itip_view.proofs.SameAsked.{rows_same, many_same}
use Rattle.itip_desk.specs.DeltaFormat.{delta_octets}
use Rattle.itip_report.specs.declared.report_name.ReportName.{ReportName}
use Rattle.itip_report.proofs.NamedReports.{report_alike}
use Rattle.itip_inbox.specs.declared.refused.RefusedMessage.{RefusedMessage}
use Rattle.itip_inbox.specs.Inbox.{IsInbox}
use Rattle.itip_inbox.specs.Compaction.{IsCompaction, TellSameItems}
use Rattle.itip_inbox.specs.News.{AreLacking, IsNews}
use Rattle.itip_inbox.specs.Reports.{IsReported, IsReport}
use Rattle.itip_inbox.specs.TaskList.{IsListed, IsTaskList}
use Rattle.itip_inbox.proofs.NewsOf.{lacking_once}
use Rattle.itip_inbox.proofs.Outputs.{listed_once}
use Rattle.itip_inbox.proofs.Parts.{octets_of_same}
use Rattle.itip_inbox.proofs.Reporting.{reported_once}
use Rattle.itip_inbox.proofs.Telling.{heard_told}

module _ (inputs others : List (List ℕ)) (same : TellSameItems inputs others) where
  same_heard : (heard more : List Item) (refusals noted : List RefusedMessage) → IsInbox inputs heard refusals →
      IsInbox others more noted → SameItems heard more
  same_heard heard more refusals noted a b item = (
    λ h. (heard_told others more noted b item).1 ((same item).0 ((heard_told inputs heard refusals a item).0 h)),
    λ h. (heard_told inputs heard refusals a item).1 ((same item).1 ((heard_told others more noted b item).0 h)),
  )

  pub same_compaction : (octets again : List ℕ) (refused other : Bool) → IsCompaction inputs octets refused →
      IsCompaction others again other → again ≡ octets
  same_compaction octets again refused other a b =
      let are : SameItems a.heard b.heard = same_heard a.heard b.heard a.refusals b.refusals a.inbox b.inbox in
      sym (octets_of_same a.heard b.heard octets again (kept_iff a.heard b.heard are) a.kept b.kept)

-- ---- sets that keep the same

module _ (x y : List Item) (same : KeepAlike x y) (window : Window) where
  many_alike : AreTooMany x window → AreTooMany y window
  many_alike over = record {
    some = over.some;
    ascend = over.ascend;
    each = λ row h. row_of_same x y same window row (over.each row h);
    many = over.many;
  }

  reported_alike : (name : ReportName) (text : List ℕ) (refusal : Bool) → IsReported name x window text refusal →
      IsReported name y window text refusal
  reported_alike name text refusal (inl is) = inl (
    record { lines = is.0.lines; are_lines = report_alike x y same window name is.0.lines is.0.are_lines; text_is = is.0.text_is },
    is.1,
  )
  reported_alike name text refusal (inr is) = inr (is.0, many_alike is.1, is.2, is.3)

  module _ (octets : List Row → List ℕ) (P : Row → Type 0) where
    asked_alike : (row : Row) → (IsRow x window row × P row) ↔ (IsRow y window row × P row)
    asked_alike row = (
      λ h. (row_of_same x y same window row h.0, h.1),
      λ h. (row_of_same y x (alike_back x y same) window row h.0, h.1),
    )

    listed_alike : (text : List ℕ) (refusal : Bool) → IsListed octets P x window text refusal → IsListed octets P y window text refusal
    listed_alike text refusal (inl is) = inl (
      record {
        rows = is.0.rows;
        are_rows = rows_same P P x y window asked_alike is.0.rows is.0.are_rows;
        few = is.0.few;
        text_is = is.0.text_is;
      },
      is.1,
    )
    listed_alike text refusal (inr is) = inr (many_same P P x y window asked_alike is.0, is.1, is.2)

-- ---- lists and reports

module _ (inputs others : List (List ℕ)) (same : TellSameItems inputs others) (window : Window) (text again : List ℕ)
    (refused other : Bool) where
  pub same_list : (octets : Window → List Row → List ℕ) (P : Row → Type 0) → IsTaskList octets P inputs window text refused →
      IsTaskList octets P others window again other → again ≡ text
  same_list octets P a b =
      let are : SameItems a.heard b.heard = same_heard inputs others same a.heard b.heard a.refusals b.refusals a.inbox b.inbox in
      sym (listed_once (octets window) P b.heard window text again a.refusal b.refusal
      (listed_alike a.heard b.heard (kept_iff a.heard b.heard are) window (octets window) P text a.refusal a.is_text) b.is_text)

  pub same_report : (name : ReportName) → IsReport name inputs window text refused → IsReport name others window again other →
      again ≡ text
  same_report name a b =
      let are : SameItems a.heard b.heard = same_heard inputs others same a.heard b.heard a.refusals b.refusals a.inbox b.inbox in
      sym (reported_once name b.heard window text again a.refusal b.refusal
      (reported_alike a.heard b.heard (kept_iff a.heard b.heard are) window name text a.refusal a.is_text) b.is_text)

-- ---- news

half_of : (xs ys us vs : List Item) → SameItems xs us → SameItems ys vs → (i : Item) → Contains (xs ++ ys) i → Contains (us ++ vs) i
half_of xs ys us vs first later i h = elim (Contains-append_cases xs ys i h) [
  | inl there ↦ Contains-append_left us vs i ((first i).0 there)
  | inr there ↦ Contains-append_right us vs i ((later i).0 there)
]

module _ (told known heard more : List Item) (same_told : SameItems told known) (same_more : SameItems heard more) where
  both_same : SameItems (told ++ heard) (known ++ more)
  both_same i = (
    half_of told heard known more same_told same_more i,
    half_of known more told heard (λ j. ((same_told j).1, (same_told j).0)) (λ j. ((same_more j).1, (same_more j).0)) i,
  )

  lacking_same : (batch : List Item) → AreLacking told heard batch → AreLacking known more batch
  lacking_same batch lacks = record {
    ascend = lacks.ascend;
    same = λ i.
        let both = kept_iff (told ++ heard) (known ++ more) both_same i in
        let alone = kept_iff told known same_told i in (
          λ h. let new = (lacks.same i).0 h in (both.0 new.0, λ kept. new.1 (alone.1 kept)),
          λ h. (lacks.same i).1 (both.1 h.0, λ kept. h.1 (alone.0 kept)),
        );
  }

pub same_news : (than known inputs others : List (List ℕ)) (octets again : List ℕ) (refused other : Bool) → TellSameItems than known →
    TellSameItems inputs others → IsNews than inputs octets refused → IsNews known others again other → again ≡ octets
same_news than known inputs others octets again refused other of_than of_inputs a b =
    let told : SameItems a.told b.told = same_heard than known of_than a.told b.told a.noted b.noted a.known b.known in
    let heard : SameItems a.heard b.heard = same_heard inputs others of_inputs a.heard b.heard a.refusals b.refusals a.inbox b.inbox in
    b.octets_are ∙ ap delta_octets (lacking_once b.told b.heard b.batch a.batch b.lacking
    (lacking_same a.told b.told a.heard b.heard told heard a.batch a.lacking)) ∙ sym a.octets_are
