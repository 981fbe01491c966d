use Rattle.std.proofs.Common.{◌≡◌, ◌++◌, ◌∙◌, ℕ, List, map, ap}
use Rattle.std.specs.Prelude.{MatchOption}
use Rattle.std.specs.List.{flat_map}
use Rattle.itip_items.specs.declared.item.Item.{Item}
use Rattle.itip_view.specs.Standing.{IsLiveSeries}
use Rattle.itip_report.specs.Resending.{AreResent}
use Rattle.itip_report.proofs.Mapped.{flat_map_mapped}
use Rattle.itip_report.proofs.sent_again.resend_of.Goals as goal

pub returns : goal.returns
returns c =
    let items : List Item = c.args.items.now.items in
    let uid : List ℕ = c.args.items.now.uid in
    let found : MatchOption c.in_ok-resent.field-0 ((item : Item) → ¬ IsLiveSeries items uid item)
    (λ r. AreResent items uid r.series.now (map (λ item. item.now) r.overrides.items)) = c.in_ok-resent.ensures in
    let are : AreResent items uid c.in-Some.resent.series.now (map (λ item. item.now) c.in-Some.resent.overrides.items) =
    rw c.in-Some.is at found in
    let front : c.append_to.new.out.items ≡ c.in-Some.resent.series.now.bytes =
    c.in_ok-append_to.ensures.ok ∙ ap (λ (old : List ℕ). old ++ c.in-Some.resent.series.now.bytes) c.new-messages.ensures.items in
    let back : flat_map (λ item. item.now.bytes) c.deref.result.now ≡ flat_map (λ (item : Item). item.bytes)
    (map (λ item. item.now) c.in-Some.resent.overrides.items) =
    ap (flat_map (λ item. item.now.bytes)) c.deref.ensures.value ∙
    flat_map_mapped (λ (item : Item). item.bytes) (λ item. item.now) c.in-Some.resent.overrides.items in
    record {
      series = c.in-Some.resent.series.now;
      live = are.live;
      overrides = map (λ item. item.now) c.in-Some.resent.overrides.items;
      standing = are.standing;
      bytes_are = c.in_ok-put_messages.ensures ∙ (λ i. front i ++ back i);
    }
