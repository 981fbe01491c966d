use Rattle.std.proofs.Common.{ℕ, List}
use Rattle.itip_inbox.specs.Inbox.{AreInputs}
use Rattle.itip_words.specs.declared.filter.Format.TheVariants as format
use Rattle.itip_app.specs.Filtered.{WritesList, WritesListFront, octets_in}
use Rattle.itip_app.proofs.Filtering.{as_asked, front_asked}
use Rattle.itip_app.proofs.filters.write_list.Goals as goal

pub returns-in-Text-clause-output : goal.returns-in-Text-clause-output
returns-in-Text-clause-output g c =
    as_asked (λ f outcome. (inputs : List (List ℕ)) → AreInputs g.I.Read.remaining c.args.sources.items inputs →
    WritesList (octets_in f) c.args.asked.now inputs (g.W.Write.contents c.args.writer.now)
    (g.W.Write.contents c.write_form.new.writer) outcome)
    format.Text c.args.asked.now.format c.write_form.result c.in-Text.is c.write_form.ensures.output

pub returns-in-Text-clause-front : goal.returns-in-Text-clause-front
returns-in-Text-clause-front g c =
    front_asked (λ f. (inputs : List (List ℕ)) → AreInputs g.I.Read.remaining c.args.sources.items inputs →
    WritesListFront (octets_in f) c.args.asked.now inputs (g.W.Write.contents c.args.writer.now)
    (g.W.Write.contents c.write_form.new.writer))
    format.Text c.args.asked.now.format c.write_form.result c.in-Text.is c.write_form.ensures.front

pub returns-in-Html-clause-output : goal.returns-in-Html-clause-output
returns-in-Html-clause-output g c =
    as_asked (λ f outcome. (inputs : List (List ℕ)) → AreInputs g.I.Read.remaining c.args.sources.items inputs →
    WritesList (octets_in f) c.args.asked.now inputs (g.W.Write.contents c.args.writer.now)
    (g.W.Write.contents c.write_form-in-Html.new.writer) outcome)
    (format.Html c.in-Html.today) c.args.asked.now.format c.write_form-in-Html.result c.in-Html.is c.write_form-in-Html.ensures.output

pub returns-in-Html-clause-front : goal.returns-in-Html-clause-front
returns-in-Html-clause-front g c =
    front_asked (λ f. (inputs : List (List ℕ)) → AreInputs g.I.Read.remaining c.args.sources.items inputs →
    WritesListFront (octets_in f) c.args.asked.now inputs (g.W.Write.contents c.args.writer.now)
    (g.W.Write.contents c.write_form-in-Html.new.writer))
    (format.Html c.in-Html.today) c.args.asked.now.format c.write_form-in-Html.result c.in-Html.is c.write_form-in-Html.ensures.front

pub returns-in-Csv-clause-output : goal.returns-in-Csv-clause-output
returns-in-Csv-clause-output g c =
    as_asked (λ f outcome. (inputs : List (List ℕ)) → AreInputs g.I.Read.remaining c.args.sources.items inputs →
    WritesList (octets_in f) c.args.asked.now inputs (g.W.Write.contents c.args.writer.now)
    (g.W.Write.contents c.write_form-in-Csv.new.writer) outcome)
    format.Csv c.args.asked.now.format c.write_form-in-Csv.result c.in-Csv.is c.write_form-in-Csv.ensures.output

pub returns-in-Csv-clause-front : goal.returns-in-Csv-clause-front
returns-in-Csv-clause-front g c =
    front_asked (λ f. (inputs : List (List ℕ)) → AreInputs g.I.Read.remaining c.args.sources.items inputs →
    WritesListFront (octets_in f) c.args.asked.now inputs (g.W.Write.contents c.args.writer.now)
    (g.W.Write.contents c.write_form-in-Csv.new.writer))
    format.Csv c.args.asked.now.format c.write_form-in-Csv.result c.in-Csv.is c.write_form-in-Csv.ensures.front

pub returns-in-Json-clause-output : goal.returns-in-Json-clause-output
returns-in-Json-clause-output g c =
    as_asked (λ f outcome. (inputs : List (List ℕ)) → AreInputs g.I.Read.remaining c.args.sources.items inputs →
    WritesList (octets_in f) c.args.asked.now inputs (g.W.Write.contents c.args.writer.now)
    (g.W.Write.contents c.write_form-in-Json.new.writer) outcome)
    format.Json c.args.asked.now.format c.write_form-in-Json.result c.in-Json.is c.write_form-in-Json.ensures.output

pub returns-in-Json-clause-front : goal.returns-in-Json-clause-front
returns-in-Json-clause-front g c =
    front_asked (λ f. (inputs : List (List ℕ)) → AreInputs g.I.Read.remaining c.args.sources.items inputs →
    WritesListFront (octets_in f) c.args.asked.now inputs (g.W.Write.contents c.args.writer.now)
    (g.W.Write.contents c.write_form-in-Json.new.writer))
    format.Json c.args.asked.now.format c.write_form-in-Json.result c.in-Json.is c.write_form-in-Json.ensures.front
