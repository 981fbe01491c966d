use Rattle.itip_app.specs.Ended.EndsCall.{of_run, of_stream, of_office, of_check, of_filter}
use Rattle.itip_app.proofs.run.call_on.Goals as goal

pub returns-in-Run-clause-ends : goal.returns-in-Run-clause-ends
returns-in-Run-clause-ends g c = of_run c.in-Run.scripted c.in-Run.is c.run.ensures

pub returns-in-Stream-clause-ends : goal.returns-in-Stream-clause-ends
returns-in-Stream-clause-ends g c = of_stream c.in-Stream.streamed c.in-Stream.is c.stream.ensures

pub returns-in-Office-clause-ends : goal.returns-in-Office-clause-ends
returns-in-Office-clause-ends g c = of_office c.in-Office.scripted c.in-Office.workers c.in-Office.is c.office.ensures

pub returns-in-Check-clause-ends : goal.returns-in-Check-clause-ends
returns-in-Check-clause-ends g c = of_check _ c.in-Check.is c.show.ensures

pub returns-in-Filter-clause-ends : goal.returns-in-Filter-clause-ends
returns-in-Filter-clause-ends g c = of_filter c.in-Filter.filter c.in-Filter.is c.filtered.ensures
