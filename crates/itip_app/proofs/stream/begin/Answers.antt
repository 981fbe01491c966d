use Rattle.itip_app.specs.Streamed.Begins.{of_file}
use Rattle.itip_app.proofs.stream.begin.Goals as goal

pub returns-in-Ok-clause-begins : goal.returns-in-Ok-clause-begins
returns-in-Ok-clause-begins g c =
    let told = c.in-Ok.ensures.told in
    of_file c.in-Some.file.now told.0 c.in-Some.ensures.named told.1 told.2
