use Rattle.run_laws.proofs.calm.ReportLemmas.{reports_alike}
use Rattle.run_laws.proofs.calm.laws.calm_reports_are_alike.Goals as goal

pub returns : goal.returns
returns c = reports_alike
