use Rattle.link_laws.proofs.uploads.UploadLaws.{uploads_of_history}
use Rattle.link_laws.proofs.uploads.laws.uploads_join.Goals as goal

pub returns : goal.returns
returns c = uploads_of_history
