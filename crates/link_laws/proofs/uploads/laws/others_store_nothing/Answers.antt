use Rattle.link_laws.proofs.uploads.UploadLaws.{others_of_history}
use Rattle.link_laws.proofs.uploads.laws.others_store_nothing.Goals as goal

pub returns : goal.returns
returns c = others_of_history
