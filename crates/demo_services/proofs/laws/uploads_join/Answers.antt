use Rattle.demo_services.proofs.UploadLemmas as upload_lemmas
use Rattle.demo_services.proofs.laws.uploads_join.Goals as goal

pub returns : goal.returns
returns c = upload_lemmas.uploads_join
