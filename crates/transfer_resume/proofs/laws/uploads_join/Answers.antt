use Rattle.transfer_resume.proofs.UploadLaws.{all_are_uploads}
use Rattle.transfer_resume.proofs.laws.uploads_join.Goals as goal

pub returns : goal.returns
returns c = all_are_uploads
