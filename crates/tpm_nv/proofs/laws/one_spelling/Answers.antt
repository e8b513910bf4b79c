use Rattle.tpm_nv.proofs.AreaLaws.{one_public, one_content}
use Rattle.tpm_nv.proofs.laws.one_spelling.Goals as goal

pub returns : goal.returns
returns c = record { public = one_public; content = one_content }
