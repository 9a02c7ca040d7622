use Rattle.ep_words.proofs.SettingLaws.{one_job}
use Rattle.ep_words.proofs.read.one_job_for_words.Goals as goal

pub returns : goal.returns
returns c = one_job
