use Rattle.nvme_trace.proofs.SurveyLemmas.{lawful_survey}
use Rattle.nvme_trace.proofs.laws.surveys_of_none_are_lawful.Goals as goal

pub returns : goal.returns
returns c = lawful_survey
