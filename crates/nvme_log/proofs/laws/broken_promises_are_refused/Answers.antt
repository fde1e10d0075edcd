use Rattle.nvme_log.proofs.BrokenPromises.{unclosed_at_once, unclosed_fetched, too_many, unasked_at_once, unasked_lawful, unasked_observed, missing, early, late}
use Rattle.nvme_log.proofs.laws.broken_promises_are_refused.Goals as goal

pub returns : goal.returns
returns c = record {
  unclosed = λ h. unclosed_fetched h.none_after_delete;
  fetched_after_answer = unclosed_fetched;
  answered_unclosed = unclosed_at_once;
  collected_too_many = λ h. too_many h.nothing_else;
  unasked = λ h. unasked_at_once h.effects_at_once.1.1.1.1.1.1.1.1.1;
  set_by_no_command = unasked_at_once;
  lawful_then = unasked_lawful;
  observed_then = unasked_observed;
  one_abort_missing = λ h. missing h.effects_whole;
  answered_early = early;
  aborted_late = late;
}
