use Rattle.std.proofs.Common.{refl}
use Rattle.nvme_audit_text.specs.declared.views.Observer.TheVariants.{Bus, Host}
use Rattle.nvme_audit_text.specs.Laws.{ObserversSeeNoPicks}
use Rattle.nvme_audit_text.specs.Views.{view_of}
use Rattle.nvme_audit_text.proofs.HeardLemmas.{no_mechanism, no_picks}
use Rattle.nvme_audit_text.proofs.laws.picks_are_told_with_a_mechanism.Goals as goal

see_none : ObserversSeeNoPicks
see_none Bus head lines = no_picks (view_of Bus) head lines refl
see_none Host head lines = no_picks (view_of Host) head lines refl

pub returns-clause-mechanism : goal.returns-clause-mechanism
returns-clause-mechanism c = no_mechanism

pub returns-clause-observers : goal.returns-clause-observers
returns-clause-observers c = see_none
