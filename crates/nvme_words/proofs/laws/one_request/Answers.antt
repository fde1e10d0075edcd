use Rattle.std.proofs.Common.{codes, refl, arith}
use Rattle.nvme_words.proofs.OneRequest.{none_of_once, none_of_workers, one_request}
use Rattle.nvme_words.proofs.laws.one_request.Goals as goal

pub returns-clause-one : goal.returns-clause-one
returns-clause-one c = one_request

pub returns-clause-letters : goal.returns-clause-letters
returns-clause-letters c = none_of_once (codes "x") (λ h. omega (arith, h.0.1.0))

pub returns-clause-blocks : goal.returns-clause-blocks
returns-clause-blocks c = none_of_once (codes "18446744073709551616") (λ h. omega (arith, h.1))

pub returns-clause-workers : goal.returns-clause-workers
returns-clause-workers c = none_of_workers (codes "run") (codes "256") refl refl refl refl refl refl refl (λ h. omega (arith, h.1))

pub returns-clause-traced : goal.returns-clause-traced
returns-clause-traced c = none_of_workers (codes "trace") (codes "-") refl refl refl refl refl refl refl (λ h. omega (arith, h.0.1.0))
