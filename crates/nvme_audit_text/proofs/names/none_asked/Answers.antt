use Rattle.std.proofs.Common.{refl}
use Rattle.nvme_audit_text.specs.Audits.{asked_in}
use Rattle.nvme_audit_text.proofs.names.none_asked.Goals as goal

pub returns : goal.returns
unfolding asked_in
returns c = λ start. rw (c.none.ensures, c.none-2.ensures, c.none-3.ensures, c.none-4.ensures, c.none-5.ensures, c.none-6.ensures, c.none-7.ensures, c.none-8.ensures, c.none-9.ensures, c.none-10.ensures, c.none-11.ensures, c.none-12.ensures, c.none-13.ensures, c.none-14.ensures, c.none-15.ensures, c.none-16.ensures, c.none-17.ensures) refl
