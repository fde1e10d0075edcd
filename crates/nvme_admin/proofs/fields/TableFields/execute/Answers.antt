use Rattle.std.proofs.Common.{rules}
use Rattle.nvme_entry.specs.Status.{invalid_field}
use Rattle.nvme_admin.specs.declared.verdict.Verdict.TheVariants.{Done}
use Rattle.nvme_admin.proofs.Applied.{Applies-alone, Applies-fused, status_of-applied, dw0_of-applied, AppliesTo-alone, AppliesTo-fused}
use Rattle.nvme_admin.proofs.PlaceLemmas.{sized-in}
use Rattle.nvme_admin.specs.Layout.{view_of}
use Rattle.nvme_admin.specs.Effects.{verdict_in}
use Rattle.nvme_admin.proofs.fields.TableFields.execute.Goals as goal

pub returns-then-fuse-ne0-clause-stands : goal.returns-then-fuse-ne0-clause-stands
returns-then-fuse-ne0-clause-stands c = λ start h s.
    (Applies-fused start h (view_of c.args.self.now) c.args.entry.now c.fuse.result c.fuse.ensures c.if-fuse-ne0.true s).stands

pub returns-then-fuse-ne0-clause-verdict : goal.returns-then-fuse-ne0-clause-verdict
returns-then-fuse-ne0-clause-verdict c = λ start h s.
    (Applies-fused start h (view_of c.args.self.now) c.args.entry.now c.fuse.result c.fuse.ensures c.if-fuse-ne0.true s).is

pub returns-then-fuse-ne0-clause-status : goal.returns-then-fuse-ne0-clause-status
returns-then-fuse-ne0-clause-status c = λ start h s. status_of-applied start h (view_of c.args.self.now) c.args.entry.now (Done invalid_field 0)
    (Applies-fused start h (view_of c.args.self.now) c.args.entry.now c.fuse.result c.fuse.ensures c.if-fuse-ne0.true s)

pub returns-then-fuse-ne0-clause-dw0 : goal.returns-then-fuse-ne0-clause-dw0
returns-then-fuse-ne0-clause-dw0 c = λ start h s. dw0_of-applied start h (view_of c.args.self.now) c.args.entry.now (Done invalid_field 0)
    (Applies-fused start h (view_of c.args.self.now) c.args.entry.now c.fuse.result c.fuse.ensures c.if-fuse-ne0.true s)

pub returns-clause-verdict : goal.returns-clause-verdict
returns-clause-verdict c = λ start h s.
    (Applies-alone start h (view_of c.args.self.now) (view_of c.run-effect.new.self) c.args.entry.now (verdict_in c.run-effect.result) c.admin_of.result c.fuse.result c.admin_of.ensures c.fuse.ensures c.if-fuse-ne0.false c.run-effect.ensures.does s).is

pub returns-clause-status : goal.returns-clause-status
returns-clause-status c = λ start h s. status_of-applied start h (view_of c.run-effect.new.self) c.args.entry.now (verdict_in c.run-effect.result)
    (Applies-alone start h (view_of c.args.self.now) (view_of c.run-effect.new.self) c.args.entry.now (verdict_in c.run-effect.result) c.admin_of.result c.fuse.result c.admin_of.ensures c.fuse.ensures c.if-fuse-ne0.false c.run-effect.ensures.does s)

pub returns-clause-dw0 : goal.returns-clause-dw0
returns-clause-dw0 c = λ start h s. dw0_of-applied start h (view_of c.run-effect.new.self) c.args.entry.now (verdict_in c.run-effect.result)
    (Applies-alone start h (view_of c.args.self.now) (view_of c.run-effect.new.self) c.args.entry.now (verdict_in c.run-effect.result) c.admin_of.result c.fuse.result c.admin_of.ensures c.fuse.ensures c.if-fuse-ne0.false c.run-effect.ensures.does s)

pub returns-clause-stands : goal.returns-clause-stands
returns-clause-stands c = λ start h s.
    (Applies-alone start h (view_of c.args.self.now) (view_of c.run-effect.new.self) c.args.entry.now (verdict_in c.run-effect.result) c.admin_of.result c.fuse.result c.admin_of.ensures c.fuse.ensures c.if-fuse-ne0.false c.run-effect.ensures.does s).stands

pub returns-then-fuse-ne0-clause-checked : goal.returns-then-fuse-ne0-clause-checked
returns-then-fuse-ne0-clause-checked c = (AppliesTo-fused (view_of c.args.self.now) c.args.entry.now c.fuse.result c.fuse.ensures c.if-fuse-ne0.true).checked

pub returns-then-fuse-ne0-clause-answered : goal.returns-then-fuse-ne0-clause-answered
returns-then-fuse-ne0-clause-answered c = (AppliesTo-fused (view_of c.args.self.now) c.args.entry.now c.fuse.result c.fuse.ensures c.if-fuse-ne0.true).answered

pub returns-then-fuse-ne0-clause-accepted : goal.returns-then-fuse-ne0-clause-accepted
returns-then-fuse-ne0-clause-accepted c = (AppliesTo-fused (view_of c.args.self.now) c.args.entry.now c.fuse.result c.fuse.ensures c.if-fuse-ne0.true).accepted

pub returns-clause-checked : goal.returns-clause-checked
returns-clause-checked c =
    (AppliesTo-alone (view_of c.args.self.now) (view_of c.run-effect.new.self) c.args.entry.now (verdict_in c.run-effect.result) c.admin_of.result c.fuse.result c.admin_of.ensures c.fuse.ensures c.if-fuse-ne0.false c.run-effect.ensures.does).checked

pub returns-clause-answered : goal.returns-clause-answered
returns-clause-answered c =
    (AppliesTo-alone (view_of c.args.self.now) (view_of c.run-effect.new.self) c.args.entry.now (verdict_in c.run-effect.result) c.admin_of.result c.fuse.result c.admin_of.ensures c.fuse.ensures c.if-fuse-ne0.false c.run-effect.ensures.does).answered

pub returns-clause-accepted : goal.returns-clause-accepted
returns-clause-accepted c =
    (AppliesTo-alone (view_of c.args.self.now) (view_of c.run-effect.new.self) c.args.entry.now (verdict_in c.run-effect.result) c.admin_of.result c.fuse.result c.admin_of.ensures c.fuse.ensures c.if-fuse-ne0.false c.run-effect.ensures.does).accepted

pub returns-then-fuse-ne0-clause-sized : goal.returns-then-fuse-ne0-clause-sized
returns-then-fuse-ne0-clause-sized c = sized-in c.args.self.now (search rules) (search rules) (search rules) (search rules)
