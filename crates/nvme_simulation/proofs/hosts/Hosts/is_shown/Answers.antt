use Rattle.std.proofs.Common.{◌≡◌, ◌∙◌, ◌<◌, length, Option, Some, sym, ap, subst, rules, arith}
use Rattle.std.specs.Prelude.{IfSome, slice_get}
use Rattle.nvme_arbiter.specs.declared.settings.Class.{Class}
use Rattle.nvme_simulation.specs.Beginnings.{Shows, qid_at}
use Rattle.nvme_simulation.specs.declared.host.Host.{Host}
use Rattle.nvme_simulation.proofs.Hosted.{held}
use Rattle.nvme_simulation.proofs.hosts.Hosts.is_shown.Goals as goal

pub returns : goal.returns
returns c t =
    let within : c.args.place < length c.args.self.now.all.items = search rules in
    let at : slice_get c.args.self.now.all.items c.args.place ≡ Some c.index.result.now = held _ _ _ within c.index.ensures in
    let told : c.seen.result ≡ Some (record { qid = qid_at c.args.place; class = c.class.result; count = 0 }) = grind (arith, t, c.eq.ensures) in
    let seen : c.seen.result ≡ Some (record { qid = qid_at c.args.place; class = c.index.result.now.class; count = 0 }) =
    told ∙ ap (λ (k : Class). Some (record { qid = qid_at c.args.place; class = k; count = 0 })) c.class.ensures in
    subst (λ (o : Option Host). IfSome o (λ h. Shows c.args.front.now (qid_at c.args.place) h.class)) (sym at)
    (λ r late notes s. sym (c.seen.ensures r late notes s) ∙ seen)
