use Rattle.std.proofs.Common.{◌≡◌, ◌∙◌, Some, sym, arith}
use Rattle.nvme_arbiter.specs.declared.settings.Class.TheVariants.{Admin}
use Rattle.nvme_simulation.proofs.hosts.shows_admin.Goals as goal

pub returns : goal.returns
returns c t =
    let told : c.seen.result ≡ Some (record { qid = 0; class = Admin; count = 0 }) = grind (arith, t, c.eq.ensures) in
    λ rules late notes s. sym (c.seen.ensures rules late notes s) ∙ told
