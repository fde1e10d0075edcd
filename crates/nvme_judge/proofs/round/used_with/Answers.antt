use Rattle.std.proofs.Common.{◌≡◌, ◌+◌, ◌<◌, None, rules}
use Rattle.nvme_arbiter.specs.Settings.{weight_of}
use Rattle.nvme_arbiter.specs.declared.settings.Class.TheVariants.{High, Medium, Low}
use Rattle.nvme_judge.specs.inside.Steps.{taken_of}
use Rattle.nvme_judge.proofs.RoundLemmas.{too_much}
use Rattle.nvme_judge.proofs.round.used_with.Goals as goal

pub returns-in_err-high : goal.returns-in_err-high
returns-in_err-high c =
    let much : weight_of c.args.settings.now High < c.args.used.high + taken_of High c.args.class c.args.n = search rules in
    let none : c.from_residual.result ≡ None = search rules in
    rw none (too_much c.args.settings.now c.args.used c.args.class c.args.n High tt much)

pub returns-in_err-medium : goal.returns-in_err-medium
returns-in_err-medium c =
    let much : weight_of c.args.settings.now Medium < c.args.used.medium + taken_of Medium c.args.class c.args.n = search rules in
    let none : c.from_residual-in_err-medium.result ≡ None = search rules in
    rw none (too_much c.args.settings.now c.args.used c.args.class c.args.n Medium tt much)

pub returns-in_err-low : goal.returns-in_err-low
returns-in_err-low c =
    let much : weight_of c.args.settings.now Low < c.args.used.low + taken_of Low c.args.class c.args.n = search rules in
    let none : c.from_residual-in_err-low.result ≡ None = search rules in
    rw none (too_much c.args.settings.now c.args.used c.args.class c.args.n Low tt much)
