use Rattle.std.proofs.Common.{rules, ◌≡◌, None}
use Rattle.nvme_words.proofs.requests.numbers_of.Goals as goal

pub returns-in_err-range : goal.returns-in_err-range
returns-in_err-range c =
    let none : c.range_of.result ≡ None = search rules in
    let left : c.from_residual.result ≡ None = search rules in
    rw left (λ numbers are. rw none at c.range_of.ensures numbers.range are.0)

pub returns-in_err-window : goal.returns-in_err-window
returns-in_err-window c =
    let none : c.window_of.result ≡ None = search rules in
    let left : c.from_residual-in_err-window.result ≡ None = search rules in
    rw left (λ numbers are. rw none at c.window_of.ensures numbers.window are.1)
