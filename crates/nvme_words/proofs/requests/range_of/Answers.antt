use Rattle.std.proofs.Common.{rules, ◌≡◌, None}
use Rattle.nvme_words.proofs.requests.range_of.Goals as goal

pub returns-in_err-first : goal.returns-in_err-first
returns-in_err-first c =
    let none : c.first_of.result ≡ None = search rules in
    let left : c.from_residual.result ≡ None = search rules in
    rw left (λ range is. rw none at c.first_of.ensures range.first is.0)

pub returns-in_err-last : goal.returns-in_err-last
returns-in_err-last c =
    let none : c.last_of.result ≡ None = search rules in
    let left : c.from_residual-in_err-last.result ≡ None = search rules in
    rw left (λ range is. rw none at c.last_of.ensures range.last is.1)
