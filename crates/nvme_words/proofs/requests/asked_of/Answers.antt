use Rattle.std.proofs.Common.{◌∙◌, inl, refl, sym, subst, ⊎_elim, inr}
use Rattle.clap.specs.Words.{IsAmong}
use Rattle.nvme_words.specs.declared.requests.Request.{Request}
use Rattle.nvme_words.specs.CommandLine.{command_line}
use Rattle.nvme_words.specs.Requests.{IsGivenBy}
use Rattle.nvme_words.proofs.Answering.{free, given_in, same_faults, some_names, text_answers}
use Rattle.nvme_words.proofs.requests.asked_of.Goals as goal

pub returns-in_default-clause-answer : goal.returns-in_default-clause-answer
returns-in_default-clause-answer c = (some_names, refl, tt)

pub returns-in-Some-clause-answer : goal.returns-in-Some-clause-answer
returns-in-Some-clause-answer c =
    let line = c.in-Ok.ensures in
    let words = c.args.words.now in
    let parsed = c.in-Ok-try_get_matches_from.ensures in
    let none = sym (same_faults _ line.0 line.2 words) ∙ parsed.kinds (free _ line.0 line.2 words) in
    let given = given_in _ line.0 line.2 words _ parsed.matches in
    (line.0, line.1, inl (none, subst (λ g. IsGivenBy words g c.in-Some.request) given c.in-Some.ensures.given))

pub returns-in-Ok-try_get_matches_from-clause-answer : goal.returns-in-Ok-try_get_matches_from-clause-answer
returns-in-Ok-try_get_matches_from-clause-answer c =
    let line = c.in-Ok.ensures in
    let words = c.args.words.now in
    let parsed = c.in-Ok-try_get_matches_from.ensures in
    let none = sym (same_faults _ line.0 line.2 words) ∙ parsed.kinds (free _ line.0 line.2 words) in
    let given = given_in _ line.0 line.2 words _ parsed.matches in
    (line.0, line.1, (none, subst (λ g. (r : Request) → IsGivenBy words g r → ⊥) given c.in-None.ensures.given))

pub returns-clause-answer : goal.returns-clause-answer
returns-clause-answer c =
    let line = c.in-Ok.ensures in
    let words = c.args.words.now in
    let kinds = c.in-Err.ensures.kinds (free _ line.0 line.2 words) in
    let faults = same_faults _ line.0 line.2 words in
    (line.0, line.1, text_answers (command_line line.0) words _ _ (⊎_elim inl (λ h. inr (subst (IsAmong _) faults h)) kinds) c.refused.ensures.answer)
