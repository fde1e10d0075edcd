use Rattle.std.proofs.Common.{rules, ◌≡◌, ◌∙◌, Some, sym, codes, option_map}
use Rattle.clap.specs.Words.{found_of}
use Rattle.clap.proofs.WalkLemmas.{first_value-rows}
use Rattle.nvme_words.proofs.requests.no_admin_of.Goals as goal

pub returns-in-Some-true : goal.returns-in-Some-true
returns-in-Some-true c =
    let is : option_map (λ s. s.now) c.get_str.result ≡ Some (codes "true") = search rules in
    sym (first_value-rows (found_of c.args.matches.now) (codes "no-admin")) ∙ (sym c.get_str.ensures ∙ is)

pub returns-in_default : goal.returns-in_default
returns-in_default c = λ e.
    let is : option_map (λ s. s.now) c.get_str.result ≡ Some (codes "true") = c.get_str.ensures ∙ (first_value-rows (found_of c.args.matches.now) (codes "no-admin") ∙ e) in
    search rules

pub returns-in_default-2 : goal.returns-in_default-2
returns-in_default-2 c = λ e.
    let is : option_map (λ s. s.now) c.get_str.result ≡ Some (codes "true") = c.get_str.ensures ∙ (first_value-rows (found_of c.args.matches.now) (codes "no-admin") ∙ e) in
    search rules
