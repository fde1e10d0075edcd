use Rattle.std.proofs.Common.{rules, ◌≡◌, ◌∙◌, Some, sym, codes, option_map}
use Rattle.clap.specs.Words.{found_of}
use Rattle.clap.proofs.WalkLemmas.{first_value-rows}
use Rattle.nvme_words.proofs.requests.format_of.Goals as goal

pub returns-in-Some-json : goal.returns-in-Some-json
returns-in-Some-json c =
    let is : option_map (λ s. s.now) c.get_str.result ≡ Some (codes "json") = search rules in
    sym (first_value-rows (found_of c.args.matches.now) (codes "format")) ∙ (sym c.get_str.ensures ∙ is)

pub returns-in-Some-csv : goal.returns-in-Some-csv
returns-in-Some-csv c =
    let is : option_map (λ s. s.now) c.get_str.result ≡ Some (codes "csv") = search rules in
    sym (first_value-rows (found_of c.args.matches.now) (codes "format")) ∙ (sym c.get_str.ensures ∙ is)

pub returns-in_default : goal.returns-in_default
returns-in_default c = (
  (λ e. let is : option_map (λ s. s.now) c.get_str.result ≡ Some (codes "json") = c.get_str.ensures ∙ (first_value-rows (found_of c.args.matches.now) (codes "format") ∙ e) in search rules),
  (λ e. let is : option_map (λ s. s.now) c.get_str.result ≡ Some (codes "csv") = c.get_str.ensures ∙ (first_value-rows (found_of c.args.matches.now) (codes "format") ∙ e) in search rules),
)

pub returns-in_default-2 : goal.returns-in_default-2
returns-in_default-2 c = (
  (λ e. let is : option_map (λ s. s.now) c.get_str.result ≡ Some (codes "json") = c.get_str.ensures ∙ (first_value-rows (found_of c.args.matches.now) (codes "format") ∙ e) in search rules),
  (λ e. let is : option_map (λ s. s.now) c.get_str.result ≡ Some (codes "csv") = c.get_str.ensures ∙ (first_value-rows (found_of c.args.matches.now) (codes "format") ∙ e) in search rules),
)
