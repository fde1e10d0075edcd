use Rattle.std.proofs.Common.{◌∙◌, codes}
use Rattle.clap.specs.Words.{found_of}
use Rattle.clap.proofs.WalkLemmas.{first_value-rows}
use Rattle.nvme_words.proofs.requests.settings_of.Goals as goal

pub returns : goal.returns
returns c =
    let found = found_of c.args.matches.now in
    let dword = c.get_str.ensures ∙ first_value-rows found (codes "dword") in
    let burst = c.get_str-2.ensures ∙ first_value-rows found (codes "burst") in
    let weights = c.get_str-3.ensures ∙ first_value-rows found (codes "weights") in
    rw (dword, burst, weights) at c.settings_in.ensures
