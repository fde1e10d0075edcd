-- What a parse by the command line says of the answer.
use Rattle.std.proofs.Common.{◌≡◌, ◌⊎◌, ◌∙◌, true, [], ◌∷◌, Result, Ok, Err, List, String, map, string_bytes, codes, refl, sym, ap, subst, inl, inr}
use Rattle.std.specs.Global.{Global}
use Rattle.clap.specs.Words.{App, HasMatchesOf, IsAmong, app_of, fault_of, is_simple, is_simple_and_free, subcommand_of, subcommand_rows_of}
use Rattle.clap.specs.declared.builder.command.Command.{Command}
use Rattle.clap.specs.declared.error.kind.ErrorKind.{ErrorKind}
use Rattle.clap.specs.declared.error.kind.ErrorKind.TheVariants.{OutOfMemory}
use Rattle.clap.specs.declared.parser.matches.ArgMatches.{ArgMatches}
use Rattle.clap.proofs.OnLiterals.{clap_on_literals}
use Rattle.nvme_words.specs.declared.requests.Request.{Request}
use Rattle.nvme_words.specs.declared.requests.Request.TheVariants as request
use Rattle.nvme_words.specs.declared.requests.WordsError.{WordsError}
use Rattle.nvme_words.specs.declared.requests.WordsError.TheVariants as error
use Rattle.nvme_words.specs.CommandLine.{Names, command_line}
use Rattle.nvme_words.specs.Requests.{IsAnswerTo, IsHelp, faults_of, given_by}
use Rattle.nvme_words.specs.inside.Found.{IsTextFor}

-- where the names of the formats may lie
abbrev pub some_names : Names
some_names = record {
  ref_ptr = (0, 0);
  now = (record { ref_ptr = (0, 0); now = codes "text" }) ∷ (record { ref_ptr = (0, 0); now = codes "json" }) ∷ (record { ref_ptr = (0, 0); now = codes "csv" }) ∷ [];
}

-- `clap` says all of the command line
pub is_free : (names : Names) → is_simple_and_free (command_line names) ≡ true
unfolding clap_on_literals
is_free names = refl

pub is_plain : (names : Names) → is_simple (command_line names) ≡ true
unfolding clap_on_literals
is_plain names = refl

module _ (command : Command) (names : Names) (is : app_of command ≡ command_line names) (words : List (String Global)) where
  pub free : is_simple_and_free (app_of command) ≡ true
  free = ap is_simple_and_free is ∙ is_free names

  pub same_faults : fault_of (app_of command) (map string_bytes words) ≡ faults_of (command_line names) words
  same_faults = ap (λ (app : App). fault_of app (map string_bytes words)) is

  pub given_in : (m : ArgMatches) → HasMatchesOf (app_of command) (map string_bytes words) m
      → subcommand_rows_of m ≡ given_by (command_line names) words
  given_in m matches = (matches (ap is_simple is ∙ is_plain names)).1 ∙ ap (λ (app : App). subcommand_of app (map string_bytes words)) is

not_help : (words : List (String Global)) (kind : ErrorKind) → kind ≡ OutOfMemory → IsHelp words kind → ⊥
not_help words kind memory (inl h, alone) = cc
not_help words kind memory (inr h, alone) = cc

-- what becomes of an error that is out of memory, or among the faults
pub text_answers : (app : App) (words : List (String Global)) (kind : ErrorKind) (result : Result Request WordsError)
    → (kind ≡ OutOfMemory) ⊎ IsAmong kind (faults_of app words) → IsTextFor words kind result → IsAnswerTo app words result
text_answers app words kind (Ok (request.Help text)) (inl memory) (same, help) = absurd (not_help words kind memory help)
text_answers app words kind (Ok (request.Help text)) (inr among) (same, help) =
    inr (subst (λ (k : ErrorKind). IsAmong k (faults_of app words)) (sym same) among, subst (IsHelp words) (sym same) help)
text_answers app words kind (Ok (request.Once blocks)) has h = absurd h
text_answers app words kind (Ok (request.Run when workers)) has h = absurd h
text_answers app words kind (Ok (request.RunFile when workers)) has h = absurd h
text_answers app words kind (Ok request.Lint) has h = absurd h
text_answers app words kind (Ok request.Expand) has h = absurd h
text_answers app words kind (Ok request.Check) has h = absurd h
text_answers app words kind (Ok request.CheckSpec) has h = absurd h
text_answers app words kind (Ok request.CheckAll) has h = absurd h
text_answers app words kind (Ok (request.Trace when workers)) has h = absurd h
text_answers app words kind (Ok (request.Chart drawing)) has h = absurd h
text_answers app words kind (Ok (request.Stats numbers)) has h = absurd h
text_answers app words kind (Ok (request.Settings reading)) has h = absurd h
text_answers app words kind (Ok (request.Unfit why)) has h = absurd h
text_answers app words kind (Err (error.CommandLine text)) (inl memory) (same, other, help) = absurd (other memory)
text_answers app words kind (Err (error.CommandLine text)) (inr among) (same, other, help) =
    (subst (λ (k : ErrorKind). IsAmong k (faults_of app words)) (sym same) among, (λ h. help (subst (IsHelp words) same h)))
text_answers app words kind (Err error.OtherWord) has h = absurd h
text_answers app words kind (Err (error.NoMemory why)) has h = tt
