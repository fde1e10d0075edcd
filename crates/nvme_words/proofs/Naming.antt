-- The file that the words name.
use Rattle.std.proofs.Common.{◌≡◌, ◌∙◌, ◌||◌, not, Bool, true, false, List, [], ◌∷◌, Option, Some, None, String, option_map, codes, cond, refl, sym, ap, arith}
use Rattle.std.proofs.lemmas.Bool.{ne_eqb}
use Rattle.std.specs.Global.{Global}
use Rattle.std.specs.Str.{bytes_eq}
use Rattle.clap.specs.Walk.{is_empty}
use Rattle.clap.specs.Words.{App, IsAmong, Kinds, Row, Text, first_of, first_value, found_of, rows_of, subcommand_rows_of}
use Rattle.clap.specs.declared.error.kind.ErrorKind.{ErrorKind}
use Rattle.clap.specs.declared.parser.matches.ArgMatches.{ArgMatches}
use Rattle.clap.proofs.WalkLemmas.{first_value-rows}
use Rattle.nvme_words.specs.Requests.{Given, faults_of, file_given, file_of, given_by, named, output_of, value_given}
use Rattle.nvme_words.specs.Words.{names_no_trace, reads_input, reads_input_alone, writes_file}

-- the file of a subcommand with these rows
value_in_rows : (id : Text) (given : Option Given) (rows : List Row) → option_map (λ g. g.1) given ≡ Some rows
    → value_given id given ≡ named (first_of id rows)
value_in_rows id None rows e = cc
value_in_rows id (Some g) rows e = let same : g.1 ≡ rows = cc in ap (λ r. named (first_of id r)) same

-- what is read as the file of the subcommand
pub value_read : (id : Text) (m inner : ArgMatches) (text : Option Text)
    → option_map (λ (g : Given). g.1) (subcommand_rows_of m) ≡ Some (rows_of (found_of inner))
    → text ≡ first_value (found_of inner) id → value_given id (subcommand_rows_of m) ≡ named text
value_read id m inner text given read =
    value_in_rows id (subcommand_rows_of m) _ given ∙ ap named (sym (read ∙ first_value-rows (found_of inner) id))

pub named_other : (text : Text) → bytes_eq text (codes "-") ≡ false → named (Some text) ≡ Some text
named_other text other = rw other refl

-- where the words say that standard input is read, none is named
pub none_with_input : (app : App) (words : List (String Global)) → reads_input words ≡ true → None ≡ file_of app words
none_with_input app words input = rw input refl

pub input_alone : (words : List (String Global)) → reads_input_alone words ≡ true → reads_input words ≡ true
input_alone words e = rw e refl

pub input_of_trace : (words : List (String Global)) → names_no_trace words ≡ true → reads_input words ≡ true
input_of_trace words e = go (reads_input_alone words)
  where
    go : (b : Bool) → (b || names_no_trace words) ≡ true
    go true = refl
    go false = e

-- where the words are taken, the file of their subcommand is
pub file_of_taken : (app : App) (words : List (String Global)) → reads_input_alone words ≡ false → names_no_trace words ≡ false
    → faults_of app words ≡ [] → file_of app words ≡ file_given (given_by app words)
file_of_taken app words alone trace none = rw (alone, trace, none) refl

some_kind : (kind : ErrorKind) (kinds : Kinds) → IsAmong kind kinds → is_empty kinds ≡ false
some_kind kind [] among = absurd among
some_kind kind (k ∷ ks) among = ne_eqb _ _ (λ e. omega arith)

-- and where they aren't, none is
pub none_of_refused : (app : App) (words : List (String Global)) (kind : ErrorKind) → IsAmong kind (faults_of app words)
    → None ≡ file_of app words
none_of_refused app words kind among = go (reads_input words) (is_empty (faults_of app words)) (some_kind kind _ among)
  where
    go : (input empty : Bool) → empty ≡ false → None ≡ cond (input || not empty) None (file_given (given_by app words))
    go true empty e = refl
    go false empty e = rw e refl

-- ---- the output

pub output_of_taken : (app : App) (words : List (String Global)) → writes_file words ≡ true
    → faults_of app words ≡ [] → output_of app words ≡ value_given (codes "output") (given_by app words)
output_of_taken app words chart none = rw (chart, none) refl

pub no_output_of_others : (app : App) (words : List (String Global)) → writes_file words ≡ false → None ≡ output_of app words
no_output_of_others app words other = rw other refl

pub no_output_of_refused : (app : App) (words : List (String Global)) (kind : ErrorKind) → IsAmong kind (faults_of app words)
    → None ≡ output_of app words
no_output_of_refused app words kind among = go (not (writes_file words)) (is_empty (faults_of app words)) (some_kind kind _ among)
  where
    go : (other empty : Bool) → empty ≡ false
        → None ≡ cond (other || not empty) None (value_given (codes "output") (given_by app words))
    go true empty e = refl
    go false empty e = rw e refl
