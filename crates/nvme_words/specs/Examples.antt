-- Worked command lines. (profile)
use Rattle.std.specs.Prelude.{⊤, ◌≡◌, ◌⊎◌, Bool, false, List, [], ◌∷◌, map, Option, Some, Ok, Err, String, string_bytes, codes, None}
use Rattle.std.specs.Global.{Global}
use Rattle.clap.specs.Words.{App, Text, kind_of, one_of}
use Rattle.clap.specs.declared.error.Error.{Error}
use Rattle.clap.specs.declared.error.kind.ErrorKind.{ErrorKind}
use Rattle.nvme_words.specs.CommandLine.{AreFormats, Names, command_line}
use Rattle.nvme_words.specs.Requests.{Given, IsAnswerTo, IsRequestOf, faults_of, file_of, output_of}
use Rattle.nvme_words.specs.declared.requests.Format.{Format}
use Rattle.nvme_words.specs.declared.requests.Numbers.{Numbers}
use Rattle.nvme_words.specs.declared.requests.Range.{Range}
use Rattle.nvme_words.specs.declared.requests.Drawing.{Drawing}
use Rattle.nvme_words.specs.declared.requests.Request.{Request}
use Rattle.nvme_words.specs.declared.requests.Request.TheVariants as request
use Rattle.nvme_words.specs.declared.requests.WordsError.{WordsError}
use Rattle.nvme_words.specs.declared.requests.WordsError.TheVariants as error

abbrev pub IsMemory : WordsError → Type 0
IsMemory (error.CommandLine text) = ⊥
IsMemory error.OtherWord = ⊥
IsMemory (error.NoMemory why) = ⊤

-- P holds of the words of a line, which stand after the program's name
abbrev pub OverLine : List Text → (App → List (String Global) → Type 0) → Type 0
OverLine line P = (names : Names) → AreFormats names → (words : List (String Global))
    → map string_bytes words ≡ codes "nvmearb" ∷ line → P (command_line names) words

-- all picks of a trace
abbrev pub all_picks : Range
all_picks = record { first = 1; last = 9223372036854775807 }

-- a picture of all picks of a trace, with the admin queue or without it
abbrev pub all_drawn : Bool → Drawing
all_drawn no_admin = record { range = all_picks; no_admin = no_admin }

-- the numbers of all picks of a trace, in one piece
abbrev pub all_numbers : Format → Numbers
all_numbers format = record { range = all_picks; window = 0; backlogged = false; format = format }

-- the line asks for this, and is refused only for memory
abbrev pub AsksFor : List Text → Request → Type 0
AsksFor line request = OverLine line (λ app words. IsAnswerTo app words (Ok request))
    × ((e : WordsError) → IsMemory e ⊎ OverLine line (λ app words. IsAnswerTo app words (Err e) → ⊥))

abbrev pub HasFault : List Text → ErrorKind → Type 0
HasFault line kind = OverLine line (λ app words. faults_of app words ≡ kind ∷ [])

-- with an error of this kind the line asks for its text, and isn't refused
abbrev pub ShowsText : List Text → ErrorKind → Type 0
ShowsText line kind = (text : Error) → kind_of text ≡ kind
    → OverLine line (λ app words. IsAnswerTo app words (Ok (request.Help text))) × OverLine line (λ app words. IsAnswerTo app words (Err (error.CommandLine text)) → ⊥)

-- with an error of this kind the line is refused, and doesn't ask for a text
abbrev pub RefusesBy : List Text → ErrorKind → Type 0
RefusesBy line kind = (text : Error) → kind_of text ≡ kind
    → OverLine line (λ app words. IsAnswerTo app words (Err (error.CommandLine text)))
    × OverLine line (λ app words. IsAnswerTo app words (Ok (request.Help text)) → ⊥)
    × OverLine line (λ app words. IsAnswerTo app words (Err error.OtherWord) → ⊥)

-- the line names this file
abbrev pub NamesFile : List Text → Option Text → Type 0
NamesFile line file = OverLine line (λ app words. file_of app words ≡ file)

-- a subcommand whose flag `--live` reads as true or false, or that has none, asks for one thing
abbrev pub AsksForOneThing : Type 0
AsksForOneThing = (given : Given) (r s : Request) → (one_of (codes "live") given.1 ≡ Some (codes "true"))
    ⊎ ((one_of (codes "live") given.1 ≡ Some (codes "false")) ⊎ (one_of (codes "live") given.1 ≡ None))
    → IsRequestOf given r → IsRequestOf given s → r ≡ s

-- a subcommand of this name asks for nothing where its option has this value
abbrev pub AsksForNothing : Text → Text → Text → Type 0
AsksForNothing name id value = (given : Given) → given.0 ≡ name → one_of id given.1 ≡ Some value
    → (r : Request) → IsRequestOf given r → ⊥

-- the line names this file for the output
abbrev pub NamesOutput : List Text → Option Text → Type 0
NamesOutput line file = OverLine line (λ app words. output_of app words ≡ file)

-- ---- the lines

abbrev pub once_8 : List Text
once_8 = codes "once" ∷ codes "--blocks" ∷ codes "8" ∷ []

abbrev pub once_most : List Text
once_most = codes "once" ∷ codes "--blocks=9223372036854775807" ∷ []

abbrev pub once_too_many : List Text
once_too_many = codes "once" ∷ codes "--blocks=9223372036854775808" ∷ []

abbrev pub once_none : List Text
once_none = codes "once" ∷ codes "--blocks=0" ∷ []

abbrev pub loaded_2 : List Text
loaded_2 = codes "loaded" ∷ codes "--workers" ∷ codes "2" ∷ []

abbrev pub live_8 : List Text
live_8 = codes "live" ∷ codes "--workers=8" ∷ []

abbrev pub loaded_9 : List Text
loaded_9 = codes "loaded" ∷ codes "--workers" ∷ codes "9" ∷ []

abbrev pub live_0 : List Text
live_0 = codes "live" ∷ codes "--workers" ∷ codes "0" ∷ []

abbrev pub run_file : List Text
run_file = codes "run" ∷ codes "a.toml" ∷ []

abbrev pub run_live_3 : List Text
run_live_3 = codes "run" ∷ codes "--live" ∷ codes "a.toml" ∷ codes "--workers" ∷ codes "3" ∷ []

abbrev pub run_two_files : List Text
run_two_files = codes "run" ∷ codes "a.toml" ∷ codes "b.toml" ∷ []

abbrev pub lint_input : List Text
lint_input = codes "lint" ∷ codes "-" ∷ []

abbrev pub lint_file : List Text
lint_file = codes "lint" ∷ codes "lint" ∷ []

abbrev pub expand_file : List Text
expand_file = codes "expand" ∷ codes "a.toml" ∷ []

abbrev pub alone : Text → List Text
alone word = word ∷ []

abbrev pub trace_2 : List Text
trace_2 = codes "trace" ∷ codes "a.toml" ∷ codes "--workers=2" ∷ []

abbrev pub trace_live : List Text
trace_live = codes "trace" ∷ codes "a.toml" ∷ codes "--live" ∷ []

abbrev pub trace_output : List Text
trace_output = codes "trace" ∷ codes "a.toml" ∷ codes "--output" ∷ codes "a.jsonl" ∷ []

abbrev pub check_format : List Text
check_format = codes "check" ∷ codes "--format=json" ∷ codes "a.json" ∷ codes "--quiet" ∷ []

abbrev pub check_file : List Text
check_file = codes "check" ∷ codes "a.json" ∷ []

abbrev pub check_spec : List Text
check_spec = codes "check" ∷ codes "--spec" ∷ codes "a.json" ∷ []

abbrev pub check_all : List Text
check_all = codes "check" ∷ codes "a.json" ∷ codes "--all" ∷ []

abbrev pub check_all_spec : List Text
check_all_spec = codes "check" ∷ codes "--all" ∷ codes "--spec" ∷ []

abbrev pub chart_file : List Text
chart_file = codes "chart" ∷ codes "a.json" ∷ []

abbrev pub chart_output : List Text
chart_output = codes "chart" ∷ codes "-o" ∷ codes "a.svg" ∷ codes "a.json" ∷ []

abbrev pub chart_no_admin : List Text
chart_no_admin = codes "chart" ∷ codes "--no-admin" ∷ codes "a.json" ∷ []

abbrev pub chart_printed : List Text
chart_printed = codes "chart" ∷ codes "a.json" ∷ codes "--output=-" ∷ []

abbrev pub stats_output : List Text
stats_output = codes "stats" ∷ codes "-o" ∷ codes "a.txt" ∷ []

abbrev pub stats_json : List Text
stats_json = codes "stats" ∷ codes "a.json" ∷ codes "--format" ∷ codes "json" ∷ []

abbrev pub stats_part : List Text
stats_part = codes "stats" ∷ codes "--from" ∷ codes "2" ∷ codes "--to=9" ∷ codes "--window" ∷ codes "3" ∷ codes "--backlogged" ∷ codes "--format=csv" ∷ []

abbrev pub stats_behind : List Text
stats_behind = codes "stats" ∷ codes "--from" ∷ codes "10" ∷ codes "--to" ∷ codes "5" ∷ []

abbrev pub chart_behind : List Text
chart_behind = codes "chart" ∷ codes "--from=10" ∷ codes "--to=9" ∷ []

abbrev pub chart_one_pick : List Text
chart_one_pick = codes "chart" ∷ codes "--from=10" ∷ codes "--to=10" ∷ []

abbrev pub settings_dword : List Text
settings_dword = codes "settings" ∷ codes "0x07030103" ∷ []

abbrev pub settings_words : List Text
settings_words = codes "settings" ∷ codes "--burst" ∷ codes "8" ∷ codes "--weights" ∷ codes "8:4:2" ∷ []

abbrev pub settings_both : List Text
settings_both = codes "settings" ∷ codes "1" ∷ codes "--burst=2" ∷ []

abbrev pub chart_from_0 : List Text
chart_from_0 = codes "chart" ∷ codes "--from" ∷ codes "0" ∷ []

abbrev pub stats_xml : List Text
stats_xml = codes "stats" ∷ codes "--format" ∷ codes "xml" ∷ []
