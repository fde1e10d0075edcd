-- Which words ask for what. (profile)
use Rattle.std.specs.Prelude.{⊤, ◌≡◌, ◌≢◌, ◌⊎◌, ◌<◌, ◌≤◌, ◌^◌, ℕ, Bool, true, false, ◌||◌, not, if◌then◌else◌, List, [], map, Option, Some, None, Result, Ok, Err, String, string_bytes, codes}
use Rattle.std.specs.Global.{Global}
use Rattle.std.specs.Str.{bytes_eq}
use Rattle.std.specs.Str.Parse.{IsNumeral, digits_value, without_leading_plus}
use Rattle.clap.specs.Walk.{is_empty}
use Rattle.clap.specs.Words.{App, IsAmong, Kinds, Row, Text, fault_of, first_of, kind_of, one_of, subcommand_of}
use Rattle.clap.specs.declared.error.kind.ErrorKind.{ErrorKind}
use Rattle.clap.specs.declared.error.kind.ErrorKind.TheVariants.{DisplayHelp, DisplayVersion}
use Rattle.nvme_words.specs.declared.requests.Format.{Format}
use Rattle.nvme_words.specs.declared.requests.Format.TheVariants as format
use Rattle.nvme_words.specs.declared.requests.Range.{Range}
use Rattle.nvme_words.specs.declared.requests.Drawing.{Drawing}
use Rattle.nvme_words.specs.declared.requests.Numbers.{Numbers}
use Rattle.nvme_words.specs.declared.requests.OptionsFault.{OptionsFault}
use Rattle.nvme_words.specs.declared.requests.OptionsFault.TheVariants as unfit
use Rattle.nvme_words.specs.declared.requests.Request.{Request}
use Rattle.nvme_words.specs.declared.requests.Request.TheVariants as request
use Rattle.nvme_lane.specs.declared.mode.Mode.{Mode}
use Rattle.nvme_settings.specs.Reading.{settings_in}
use Rattle.nvme_settings.specs.declared.reading.SettingsFault.{SettingsFault}
use Rattle.nvme_lane.specs.declared.mode.Mode.TheVariants.{Loaded, Live}
use Rattle.nvme_words.specs.declared.requests.WordsError.{WordsError}
use Rattle.nvme_words.specs.declared.requests.WordsError.TheVariants as error
use Rattle.nvme_words.specs.Words.{asks, asks_alone, reads_input, reads_workload, shows_trace, writes_file}

-- the word after the program's name is one that asks for this. Words that ask for a check alone don't ask for help, nor for more
abbrev pub IsAskedBy : List (String Global) → Request → Type 0
IsAskedBy words (request.Once blocks) = asks (codes "once") words ≡ true
IsAskedBy words (request.Run mode workers) = reads_workload words ≡ true
IsAskedBy words (request.RunFile mode workers) = asks (codes "run") words ≡ true
IsAskedBy words request.Lint = asks (codes "lint") words ≡ true
IsAskedBy words request.Expand = asks (codes "expand") words ≡ true
IsAskedBy words request.Check = asks (codes "check") words ≡ true
IsAskedBy words request.CheckSpec = (asks (codes "check") words ≡ true) × (asks_alone (codes "check") words ≡ false)
IsAskedBy words request.CheckAll = (asks (codes "check") words ≡ true) × (asks_alone (codes "check") words ≡ false)
IsAskedBy words (request.Trace mode workers) = asks (codes "trace") words ≡ true
IsAskedBy words (request.Chart drawing) = shows_trace words ≡ true
IsAskedBy words (request.Stats numbers) = shows_trace words ≡ true
IsAskedBy words (request.Settings reading) = asks (codes "settings") words ≡ true
IsAskedBy words (request.Unfit unfit.AllOfSpec) = (asks (codes "check") words ≡ true) × (asks_alone (codes "check") words ≡ false)
IsAskedBy words (request.Unfit (unfit.Behind range)) = shows_trace words ≡ true
IsAskedBy words (request.Help text) = asks_alone (codes "check") words ≡ false

-- ---- what a subcommand and its values ask for

-- a subcommand by its name, with the values of its options and files
abbrev pub Given : Type 0
Given = Text × List Row

-- the value is a number of this many bits, in decimal digits
abbrev pub IsNumber : ℕ → Text → List Row → ℕ → Type 0
IsNumber bits id rows number = (text : Text) × (one_of id rows ≡ Some text) × IsNumeral 10 (without_leading_plus text)
    × (digits_value 10 (without_leading_plus text) < 2 ^ bits) × (number ≡ digits_value 10 (without_leading_plus text))

-- the mode that `--live`, given or not, asks for
abbrev pub SubmitsBy : List Row → Mode → Type 0
SubmitsBy rows Loaded = one_of (codes "live") rows ≢ Some (codes "true")
SubmitsBy rows Live = (one_of (codes "live") rows ≢ None) × (one_of (codes "live") rows ≢ Some (codes "false"))

abbrev pub IsFormat : List Row → Format → Type 0
IsFormat rows format.Json = first_of (codes "format") rows ≡ Some (codes "json")
IsFormat rows format.Csv = first_of (codes "format") rows ≡ Some (codes "csv")
IsFormat rows format.Text = (first_of (codes "format") rows ≢ Some (codes "json")) × (first_of (codes "format") rows ≢ Some (codes "csv"))

-- whether a flag is given
abbrev pub IsFlag : Text → List Row → Bool → Type 0
IsFlag id rows true = first_of id rows ≡ Some (codes "true")
IsFlag id rows false = first_of id rows ≢ Some (codes "true")

-- which picks of a trace are looked at
abbrev pub IsRange : List Row → Range → Type 0
IsRange rows range = IsNumber 64 (codes "from") rows range.first × IsNumber 64 (codes "to") rows range.last

-- which picks of a trace are drawn
abbrev pub IsDrawing : List Row → Drawing → Type 0
IsDrawing rows drawing = IsRange rows drawing.range × IsFlag (codes "no-admin") rows drawing.no_admin

-- which numbers of a trace are wanted
abbrev pub AreNumbers : List Row → Numbers → Type 0
AreNumbers rows numbers = IsRange rows numbers.range × IsNumber 64 (codes "window") rows numbers.window
    × IsFlag (codes "backlogged") rows numbers.backlogged × IsFormat rows numbers.format

-- what settings the values say
abbrev pub settings_given : List Row → Result ℕ SettingsFault
settings_given rows = settings_in (first_of (codes "dword") rows) (first_of (codes "burst") rows) (first_of (codes "weights") rows)

-- the mode of a run of standard input whose report is wanted
abbrev pub RunsBy : Given → Mode → Type 0
RunsBy given mode = ((given.0 ≡ codes "loaded") × (mode ≡ Loaded))
    ⊎ ((given.0 ≡ codes "live") × (mode ≡ Live))

-- the picks that a picture or statistics are to look at
abbrev pub ShowsPicks : Given → Range → Type 0
ShowsPicks given range = ((given.0 ≡ codes "chart") × IsRange given.1 range)
    ⊎ ((given.0 ≡ codes "stats") × (numbers : Numbers) × AreNumbers given.1 numbers × (numbers.range ≡ range))

-- options that don't go together: all picks that differ from the profile's are asked for where the specification alone
-- judges, or the first pick is behind the last one
abbrev pub IsUnfit : Given → OptionsFault → Type 0
IsUnfit given unfit.AllOfSpec = (given.0 ≡ codes "check") × IsFlag (codes "spec") given.1 true × IsFlag (codes "all") given.1 true
IsUnfit given (unfit.Behind range) = (range.last < range.first) × ShowsPicks given range

abbrev pub IsRequestOf : Given → Request → Type 0
IsRequestOf given (request.Once blocks) = (given.0 ≡ codes "once") × IsNumber 64 (codes "blocks") given.1 blocks
IsRequestOf given (request.Run mode workers) = RunsBy given mode × IsNumber 8 (codes "workers") given.1 workers
IsRequestOf given (request.RunFile mode workers) =
    (given.0 ≡ codes "run") × SubmitsBy given.1 mode × IsNumber 8 (codes "workers") given.1 workers
IsRequestOf given request.Lint = given.0 ≡ codes "lint"
IsRequestOf given request.Expand = given.0 ≡ codes "expand"
IsRequestOf given request.Check = (given.0 ≡ codes "check") × IsFlag (codes "spec") given.1 false × IsFlag (codes "all") given.1 false
IsRequestOf given request.CheckSpec = (given.0 ≡ codes "check") × IsFlag (codes "spec") given.1 true × IsFlag (codes "all") given.1 false
IsRequestOf given request.CheckAll = (given.0 ≡ codes "check") × IsFlag (codes "spec") given.1 false × IsFlag (codes "all") given.1 true
IsRequestOf given (request.Trace mode workers) =
    (given.0 ≡ codes "trace") × SubmitsBy given.1 mode × IsNumber 8 (codes "workers") given.1 workers
IsRequestOf given (request.Chart drawing) =
    (given.0 ≡ codes "chart") × IsDrawing given.1 drawing × (drawing.range.first ≤ drawing.range.last)
IsRequestOf given (request.Stats numbers) =
    (given.0 ≡ codes "stats") × AreNumbers given.1 numbers × (numbers.range.first ≤ numbers.range.last)
IsRequestOf given (request.Settings reading) = (given.0 ≡ codes "settings") × (reading ≡ settings_given given.1)
IsRequestOf given (request.Unfit why) = IsUnfit given why
IsRequestOf given (request.Help text) = ⊥

-- ---- what words ask for

-- what `clap` finds wrong with the words, and nothing where it takes them
abbrev pub faults_of : App → List (String Global) → Kinds
faults_of app words = fault_of app (map string_bytes words)

-- the subcommand that the words name, with its values
abbrev pub given_by : App → List (String Global) → Option Given
given_by app words = subcommand_of app (map string_bytes words)

-- words that ask for a check alone don't ask for one with an option
abbrev pub IsSaid : List (String Global) → Request → Type 0
IsSaid words request.CheckSpec = asks_alone (codes "check") words ≡ false
IsSaid words request.CheckAll = asks_alone (codes "check") words ≡ false
IsSaid words (request.Unfit unfit.AllOfSpec) = asks_alone (codes "check") words ≡ false
IsSaid words request = ⊤

-- the subcommand is the word after the program's name, and asks for this
abbrev pub IsGivenBy : List (String Global) → Option Given → Request → Type 0
IsGivenBy words None request = ⊥
IsGivenBy words (Some given) request = (asks given.0 words ≡ true) × IsRequestOf given request × IsSaid words request

-- the text is one that was asked for. Words that ask for a check alone ask for none
abbrev pub IsHelp : List (String Global) → ErrorKind → Type 0
IsHelp words kind = ((kind ≡ DisplayHelp) ⊎ (kind ≡ DisplayVersion)) × (asks_alone (codes "check") words ≡ false)

abbrev pub IsHelpOf : App → List (String Global) → Request → Type 0
IsHelpOf app words (request.Help text) = IsAmong (kind_of text) (faults_of app words) × IsHelp words (kind_of text)
IsHelpOf app words request = ⊥

-- the answer to words: their request where `clap` takes them, otherwise its text. Any words may be refused for memory
abbrev pub IsAnswerTo : App → List (String Global) → Result Request WordsError → Type 0
IsAnswerTo app words (Ok request) =
    ((faults_of app words ≡ []) × IsGivenBy words (given_by app words) request) ⊎ IsHelpOf app words request
IsAnswerTo app words (Err (error.CommandLine text)) =
    IsAmong (kind_of text) (faults_of app words) × (IsHelp words (kind_of text) → ⊥)
IsAnswerTo app words (Err error.OtherWord) =
    (faults_of app words ≡ []) × ((request : Request) → IsGivenBy words (given_by app words) request → ⊥)
IsAnswerTo app words (Err (error.NoMemory why)) = ⊤

-- ---- the file

-- the name of a file, where it isn't `-`
abbrev pub named : Option Text → Option Text
named None = None
named (Some name) = if bytes_eq name (codes "-") then None else Some name

-- the file that a subcommand is given for this
abbrev pub value_given : Text → Option Given → Option Text
value_given id None = None
value_given id (Some given) = named (first_of id given.1)

abbrev pub file_given : Option Given → Option Text
file_given given = value_given (codes "file") given

-- the file that the words name as the input
abbrev pub file_of : App → List (String Global) → Option Text
file_of app words =
    if reads_input words || not (is_empty (faults_of app words)) then None else file_given (given_by app words)

-- the file that the words name for the output, as those that ask for a picture or for the trace of a run may
abbrev pub output_of : App → List (String Global) → Option Text
output_of app words =
    if not (writes_file words) || not (is_empty (faults_of app words)) then None
    else value_given (codes "output") (given_by app words)
