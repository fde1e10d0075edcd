-- The command line of the program, in the words of `clap`: its subcommands, with the options and the files that they
-- take. (profile)
use Rattle.std.specs.Prelude.{◌≡◌, true, List, [], ◌∷◌, Some, pos, codes}
use Rattle.std.specs.Borrow.{Bor}
use Rattle.clap.specs.Walk.{texts}
use Rattle.clap.specs.Words.{App, Rule, Text, new_app, new_rule, with_rule, with_subcommand}
use Rattle.clap.specs.Simple.{new_shape}
use Rattle.clap.specs.declared.builder.action.ArgAction.TheVariants.{Append, Set, SetTrue}
use Rattle.clap.specs.declared.builder.value_parser.ValueParser.{ValueParser}
use Rattle.clap.specs.declared.builder.value_parser.ValueParser.TheVariants as values

-- an option with one value, and a file
abbrev pub option : Text → ValueParser → Rule
option name parser =
    record (new_rule name) { long = Some name; action = Some Set; value_names = 1; parser = Some parser }

abbrev pub file : Rule
file = record (new_rule (codes "file")) { action = Some Set; value_names = 1 }

abbrev pub required : Rule → Rule
required rule = record rule { required = true }

abbrev pub with_default : Text → Rule → Rule
with_default text rule = record rule { defaults = text ∷ [] }

-- from 1 to 8 workers
abbrev pub workers : Rule
workers = option (codes "workers") (values.Signed (pos 1) (pos 8))

-- from 1 to 2^63 - 1 logical blocks
abbrev pub blocks : Rule
blocks = option (codes "blocks") (values.Unsigned 1 9223372036854775807)

-- the hosts submit while the front works
abbrev pub live : Rule
live = record (new_rule (codes "live")) { long = Some (codes "live"); action = Some SetTrue }

-- from which pick of a trace on it is looked at, and up to which
abbrev pub first : Rule
first = with_default (codes "1") (option (codes "from") (values.Unsigned 1 9223372036854775807))

abbrev pub last : Rule
last = with_default (codes "9223372036854775807") (option (codes "to") (values.Unsigned 1 9223372036854775807))

-- how many picks a window has
abbrev pub window : Rule
window = with_default (codes "0") (option (codes "window") (values.Unsigned 0 9223372036854775807))

-- only picks are looked at at which each I/O queue has waiting commands
abbrev pub backlogged : Rule
backlogged = record (new_rule (codes "backlogged")) { long = Some (codes "backlogged"); action = Some SetTrue }

-- where the names of the formats lie
abbrev pub Names : Type 0
Names = Bor (List (Bor Text))

abbrev pub AreFormats : Names → Type 0
AreFormats names = texts names.now ≡ codes "text" ∷ codes "json" ∷ codes "csv" ∷ []

abbrev pub format : Names → Rule
format names = with_default (codes "text") (option (codes "format") (values.Names names))

-- ---- the subcommands

-- the subcommand that answers one entry
abbrev pub once : App
once = with_rule (new_app (codes "once")) (required blocks)

-- a subcommand that runs a workload of standard input
abbrev pub mode : Text → App
mode name = with_rule (new_app name) (required workers)

-- a subcommand that runs the workload of a file
abbrev pub run : Text → App
run name = with_rule (with_rule (with_rule (new_app name) (required file)) live) (with_default (codes "1") workers)

-- an option with one value, which is any text
abbrev pub text_option : Text → Rule
text_option name = record (new_rule name) { long = Some name; action = Some Set; value_names = 1 }

-- the report is summarised
abbrev pub summary : Rule
summary = record (new_rule (codes "summary")) { long = Some (codes "summary"); action = Some SetTrue }

-- the subcommand that prints the report of a run
abbrev pub reported : App
reported = with_rule (with_rule (run (codes "run")) summary) (text_option (codes "format"))

-- the file that an answer is written to
abbrev pub output : Rule
output = record (new_rule (codes "output")) { long = Some (codes "output"); short = Some 111; action = Some Set; value_names = 1 }

-- the subcommand that writes the trace of a run
abbrev pub traced : App
traced = with_rule (run (codes "trace")) output

abbrev pub lint : App
lint = with_rule (new_app (codes "lint")) (required file)

-- the subcommand that writes a workload file out
abbrev pub expand : App
expand = with_rule (new_app (codes "expand")) (required file)

-- a subcommand that reads a file, or standard input: a trace, a log, or what is simulated
abbrev pub trace : Text → App
trace name = with_rule (new_app name) file

-- what the specification alone asks is judged
abbrev pub spec : Rule
spec = record (new_rule (codes "spec")) { long = Some (codes "spec"); action = Some SetTrue }

-- all picks that differ are told, or all breaches
abbrev pub all : Rule
all = record (new_rule (codes "all")) { long = Some (codes "all"); action = Some SetTrue }

-- nothing but the status is told
abbrev pub quiet : Rule
quiet = record (new_rule (codes "quiet")) { long = Some (codes "quiet"); action = Some SetTrue }

abbrev pub check : App
check = with_rule (with_rule (with_rule (with_rule (trace (codes "check")) spec) all) quiet) (text_option (codes "format"))

-- a subcommand that shows a part of a trace
abbrev pub ranged : Text → App
ranged name = with_rule (with_rule (trace name) first) last

-- the admin queue is left out
abbrev pub no_admin : Rule
no_admin = record (new_rule (codes "no-admin")) { long = Some (codes "no-admin"); action = Some SetTrue }

abbrev pub chart : App
chart = with_rule (with_rule (ranged (codes "chart")) no_admin) output

abbrev pub stats : Names → App
stats names = with_rule (with_rule (with_rule (ranged (codes "stats")) backlogged) window) (format names)

-- how often each rule asked something is told
abbrev pub coverage : Rule
coverage = record (new_rule (codes "coverage")) { long = Some (codes "coverage"); action = Some SetTrue }

-- the subcommand that audits a log: through whose eyes, by which rules
abbrev pub viewed : App
viewed = with_rule (with_rule (with_rule (trace (codes "audit")) (text_option (codes "observer"))) (text_option (codes "only"))) (text_option (codes "without"))

-- and what is told
abbrev pub audit : App
audit = with_rule (with_rule (with_rule (with_rule viewed all) coverage) quiet) (text_option (codes "format"))

-- a dword, in place of a file
abbrev pub dword : Rule
dword = record (new_rule (codes "dword")) { action = Some Set; value_names = 1 }

-- the subcommand that translates settings
abbrev pub settings : App
settings = with_rule (with_rule (with_rule (new_app (codes "settings")) dword) (text_option (codes "burst"))) (text_option (codes "weights"))

-- an option whose value is a number of at most 63 bits
abbrev pub number : Text → Rule
number name = option name (values.Unsigned 0 9223372036854775807)

-- the subcommand that simulates, with what stands in place of what the file says
abbrev pub bounded : App
bounded =
    with_rule (with_rule (with_rule (with_rule (with_rule (trace (codes "simulate")) (number (codes "seed"))) (number (codes "commands"))) (text_option (codes "time"))) (number (codes "warm-up"))) (text_option (codes "load"))

-- the values of a key in a sweep, which may come several times
abbrev pub sweep : Rule
sweep = record (new_rule (codes "sweep")) { long = Some (codes "sweep"); action = Some Append; value_names = 1 }

-- from 1 to 1000 seeds
abbrev pub seeds : Rule
seeds = option (codes "seeds") (values.Unsigned 1 1000)

-- from 1 to 64 threads
abbrev pub jobs : Rule
jobs = option (codes "jobs") (values.Unsigned 1 64)

-- the points of a sweep are printed, and not simulated
abbrev pub points : Rule
points = record (new_rule (codes "points")) { long = Some (codes "points"); action = Some SetTrue }

-- the line of names is left out
abbrev pub no_head : Rule
no_head = record (new_rule (codes "no-head")) { long = Some (codes "no-head"); action = Some SetTrue }

-- the subcommand that simulates, with the options of a sweep
abbrev pub swept : App
swept = with_rule (with_rule (with_rule (with_rule (with_rule (with_rule bounded sweep) seeds) jobs) points) no_head) (text_option (codes "class"))

-- what is proved about waits is told
abbrev pub bounds : Rule
bounds = record (new_rule (codes "bounds")) { long = Some (codes "bounds"); action = Some SetTrue }

-- the subcommand that simulates, with the files that it writes beside its answer
abbrev pub logged : Names → App
logged names = with_rule (with_rule (with_rule (with_rule swept (format names)) bounds) (text_option (codes "log"))) (text_option (codes "trace"))

abbrev pub simulate : Names → App
simulate names = with_rule (with_rule (logged names) (text_option (codes "chart"))) output

-- ---- the program

-- it has a version, and asks for a subcommand
abbrev pub alone : App
alone = record {
  top = record (new_shape (codes "nvmearb")) { has_version = true; subcommand_required = true };
  subs = [];
}

abbrev pub with_input : App → App
with_input app = with_subcommand (with_subcommand (with_subcommand app once.top) (mode (codes "loaded")).top) (mode (codes "live")).top

abbrev pub with_run : Names → App → App
with_run names app = with_subcommand (with_subcommand (with_subcommand app reported.top) traced.top) (simulate names).top

abbrev pub with_file : App → App
with_file app = with_subcommand (with_subcommand app lint.top) expand.top

abbrev pub with_trace : Names → App → App
with_trace names app = with_subcommand (with_subcommand (with_subcommand (with_subcommand app check.top) (stats names).top) chart.top) audit.top

abbrev pub command_line : Names → App
command_line names = with_input (with_subcommand (with_file (with_trace names (with_run names alone))) settings.top)

-- P holds of the command line. Where the names of the formats lie is left open, and parsing doesn't ask for it
abbrev pub OnCommandLine : (App → Type 0) → Type 0
OnCommandLine P = (names : Names) × AreFormats names × P (command_line names)
