-- Each line is computed.
use Rattle.std.proofs.Common.{◌≡◌, true, false, List, [], ◌∷◌, String, map, string_bytes, Some, Ok, Err, codes, refl, inl, inr, arith}
use Rattle.std.specs.Str.Parse.{digits_value, without_leading_plus}
use Rattle.clap.specs.ValueTests.{accepts}
use Rattle.clap.specs.Words.{Text, first_of, one_of}
use Rattle.clap.specs.declared.builder.value_parser.ValueParser.TheVariants as vp
use Rattle.clap.proofs.OnLiterals.{clap_on_literals}
use Rattle.nvme_words.specs.Examples.{all_drawn, all_numbers, alone, chart_behind, chart_file, chart_no_admin, chart_one_pick, chart_output, check_all, check_all_spec, check_file, check_format, check_spec, expand_file, lint_input, live_8, loaded_2, once_8, once_most, run_file, run_live_3, settings_both, settings_dword, settings_words, stats_behind, stats_json, stats_part, trace_2, trace_live}
use Rattle.std.specs.Global.{Global}
use Rattle.nvme_words.specs.Words.{asks_alone}
use Rattle.nvme_words.specs.Requests.{IsFlag, IsRange, SubmitsBy}
use Rattle.nvme_words.specs.declared.requests.Format.TheVariants as format
use Rattle.nvme_words.specs.declared.requests.OptionsFault.TheVariants as unfit
use Rattle.nvme_words.specs.declared.requests.Request.TheVariants as request
use Rattle.nvme_settings.specs.declared.reading.SettingsFault.TheVariants as said
use Rattle.nvme_lane.specs.declared.mode.Mode.TheVariants.{Loaded, Live}
use Rattle.nvme_words.proofs.Lines.{given_at, line_asks, number_of, other_text, some_text}
use Rattle.nvme_words.proofs.laws.lines_ask_for.Goals as goal

is_loaded : (line : List Text) → one_of (codes "live") (given_at line).1 ≡ Some (codes "false") → SubmitsBy (given_at line).1 Loaded
is_loaded line is = other_text _ (codes "false") (codes "true") is refl

is_live : (line : List Text) → one_of (codes "live") (given_at line).1 ≡ Some (codes "true") → SubmitsBy (given_at line).1 Live
is_live line is = (some_text _ (codes "true") is, other_text _ (codes "true") (codes "false") is refl)

pub returns-clause-once : goal.returns-clause-once
unfolding clap_on_literals
returns-clause-once c = line_asks (codes "once") _ (given_at once_8) (request.Once 8) refl (refl, number_of 64 18446744073709551615 (codes "blocks") (codes "8") (given_at once_8).1 refl refl (omega arith)) (λ words e. tt) (λ p q r. (refl, refl))

pub returns-clause-most_blocks : goal.returns-clause-most_blocks
unfolding clap_on_literals
returns-clause-most_blocks c = line_asks (codes "once") _ (given_at once_most) (request.Once 9223372036854775807) refl (refl, number_of 64 18446744073709551615 (codes "blocks") (codes "9223372036854775807") (given_at once_most).1 refl refl (omega arith)) (λ words e. tt) (λ p q r. (refl, refl))

pub returns-clause-loaded : goal.returns-clause-loaded
unfolding clap_on_literals
returns-clause-loaded c = line_asks (codes "loaded") _ (given_at loaded_2) (request.Run Loaded 2) refl (inl (refl, refl), number_of 8 255 (codes "workers") (codes "2") (given_at loaded_2).1 refl refl (omega arith)) (λ words e. tt) (λ p q r. (refl, refl))

pub returns-clause-live : goal.returns-clause-live
unfolding clap_on_literals
returns-clause-live c = line_asks (codes "live") _ (given_at live_8) (request.Run Live 8) refl (inr (refl, refl), number_of 8 255 (codes "workers") (codes "8") (given_at live_8).1 refl refl (omega arith)) (λ words e. tt) (λ p q r. (refl, refl))

pub returns-clause-run : goal.returns-clause-run
unfolding clap_on_literals
returns-clause-run c = line_asks (codes "run") _ (given_at run_file) (request.RunFile Loaded 1) refl (refl, is_loaded run_file refl, number_of 8 255 (codes "workers") (codes "1") (given_at run_file).1 refl refl (omega arith)) (λ words e. tt) (λ p q r. (refl, refl))

pub returns-clause-run_live : goal.returns-clause-run_live
unfolding clap_on_literals
returns-clause-run_live c = line_asks (codes "run") _ (given_at run_live_3) (request.RunFile Live 3) refl (refl, is_live run_live_3 refl, number_of 8 255 (codes "workers") (codes "3") (given_at run_live_3).1 refl refl (omega arith)) (λ words e. tt) (λ p q r. (refl, refl))

pub returns-clause-lint : goal.returns-clause-lint
unfolding clap_on_literals
returns-clause-lint c = line_asks (codes "lint") _ (given_at lint_input) (request.Lint) refl refl (λ words e. tt) (λ p q r. (refl, refl))

pub returns-clause-expand : goal.returns-clause-expand
unfolding clap_on_literals
returns-clause-expand c = line_asks (codes "expand") _ (given_at expand_file) (request.Expand) refl refl (λ words e. tt) (λ p q r. (refl, refl))

pub returns-clause-check : goal.returns-clause-check
unfolding clap_on_literals
returns-clause-check c = line_asks (codes "check") _ (given_at (alone (codes "check"))) (request.Check) refl (refl, other_text (first_of (codes "spec") (given_at (alone (codes "check"))).1) (codes "false") (codes "true") refl refl, other_text (first_of (codes "all") (given_at (alone (codes "check"))).1) (codes "false") (codes "true") refl refl) (λ words e. tt) (λ p q r. (refl, refl))

pub returns-clause-check_file : goal.returns-clause-check_file
unfolding clap_on_literals
returns-clause-check_file c = line_asks (codes "check") _ (given_at check_file) (request.Check) refl (refl, other_text (first_of (codes "spec") (given_at check_file).1) (codes "false") (codes "true") refl refl, other_text (first_of (codes "all") (given_at check_file).1) (codes "false") (codes "true") refl refl) (λ words e. tt) (λ p q r. (refl, refl))

pub returns-clause-check_format : goal.returns-clause-check_format
unfolding clap_on_literals
returns-clause-check_format c = line_asks (codes "check") _ (given_at check_format) (request.Check) refl (refl, other_text (first_of (codes "spec") (given_at check_format).1) (codes "false") (codes "true") refl refl, other_text (first_of (codes "all") (given_at check_format).1) (codes "false") (codes "true") refl refl) (λ words e. tt) (λ p q r. (refl, refl))

-- a check with an option isn't one alone
not_alone : (a b : Text) (words : List (String Global)) → map string_bytes words ≡ codes "nvmearb" ∷ codes "check" ∷ a ∷ b ∷ [] → asks_alone (codes "check") words ≡ false
not_alone a b [] e = cc
not_alone a b (w ∷ []) e = cc
not_alone a b (w ∷ x ∷ []) e = cc
not_alone a b (w ∷ x ∷ y ∷ []) e = cc
not_alone a b (w ∷ x ∷ y ∷ z ∷ zs) e = refl

pub returns-clause-check_spec : goal.returns-clause-check_spec
unfolding clap_on_literals
returns-clause-check_spec c = line_asks (codes "check") _ (given_at check_spec) (request.CheckSpec) refl (refl, refl, other_text (first_of (codes "all") (given_at check_spec).1) (codes "false") (codes "true") refl refl) (not_alone (codes "--spec") (codes "a.json")) (λ p q r. (refl, refl))

pub returns-clause-check_all : goal.returns-clause-check_all
unfolding clap_on_literals
returns-clause-check_all c = line_asks (codes "check") _ (given_at check_all) (request.CheckAll) refl (refl, other_text (first_of (codes "spec") (given_at check_all).1) (codes "false") (codes "true") refl refl, refl) (not_alone (codes "a.json") (codes "--all")) (λ p q r. (refl, refl))

pub returns-clause-check_all_spec : goal.returns-clause-check_all_spec
unfolding clap_on_literals
returns-clause-check_all_spec c = line_asks (codes "check") _ (given_at check_all_spec) (request.Unfit unfit.AllOfSpec) refl (refl, refl, refl) (not_alone (codes "--all") (codes "--spec")) (λ p q r. (refl, refl))

pub returns-clause-trace : goal.returns-clause-trace
unfolding clap_on_literals
returns-clause-trace c = line_asks (codes "trace") _ (given_at trace_2) (request.Trace Loaded 2) refl (refl, is_loaded trace_2 refl, number_of 8 255 (codes "workers") (codes "2") (given_at trace_2).1 refl refl (omega arith)) (λ words e. tt) (λ p q r. (refl, refl))

pub returns-clause-trace_live : goal.returns-clause-trace_live
unfolding clap_on_literals
returns-clause-trace_live c = line_asks (codes "trace") _ (given_at trace_live) (request.Trace Live 1) refl (refl, is_live trace_live refl, number_of 8 255 (codes "workers") (codes "1") (given_at trace_live).1 refl refl (omega arith)) (λ words e. tt) (λ p q r. (refl, refl))

-- the range that a line gives
range_given : (line : List Text) (f t : Text) → one_of (codes "from") (given_at line).1 ≡ Some f → one_of (codes "to") (given_at line).1 ≡ Some t
    → accepts false (vp.Unsigned 0 18446744073709551615) f ≡ true → accepts false (vp.Unsigned 0 18446744073709551615) t ≡ true
    → IsRange (given_at line).1 (record { first = digits_value 10 (without_leading_plus f); last = digits_value 10 (without_leading_plus t) })
range_given line f t first last one two = (
  number_of 64 18446744073709551615 (codes "from") f (given_at line).1 first one (omega arith),
  number_of 64 18446744073709551615 (codes "to") t (given_at line).1 last two (omega arith),
)

-- a line without the flag draws the admin queue
with_admin : (line : List Text) → first_of (codes "no-admin") (given_at line).1 ≡ Some (codes "false") → IsFlag (codes "no-admin") (given_at line).1 false
with_admin line is = other_text (first_of (codes "no-admin") (given_at line).1) (codes "false") (codes "true") is refl

pub returns-clause-chart_no_admin : goal.returns-clause-chart_no_admin
unfolding clap_on_literals
returns-clause-chart_no_admin c = line_asks (codes "chart") _ (given_at chart_no_admin) (request.Chart (all_drawn true)) refl
    (refl, (range_given chart_no_admin (codes "1") (codes "9223372036854775807") refl refl refl refl, refl), omega arith) (λ words e. tt) (λ p q r. (refl, refl))

pub returns-clause-chart : goal.returns-clause-chart
unfolding clap_on_literals
returns-clause-chart c = line_asks (codes "chart") _ (given_at chart_file) (request.Chart (all_drawn false)) refl
    (refl, (range_given chart_file (codes "1") (codes "9223372036854775807") refl refl refl refl, with_admin chart_file refl), omega arith) (λ words e. tt) (λ p q r. (refl, refl))

pub returns-clause-chart_output : goal.returns-clause-chart_output
unfolding clap_on_literals
returns-clause-chart_output c = line_asks (codes "chart") _ (given_at chart_output) (request.Chart (all_drawn false)) refl
    (refl, (range_given chart_output (codes "1") (codes "9223372036854775807") refl refl refl refl, with_admin chart_output refl), omega arith) (λ words e. tt) (λ p q r. (refl, refl))

pub returns-clause-chart_one_pick : goal.returns-clause-chart_one_pick
unfolding clap_on_literals
returns-clause-chart_one_pick c = line_asks (codes "chart") _ (given_at chart_one_pick) (request.Chart (record { range = record { first = 10; last = 10 }; no_admin = false })) refl
    (refl, (range_given chart_one_pick (codes "10") (codes "10") refl refl refl refl, with_admin chart_one_pick refl), omega arith) (λ words e. tt) (λ p q r. (refl, refl))

pub returns-clause-chart_behind : goal.returns-clause-chart_behind
unfolding clap_on_literals
returns-clause-chart_behind c = line_asks (codes "chart") _ (given_at chart_behind) (request.Unfit (unfit.Behind (record { first = 10; last = 9 }))) refl
    (omega arith, inl (refl, range_given chart_behind (codes "10") (codes "9") refl refl refl refl)) (λ words e. tt) (λ p q r. (refl, refl))

pub returns-clause-stats_behind : goal.returns-clause-stats_behind
unfolding clap_on_literals
returns-clause-stats_behind c = line_asks (codes "stats") _ (given_at stats_behind) (request.Unfit (unfit.Behind (record { first = 10; last = 5 }))) refl (
  omega arith,
  inr (
    refl,
    record { range = record { first = 10; last = 5 }; window = 0; backlogged = false; format = format.Text },
    (
      range_given stats_behind (codes "10") (codes "5") refl refl refl refl,
      number_of 64 18446744073709551615 (codes "window") (codes "0") (given_at stats_behind).1 refl refl (omega arith),
      other_text (first_of (codes "backlogged") (given_at stats_behind).1) (codes "false") (codes "true") refl refl,
      (
        other_text (first_of (codes "format") (given_at stats_behind).1) (codes "text") (codes "json") refl refl,
        other_text (first_of (codes "format") (given_at stats_behind).1) (codes "text") (codes "csv") refl refl,
      ),
    ),
    refl,
  ),
) (λ words e. tt) (λ p q r. (refl, refl))

pub returns-clause-stats : goal.returns-clause-stats
unfolding clap_on_literals
returns-clause-stats c = line_asks (codes "stats") _ (given_at (alone (codes "stats"))) (request.Stats (all_numbers format.Text)) refl (
  refl,
  (
    range_given (alone (codes "stats")) (codes "1") (codes "9223372036854775807") refl refl refl refl,
    number_of 64 18446744073709551615 (codes "window") (codes "0") (given_at (alone (codes "stats"))).1 refl refl (omega arith),
    other_text (first_of (codes "backlogged") (given_at (alone (codes "stats"))).1) (codes "false") (codes "true") refl refl,
    (
      other_text (first_of (codes "format") (given_at (alone (codes "stats"))).1) (codes "text") (codes "json") refl refl,
      other_text (first_of (codes "format") (given_at (alone (codes "stats"))).1) (codes "text") (codes "csv") refl refl,
    ),
  ),
  omega arith,
) (λ words e. tt) (λ p q r. (refl, refl))

pub returns-clause-stats_json : goal.returns-clause-stats_json
unfolding clap_on_literals
returns-clause-stats_json c = line_asks (codes "stats") _ (given_at stats_json) (request.Stats (all_numbers format.Json)) refl (
  refl,
  (
    range_given stats_json (codes "1") (codes "9223372036854775807") refl refl refl refl,
    number_of 64 18446744073709551615 (codes "window") (codes "0") (given_at stats_json).1 refl refl (omega arith),
    other_text (first_of (codes "backlogged") (given_at stats_json).1) (codes "false") (codes "true") refl refl,
    refl,
  ),
  omega arith,
) (λ words e. tt) (λ p q r. (refl, refl))

pub returns-clause-stats_part : goal.returns-clause-stats_part
unfolding clap_on_literals
returns-clause-stats_part c = line_asks (codes "stats") _ (given_at stats_part)
    (request.Stats (record { range = record { first = 2; last = 9 }; window = 3; backlogged = true; format = format.Csv })) refl (
      refl,
      (
        range_given stats_part (codes "2") (codes "9") refl refl refl refl,
        number_of 64 18446744073709551615 (codes "window") (codes "3") (given_at stats_part).1 refl refl (omega arith),
        refl,
        refl,
      ),
      omega arith,
    ) (λ words e. tt) (λ p q r. (refl, refl))

pub returns-clause-settings_dword : goal.returns-clause-settings_dword
unfolding clap_on_literals
returns-clause-settings_dword c =
    line_asks (codes "settings") _ (given_at settings_dword) (request.Settings (Ok 0x0703_0103)) refl (refl, refl) (λ words e. tt) (λ p q r. (refl, refl))

pub returns-clause-settings_words : goal.returns-clause-settings_words
unfolding clap_on_literals
returns-clause-settings_words c =
    line_asks (codes "settings") _ (given_at settings_words) (request.Settings (Ok 0x0703_0103)) refl (refl, refl) (λ words e. tt) (λ p q r. (refl, refl))

pub returns-clause-settings_both : goal.returns-clause-settings_both
unfolding clap_on_literals
returns-clause-settings_both c =
    line_asks (codes "settings") _ (given_at settings_both) (request.Settings (Err said.Both)) refl (refl, refl) (λ words e. tt) (λ p q r. (refl, refl))
